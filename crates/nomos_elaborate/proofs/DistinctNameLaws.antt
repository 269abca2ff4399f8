-- Names that differ have numbers that differ, and names that are new one after the other differ.
use Rattle.std.proofs.Common.{◌≡◌, ◌≢◌, ℕ, suc, Bool, true, false, List, [], ◌∷◌, ◌++◌, map, All, AllPairs, Contains, refl, sym, ap, true≢false, ◌∙◌, arith}
use Rattle.std.specs.Prelude.{if◌then◌else◌}
use Rattle.std.proofs.lemmas.List.{get_or_default}
use Rattle.std.proofs.lemmas.List.Elements.{All-nil, All-cons, All-head, All-tail, All-weaker}
use Rattle.std.proofs.lemmas.List.Kept.{AllPairs-cons}
use Rattle.std.proofs.lemmas.List.Quantifiers.{all_pairs_push}
use Rattle.nomos_elaborate.proofs.NumberLaws.{is_among-Decides, number_of-injective, Grows, Grows-seen, is_among-seen}
use Rattle.nomos_elaborate.specs.Names.{Names, is_among, seen, number_of}
use Rattle.nomos_ir.specs.Naming.{AllDiffer}

-- no name stands twice
abbrev pub AllNamesDiffer : Names → Type 0
AllNamesDiffer names = AllPairs (λ m n. m ≢ n) names

-- what holds of each two items holds of the first and each other, and of each two others
pub pairs_first : {X : Type 0} (R : X → X → Type 0) (x : X) (xs : List X) → AllPairs R (x ∷ xs) → All (R x) xs
pairs_first R x xs h = λ k d within. h 0 (suc k) d (omega arith) (omega arith)

pub pairs_rest : {X : Type 0} (R : X → X → Type 0) (x : X) (xs : List X) → AllPairs R (x ∷ xs) → AllPairs R xs
pairs_rest R x xs h = λ i j d before within. h (suc i) (suc j) d (omega arith) (omega arith)

-- what holds of what items have holds of the items
all_of : {X Y : Type 0} (f : X → Y) (P : Y → Type 0) (xs : List X) → All P (map f xs) → All (λ x. P (f x)) xs
all_of f P [] h = All-nil (λ x. P (f x))
all_of f P (x ∷ xs) h =
    All-cons (λ y. P (f y)) x xs (All-head P (f x) (map f xs) h) (all_of f P xs (All-tail P (f x) (map f xs) h))

pub pairs_of : {X Y : Type 0} (f : X → Y) (R : Y → Y → Type 0) (xs : List X) → AllPairs R (map f xs)
    → AllPairs (λ x y. R (f x) (f y)) xs
pairs_of f R [] h = λ i j d before within. absurd (omega arith)
pairs_of f R (x ∷ xs) h =
    AllPairs-cons (λ y z. R (f y) (f z)) x xs (all_of f (R (f x)) xs (pairs_first R (f x) (map f xs) h))
    (pairs_of f R xs (pairs_rest R (f x) (map f xs) h))

-- no numbers differ, and so does one number
pub none_differ : AllDiffer []
none_differ = λ i j d before within. absurd (omega arith)

pub one_differs : (k : ℕ) → AllDiffer (k ∷ [])
one_differs k = λ i j d before within. absurd (omega arith)

-- the names that were seen differ, and a new one is the last of them
pub no_names_differ : AllNamesDiffer []
no_names_differ = λ i j d before within. absurd (omega arith)

pub seen-new : (names : Names) (n : List ℕ) → is_among names n ≡ false → seen names n ≡ names ++ n ∷ []
seen-new names n out = rw out

pub seen-differ : (names : Names) (n : List ℕ) → AllNamesDiffer names → AllNamesDiffer (seen names n)
seen-differ names n differ = by_cases (is_among names n) refl
  where
    by_cases : (b : Bool) → is_among names n ≡ b → AllNamesDiffer (if b then names else names ++ n ∷ [])
    by_cases true e = differ
    by_cases false e =
        all_pairs_push (λ k l. k ≢ l) names n differ
        (λ k d within same.
        let there : Contains names n = (k, within, get_or_default names k n d within ∙ same) in
        absurd (true≢false (sym ((is_among-Decides names n).1 there) ∙ e)))

-- these are the numbers of these names, which are among the names
pub data Numbered (names : Names) : List ℕ → Names → Type 0 where
  none : Numbered names [] []
  and_number : {k : ℕ} {n : List ℕ} {ks : List ℕ} {ns : Names} → is_among names n ≡ true → k ≡ number_of names n
      → Numbered names ks ns → Numbered names (k ∷ ks) (n ∷ ns)

pub Numbered-grows : {names more : Names} {ks : List ℕ} {ns : Names} → Grows names more → Numbered names ks ns
    → Numbered more ks ns
Numbered-grows g none = none
Numbered-grows g (and_number {n = n} a e h) = and_number (g.kept n a) (e ∙ sym (g.same n a)) (Numbered-grows g h)

pub Numbered-append : {names : Names} {ks js : List ℕ} {ns ms : Names} → Numbered names ks ns → Numbered names js ms
    → Numbered names (ks ++ js) (ns ++ ms)
Numbered-append none g = g
Numbered-append (and_number a e h) g = and_number a e (Numbered-append h g)

-- a name that was just seen, before names that are numbered later
pub Numbered-seen : {more : Names} {ks : List ℕ} {ns : Names} (names : Names) (n : List ℕ) → Grows (seen names n) more
    → Numbered more ks ns → Numbered more (number_of (seen names n) n ∷ ks) (n ∷ ns)
Numbered-seen names n g h = and_number (g.kept n (is_among-seen names n)) (sym (g.same n (is_among-seen names n))) h

other_numbers : {names : Names} {ks : List ℕ} {ns : Names} (k : ℕ) (n : List ℕ) → is_among names n ≡ true
    → k ≡ number_of names n → Numbered names ks ns → All (λ m. n ≢ m) ns → All (λ j. k ≢ j) ks
other_numbers k n a e none h = All-nil (λ j. k ≢ j)
other_numbers {names} k n a e (and_number {k = j} {n = m} {ks = ks} {ns = ns} b d more) h =
    All-cons (λ i. k ≢ i) j ks
    (λ same. All-head (λ i. n ≢ i) m ns h (number_of-injective names n m a b (sym e ∙ same ∙ d)))
    (other_numbers k n a e more (All-tail (λ i. n ≢ i) m ns h))

-- the numbers of names that differ differ
pub Numbered-differ : {names : Names} {ks : List ℕ} {ns : Names} → Numbered names ks ns → AllNamesDiffer ns
    → AllDiffer ks
Numbered-differ none h = none_differ
Numbered-differ (and_number {k = k} {n = n} {ks = ks} {ns = ns} a e more) h =
    AllPairs-cons (λ i j. i ≢ j) k ks
    (other_numbers k n a e more (pairs_first (λ i j. i ≢ j) n ns h))
    (Numbered-differ more (pairs_rest (λ i j. i ≢ j) n ns h))

-- each name is new, behind those that were seen before it
abbrev pub AreNew : Names → Names → Type 0
AreNew before [] = Unit {0}
AreNew before (n ∷ names) = (is_among before n ≡ false) × AreNew (seen before n) names

-- a name that is not among more names is not among fewer
out_before : (before : Names) (n m : List ℕ) → is_among (seen before n) m ≡ false → is_among before m ≡ false
out_before before n m out = by_cases (is_among before m) refl
  where
    by_cases : (b : Bool) → is_among before m ≡ b → b ≡ false
    by_cases true e = absurd (true≢false (sym ((Grows-seen before n).kept m e) ∙ out))
    by_cases false e = refl

new-apart : (before names : Names) → AreNew before names → All (λ m. is_among before m ≡ false) names
new-apart before [] h = All-nil (λ m. is_among before m ≡ false)
new-apart before (n ∷ names) h =
    All-cons (λ m. is_among before m ≡ false) n names h.0
    (All-weaker (λ m. is_among (seen before n) m ≡ false) (λ m. is_among before m ≡ false) (out_before before n) names
    (new-apart (seen before n) names h.1))

-- such names differ
pub new-differ : (before names : Names) → AreNew before names → AllNamesDiffer names
new-differ before [] h = no_names_differ
new-differ before (n ∷ names) h =
    AllPairs-cons (λ i j. i ≢ j) n names
    (All-weaker (λ m. is_among (seen before n) m ≡ false) (λ m. n ≢ m)
    (λ m out same. absurd (true≢false (sym (is_among-seen before n) ∙ ap (is_among (seen before n)) same ∙ out))) names
    (new-apart (seen before n) names h.1))
    (new-differ (seen before n) names h.1)
