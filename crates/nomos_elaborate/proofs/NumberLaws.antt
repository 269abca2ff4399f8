-- The laws of numbering: which names are numbered, and that a number stays.
use Rattle.std.proofs.Common.{◌≡◌, ℕ, ◌<◌, Bool, true, false, ◌||◌, List, [], ◌∷◌, ◌++◌, length, Decides, Contains, refl, sym, ap, ◌∙◌, arith}
use Rattle.std.specs.Str.{bytes_eq}
use Rattle.std.proofs.lemmas.Slice.Eq.{bytes_eq-Decides}
use Rattle.std.proofs.lemmas.List.Folds.{list_any-append}
use Rattle.std.proofs.lemmas.Map.Made.{is_member-Decides}
use Rattle.nomos_elaborate.specs.Names.{Names, is_among, seen, number_of}

-- a name is equal to itself
pub bytes_eq_same : (n : List ℕ) → bytes_eq n n ≡ true
bytes_eq_same n = (bytes_eq-Decides n n).1 refl

-- equal names are one
pub same_bytes : (m n : List ℕ) → bytes_eq m n ≡ true → m ≡ n
same_bytes m n = (bytes_eq-Decides m n).0

-- the same test with its names the other way round
abbrev pub is_name : List ℕ → List ℕ → Bool
is_name n m = bytes_eq m n

pub is_name-Decides : (n m : List ℕ) → Decides (is_name n m) (n ≡ m)
is_name-Decides n m = (λ e. sym (same_bytes m n e), λ p. (bytes_eq-Decides m n).1 (sym p))

-- a name is among names exactly where they contain it
pub is_among-Decides : (names : Names) (n : List ℕ) → Decides (is_among names n) (Contains names n)
is_among-Decides names n = is_member-Decides {eq = is_name} is_name-Decides names n

-- a numbered name has a number below how many there are
pub number_of-lt : (names : Names) (n : List ℕ) → is_among names n ≡ true → number_of names n < length names
number_of-lt [] n among = cc
number_of-lt (m ∷ names) n among = go (bytes_eq m n) refl (number_of-lt names n)
  where
    go : (b : Bool) → bytes_eq m n ≡ b → (is_among names n ≡ true → number_of names n < length names)
        → number_of (m ∷ names) n < length (m ∷ names)
    go true e ih = rw e (omega arith)
    go false e ih = let h = ih (rw e at among) in rw e (omega arith)

-- two names of one number are one name
pub number_of-injective : (names : Names) (m n : List ℕ) → is_among names m ≡ true → is_among names n ≡ true
    → number_of names m ≡ number_of names n → m ≡ n
number_of-injective [] m n am an e = cc
number_of-injective (k ∷ names) m n am an e = go (bytes_eq k m) (bytes_eq k n) refl refl (number_of-injective names m n)
  where
    go : (b c : Bool) → bytes_eq k m ≡ b → bytes_eq k n ≡ c
        → (is_among names m ≡ true → is_among names n ≡ true → number_of names m ≡ number_of names n → m ≡ n) → m ≡ n
    go true true p q ih = sym (same_bytes k m p) ∙ same_bytes k n q
    go true false p q ih = let h = rw (p, q) at e in absurd (omega arith)
    go false true p q ih = let h = rw (p, q) at e in absurd (omega arith)
    go false false p q ih = let h = rw (p, q) at e in ih (rw p at am) (rw q at an) (omega arith)

-- names at the end change no earlier number
pub number_of-append : (names more : Names) (n : List ℕ) → is_among names n ≡ true
    → number_of (names ++ more) n ≡ number_of names n
number_of-append [] more n among = cc
number_of-append (m ∷ names) more n among = go (bytes_eq m n) refl (number_of-append names more n)
  where
    go : (b : Bool) → bytes_eq m n ≡ b → (is_among names n ≡ true → number_of (names ++ more) n ≡ number_of names n)
        → number_of (m ∷ names ++ more) n ≡ number_of (m ∷ names) n
    go true e ih = rw e refl
    go false e ih = let h = ih (rw e at among) in rw e (omega arith)

-- a name is among more names where it is among the first of them
pub is_among-append_left : (names more : Names) (n : List ℕ) → is_among names n ≡ true
    → is_among (names ++ more) n ≡ true
is_among-append_left names more n among = list_any-append (is_name n) names more ∙ ap (λ b. b || is_among more n) among

pub is_among-append_right : (names more : Names) (n : List ℕ) → is_among more n ≡ true
    → is_among (names ++ more) n ≡ true
is_among-append_right names more n among =
    list_any-append (is_name n) names more ∙ ap (λ b. is_among names n || b) among ∙ or_true (is_among names n)
  where
    or_true : (b : Bool) → (b || true) ≡ true
    or_true true = refl
    or_true false = refl

-- More names: each name that was numbered keeps its number.
pub record Grows (names more : Names) : Type 0 where
  pub kept : (n : List ℕ) → is_among names n ≡ true → is_among more n ≡ true
  pub same : (n : List ℕ) → is_among names n ≡ true → number_of more n ≡ number_of names n

pub Grows-same : (names : Names) → Grows names names
Grows-same names = record { kept = λ n h. h; same = λ n h. refl }

pub Grows-then : {a b c : Names} → Grows a b → Grows b c → Grows a c
Grows-then f g = record { kept = λ n h. g.kept n (f.kept n h); same = λ n h. g.same n (f.kept n h) ∙ f.same n h }

-- one more name seen
pub Grows-seen : (names : Names) (n : List ℕ) → Grows names (seen names n)
Grows-seen names n = go (is_among names n) refl
  where
    go : (b : Bool) → is_among names n ≡ b → Grows names (seen names n)
    go true e = rw e (Grows-same names)
    go false e =
        rw e (record {
          kept = λ m h. is_among-append_left names (n ∷ []) m h;
          same = λ m h. number_of-append names (n ∷ []) m h;
        })

-- a name that is seen is among the names from then on
pub is_among-seen : (names : Names) (n : List ℕ) → is_among (seen names n) n ≡ true
is_among-seen names n = go (is_among names n) refl
  where
    go : (b : Bool) → is_among names n ≡ b → is_among (seen names n) n ≡ true
    go true e = rw e e
    go false e = rw e (is_among-append_right names (n ∷ []) n (ap (λ b. b || false) (bytes_eq_same n)))
