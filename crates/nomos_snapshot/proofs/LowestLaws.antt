-- The lines of a process begin with the one of its lowest variable.
use Rattle.std.proofs.Common.{◌≡◌, ◌≢◌, ℕ, ◌<◌, List, [], ◌∷◌, ◌++◌, map, All, Ordering, Less, Equal, Greater, refl, ap, sym, ◌∙◌, inl, inr, arith}
use Rattle.std.specs.Ordering.{match_ordering}
use Rattle.std.specs.Map.{keys_of}
use Rattle.std.specs.List.{AllByRecursion}
use Rattle.std.proofs.lemmas.Bool.{cases_lt}
use Rattle.std.proofs.lemmas.Cmp.{ranked}
use Rattle.std.proofs.lemmas.List.{append_assoc}
use Rattle.std.proofs.lemmas.Map.Keys.{sorted_head}
use Rattle.std.proofs.lemmas.List.Elements.{All-append, All-cons, All-head, All-map, All-nil, All-tail, All-weaker}
use Rattle.nomos_ir.specs.Bindings.{IsAscending, bind, bindings_of, by_number}
use Rattle.nomos_ir.specs.Value.{Value}
use Rattle.nomos_ir.specs.declared.ids.VarId.{VarId}
use Rattle.nomos_machine.specs.declared.object.PotentialList.{PotentialList}
use Rattle.nomos_snapshot.specs.declared.line.SnapshotLine.{SnapshotLine}
use Rattle.nomos_snapshot.specs.mirror.Remaining.{AreApart, AreLeft}
use Rattle.nomos_snapshot.proofs.VariableLaws.{channel_pair, list_pair, value_pair}

module _ {X : Type 0} where
  -- all variables are above this one
  abbrev pub AreAbove : ℕ → List (VarId × X) → Type 0
  AreAbove v b = All (λ e. v < e.0.0) b

  placed-above : (n : ℕ) (v : VarId) (x : X) (e : VarId × X) (b : List (VarId × X)) (o : Ordering) → n < v.0
      → AreAbove n (e ∷ b) → AreAbove n (bind v x b)
      → AreAbove n (match_ordering o ((v, x) ∷ e ∷ b) ((e.0, x) ∷ b) (e ∷ bind v x b))
  placed-above n v x e b Less above all rest = All-cons (λ p. n < p.0.0) (v, x) (e ∷ b) above all
  placed-above n v x e b Equal above all rest =
      All-cons (λ p. n < p.0.0) (e.0, x) b (All-head (λ p. n < p.0.0) e b all) (All-tail (λ p. n < p.0.0) e b all)
  placed-above n v x e b Greater above all rest =
      All-cons (λ p. n < p.0.0) e (bind v x b) (All-head (λ p. n < p.0.0) e b all) rest

  bind-above : (n : ℕ) (v : VarId) (x : X) (b : List (VarId × X)) → n < v.0 → AreAbove n b → AreAbove n (bind v x b)
  bind-above n v x [] above all = All-cons (λ p. n < p.0.0) (v, x) [] above all
  bind-above n v x (e ∷ b) above all =
      placed-above n v x e b (by_number v e.0) above all
      (bind-above n v x b above (All-tail (λ p. n < p.0.0) e b all))

  bindings-above : (n : ℕ) (ps : List (VarId × X)) → AreAbove n ps → AreAbove n (bindings_of ps)
  bindings-above n [] all = all
  bindings-above n (p ∷ ps) all =
      bind-above n p.0 p.1 (bindings_of ps) (All-head (λ p. n < p.0.0) p ps all)
      (bindings-above n ps (All-tail (λ p. n < p.0.0) p ps all))

  -- what is below all comes first
  placed-first : (v : VarId) (x : X) (e : VarId × X) (b : List (VarId × X)) (o : Ordering) → o ≡ by_number v e.0
      → v.0 < e.0.0 → match_ordering o ((v, x) ∷ e ∷ b) ((e.0, x) ∷ b) (e ∷ bind v x b) ≡ (v, x) ∷ e ∷ b
  placed-first v x e b Less order below = refl
  placed-first v x e b Equal order below =
      absurd (let same : v.0 ≡ e.0.0 = ranked v.0 e.0.0 Equal order in omega (arith, same, below))
  placed-first v x e b Greater order below =
      absurd (let more : e.0.0 < v.0 = ranked v.0 e.0.0 Greater order in omega (arith, more, below))

  bind-first : (v : VarId) (x : X) (b : List (VarId × X)) → AreAbove v.0 b → bind v x b ≡ (v, x) ∷ b
  bind-first v x [] above = refl
  bind-first v x (e ∷ b) above =
      placed-first v x e b (by_number v e.0) refl (All-head (λ p. v.0 < p.0.0) e b above)

  -- what is above the first is bound behind it
  placed-behind : (v : VarId) (x : X) (e : VarId × X) (b : List (VarId × X)) (o : Ordering) → o ≡ by_number v e.0
      → e.0.0 < v.0 → match_ordering o ((v, x) ∷ e ∷ b) ((e.0, x) ∷ b) (e ∷ bind v x b) ≡ e ∷ bind v x b
  placed-behind v x e b Less order above =
      absurd (let less : v.0 < e.0.0 = ranked v.0 e.0.0 Less order in omega (arith, less, above))
  placed-behind v x e b Equal order above =
      absurd (let same : v.0 ≡ e.0.0 = ranked v.0 e.0.0 Equal order in omega (arith, same, above))
  placed-behind v x e b Greater order above = refl

  -- so a variable that is below all others comes first in the map, wherever it stands among the pairs
  pub bindings-first : (e : VarId × X) (ps qs : List (VarId × X)) → AreAbove e.0.0 ps → AreAbove e.0.0 qs
      → bindings_of (ps ++ e ∷ qs) ≡ e ∷ bindings_of (ps ++ qs)
  bindings-first e [] qs first above = bind-first e.0 e.1 (bindings_of qs) (bindings-above e.0.0 qs above)
  bindings-first e (p ∷ ps) qs first above =
      ap (λ (b : List (VarId × X)). bind p.0 p.1 b)
      (bindings-first e ps qs (All-tail (λ p. e.0.0 < p.0.0) p ps first) above)
      ∙ placed-behind p.0 p.1 e (bindings_of (ps ++ qs)) (by_number p.0 e.0) refl
      (All-head (λ p. e.0.0 < p.0.0) p ps first)

-- ---- the lines that are left of a process

-- values, lists and channels that are left, each with its line
abbrev pub left_pairs : List (VarId × Value) → List (VarId × PotentialList) → List (VarId × ℕ)
    → List (VarId × SnapshotLine)
left_pairs values lists channels =
    map value_pair values ++ (map list_pair lists ++ map channel_pair channels)

pub value-first : (e : VarId × Value) (values : List (VarId × Value)) (lists : List (VarId × PotentialList))
    (channels : List (VarId × ℕ)) → AreAbove e.0.0 values → AreAbove e.0.0 lists → AreAbove e.0.0 channels
    → bindings_of (left_pairs (e ∷ values) lists channels) ≡ value_pair e ∷ bindings_of
    (left_pairs values lists channels)
value-first e values lists channels a b c =
    bindings-first (value_pair e) [] (left_pairs values lists channels) (All-nil (λ p. e.0.0 < p.0.0))
    (All-append (λ p. e.0.0 < p.0.0) (map value_pair values) (map list_pair lists ++ map channel_pair channels)
    (All-map (λ p. e.0.0 < p.0.0) value_pair values a)
    (All-append (λ p. e.0.0 < p.0.0) (map list_pair lists) (map channel_pair channels)
    (All-map (λ p. e.0.0 < p.0.0) list_pair lists b) (All-map (λ p. e.0.0 < p.0.0) channel_pair channels c)))

pub list-first : (e : VarId × PotentialList) (values : List (VarId × Value)) (lists : List (VarId × PotentialList))
    (channels : List (VarId × ℕ)) → AreAbove e.0.0 values → AreAbove e.0.0 lists → AreAbove e.0.0 channels
    → bindings_of (left_pairs values (e ∷ lists) channels) ≡ list_pair e ∷ bindings_of
    (left_pairs values lists channels)
list-first e values lists channels a b c =
    bindings-first (list_pair e) (map value_pair values) (map list_pair lists ++ map channel_pair channels)
    (All-map (λ p. e.0.0 < p.0.0) value_pair values a)
    (All-append (λ p. e.0.0 < p.0.0) (map list_pair lists) (map channel_pair channels)
    (All-map (λ p. e.0.0 < p.0.0) list_pair lists b) (All-map (λ p. e.0.0 < p.0.0) channel_pair channels c))

pub channel-first : (e : VarId × ℕ) (values : List (VarId × Value)) (lists : List (VarId × PotentialList))
    (channels : List (VarId × ℕ)) → AreAbove e.0.0 values → AreAbove e.0.0 lists → AreAbove e.0.0 channels
    → bindings_of (left_pairs values lists (e ∷ channels))
    ≡ channel_pair e ∷ bindings_of (left_pairs values lists channels)
channel-first e values lists channels a b c =
    ap bindings_of (sym (append_assoc (map value_pair values) (map list_pair lists)
    (channel_pair e ∷ map channel_pair channels)))
    ∙ bindings-first (channel_pair e) (map value_pair values ++ map list_pair lists) (map channel_pair channels)
    (All-append (λ p. e.0.0 < p.0.0) (map value_pair values) (map list_pair lists)
    (All-map (λ p. e.0.0 < p.0.0) value_pair values a) (All-map (λ p. e.0.0 < p.0.0) list_pair lists b))
    (All-map (λ p. e.0.0 < p.0.0) channel_pair channels c)
    ∙ ap (λ (ps : List (VarId × SnapshotLine)). channel_pair e ∷ bindings_of ps)
    (append_assoc (map value_pair values) (map list_pair lists) (map channel_pair channels))

-- ---- which variable is the lowest

-- the first of an ascending map is below the others
each-above : {X : Type 0} (e : VarId × X) (b : List (VarId × X))
    → AllByRecursion (λ v. by_number e.0 v ≡ Less) (keys_of b) → AreAbove e.0.0 b
each-above e [] all = All-nil (λ p. e.0.0 < p.0.0)
each-above e (p ∷ b) all =
    All-cons (λ q. e.0.0 < q.0.0) p b (ranked e.0.0 p.0.0 Less (sym all.0)) (each-above e b all.1)

pub above-others : {X : Type 0} (e : VarId × X) (b : List (VarId × X)) → IsAscending (e ∷ b) → AreAbove e.0.0 b
above-others e b ascending = each-above e b (sorted_head by_number e.0 (keys_of b) ascending)

above-lower : {X : Type 0} (m n : ℕ) (b : List (VarId × X)) → m < n → AreAbove n b → AreAbove m b
above-lower m n b below above =
    All-weaker (λ p. n < p.0.0) (λ p. m < p.0.0) (λ p h. omega (arith, h, below)) b above

pub above-all : {X : Type 0} (n : ℕ) (e : VarId × X) (b : List (VarId × X)) → n < e.0.0 → IsAscending (e ∷ b)
    → AreAbove n (e ∷ b)
above-all n e b below ascending =
    All-cons (λ p. n < p.0.0) e b below (above-lower n e.0.0 b below (above-others e b ascending))

first-apart : {X Y : Type 0} (e : VarId × X) (f : VarId × Y) (xs : List (VarId × X)) (ys : List (VarId × Y))
    → AreApart (e ∷ xs) (f ∷ ys) → e.0.0 ≢ f.0.0
first-apart e f xs ys apart =
    All-head (λ q. e.0.0 ≢ q.0.0) f ys (All-head (λ p. All (λ q. p.0.0 ≢ q.0.0) (f ∷ ys)) e xs apart)

-- the lower one of the first of two maps
data Lower {X Y : Type 0} : List (VarId × X) → List (VarId × Y) → Type 0 where
  neither : Lower [] []
  this : (e : VarId × X) (xs : List (VarId × X)) (ys : List (VarId × Y)) → AreAbove e.0.0 xs → AreAbove e.0.0 ys
      → Lower (e ∷ xs) ys
  that : (f : VarId × Y) (xs : List (VarId × X)) (ys : List (VarId × Y)) → AreAbove f.0.0 xs → AreAbove f.0.0 ys
      → Lower xs (f ∷ ys)

lower : {X Y : Type 0} (xs : List (VarId × X)) (ys : List (VarId × Y)) → IsAscending xs → IsAscending ys
    → AreApart xs ys
    → Lower xs ys
lower [] [] a b apart = neither
lower (e ∷ xs) [] a b apart = this e xs [] (above-others e xs a) (All-nil (λ p. e.0.0 < p.0.0))
lower [] (f ∷ ys) a b apart = that f [] ys (All-nil (λ p. f.0.0 < p.0.0)) (above-others f ys b)
lower (e ∷ xs) (f ∷ ys) a b apart = elim (cases_lt e.0.0 f.0.0) [
  | inl below ↦ this e xs (f ∷ ys) (above-others e xs a) (above-all e.0.0 f ys below b)
  | inr from ↦
      let other = first-apart e f xs ys apart in
      let below : f.0.0 < e.0.0 = omega (arith, from, other) in
      that f (e ∷ xs) ys (above-all f.0.0 e xs below a) (above-others f ys b)
]

-- the lowest variable that is left
pub data Lowest : List (VarId × Value) → List (VarId × PotentialList) → List (VarId × ℕ) → Type 0 where
  nothing : Lowest [] [] []
  lowest_value : (e : VarId × Value) (values : List (VarId × Value)) (lists : List (VarId × PotentialList))
      (channels : List (VarId × ℕ)) → AreAbove e.0.0 values → AreAbove e.0.0 lists → AreAbove e.0.0 channels
      → Lowest (e ∷ values) lists channels
  lowest_list : (e : VarId × PotentialList) (values : List (VarId × Value)) (lists : List (VarId × PotentialList))
      (channels : List (VarId × ℕ)) → AreAbove e.0.0 values → AreAbove e.0.0 lists → AreAbove e.0.0 channels
      → Lowest values (e ∷ lists) channels
  lowest_channel : (e : VarId × ℕ) (values : List (VarId × Value)) (lists : List (VarId × PotentialList))
      (channels : List (VarId × ℕ)) → AreAbove e.0.0 values → AreAbove e.0.0 lists → AreAbove e.0.0 channels
      → Lowest values lists (e ∷ channels)

lowest-of : (values : List (VarId × Value)) (lists : List (VarId × PotentialList)) (channels : List (VarId × ℕ))
    → Lower values lists → AreLeft values lists channels → Lowest values lists channels
lowest-of [] [] [] neither left = nothing
lowest-of [] [] (g ∷ channels) neither left =
    lowest_channel g [] [] channels (All-nil (λ p. g.0.0 < p.0.0)) (All-nil (λ p. g.0.0 < p.0.0))
    (above-others g channels left.channels_ascend)
lowest-of (e ∷ values) lists [] (this e2 values2 lists2 a b) left =
    lowest_value e values lists [] a b (All-nil (λ p. e.0.0 < p.0.0))
lowest-of (e ∷ values) lists (g ∷ channels) (this e2 values2 lists2 a b) left = elim (cases_lt e.0.0 g.0.0) [
  | inl below ↦ lowest_value e values lists (g ∷ channels) a b (above-all e.0.0 g channels below left.channels_ascend)
  | inr from ↦
      let other = first-apart e g values channels left.channels_apart in
      let below : g.0.0 < e.0.0 = omega (arith, from, other) in
      lowest_channel g (e ∷ values) lists channels (above-all g.0.0 e values below left.values_ascend)
      (above-lower g.0.0 e.0.0 lists below b) (above-others g channels left.channels_ascend)
]
lowest-of values (f ∷ lists) [] (that f2 values2 lists2 a b) left =
    lowest_list f values lists [] a b (All-nil (λ p. f.0.0 < p.0.0))
lowest-of values (f ∷ lists) (g ∷ channels) (that f2 values2 lists2 a b) left = elim (cases_lt f.0.0 g.0.0) [
  | inl below ↦ lowest_list f values lists (g ∷ channels) a b (above-all f.0.0 g channels below left.channels_ascend)
  | inr from ↦
      let other = first-apart f g lists channels left.both_apart in
      let below : g.0.0 < f.0.0 = omega (arith, from, other) in
      lowest_channel g values (f ∷ lists) channels (above-lower g.0.0 f.0.0 values below a)
      (above-all g.0.0 f lists below left.lists_ascend) (above-others g channels left.channels_ascend)
]

pub lowest : (values : List (VarId × Value)) (lists : List (VarId × PotentialList)) (channels : List (VarId × ℕ))
    → AreLeft values lists channels → Lowest values lists channels
lowest values lists channels left =
    lowest-of values lists channels (lower values lists left.values_ascend left.lists_ascend left.lists_apart) left
