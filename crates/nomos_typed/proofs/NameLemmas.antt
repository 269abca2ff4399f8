-- The type of a name is found by a search among names in order.
use Rattle.std.proofs.Common.{◌≡◌, ◌<◌, ◌≤◌, ◌+◌, ◌==◌, ℕ, cond, Bool, ◌∷◌, [], ◌++◌, map, find, length, get_or, take, drop, All, Option, Some, None, Result, Ok, Err, Less, Equal, Greater, ap, sym, refl, ◌∙◌, arith, ne_eqb, eq-eqb}
use Rattle.std.proofs.lemmas.Cmp.{ranked, nat_cmp_total}
use Rattle.std.proofs.lemmas.List.{take-append-drop, drop_more, get_or-take, get_or-drop, get_or-map, length-take-le, length-drop, length-map}
use Rattle.std.proofs.lemmas.List.Elements.{All-head, All-tail}
use Rattle.std.proofs.lemmas.List.Sorted.{searchable_from_sorted}
use Rattle.std.proofs.lemmas.Map.Keys.{Less-from_sorted}
use Rattle.std.specs.Cmp.{nat_cmp_is}
use Rattle.std.specs.List.Sorted.{IsBinarySearchResult, IsSearchInRange, IsSortedBy}
use Rattle.std.specs.Option.{option_map}
use Rattle.std.specs.Ordering.{nat_cmp, is_lt}
use Rattle.nomos_ir.specs.declared.ids.TypeId.{TypeId}
use Rattle.nomos_machine.specs.State.{NameTypes, type_of}
use Rattle.nomos_typed.specs.mirror.ComparedWith.{AreInOrder, IsPlaceOf}

module _ (name : ℕ) where
  abbrev Lower : ℕ × TypeId → Type 0
  Lower e = e.0 < name

  abbrev Higher : ℕ × TypeId → Type 0
  Higher e = name < e.0

  abbrev first_of : ℕ × TypeId → Option (ℕ × TypeId) → Bool → Option TypeId
  first_of e o t = option_map (λ f. f.1) (cond t (Some e) o)

  -- what stands behind lower names is found there
  behind : (front back : NameTypes) → All Lower front → type_of (front ++ back) name ≡ type_of back name
  behind [] back lower = refl
  behind (e ∷ front) back lower =
      let first : e.0 < name = All-head Lower e front lower in
      ap (first_of e (find (λ t. t.0 == name) (front ++ back))) (ne_eqb e.0 name (omega arith))
      ∙ behind front back (All-tail Lower e front lower)

  -- higher names are others
  before : (back : NameTypes) → All Higher back → type_of back name ≡ None
  before [] higher = refl
  before (e ∷ back) higher =
      let first : name < e.0 = All-head Higher e back higher in
      ap (first_of e (find (λ t. t.0 == name) back)) (ne_eqb e.0 name (omega arith))
      ∙ before back (All-tail Higher e back higher)

  here : (e : ℕ × TypeId) (back : NameTypes) → e.0 ≡ name → type_of (e ∷ back) name ≡ Some e.1
  here e back same = ap (first_of e (find (λ t. t.0 == name) back)) (eq-eqb e.0 name same)

-- the names rise with their places
rises : (b : NameTypes) (i j : ℕ) (d e : ℕ × TypeId) → AreInOrder b → i < j → j < length b
    → (get_or b i d).0 < (get_or b j e).0
rises b i j d e ascending lower within =
    let keys = map (λ (t : ℕ × TypeId). t.0) b in
    let less = Less-from_sorted nat_cmp keys i j d.0 ascending lower (rw length-map within) in
    let first = get_or-map (λ (p : ℕ × TypeId). p.0) b i d d.0 (omega arith) in
    let second = get_or-map (λ (p : ℕ × TypeId). p.0) b j e d.0 within in
    let order : nat_cmp (get_or b i d).0 (get_or b j e).0 ≡ Less = cc in
    ranked (get_or b i d).0 (get_or b j e).0 Less (sym order)

sorted : (b : NameTypes) → AreInOrder b → IsSortedBy (λ (e f : ℕ × TypeId). is_lt (nat_cmp e.0 f.0)) b
sorted b ascending = λ k d from within.
    let rising : (get_or b k d).0 < (get_or b (k + 1) d).0 = rises b k (k + 1) d d ascending (omega arith) within in
    ap is_lt (sym (nat_cmp_is (get_or b (k + 1) d).0 (get_or b k d).0 Greater rising))

-- what is found is its type
type-found : (name : ℕ) (b : NameTypes) (i : ℕ) (d : ℕ × TypeId) → AreInOrder b → i < length b
    → IsBinarySearchResult (λ e. nat_cmp e.0 name) b (Ok i) → type_of b name ≡ Some (get_or b i d).1
type-found name b i d ascending within found =
    let same : (get_or b i d).0 ≡ name = ranked (get_or b i d).0 name Equal (sym (found d)) in
    let back = get_or b i d ∷ drop (i + 1) b in
    let parted : b ≡ take i b ++ back =
    sym (take-append-drop i b) ∙ ap (λ r. take i b ++ r) (drop_more b i d within) in
    let front : All (Lower name) (take i b) = λ k e low.
    let below : k < i = omega (arith, length-take-le i b (omega arith)) in
    let lower : (get_or b k e).0 < (get_or b i d).0 = rises b k i e d ascending below within in
    rw (get_or-take i b k e below) (omega (arith, same, lower)) in
    ap (λ (l : NameTypes). type_of l name) parted
    ∙ behind name (take i b) back front
    ∙ here name (get_or b i d) (drop (i + 1) b) same

-- and where nothing is found, it has none
type-none : (name : ℕ) (b : NameTypes) (i : ℕ) → AreInOrder b → i ≤ length b
    → IsBinarySearchResult (λ e. nat_cmp e.0 name) b (Err i) → type_of b name ≡ None
type-none name b i ascending within found =
    let rising = searchable_from_sorted nat_cmp_total (λ (e : ℕ × TypeId). e.0) b name (sorted b ascending) in
    let parts = found rising in
    let front : All (Lower name) (take i b) = λ k d low.
    let below : k < i = omega (arith, length-take-le i b within) in
    rw (get_or-take i b k d below) (ranked (get_or b k d).0 name Less (sym (parts.0 k d (omega arith) below))) in
    let back : All (Higher name) (drop i b) = λ k d high.
    let below : i + k < length b = omega (arith, length-drop i b) in
    rw (get_or-drop i b k d) (ranked (get_or b (i + k) d).0 name Greater (sym (parts.1 (i + k) d (omega arith) below)))
    in
    ap (λ (l : NameTypes). type_of l name) (sym (take-append-drop i b))
    ∙ behind name (take i b) (drop i b) front
    ∙ before name (drop i b) back

-- the place that a search finds
pub place-found : (name : ℕ) (b : NameTypes) (r : Result ℕ ℕ) → AreInOrder b → IsSearchInRange r (length b)
    → IsBinarySearchResult (λ e. nat_cmp e.0 name) b r → IsPlaceOf b name r
place-found name b (Ok i) ascending within found = (within, λ d. type-found name b i d ascending within found)
place-found name b (Err i) ascending within found = type-none name b i ascending within found
