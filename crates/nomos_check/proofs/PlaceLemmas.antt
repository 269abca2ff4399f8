-- What is bound, found by its place.
use Rattle.std.proofs.Common.{◌≡◌, ◌<◌, ◌+◌, ℕ, cond, List, ◌∷◌, [], ◌++◌, length, get_or, take, drop, set, All, Some, None, Result, Ok, Err, Less, Equal, Greater, ap, sym, subst, refl, ◌∙◌, arith, ne_eqb, eq-eqb, add-one}
use Rattle.std.proofs.lemmas.Cmp.{ranked, nat_cmp_total}
use Rattle.std.proofs.lemmas.List.{take-append-drop, drop_more, set_split, get_or-take, get_or-drop, get_or-map, length-take-le, length-drop, length-map}
use Rattle.std.proofs.lemmas.List.Elements.{All-head, All-tail}
use Rattle.std.proofs.lemmas.List.Sorted.{searchable_from_sorted}
use Rattle.std.proofs.lemmas.Map.Keys.{Less-from_sorted}
use Rattle.std.specs.Cmp.{nat_cmp_is}
use Rattle.std.specs.List.{insert, remove}
use Rattle.std.specs.List.Sorted.{IsBinarySearchResult, IsSearchInRange, IsSortedBy}
use Rattle.std.specs.Map.{keys_of}
use Rattle.std.specs.Result.{OnOk, OnErr}
use Rattle.std.specs.Ordering.{match_ordering, nat_cmp, is_lt}
use Rattle.nomos_ir.specs.Bindings.{bound_to, bind, unbind, by_number, IsAscending}
use Rattle.nomos_ir.specs.declared.ids.VarId.{VarId}
use Rattle.nomos_ir.proofs.BindingLaws.{bind-ascending}
use Rattle.nomos_check.specs.mirror.VariablePlaces.{StandsAt, PartsAt, IsPlaceOf}

module _ {X : Type 0} (v : VarId) where
  abbrev Lower : VarId × X → Type 0
  Lower e = e.0.0 < v.0

  abbrev Higher : VarId × X → Type 0
  Higher e = v.0 < e.0.0

  -- what stands behind lower variables is found there
  bound-behind : (front back : List (VarId × X)) → All Lower front → bound_to v.0 (front ++ back) ≡ bound_to v.0 back
  bound-behind [] back lower = refl
  bound-behind (e ∷ front) back lower =
      let first : e.0.0 < v.0 = All-head Lower e front lower in
      ap (λ t. cond t (Some e.1) (bound_to v.0 (front ++ back))) (ne_eqb e.0.0 v.0 (omega arith))
      ∙ bound-behind front back (All-tail Lower e front lower)

  -- it is bound there
  bind-behind : (x : X) (front back : List (VarId × X)) → All Lower front
      → bind v x (front ++ back) ≡ front ++ bind v x back
  bind-behind x [] back lower = refl
  bind-behind x (e ∷ front) back lower =
      let first : e.0.0 < v.0 = All-head Lower e front lower in
      let rest = front ++ back in
      let above : by_number v e.0 ≡ Greater = sym (nat_cmp_is v.0 e.0.0 Greater first) in
      ap (λ o. match_ordering o ((v, x) ∷ e ∷ rest) ((e.0, x) ∷ rest) (e ∷ bind v x rest)) above
      ∙ ap (λ r. e ∷ r) (bind-behind x front back (All-tail Lower e front lower))

  -- and unbound there
  unbind-behind : (front back : List (VarId × X)) → All Lower front
      → unbind v.0 (front ++ back) ≡ front ++ unbind v.0 back
  unbind-behind [] back lower = refl
  unbind-behind (e ∷ front) back lower =
      let first : e.0.0 < v.0 = All-head Lower e front lower in
      let rest = front ++ back in
      ap (λ t. cond t rest (e ∷ unbind v.0 rest)) (ne_eqb e.0.0 v.0 (omega arith))
      ∙ ap (λ r. e ∷ r) (unbind-behind front back (All-tail Lower e front lower))

  -- higher variables do not bind it
  bound-before : (back : List (VarId × X)) → All Higher back → bound_to v.0 back ≡ None
  bound-before [] higher = refl
  bound-before (e ∷ back) higher =
      let first : v.0 < e.0.0 = All-head Higher e back higher in
      ap (λ t. cond t (Some e.1) (bound_to v.0 back)) (ne_eqb e.0.0 v.0 (omega arith))
      ∙ bound-before back (All-tail Higher e back higher)

  unbind-before : (back : List (VarId × X)) → All Higher back → unbind v.0 back ≡ back
  unbind-before [] higher = refl
  unbind-before (e ∷ back) higher =
      let first : v.0 < e.0.0 = All-head Higher e back higher in
      ap (λ t. cond t back (e ∷ unbind v.0 back)) (ne_eqb e.0.0 v.0 (omega arith))
      ∙ ap (λ r. e ∷ r) (unbind-before back (All-tail Higher e back higher))

  -- it is bound before them
  bind-before : (x : X) (back : List (VarId × X)) → All Higher back → bind v x back ≡ (v, x) ∷ back
  bind-before x [] higher = refl
  bind-before x (e ∷ back) higher =
      let first : v.0 < e.0.0 = All-head Higher e back higher in
      let below : by_number v e.0 ≡ Less = sym (nat_cmp_is v.0 e.0.0 Less first) in
      ap (λ o. match_ordering o ((v, x) ∷ e ∷ back) ((e.0, x) ∷ back) (e ∷ bind v x back)) below

  -- where it stands first, it is found, bound and unbound there
  bound-here : (e : VarId × X) (back : List (VarId × X)) → e.0.0 ≡ v.0 → bound_to v.0 (e ∷ back) ≡ Some e.1
  bound-here e back same = ap (λ t. cond t (Some e.1) (bound_to v.0 back)) (eq-eqb e.0.0 v.0 same)

  bind-here : (x : X) (e : VarId × X) (back : List (VarId × X)) → e.0.0 ≡ v.0 → bind v x (e ∷ back) ≡ (e.0, x) ∷ back
  bind-here x e back same =
      let equal : by_number v e.0 ≡ Equal = sym (nat_cmp_is v.0 e.0.0 Equal (sym same)) in
      ap (λ o. match_ordering o ((v, x) ∷ e ∷ back) ((e.0, x) ∷ back) (e ∷ bind v x back)) equal

  unbind-here : (e : VarId × X) (back : List (VarId × X)) → e.0.0 ≡ v.0 → unbind v.0 (e ∷ back) ≡ back
  unbind-here e back same = ap (λ t. cond t back (e ∷ unbind v.0 back)) (eq-eqb e.0.0 v.0 same)

  -- ---- by the place

  module _ (b : List (VarId × X)) (i : ℕ) where
    parted : (d : VarId × X) → i < length b → b ≡ take i b ++ (get_or b i d ∷ drop (i + 1) b)
    parted d within = sym (take-append-drop i b) ∙ ap (λ r. take i b ++ r) (drop_more b i d within)

    -- what it is bound to
    pub place-bound : (d : VarId × X) → StandsAt v b i → Some (get_or b i d).1 ≡ bound_to v.0 b
    place-bound d at =
        let back = get_or b i d ∷ drop (i + 1) b in
        sym (ap (bound_to v.0) (parted d at.within) ∙ bound-behind (take i b) back at.front ∙ bound-here
        (get_or b i d) (drop (i + 1) b) (at.here d))

    pub place-unbound : PartsAt v b i → None ≡ bound_to v.0 b
    place-unbound at =
        sym (ap (bound_to v.0) (sym (take-append-drop i b)) ∙ bound-behind (take i b)
        (drop i b) at.front ∙ bound-before (drop i b) at.back)

    -- how it is bound
    pub place-set : (d : VarId × X) (x : X) → StandsAt v b i → set b i ((get_or b i d).0, x) ≡ bind v x b
    place-set d x at =
        let e = get_or b i d in
        let rest = drop (i + 1) b in
        let made : set b i (e.0, x) ≡ take i b ++ ((e.0, x) ∷ rest) = rw add-one (set_split b i (e.0, x) at.within) in
        made ∙ sym (ap (bind v x) (parted d at.within) ∙ bind-behind x (take i b) (e ∷ rest) at.front ∙ ap
        (λ r. take i b ++ r) (bind-here x e rest (at.here d)))

    pub place-insert : (x : X) → PartsAt v b i → insert b i (v, x) ≡ bind v x b
    place-insert x at =
        sym (ap (bind v x) (sym (take-append-drop i b)) ∙ bind-behind x (take i b) (drop i b) at.front ∙ ap
        (λ r. take i b ++ r) (bind-before x (drop i b) at.back))

    -- how it is unbound
    pub place-remove : (d : VarId × X) → StandsAt v b i → remove b i ≡ unbind v.0 b
    place-remove d at =
        let e = get_or b i d in
        let rest = drop (i + 1) b in
        let made : remove b i ≡ take i b ++ rest = rw add-one refl in
        made ∙ sym (ap (unbind v.0) (parted d at.within) ∙ unbind-behind (take i b) (e ∷ rest) at.front ∙ ap
        (λ r. take i b ++ r) (unbind-here e rest (at.here d)))

    pub place-absent : PartsAt v b i → b ≡ unbind v.0 b
    place-absent at =
        sym (ap (unbind v.0) (sym (take-append-drop i b)) ∙ unbind-behind (take i b) (drop i b) at.front ∙ ap
        (λ r. take i b ++ r) (unbind-before (drop i b) at.back) ∙ take-append-drop i b)

  -- ---- what a binary search finds

  -- the variables rise with their places
  rises : (b : List (VarId × X)) (i j : ℕ) (d e : VarId × X) → IsAscending b → i < j → j < length b
      → (get_or b i d).0.0 < (get_or b j e).0.0
  rises b i j d e ascending lower within =
      let less = Less-from_sorted by_number (keys_of b) i j d.0 ascending lower (rw length-map within) in
      let first = get_or-map (λ (p : VarId × X). p.0) b i d d.0 (omega arith) in
      let second = get_or-map (λ (p : VarId × X). p.0) b j e d.0 within in
      let order : by_number (get_or b i d).0 (get_or b j e).0 ≡ Less = cc in
      ranked (get_or b i d).0.0 (get_or b j e).0.0 Less (sym order)

  -- so the pairs are sorted as a search needs it
  sorted : (b : List (VarId × X)) → IsAscending b → IsSortedBy (λ (e f : VarId × X). is_lt (nat_cmp e.0.0 f.0.0)) b
  sorted b ascending = λ k d from within.
      let rising : (get_or b k d).0.0 < (get_or b (k + 1) d).0.0 = rises b k (k + 1) d d ascending
      (omega arith) within in
      ap is_lt (sym (nat_cmp_is (get_or b (k + 1) d).0.0 (get_or b k d).0.0 Greater rising))

  -- what a search by the variable finds is its place
  pub place-found : (b : List (VarId × X)) (r : Result ℕ ℕ) → IsAscending b → IsSearchInRange r (length b)
      → IsBinarySearchResult (λ e. nat_cmp e.0.0 v.0) b r → IsPlaceOf v b r
  place-found b (Ok i) ascending within found =
      let here : (e : VarId × X) → (get_or b i e).0.0 ≡ v.0 = λ e. ranked (get_or b i e).0.0 v.0 Equal (sym
      (found e)) in
      record {
        within = within;
        front = λ k d before.
            let below : k < i = omega (arith, length-take-le i b (omega arith)) in
            let lower : (get_or b k d).0.0 < (get_or b i d).0.0 = rises b k i d d ascending below within in
            rw (get_or-take i b k d below) (omega (arith, here d));
        here = here;
      }
  place-found b (Err i) ascending within found =
      let rising = searchable_from_sorted nat_cmp_total (λ (e : VarId × X). e.0.0) b v.0 (sorted b ascending) in
      let parts = found rising in
      record {
        within = within;
        front = λ k d before.
            let below : k < i = omega (arith, length-take-le i b within) in
            rw (get_or-take i b k d below) (ranked (get_or b k d).0.0 v.0 Less (sym (parts.0 k d (omega arith) below)));
        back = λ k d behind.
            let below : i + k < length b = omega (arith, length-drop i b) in
            rw (get_or-drop i b k d) (ranked (get_or b (i + k) d).0.0 v.0 Greater (sym (parts.1 (i + k) d
            (omega arith) below)));
      }

-- pairs stay in order whether or not the variable was bound in them
pub put-ascending : {X T E : Type 0} (r : Result T E) (v : VarId) (x : X) (old new : List (VarId × X))
    → OnOk r (new ≡ bind v x old) → OnErr r (new ≡ old) → IsAscending old → IsAscending new
put-ascending {X = X} (Ok done) v x old new made kept ascending =
    subst (λ (l : List (VarId × X)). IsAscending l) (sym made) (bind-ascending v x old ascending)
put-ascending {X = X} (Err why) v x old new made kept ascending =
    subst (λ (l : List (VarId × X)). IsAscending l) (sym kept) ascending
