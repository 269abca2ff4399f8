-- The lists of two judgements and of an account: the same variables, with the same amounts of the text, counted in Dths
-- of two amounts. What binds and unbinds in one binds and unbinds in the others.
use Rattle.std.proofs.Common.{◌≡◌, ℕ, ◌==◌, ◌++◌, Bool, true, false, cond, List, [], ◌∷◌, Option, Some, None, Ordering, Less, Equal, Greater, refl, ap, sym, subst}
use Rattle.std.specs.List.{flat_map}
use Rattle.std.specs.List.Sorted.{IsStrictlySortedBy}
use Rattle.std.specs.Map.{keys_of}
use Rattle.std.specs.Ordering.{match_ordering}
use Rattle.nomos_ir.specs.declared.amount.Amount.{Amount}
use Rattle.nomos_ir.specs.declared.declaration.Par.{Par}
use Rattle.nomos_ir.specs.declared.ids.VarId.{VarId}
use Rattle.nomos_ir.specs.declared.kind.Kind.{Kind}
use Rattle.nomos_ir.specs.Bindings.{bound_to, bind, unbind, bindings_of, by_number, IsAscending}
use Rattle.nomos_types.specs.Amount.{Annotations, dths}
use Rattle.nomos_types.specs.Judgement.{ListType, count_one, list_par}
use Rattle.nomos_check.specs.Account.{carried_by}

-- a list whose elements carry an amount of the text
abbrev pub list_at : Annotations → Kind → Amount → ListType
list_at x kind r = record { kind = kind; amount = dths x r }

-- the same lists under both amounts, and what they carry
pub data CarryBoth (x y : Annotations) : List (VarId × ListType) → List (VarId × ListType) → List (VarId × Amount)
    → Type 0 where
  none : CarryBoth x y [] [] []
  list : {ls ms : List (VarId × ListType)} {rs : List (VarId × Amount)} → (v : VarId) (kind : Kind) (r : Amount)
      → CarryBoth x y ls ms rs
      → CarryBoth x y ((v, list_at x kind r) ∷ ls) ((v, list_at y kind r) ∷ ms) ((v, r) ∷ rs)

-- a list that is found on both sides, with what it carries
pub record FoundBoth (x y : Annotations) (v : ℕ) (l : ListType) (ms : List (VarId × ListType))
    (rs : List (VarId × Amount)) : Type 0 where
  pub amount : Amount
  pub carried : bound_to v rs ≡ Some amount
  pub worth : l.amount ≡ dths x amount
  pub other : bound_to v ms ≡ Some (list_at y l.kind amount)

-- the variable is found, where the test of the first one is known
found-at : (x y : Annotations) (kind : Kind) (r : Amount) (l : ListType) (o p : Option ListType) (q : Option Amount)
    (t : Bool) → (o ≡ Some l → (s : Amount) × (q ≡ Some s) × (l.amount ≡ dths x s) × (p ≡ Some (list_at y l.kind s)))
    → cond t (Some (list_at x kind r)) o ≡ Some l
    → (s : Amount) × (cond t (Some r) q ≡ Some s) × (l.amount ≡ dths x s)
    × (cond t (Some (list_at y kind r)) p ≡ Some (list_at y l.kind s))
found-at x y kind r l o p q true rest found =
    let same : l ≡ list_at x kind r = cc in
    (r, refl, ap (λ (k : ListType). k.amount) same, ap (λ (k : ListType). Some (list_at y k.kind r)) (sym same))
found-at x y kind r l o p q false rest found = rest found

-- as many lists have the variable, where the test of the first one is known
counted-at : (l m : ListType) (o p : Option ListType) (t : Bool) → count_one o ≡ count_one p
    → count_one (cond t (Some l) o) ≡ count_one (cond t (Some m) p)
counted-at l m o p true rest = refl
counted-at l m o p false rest = rest

module _ {x y : Annotations} where
  found : {ls ms : List (VarId × ListType)} {rs : List (VarId × Amount)} → (v : ℕ) (l : ListType)
      → CarryBoth x y ls ms rs → bound_to v ls ≡ Some l
      → (s : Amount) × (bound_to v rs ≡ Some s) × (l.amount ≡ dths x s) × (bound_to v ms ≡ Some (list_at y l.kind s))
  found v l none there = absurd cc
  found v l (list {ls} {ms} {rs} w kind r rest) there =
      found-at x y kind r l (bound_to v ls) (bound_to v ms) (bound_to v rs) (w.0 == v) (found v l rest) there

  -- a list of the one judgement is one of the other, and of the account
  pub found-both : {ls ms : List (VarId × ListType)} {rs : List (VarId × Amount)} → (v : ℕ) (l : ListType)
      → CarryBoth x y ls ms rs → bound_to v ls ≡ Some l → FoundBoth x y v l ms rs
  found-both v l both there =
      let f = found v l both there in
      record { amount = f.0; carried = f.1; worth = f.2; other = f.3 }

  -- as many lists have the variable
  pub counted-both : {ls ms : List (VarId × ListType)} {rs : List (VarId × Amount)} → (v : ℕ) → CarryBoth x y ls ms rs
      → count_one (bound_to v ls) ≡ count_one (bound_to v ms)
  counted-both v none = refl
  counted-both v (list {ls} {ms} w kind r rest) =
      counted-at (list_at x kind r) (list_at y kind r) (bound_to v ls) (bound_to v ms) (w.0 == v) (counted-both v rest)

  -- the variables are those of the account
  pub keys-both : {ls ms : List (VarId × ListType)} {rs : List (VarId × Amount)} → CarryBoth x y ls ms rs
      → keys_of ls ≡ keys_of rs
  keys-both none = refl
  keys-both (list v kind r rest) = ap (λ (vs : List VarId). v ∷ vs) (keys-both rest)

  -- so they ascend
  pub ascends-both : {ls ms : List (VarId × ListType)} {rs : List (VarId × Amount)} → CarryBoth x y ls ms rs
      → IsAscending ls → IsAscending rs
  ascends-both both ascends = subst (IsStrictlySortedBy by_number) (keys-both both) ascends

  -- a list is bound, by where its variable stands beside the first one
  placed-both : {ls ms : List (VarId × ListType)} {rs : List (VarId × Amount)} → (v w : VarId) (kind other : Kind)
      (r s : Amount) (o : Ordering) → CarryBoth x y ls ms rs
      → CarryBoth x y (bind v (list_at x kind r) ls) (bind v (list_at y kind r) ms) (bind v r rs)
      → CarryBoth x y
      (match_ordering o ((v, list_at x kind r) ∷ (w, list_at x other s) ∷ ls) ((w, list_at x kind r) ∷ ls)
      ((w, list_at x other s) ∷ bind v (list_at x kind r) ls))
      (match_ordering o ((v, list_at y kind r) ∷ (w, list_at y other s) ∷ ms) ((w, list_at y kind r) ∷ ms)
      ((w, list_at y other s) ∷ bind v (list_at y kind r) ms))
      (match_ordering o ((v, r) ∷ (w, s) ∷ rs) ((w, r) ∷ rs) ((w, s) ∷ bind v r rs))
  placed-both v w kind other r s Less rest more = list v kind r (list w other s rest)
  placed-both v w kind other r s Equal rest more = list w kind r rest
  placed-both v w kind other r s Greater rest more = list w other s more

  pub bind-both : {ls ms : List (VarId × ListType)} {rs : List (VarId × Amount)}
      → (v : VarId) (kind : Kind) (r : Amount)
      → CarryBoth x y ls ms rs
      → CarryBoth x y (bind v (list_at x kind r) ls) (bind v (list_at y kind r) ms) (bind v r rs)
  bind-both v kind r none = list v kind r none
  bind-both v kind r (list w other s rest) =
      placed-both v w kind other r s (by_number v w) rest (bind-both v kind r rest)

  -- a list is used up, where the test of the first variable is known
  dropped-both : {ls ms : List (VarId × ListType)} {rs : List (VarId × Amount)} → (v : ℕ) (w : VarId) (kind : Kind)
      (r : Amount) (t : Bool) → CarryBoth x y ls ms rs → CarryBoth x y (unbind v ls) (unbind v ms) (unbind v rs)
      → CarryBoth x y (cond t ls ((w, list_at x kind r) ∷ unbind v ls)) (cond t ms
      ((w, list_at y kind r) ∷ unbind v ms))
      (cond t rs ((w, r) ∷ unbind v rs))
  dropped-both v w kind r true rest more = rest
  dropped-both v w kind r false rest more = list w kind r more

  pub unbind-both : {ls ms : List (VarId × ListType)} {rs : List (VarId × Amount)} → (v : ℕ) → CarryBoth x y ls ms rs
      → CarryBoth x y (unbind v ls) (unbind v ms) (unbind v rs)
  unbind-both v none = none
  unbind-both v (list w kind r rest) = dropped-both v w kind r (w.0 == v) rest (unbind-both v rest)

  -- one more parameter is a list or not
  par-both : (v : VarId) (kind : Kind) (amount : Option Amount) (ls ms : List (VarId × ListType))
      (rs : List (VarId × Amount)) → CarryBoth x y (bindings_of ls) (bindings_of ms) (bindings_of rs)
      → CarryBoth x y (bindings_of (list_par x v kind amount ++ ls)) (bindings_of (list_par y v kind amount ++ ms))
      (bindings_of (carried_by v amount ++ rs))
  par-both v kind None ls ms rs rest = rest
  par-both v kind (Some r) ls ms rs rest = bind-both v kind r rest

  -- the lists with which a declaration starts
  pub start-both : (pars : List Par) → CarryBoth x y
      (bindings_of (flat_map (λ par. list_par x par.var par.kind par.amount) pars))
      (bindings_of (flat_map (λ par. list_par y par.var par.kind par.amount) pars))
      (bindings_of (flat_map (λ par. carried_by par.var par.amount) pars))
  start-both [] = none
  start-both (par ∷ pars) = par-both par.var par.kind par.amount _ _ _ (start-both pars)

  -- the lists on the second side beside themselves
  pub second-both : {ls ms : List (VarId × ListType)} {rs : List (VarId × Amount)} → CarryBoth x y ls ms rs
      → CarryBoth y y ms ms rs
  second-both none = none
  second-both (list v kind r rest) = list v kind r (second-both rest)

-- the two sides change places
pub both-back : {x y : Annotations} {ls ms : List (VarId × ListType)} {rs : List (VarId × Amount)}
    → CarryBoth x y ls ms rs → CarryBoth y x ms ls rs
both-back none = none
both-back (list v kind r rest) = list v kind r (both-back rest)
