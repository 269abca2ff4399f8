-- Where a variable stands in a list of pairs, and what binding it does there.
use Rattle.std.proofs.Common.{◌≡◌, ◌≢◌, ◌<◌, ◌≤◌, ℕ, ◌+◌, Bool, true, false, cond, nat_lt, one-add, List, [], ◌∷◌, ◌++◌, length, get_or, set, Ordering, Less, Equal, Greater, refl, sym, ap, ◌∙◌, arith}
use Rattle.std.proofs.lemmas.Bool.{ltb-true, ltb-false}
use Rattle.std.proofs.lemmas.List.{get_or_default}
use Rattle.std.specs.Cmp.{nat_cmp_is}
use Rattle.std.specs.List.{insert, prefix_len}
use Rattle.std.specs.Ordering.{match_ordering}
use Rattle.nomos_ir.specs.Bindings.{bind, bindings_of}
use Rattle.nomos_ir.specs.declared.ids.VarId.{VarId}

module _ {X : Type 0} (v : VarId) (x : X) where
  -- how many pairs at the front have lower variables
  abbrev pub below : List (VarId × X) → ℕ
  below b = prefix_len (λ e. nat_lt e.0.0 v.0) b

  -- the map after a binding, by where the variable stands beside the first one
  abbrev placed : VarId × X → List (VarId × X) → Ordering → List (VarId × X)
  placed h b o = match_ordering o ((v, x) ∷ h ∷ b) ((h.0, x) ∷ b) (h ∷ bind v x b)

  there-first : (h : VarId × X) (b : List (VarId × X)) (e : VarId × X) (lower : Bool) → nat_lt h.0.0 v.0 ≡ lower
      → (below b < length b → e ≡ get_or b (below b) e → set b (below b) (e.0, x) ≡ bind v x b)
      → cond lower (1 + below b) 0 < length (h ∷ b) → e ≡ get_or (h ∷ b) (cond lower (1 + below b) 0) e → e.0.0 ≡ v.0
      → set (h ∷ b) (cond lower (1 + below b) 0) (e.0, x) ≡ bind v x (h ∷ b)
  there-first h b e true lower rest within read same =
      let greater = nat_cmp_is v.0 h.0.0 Greater (ltb-true h.0.0 v.0 lower) in
      let behind = rw one-add at read in
      rw one-add (ap (λ (ps : List (VarId × X)). h ∷ ps) (rest (omega arith) behind) ∙ ap (placed h b) greater)
  there-first h b e false lower rest within read same =
      let first : e.0.0 ≡ h.0.0 = ap (λ (p : VarId × X). p.0.0) read in
      let equal = nat_cmp_is v.0 h.0.0 Equal (sym same ∙ first) in
      ap (λ (p : VarId × X). (p.0, x) ∷ b) read ∙ ap (placed h b) equal

  -- the variable is bound where it stands
  pub bind-there : (b : List (VarId × X)) (e : VarId × X) → below b < length b → e ≡ get_or b (below b) e → e.0.0 ≡ v.0
      → set b (below b) (e.0, x) ≡ bind v x b
  bind-there [] e within read same = absurd (omega arith)
  bind-there (h ∷ b) e within read same =
      there-first h b e (nat_lt h.0.0 v.0) refl (λ lt eq. bind-there b e lt eq same) within read same

  -- the pair that a place has, if there is one, is another variable's
  abbrev OtherAt : List (VarId × X) → ℕ → Type 0
  OtherAt b n = (e : VarId × X) → n < length b → e ≡ get_or b n e → e.0.0 ≢ v.0

  new-first : (h : VarId × X) (b : List (VarId × X)) (lower : Bool) → nat_lt h.0.0 v.0 ≡ lower
      → (OtherAt b (below b) → insert b (below b) (v, x) ≡ bind v x b)
      → OtherAt (h ∷ b) (cond lower (1 + below b) 0)
      → insert (h ∷ b) (cond lower (1 + below b) 0) (v, x) ≡ bind v x (h ∷ b)
  new-first h b true lower rest other =
      let greater = nat_cmp_is v.0 h.0.0 Greater (ltb-true h.0.0 v.0 lower) in
      let behind : OtherAt b (below b) = λ e lt eq. other e (omega arith) (rw one-add eq) in
      rw one-add (ap (λ (ps : List (VarId × X)). h ∷ ps) (rest behind) ∙ ap (placed h b) greater)
  new-first h b false lower rest other =
      let differs : h.0.0 ≢ v.0 = other h (omega arith) refl in
      let above : v.0 ≤ h.0.0 = ltb-false h.0.0 v.0 lower in
      let less = nat_cmp_is v.0 h.0.0 Less (omega arith) in
      ap (placed h b) less

  -- a variable that does not stand there is bound in a pair of its own
  pub bind-new : (b : List (VarId × X)) → OtherAt b (below b) → insert b (below b) (v, x) ≡ bind v x b
  bind-new [] other = refl
  bind-new (h ∷ b) other = new-first h b (nat_lt h.0.0 v.0) refl (bind-new b) other

  -- the same, of a pair that was read there twice
  pub bind-set : (b : List (VarId × X)) (n : ℕ) (e f : VarId × X) → n ≡ below b → n < length b → e ≡ get_or b n e
      → f ≡ get_or b n f → f.0.0 ≡ v.0 → set b n (e.0, x) ≡ bind v x b
  bind-set b n e f at within read again same =
      let alike : e ≡ f = read ∙ get_or_default b n e f within ∙ sym again in
      let first : e.0.0 ≡ v.0 = ap (λ (p : VarId × X). p.0.0) alike ∙ same in
      ap (λ (m : ℕ). set b m (e.0, x)) at
      ∙ bind-there b e (omega (arith, at)) (read ∙ ap (λ (m : ℕ). get_or b m e) at) first

  pub bind-insert : (b : List (VarId × X)) (n : ℕ) → n ≡ below b
      → ((e : VarId × X) → n < length b → e ≡ get_or b n e → e.0.0 ≢ v.0) → insert b n (v, x) ≡ bind v x b
  bind-insert b n at other =
      ap (λ (m : ℕ). insert b m (v, x)) at
      ∙ bind-new b
      (λ e within read. other e (omega (arith, at)) (read ∙ ap (λ (m : ℕ). get_or b m e) (sym at)))

-- ---- pairs that are bound from the last one on

-- these pairs are bound, the last one first
abbrev pub bound_onto : {X : Type 0} → List (VarId × X) → List (VarId × X) → List (VarId × X)
bound_onto [] b = b
bound_onto (p ∷ ps) b = bind p.0 p.1 (bound_onto ps b)

-- the last one is bound first
pub onto-last : {X : Type 0} (ps : List (VarId × X)) (p : VarId × X) (b : List (VarId × X))
    → bound_onto (ps ++ p ∷ []) b ≡ bound_onto ps (bind p.0 p.1 b)
onto-last [] p b = refl
onto-last (q ∷ ps) p b = ap (bind q.0 q.1) (onto-last ps p b)

pub onto-nothing : {X : Type 0} (ps : List (VarId × X)) → bound_onto ps [] ≡ bindings_of ps
onto-nothing [] = refl
onto-nothing (p ∷ ps) = ap (bind p.0 p.1) (onto-nothing ps)
