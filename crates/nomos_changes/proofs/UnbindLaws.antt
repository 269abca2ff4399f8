-- What unbinding a variable does where it stands in a list of pairs.
use Rattle.std.proofs.Common.{◌≡◌, ◌<◌, ◌≤◌, ℕ, ◌+◌, ◌==◌, Bool, true, false, not, cond, nat_lt, one-add, List, [], ◌∷◌, length, get_or, Option, Some, None, refl, ap, arith, subst}
use Rattle.std.proofs.lemmas.Bool.{ltb-true, ltb-false}
use Rattle.std.specs.List.{remove, position, position_or_len}
use Rattle.nomos_ir.specs.Bindings.{bound_to, unbind}
use Rattle.nomos_ir.specs.declared.ids.VarId.{VarId}

module _ {X : Type 0} (v : ℕ) where
  -- how many pairs at the front have other variables
  abbrev before : List (VarId × X) → ℕ
  before b = position_or_len (λ e. e.0.0 == v) b

  -- what unbinding a variable does, where so many pairs stand before it
  abbrev UnboundAt : List (VarId × X) → ℕ → Type 0
  UnboundAt b n =
      (n < length b → unbind v b ≡ remove b n)
      × ((e : VarId × X) → n < length b → e ≡ get_or b n e → Some e.1 ≡ bound_to v b)
      × (length b ≤ n → unbind v b ≡ b)
      × (length b ≤ n → bound_to v b ≡ None)

  unbound-first : (h : VarId × X) (b : List (VarId × X)) (same : Bool) → UnboundAt b (before b)
      → let n = cond (not same) (1 + before b) 0 in
      (n < length (h ∷ b) → cond same b (h ∷ unbind v b) ≡ remove (h ∷ b) n)
      × ((e : VarId × X) → n < length (h ∷ b) → e ≡ get_or (h ∷ b) n e
      → Some e.1 ≡ cond same (Some h.1) (bound_to v b))
      × (length (h ∷ b) ≤ n → cond same b (h ∷ unbind v b) ≡ h ∷ b)
      × (length (h ∷ b) ≤ n → cond same (Some h.1) (bound_to v b) ≡ None)
  unbound-first h b true rest = (
    λ within. refl,
    λ e within read. ap (λ (p : VarId × X). Some p.1) read,
    λ past. absurd (omega arith),
    λ past. absurd (omega arith),
  )
  unbound-first h b false rest = (
    λ within. rw one-add (ap (λ (ps : List (VarId × X)). h ∷ ps) (rest.0 (omega arith))),
    λ e within read. rest.1 e (omega arith) (rw one-add at read),
    λ past. ap (λ (ps : List (VarId × X)). h ∷ ps) (rest.2 (omega arith)),
    λ past. rest.3 (omega arith),
  )

  unbound-at : (b : List (VarId × X)) → UnboundAt b (before b)
  unbound-at [] = (λ within. absurd (omega arith), λ e within read. absurd (omega arith), λ past. refl, λ past. refl)
  unbound-at (h ∷ b) = unbound-first h b (h.0.0 == v) (unbound-at b)

  -- where the variable stands, if it does
  abbrev place : List (VarId × X) → Option ℕ
  place b = position (λ e. e.0.0 == v) b

  none-told : (b : List (VarId × X)) (t : Bool) → nat_lt (before b) (length b) ≡ t
      → None ≡ cond t (Some (before b)) None → (unbind v b ≡ b) × (bound_to v b ≡ None)
  none-told b true within nowhere = cc
  none-told b false past nowhere =
      let le : length b ≤ before b = ltb-false (before b) (length b) past in
      let parts = unbound-at b in
      (parts.2 le, parts.3 le)

  pub unbind-nowhere : (b : List (VarId × X)) → None ≡ place b → (unbind v b ≡ b) × (bound_to v b ≡ None)
  unbind-nowhere b nowhere = none-told b (nat_lt (before b) (length b)) refl nowhere

  -- what unbinding it does at its place
  abbrev pub UnboundFrom : List (VarId × X) → ℕ → Type 0
  UnboundFrom b n =
      (n < length b) × (unbind v b ≡ remove b n) × ((e : VarId × X) → e ≡ get_or b n e → Some e.1 ≡ bound_to v b)

  some-told : (b : List (VarId × X)) (n : ℕ) (t : Bool) → nat_lt (before b) (length b) ≡ t
      → Some n ≡ cond t (Some (before b)) None → UnboundFrom b n
  some-told b n true within there =
      let at : before b ≡ n = cc in
      let lt : before b < length b = ltb-true (before b) (length b) within in
      let parts = unbound-at b in
      subst (λ (m : ℕ). UnboundFrom b m) at (lt, parts.0 lt, λ e read. parts.1 e lt read)
  some-told b n false past there = cc

  pub unbind-there : (b : List (VarId × X)) (n : ℕ) → Some n ≡ place b → UnboundFrom b n
  unbind-there b n there = some-told b n (nat_lt (before b) (length b)) refl there
