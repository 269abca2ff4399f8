-- What becomes of the channels of a process, where names in the cells change.
use Rattle.std.proofs.Common.{◌≡◌, ◌≢◌, ◌∙◌, ◌&&◌, ℕ, Bool, true, false, cond, eqb, List, [], ◌∷◌, Some, None, refl, sym, ap, subst, inl, inr, eq-eqb, ne_eqb}
use Rattle.std.proofs.lemmas.Bool.{cases_eq}
use Rattle.std.specs.Option.{option_map}
use Rattle.std.specs.List.Sorted.{IsStrictlySortedBy}
use Rattle.std.specs.Map.{keys_of}
use Rattle.nomos_ir.specs.Bindings.{IsAscending, bind, bindings_of, bound_to, by_number, each_bound, unbind}
use Rattle.nomos_ir.specs.declared.ids.VarId.{VarId}
use Rattle.nomos_ir.proofs.BindingLaws.{ascending-same, bind-ascending, bindings_of-ascending, bound-after_bind, bound-after_bind_other, bound-after_unbind, bound-after_unbind_other, bound-in_bindings_of, unbind-ascending}
use Rattle.nomos_slots.specs.Cells.{Cell, name_in}
use Rattle.nomos_state.specs.Objects.{channels_of, entries_of}
use Rattle.nomos_state.proofs.ChannelLemmas.{bound-in_channels}

-- channels stand in ascending order
pub channels-ascending : (cells : List Cell) (p : ℕ) → IsAscending (channels_of cells p)
channels-ascending cells p = bindings_of-ascending (entries_of cells p)

-- a test of a process and a variable, where the process is known
pub own-test : (p q v w : ℕ) → p ≡ q → (eqb p q && eqb v w) ≡ eqb v w
own-test p q v w same = ap (λ b. b && eqb v w) (eq-eqb p q same)

pub other-test : (p q v w : ℕ) → p ≢ q → (eqb p q && eqb v w) ≡ false
other-test p q v w other = ap (λ b. b && eqb v w) (ne_eqb p q other)

-- the channels are this list, where it is in order and has the names
pub channels-are : (cells : List Cell) (p : ℕ) (b : List (VarId × ℕ)) → IsAscending b
    → ((w : ℕ) → name_in cells p w ≡ bound_to w b) → channels_of cells p ≡ b
channels-are cells p b ascending same =
    ascending-same (channels_of cells p) b (channels-ascending cells p) ascending
    (λ w. bound-in_channels cells p w ∙ same w)

module _ (before after : List Cell) (p : ℕ) (v : VarId) where
  -- one channel is bound
  pub channels-bound : (name : ℕ)
      → ((w : ℕ) → name_in after p w ≡ cond (eqb p p && eqb v.0 w) (Some name) (name_in before p w))
      → channels_of after p ≡ bind v name (channels_of before p)
  channels-bound name names =
      let b = channels_of before p in
      channels-are after p (bind v name b) (bind-ascending v name b (channels-ascending before p))
      (λ w.
      names w
      ∙ ap (λ t. cond t (Some name) (name_in before p w)) (own-test p p v.0 w refl)
      ∙ elim (cases_eq w v.0) [
        | inl same ↦
            ap (λ t. cond t (Some name) (name_in before p w)) (eq-eqb v.0 w (sym same))
            ∙ sym (ap (λ i. bound_to i (bind v name b)) same ∙ bound-after_bind v name b)
        | inr other ↦
            ap (λ t. cond t (Some name) (name_in before p w)) (ne_eqb v.0 w (λ same. other (sym same)))
            ∙ sym (bound-after_bind_other w v name b other ∙ bound-in_channels before p w)
      ])

  -- one is bound no more
  pub channels-unbound : ((w : ℕ) → name_in after p w ≡ cond (eqb p p && eqb v.0 w) None (name_in before p w))
      → channels_of after p ≡ unbind v.0 (channels_of before p)
  channels-unbound names =
      let b = channels_of before p in
      let ascending = channels-ascending before p in
      channels-are after p (unbind v.0 b) (unbind-ascending v.0 b ascending)
      (λ w.
      names w
      ∙ ap (λ t. cond t None (name_in before p w)) (own-test p p v.0 w refl)
      ∙ elim (cases_eq w v.0) [
        | inl same ↦
            ap (λ t. cond t None (name_in before p w)) (eq-eqb v.0 w (sym same))
            ∙ sym (ap (λ i. bound_to i (unbind v.0 b)) same ∙ bound-after_unbind v.0 b ascending)
        | inr other ↦
            ap (λ t. cond t None (name_in before p w)) (ne_eqb v.0 w (λ same. other (sym same)))
            ∙ sym (bound-after_unbind_other w v.0 b other ∙ bound-in_channels before p w)
      ])

module _ (before after : List Cell) (p : ℕ) where
  -- each under another name
  bound-each : (f : ℕ → ℕ) (w : ℕ) (b : List (VarId × ℕ)) → bound_to w (each_bound f b) ≡ option_map f (bound_to w b)
  bound-each f w [] = refl
  bound-each f w (e ∷ b) = at (eqb e.0.0 w) (bound-each f w b)
    where
      at : (t : Bool) → bound_to w (each_bound f b) ≡ option_map f (bound_to w b)
          → cond t (Some (f e.1)) (bound_to w (each_bound f b)) ≡ option_map f (cond t (Some e.1) (bound_to w b))
      at true rest = refl
      at false rest = rest

  keys-each : (f : ℕ → ℕ) (b : List (VarId × ℕ)) → keys_of (each_bound f b) ≡ keys_of b
  keys-each f [] = refl
  keys-each f (e ∷ b) = ap (λ vs. e.0 ∷ vs) (keys-each f b)

  pub channels-each : (f : ℕ → ℕ) → ((w : ℕ) → name_in after p w ≡ option_map f (name_in before p w))
      → channels_of after p ≡ each_bound f (channels_of before p)
  channels-each f names =
      let b = channels_of before p in
      channels-are after p (each_bound f b)
      (subst (IsStrictlySortedBy by_number) (sym (keys-each f b)) (channels-ascending before p))
      (λ w. names w ∙ ap (option_map f) (sym (bound-in_channels before p w)) ∙ sym (bound-each f w b))

-- the channels of pairs, of which the first counts
pub channels-of_pairs : (cells : List Cell) (p : ℕ) (pairs : List (VarId × ℕ))
    → ((w : ℕ) → name_in cells p w ≡ bound_to w pairs) → channels_of cells p ≡ bindings_of pairs
channels-of_pairs cells p pairs names =
    channels-are cells p (bindings_of pairs) (bindings_of-ascending pairs)
    (λ w. names w ∙ sym (bound-in_bindings_of w pairs))
