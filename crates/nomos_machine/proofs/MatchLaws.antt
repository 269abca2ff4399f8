-- What a process has still fits a judgement when both are changed alike.
use Rattle.std.proofs.Common.{◌≡◌, ◌∙◌, ◌≤◌, inl, inr, ℕ, ◌+◌, List, Option, Some, None, refl, sym, subst, ap, arith}
use Rattle.std.proofs.lemmas.Bool.{cases_eq}
use Rattle.std.specs.Option.{option_or}
use Rattle.nomos_ir.specs.Bindings.{bound_to, bind, unbind, IsAscending}
use Rattle.nomos_ir.specs.Paired.{Paired, both, neither}
use Rattle.nomos_ir.specs.declared.ids.VarId.{VarId}
use Rattle.nomos_ir.proofs.BindingLaws.{bound-after_bind, bound-after_bind_other, bound-after_unbind, bound-after_unbind_other}
use Rattle.nomos_ir.proofs.PairedLaws.{paired-as}
use Rattle.nomos_types.specs.Acceptance.{Acceptance}
use Rattle.nomos_types.specs.Judgement.{Judgement, IsJudgement, count_one}
use Rattle.nomos_machine.specs.Matching.{Matches}
use Rattle.nomos_machine.specs.State.{NameTypes}
use Rattle.nomos_machine.specs.TypedState.{VariablesDiffer}
use Rattle.nomos_machine.specs.declared.object.Process.{Process}

-- the channels are those of the judgement: references, and channels that are used exactly once
abbrev pub HoldsChannels : {X Y : Type 0} → (X → Y → Type 0) → List (VarId × X) → List (VarId × Y) → List (VarId × Y)
    → Type 0
HoldsChannels R channels shared linear =
    (v : ℕ) → Paired R (bound_to v channels) (option_or (bound_to v shared) (bound_to v linear))

module _ {X Y : Type 0} {R : X → Y → Type 0} (channels : List (VarId × X)) (shared linear : List (VarId × Y)) where
  -- a channel that is used exactly once is bound
  pub holds-linear : (v : VarId) (x : X) (y : Y) → bound_to v.0 shared ≡ None → R x y
      → HoldsChannels R channels shared linear → HoldsChannels R (bind v x channels) shared (bind v y linear)
  holds-linear v x y none related holds w =
      elim (cases_eq w v.0) [
        | inl same ↦
            let At : ℕ → Type 0 = λ u.
            Paired R (bound_to u (bind v x channels)) (option_or (bound_to u shared) (bound_to u (bind v y linear)))
            in
            let right : option_or (bound_to v.0 shared) (bound_to v.0 (bind v y linear)) ≡ Some y =
            ap (λ (o : Option Y). option_or o (bound_to v.0 (bind v y linear))) none ∙ bound-after_bind v y linear
            in
            let here : At v.0 = paired-as (bound-after_bind v x channels) right (both related) in
            subst At (sym same) here
        | inr other ↦
            paired-as (bound-after_bind_other w v x channels other)
            (ap (option_or (bound_to w shared)) (bound-after_bind_other w v y linear other)) (holds w)
      ]

  -- a reference is bound
  pub holds-shared : (v : VarId) (x : X) (y : Y) → R x y → HoldsChannels R channels shared linear
      → HoldsChannels R (bind v x channels) (bind v y shared) linear
  holds-shared v x y related holds w =
      elim (cases_eq w v.0) [
        | inl same ↦
            let At : ℕ → Type 0 = λ u.
            Paired R (bound_to u (bind v x channels)) (option_or (bound_to u (bind v y shared)) (bound_to u linear))
            in
            let right : option_or (bound_to v.0 (bind v y shared)) (bound_to v.0 linear) ≡ Some y =
            ap (λ (o : Option Y). option_or o (bound_to v.0 linear)) (bound-after_bind v y shared)
            in
            let here : At v.0 = paired-as (bound-after_bind v x channels) right (both related) in
            subst At (sym same) here
        | inr other ↦
            paired-as (bound-after_bind_other w v x channels other)
            (ap (λ (o : Option Y). option_or o (bound_to w linear)) (bound-after_bind_other w v y shared other))
            (holds w)
      ]

  -- a channel that is used exactly once is gone
  pub holds-fewer : (v : VarId) → bound_to v.0 shared ≡ None → IsAscending channels → IsAscending linear
      → HoldsChannels R channels shared linear → HoldsChannels R (unbind v.0 channels) shared (unbind v.0 linear)
  holds-fewer v none ascending ascends holds w =
      elim (cases_eq w v.0) [
        | inl same ↦
            let At : ℕ → Type 0 = λ u.
            Paired R (bound_to u (unbind v.0 channels)) (option_or (bound_to u shared) (bound_to u (unbind v.0 linear)))
            in
            let right : option_or (bound_to v.0 shared) (bound_to v.0 (unbind v.0 linear)) ≡ None =
            ap (λ (o : Option Y). option_or o (bound_to v.0 (unbind v.0 linear))) none
            ∙ bound-after_unbind v.0 linear ascends
            in
            let here : At v.0 = paired-as (bound-after_unbind v.0 channels ascending) right neither in
            subst At (sym same) here
        | inr other ↦
            paired-as (bound-after_unbind_other w v.0 channels other)
            (ap (option_or (bound_to w shared)) (bound-after_unbind_other w v.0 linear other)) (holds w)
      ]

-- ---- no variable stands twice

counted-alike : {X Y : Type 0} {R : X → Y → Type 0} {o : Option X} {q : Option Y} → Paired R o q
    → count_one o ≡ count_one q
counted-alike (both related) = refl
counted-alike neither = refl

counted-or : {Y : Type 0} (o q : Option Y) → count_one (option_or o q) ≤ count_one o + count_one q
counted-or (Some y) q = omega arith
counted-or None q = omega arith

-- a process whose parts are maps, and that has what a judgement says, has no variable twice
pub matches-differ : {a : Acceptance} {types : NameTypes} {p : Process} {j : Judgement} → IsJudgement a.program j
    → Matches a.program a.annotations types p j → IsAscending p.values → IsAscending p.lists → IsAscending p.channels
    → VariablesDiffer p
matches-differ {a} {types} {p} {j} h m values lists channels = record {
  values = values;
  lists = lists;
  channels = channels;
  apart = λ v.
      let one = counted-alike (m.values v) in
      let two = counted-alike (m.held_lists v) in
      let three = counted-alike (m.channels v) in
      omega (arith, counted-or (bound_to v j.shared) (bound_to v j.linear), h.apart v);
}
