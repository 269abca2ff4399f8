-- A process that uses a name once: one variable has it, and where that one is renamed, all are.
use Rattle.std.proofs.Common.{◌≡◌, ◌≢◌, ◌≤◌, ◌∙◌, ◌&&◌, ℕ, Bool, true, cond, eqb, eqb-true, eq-eqb, ne_eqb, List, [], map, Option, Some, None, inl, inr, refl, sym, ap, arith}
use Rattle.std.proofs.lemmas.Bool.{cases_eq}
use Rattle.std.specs.Option.{option_eq, option_map, option_to_list}
use Rattle.nomos_ir.specs.Bindings.{bound_to, unbind}
use Rattle.nomos_ir.specs.Order.{count_of}
use Rattle.nomos_ir.specs.declared.ids.VarId.{VarId}
use Rattle.nomos_ir.proofs.BindingLaws.{bound-after_unbind_other}
use Rattle.nomos_ir.proofs.SumLaws.{count-after_unbind}
use Rattle.nomos_types.proofs.OccurrenceLaws.{count-here}
use Rattle.nomos_slots.specs.Cells.{Cell, name_in}
use Rattle.nomos_slots.specs.Sweeps.{instead_of}
use Rattle.nomos_state.specs.Objects.{channels_of}
use Rattle.nomos_state.proofs.ChannelLemmas.{bound-in_channels}
use Rattle.nomos_state.proofs.RebindLemmas.{other-test, own-test}

-- a name that is found is the one that is looked for, where a test says so
pub name-found : (o : Option ℕ) (n : ℕ) → option_eq eqb o (Some n) ≡ true → o ≡ Some n
name-found None n same = absurd cc
name-found (Some m) n same = ap (λ (k : ℕ). Some k) (eqb-true m n same)

-- a name that two variables have is used twice
used-twice : (b : List (VarId × ℕ)) (v w name : ℕ) → w ≢ v → bound_to v b ≡ Some name → bound_to w b ≡ Some name
    → 2 ≤ count_of name (map (λ e. e.1) b)
used-twice b v w name other first second =
    let here = ap (λ (o : Option ℕ). count_of name (option_to_list o)) first in
    let there = ap (λ (o : Option ℕ). count_of name (option_to_list o)) (bound-after_unbind_other w v b other
    ∙ second) in
    omega (
      arith,
      count-after_unbind name v b,
      here,
      count-after_unbind name w (unbind v b),
      there,
      count-here name name [] refl,
    )

-- a name that is another one stays
other-stays : (old new : ℕ) (o : Option ℕ) → o ≢ Some old → o ≡ option_map (instead_of old new) o
other-stays old new None other = refl
other-stays old new (Some n) other =
    elim (cases_eq n old) [
      | inl same ↦ absurd (other (ap (λ (m : ℕ). Some m) same))
      | inr apart ↦ ap (λ (m : ℕ). Some m) (sym (ap (λ b. cond b new n) (ne_eqb n old apart)))
    ]

module _ (before after : List Cell) (number variable old new : ℕ)
    (names : (p w : ℕ) → name_in after p w
    ≡ cond (eqb number p && eqb variable w) (option_map (instead_of old new) (name_in before p w)) (name_in before p w))
    (has : name_in before number variable ≡ Some old)
    (once : count_of old (map (λ e. e.1) (channels_of before number)) ≤ 1) where
  -- no other variable of the process has the name
  alone : (w : ℕ) → w ≢ variable → name_in before number w ≢ Some old
  alone w other is =
      let b = channels_of before number in
      let twice = used-twice b variable w old other (bound-in_channels before number variable ∙ has)
      (bound-in_channels before number w ∙ is) in
      absurd (omega (arith, twice, once))

  -- whether a name is renamed, by a test
  abbrev turned : ℕ → ℕ → Bool → Option ℕ
  turned p w b = cond b (option_map (instead_of old new) (name_in before p w)) (name_in before p w)

  own : (w : ℕ) → turned number w (eqb variable w) ≡ option_map (instead_of old new) (name_in before number w)
  own w =
      elim (cases_eq variable w) [
        | inl same ↦ ap (turned number w) (eq-eqb variable w same)
        | inr other ↦
            ap (turned number w) (ne_eqb variable w other)
            ∙ other-stays old new (name_in before number w) (alone w (λ same. other (sym same)))
      ]

  -- so all names of the process that are the old one become the new one
  pub renamed-all : (p w : ℕ) → name_in after p w ≡ turned p w (eqb number p)
  renamed-all p w =
      elim (cases_eq number p) [
        | inl same ↦
            let mine : turned p w (eqb variable w) ≡ option_map (instead_of old new) (name_in before p w) =
            subst-own p w same
            in
            names p w
            ∙ ap (turned p w) (own-test number p variable w same)
            ∙ mine
            ∙ sym (ap (turned p w) (eq-eqb number p same))
        | inr other ↦
            names p w
            ∙ ap (turned p w) (other-test number p variable w other)
            ∙ sym (ap (turned p w) (ne_eqb number p other))
      ]
    where
      subst-own : (q v : ℕ) → number ≡ q
          → turned q v (eqb variable v) ≡ option_map (instead_of old new) (name_in before q v)
      subst-own q v same =
          sym (ap (λ r. turned r v (eqb variable v)) same)
          ∙ own v
          ∙ ap (λ r. option_map (instead_of old new) (name_in before r v)) same
