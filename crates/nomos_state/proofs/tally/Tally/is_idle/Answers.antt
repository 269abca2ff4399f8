use Rattle.std.proofs.Common.{◌≡◌, ◌∙◌, sym, arith, nat_eq, true, eqb-true, eq-eqb}
use Rattle.nomos_state.specs.Tallying.{counted}
use Rattle.nomos_state.specs.declared.tally.NameUse.{NameUse}
use Rattle.nomos_state.specs.declared.tally.NameUse.TheVariants as doing
use Rattle.nomos_state.specs.declared.tally.Tally.{Tally}
use Rattle.nomos_state.proofs.tally.Tally.is_idle.Goals as goal
use Rattle.nomos_state.proofs.tally.Tally.is_idle.Goals.{then-self-eq0, else-self-eq0}

idle-from : (t : Tally) → t.provided ≡ 0 → t.used ≡ 0 → t.based ≡ 0 → (d : NameUse) → counted d t ≡ 0
idle-from t provided used based doing.Provides = provided
idle-from t provided used based doing.Uses = used
idle-from t provided used based doing.Bases = based

pub returns-then-self-eq0-2 : goal.returns-then-self-eq0-2
returns-then-self-eq0-2 c =
    let t = c.args.self.now in
    elim c.if-self-eq0.branch [
      | then-self-eq0 w ↦
          let provided : t.provided ≡ 0 = omega arith in
          let used : t.used ≡ 0 = eqb-true t.used 0 (cc) in
          (λ based. idle-from t provided used (eqb-true t.based 0 based), λ none. eq-eqb t.based 0 (none doing.Bases))
      | else-self-eq0 w ↦
          let provided : t.provided ≡ 0 = eqb-true t.provided 0 (sym w.value-is ∙ c.if-self-eq0-2.true) in
          absurd (omega arith)
    ]

pub returns-else-self-eq0-2 : goal.returns-else-self-eq0-2
returns-else-self-eq0-2 c =
    let t = c.args.self.now in
    elim c.if-self-eq0.branch [
      | then-self-eq0 w ↦
          (λ is. absurd cc, λ none. let used : nat_eq t.used 0 ≡ true = eq-eqb t.used 0 (none doing.Uses) in cc)
      | else-self-eq0 w ↦ (λ is. absurd cc, λ none. absurd (omega (arith, none doing.Provides)))
    ]
