use Rattle.std.proofs.Common.{◌≡◌, ℕ, ◌+◌, ◌-◌, refl, ap, sym, ◌∙◌, arith}
use Rattle.nomos_simplex.specs.Exchange.{exchanged}
use Rattle.nomos_simplex.specs.GoalLine.{line_of}
use Rattle.nomos_simplex.specs.PivotRun.{turn}
use Rattle.nomos_simplex.specs.mirror.Classes.{column_at, named}
use Rattle.nomos_simplex.proofs.ClassChoiceLemmas.{column_leaves}
use Rattle.nomos_simplex.proofs.ClassStepLemmas.{step-enters, step-small}
use Rattle.nomos_simplex.proofs.ClassTurnLemmas.{turn-spent}
use Rattle.nomos_simplex.proofs.SolveLemmas.{exchanges, goes_small}
use Rattle.nomos_simplex.proofs.TurningLemmas.{reached}
use Rattle.nomos_simplex.proofs.solving.column_leaves.Goals as goal

-- no pivot is left
pub returns-then-pivots-ge-BUDGET : goal.returns-then-pivots-ge-BUDGET
returns-then-pivots-ge-BUDGET c = λ full of_run shows.
    let rows = c.args.rows.now in
    let table = c.args.classed.kept.table in
    let classes = c.args.classed.classes in
    let j = c.args.column in
    let left = named (column_at table j + 1) (line_of full (column_at table j)) in
    let of_rows = reached rows full of_run in
    let chosen = c.requires.chosen in
    let at = column_leaves rows table classes full j of_rows shows.stands shows.lead chosen.0 chosen.1 chosen.2 in
    let enters = step-enters rows at.0 j left table classes full of_rows shows.stands chosen.0 chosen.1 at.2 refl in
    let spent : 2000 - c.args.pivots ≡ 0 = omega (arith, c.if-pivots-ge-BUDGET.true) in
    sym (ap (λ n. turn n c.args.pivots rows full) spent
    ∙ turn-spent c.args.pivots at.0 j rows full left at.1 at.2 enters)

-- the exchange
pub returns : goal.returns
returns c = λ full of_run shows.
    let rows = c.args.rows.now in
    let table = c.args.classed.kept.table in
    let classes = c.args.classed.classes in
    let j = c.args.column in
    let pivots = c.args.pivots in
    let left = named (column_at table j + 1) (line_of full (column_at table j)) in
    let of_rows = reached rows full of_run in
    let chosen = c.requires.chosen in
    let at = column_leaves rows table classes full j of_rows shows.stands shows.lead chosen.0 chosen.1 chosen.2 in
    let enters = step-enters rows at.0 j left table classes full of_rows shows.stands chosen.0 chosen.1 at.2 refl in
    let small = step-small rows at.0 j left table classes full of_rows shows.stands chosen.0 chosen.1 at.2 refl in
    let after = exchanged at.0 j left full in
    let turned = exchanges (2000 - pivots) pivots (2000 - (pivots + 1)) at.0 j rows full after left
    (omega (arith, c.if-pivots-ge-BUDGET.false)) at.1 at.2 enters refl in (
      after,
      sym (turned ∙ goes_small (pivots + 1) after small),
      c.in_ok-step.ensures full at.0 left of_run shows at.2 refl,
    )
