use Rattle.std.proofs.Common.{ap, subst, sym, ◌∙◌, arith}
use Rattle.nomos_forms.specs.Bounds.{IsForm, IsFound}
use Rattle.nomos_simplex.specs.mirror.Classes.{IsReached}
use Rattle.nomos_simplex.specs.declared.solved.Solved.TheVariants as solved
use Rattle.nomos_simplex.specs.declared.solved.SolvedLeast.TheVariants as least
use Rattle.nomos_simplex.proofs.ClassLoweringLemmas.{kept-few, kept-lines, lowers-kept, lowers-line, lowers-found, end-stands, ends_found, ends_large}
use Rattle.nomos_simplex.proofs.ExitLemmas.{IsRightFor}
use Rattle.nomos_simplex.proofs.TurningLemmas.{kept-is_table}
use Rattle.nomos_simplex.proofs.lowering.end_at.Goals as goal

pub found-requires-clause-few : goal.found-requires-clause-few
found-requires-clause-few c =
    let rows = c.args.rows.now in
    let at = c.args.aimed.now in
    kept-few rows at.classed
    (lowers-kept rows c.args.goal.now c.args.pivots at c.requires.goal c.requires.run)

pub found-requires-clause-lines : goal.found-requires-clause-lines
found-requires-clause-lines c =
    let rows = c.args.rows.now in
    let at = c.args.aimed.now in
    kept-lines rows at.classed
    (lowers-kept rows c.args.goal.now c.args.pivots at c.requires.goal c.requires.run)

pub total_of-requires-clause-few : goal.total_of-requires-clause-few
total_of-requires-clause-few c =
    let rows = c.args.rows.now in
    let right = subst (IsRightFor rows) (sym c.in_ok-found.ensures ∙ c.in-Found.is)
    (lowers-found rows c.args.goal.now c.args.pivots c.args.aimed.now c.requires.goal c.requires.run) in
    omega (arith, right.1.width, rows.few_stars)

pub total_of-requires-clause-goal : goal.total_of-requires-clause-goal
total_of-requires-clause-goal c =
    let rows = c.args.rows.now in
    let right = subst (IsRightFor rows) (sym c.in_ok-found.ensures ∙ c.in-Found.is)
    (lowers-found rows c.args.goal.now c.args.pivots c.args.aimed.now c.requires.goal c.requires.run) in
    subst (λ n. IsForm n c.args.goal.now) (sym right.1.width) c.requires.goal

pub total_of-requires-clause-found : goal.total_of-requires-clause-found
total_of-requires-clause-found c =
    let rows = c.args.rows.now in
    let right = subst (IsRightFor rows) (sym c.in_ok-found.ensures ∙ c.in-Found.is)
    (lowers-found rows c.args.goal.now c.args.pivots c.args.aimed.now c.requires.goal c.requires.run) in
    subst (λ n. IsFound n c.in-Found.found) (sym right.1.width) right.1

pub proof_at-requires-clause-line : goal.proof_at-requires-clause-line
proof_at-requires-clause-line c =
    lowers-line c.args.rows.now c.args.goal.now c.args.pivots c.args.aimed.now c.requires.goal c.requires.run

pub proof_at-requires-clause-nonbasic : goal.proof_at-requires-clause-nonbasic
proof_at-requires-clause-nonbasic c =
    let rows = c.args.rows.now in
    let at = c.args.aimed.now in
    (kept-is_table rows at.classed
    (lowers-kept rows c.args.goal.now c.args.pivots at c.requires.goal c.requires.run)).nonbasic

pub returns-in_default : goal.returns-in_default
returns-in_default c = λ full run shows.
    let rows = c.args.rows.now in
    let goal_is = c.args.goal.now in
    let at = c.args.aimed.now in
    let same = end-stands c.args.pivots rows goal_is at.classed full at.line (solved.Found c.in-Found.found)
    (IsReached.by_lowering goal_is c.args.pivots at.line c.requires.goal run) shows
    (sym c.in-Found.is ∙ c.in_ok-found.ensures) in
    sym (ends_large c.args.pivots rows goal_is at.classed.kept.table at.line c.in-Found.found
    (sym c.total_of.ensures ∙ c.in_default.is)) ∙ same

pub returns-in_ok-proof-in-Found : goal.returns-in_ok-proof-in-Found
returns-in_ok-proof-in-Found c = λ full run shows.
    let rows = c.args.rows.now in
    let goal_is = c.args.goal.now in
    let at = c.args.aimed.now in
    let same = end-stands c.args.pivots rows goal_is at.classed full at.line (solved.Found c.in-Found.found)
    (IsReached.by_lowering goal_is c.args.pivots at.line c.requires.goal run) shows
    (sym c.in-Found.is ∙ c.in_ok-found.ensures) in
    ap (least.Found c.in-Found.found) c.in_ok-proof-in-Found.ensures
    ∙ sym (ends_found c.args.pivots rows goal_is at.classed.kept.table at.line c.in-Found.found c.in-Some.total
    (sym c.total_of.ensures ∙ c.in-Some.is)) ∙ same

pub returns-in-Unsolved : goal.returns-in-Unsolved
returns-in-Unsolved c = λ full run shows.
    let rows = c.args.rows.now in
    let goal_is = c.args.goal.now in
    let at = c.args.aimed.now in
    let same = end-stands c.args.pivots rows goal_is at.classed full at.line (solved.Unsolved c.in-Unsolved.stop)
    (IsReached.by_lowering goal_is c.args.pivots at.line c.requires.goal run) shows
    (sym c.in-Unsolved.is ∙ c.in_ok-found.ensures) in
    same
