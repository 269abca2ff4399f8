use Rattle.std.proofs.Common.{sym, ◌∙◌}
use Rattle.nomos_simplex.specs.LeastRun.{LeastRun, Lowers}
use Rattle.nomos_simplex.specs.mirror.Classes.{IsReached}
use Rattle.nomos_simplex.proofs.ClassLoweringLemmas.{kept-lines, found-kept, goal-stands}
use Rattle.nomos_simplex.proofs.TurningLemmas.{kept-is_table}
use Rattle.nomos_simplex.proofs.lowering.lower_from.Goals as goal

pub goal_line-requires-clause-lines : goal.goal_line-requires-clause-lines
goal_line-requires-clause-lines c =
    let rows = c.args.rows.now in
    kept-lines rows c.args.classed (found-kept rows c.args.classed c.args.pivots c.requires.run)

pub goal_line-requires-clause-lowest : goal.goal_line-requires-clause-lowest
goal_line-requires-clause-lowest c =
    let rows = c.args.rows.now in
    (kept-is_table rows c.args.classed (found-kept rows c.args.classed c.args.pivots c.requires.run)).lowest

pub returns-in_default : goal.returns-in_default
returns-in_default c =
    let e = c.requires.run in
    let same = goal-stands c.args.rows.now c.args.goal.now c.args.classed e.full c.requires.goal
    (IsReached.by_pivots c.args.pivots e.ends.reaches) e.shows in
    LeastRun.large_goal c.args.pivots e.full e.ends (sym same ∙ sym c.in_ok-line.ensures ∙ c.in_default.is)

pub lower-requires-clause-run : goal.lower-requires-clause-run
lower-requires-clause-run c =
    let e = c.requires.run in
    let same = goal-stands c.args.rows.now c.args.goal.now c.args.classed e.full c.requires.goal
    (IsReached.by_pivots c.args.pivots e.ends.reaches) e.shows in
    record {
      full = e.full;
      run = Lowers.begins e.ends (sym same ∙ sym c.in_ok-line.ensures ∙ c.in-Some.is);
      shows = e.shows;
    }
