use Rattle.std.proofs.Common.{sym, ◌∙◌}
use Rattle.nomos_simplex.specs.LeastRun.{LeastRun}
use Rattle.nomos_simplex.specs.mirror.Classes.{IsReached}
use Rattle.nomos_simplex.proofs.ClassLoweringLemmas.{kept-few, kept-lines, stands-kept, found-stands}
use Rattle.nomos_simplex.proofs.lowering.run_on.Goals as goal

pub found-requires-clause-few : goal.found-requires-clause-few
found-requires-clause-few c =
    let rows = c.args.rows.now in
    kept-few rows c.args.classed (stands-kept rows c.args.classed c.args.pivots c.requires.stands)

pub found-requires-clause-lines : goal.found-requires-clause-lines
found-requires-clause-lines c =
    let rows = c.args.rows.now in
    kept-lines rows c.args.classed (stands-kept rows c.args.classed c.args.pivots c.requires.stands)

pub lower_from-requires-clause-run : goal.lower_from-requires-clause-run
lower_from-requires-clause-run c =
    let s = c.requires.stands in
    let same = found-stands c.args.rows.now c.args.classed s.full c.args.pivots
    (IsReached.by_pivots c.args.pivots s.reaches) s.shows in
    record {
      full = s.full;
      ends = record {
        reaches = s.reaches;
        none_below = s.none_below;
        found = c.in-Found.field-0;
        answer = sym s.answer ∙ sym same ∙ sym c.in_ok-found.ensures ∙ c.in-Found.is;
      };
      shows = s.shows;
    }

pub returns-in-Unsolved : goal.returns-in-Unsolved
returns-in-Unsolved c =
    let s = c.requires.stands in
    let same = found-stands c.args.rows.now c.args.classed s.full c.args.pivots
    (IsReached.by_pivots c.args.pivots s.reaches) s.shows in
    LeastRun.stopped c.in-Unsolved.stop (sym s.answer ∙ sym same ∙ sym c.in_ok-found.ensures ∙ c.in-Unsolved.is)
