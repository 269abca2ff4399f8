use Rattle.std.proofs.Common.{◌≡◌, ◌-◌, length, refl, ap, sym, subst, ◌∙◌, arith, None, Some}
use Rattle.std.proofs.lemmas.List.{length-map}
use Rattle.nomos_simplex.specs.LeastRun.{PivotsTo}
use Rattle.nomos_simplex.specs.PivotRun.{turn, run, answer_to}
use Rattle.nomos_simplex.specs.Tables.{first_table}
use Rattle.nomos_simplex.specs.mirror.Classes.{IsReached, IsChosen, IsNextOf}
use Rattle.nomos_simplex.proofs.ClassChoiceLemmas.{none_leaves}
use Rattle.nomos_simplex.proofs.ClassTurnLemmas.{choice-not_found}
use Rattle.nomos_simplex.proofs.RunLaws.{turn-goes_on}
use Rattle.nomos_simplex.proofs.SolveLemmas.{run_ends, run_goes_on, run_stands, run_stops}
use Rattle.nomos_simplex.proofs.TurningLemmas.{reached}
use Rattle.nomos_simplex.proofs.solving.seek.Goals as goal

pub loop-pivots-init : goal.loop-pivots-init
loop-pivots-init c =
    let rows = c.args.rows.now in
    record {
      full = first_table rows;
      answer = refl;
      reaches = PivotsTo.at_first;
      shows = c.in_ok-classed.ensures;
    }

pub choose-requires-clause-over : goal.choose-requires-clause-over
choose-requires-clause-over c = let at = c.loop-pivots.invariant in
    ap length at.shows.shows ∙ length-map c.loop-pivots.classed.kept.table.lines _

pub choose-requires-clause-columns : goal.choose-requires-clause-columns
choose-requires-clause-columns c = let at = c.loop-pivots.invariant in at.shows.stands.fit.columns

-- no variable is below its bound
pub returns-in_default : goal.returns-in_default
returns-in_default c =
    let rows = c.args.rows.now in
    let at = c.loop-pivots.invariant in
    let classed = c.loop-pivots.classed in
    let pivots = c.loop-pivots.pivots in
    let none = none_leaves rows classed.kept.table classed.classes at.full
    (reached rows at.full (IsReached.by_pivots pivots at.reaches)) at.shows.stands at.shows.lead
    (subst (IsChosen rows classed.kept.table classed.classes) c.in_default.is (c.choose.ensures rows at.shows.shows)) in
    record {
      full = at.full;
      reaches = at.reaches;
      none_below = none;
      answer = run_stands (2000 - pivots) pivots rows at.full none ∙ at.answer;
      most = omega arith;
      shows = at.shows;
    }

pub turn_at-requires-clause-kept : goal.turn_at-requires-clause-kept
turn_at-requires-clause-kept c =
    let at = c.loop-pivots.invariant in
    record { full = at.full; reached = IsReached.by_pivots c.loop-pivots.pivots at.reaches; shows = at.shows }

pub turn_at-requires-clause-chosen : goal.turn_at-requires-clause-chosen
turn_at-requires-clause-chosen c =
    let at = c.loop-pivots.invariant in
    let classed = c.loop-pivots.classed in
    subst (IsChosen c.args.rows.now classed.kept.table classed.classes) c.in-Some.is
    (c.choose.ensures c.args.rows.now at.shows.shows)

pub loop-pivots-preserved : goal.loop-pivots-preserved
loop-pivots-preserved c =
    let rows = c.args.rows.now in
    let at = c.loop-pivots.invariant in
    let pivots = c.loop-pivots.pivots in
    let full = at.full in
    let goes = subst (IsNextOf rows (turn (2000 - pivots) pivots rows full)) c.in-Goes.is
    (c.in_ok-solved.ensures full (IsReached.by_pivots pivots at.reaches) at.shows) in
    record {
      full = goes.0;
      answer = run_goes_on 2000 pivots rows full goes.0 c.loop-pivots-test.true goes.1 ∙ at.answer;
      reaches = PivotsTo.goes_on goes.0 at.reaches (sym goes.1);
      shows = goes.2;
    }

pub returns-in-Ends : goal.returns-in-Ends
returns-in-Ends c =
    let rows = c.args.rows.now in
    let at = c.loop-pivots.invariant in
    let pivots = c.loop-pivots.pivots in
    let full = at.full in
    let classed = c.loop-pivots.classed in
    let of_run = IsReached.by_pivots pivots at.reaches in
    let ends = subst (IsNextOf rows (turn (2000 - pivots) pivots rows full)) c.in-Ends.is
    (c.in_ok-solved.ensures full of_run at.shows) in (
      sym (run_ends (2000 - pivots) pivots rows full c.in-Ends.solved ends) ∙ at.answer,
      choice-not_found (2000 - pivots) pivots rows classed.kept.table classed.classes full c.in-Some.leaves
          c.in-Ends.solved (reached rows full of_run) at.shows.stands at.shows.lead
          (subst (IsChosen rows classed.kept.table classed.classes) c.in-Some.is
          (c.choose.ensures rows at.shows.shows)) (sym ends),
    )

-- ---- all pivots are made
pub choose-requires-2-clause-over : goal.choose-requires-2-clause-over
choose-requires-2-clause-over c = let at = c.loop-pivots.invariant in
    ap length at.shows.shows ∙ length-map c.loop-pivots.classed.kept.table.lines _

pub choose-requires-2-clause-columns : goal.choose-requires-2-clause-columns
choose-requires-2-clause-columns c = let at = c.loop-pivots.invariant in at.shows.stands.fit.columns

pub turn_at-requires-2-clause-kept : goal.turn_at-requires-2-clause-kept
turn_at-requires-2-clause-kept c =
    let at = c.loop-pivots.invariant in
    record { full = at.full; reached = IsReached.by_pivots c.loop-pivots.pivots at.reaches; shows = at.shows }

pub returns-in_default-choose : goal.returns-in_default-choose
returns-in_default-choose c =
    let rows = c.args.rows.now in
    let at = c.loop-pivots.invariant in
    let classed = c.loop-pivots.classed in
    let all : c.loop-pivots.pivots ≡ 2000 = omega (arith, c.loop-pivots-test.false, c.loop-pivots.auto.pivots-end) in
    let none = none_leaves rows classed.kept.table classed.classes at.full
    (reached rows at.full (IsReached.by_pivots c.loop-pivots.pivots at.reaches)) at.shows.stands at.shows.lead
    (subst (IsChosen rows classed.kept.table classed.classes) c.in_default-choose.is
    (c.choose-2.ensures rows at.shows.shows)) in
    record {
      full = at.full;
      reaches = subst (λ n. PivotsTo rows n at.full) all at.reaches;
      none_below = none;
      answer = run_stands 0 2000 rows at.full none
          ∙ subst (λ n. run (2000 - n) n rows at.full ≡ answer_to rows) all at.answer;
      most = omega arith;
      shows = at.shows;
    }

pub returns-in-Ends-2 : goal.returns-in-Ends-2
returns-in-Ends-2 c =
    let rows = c.args.rows.now in
    let at = c.loop-pivots.invariant in
    let full = at.full in
    let classed = c.loop-pivots.classed in
    let all : c.loop-pivots.pivots ≡ 2000 = omega (arith, c.loop-pivots-test.false, c.loop-pivots.auto.pivots-end) in
    let of_run = IsReached.by_pivots c.loop-pivots.pivots at.reaches in
    let ends = subst (IsNextOf rows (turn 0 2000 rows full)) c.in-Ends-2.is
    (c.in_ok-solved-2.ensures full of_run at.shows) in (
      sym (run_ends 0 2000 rows full c.in-Ends-2.solved ends)
          ∙ subst (λ n. run (2000 - n) n rows full ≡ answer_to rows) all at.answer,
      choice-not_found 0 2000 rows classed.kept.table classed.classes full c.in-Some-choose.leaves
          c.in-Ends-2.solved (reached rows full of_run) at.shows.stands at.shows.lead
          (subst (IsChosen rows classed.kept.table classed.classes) c.in-Some-choose.is
          (c.choose-2.ensures rows at.shows.shows)) (sym ends),
    )

pub returns : goal.returns
returns c =
    let rows = c.args.rows.now in
    let at = c.loop-pivots.invariant in
    let full = at.full in
    let all : c.loop-pivots.pivots ≡ 2000 = omega (arith, c.loop-pivots-test.false, c.loop-pivots.auto.pivots-end) in
    let goes = subst (IsNextOf rows (turn 0 2000 rows full)) c.in-Goes-2.is
    (c.in_ok-solved-2.ensures full (IsReached.by_pivots c.loop-pivots.pivots at.reaches) at.shows) in (
      sym (run_stops 2000 rows full goes.0 goes.1)
          ∙ subst (λ n. run (2000 - n) n rows full ≡ answer_to rows) all at.answer,
      tt,
    )
