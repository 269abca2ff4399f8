use Rattle.std.proofs.Common.{◌≡◌, ◌+◌, ◌<◌, sym, subst, ◌∙◌, arith}
use Rattle.std.proofs.lemmas.Option.{slice_get-get_or}
use Rattle.nomos_simplex.specs.Exchange.{exchanged}
use Rattle.nomos_simplex.specs.LeastRun.{LeastRun, Lowers, line_exchanged}
use Rattle.nomos_simplex.specs.Nearest.{line_at}
use Rattle.nomos_simplex.specs.mirror.Steps.{IsAimedOrLarge}
use Rattle.nomos_simplex.proofs.ClassLoweringLemmas.{lowers-reached, lowers-kept, lowers-aimed, lowers-line, lowers-fits, lowering-stands, to_exchange, some_leaves}
use Rattle.nomos_simplex.proofs.lowering.turn_of.Goals as goal

pub lowering-requires : goal.lowering-requires
lowering-requires c =
    (lowers-line c.args.rows.now c.args.goal.now c.args.pivots c.args.aimed c.requires.goal c.requires.run).width

pub returns-in_default : goal.returns-in_default
returns-in_default c =
    let rows = c.args.rows.now in
    let goal_is = c.args.goal.now in
    let at = c.args.aimed in
    let r = c.requires.run in
    subst (LeastRun rows goal_is) (sym (c.in_ok-end_at.ensures r.full r.run r.shows))
    (LeastRun.ends c.args.pivots r.full at.line r.run
    (sym (lowering-stands at.classed.kept.table r.full at.line r.shows.stands.nonbasic)
    ∙ sym c.lowering.ensures.choice ∙ c.in_default.is))

pub nearest-requires-clause-table : goal.nearest-requires-clause-table
nearest-requires-clause-table c =
    lowers-fits c.args.rows.now c.args.goal.now c.args.pivots c.args.aimed c.requires.goal c.requires.run

pub unreachable-requires : goal.unreachable-requires
unreachable-requires c =
    let rows = c.args.rows.now in
    some_leaves rows c.args.goal.now c.args.pivots c.args.aimed c.in-Some.column c.requires.goal c.requires.run
    c.requires.coefs c.in-Some.ensures.column (sym c.in-Some.ensures.choice)
    (sym (c.nearest.ensures.choice rows c.requires.run.shows.shows) ∙ c.in_default-nearest.is)

pub returns-then-pivots-ge-BUDGET : goal.returns-then-pivots-ge-BUDGET
returns-then-pivots-ge-BUDGET c =
    let rows = c.args.rows.now in
    let goal_is = c.args.goal.now in
    let at = c.args.aimed in
    let r = c.requires.run in
    let i = c.in-Some-nearest.place in
    let j = c.in-Some.column in
    let all : c.args.pivots ≡ 2000 = omega (arith, c.if-pivots-ge-BUDGET.true, c.requires.pivots) in
    let x = to_exchange rows goal_is c.args.pivots at i j c.requires.goal r c.in-Some.ensures.column
    (sym c.in-Some.ensures.choice) (sym (c.in-Some-nearest.ensures.choice rows r.shows.shows)) in
    LeastRun.pivots_made r.full at.line x.0 j (line_at at.classed.kept.table.lines i)
    (subst (λ n. Lowers rows goal_is n r.full at.line) all r.run) x.1

pub exchange_aimed-requires-clause-kept : goal.exchange_aimed-requires-clause-kept
exchange_aimed-requires-clause-kept c =
    lowers-kept c.args.rows.now c.args.goal.now c.args.pivots c.args.aimed c.requires.goal c.requires.run

pub exchange_aimed-requires-clause-line : goal.exchange_aimed-requires-clause-line
exchange_aimed-requires-clause-line c =
    lowers-line c.args.rows.now c.args.goal.now c.args.pivots c.args.aimed c.requires.goal c.requires.run

pub exchange_aimed-requires-clause-lowest_line : goal.exchange_aimed-requires-clause-lowest_line
exchange_aimed-requires-clause-lowest_line c =
    (lowers-aimed c.args.rows.now c.args.goal.now c.args.pivots c.args.aimed c.requires.goal
    c.requires.run).numbers.lowest

pub returns-in-None : goal.returns-in-None
returns-in-None c =
    let rows = c.args.rows.now in
    let goal_is = c.args.goal.now in
    let at = c.args.aimed in
    let r = c.requires.run in
    let i = c.in-Some-nearest.place in
    let j = c.in-Some.column in
    let left = line_at at.classed.kept.table.lines i in
    let x = to_exchange rows goal_is c.args.pivots at i j c.requires.goal r c.in-Some.ensures.column
    (sym c.in-Some.ensures.choice) (sym (c.in-Some-nearest.ensures.choice rows r.shows.shows)) in
    let large = subst (IsAimedOrLarge rows (exchanged x.0 j left r.full) (line_exchanged j left at.line)) c.in-None.is
    (c.in_ok-after.ensures r.full x.0 left
    (lowers-reached rows goal_is c.args.pivots at c.requires.goal r) r.shows x.1.there
    (slice_get-get_or at.classed.kept.table.lines i _ c.in-Some-nearest.ensures.place.within)) in
    LeastRun.large c.args.pivots r.full at.line x.0 j left r.run x.1
    (omega (arith, c.if-pivots-ge-BUDGET.false)) large

pub returns-in-Some-2 : goal.returns-in-Some-2
returns-in-Some-2 c =
    let rows = c.args.rows.now in
    let goal_is = c.args.goal.now in
    let at = c.args.aimed in
    let r = c.requires.run in
    let i = c.in-Some-nearest.place in
    let j = c.in-Some.column in
    let left = line_at at.classed.kept.table.lines i in
    let x = to_exchange rows goal_is c.args.pivots at i j c.requires.goal r c.in-Some.ensures.column
    (sym c.in-Some.ensures.choice) (sym (c.in-Some-nearest.ensures.choice rows r.shows.shows)) in
    let made = subst (IsAimedOrLarge rows (exchanged x.0 j left r.full) (line_exchanged j left at.line))
    c.in-Some-2.is (c.in_ok-after.ensures r.full x.0 left
    (lowers-reached rows goal_is c.args.pivots at c.requires.goal r) r.shows x.1.there
    (slice_get-get_or at.classed.kept.table.lines i _ c.in-Some-nearest.ensures.place.within)) in
    let less : c.args.pivots < 2000 = omega (arith, c.if-pivots-ge-BUDGET.false) in (
      record {
        full = exchanged x.0 j left r.full;
        run = subst (Lowers rows goal_is (c.args.pivots + 1) (exchanged x.0 j left r.full)) (sym made.1)
            (Lowers.goes_on x.0 j left r.run x.1 less made.2);
        shows = made.0;
      },
      less,
    )
