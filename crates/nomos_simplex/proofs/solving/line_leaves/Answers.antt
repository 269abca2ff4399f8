use Rattle.std.proofs.Common.{◌≡◌, ℕ, ◌+◌, ◌-◌, true, ℤ, pos, int_lt, length, get_or, refl, ap, sym, subst, ◌∙◌, arith, All, Some}
use Rattle.std.specs.Prelude.{slice_index}
use Rattle.std.proofs.lemmas.Int.{ints}
use Rattle.std.proofs.lemmas.List.{get_or_default}
use Rattle.std.proofs.lemmas.Option.{get_or_from_slice_get, slice_get-get_or}
use Rattle.nomos_simplex.specs.Exchange.{coef_at, exchanged}
use Rattle.nomos_simplex.specs.Exits.{verdict_of}
use Rattle.nomos_simplex.specs.LowestVariable.{entering}
use Rattle.nomos_simplex.specs.Nearest.{line_at}
use Rattle.nomos_simplex.specs.PivotRun.{turn}
use Rattle.nomos_simplex.specs.Sizes.{IsLine}
use Rattle.nomos_simplex.specs.declared.solved.Solved.TheVariants as solved
use Rattle.nomos_simplex.specs.declared.table.TableLine.{TableLine}
use Rattle.nomos_simplex.specs.declared.turn.PivotTurn.TheVariants.{Ends}
use Rattle.nomos_simplex.specs.mirror.Classes.{IsClassedOrLarge}
use Rattle.nomos_simplex.proofs.ClassChoiceLemmas.{line_leaves}
use Rattle.nomos_simplex.proofs.ClassLemmas.{no_line}
use Rattle.nomos_simplex.proofs.ClassTurnLemmas.{entering-same, verdict-same, turn-refuted, turn-spent}
use Rattle.nomos_simplex.proofs.PlaceLemmas.{place_passes}
use Rattle.nomos_simplex.proofs.SolveLemmas.{exchanges, stops_large, goes_small}
use Rattle.nomos_simplex.proofs.TurningLemmas.{reached, kept-is_table}
use Rattle.nomos_simplex.proofs.solving.line_leaves.Goals as goal

pub entering-requires : goal.entering-requires
entering-requires c =
    let table = c.args.classed.kept.table in
    let t = kept-is_table c.args.rows.now c.args.classed c.requires.kept in
    let line = c.index-as_slice-place.result in
    let is : line ≡ get_or table.lines c.args.place line = c.index-as_slice-place.is
    ∙ ap (λ xs. get_or xs c.args.place line) c.as_slice.ensures in
    ap (λ (l : TableLine). length l.coefs) is ∙ (t.lines c.args.place line c.requires.chosen.0).width ∙ sym t.width

pub verdict-requires-clause-few : goal.verdict-requires-clause-few
verdict-requires-clause-few c =
    let t = kept-is_table c.args.rows.now c.args.classed c.requires.kept in
    omega (arith, t.width, c.args.rows.now.few_stars)

pub verdict-requires-clause-line : goal.verdict-requires-clause-line
verdict-requires-clause-line c =
    let table = c.args.classed.kept.table in
    let t = kept-is_table c.args.rows.now c.args.classed c.requires.kept in
    let line = c.index-as_slice-place.result in
    let is : line ≡ get_or table.lines c.args.place line = c.index-as_slice-place.is
    ∙ ap (λ xs. get_or xs c.args.place line) c.as_slice.ensures in
    subst (IsLine (length table.nonbasic)) (sym is)
    (subst (λ n. IsLine n (get_or table.lines c.args.place line)) (sym t.width)
    (t.lines c.args.place line c.requires.chosen.0))

-- no variable enters
pub returns-in_default : goal.returns-in_default
returns-in_default c = λ full of_run shows.
    let rows = c.args.rows.now in
    let table = c.args.classed.kept.table in
    let place = c.args.place in
    let left = line_at table.lines place in
    let line = c.index-as_slice-place.result in
    let is : line ≡ left = c.index-as_slice-place.is ∙ ap (λ xs. get_or xs place line) c.as_slice.ensures
    ∙ get_or_default table.lines place line no_line c.requires.chosen.0 in
    let at = line_leaves rows table c.args.classed.classes full place (reached rows full of_run) shows.stands shows.lead
    c.requires.chosen.0 c.requires.chosen.1 c.requires.chosen.2 in
    let none = sym (entering-same table full left shows.stands.nonbasic) ∙ ap (entering table) (sym is)
    ∙ sym c.entering.ensures.choice ∙ c.in_default.is in
    ap (λ v. Ends (solved.Refuted v)) (c.in_ok-verdict.ensures ∙ ap (verdict_of rows table) is
    ∙ verdict-same rows table full left shows.stands.nonbasic)
    ∙ sym (turn-refuted (2000 - c.args.pivots) c.args.pivots at.0 rows full left at.1 at.2 none)

-- no pivot is left
pub returns-then-pivots-ge-BUDGET : goal.returns-then-pivots-ge-BUDGET
returns-then-pivots-ge-BUDGET c = λ full of_run shows.
    let rows = c.args.rows.now in
    let table = c.args.classed.kept.table in
    let place = c.args.place in
    let left = line_at table.lines place in
    let line = c.index-as_slice-place.result in
    let is : line ≡ left = c.index-as_slice-place.is ∙ ap (λ xs. get_or xs place line) c.as_slice.ensures
    ∙ get_or_default table.lines place line no_line c.requires.chosen.0 in
    let at = line_leaves rows table c.args.classed.classes full place (reached rows full of_run) shows.stands shows.lead
    c.requires.chosen.0 c.requires.chosen.1 c.requires.chosen.2 in
    let enters = sym (entering-same table full left shows.stands.nonbasic) ∙ ap (entering table) (sym is)
    ∙ sym c.entering.ensures.choice ∙ c.in-Some.is in
    let spent : 2000 - c.args.pivots ≡ 0 = omega (arith, c.if-pivots-ge-BUDGET.true) in
    sym (ap (λ n. turn n c.args.pivots rows full) spent
    ∙ turn-spent c.args.pivots at.0 c.in-Some.column rows full left at.1 at.2 enters)

not_zero : (z : ℤ) → int_lt (pos 0) z ≡ true → ¬ (z ≡ pos 0)
not_zero z e n = omega (arith, ints)

pub exchange_classed-requires-clause-not_zero : goal.exchange_classed-requires-clause-not_zero
exchange_classed-requires-clause-not_zero c = λ left h.
    let table = c.args.classed.kept.table in
    let line = c.index-as_slice-place.result in
    let place = c.args.place in
    let column = c.in-Some.column in
    let same : line ≡ left = c.index-as_slice-place.is ∙ ap (λ xs. get_or xs place line) c.as_slice.ensures
    ∙ get_or_from_slice_get table.lines place left line h in
    let passes = (place_passes (λ (j : ℕ). int_lt (pos 0) (get_or line.coefs j (pos 0))) (λ (j : ℕ). slice_index
    table.nonbasic j) (length table.nonbasic) column (sym c.entering.ensures.choice ∙ c.in-Some.is)).1 in
    subst (λ (l : TableLine). ¬ (coef_at column l ≡ pos 0)) same (not_zero (coef_at column line) passes)

-- the exchange
pub returns-in-Some-2 : goal.returns-in-Some-2
returns-in-Some-2 c = λ full of_run shows.
    let rows = c.args.rows.now in
    let table = c.args.classed.kept.table in
    let place = c.args.place in
    let pivots = c.args.pivots in
    let column = c.in-Some.column in
    let left = line_at table.lines place in
    let line = c.index-as_slice-place.result in
    let is : line ≡ left = c.index-as_slice-place.is ∙ ap (λ xs. get_or xs place line) c.as_slice.ensures
    ∙ get_or_default table.lines place line no_line c.requires.chosen.0 in
    let at = line_leaves rows table c.args.classed.classes full place (reached rows full of_run) shows.stands shows.lead
    c.requires.chosen.0 c.requires.chosen.1 c.requires.chosen.2 in
    let enters = sym (entering-same table full left shows.stands.nonbasic) ∙ ap (entering table) (sym is)
    ∙ sym c.entering.ensures.choice ∙ c.in-Some.is in
    let own = slice_get-get_or table.lines place no_line c.requires.chosen.0 in
    let after = exchanged at.0 column left full in
    let made = subst (IsClassedOrLarge rows after) c.in-Some-2.is
    (c.in_ok-after.ensures full at.0 left of_run shows at.2 own) in
    let turned = exchanges (2000 - pivots) pivots (2000 - (pivots + 1)) at.0 column rows full after left
    (omega (arith, c.if-pivots-ge-BUDGET.false)) at.1 at.2 enters refl in
    (after, sym (turned ∙ goes_small (pivots + 1) after made.1), made.0)

pub returns-in-None : goal.returns-in-None
returns-in-None c = λ full of_run shows.
    let rows = c.args.rows.now in
    let table = c.args.classed.kept.table in
    let place = c.args.place in
    let pivots = c.args.pivots in
    let column = c.in-Some.column in
    let left = line_at table.lines place in
    let line = c.index-as_slice-place.result in
    let is : line ≡ left = c.index-as_slice-place.is ∙ ap (λ xs. get_or xs place line) c.as_slice.ensures
    ∙ get_or_default table.lines place line no_line c.requires.chosen.0 in
    let at = line_leaves rows table c.args.classed.classes full place (reached rows full of_run) shows.stands shows.lead
    c.requires.chosen.0 c.requires.chosen.1 c.requires.chosen.2 in
    let enters = sym (entering-same table full left shows.stands.nonbasic) ∙ ap (entering table) (sym is)
    ∙ sym c.entering.ensures.choice ∙ c.in-Some.is in
    let own = slice_get-get_or table.lines place no_line c.requires.chosen.0 in
    let after = exchanged at.0 column left full in
    let large = subst (IsClassedOrLarge rows after) c.in-None.is
    (c.in_ok-after.ensures full at.0 left of_run shows at.2 own) in
    let turned = exchanges (2000 - pivots) pivots (2000 - (pivots + 1)) at.0 column rows full after left
    (omega (arith, c.if-pivots-ge-BUDGET.false)) at.1 at.2 enters refl in
    sym (turned ∙ stops_large (pivots + 1) after large)
