use Rattle.std.proofs.Common.{length, get_or, refl, sym, subst, ◌∙◌, arith, All, Some}
use Rattle.std.specs.Prelude.{slice_get}
use Rattle.std.proofs.lemmas.List.{get_or_default}
use Rattle.std.proofs.lemmas.Option.{slice_get_read, get_or_from_slice_get}
use Rattle.nomos_simplex.specs.Exchange.{exchanged}
use Rattle.nomos_simplex.specs.Sizes.{IsLine, IsTable}
use Rattle.nomos_simplex.specs.mirror.Classes.{Fit, StandsFor}
use Rattle.nomos_simplex.specs.mirror.Keeping.{IsKeptOrLarge}
use Rattle.nomos_simplex.specs.declared.table.TableLine.{TableLine}
use Rattle.nomos_simplex.specs.declared.table.Table.{Table}
use Rattle.nomos_simplex.proofs.ClassExchangeLemmas.{fit-exchanged}
use Rattle.nomos_simplex.proofs.ClassLemmas.{no_line}
use Rattle.nomos_simplex.proofs.TurningLemmas.{reached, kept-is_table, may_exchange, exchanged-is_small_table, stands-renamed, stands_after, large_after}
use Rattle.nomos_simplex.proofs.turning.exchange_classed.Goals as goal

pub exchange-requires-clause-few : goal.exchange-requires-clause-few
exchange-requires-clause-few c =
    let table = kept-is_table c.args.rows.now c.args.classed c.requires.kept in
    omega (arith, table.width, c.args.rows.now.few_stars)

pub exchange-requires-clause-lines : goal.exchange-requires-clause-lines
exchange-requires-clause-lines c =
    let table = kept-is_table c.args.rows.now c.args.classed c.requires.kept in
    subst (λ n. All (IsLine n) c.args.classed.kept.table.lines) (sym table.width) table.lines

pub exchange-requires-clause-lowest : goal.exchange-requires-clause-lowest
exchange-requires-clause-lowest c = (kept-is_table c.args.rows.now c.args.classed c.requires.kept).lowest

-- the full table has too large a number, too
pub returns-in_default : goal.returns-in_default
returns-in_default c = λ full k left is shows at own.
    let rows = c.args.rows.now in
    let table = c.args.classed.kept.table in
    let i = c.args.place in
    let j = c.args.column in
    let large = subst (IsKeptOrLarge rows (exchanged i j left table)) c.in_default.is (c.in_ok-kept.ensures left own) in
    large_after rows i k j left table c.args.classed.classes full (reached rows full is) shows.stands at own
    c.requires.column (c.requires.not_zero left own) ∙ large

-- ---- what is kept after the exchange
pub rename-requires-clause-shows : goal.rename-requires-clause-shows
rename-requires-clause-shows c =
    let table = c.args.classed.kept.table in
    let i = c.args.place in
    let left = get_or table.lines i no_line in
    let own = slice_get_read table.lines (length table.lines) i left refl c.requires.place
    (get_or_default table.lines i no_line left c.requires.place) in
    (subst (IsKeptOrLarge c.args.rows.now (exchanged i c.args.column left table)) c.in-Some.is
    (c.in_ok-kept.ensures left own)).1

pub rename-requires-clause-table : goal.rename-requires-clause-table
rename-requires-clause-table c =
    let rows = c.args.rows.now in
    let table = c.args.classed.kept.table in
    let i = c.args.place in
    let j = c.args.column in
    let left = get_or table.lines i no_line in
    let own = slice_get_read table.lines (length table.lines) i left refl c.requires.place
    (get_or_default table.lines i no_line left c.requires.place) in
    let made = subst (IsKeptOrLarge rows (exchanged i j left table)) c.in-Some.is (c.in_ok-kept.ensures left own) in
    let is_table = kept-is_table rows c.args.classed c.requires.kept in
    subst (IsTable rows) (sym made.0) (exchanged-is_small_table rows i j left table is_table
    (may_exchange rows i j left table is_table own c.requires.column (c.requires.not_zero left own)) made.2)

pub rename-requires-clause-fit : goal.rename-requires-clause-fit
rename-requires-clause-fit c =
    let rows = c.args.rows.now in
    let table = c.args.classed.kept.table in
    let classes = c.args.classed.classes in
    let i = c.args.place in
    let j = c.args.column in
    let left = get_or table.lines i no_line in
    let own = slice_get_read table.lines (length table.lines) i left refl c.requires.place
    (get_or_default table.lines i no_line left c.requires.place) in
    let made = subst (IsKeptOrLarge rows (exchanged i j left table)) c.in-Some.is (c.in_ok-kept.ensures left own) in
    subst (λ t. Fit rows t c.in_ok-classes.classes) (sym made.0)
    (subst (Fit rows (exchanged i j left table)) (sym c.in_ok-classes.ensures)
    (fit-exchanged rows i j left table classes c.requires.kept.shows.stands.fit own c.requires.column))

pub returns : goal.returns
returns c = λ full k left is shows at own.
    let rows = c.args.rows.now in
    let table = c.args.classed.kept.table in
    let classes = c.args.classed.classes in
    let i = c.args.place in
    let j = c.args.column in
    let of_rows = reached rows full is in
    let not_zero = c.requires.not_zero left own in
    let made = subst (IsKeptOrLarge rows (exchanged i j left table)) c.in-Some.is (c.in_ok-kept.ensures left own) in
    let after = exchanged k j left full in
    let stands = subst (λ t. StandsFor rows t c.in_ok-classes.classes after) (sym made.0)
    (subst (λ a. StandsFor rows (exchanged i j left table) a after) (sym c.in_ok-classes.ensures)
    (stands_after rows i k j left table classes full of_rows shows.stands at own c.requires.column not_zero)) in
    let renamed = c.in_ok-kept-2.ensures in (
      record {
        stands = stands-renamed rows c.in-Some.kept.table c.in_ok-kept-2.kept.table c.in_ok-classes.classes
            renamed.nonbasic renamed.renamed after stands;
        lead = renamed.lead;
        shows = renamed.shows;
      },
      large_after rows i k j left table classes full of_rows shows.stands at own c.requires.column not_zero ∙ made.2,
    )
