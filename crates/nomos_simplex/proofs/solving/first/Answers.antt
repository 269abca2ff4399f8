use Rattle.std.proofs.Common.{◌≡◌, List, map, ap, sym, subst, ◌∙◌}
use Rattle.std.specs.List.{range_with_len}
use Rattle.nomos_forms.specs.declared.row_list.RowList.{RowList}
use Rattle.nomos_simplex.specs.Sizes.{IsTable}
use Rattle.nomos_simplex.specs.Tables.{first_table}
use Rattle.nomos_simplex.specs.mirror.Classes.{StandsFor, class_of_star, table_of_classes}
use Rattle.nomos_simplex.specs.declared.classes.Class.{Class}
use Rattle.nomos_simplex.specs.declared.classes.Classes.{Classes}
use Rattle.nomos_simplex.proofs.ClassFirstLemmas.{first-stands}
use Rattle.nomos_simplex.proofs.ClassTableLemmas.{small-is_table}
use Rattle.nomos_simplex.proofs.TableLaws.{first-is_table}
use Rattle.nomos_simplex.proofs.TurningLemmas.{stands-renamed}
use Rattle.nomos_simplex.proofs.solving.first.Goals as goal

-- the classes of the rows, and those of the stars
abbrev of_rows : RowList → List Class → Classes
of_rows rows classes = record { lines = classes; columns = map class_of_star (range_with_len 1 rows.stars) }

pub keep-requires : goal.keep-requires
keep-requires c =
    let rows = c.args.rows.now in
    let classes = c.in_ok-classes.classes.items in
    let is = c.in_ok-table.ensures ∙ ap (table_of_classes rows) c.deref.ensures.value in
    let found = c.in_ok-classes.ensures in
    let stands = first-stands rows classes found.classes found.rows found.cover in
    subst (IsTable rows) (sym is) (small-is_table rows (table_of_classes rows classes) (of_rows rows classes)
    (first_table rows) (first-is_table rows) stands)

pub rename-requires-clause-table : goal.rename-requires-clause-table
rename-requires-clause-table c =
    let rows = c.args.rows.now in
    let classes = c.in_ok-classes.classes.items in
    let is = c.in_ok-table.ensures ∙ ap (table_of_classes rows) c.deref.ensures.value in
    let found = c.in_ok-classes.ensures in
    let stands = first-stands rows classes found.classes found.rows found.cover in
    subst (IsTable rows) (sym (c.in_ok-kept.ensures.table ∙ is)) (small-is_table rows (table_of_classes rows classes)
    (of_rows rows classes) (first_table rows) (first-is_table rows) stands)

pub rename-requires-clause-fit : goal.rename-requires-clause-fit
rename-requires-clause-fit c =
    let rows = c.args.rows.now in
    let classes = c.in_ok-classes.classes.items in
    let is = c.in_ok-table.ensures ∙ ap (table_of_classes rows) c.deref.ensures.value in
    let found = c.in_ok-classes.ensures in
    let stands = first-stands rows classes found.classes found.rows found.cover in
    let all : record { lines = c.of_vec.result; columns = c.of_vec-2.result } ≡ of_rows rows classes = λ p.
    record { lines = c.of_vec.ensures p; columns = (c.of_vec-2.ensures ∙ c.in_ok-stars.ensures) p } in
    let shown = subst (λ a. StandsFor rows c.in_ok-kept.kept.table a (first_table rows)) (sym all)
    (subst (λ t. StandsFor rows t (of_rows rows classes) (first_table rows))
    (sym (c.in_ok-kept.ensures.table ∙ is)) stands) in
    shown.fit

pub returns : goal.returns
returns c =
    let rows = c.args.rows.now in
    let classes = c.in_ok-classes.classes.items in
    let is = c.in_ok-table.ensures ∙ ap (table_of_classes rows) c.deref.ensures.value in
    let found = c.in_ok-classes.ensures in
    let stands = first-stands rows classes found.classes found.rows found.cover in
    let all : record { lines = c.of_vec.result; columns = c.of_vec-2.result } ≡ of_rows rows classes = λ p.
    record { lines = c.of_vec.ensures p; columns = (c.of_vec-2.ensures ∙ c.in_ok-stars.ensures) p } in
    let shown = subst (λ a. StandsFor rows c.in_ok-kept.kept.table a (first_table rows)) (sym all)
    (subst (λ t. StandsFor rows t (of_rows rows classes) (first_table rows))
    (sym (c.in_ok-kept.ensures.table ∙ is)) stands) in
    let renamed = c.in_ok-kept-2.ensures in
    record {
      stands = stands-renamed rows c.in_ok-kept.kept.table c.in_ok-kept-2.kept.table
          (record { lines = c.of_vec.result; columns = c.of_vec-2.result }) renamed.nonbasic renamed.renamed
          (first_table rows) shown;
      lead = renamed.lead;
      shows = renamed.shows;
    }
