use Rattle.std.proofs.Common.{◌≡◌, IfOk, subst, sym, ◌∙◌, ap, All, arith}
use Rattle.nomos_simplex.specs.Exits.{found_or_large}
use Rattle.nomos_simplex.specs.Sizes.{IsLine}
use Rattle.nomos_simplex.specs.mirror.Classes.{IsReached}
use Rattle.nomos_simplex.specs.mirror.Steps.{IsSought}
use Rattle.nomos_simplex.proofs.ClassTableLemmas.{small-is_table, fractions-stand}
use Rattle.nomos_simplex.proofs.TurningLemmas.{reached}
use Rattle.nomos_simplex.proofs.solving.run_all.Goals as goal

pub found-requires-clause-few : goal.found-requires-clause-few
found-requires-clause-few c =
    let rows = c.args.rows.now in
    let at = subst (IsSought rows) c.in-Stands.is c.in_ok-classed.ensures in
    let classed = c.in-Stands.classed in
    let table = small-is_table rows classed.kept.table classed.classes at.full
    (reached rows at.full (IsReached.by_pivots c.in-Stands.pivots at.reaches)) at.shows.stands in
    omega (arith, table.width, rows.few_stars)

pub found-requires-clause-lines : goal.found-requires-clause-lines
found-requires-clause-lines c =
    let rows = c.args.rows.now in
    let at = subst (IsSought rows) c.in-Stands.is c.in_ok-classed.ensures in
    let classed = c.in-Stands.classed in
    let table = small-is_table rows classed.kept.table classed.classes at.full
    (reached rows at.full (IsReached.by_pivots c.in-Stands.pivots at.reaches)) at.shows.stands in
    subst (λ n. All (IsLine n) classed.kept.table.lines) (sym table.width) table.lines

pub returns-in-Stands : goal.returns-in-Stands
returns-in-Stands c =
    let rows = c.args.rows.now in
    let at = subst (IsSought rows) c.in-Stands.is c.in_ok-classed.ensures in
    let classed = c.in-Stands.classed in
    let same = fractions-stand rows classed.kept.table classed.classes at.full
    (reached rows at.full (IsReached.by_pivots c.in-Stands.pivots at.reaches)) at.shows.stands in
    subst (λ s. IfOk c.found.result (λ answer. answer ≡ s)) (ap (found_or_large c.in-Stands.pivots) same ∙ at.answer)
    c.found.ensures
