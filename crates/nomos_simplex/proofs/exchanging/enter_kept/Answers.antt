use Rattle.std.proofs.Common.{rules, ◌≡◌, FitsSigned, pos, false, length, get_or, to_z, of_z, ap, sym, subst, ◌∙◌, arith}
use Rattle.std.specs.Int.{w128}
use Rattle.std.proofs.lemmas.Int.{to_z-of_z}
use Rattle.nomos_simplex.specs.Exchange.{coef_at, is_large_line}
use Rattle.nomos_simplex.specs.Sizes.{IsLine}
use Rattle.nomos_simplex.specs.mirror.Keeping.{over_of, IsPut, IsKeptPut, entered}
use Rattle.nomos_simplex.proofs.KeepingLemmas.{unchanged_over, line_small, entered_line, put_kept, some_weaker}
use Rattle.nomos_simplex.proofs.LineLemmas.{skipped}
use Rattle.nomos_simplex.proofs.NumberLemmas.{number_back}
use Rattle.nomos_simplex.proofs.exchanging.enter_kept.Goals as goal

-- a line without the entering variable
pub returns-then-as_slice-entry-eq0 : goal.returns-then-as_slice-entry-eq0
returns-then-as_slice-entry-eq0 c =
    let entry = c.args.entry.now in
    let line = c.args.line.now in
    let j = entry.column in
    let low = c.requires.entry.column in
    let width = c.requires.line.width in
    let zero : coef_at j line ≡ pos 0 = sym (number_back (coef_at j line) (c.requires.line.coefs j (pos 0) (omega
    (arith, width, low)))) ∙ ap (λ xs. to_z w128 (of_z w128 (get_or xs j (pos 0)))) (sym c.as_slice.ensures)
    ∙ ap (to_z w128) c.if-as_slice-entry-eq0.true in
    let same : entered entry line ≡ line = skipped j entry.left line low width c.requires.entry.over_zero
    c.requires.line.positive zero c.requires.lowest in (
      sym same,
      to_z-of_z w128 c.args.over c.ranges.over ∙ c.requires.over
          ∙ unchanged_over c.args.rows.now entry.nonbasic.items j entry.entering line (omega
          (arith, low, c.requires.entry.width)) (width ∙ sym c.requires.entry.width) zero
          ∙ ap (over_of c.args.rows.now entry.nonbasic.items) (sym same),
      ap is_large_line same ∙ line_small (length entry.left.coefs) line c.requires.line,
    )

pub over_after-requires-clause-line : goal.over_after-requires-clause-line
over_after-requires-clause-line c =
    let entry = c.args.entry.now in
    let line = c.args.line.now in
    let is : c.enter-small.new.line ≡ entered entry line = c.enter-small.ensures.value in
    let small : is_large_line (entered entry line) ≡ false =
    ap is_large_line (sym is) ∙ sym c.is_too_large.ensures ∙ c.if-is_too_large.false in
    subst (IsLine (length entry.left.coefs)) (sym is) (entered_line entry line c.requires.entry c.requires.line small)

pub over_after-requires-clause-put : goal.over_after-requires-clause-put
over_after-requires-clause-put c =
    let rows = c.args.rows.now in
    let entry = c.args.entry.now in
    let line = c.args.line.now in
    let over = to_z-of_z w128 c.args.over c.ranges.over ∙ c.requires.over in
    some_weaker (IsPut rows entry line) (IsKeptPut rows entry c.enter-small.new.line) c.put_of-put.result
    (λ put. put_kept rows entry line c.enter-small.new.line put c.requires.entry c.requires.line
    c.enter-small.ensures.value)
    (c.put_of-put.ensures rows c.requires.shows over)

pub returns : goal.returns
returns c =
    let rows = c.args.rows.now in
    let entry = c.args.entry.now in
    let line = c.args.line.now in
    let is : c.enter-small.new.line ≡ entered entry line = c.enter-small.ensures.value in
    let fits : FitsSigned w128 c.over_after.result = search rules in (
      is,
      to_z-of_z w128 c.over_after.result fits ∙ c.over_after.ensures ∙ ap (over_of rows entry.nonbasic.items) is,
      ap is_large_line (sym is) ∙ sym c.is_too_large.ensures ∙ c.if-is_too_large.false,
    )
