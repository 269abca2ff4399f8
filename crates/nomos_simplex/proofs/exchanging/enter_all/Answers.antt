use Rattle.std.proofs.Common.{rules, ◌≡◌, ◌<◌, ◌≤◌, true, Some, length, map, set, get_or, FitsSigned, to_z, of_z, refl, ap, sym, subst, ◌∙◌, arith}
use Rattle.std.specs.Int.{w128}
use Rattle.std.specs.List.{list_any}
use Rattle.std.proofs.lemmas.Int.{to_z-of_z}
use Rattle.std.proofs.lemmas.List.{take_all, length-map}
use Rattle.nomos_simplex.specs.Exchange.{is_large_line}
use Rattle.nomos_simplex.specs.declared.table.TableLine.{TableLine}
use Rattle.nomos_simplex.specs.mirror.Keeping.{over_of, before, entered, IsMade}
use Rattle.nomos_simplex.proofs.KeepingLemmas.{seam_at, seam_more, all_of_seam, map_after, none_more, some_large}
use Rattle.nomos_simplex.proofs.exchanging.enter_all.Goals as goal

-- a number is too large
pub returns-in-None : goal.returns-in-None
returns-in-None c =
    let rows = c.args.rows.now in
    let entry = c.args.entry.now in
    let lines = c.args.lines.now in
    let i = c.loop-i.i in
    let x = c.index-lines-i.result in
    let within : i < length lines = omega arith in
    let at : x ≡ get_or lines i x = c.index-lines-i.is ∙ ap (λ ls. get_or ls i x) c.loop-i.invariant.lines
    ∙ seam_at (entered entry) lines lines i x within refl in
    let made = subst (IsMade rows entry (entered entry (get_or c.loop-i.lines i x)) c.enter_kept.new.line) c.in-None.is
    c.enter_kept.ensures in
    let large = subst (λ (l : TableLine). is_large_line (entered entry l) ≡ true) (sym c.index-lines-i.is) made in
    some_large (entered entry) lines i x within at large

-- one line more
pub loop-i-preserved : goal.loop-i-preserved
loop-i-preserved c =
    let rows = c.args.rows.now in
    let entry = c.args.entry.now in
    let lines = c.args.lines.now in
    let over = c.args.over.now in
    let width : length over ≡ length lines = ap length c.requires.over
    ∙ length-map lines (over_of rows (before entry)) in
    let i = c.loop-i.i in
    let x = c.index-lines-i.result in
    let g = λ (line : TableLine). entered entry line in
    let h = λ (line : TableLine). over_of rows entry.nonbasic.items (entered entry line) in
    let within : i < length lines = omega arith in
    let at : x ≡ get_or lines i x = c.index-lines-i.is ∙ ap (λ ls. get_or ls i x) c.loop-i.invariant.lines
    ∙ seam_at g lines lines i x within refl in
    let made = subst (λ (l : TableLine). IsMade rows entry (g l) c.enter_kept.new.line (Some c.in-Some.next))
    (sym c.index-lines-i.is)
    (subst (IsMade rows entry (g (get_or c.loop-i.lines i x)) c.enter_kept.new.line) c.in-Some.is
    c.enter_kept.ensures) in
    let fits : FitsSigned w128 c.in-Some.next = search rules in
    let back : to_z w128 (of_z w128 c.in-Some.next) ≡ h x = to_z-of_z w128 c.in-Some.next fits ∙ made.1 in
    record {
      lines = (λ p. set (c.loop-i.invariant.lines p) i (made.0 p)) ∙ seam_more g lines lines i x within refl at;
      over = (λ p. set (c.loop-i.invariant.over p) i (back p)) ∙ seam_more h lines over i x within width at;
      small = none_more g lines i x within at c.loop-i.invariant.small made.2;
    }

pub returns : goal.returns
returns c =
    let rows = c.args.rows.now in
    let entry = c.args.entry.now in
    let lines = c.args.lines.now in
    let over = c.args.over.now in
    let width : length over ≡ length lines = ap length c.requires.over
    ∙ length-map lines (over_of rows (before entry)) in
    let i = c.loop-i.i in
    let g = λ (line : TableLine). entered entry line in
    let h = λ (line : TableLine). over_of rows entry.nonbasic.items (entered entry line) in
    let end : length lines ≤ i = omega arith in (
      c.loop-i.invariant.lines ∙ all_of_seam g lines lines i end refl,
      c.loop-i.invariant.over ∙ all_of_seam h lines over i end width
          ∙ map_after (over_of rows entry.nonbasic.items) g lines,
      ap (λ xs. list_any is_large_line (map g xs)) (sym (take_all i lines end)) ∙ c.loop-i.invariant.small,
    )
