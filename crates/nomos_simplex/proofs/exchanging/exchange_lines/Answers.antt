use Rattle.std.proofs.Common.{◌≡◌, ◌++◌, [], ◌∷◌, false, length, map, drop, to_z, of_z, ap, sym, subst, ◌∙◌, arith}
use Rattle.std.specs.Int.{w128}
use Rattle.std.specs.List.{list_any}
use Rattle.std.proofs.lemmas.List.{length-map}
use Rattle.nomos_forms.proofs.ProductLemmas.{wide_back}
use Rattle.nomos_simplex.specs.Exchange.{is_large_line}
use Rattle.nomos_simplex.specs.Sizes.{IsLine}
use Rattle.nomos_simplex.specs.declared.table.TableLine.{TableLine}
use Rattle.nomos_simplex.specs.Tables.{bound_of}
use Rattle.nomos_simplex.specs.mirror.Keeping.{over_of, before, entered, solved_line, AreMade}
use Rattle.nomos_simplex.proofs.KeepingLemmas.{solved_is_line, written, map_behind, none_behind}
use Rattle.nomos_simplex.proofs.LineLemmas.{over_by_bounds}
use Rattle.nomos_simplex.proofs.exchanging.exchange_lines.Goals as goal

pub over_of-requires-clause-line : goal.over_of-requires-clause-line
over_of-requires-clause-line c =
    let entry = c.args.entry.now in
    let is : c.in_ok-line.line ≡ solved_line entry = c.in_ok-line.ensures in
    let small : is_large_line (solved_line entry) ≡ false =
    ap is_large_line (sym is) ∙ sym c.has_large_number.ensures ∙ c.if-has_large_number.false in
    let width : length entry.left.coefs ≡ length c.deref.result.now =
    sym c.requires.entry.width ∙ sym (length-map entry.nonbasic.items (bound_of c.args.rows.now))
    ∙ ap length (sym c.requires.shows.value ∙ sym c.deref.ensures.value) in
    subst (λ n. IsLine n c.in_ok-line.line) width
    (subst (IsLine (length entry.left.coefs)) (sym is) (solved_is_line entry c.requires.entry small))

pub returns : goal.returns
returns c =
    let entry = c.args.entry.now in
    let rows = c.args.rows.now in
    let f = λ (line : TableLine). over_of rows entry.nonbasic.items line in
    let all = map (entered entry) c.args.lines.now.items in
    let front = ap (map (entered entry)) c.deref_mut.ensures.value in
    let made = subst (AreMade rows entry (map (entered entry) c.deref_mut.result.now) c.enter_all-large.new.lines
    c.enter_all-large.new.over) c.if-large.false c.enter_all-large.ensures in
    let lines : c.enter_all-large.new.lines ≡ all = made.0 ∙ front in
    let over : c.enter_all-large.new.over ≡ map f all = made.1 ∙ ap (map f) front in
    let width = length-map c.args.lines.now.items (entered entry) in
    let count_lines = sym c.deref_mut.ensures.len ∙ ap length c.deref_mut.ensures.value ∙ sym width
    ∙ ap length (sym lines) in
    let count_over = sym c.deref_mut-2.ensures.len ∙ ap length c.deref_mut-2.ensures.value ∙ (ap length c.requires.over
    ∙ length-map c.args.lines.now.items (over_of rows (before entry)))
    ∙ sym width ∙ sym (length-map all f) ∙ ap length (sym over) in
    let is : c.in_ok-line.line ≡ solved_line entry = c.in_ok-line.ensures in
    let small : is_large_line (solved_line entry) ≡ false =
    ap is_large_line (sym is) ∙ sym c.has_large_number.ensures ∙ c.if-has_large_number.false in
    let value : to_z w128 (of_z w128 c.over_of.result) ≡ f (solved_line entry) =
    wide_back c.over_of.result (omega (arith, c.over_of.ensures.size)) ∙ c.over_of.ensures.value
    ∙ over_by_bounds rows entry.nonbasic.items c.deref.result.now c.in_ok-line.line (c.deref.ensures.value
    ∙ c.requires.shows.value) ∙ ap f is in (
      c.in_ok-push-2.ensures.items
          ∙ (λ p. (written c.args.lines.now.len c.enter_all-large.new.lines
          (drop (length c.enter_all-large.new.lines) c.args.lines.now.items) count_lines ∙ lines) p ++ is p ∷ []),
      c.in_ok-push.ensures.items
          ∙ (λ p. (written c.args.over.now.len c.enter_all-large.new.over
          (drop (length c.enter_all-large.new.over) c.args.over.now.items) count_over ∙ over) p ++ value p ∷ [])
          ∙ sym (map_behind f all (solved_line entry)),
      none_behind all (solved_line entry) (ap (list_any is_large_line) (sym front) ∙ made.2) small,
    )
