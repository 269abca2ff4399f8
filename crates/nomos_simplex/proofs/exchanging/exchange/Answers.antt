use Rattle.std.proofs.Common.{rules, FitsSigned, ◌≡◌, ◌<◌, ◌≤◌, ◌++◌, [], ◌∷◌, pos, ◌<ℤ◌, All, length, map, set, get_or, refl, ap, sym, subst, ◌∙◌}
use Rattle.std.specs.Int.{w128}
use Rattle.std.specs.List.{list_any}
use Rattle.std.specs.Prelude.{remove, IfSome}
use Rattle.std.specs.Vec.{with_item}
use Rattle.std.proofs.lemmas.Int.{to_z-of_z}
use Rattle.std.proofs.lemmas.List.{get_or_default, get_or-map, length-set}
use Rattle.std.proofs.lemmas.Option.{get_or_from_slice_get, slice_get_read}
use Rattle.nomos_simplex.proofs.CountLemmas.{All-remove}
use Rattle.nomos_simplex.specs.Divisors.{in_lowest_terms}
use Rattle.nomos_simplex.specs.Exchange.{coef_at, put_into, solved_for, lines_exchanged, is_large_line}
use Rattle.nomos_simplex.specs.Sizes.{IsLine, HasNumbers}
use Rattle.nomos_simplex.specs.Tables.{bound_of}
use Rattle.nomos_simplex.specs.declared.exchanging.EnteredLine.{EnteredLine}
use Rattle.nomos_simplex.specs.declared.table.TableLine.{TableLine}
use Rattle.nomos_simplex.specs.mirror.Keeping.{over_of, entered, solved_line, AreMade}
use Rattle.nomos_simplex.specs.mirror.Opposite.{oriented_of}
use Rattle.nomos_simplex.specs.mirror.SkipsZeros.{SkipsZeros}
use Rattle.nomos_simplex.proofs.KeepingLemmas.{removed_overs, set_again, lines_by_oriented}
use Rattle.nomos_simplex.proofs.OppositeLemmas.{oriented_over, oriented_width, oriented_numbers, oriented_basic}
use Rattle.nomos_simplex.proofs.exchanging.exchange.Goals as goal

pub exchange_lines-requires-clause-entry : goal.exchange_lines-requires-clause-entry
exchange_lines-requires-clause-entry c =
    let table = c.args.kept.table in
    let j = c.args.column in
    let own = c.remove-own.result in
    let at : own ≡ get_or table.lines c.args.place own =
    c.remove-own.ensures.value ∙ ap (λ ls. get_or ls c.args.place own) c.into_vec-lines.ensures in
    let line = subst (IsLine (length table.nonbasic)) (sym at) (c.requires.lines c.args.place own c.requires.place) in
    let there = slice_get_read table.lines _ c.args.place own refl c.requires.place at in
    let z = c.requires.not_zero own there in
    let column : j < length own.coefs = subst (λ n. j < n) (sym line.width) c.requires.column in
    let is = c.in_ok-left.ensures in
    let width = ap (λ (l : TableLine). length l.coefs) is ∙ oriented_width j own column z in
    let size = length-set c.into_vec-nonbasic.result.items j c.in_ok-left.left.basic
    ∙ ap length c.into_vec-nonbasic.ensures in
    record {
      column = subst (λ n. j < n) (sym width) column;
      left = subst HasNumbers (sym is)
          (oriented_numbers j own column z (record { times = line.times; coefs = line.coefs }));
      over_zero = subst (λ (l : TableLine). pos 0 <ℤ coef_at j l) (sym is) (oriented_over j own column z);
      width = size ∙ sym line.width ∙ sym width;
      few = subst (λ n. n ≤ 64) (sym size) c.requires.few;
      over = c.oriented_over-own_over.ensures.small;
      skips = subst (SkipsZeros c.in_ok-next.next.items) c.as_slice.ensures c.in_ok-next.ensures;
    }

pub exchange_lines-requires-clause-lines : goal.exchange_lines-requires-clause-lines
exchange_lines-requires-clause-lines c =
    let table = c.args.kept.table in
    let j = c.args.column in
    let own = c.remove-own.result in
    let at : own ≡ get_or table.lines c.args.place own =
    c.remove-own.ensures.value ∙ ap (λ ls. get_or ls c.args.place own) c.into_vec-lines.ensures in
    let line = subst (IsLine (length table.nonbasic)) (sym at) (c.requires.lines c.args.place own c.requires.place) in
    let there = slice_get_read table.lines _ c.args.place own refl c.requires.place at in
    let z = c.requires.not_zero own there in
    let column : j < length own.coefs = subst (λ n. j < n) (sym line.width) c.requires.column in
    let width = ap (λ (l : TableLine). length l.coefs) c.in_ok-left.ensures ∙ oriented_width j own column z in
    let P = IsLine (length c.in_ok-left.left.coefs) in
    let rest = c.remove-own.ensures.items ∙ ap (λ ls. remove ls c.args.place) c.into_vec-lines.ensures in
    subst (All P) (sym rest) (All-remove P table.lines c.args.place
    (subst (λ n. All (IsLine n) table.lines) (sym line.width ∙ sym width) c.requires.lines))

pub exchange_lines-requires-clause-shows : goal.exchange_lines-requires-clause-shows
exchange_lines-requires-clause-shows c =
    let table = c.args.kept.table in
    let rows = c.args.rows.now in
    let j = c.args.column in
    let i = c.args.place in
    let own = c.remove-own.result in
    let vs = c.into_vec-nonbasic.result.items in
    let s = c.in_ok-left.left.basic in
    let e = c.index-entering.result.now in
    let low : j < length vs = subst (λ ws. j < length ws) (sym c.into_vec-nonbasic.ensures) c.requires.column in
    let again : set (set vs j s) j e ≡ vs = set_again vs j s e low c.index-entering.ensures in
    let at : own ≡ get_or table.lines i own =
    c.remove-own.ensures.value ∙ ap (λ ls. get_or ls i own) c.into_vec-lines.ensures in
    let x = c.remove.result in
    let own_over : x ≡ over_of rows table.nonbasic own = c.remove.ensures.value
    ∙ ap (λ zs. get_or zs i x) (c.into_vec-over.ensures ∙ c.requires.shows)
    ∙ get_or-map (over_of rows table.nonbasic) table.lines i own x c.requires.place
    ∙ ap (over_of rows table.nonbasic) (sym at) in
    let fits : FitsSigned w128 x = search rules in
    let over = c.oriented_over-own_over.ensures.value rows table.nonbasic (to_z-of_z w128 x fits ∙ own_over) in
    record {
      after = ap (λ ws. set ws j s) (sym again);
      value = c.in_ok-bounds.ensures.value ∙ ap (map (bound_of rows)) c.deref.ensures.value;
      small = c.in_ok-bounds.ensures.small;
      over = subst (λ ws. IfSome c.oriented_over-own_over.result (λ z. z ≡ over_of rows ws c.in_ok-left.left))
          (sym (again ∙ c.into_vec-nonbasic.ensures))
          (subst (λ l. IfSome c.oriented_over-own_over.result (λ z. z ≡ over_of rows table.nonbasic l))
          (sym c.in_ok-left.ensures) over);
    }

pub exchange_lines-requires-clause-over : goal.exchange_lines-requires-clause-over
exchange_lines-requires-clause-over c =
    let table = c.args.kept.table in
    let rows = c.args.rows.now in
    let j = c.args.column in
    let vs = c.into_vec-nonbasic.result.items in
    let s = c.in_ok-left.left.basic in
    let e = c.index-entering.result.now in
    let low : j < length vs = subst (λ ws. j < length ws) (sym c.into_vec-nonbasic.ensures) c.requires.column in
    let again : set (set vs j s) j e ≡ vs = set_again vs j s e low c.index-entering.ensures in
    let rest = c.remove-own.ensures.items ∙ ap (λ ls. remove ls c.args.place) c.into_vec-lines.ensures in
    let over = c.remove.ensures.items ∙ ap (λ zs. remove zs c.args.place) c.into_vec-over.ensures
    ∙ removed_overs (over_of rows table.nonbasic) table.lines c.args.kept.over c.args.place c.requires.shows in
    over ∙ (λ p. map (over_of rows (sym (again ∙ c.into_vec-nonbasic.ensures) p)) (sym rest p))

pub returns-then-large : goal.returns-then-large
returns-then-large c = λ left h.
    let table = c.args.kept.table in
    let rows = c.args.rows.now in
    let j = c.args.column in
    let own = c.remove-own.result in
    let e = c.index-entering.result.now in
    let entry : EnteredLine = record {
      column = j;
      entering = e;
      left = c.in_ok-left.left;
      next = c.in_ok-next.next;
      over = c.oriented_over-own_over.result;
      nonbasic = with_item c.into_vec-nonbasic.result j c.in_ok-left.left.basic;
      bounds = c.in_ok-bounds.bounds;
    } in
    let at : own ≡ get_or table.lines c.args.place own =
    c.remove-own.ensures.value ∙ ap (λ ls. get_or ls c.args.place own) c.into_vec-lines.ensures in
    let line = subst (IsLine (length table.nonbasic)) (sym at) (c.requires.lines c.args.place own c.requires.place) in
    let z = c.requires.not_zero own (slice_get_read table.lines _ c.args.place own refl c.requires.place at) in
    let column : j < length own.coefs = subst (λ n. j < n) (sym line.width) c.requires.column in
    let own_is : own ≡ left = at ∙ get_or_from_slice_get table.lines c.args.place left own h in
    let is : c.in_ok-left.left ≡ oriented_of j own = c.in_ok-left.ensures in
    let rest = c.remove-own.ensures.items ∙ ap (λ ls. remove ls c.args.place) c.into_vec-lines.ensures in
    let enters : e ≡ get_or table.nonbasic j 0 = c.index-entering.ensures
    ∙ ap (λ xs. get_or xs j e) c.into_vec-nonbasic.ensures ∙ get_or_default table.nonbasic j e 0 c.requires.column in
    let all = map (entered entry) c.remove-own.new.self.items ++ solved_line entry ∷ [] in
    let same : all ≡ lines_exchanged c.args.place j (get_or table.nonbasic j 0) left table.lines =
    (λ p. map (λ l. in_lowest_terms (put_into j (is p) l)) (rest p)
    ++ in_lowest_terms (solved_for j (enters p) (is p)) ∷ [])
    ∙ lines_by_oriented (length table.nonbasic) c.args.place j (get_or table.nonbasic j 0) own table.lines
    c.requires.lines column z
    ∙ ap (λ l. lines_exchanged c.args.place j (get_or table.nonbasic j 0) l table.lines) own_is in
    let made = subst (AreMade rows entry all c.exchange_lines.new.lines.items c.exchange_lines.new.over.items)
    c.if-large.true c.in_ok-large.ensures in
    ap (list_any is_large_line) (sym same) ∙ made

pub returns : goal.returns
returns c = λ left h.
    let table = c.args.kept.table in
    let rows = c.args.rows.now in
    let j = c.args.column in
    let own = c.remove-own.result in
    let e = c.index-entering.result.now in
    let entry : EnteredLine = record {
      column = j;
      entering = e;
      left = c.in_ok-left.left;
      next = c.in_ok-next.next;
      over = c.oriented_over-own_over.result;
      nonbasic = with_item c.into_vec-nonbasic.result j c.in_ok-left.left.basic;
      bounds = c.in_ok-bounds.bounds;
    } in
    let at : own ≡ get_or table.lines c.args.place own =
    c.remove-own.ensures.value ∙ ap (λ ls. get_or ls c.args.place own) c.into_vec-lines.ensures in
    let line = subst (IsLine (length table.nonbasic)) (sym at) (c.requires.lines c.args.place own c.requires.place) in
    let z = c.requires.not_zero own (slice_get_read table.lines _ c.args.place own refl c.requires.place at) in
    let column : j < length own.coefs = subst (λ n. j < n) (sym line.width) c.requires.column in
    let own_is : own ≡ left = at ∙ get_or_from_slice_get table.lines c.args.place left own h in
    let is : c.in_ok-left.left ≡ oriented_of j own = c.in_ok-left.ensures in
    let rest = c.remove-own.ensures.items ∙ ap (λ ls. remove ls c.args.place) c.into_vec-lines.ensures in
    let enters : e ≡ get_or table.nonbasic j 0 = c.index-entering.ensures
    ∙ ap (λ xs. get_or xs j e) c.into_vec-nonbasic.ensures ∙ get_or_default table.nonbasic j e 0 c.requires.column in
    let all = map (entered entry) c.remove-own.new.self.items ++ solved_line entry ∷ [] in
    let same : all ≡ lines_exchanged c.args.place j (get_or table.nonbasic j 0) left table.lines =
    (λ p. map (λ l. in_lowest_terms (put_into j (is p) l)) (rest p)
    ++ in_lowest_terms (solved_for j (enters p) (is p)) ∷ [])
    ∙ lines_by_oriented (length table.nonbasic) c.args.place j (get_or table.nonbasic j 0) own table.lines
    c.requires.lines column z
    ∙ ap (λ l. lines_exchanged c.args.place j (get_or table.nonbasic j 0) l table.lines) own_is in
    let made = subst (AreMade rows entry all c.exchange_lines.new.lines.items c.exchange_lines.new.over.items)
    c.if-large.false c.in_ok-large.ensures in
    let basic = ap (λ (l : TableLine). l.basic) is ∙ oriented_basic j own column z
    ∙ ap (λ (l : TableLine). l.basic) own_is in
    let nonbasic = c.of_vec.ensures ∙ (λ p. set (c.into_vec-nonbasic.ensures p) j (basic p)) in
    let lines = c.of_vec-2.ensures ∙ made.0 in (
      (λ p. record { nonbasic = nonbasic p; lines = (lines ∙ same) p }),
      c.of_vec-3.ensures ∙ made.1 ∙ (λ p. map (over_of rows (sym c.of_vec.ensures p)) (sym lines p)),
      ap (list_any is_large_line) (sym same) ∙ made.2,
    )
