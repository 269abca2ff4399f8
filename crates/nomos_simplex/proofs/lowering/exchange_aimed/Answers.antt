use Rattle.std.proofs.Common.{◌≡◌, ℕ, ◌<◌, Bool, true, false, ◌||◌, refl, ◌<ℤ◌, ℤ, pos, neg_ℤ, length, get_or, ap, sym, subst, ◌∙◌, arith}
use Rattle.std.proofs.lemmas.Int.{ints}
use Rattle.std.proofs.lemmas.List.{get_or_default, length-map}
use Rattle.std.proofs.lemmas.Option.{get_or_from_slice_get}
use borrow.Author.Differences.{below_in, lt_out}
use Rattle.nomos_simplex.specs.Divisors.{in_lowest_terms}
use Rattle.nomos_simplex.specs.Exchange.{coef_at, put_into, exchanged, is_large_table, is_large_line}
use Rattle.nomos_simplex.specs.LeastRun.{line_exchanged}
use Rattle.nomos_simplex.specs.Nearest.{line_at}
use Rattle.nomos_simplex.specs.Sizes.{IsLine, HasNumbers}
use Rattle.nomos_simplex.specs.declared.table.TableLine.{TableLine}
use Rattle.nomos_simplex.specs.mirror.Classes.{IsClassedOrLarge}
use Rattle.nomos_simplex.specs.mirror.Opposite.{opposite_of}
use Rattle.nomos_simplex.proofs.ClassLoweringLemmas.{kept-lines}
use Rattle.nomos_simplex.proofs.ExchangedLemmas.{put_not_zero}
use Rattle.nomos_simplex.proofs.OppositeLemmas.{opposite_numbers, coef-opposite, put_turned}
use Rattle.nomos_simplex.proofs.lowering.exchange_aimed.Goals as goal

over_from_under : (z : ℤ) → z <ℤ pos 0 → pos 0 <ℤ neg_ℤ z
over_from_under z h = below_in (pos 0) (neg_ℤ z) (omega (arith, ints, lt_out z (pos 0) h))

not_zero : (z : ℤ) → z <ℤ pos 0 → ¬ (z ≡ pos 0)
not_zero z h e = omega (arith, ints, lt_out z (pos 0) h)

pub opposite_line-requires : goal.opposite_line-requires
opposite_line-requires c =
    let line = c.index-as_slice-place.result in
    let own_lines = kept-lines c.args.rows.now c.args.aimed.classed c.requires.kept in
    let is = c.index-as_slice-place.is ∙ ap (λ xs. get_or xs c.args.place line) c.as_slice.ensures in
    let own = subst (IsLine (length c.args.aimed.classed.kept.table.nonbasic)) (sym is)
    (own_lines c.args.place line c.requires.place.within) in
    record { times = own.times; coefs = own.coefs }

pub enter-small-requires-clause-left : goal.enter-small-requires-clause-left
enter-small-requires-clause-left c =
    let line = c.index-as_slice-place.result in
    let own_lines = kept-lines c.args.rows.now c.args.aimed.classed c.requires.kept in
    let is = c.index-as_slice-place.is ∙ ap (λ xs. get_or xs c.args.place line) c.as_slice.ensures in
    let own = subst (IsLine (length c.args.aimed.classed.kept.table.nonbasic)) (sym is)
    (own_lines c.args.place line c.requires.place.within) in
    subst HasNumbers (sym c.in_ok-left.ensures)
    (opposite_numbers line (record { times = own.times; coefs = own.coefs }))

pub enter-small-requires-clause-over_zero : goal.enter-small-requires-clause-over_zero
enter-small-requires-clause-over_zero c =
    let line = c.index-as_slice-place.result in
    let j = c.args.column in
    let own_lines = kept-lines c.args.rows.now c.args.aimed.classed c.requires.kept in
    let is = c.index-as_slice-place.is ∙ ap (λ xs. get_or xs c.args.place line) c.as_slice.ensures in
    let own = subst (IsLine (length c.args.aimed.classed.kept.table.nonbasic)) (sym is)
    (own_lines c.args.place line c.requires.place.within) in
    let column : j < length line.coefs = subst (λ n. j < n) (sym own.width) c.requires.column in
    let same : line_at c.args.aimed.classed.kept.table.lines c.args.place ≡ line =
    get_or_default c.args.aimed.classed.kept.table.lines c.args.place _ line c.requires.place.within ∙ sym is in
    let under = subst (λ (l : TableLine). coef_at j l <ℤ pos 0) same c.requires.place.below in
    subst (λ (l : TableLine). pos 0 <ℤ coef_at j l) (sym c.in_ok-left.ensures)
    (subst (λ z. pos 0 <ℤ z) (sym (coef-opposite j line column)) (over_from_under (coef_at j line) under))

pub enter-small-requires-clause-line : goal.enter-small-requires-clause-line
enter-small-requires-clause-line c =
    let line = c.index-as_slice-place.result in
    let own_lines = kept-lines c.args.rows.now c.args.aimed.classed c.requires.kept in
    let is = c.index-as_slice-place.is ∙ ap (λ xs. get_or xs c.args.place line) c.as_slice.ensures in
    let own = subst (IsLine (length c.args.aimed.classed.kept.table.nonbasic)) (sym is)
    (own_lines c.args.place line c.requires.place.within) in
    let long : length c.in_ok-left.left.coefs ≡ length c.args.aimed.classed.kept.table.nonbasic =
    ap (λ (l : TableLine). length l.coefs) c.in_ok-left.ensures ∙ length-map line.coefs neg_ℤ ∙ own.width in
    subst (λ n. IsLine n c.args.aimed.line) (sym long) c.requires.line

pub exchange_classed-requires-clause-not_zero : goal.exchange_classed-requires-clause-not_zero
exchange_classed-requires-clause-not_zero c = λ left h.
    let j = c.args.column in
    let same : line_at c.args.aimed.classed.kept.table.lines c.args.place ≡ left =
    get_or_from_slice_get c.args.aimed.classed.kept.table.lines c.args.place left _ h in
    not_zero (coef_at j left) (subst (λ (l : TableLine). coef_at j l <ℤ pos 0) same c.requires.place.below)

line_turned : (j : ℕ) (line left own : TableLine) → j < length line.coefs → ¬ (coef_at j line ≡ pos 0) →
    pos 0 <ℤ own.times → line ≡ left →
    in_lowest_terms (put_into j (opposite_of line) own) ≡ line_exchanged j left own
line_turned j line left own h n over same =
    put_turned j line own h (put_not_zero j line own n over) ∙ ap (λ l. in_lowest_terms (put_into j l own)) same

or_left : (x y : Bool) → x ≡ true → (x || y) ≡ true
or_left true y h = refl
or_left false y h = cc

or_right : (x y : Bool) → y ≡ true → (x || y) ≡ true
or_right true y h = refl
or_right false y h = h

or_neither : (x y : Bool) → x ≡ false → y ≡ false → (x || y) ≡ false
or_neither true y h i = h
or_neither false y h i = i

pub returns-then-is_too_large : goal.returns-then-is_too_large
returns-then-is_too_large c = λ full k left is_reached shows at_full h.
    let rows = c.args.rows.now in
    let j = c.args.column in
    let table = c.args.aimed.classed.kept.table in
    let own = c.args.aimed.line in
    let line = c.index-as_slice-place.result in
    let own_lines = kept-lines c.args.rows.now c.args.aimed.classed c.requires.kept in
    let is = c.index-as_slice-place.is ∙ ap (λ xs. get_or xs c.args.place line) c.as_slice.ensures in
    let fits = subst (IsLine (length table.nonbasic)) (sym is)
    (own_lines c.args.place line c.requires.place.within) in
    let column : j < length line.coefs = subst (λ n. j < n) (sym fits.width) c.requires.column in
    let same : line ≡ left = is ∙ get_or_from_slice_get table.lines c.args.place left line h in
    let at : line_at table.lines c.args.place ≡ line =
    get_or_default table.lines c.args.place _ line c.requires.place.within ∙ sym is in
    let n = not_zero (coef_at j line) (subst (λ (l : TableLine). coef_at j l <ℤ pos 0) at c.requires.place.below) in
    let made : c.enter-small.new.line ≡ line_exchanged j left own =
    c.enter-small.ensures.value ∙ ap (λ l. in_lowest_terms (put_into j l own)) c.in_ok-left.ensures
    ∙ line_turned j line left own column n c.requires.line.positive same in
    or_right (is_large_table (exchanged k j left full)) (is_large_line (line_exchanged j left own))
    (ap is_large_line (sym made) ∙ sym c.is_too_large.ensures ∙ c.if-is_too_large.true)

pub returns-in-None : goal.returns-in-None
returns-in-None c = λ full k left is_reached shows at_full h.
    let rows = c.args.rows.now in
    let j = c.args.column in
    let table = c.args.aimed.classed.kept.table in
    let own = c.args.aimed.line in
    let line = c.index-as_slice-place.result in
    let own_lines = kept-lines c.args.rows.now c.args.aimed.classed c.requires.kept in
    let is = c.index-as_slice-place.is ∙ ap (λ xs. get_or xs c.args.place line) c.as_slice.ensures in
    let fits = subst (IsLine (length table.nonbasic)) (sym is)
    (own_lines c.args.place line c.requires.place.within) in
    let column : j < length line.coefs = subst (λ n. j < n) (sym fits.width) c.requires.column in
    let same : line ≡ left = is ∙ get_or_from_slice_get table.lines c.args.place left line h in
    let at : line_at table.lines c.args.place ≡ line =
    get_or_default table.lines c.args.place _ line c.requires.place.within ∙ sym is in
    let n = not_zero (coef_at j line) (subst (λ (l : TableLine). coef_at j l <ℤ pos 0) at c.requires.place.below) in
    let made : c.enter-small.new.line ≡ line_exchanged j left own =
    c.enter-small.ensures.value ∙ ap (λ l. in_lowest_terms (put_into j l own)) c.in_ok-left.ensures
    ∙ line_turned j line left own column n c.requires.line.positive same in
    let large = subst (IsClassedOrLarge rows (exchanged k j left full)) c.in-None.is
    (c.in_ok-classed.ensures full k left is_reached shows at_full h) in
    or_left (is_large_table (exchanged k j left full)) (is_large_line (line_exchanged j left own)) large

pub returns-in-Some : goal.returns-in-Some
returns-in-Some c = λ full k left is_reached shows at_full h.
    let rows = c.args.rows.now in
    let j = c.args.column in
    let table = c.args.aimed.classed.kept.table in
    let own = c.args.aimed.line in
    let line = c.index-as_slice-place.result in
    let own_lines = kept-lines c.args.rows.now c.args.aimed.classed c.requires.kept in
    let is = c.index-as_slice-place.is ∙ ap (λ xs. get_or xs c.args.place line) c.as_slice.ensures in
    let fits = subst (IsLine (length table.nonbasic)) (sym is)
    (own_lines c.args.place line c.requires.place.within) in
    let column : j < length line.coefs = subst (λ n. j < n) (sym fits.width) c.requires.column in
    let same : line ≡ left = is ∙ get_or_from_slice_get table.lines c.args.place left line h in
    let at : line_at table.lines c.args.place ≡ line =
    get_or_default table.lines c.args.place _ line c.requires.place.within ∙ sym is in
    let n = not_zero (coef_at j line) (subst (λ (l : TableLine). coef_at j l <ℤ pos 0) at c.requires.place.below) in
    let made : c.enter-small.new.line ≡ line_exchanged j left own =
    c.enter-small.ensures.value ∙ ap (λ l. in_lowest_terms (put_into j l own)) c.in_ok-left.ensures
    ∙ line_turned j line left own column n c.requires.line.positive same in
    let kept = subst (IsClassedOrLarge rows (exchanged k j left full)) c.in-Some.is
    (c.in_ok-classed.ensures full k left is_reached shows at_full h) in (
      kept.0,
      made,
      or_neither (is_large_table (exchanged k j left full)) (is_large_line (line_exchanged j left own))
          kept.1 (ap is_large_line (sym made) ∙ sym c.is_too_large.ensures ∙ c.if-is_too_large.false),
    )
