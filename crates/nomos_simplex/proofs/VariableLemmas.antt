-- Each variable stands once in a table, as a nonbasic or as a basic one.
use Rattle.std.proofs.Common.{◌≡◌, ℕ, zero, suc, ◌+◌, ◌<◌, ◌≤◌, ◌==◌, List, [], ◌∷◌, length, map, get_or, set, Bool, true, false, cond, ap, sym, refl, subst, ◌∙◌, arith, pos, All, ◌⊎◌, ◌≢◌, ⊎_elim, Option, Some, None}
use Rattle.std.specs.List.{remove, range_with_len, count_by, find}
use Rattle.std.proofs.lemmas.Bool.{eq-eqb, cases_lt}
use Rattle.std.proofs.lemmas.Bool.Decides.{eqb_tells}
use Rattle.std.proofs.lemmas.List.Sums.{sum_by-set, sum_by-remove, sum_by_push, sum_by-cons}
use Rattle.std.proofs.lemmas.Option.{get_or_from_slice_get, slice_get_within}
use Rattle.nomos_forms.specs.declared.row.Row.{Row}
use Rattle.nomos_forms.specs.declared.row_list.RowList.{RowList}
use Rattle.nomos_simplex.specs.Divisors.{in_lowest_terms}
use Rattle.nomos_simplex.specs.Exchange.{solved_for, put_into, exchanged}
use Rattle.nomos_simplex.specs.Sizes.{IsVariable}
use Rattle.nomos_simplex.specs.Tables.{lines_from, first_table}
use Rattle.nomos_simplex.specs.declared.table.TableLine.{TableLine}
use Rattle.nomos_simplex.specs.declared.table.Table.{Table}
use Rattle.nomos_simplex.proofs.CountLemmas.{sum_by-map, counted}
use Rattle.nomos_simplex.proofs.ExchangedLemmas.{MayExchange}

-- how often a variable is nonbasic, and how often basic
abbrev pub nonbasic_times : ℕ → List ℕ → ℕ
nonbasic_times v vs = count_by (λ w. w == v) vs

abbrev pub basic_times : ℕ → List TableLine → ℕ
basic_times v lines = count_by (λ line. line.basic == v) lines

-- a count of v is 1 within a range, and 0 outside of it
record IsOnceWithin (a b v c : ℕ) : Type 0 where
  once : c ≤ 1
  within : a ≤ v → v < b → c ≡ 1
  below : v < a → c ≡ 0
  above : b ≤ v → c ≡ 0

-- ---- at first
once_more : (a b v c r : ℕ) (t : Bool) → a < b → ((t ≡ true) × (a ≡ v)) ⊎ ((t ≡ false) × (a ≢ v)) →
    c ≡ cond t 1 0 + r → IsOnceWithin (a + 1) b v r → IsOnceWithin a b v c
once_more a b v c r true less tells e h = ⊎_elim
    (λ same. let at : a ≡ v = same.1 in let none =
    h.below (omega arith) in record {
      once = omega arith;
      within = λ l m. omega arith;
      below = λ l. omega arith;
      above = λ l. omega arith;
    })
    (λ no. absurd (no_true no.0))
    tells
  where
    no_true : true ≡ false → ⊥
    no_true e = cc
once_more a b v c r false less tells e h = ⊎_elim
    (λ same. absurd (no_false same.0))
    (λ no. record {
      once = omega (arith, h.once);
      within = λ l m. let apart = no.1 in omega (arith, h.within (omega arith) m);
      below = λ l. omega (arith, h.below (omega arith));
      above =
          λ l. omega (arith, h.above l);
    })
    tells
  where
    no_false : false ≡ true → ⊥
    no_false e = cc

none_yet : (a v : ℕ) → IsOnceWithin a (a + 0) v 0
none_yet a v = record {
  once = omega arith;
  within = λ l m. absurd (omega arith);
  below = λ l. refl;
  above = λ l. refl;
}

to_end : (a b c v n : ℕ) → b ≡ c → IsOnceWithin a b v n → IsOnceWithin a c v n
to_end a b c v n e h = subst (λ x. IsOnceWithin a x v n) e h

range_once : (v a n : ℕ) → IsOnceWithin a (a + n) v (nonbasic_times v (range_with_len a n))
range_once v a zero = none_yet a v
range_once v a (suc n) =
    once_more a (a + suc n) v (nonbasic_times v (range_with_len a (suc n)))
    (nonbasic_times v (range_with_len (a + 1) n)) (a == v) (omega arith) (eqb_tells a v)
    (sum_by-cons (λ w. cond (w == v) 1 0) a (range_with_len (a + 1) n))
    (to_end (a + 1) (a + 1 + n) (a + suc n) v (nonbasic_times v (range_with_len (a + 1) n)) (omega arith)
    (range_once v (a + 1) n))

lines_once : (v a : ℕ) (rows : List Row) → IsOnceWithin a (a + length rows) v (basic_times v (lines_from a rows))
lines_once v a [] = none_yet a v
lines_once v a (row ∷ rows) =
    once_more a (a + length (row ∷ rows)) v (basic_times v (lines_from a (row ∷ rows)))
    (basic_times v (lines_from (a + 1) rows)) (a == v) (omega arith) (eqb_tells a v)
    (sum_by-cons (λ line. cond (line.basic == v) 1 0) (record { times = pos 1; basic = a; coefs = row.coefs })
    (lines_from (a + 1) rows))
    (to_end (a + 1) (a + 1 + length rows) (a + length (row ∷ rows)) v (basic_times v (lines_from (a + 1) rows))
    (omega arith) (lines_once v (a + 1) rows))

-- ---- each variable of rows once, and no other
pub record HasEachOnce (rows : RowList) (table : Table) : Type 0 where
  pub once : (v : ℕ) → nonbasic_times v table.nonbasic + basic_times v table.lines ≤ 1
  pub least : (v : ℕ) → 0 < nonbasic_times v table.nonbasic + basic_times v table.lines → 1 ≤ v
  pub most : (v : ℕ) → 0 < nonbasic_times v table.nonbasic + basic_times v table.lines →
      v ≤ rows.stars + length rows.rows
  pub each : (v : ℕ) → 1 ≤ v → v ≤ rows.stars + length rows.rows →
      nonbasic_times v table.nonbasic + basic_times v table.lines ≡ 1

pub first-has_each_once : (rows : RowList) → HasEachOnce rows (first_table rows)
first-has_each_once rows = record {
  once = λ v. once v;
  least = λ v. least v;
  most = λ v. most v;
  each = λ v. each v;
}
  where
    stars : (v : ℕ) → IsOnceWithin 1 (1 + rows.stars) v (nonbasic_times v (range_with_len 1 rows.stars))
    stars v = range_once v 1 rows.stars

    sums : (v : ℕ) →
        IsOnceWithin (rows.stars + 1) (rows.stars + 1 + length rows.rows) v
        (basic_times v (lines_from (rows.stars + 1) rows.rows))
    sums v = lines_once v (rows.stars + 1) rows.rows

    once : (v : ℕ) →
        nonbasic_times v (range_with_len 1 rows.stars) + basic_times v (lines_from (rows.stars + 1) rows.rows) ≤ 1
    once v = let a = stars v in let b = sums v in let a1 = a.once in let a2 = a.above in let b1 = b.once in let b2 =
        b.below in grind arith

    least : (v : ℕ) →
        0 < nonbasic_times v (range_with_len 1 rows.stars) + basic_times v (lines_from (rows.stars + 1) rows.rows) →
        1 ≤ v
    least v h = let a2 = (stars v).below in let b2 = (sums v).below in grind arith

    most : (v : ℕ) →
        0 < nonbasic_times v (range_with_len 1 rows.stars) + basic_times v (lines_from (rows.stars + 1) rows.rows) →
        v ≤ rows.stars + length rows.rows
    most v h = let a2 = (stars v).above in let b2 = (sums v).above in grind arith

    each : (v : ℕ) → 1 ≤ v → v ≤ rows.stars + length rows.rows →
        nonbasic_times v (range_with_len 1 rows.stars) + basic_times v (lines_from (rows.stars + 1) rows.rows) ≡ 1
    each v h i = ⊎_elim
        (λ few. let a = (stars v).within h (omega arith) in let b = (sums v).below (omega arith) in omega arith)
        (λ many. let a = (stars v).above (omega arith) in let b = (sums v).within (omega arith) (omega arith) in
        omega arith)
        (cases_lt v (rows.stars + 1))

-- ---- an exchange keeps the counts
same_counts : (a b c d e f x y : ℕ) → a + x ≡ b + y → c + y ≡ d → e ≡ c + x → a + e ≡ b + d
same_counts a b c d e f x y h i j = omega arith

pub exchanged_times : (v i j : ℕ) (left : TableLine) (table : Table) → MayExchange i j left table →
    nonbasic_times v (exchanged i j left table).nonbasic + basic_times v
    (exchanged i j left table).lines ≡ nonbasic_times v table.nonbasic + basic_times v table.lines
exchanged_times v i j left table m =
    let f = λ (w : ℕ). cond (w == v) 1 0 in
    let g = λ (line : TableLine). cond (line.basic == v) 1 0 in
    let e = get_or table.nonbasic j 0 in
    let here = get_or_from_slice_get table.lines i left left m.place in
    same_counts (nonbasic_times v (set table.nonbasic j left.basic)) (nonbasic_times v table.nonbasic)
    (basic_times v (remove table.lines i)) (basic_times v table.lines)
    (basic_times v (exchanged i j left table).lines) 0 (f e) (f left.basic)
    (sum_by-set f table.nonbasic j left.basic 0 m.column)
    (ap (λ line. basic_times v (remove table.lines i) + g line) (sym here)
    ∙ sum_by-remove g table.lines i left (slice_get_within table.lines i left m.place))
    (sum_by_push g (map (λ line. in_lowest_terms (put_into j left line)) (remove table.lines i))
    (in_lowest_terms (solved_for j e left))
    ∙ ap (λ n. n + f e) (sum_by-map g (λ line. in_lowest_terms (put_into j left line)) (remove table.lines i)))

pub exchanged-has_each_once : (rows : RowList) (i j : ℕ) (left : TableLine) (table : Table) → MayExchange i j left table
    →
    HasEachOnce rows table → HasEachOnce rows (exchanged i j left table)
exchanged-has_each_once rows i j left table m h = record {
  once = λ v. subst (λ n. n ≤ 1) (sym (exchanged_times v i j left table m)) (h.once v);
  least = λ v l. h.least v (subst (λ n. 0 < n) (exchanged_times v i j left table m) l);
  most = λ v l. h.most v (subst (λ n. 0 < n) (exchanged_times v i j left table m) l);
  each = λ v l k. exchanged_times v i j left table m ∙ h.each v l k;
}

-- ---- the line of a variable
none_found : (t : Bool) (x r : ℕ) → x ≡ cond t 1 0 + r → x ≡ 0 → (t ≡ false) × (r ≡ 0)
none_found true x r e h = absurd (omega arith)
none_found false x r e h = (refl, omega arith)

pub not_found : (v : ℕ) (lines : List TableLine) → basic_times v lines ≡ 0 → find (λ line. line.basic == v) lines ≡ None
not_found v [] h = refl
not_found v (line ∷ lines) h =
    let both =
    none_found (line.basic == v) (basic_times v (line ∷ lines)) (basic_times v lines)
    (sum_by-cons (λ line. cond (line.basic == v) 1 0) line lines) h in
    ap (λ b. cond b (Some line) (find (λ line. line.basic == v) lines)) both.0 ∙ not_found v lines both.1

found_here : (v : ℕ) (x : TableLine) (lines : List TableLine) (k : ℕ) (d : TableLine) (t : Bool) → t ≡ (x.basic == v) →
    k < length (x ∷ lines) → (get_or (x ∷ lines) k d).basic ≡ v →
    basic_times v (x ∷ lines) ≡ cond t 1 0 + basic_times v lines → basic_times v (x ∷ lines) ≤ 1 →
    ((k' : ℕ) → suc k' ≡ k → find (λ line. line.basic == v) lines ≡ Some (get_or lines k' d)) →
    cond t (Some x) (find (λ line. line.basic == v) lines) ≡ Some (get_or (x ∷ lines) k d)
found_here v x lines zero d true e h at c once rest = refl
found_here v x lines (suc k) d true e h at c once rest =
    absurd (omega
    (arith, counted (λ line. line.basic == v) lines k d (omega arith) (eq-eqb (get_or lines k d).basic v at)))
found_here v x lines zero d false e h at c once rest = absurd (no_false (e ∙ eq-eqb x.basic v at))
  where
    no_false : false ≡ true → ⊥
    no_false e = cc
found_here v x lines (suc k) d false e h at c once rest = rest k refl

pub finds : (v : ℕ) (lines : List TableLine) (k : ℕ) (d : TableLine) → k < length lines → (get_or lines k d).basic ≡ v →
    basic_times v lines ≤ 1 → find (λ line. line.basic == v) lines ≡ Some (get_or lines k d)
finds v [] k d h at once = absurd (omega arith)
finds v (x ∷ lines) k d h at once =
    let c = sum_by-cons (λ line. cond (line.basic == v) 1 0) x lines in
    found_here v x lines k d (x.basic == v) refl h at c once
    (λ k' e. finds v lines k' d (omega arith) (subst (λ n. (get_or (x ∷ lines) n d).basic ≡ v) (sym e) at)
    (omega arith))

pub nonbasic-is_variable : (rows : RowList) (table : Table) → HasEachOnce rows table →
    All (IsVariable rows) table.nonbasic
nonbasic-is_variable rows table h k d l =
    let v = get_or table.nonbasic k d in
    let one = counted (λ w. w == v) table.nonbasic k d l (eq-eqb v v refl) in
    (h.least v (omega arith), h.most v (omega arith))

pub basic-is_variable : (rows : RowList) (table : Table) → HasEachOnce rows table →
    All (λ line. IsVariable rows line.basic) table.lines
basic-is_variable rows table h k d l =
    let v = (get_or table.lines k d).basic in
    let one = counted (λ line. line.basic == v) table.lines k d l (eq-eqb v v refl) in
    (h.least v (omega arith), h.most v (omega arith))

-- a variable without a line is basic no time
found_no : (t : Bool) (x : TableLine) (o : Option TableLine) (n r : ℕ) → cond t (Some x) o ≡ None → n ≡ cond t 1 0 + r →
    (o ≡ None → r ≡ 0) → n ≡ 0
found_no true x o n r e c h = cc
found_no false x o n r e c h = omega (arith, h e)

pub not_basic : (v : ℕ) (lines : List TableLine) → find (λ line. line.basic == v) lines ≡ None → basic_times v lines ≡ 0
not_basic v [] e = refl
not_basic v (line ∷ lines) e =
    found_no (line.basic == v) line (find (λ line. line.basic == v) lines) (basic_times v (line ∷ lines))
    (basic_times v lines) e (sum_by-cons (λ line. cond (line.basic == v) 1 0) line lines) (not_basic v lines)
