-- The table of classes at first stands for the table at first.
use Rattle.std.proofs.Common.{◌≡◌, ℕ, zero, suc, ◌+◌, ◌-◌, ◌<◌, ◌≤◌, ⊎_elim, inl, inr, List, [], length, map, get_or, refl, ap, sym, subst, ◌∙◌, arith, pos, All}
use Rattle.std.specs.List.{range_with_len}
use Rattle.std.proofs.lemmas.Bool.{cases_lt}
use Rattle.std.proofs.lemmas.List.{get_or-map, length-map}
use Rattle.std.proofs.lemmas.List.Elements.{All-map}
use Rattle.std.proofs.lemmas.List.FromFn.{length-range_with_len, get_or-range_with_len}
use Rattle.std.proofs.lemmas.Option.{slice_get-get_or}
use Rattle.nomos_forms.specs.declared.row.Row.{Row}
use Rattle.nomos_forms.specs.declared.row_list.RowList.{RowList}
use Rattle.nomos_simplex.specs.GoalLine.{line_or_itself, line_of}
use Rattle.nomos_simplex.specs.Nearest.{line_at}
use Rattle.nomos_simplex.specs.Tables.{lines_from, first_table}
use Rattle.nomos_simplex.specs.declared.classes.Class.{Class}
use Rattle.nomos_simplex.specs.declared.table.TableLine.{TableLine}
use Rattle.nomos_simplex.specs.mirror.Classes.{IsIn, coefs_or_none, coefs_of, IsClass, class_of_star, class_at, IsInOne, Fit, SameNumbers, StandsFor, line_of_class, table_of_classes}
use Rattle.nomos_simplex.proofs.ClassLemmas.{no_class, no_line}
use Rattle.nomos_simplex.proofs.FirstLemmas.{length-lines_from, get_or-lines_from}
use Rattle.nomos_simplex.proofs.VariableLemmas.{first-has_each_once, finds}

-- ---- within a class all variables have the same coefficients
alike_from : (rows : RowList) (class : Class) (n : ℕ) → IsClass rows class → class.first + n ≤ class.last →
    coefs_of rows (class.first + n) ≡ coefs_of rows class.first
alike_from rows class zero c h = ap (coefs_of rows) (omega arith)
alike_from rows class (suc n) c h =
    let v = class.first + n in
    let next : class.first + suc n ≡ v + 1 = omega arith in
    ap (coefs_of rows) next ∙ (c.alike v (omega arith) (omega (arith, h))).coefs
    ∙ alike_from rows class n c (omega (arith, h))

alike_first : (rows : RowList) (class : Class) (v : ℕ) → IsClass rows class → IsIn class v →
    coefs_of rows v ≡ coefs_of rows class.first
alike_first rows class v c i =
    let n = v - class.first in
    let sum : v ≡ class.first + n = omega (arith, i.from) in
    ap (coefs_of rows) sum ∙ alike_from rows class n c (omega (arith, i.to, sum))

-- ---- the line of a row's variable at first
pub line_of-first : (rows : RowList) (v : ℕ) → rows.stars < v → v ≤ rows.stars + length rows.rows →
    line_of (first_table rows) v ≡ record { times = pos 1; basic = v; coefs = coefs_of rows v }
line_of-first rows v low high =
    let m = v - rows.stars - 1 in
    let no_row : Row = record { coefs = []; least = pos 0 } in
    let no_line : TableLine = record { times = pos 1; basic = v; coefs = [] } in
    let within : m < length rows.rows = omega (arith, low, high) in
    let number : rows.stars + 1 + m ≡ v = omega (arith, low) in
    let lines = lines_from (rows.stars + 1) rows.rows in
    let there = get_or-lines_from (rows.stars + 1) rows.rows m no_line no_row within in
    let row : (get_or rows.rows m no_row).coefs ≡ coefs_of rows v =
    sym (ap coefs_or_none (slice_get-get_or rows.rows m no_row within)) in
    let once = (first-has_each_once rows).once v in
    ap (line_or_itself (range_with_len 1 rows.stars) v)
    (finds v lines m no_line (omega (arith, within, length-lines_from (rows.stars + 1) rows.rows))
    (ap (λ (line : TableLine). line.basic) there ∙ number) (omega (arith, once)))
    ∙ there
    ∙ (λ p. record { times = pos 1; basic = number p; coefs = row p })

-- ---- each star is alone in the class of its column
star_class : (n j : ℕ) → j < length (range_with_len 1 n) →
    class_at (map class_of_star (range_with_len 1 n)) j ≡ class_of_star (get_or (range_with_len 1 n) j 0)
star_class n j h = get_or-map class_of_star (range_with_len 1 n) j 0 no_class h

star_classes : (rows : RowList) → All (IsClass rows) (map class_of_star (range_with_len 1 rows.stars))
star_classes rows = All-map (IsClass rows) class_of_star (range_with_len 1 rows.stars) (λ k d l.
    let below : k < rows.stars = omega (arith, l, length-range_with_len 1 rows.stars) in
    let is = get_or-range_with_len 1 rows.stars k d below in
    record {
      least = omega (arith, is);
      some = omega arith;
      most = omega (arith, is, below);
      alike = λ v from to. absurd (omega (arith, from, to));
    })

star_covered : (n v : ℕ) → 1 ≤ v → v ≤ n → IsInOne (map class_of_star (range_with_len 1 n)) v
star_covered n v low high =
    let k = v - 1 in
    let stars = range_with_len 1 n in
    let below : k < n = omega (arith, low, high) in
    let within : k < length stars = omega (arith, below, length-range_with_len 1 n) in
    let number : get_or stars k 0 ≡ v = get_or-range_with_len 1 n k 0 below ∙ omega (arith, low) in
    record {
      place = k;
      within = omega (arith, within, length-map stars class_of_star);
      is_in = subst (λ class. IsIn class v) (sym (star_class n k within))
          (record { from = omega (arith, number); to = omega (arith, number) });
    }

-- ---- the class of each line
class_line : (rows : RowList) (cs : List Class) (i : ℕ) → i < length (map (line_of_class rows) cs) →
    line_at (map (line_of_class rows) cs) i ≡ line_of_class rows (class_at cs i)
class_line rows cs i h = get_or-map (line_of_class rows) cs i no_class no_line
    (omega (arith, h, length-map cs (line_of_class rows)))

-- has the numbers of the lines of all its variables
class_numbers : (rows : RowList) (class : Class) (v : ℕ) → IsClass rows class → rows.stars < class.first →
    IsIn class v → SameNumbers (line_of_class rows class) (line_of (first_table rows) v)
class_numbers rows class v c above i =
    let e = line_of-first rows v (omega (arith, above, i.from)) (omega (arith, c.most, i.to)) in
    record {
      times = sym (ap (λ (line : TableLine). line.times) e);
      coefs = sym (ap (λ (line : TableLine). line.coefs) e ∙ alike_first rows class v c i);
    }

first-fit : (rows : RowList) (cs : List Class) → All (IsClass rows) cs →
    ((v : ℕ) → rows.stars < v → v ≤ rows.stars + length rows.rows → IsInOne cs v) →
    Fit rows (table_of_classes rows cs)
    (record { lines = cs; columns = map class_of_star (range_with_len 1 rows.stars) })
first-fit rows cs are_classes covered = record {
  lines = sym (length-map cs (line_of_class rows));
  columns = length-map (range_with_len 1 rows.stars) class_of_star;
  of_lines = are_classes;
  of_columns = star_classes rows;
  basic = λ i h.
      let c = are_classes i no_class (omega (arith, h, length-map cs (line_of_class rows))) in
      subst (λ (line : TableLine). IsIn (class_at cs i) line.basic) (sym (class_line rows cs i h))
      (record { from = omega arith; to = c.some });
  nonbasic = λ j h.
      subst (λ class. IsIn class (get_or (range_with_len 1 rows.stars) j 0)) (sym (star_class rows.stars j h))
      (record { from = omega arith; to = omega arith });
  cover = λ v is. ⊎_elim
      (λ more. inl (covered v more is.1))
      (λ few. inr (star_covered rows.stars v is.0 few))
      (cases_lt rows.stars v);
}

pub first-stands : (rows : RowList) (cs : List Class) → All (IsClass rows) cs →
    All (λ class. rows.stars < class.first) cs →
    ((v : ℕ) → rows.stars < v → v ≤ rows.stars + length rows.rows → IsInOne cs v) →
    StandsFor rows (table_of_classes rows cs)
    (record { lines = cs; columns = map class_of_star (range_with_len 1 rows.stars) }) (first_table rows)
first-stands rows cs are_classes above covered = record {
  fit = first-fit rows cs are_classes covered;
  nonbasic = refl;
  lines = λ i v h q.
      let class = class_at cs i in
      let within : i < length cs = omega (arith, h, length-map cs (line_of_class rows)) in
      subst (λ line. SameNumbers line (line_of (first_table rows) v)) (sym (class_line rows cs i h))
      (class_numbers rows class v (are_classes i no_class within) (above i no_class within) q);
  columns = λ j v h q.
      let star = get_or (range_with_len 1 rows.stars) j 0 in
      let own : IsIn (class_of_star star) v = subst (λ class. IsIn class v) (star_class rows.stars j h) q in
      subst (λ w. SameNumbers (line_of (first_table rows) star) (line_of (first_table rows) w))
      (omega (arith, own.from, own.to)) (record { times = refl; coefs = refl });
}
