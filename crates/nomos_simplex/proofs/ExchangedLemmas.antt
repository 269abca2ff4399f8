-- An exchange changes no table's truth: the lines before it hold exactly where those after it do.
use Rattle.std.proofs.Common.{◌≡◌, ℕ, ◌<◌, ◌↔◌, List, [], ◌∷◌, length, map, get_or, set, Some, sym, subst, ◌∙◌, ℤ, pos, neg_ℤ, ◌<ℤ◌, All}
use Rattle.std.specs.Prelude.{slice_get}
use Rattle.std.specs.List.{remove}
use Rattle.std.proofs.lemmas.List.{length-map, length-set}
use Rattle.std.proofs.lemmas.List.Elements.{All-map, All-push, All-weaker}
use Rattle.std.proofs.lemmas.Option.{get_or_from_slice_get, slice_get_within}
use Rattle.nomos_simplex.specs.Divisors.{in_lowest_terms}
use Rattle.nomos_simplex.specs.Exchange.{coef_at, solved_for, put_into, exchanged}
use Rattle.nomos_simplex.specs.Sizes.{IsLowest}
use Rattle.nomos_simplex.specs.Tables.{HoldsAt, Holds}
use Rattle.nomos_simplex.specs.declared.table.TableLine.{TableLine}
use Rattle.nomos_simplex.specs.declared.table.Table.{Table}
use Rattle.nomos_simplex.proofs.CountLemmas.{All-remove, All-from_remove, All-from_map, All-front, All-last}
use Rattle.nomos_simplex.proofs.ExchangeLemmas.{not_zero_product, lowest_holds, lowest_over_zero, lowest-is_lowest, lowest_width, solved_holds, put_holds, put_width}
use Rattle.nomos_simplex.proofs.SignLemmas.{not_zero_over}

-- lines as wide as the table, with a number over 0 before the basic variable
pub record IsLineIn (table : Table) (line : TableLine) : Type 0 where
  pub width : length line.coefs ≡ length table.nonbasic
  pub over : pos 0 <ℤ line.times

-- line i, which is left, and column j can be exchanged
pub record MayExchange (i j : ℕ) (left : TableLine) (table : Table) : Type 0 where
  pub place : slice_get table.lines i ≡ Some left
  pub column : j < length table.nonbasic
  pub coef : ¬ (coef_at j left ≡ pos 0)
  pub lines : All (IsLineIn table) table.lines

-- what is known of each line is known of the one in place i
pub at_place : (P : TableLine → Type 0) (lines : List TableLine) (i : ℕ) (line : TableLine)
    → slice_get lines i ≡ Some line →
    All P lines → P line
at_place P lines i line e h =
    subst P (get_or_from_slice_get lines i line line e) (h i line (slice_get_within lines i line e))

-- ---- the lines after the exchange
-- the other lines, and the one that was left
abbrev pub entered : ℕ → TableLine → TableLine → TableLine
entered j left line = in_lowest_terms (put_into j left line)

abbrev pub solved_line : ℕ → TableLine → Table → TableLine
solved_line j left table = in_lowest_terms (solved_for j (get_or table.nonbasic j 0) left)

pub All-exchanged : (P : TableLine → Type 0) (i j : ℕ) (left : TableLine) (table : Table) →
    All (λ line. P (entered j left line)) table.lines → P (solved_line j left table) →
    All P (exchanged i j left table).lines
All-exchanged P i j left table h last =
    let others = remove table.lines i in
    All-push P (map (entered j left) others) (solved_line j left table)
    (All-map P (entered j left) others (All-remove (λ line. P (entered j left line)) table.lines i h)) last

pub others-exchanged : (P : TableLine → Type 0) (i j : ℕ) (left : TableLine) (table : Table) →
    All P (exchanged i j left table).lines → All (λ line. P (entered j left line)) (remove table.lines i)
others-exchanged P i j left table h =
    let others = remove table.lines i in
    All-from_map P (entered j left) others (All-front P (map (entered j left) others) (solved_line j left table ∷ []) h)

pub last-exchanged : (P : TableLine → Type 0) (i j : ℕ) (left : TableLine) (table : Table) →
    All P (exchanged i j left table).lines → P (solved_line j left table)
last-exchanged P i j left table h =
    All-last P (map (entered j left) (remove table.lines i)) (solved_line j left table) h

-- ---- each of them holds exactly where it held before
pub left_of : (i j : ℕ) (left : TableLine) (table : Table) → MayExchange i j left table → IsLineIn table left
left_of i j left table m = at_place (IsLineIn table) table.lines i left m.place m.lines

pub column_of : (i j : ℕ) (left : TableLine) (table : Table) → MayExchange i j left table → j < length left.coefs
column_of i j left table m = let l = left_of i j left table m in subst (λ n. j < n) (sym l.width) m.column

pub put_not_zero : (j : ℕ) (left line : TableLine) → ¬ (coef_at j left ≡ pos 0) → pos 0 <ℤ line.times →
    ¬ ((put_into j left line).times ≡ pos 0)
put_not_zero j left line n h = not_zero_product (coef_at j left) line.times n (not_zero_over line.times h)

-- what the variables have after an exchange is read by the same names
abbrev HoldsAfter : (ℕ → ℤ) → ℕ → TableLine → Table → TableLine → Type 0
HoldsAfter y j left table line = HoldsAt y (set table.nonbasic j left.basic) line

entered_holds : (y : ℕ → ℤ) (i j : ℕ) (left : TableLine) (table : Table) (line : TableLine) → MayExchange i j left table
    →
    HoldsAt y table.nonbasic left → IsLineIn table line →
    HoldsAfter y j left table (entered j left line) ↔ HoldsAt y table.nonbasic line
entered_holds y i j left table line m l k =
    let own = left_of i j left table m in
    let low =
    lowest_holds y (set table.nonbasic j left.basic) (put_into j left line)
    (put_not_zero j left line m.coef k.over) in
    let put =
    put_holds y table.nonbasic j left line m.column (column_of i j left table m) (k.width ∙ sym own.width) m.coef
    l in
    ((λ h. put.0 (low.0 h)), (λ h. low.1 (put.1 h)))

left_holds : (y : ℕ → ℤ) (i j : ℕ) (left : TableLine) (table : Table) → MayExchange i j left table →
    HoldsAfter y j left table (solved_line j left table) ↔ HoldsAt y table.nonbasic left
left_holds y i j left table m =
    let low = lowest_holds y (set table.nonbasic j left.basic) (solved_for j (get_or table.nonbasic j 0) left) m.coef in
    let solved = solved_holds y table.nonbasic j left m.column (column_of i j left table m) in
    ((λ h. solved.0 (low.0 h)), (λ h. low.1 (solved.1 h)))

All-two : {X : Type 0} (P Q R : X → Type 0) → ((x : X) → P x → Q x → R x) → (xs : List X) → All P xs → All Q xs →
    All R xs
All-two P Q R f xs p q = λ k d h. f (get_or xs k d) (p k d h) (q k d h)

pub exchanged_holds : (y : ℕ → ℤ) (i j : ℕ) (left : TableLine) (table : Table) → MayExchange i j left table →
    Holds y table → Holds y (exchanged i j left table)
exchanged_holds y i j left table m h =
    let now = at_place (HoldsAt y table.nonbasic) table.lines i left m.place h in
    All-exchanged (HoldsAfter y j left table) i j left table
    (All-two (HoldsAt y table.nonbasic) (IsLineIn table) (λ line. HoldsAfter y j left table (entered j left line))
    (λ line p k. (entered_holds y i j left table line m now k).1 p) table.lines h m.lines)
    ((left_holds y i j left table m).1 now)

pub held_before_exchange : (y : ℕ → ℤ) (i j : ℕ) (left : TableLine) (table : Table) → MayExchange i j left table →
    Holds y (exchanged i j left table) → Holds y table
held_before_exchange y i j left table m h =
    let now = (left_holds y i j left table m).0 (last-exchanged (HoldsAfter y j left table) i j left table h) in
    let others = remove table.lines i in
    All-from_remove (HoldsAt y table.nonbasic) table.lines i (slice_get_within table.lines i left m.place)
    (λ d. subst (HoldsAt y table.nonbasic) (sym (get_or_from_slice_get table.lines i left d m.place)) now)
    (All-two (λ line. HoldsAfter y j left table (entered j left line)) (IsLineIn table) (HoldsAt y table.nonbasic)
    (λ line p k. (entered_holds y i j left table line m now k).0 p) others
    (others-exchanged (HoldsAfter y j left table) i j left table h)
    (All-remove (IsLineIn table) table.lines i m.lines))

-- ---- they stay as wide as the table, over 0 and in lowest terms
pub exchanged_lines : (i j : ℕ) (left : TableLine) (table : Table) → MayExchange i j left table →
    All (IsLineIn (exchanged i j left table)) (exchanged i j left table).lines
exchanged_lines i j left table m =
    let own = left_of i j left table m in
    let size = length-set table.nonbasic j left.basic in
    All-exchanged (IsLineIn (exchanged i j left table)) i j left table
    (All-weaker (IsLineIn table) (λ line. IsLineIn (exchanged i j left table) (entered j left line))
    (λ line k. record {
      width = lowest_width (put_into j left line) ∙ put_width j left line (k.width ∙ sym own.width) ∙ k.width
          ∙ sym size;
      over = lowest_over_zero (put_into j left line) (put_not_zero j left line m.coef k.over);
    })
    table.lines m.lines)
    (record {
      width = lowest_width (solved_for j (get_or table.nonbasic j 0) left)
          ∙ length-set (map neg_ℤ left.coefs) j left.times
          ∙ length-map left.coefs neg_ℤ ∙ own.width ∙ sym size;
      over = lowest_over_zero (solved_for j (get_or table.nonbasic j 0) left) m.coef;
    })

pub exchanged_lowest : (i j : ℕ) (left : TableLine) (table : Table) → MayExchange i j left table →
    All IsLowest (exchanged i j left table).lines
exchanged_lowest i j left table m =
    All-exchanged IsLowest i j left table
    (All-weaker (IsLineIn table) (λ line. IsLowest (entered j left line))
    (λ line k. lowest-is_lowest (put_into j left line) (put_not_zero j left line m.coef k.over)) table.lines
    m.lines)
    (lowest-is_lowest (solved_for j (get_or table.nonbasic j 0) left) m.coef)
