-- Which of the variables of a class are below their bounds, by how far one of them is over its own.
use Rattle.std.proofs.Common.{◌≡◌, ℕ, ◌≤◌, Bool, true, false, List, refl, ◌∙◌, arith, ℤ, pos, ◌-ℤ◌, ◌*ℤ◌, ◌<ℤ◌, ◌≤ℤ◌, int_lt}
use Rattle.std.proofs.lemmas.Int.{ints}
use borrow.Author.Differences.{lt-true, lt-false, le_out}
use Rattle.nomos_forms.specs.declared.row_list.RowList.{RowList}
use Rattle.nomos_simplex.specs.LowestVariable.{is_below}
use Rattle.nomos_simplex.specs.Tables.{bound_of, sum_at}
use Rattle.nomos_simplex.specs.mirror.Classes.{IsClass, named}
use Rattle.nomos_simplex.specs.mirror.Keeping.{over_of}
use Rattle.nomos_simplex.specs.declared.classes.Class.{Class}
use Rattle.nomos_simplex.specs.declared.table.TableLine.{TableLine}
use Rattle.nomos_simplex.proofs.ClassChoiceLemmas.{bounds-keep}
use Rattle.nomos_simplex.proofs.KeepingLemmas.{less_by}
use Rattle.nomos_simplex.proofs.SignLemmas.{times_at_most}
use Rattle.nomos_simplex.proofs.SumLemmas.{times_minus}

-- a variable is below its bound where that is so much higher than the bound of the line's own
pub below_by : (rows : RowList) (nonbasic : List ℕ) (line : TableLine) (v : ℕ) (over r : ℤ) →
    over ≡ over_of rows nonbasic line → r ≡ line.times *ℤ (bound_of rows v -ℤ bound_of rows line.basic) →
    int_lt over r ≡ is_below rows nonbasic (named v line)
below_by rows nonbasic line v over r e f =
    less_by over r (sum_at (bound_of rows) nonbasic line.coefs) (line.times *ℤ bound_of rows v)
    (line.times *ℤ bound_of rows line.basic) e
    (f ∙ times_minus line.times (bound_of rows v) (bound_of rows line.basic))

-- ---- where one variable of a class is not below its bound, none before it is
not_below_less : (s t x y : ℤ) → pos 0 <ℤ t → y ≤ℤ x → int_lt s (t *ℤ x) ≡ false → int_lt s (t *ℤ y) ≡ false
not_below_less s t x y h l e = by_test (int_lt s (t *ℤ y)) refl
  where
    by_test : (b : Bool) → int_lt s (t *ℤ y) ≡ b → int_lt s (t *ℤ y) ≡ false
    by_test false f = f
    by_test true f = absurd (omega (
      arith,
      ints,
      lt-true s (t *ℤ y) f,
      lt-false s (t *ℤ x) e,
      le_out (t *ℤ y) (t *ℤ x) (times_at_most t y x h l),
    ))

pub not_below_before : (rows : RowList) (nonbasic : List ℕ) (class : Class) (line : TableLine) (v w : ℕ) →
    IsClass rows class → pos 0 <ℤ line.times → class.first ≤ v → v ≤ w → w ≤ class.last →
    is_below rows nonbasic (named w line) ≡ false → is_below rows nonbasic (named v line) ≡ false
not_below_before rows nonbasic class line v w c h low le high e =
    not_below_less (sum_at (bound_of rows) nonbasic line.coefs) line.times (bound_of rows w) (bound_of rows v) h
    (bounds-keep rows class v w c low le high) e
