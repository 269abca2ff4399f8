-- The line that is nearest, by classes.
use Rattle.std.proofs.Common.{◌≡◌, ◌==◌, ℕ, zero, suc, ◌*◌, ◌<◌, ◌≤◌, Bool, true, false, cond, List, [], ◌∷◌, length, map, get_or, refl, ap, sym, subst, ◌∙◌, arith, ℤ, pos, ◌-ℤ◌, ◌*ℤ◌, ◌≤ℤ◌, ◌<ℤ◌, unsigned_abs, int_lt, nat_lt, Option, Some, None, slice_get, ⊎_elim}
use Rattle.std.proofs.lemmas.Int.{ints}
use Rattle.std.proofs.lemmas.Bool.{cases_lt, ltb-true, ltb-false, false≢true}
use Rattle.std.proofs.Math.Nat.{mul-le-mul_left, mul-le-mul_right}
use borrow.Author.Differences.{le_out, lt_out, lt-true}
use Rattle.nomos_forms.specs.declared.row_list.RowList.{RowList}
use Rattle.nomos_simplex.specs.Exchange.{coef_at}
use Rattle.nomos_simplex.specs.GoalLine.{line_of}
use Rattle.nomos_simplex.specs.Nearest.{distance, reach, is_less, is_nearer, line_at, nearest}
use Rattle.nomos_simplex.specs.Sizes.{IsVariable}
use Rattle.nomos_simplex.specs.Tables.{bound_of, sum_at}
use Rattle.nomos_simplex.specs.declared.classes.Classes.{Classes}
use Rattle.nomos_simplex.specs.declared.table.TableLine.{TableLine}
use Rattle.nomos_simplex.specs.declared.table.Table.{Table}
use Rattle.nomos_simplex.specs.mirror.Classes.{IsIn, class_at, IsInOne, column_at, StandsFor, named, Lead}
use Rattle.nomos_simplex.proofs.AmountLemmas.{NoneBelow}
use Rattle.nomos_simplex.proofs.ClassChoiceLemmas.{bounds-rise, bounds-keep, at_variable, line_of-line, line_of-own, line_of-itself}
use Rattle.nomos_simplex.proofs.ClassLemmas.{no_line, in_class-is_variable, line_class, line_of-basic, IsBasic, basic_or_nonbasic, basic_line, place-is_variable, unit_of}
use Rattle.nomos_simplex.proofs.ExitLemmas.{abs_of_below}
use Rattle.nomos_simplex.proofs.PlaceLemmas.{foremost_passes, none_foremost, foremost-at_most}
use Rattle.nomos_simplex.proofs.RatioLemmas.{AtMost, through, not_less, less, from_bound, IsNotBelow}
use Rattle.nomos_simplex.proofs.SignLemmas.{times_at_most, times_below}
use Rattle.nomos_simplex.proofs.TableLaws.{IsTableOfRows}
use Rattle.nomos_simplex.proofs.VariableLemmas.{HasEachOnce}

-- ---- which line comes first
-- A line comes no later than another: its reach is at most that of the other, and where both are the same, its
-- variable is.
record ComesBefore (rows : RowList) (vs : List ℕ) (j : ℕ) (x y : TableLine) : Type 0 where
  least : AtMost (reach rows vs j x) (reach rows vs j y)
  lower : AtMost (reach rows vs j y) (reach rows vs j x) → x.basic ≤ y.basic

-- the coefficient of a line in the column is below 0
abbrev Passes : ℕ → TableLine → Type 0
Passes j line = int_lt (coef_at j line) (pos 0) ≡ true

less-not_back : (f g : ℕ × ℕ) → is_less f g ≡ true → AtMost g f → ⊥
unfolding AtMost
less-not_back f g e h = absurd (omega (arith, ltb-true (f.0 * g.1) (g.0 * f.1) e, h))

module _ (rows : RowList) (vs : List ℕ) (j : ℕ) where
  nearer-before : (x y : TableLine) (s t : Bool) → is_less (reach rows vs j x) (reach rows vs j y) ≡ s →
      is_less (reach rows vs j y) (reach rows vs j x) ≡ t →
      cond s true (cond t false (nat_lt x.basic y.basic)) ≡ true → ComesBefore rows vs j x y
  nearer-before x y true t e f h = record {
    least = less (reach rows vs j x) (reach rows vs j y) e;
    lower = λ back. absurd (less-not_back (reach rows vs j x) (reach rows vs j y) e back);
  }
  nearer-before x y false true e f h = cc
  nearer-before x y false false e f h = record {
    least = not_less (reach rows vs j y) (reach rows vs j x) f;
    lower = λ back. omega (arith, ltb-true x.basic y.basic h);
  }

  not_nearer-before : (x y : TableLine) (s t : Bool) → is_less (reach rows vs j x) (reach rows vs j y) ≡ s →
      is_less (reach rows vs j y) (reach rows vs j x) ≡ t →
      cond s true (cond t false (nat_lt x.basic y.basic)) ≡ false → ComesBefore rows vs j y x
  not_nearer-before x y true t e f h = cc
  not_nearer-before x y false true e f h = record {
    least = not_less (reach rows vs j x) (reach rows vs j y) e;
    lower = λ back. absurd (less-not_back (reach rows vs j y) (reach rows vs j x) f back);
  }
  not_nearer-before x y false false e f h = record {
    least = not_less (reach rows vs j x) (reach rows vs j y) e;
    lower = λ back. ltb-false x.basic y.basic h;
  }

  before-itself : (x : TableLine) → ComesBefore rows vs j x x
  unfolding AtMost
  before-itself x = record { least = omega arith; lower = λ back. omega arith }

  before-through : (x y z : TableLine) → Passes j x → Passes j y → Passes j z → ComesBefore rows vs j x y →
      ComesBefore rows vs j y z → ComesBefore rows vs j x z
  before-through x y z px py pz a b =
      let r = reach rows vs j in
      let over = λ (l : TableLine) (p : Passes j l). abs_of_below (coef_at j l) p in
      record {
        least = through (r x) (r y) (r z) (over y py) a.least b.least;
        lower = λ back. omega (
          arith,
          a.lower (through (r y) (r z) (r x) (over z pz) b.least back),
          b.lower (through (r z) (r x) (r y) (over x px) back a.least),
        );
      }

-- the nearest line comes before each other that passes
record IsFirst (rows : RowList) (table : Table) (j i : ℕ) : Type 0 where
  within : i < length table.lines
  passes : Passes j (line_at table.lines i)
  before : (k : ℕ) → k < length table.lines → Passes j (line_at table.lines k) →
      ComesBefore rows table.nonbasic j (line_at table.lines i) (line_at table.lines k)

nearest-is_first : (rows : RowList) (table : Table) (j i : ℕ) → nearest rows table j ≡ Some i → IsFirst rows table j i
nearest-is_first rows table j i e =
    let at = λ (n : ℕ). line_at table.lines n in
    let vs = table.nonbasic in
    let passes = λ (n : ℕ). int_lt (coef_at j (at n)) (pos 0) in
    let nearer = λ (n m : ℕ). is_nearer rows vs j (at n) (at m) in
    let here = foremost_passes passes nearer (length table.lines) i e in
    let r = λ (n : ℕ). reach rows vs j (at n) in
    record {
      within = here.0;
      passes = here.1;
      before = λ k l p. foremost-at_most passes nearer
          (λ n m. Passes j (at n) → Passes j (at m) → ComesBefore rows vs j (at n) (at m))
          (λ n pn pm. before-itself rows vs j (at n))
          (λ n m h pn pm. nearer-before rows vs j (at n) (at m) (is_less (r n) (r m)) (is_less (r m) (r n)) refl refl h)
          (λ n m h pm pn.
          not_nearer-before rows vs j (at n) (at m) (is_less (r n) (r m)) (is_less (r m) (r n)) refl refl h)
          (λ n m o pm a b pn po. before-through rows vs j (at n) (at m) (at o) pn pm po (a pn pm) (b pm po))
          (length table.lines) i e k l p here.1 p;
    }

none_near : (rows : RowList) (table : Table) (j : ℕ) → nearest rows table j ≡ None → (k : ℕ) →
    k < length table.lines → int_lt (coef_at j (line_at table.lines k)) (pos 0) ≡ false
none_near rows table j e k l =
    none_foremost (λ n. int_lt (coef_at j (line_at table.lines n)) (pos 0))
    (λ n m. is_nearer rows table.nonbasic j (line_at table.lines n) (line_at table.lines m)) (length table.lines) e k l

-- ---- by variables
-- no coefficient of a nonbasic variable itself is below 0
itself-not_passes : (v : ℕ) (vs : List ℕ) (j : ℕ) →
    int_lt (get_or (map (unit_of v) vs) j (pos 0)) (pos 0) ≡ false
itself-not_passes v [] j = refl
itself-not_passes v (w ∷ vs) zero = of_test (w == v)
  where
    of_test : (t : Bool) → int_lt (cond t (pos 1) (pos 0)) (pos 0) ≡ false
    of_test true = refl
    of_test false = refl
itself-not_passes v (w ∷ vs) (suc j) = itself-not_passes v vs j

-- so a variable whose line passes is basic
passing-basic : (rows : RowList) (table : Table) (j v : ℕ) → HasEachOnce rows table → IsVariable rows v →
    Passes j (line_of table v) → IsBasic table v
passing-basic rows table j v h w p = ⊎_elim (λ b. b)
    (λ n. absurd (false≢true (sym (itself-not_passes v table.nonbasic j)
    ∙ subst (λ (y : TableLine). Passes j y) n.is p)))
    (basic_or_nonbasic rows table v h w)

-- the line of the variable that comes before each other is the nearest
first-nearest : (rows : RowList) (table : Table) (j x : ℕ) (o : Option ℕ) → HasEachOnce rows table →
    IsVariable rows x → Passes j (line_of table x) →
    ((v : ℕ) → IsVariable rows v → Passes j (line_of table v) →
    ComesBefore rows table.nonbasic j (line_of table x) (line_of table v)) → nearest rows table j ≡ o →
    (k : ℕ) × (nearest rows table j ≡ Some k) × (slice_get table.lines k ≡ Some (line_of table x))
first-nearest rows table j x None h w p first e =
    let b = passing-basic rows table j x h w p in
    absurd (false≢true (sym (none_near rows table j e b.place b.within)
    ∙ subst (λ (y : TableLine). Passes j y) b.is p))
first-nearest rows table j x (Some k) h w p first e =
    let b = passing-basic rows table j x h w p in
    let f = nearest-is_first rows table j k e in
    let v = (line_at table.lines k).basic in
    let own = basic_line rows table k no_line h f.within in
    let over = subst (λ (y : TableLine). ComesBefore rows table.nonbasic j (line_of table x) y) own
    (first v (place-is_variable rows table k h f.within) (subst (λ (y : TableLine). Passes j y) (sym own) f.passes)) in
    let back = subst (λ (y : TableLine). ComesBefore rows table.nonbasic j (line_at table.lines k) y) (sym b.is)
    (f.before b.place b.within (subst (λ (y : TableLine). Passes j y) b.is p)) in (
      k,
      e,
      at_variable rows table k x h f.within
          (omega (arith, over.lower back.least, back.lower over.least, line_of-basic table x)),
    )

-- none is where no variable's line passes
none_passing : (rows : RowList) (table : Table) (j : ℕ) (o : Option ℕ) → HasEachOnce rows table →
    ((v : ℕ) → IsVariable rows v → Passes j (line_of table v) → ⊥) → nearest rows table j ≡ o →
    nearest rows table j ≡ None
none_passing rows table j None h none e = e
none_passing rows table j (Some k) h none e =
    let f = nearest-is_first rows table j k e in
    absurd (none (line_at table.lines k).basic (place-is_variable rows table k h f.within)
    (subst (λ (y : TableLine). Passes j y) (sym (basic_line rows table k no_line h f.within)) f.passes))

-- ---- within the class of a line
less_far : (d e : ℕ) (x y s : ℤ) → pos d ≡ s -ℤ y → pos e ≡ s -ℤ x → x ≤ℤ y → d ≤ e
less_far d e x y s h i le = omega (arith, ints, le_out x y le)

nearer_far : (d e : ℕ) (x y s : ℤ) → pos d ≡ s -ℤ y → pos e ≡ s -ℤ x → x <ℤ y → d < e
nearer_far d e x y s h i less = omega (arith, ints, lt_out x y less)

-- the one with the higher bound is nearer to it
module _ (rows : RowList) (vs : List ℕ) (j v : ℕ) (line : TableLine) (over : pos 0 <ℤ line.times)
    (low : IsNotBelow (bound_of rows) vs line) (also : IsNotBelow (bound_of rows) vs (named v line)) where
  far : pos (distance rows vs line) ≡ sum_at (bound_of rows) vs line.coefs -ℤ line.times *ℤ bound_of rows line.basic
  far = from_bound (line.times *ℤ bound_of rows line.basic) (sum_at (bound_of rows) vs line.coefs) low

  named-far : pos (distance rows vs (named v line)) ≡ sum_at (bound_of rows) vs line.coefs -ℤ
      line.times *ℤ bound_of rows v
  named-far = from_bound (line.times *ℤ bound_of rows v) (sum_at (bound_of rows) vs line.coefs) also

  distance-least : bound_of rows v ≤ℤ bound_of rows line.basic → distance rows vs line ≤ distance rows vs (named v line)
  distance-least le =
      let b = bound_of rows in
      less_far (distance rows vs line) (distance rows vs (named v line)) (line.times *ℤ b v)
      (line.times *ℤ b line.basic) (sum_at b vs line.coefs) far named-far
      (times_at_most line.times (b v) (b line.basic) over le)

  distance-less : bound_of rows v <ℤ bound_of rows line.basic → distance rows vs line < distance rows vs (named v line)
  distance-less less =
      let b = bound_of rows in
      nearer_far (distance rows vs line) (distance rows vs (named v line)) (line.times *ℤ b v)
      (line.times *ℤ b line.basic) (sum_at b vs line.coefs) far named-far
      (times_below line.times (b v) (b line.basic) over less)

  reach-least : bound_of rows v ≤ℤ bound_of rows line.basic →
      AtMost (reach rows vs j line) (reach rows vs j (named v line))
  unfolding AtMost
  reach-least le = mul-le-mul_right (unsigned_abs (coef_at j line)) (distance-least le)

  reach-less : Passes j line → bound_of rows v <ℤ bound_of rows line.basic →
      AtMost (reach rows vs j (named v line)) (reach rows vs j line) → ⊥
  unfolding AtMost
  reach-less p less back =
      let c = unsigned_abs (coef_at j line) in
      let positive = abs_of_below (coef_at j line) p in
      let far-less : suc (distance rows vs line) ≤ distance rows vs (named v line) =
      omega (arith, distance-less less) in
      let more = mul-le-mul_left c far-less in
      absurd (omega (arith, positive, more, back))

-- ---- by classes
module _ (rows : RowList) (table : Table) (classes : Classes) (full : Table) (t : IsTableOfRows rows full)
    (s : StandsFor rows table classes full) where
  -- a variable whose line passes is in the class of a line that does
  record InLine (j v : ℕ) : Type 0 where
    place : ℕ
    within : place < length table.lines
    is_in : IsIn (class_at classes.lines place) v
    passes : Passes j (line_at table.lines place)

  in_line : (j v : ℕ) → IsVariable rows v → Passes j (line_of full v) → InLine j v
  in_line j v w p = ⊎_elim
      (λ (one : IsInOne classes.lines v).
      let l : one.place < length table.lines = omega (arith, s.fit.lines, one.within) in
      record {
        place = one.place;
        within = l;
        is_in = one.is_in;
        passes = ap (λ (y : TableLine). int_lt (coef_at j y) (pos 0))
            (line_of-line rows table classes full t s one.place v l one.is_in) ∙ p;
      })
      (λ (one : IsInOne classes.columns v).
      let l : one.place < length table.nonbasic = omega (arith, s.fit.columns, one.within) in
      absurd (false≢true (sym (itself-not_passes (column_at table one.place) full.nonbasic j)
      ∙ ap (λ (y : TableLine). int_lt (coef_at j y) (pos 0))
      (line_of-itself rows table classes full t s one.place v l one.is_in) ∙ p)))
      (s.fit.cover v w)

  -- what is known of the variable of a line that passes
  record IsLow (line : TableLine) : Type 0 where
    over : pos 0 <ℤ line.times
    low : IsNotBelow (bound_of rows) table.nonbasic line

  passing-low : NoneBelow rows full → (j v : ℕ) (line : TableLine) → IsVariable rows v → line ≡ line_of full v →
      Passes j line → IsLow line
  passing-low none j v line w is p =
      let b = passing-basic rows full j v t.each_once w (subst (λ (y : TableLine). Passes j y) is p) in
      let own : line_at full.lines b.place ≡ line = sym b.is ∙ sym is in
      let fits = t.lines b.place no_line b.within in
      let low = none b.place no_line b.within in
      record {
        over = subst (λ (y : TableLine). pos 0 <ℤ y.times) own fits.over;
        low = subst (λ (vs : List ℕ). IsNotBelow (bound_of rows) vs line) (sym s.nonbasic)
            (subst (IsNotBelow (bound_of rows) full.nonbasic) own low);
      }

  -- the line of a class comes before that of each variable of it
  lead-before : Lead rows table classes → NoneBelow rows full → (j i v : ℕ) → i < length table.lines →
      IsIn (class_at classes.lines i) v → Passes j (line_at table.lines i) →
      ComesBefore rows table.nonbasic j (line_at table.lines i) (named v (line_at table.lines i))
  lead-before lead none j i v l is p =
      let b = bound_of rows in
      let line = line_at table.lines i in
      let class = class_at classes.lines i in
      let c = line_class rows table classes i s.fit l in
      let own = passing-low none j line.basic line
      (in_class-is_variable rows class line.basic c (s.fit.basic i l)) (line_of-own rows table classes full t s i l)
      p in
      let other = passing-low none j v (named v line) (in_class-is_variable rows class v c is)
      (line_of-line rows table classes full t s i v l is) p in
      let last : line.basic ≡ class.last = ⊎_elim
      (λ below. absurd (omega (
        arith,
        lt-true (sum_at b table.nonbasic line.coefs) (line.times *ℤ b line.basic) below,
        le_out (line.times *ℤ b line.basic) (sum_at b table.nonbasic line.coefs) own.low,
      )))
      (λ e. e) ((lead i l).or_last) in
      record {
        least = reach-least rows table.nonbasic j v line own.over own.low other.low
            (bounds-keep rows class v line.basic c is.from (omega (arith, last, is.to)) (omega (arith, last)));
        lower = λ back. ⊎_elim
            (λ less. absurd (reach-less rows table.nonbasic j v line own.over own.low other.low p
            (bounds-rise rows class v line.basic c is.from less (omega (arith, last))) back))
            (λ more. more)
            (cases_lt v line.basic);
      }

-- the nearest line is that of the table that it stands for
pub nearest-stands : (rows : RowList) (table : Table) (classes : Classes) (full : Table) (i j : ℕ) →
    IsTableOfRows rows full → StandsFor rows table classes full → Lead rows table classes → NoneBelow rows full →
    j < length table.nonbasic → nearest rows table j ≡ Some i →
    (k : ℕ) × (nearest rows full j ≡ Some k) × (slice_get full.lines k ≡ Some (line_at table.lines i))
nearest-stands rows table classes full i j t s lead none column e =
    let line = line_at table.lines i in
    let f = nearest-is_first rows table j i e in
    let own = line_of-own rows table classes full t s i f.within in
    let x = line.basic in
    subst (λ y. (k : ℕ) × (nearest rows full j ≡ Some k) × (slice_get full.lines k ≡ Some y)) (sym own)
    (first-nearest rows full j x (nearest rows full j) t.each_once
    (in_class-is_variable rows (class_at classes.lines i) x (line_class rows table classes i s.fit f.within)
    (s.fit.basic i f.within))
    (subst (λ (y : TableLine). Passes j y) own f.passes)
    (λ v w p.
    let at = in_line rows table classes full t s j v w p in
    let lead-line = line_at table.lines at.place in
    let chain = before-through rows table.nonbasic j line lead-line (named v lead-line) f.passes at.passes at.passes
    (f.before at.place at.within at.passes)
    (lead-before rows table classes full t s lead none j at.place v at.within at.is_in at.passes) in
    subst (λ (vs : List ℕ). ComesBefore rows vs j (line_of full x) (line_of full v)) s.nonbasic
    (subst (λ (y : TableLine). ComesBefore rows table.nonbasic j y (line_of full v)) own
    (subst (λ (y : TableLine). ComesBefore rows table.nonbasic j line y)
    (line_of-line rows table classes full t s at.place v at.within at.is_in) chain)))
    refl)

-- where none is, none is of the table that it stands for
pub none_nearest-stands : (rows : RowList) (table : Table) (classes : Classes) (full : Table) (j : ℕ) →
    IsTableOfRows rows full → StandsFor rows table classes full → Lead rows table classes → NoneBelow rows full →
    j < length table.nonbasic → nearest rows table j ≡ None → nearest rows full j ≡ None
none_nearest-stands rows table classes full j t s lead none column e =
    none_passing rows full j (nearest rows full j) t.each_once
    (λ v w p.
    let at = in_line rows table classes full t s j v w p in
    false≢true (sym (none_near rows table j e at.place at.within) ∙ at.passes))
    refl
