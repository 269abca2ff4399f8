-- The choice of variables by classes is that of the table that stands for them.
use Rattle.std.proofs.Common.{◌≡◌, ℕ, zero, suc, ◌+◌, ◌-◌, ◌<◌, ◌≤◌, true, false, length, map, get_or, refl, ap, sym, subst, ◌∙◌, arith, ℤ, pos, ◌*ℤ◌, ◌≤ℤ◌, ◌<ℤ◌, int_lt, Option, Some, None, slice_get, ⊎_elim}
use Rattle.std.proofs.lemmas.Int.{ints}
use Rattle.std.proofs.lemmas.Bool.{cases_lt, false≢true, false_from_ne_true}
use Rattle.std.proofs.lemmas.List.{get_or-map}
use Rattle.std.proofs.lemmas.Option.{slice_get-get_or}
use borrow.Author.Differences.{le_out, lt_out, at_most_in, below_in, lt-true, false_is_lt, true_is_lt}
use Rattle.nomos_forms.specs.declared.row_list.RowList.{RowList}
use Rattle.nomos_simplex.specs.GoalLine.{itself, line_of}
use Rattle.nomos_simplex.specs.LowestVariable.{is_below, leaving}
use Rattle.nomos_simplex.specs.Nearest.{line_at}
use Rattle.nomos_simplex.specs.Sizes.{IsVariable}
use Rattle.nomos_simplex.specs.Tables.{bound_of, sum_at}
use Rattle.nomos_simplex.specs.declared.classes.Class.{Class}
use Rattle.nomos_simplex.specs.declared.classes.Classes.{Classes}
use Rattle.nomos_simplex.specs.declared.table.TableLine.{TableLine}
use Rattle.nomos_simplex.specs.declared.table.Table.{Table}
use Rattle.nomos_simplex.specs.mirror.Classes.{IsIn, IsClass, class_at, IsInOne, column_at, StandsFor, named, Lead, NoneIsBelow, IsAtMostBelow}
use Rattle.nomos_simplex.proofs.ClassLemmas.{no_line, in_class-is_variable, line_class, column_class, next-in, same_line, line_of-basic, IsBasic, IsNonbasic, basic_or_nonbasic, basic_line, place-is_variable, column-nonbasic_in_full}
use Rattle.nomos_simplex.proofs.GoalLineLemmas.{itself_sum}
use Rattle.nomos_simplex.proofs.PlaceLemmas.{none_passes, place_passes, lowest-at_most}
use Rattle.nomos_simplex.proofs.SignLemmas.{one_times}
use Rattle.nomos_simplex.proofs.TableLaws.{IsTableOfRows}
use Rattle.nomos_simplex.proofs.VariableLemmas.{HasEachOnce}

-- ---- within a class the bounds rise
rise_by : (rows : RowList) (class : Class) (v w n : ℕ) → IsClass rows class → class.first ≤ v → w ≡ v + n + 1 →
    w ≤ class.last → bound_of rows v <ℤ bound_of rows w
rise_by rows class v w zero c low is high =
    let next : v + 1 ≡ w = omega (arith, is) in
    subst (λ x. bound_of rows v <ℤ bound_of rows x) next (c.alike v low (omega (arith, is, high))).more
rise_by rows class v w (suc n) c low is high =
    let b = bound_of rows in
    let m = v + n + 1 in
    let before = rise_by rows class v m n c low refl (omega (arith, is, high)) in
    let next : m + 1 ≡ w = omega (arith, is) in
    let last = subst (λ x. b m <ℤ b x) next (c.alike m (omega (arith, low)) (omega (arith, is, high))).more in
    below_in (b v) (b w) (omega (arith, lt_out (b v) (b m) before, lt_out (b m) (b w) last))

-- within a class the bound of the later variable is more
pub bounds-rise : (rows : RowList) (class : Class) (v w : ℕ) → IsClass rows class → class.first ≤ v → v < w →
    w ≤ class.last → bound_of rows v <ℤ bound_of rows w
bounds-rise rows class v w c low less high =
    rise_by rows class v w (w - v - 1) c low (omega arith) high

-- and of a variable that is at most another, at most that of the other
pub bounds-keep : (rows : RowList) (class : Class) (v w : ℕ) → IsClass rows class → class.first ≤ v → v ≤ w →
    w ≤ class.last → bound_of rows v ≤ℤ bound_of rows w
bounds-keep rows class v w c low le high =
    let b = bound_of rows in
    ⊎_elim
    (λ less. at_most_in (b v) (b w) (omega (arith, lt_out (b v) (b w) (bounds-rise rows class v w c low less high))))
    (λ more. let same : v ≡ w = omega arith in subst (λ x. b v ≤ℤ b x) same (at_most_in (b v) (b v) (omega arith)))
    (cases_lt v w)

-- ---- which variables are below their bounds
abbrev Under : RowList → Table → ℕ → Type 0
Under rows full v = is_below rows full.nonbasic (line_of full v) ≡ true

not_less_itself : (a b : ℤ) → a ≡ b → int_lt a b ≡ false
not_less_itself a b e = sym (false_is_lt a b (omega (arith, ints, e)))

-- the sum of a nonbasic variable itself is what it has
itself_alone : (rows : RowList) (table : Table) (v : ℕ) → IsNonbasic table v →
    sum_at (bound_of rows) table.nonbasic (itself table.nonbasic v).coefs ≡ bound_of rows v
itself_alone rows table v n =
    itself_sum (bound_of rows) v table.nonbasic ∙ ap (λ k. pos k *ℤ bound_of rows v) n.once
    ∙ one_times (bound_of rows v) (bound_of rows v) refl

-- no nonbasic variable is
nonbasic-not_under : (rows : RowList) (table : Table) (v : ℕ) → IsNonbasic table v →
    is_below rows table.nonbasic (line_of table v) ≡ false
nonbasic-not_under rows table v n =
    ap (is_below rows table.nonbasic) n.is
    ∙ not_less_itself (sum_at (bound_of rows) table.nonbasic (itself table.nonbasic v).coefs)
    (pos 1 *ℤ bound_of rows v) (itself_alone rows table v n ∙ sym (one_times (bound_of rows v) (bound_of rows v) refl))

-- so one that is is basic
under-basic : (rows : RowList) (table : Table) (v : ℕ) → HasEachOnce rows table → IsVariable rows v →
    Under rows table v → IsBasic table v
under-basic rows table v h w u = ⊎_elim (λ b. b)
    (λ n. absurd (false≢true (sym (nonbasic-not_under rows table v n) ∙ u)))
    (basic_or_nonbasic rows table v h w)

-- the test of the line at a place
at_below : (rows : RowList) (table : Table) (k : ℕ) → k < length table.lines →
    get_or (map (is_below rows table.nonbasic) table.lines) k false ≡ is_below rows table.nonbasic
    (line_at table.lines k)
at_below rows table k l =
    get_or-map (is_below rows table.nonbasic) table.lines k no_line false l

at_basic : (table : Table) (k : ℕ) → k < length table.lines →
    get_or (map (λ (line : TableLine). line.basic) table.lines) k 0 ≡ (line_at table.lines k).basic
at_basic table k l =
    get_or-map (λ (line : TableLine). line.basic) table.lines k no_line 0 l

pub none_below_at : (rows : RowList) (table : Table) → leaving rows table ≡ None → (k : ℕ) → k < length table.lines →
    is_below rows table.nonbasic (line_at table.lines k) ≡ false
none_below_at rows table e k l =
    sym (at_below rows table k l)
    ∙ none_passes (λ i. get_or (map (is_below rows table.nonbasic) table.lines) i false)
    (λ i. get_or (map (λ (line : TableLine). line.basic) table.lines) i 0) (length table.lines) e k l

-- the line that leaves is that of the lowest variable below its bound
pub record Leaves (rows : RowList) (table : Table) (k : ℕ) : Type 0 where
  pub within : k < length table.lines
  pub below : is_below rows table.nonbasic (line_at table.lines k) ≡ true
  pub least : (m : ℕ) → m < length table.lines → is_below rows table.nonbasic (line_at table.lines m) ≡ true →
      (line_at table.lines k).basic ≤ (line_at table.lines m).basic

pub leaves : (rows : RowList) (table : Table) (k : ℕ) → leaving rows table ≡ Some k → Leaves rows table k
leaves rows table k e =
    let passes = λ (i : ℕ). get_or (map (is_below rows table.nonbasic) table.lines) i false in
    let number = λ (i : ℕ). get_or (map (λ (line : TableLine). line.basic) table.lines) i 0 in
    let at = place_passes passes number (length table.lines) k e in
    record {
      within = at.0;
      below = sym (at_below rows table k at.0) ∙ at.1;
      least = λ m l b. omega (
        arith,
        at_basic table k at.0,
        at_basic table m l,
        lowest-at_most passes number (length table.lines) k e m l (at_below rows table m l ∙ b),
      );
    }

-- the line of a place, from its variable
pub at_variable : (rows : RowList) (table : Table) (k x : ℕ) → HasEachOnce rows table → k < length table.lines →
    (line_at table.lines k).basic ≡ x → slice_get table.lines k ≡ Some (line_of table x)
at_variable rows table k x h l is =
    slice_get-get_or table.lines k no_line l
    ∙ ap Some (sym (basic_line rows table k no_line h l) ∙ ap (line_of table) is)

-- the lowest variable below its bound leaves
lowest_leaves : (rows : RowList) (table : Table) (x : ℕ) (o : Option ℕ) → HasEachOnce rows table → IsVariable rows x →
    Under rows table x → ((v : ℕ) → IsVariable rows v → Under rows table v → x ≤ v) → leaving rows table ≡ o →
    (k : ℕ) × (leaving rows table ≡ Some k) × (slice_get table.lines k ≡ Some (line_of table x))
lowest_leaves rows table x None h w u least e =
    let b = under-basic rows table x h w u in
    absurd (false≢true (sym (none_below_at rows table e b.place b.within)
    ∙ subst (λ y. is_below rows table.nonbasic y ≡ true) b.is u))
lowest_leaves rows table x (Some k) h w u least e =
    let b = under-basic rows table x h w u in
    let l = leaves rows table k e in
    let v = (line_at table.lines k).basic in
    let up : Under rows table v =
    ap (is_below rows table.nonbasic) (basic_line rows table k no_line h l.within) ∙ l.below in
    let le : x ≤ v = least v (place-is_variable rows table k h l.within) up in
    let ge : v ≤ (line_at table.lines b.place).basic =
    l.least b.place b.within (subst (λ y. is_below rows table.nonbasic y ≡ true) b.is u) in
    let own : (line_at table.lines b.place).basic ≡ x = ap (λ y. y.basic) (sym b.is) ∙ line_of-basic table x in
    (k, e, at_variable rows table k x h l.within (omega (arith, le, ge, own)))

-- none leaves where no variable is below its bound
none_under : (rows : RowList) (table : Table) (o : Option ℕ) → HasEachOnce rows table →
    ((v : ℕ) → IsVariable rows v → is_below rows table.nonbasic (line_of table v) ≡ false) → leaving rows table ≡ o →
    leaving rows table ≡ None
none_under rows table None h none e = e
none_under rows table (Some k) h none e =
    let l = leaves rows table k e in
    let v = (line_at table.lines k).basic in
    absurd (false≢true (sym (none v (place-is_variable rows table k h l.within))
    ∙ ap (is_below rows table.nonbasic) (basic_line rows table k no_line h l.within) ∙ l.below))

-- ---- by classes
module _ (rows : RowList) (table : Table) (classes : Classes) (full : Table) (t : IsTableOfRows rows full)
    (s : StandsFor rows table classes full) where
  -- the line of a variable in the class of a line
  pub line_of-line : (i v : ℕ) → i < length table.lines → IsIn (class_at classes.lines i) v →
      named v (line_at table.lines i) ≡ line_of full v
  line_of-line i v l is =
      let n = s.lines i v l is in
      same_line (named v (line_at table.lines i)) (line_of full v) (record { times = n.times; coefs = n.coefs })
      (sym (line_of-basic full v))

  -- that of a line's own variable
  pub line_of-own : (i : ℕ) → i < length table.lines →
      line_at table.lines i ≡ line_of full (line_at table.lines i).basic
  line_of-own i l = line_of-line i (line_at table.lines i).basic l (s.fit.basic i l)

  -- a column is nonbasic in both tables
  in_full : (j : ℕ) → j < length table.nonbasic → IsNonbasic full (column_at table j)
  in_full j l = column-nonbasic_in_full rows table classes full j t.each_once s l

  -- the line of a variable in the class of a column
  pub line_of-class : (j v : ℕ) → j < length table.nonbasic → IsIn (class_at classes.columns j) v →
      named v (line_of full (column_at table j)) ≡ line_of full v
  line_of-class j v l is =
      let n = s.columns j v l is in
      same_line (named v (line_of full (column_at table j))) (line_of full v)
      (record { times = n.times; coefs = n.coefs }) (sym (line_of-basic full v))

  -- and it is once the column's variable
  pub line_of-itself : (j v : ℕ) → j < length table.nonbasic → IsIn (class_at classes.columns j) v →
      named v (itself full.nonbasic (column_at table j)) ≡ line_of full v
  line_of-itself j v l is = ap (named v) (sym (in_full j l).is) ∙ line_of-class j v l is

  -- whether a variable in the class of a line is below its bound
  line-below : (i v : ℕ) → i < length table.lines → IsIn (class_at classes.lines i) v →
      is_below rows table.nonbasic (named v (line_at table.lines i)) ≡ is_below rows full.nonbasic (line_of full v)
  line-below i v l is = λ p. is_below rows (s.nonbasic p) (line_of-line i v l is p)

  -- and one in that of a column
  column-below : (j v : ℕ) → j < length table.nonbasic → IsIn (class_at classes.columns j) v →
      is_below rows full.nonbasic (line_of full v) ≡ int_lt (bound_of rows (column_at table j)) (bound_of rows v)
  column-below j v l is =
      ap (is_below rows full.nonbasic) (sym (line_of-itself j v l is))
      ∙ (λ p. int_lt (itself_alone rows full (column_at table j) (in_full j l) p)
      (one_times (bound_of rows v) (bound_of rows v) refl p))

  -- where one in the class of a line is below its bound, so is the line's variable, which is at most the one
  line-under : Lead rows table classes → (i v : ℕ) → i < length table.lines → IsIn (class_at classes.lines i) v →
      Under rows full v →
      (is_below rows table.nonbasic (line_at table.lines i) ≡ true) × ((line_at table.lines i).basic ≤ v)
  line-under lead i v l is u =
      let line = line_at table.lines i in
      let own = lead i l in
      let named-below : is_below rows table.nonbasic (named v line) ≡ true = line-below i v l is ∙ u in
      ⊎_elim
      (λ less. absurd (false≢true (sym (own.before v is.from less) ∙ named-below)))
      (λ more. ⊎_elim (λ b. (b, more))
      (λ last.
      let same : v ≡ line.basic = omega (arith, more, last, is.to) in
      (subst (λ w. is_below rows table.nonbasic (named w line) ≡ true) same named-below, more))
      own.or_last)
      (cases_lt v line.basic)

  -- one in that of a column is below its bound where it comes after the column's variable
  column-under : (j v : ℕ) → j < length table.nonbasic → IsIn (class_at classes.columns j) v → Under rows full v →
      column_at table j < v
  column-under j v l is u =
      let b = bound_of rows in
      let w = column_at table j in
      let less = lt-true (b w) (b v) (sym (column-below j v l is) ∙ u) in
      ⊎_elim (λ lt. lt)
      (λ ge. absurd (omega (
        arith,
        less,
        le_out (b v) (b w) (bounds-keep rows (class_at classes.columns j) v w
            (column_class rows table classes j s.fit l) is.from ge (s.fit.nonbasic j l).to),
      )))
      (cases_lt w v)

  -- the one after the column's variable, where the class has one, is below its bound
  next-under : (j : ℕ) → j < length table.nonbasic → column_at table j < (class_at classes.columns j).last →
      Under rows full (column_at table j + 1)
  next-under j l less =
      let b = bound_of rows in
      let w = column_at table j in
      let class = class_at classes.columns j in
      column-below j (w + 1) l (next-in rows table classes j s.fit l less)
      ∙ sym (true_is_lt (b w) (b (w + 1)) (lt_out (b w) (b (w + 1)) (bounds-rise rows class w (w + 1)
      (column_class rows table classes j s.fit l)
      (s.fit.nonbasic j l).from (omega arith) (omega (arith, less)))))

  -- none is below its bound where none of the lines' variables is, and no class of a column has one after its variable
  none-under : Lead rows table classes → NoneIsBelow rows table classes → (v : ℕ) → IsVariable rows v →
      Under rows full v → ⊥
  none-under lead none v w u = ⊎_elim
      (λ (one : IsInOne classes.lines v).
      let l : one.place < length table.lines = omega (arith, s.fit.lines, one.within) in
      false≢true (sym (none.lines one.place l) ∙ (line-under lead one.place v l one.is_in u).0))
      (λ (one : IsInOne classes.columns v).
      let l : one.place < length table.nonbasic = omega (arith, s.fit.columns, one.within) in
      absurd (omega (arith, none.columns one.place l, column-under one.place v l one.is_in u, one.is_in.to)))
      (s.fit.cover v w)

  -- a variable that is at most each of these is at most each that is below its bound
  least-under : Lead rows table classes → (x : ℕ) → IsAtMostBelow rows table classes x → (v : ℕ) →
      IsVariable rows v → Under rows full v → x ≤ v
  least-under lead x least v w u = ⊎_elim
      (λ (one : IsInOne classes.lines v).
      let l : one.place < length table.lines = omega (arith, s.fit.lines, one.within) in
      let below = line-under lead one.place v l one.is_in u in
      omega (arith, least.lines one.place l below.0, below.1))
      (λ (one : IsInOne classes.columns v).
      let l : one.place < length table.nonbasic = omega (arith, s.fit.columns, one.within) in
      let after = column-under one.place v l one.is_in u in
      omega (arith, least.columns one.place l (omega (arith, after, one.is_in.to)), after))
      (s.fit.cover v w)

-- no variable is below its bound
pub none_leaves : (rows : RowList) (table : Table) (classes : Classes) (full : Table) → IsTableOfRows rows full →
    StandsFor rows table classes full → Lead rows table classes → NoneIsBelow rows table classes →
    leaving rows full ≡ None
none_leaves rows table classes full t s lead none =
    none_under rows full (leaving rows full) t.each_once
    (λ v w. false_from_ne_true (is_below rows full.nonbasic (line_of full v))
    (λ u. none-under rows table classes full t s lead none v w u)) refl

-- the variable of a line leaves
pub line_leaves : (rows : RowList) (table : Table) (classes : Classes) (full : Table) (i : ℕ) →
    IsTableOfRows rows full → StandsFor rows table classes full → Lead rows table classes → i < length table.lines →
    is_below rows table.nonbasic (line_at table.lines i) ≡ true →
    IsAtMostBelow rows table classes (line_at table.lines i).basic →
    (k : ℕ) × (leaving rows full ≡ Some k) × (slice_get full.lines k ≡ Some (line_at table.lines i))
line_leaves rows table classes full i t s lead l below least =
    let line = line_at table.lines i in
    let x = line.basic in
    let own = line_of-own rows table classes full t s i l in
    subst (λ y. (k : ℕ) × (leaving rows full ≡ Some k) × (slice_get full.lines k ≡ Some y)) (sym own)
    (lowest_leaves rows full x (leaving rows full) t.each_once
    (in_class-is_variable rows (class_at classes.lines i) x (line_class rows table classes i s.fit l)
    (s.fit.basic i l))
    (sym (line-below rows table classes full t s i x l (s.fit.basic i l)) ∙ below)
    (least-under rows table classes full t s lead x least) refl)

-- the variable after the nonbasic one of a column leaves
pub column_leaves : (rows : RowList) (table : Table) (classes : Classes) (full : Table) (j : ℕ) →
    IsTableOfRows rows full → StandsFor rows table classes full → Lead rows table classes → j < length table.nonbasic →
    column_at table j < (class_at classes.columns j).last →
    IsAtMostBelow rows table classes (column_at table j + 1) →
    (k : ℕ) × (leaving rows full ≡ Some k) ×
    (slice_get full.lines k ≡ Some (named (column_at table j + 1) (line_of full (column_at table j))))
column_leaves rows table classes full j t s lead l less least =
    let x = column_at table j + 1 in
    let is = next-in rows table classes j s.fit l less in
    let own = line_of-class rows table classes full t s j x l is in
    subst (λ y. (k : ℕ) × (leaving rows full ≡ Some k) × (slice_get full.lines k ≡ Some y)) (sym own)
    (lowest_leaves rows full x (leaving rows full) t.each_once
    (in_class-is_variable rows (class_at classes.columns j) x (column_class rows table classes j s.fit l) is)
    (next-under rows table classes full t s j l less) (least-under rows table classes full t s lead x least) refl)
