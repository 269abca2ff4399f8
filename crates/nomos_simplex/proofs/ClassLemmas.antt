-- Classes: lines with the same numbers, the line of each variable, and what a table with one line for each class has.
use Rattle.std.proofs.Common.{◌≡◌, ◌==◌, ℕ, ◌+◌, ◌<◌, Bool, true, false, cond, List, [], length, get_or, find, refl, ap, sym, subst, ◌∙◌, arith, ℤ, pos, All, Option, Some, None, ◌⊎◌, inl, inr}
use Rattle.std.proofs.lemmas.Bool.{eqb-true, eq-eqb}
use Rattle.std.proofs.lemmas.List.{get_or_default}
use Rattle.nomos_forms.specs.declared.row_list.RowList.{RowList}
use Rattle.nomos_simplex.specs.GoalLine.{itself, line_or_itself, line_of}
use Rattle.nomos_simplex.specs.Nearest.{line_at}
use Rattle.nomos_simplex.specs.Sizes.{IsVariable}
use Rattle.nomos_simplex.specs.declared.classes.Class.{Class}
use Rattle.nomos_simplex.specs.declared.classes.Classes.{Classes}
use Rattle.nomos_simplex.specs.declared.table.TableLine.{TableLine}
use Rattle.nomos_simplex.specs.declared.table.Table.{Table}
use Rattle.nomos_simplex.specs.mirror.Classes.{IsIn, IsClass, class_at, column_at, Fit, SameNumbers, StandsFor}
use Rattle.nomos_simplex.proofs.AmountLemmas.{found_passes}
use Rattle.nomos_simplex.proofs.CountLemmas.{counted}
use Rattle.nomos_simplex.proofs.VariableLemmas.{nonbasic_times, HasEachOnce, not_found, finds, not_basic, basic-is_variable}

-- past the ends of the lists
abbrev pub no_class : Class
no_class = record { first = 1; last = 0 }

abbrev pub no_line : TableLine
no_line = line_at [] 0

-- ---- classes
-- a variable in a class is one of the rows
pub in_class-is_variable : (rows : RowList) (class : Class) (v : ℕ) → IsClass rows class → IsIn class v →
    IsVariable rows v
in_class-is_variable rows class v c i = (omega (arith, c.least, i.from), omega (arith, c.most, i.to))

-- that of a line, and that of a column
pub line_class : (rows : RowList) (table : Table) (classes : Classes) (i : ℕ) → Fit rows table classes →
    i < length table.lines → IsClass rows (class_at classes.lines i)
line_class rows table classes i f l = f.of_lines i no_class (omega (arith, f.lines, l))

pub column_class : (rows : RowList) (table : Table) (classes : Classes) (j : ℕ) → Fit rows table classes →
    j < length table.nonbasic → IsClass rows (class_at classes.columns j)
column_class rows table classes j f l = f.of_columns j no_class (omega (arith, f.columns, l))

-- the variable that follows that of a column, where the class has one
pub next-in : (rows : RowList) (table : Table) (classes : Classes) (j : ℕ) → Fit rows table classes →
    j < length table.nonbasic → column_at table j < (class_at classes.columns j).last →
    IsIn (class_at classes.columns j) (column_at table j + 1)
next-in rows table classes j f l less =
    record { from = omega (arith, (f.nonbasic j l).from); to = omega (arith, less) }

-- ---- lines with the same numbers
pub same_back : (a b : TableLine) → SameNumbers a b → SameNumbers b a
same_back a b s = record { times = sym s.times; coefs = sym s.coefs }

pub alike : (a b c : TableLine) → SameNumbers a b → SameNumbers a c → SameNumbers b c
alike a b c s t = record { times = sym s.times ∙ t.times; coefs = sym s.coefs ∙ t.coefs }

pub same_by : (a b c d : TableLine) → c ≡ a → d ≡ b → SameNumbers a b → SameNumbers c d
same_by a b c d e f s = subst (λ x. SameNumbers x d) (sym e) (subst (SameNumbers a) (sym f) s)

-- and the same variable are equal
pub same_line : (a b : TableLine) → SameNumbers a b → a.basic ≡ b.basic → a ≡ b
same_line a b s e = λ p. record { times = s.times p; basic = e p; coefs = s.coefs p }

-- ---- a nonbasic variable itself: 1 where it is, and 0 elsewhere
abbrev pub unit_of : ℕ → ℕ → ℤ
unit_of v w = cond (w == v) (pos 1) (pos 0)

pub unit_here : (v w : ℕ) → w ≡ v → unit_of v w ≡ pos 1
unit_here v w e = ap (λ t. cond t (pos 1) (pos 0)) (eq-eqb w v e)

pub unit_elsewhere : (v w : ℕ) → ¬ (w ≡ v) → unit_of v w ≡ pos 0
unit_elsewhere v w n = of_test (w == v) refl
  where
    of_test : (t : Bool) → w == v ≡ t → cond t (pos 1) (pos 0) ≡ pos 0
    of_test true e = absurd (n (eqb-true w v e))
    of_test false e = refl

-- ---- the line of a variable
-- is of it
pub line_of-basic : (table : Table) (v : ℕ) → (line_of table v).basic ≡ v
line_of-basic table v = of_found (find (λ line. line.basic == v) table.lines) refl
  where
    of_found : (o : Option TableLine) → find (λ line. line.basic == v) table.lines ≡ o →
        (line_or_itself table.nonbasic v o).basic ≡ v
    of_found (Some line) e =
        eqb-true line.basic v (found_passes (λ line. Unit) (λ line. line.basic == v) table.lines line (λ k d l. tt) e).1
    of_found None e = refl

-- what is known of each line and of each variable itself is known of it
pub line_of-passes : (P : TableLine → Type 0) (table : Table) (v : ℕ) → All P table.lines → P (itself table.nonbasic v)
    →
    P (line_of table v)
line_of-passes P table v lines own = of_found (find (λ line. line.basic == v) table.lines) refl
  where
    of_found : (o : Option TableLine) → find (λ line. line.basic == v) table.lines ≡ o →
        P (line_or_itself table.nonbasic v o)
    of_found (Some line) e = (found_passes P (λ line. line.basic == v) table.lines line lines e).0
    of_found None e = own

-- the variable is basic
pub record IsBasic (table : Table) (v : ℕ) : Type 0 where
  pub place : ℕ
  pub within : place < length table.lines
  pub is : line_of table v ≡ line_at table.lines place

-- the variable is nonbasic
pub record IsNonbasic (table : Table) (v : ℕ) : Type 0 where
  pub once : nonbasic_times v table.nonbasic ≡ 1
  pub is : line_of table v ≡ itself table.nonbasic v

-- what is found is at a place
record HasPlace (lines : List TableLine) (line : TableLine) : Type 0 where
  place : ℕ
  within : place < length lines
  is : line_at lines place ≡ line

found_place : (p : TableLine → Bool) (lines : List TableLine) (line : TableLine) → find p lines ≡ Some line
    → HasPlace lines line
found_place p lines line e = (found_passes (HasPlace lines) p lines line
    (λ k d l. record { place = k; within = l; is = get_or_default lines k no_line d l }) e).0

either_line : (rows : RowList) (table : Table) (v : ℕ) (o : Option TableLine) → HasEachOnce rows table →
    IsVariable rows v → find (λ line. line.basic == v) table.lines ≡ o → IsBasic table v ⊎ IsNonbasic table v
either_line rows table v (Some line) h w e =
    let at = found_place (λ line. line.basic == v) table.lines line e in
    inl (record {
      place = at.place;
      within = at.within;
      is = ap (line_or_itself table.nonbasic v) e ∙ sym at.is;
    })
either_line rows table v None h w e = inr (record {
  once = omega (arith, h.each v w.0 w.1, not_basic v table.lines e);
  is = ap (line_or_itself table.nonbasic v) e;
})

-- a variable of the rows is one of the two
pub basic_or_nonbasic : (rows : RowList) (table : Table) (v : ℕ) → HasEachOnce rows table → IsVariable rows v →
    IsBasic table v ⊎ IsNonbasic table v
basic_or_nonbasic rows table v h w = either_line rows table v (find (λ line. line.basic == v) table.lines) h w refl

-- the line at a place is that of its variable
pub basic_line : (rows : RowList) (table : Table) (k : ℕ) (d : TableLine) → HasEachOnce rows table
    → k < length table.lines →
    line_of table (get_or table.lines k d).basic ≡ get_or table.lines k d
basic_line rows table k d h l =
    let v = (get_or table.lines k d).basic in
    ap (line_or_itself table.nonbasic v) (finds v table.lines k d l refl (omega (arith, h.once v)))

pub place-is_variable : (rows : RowList) (table : Table) (k : ℕ) → HasEachOnce rows table → k < length table.lines →
    IsVariable rows (line_at table.lines k).basic
place-is_variable rows table k h l = basic-is_variable rows table h k no_line l

-- the variable of a column is nonbasic
pub column-nonbasic : (rows : RowList) (table : Table) (j : ℕ) → HasEachOnce rows table → j < length table.nonbasic →
    IsNonbasic table (column_at table j)
column-nonbasic rows table j h l =
    let v = column_at table j in
    let some = counted (λ w. w == v) table.nonbasic j 0 l (eq-eqb v v refl) in
    record {
      once = omega (arith, some, h.once v);
      is = ap (line_or_itself table.nonbasic v) (not_found v table.lines (omega (arith, some, h.once v)));
    }

-- in the table that is stood for, too
pub column-nonbasic_in_full : (rows : RowList) (table : Table) (classes : Classes) (full : Table) (j : ℕ) →
    HasEachOnce rows full → StandsFor rows table classes full → j < length table.nonbasic →
    IsNonbasic full (column_at table j)
column-nonbasic_in_full rows table classes full j h s l =
    subst (λ (vs : List ℕ). IsNonbasic full (get_or vs j 0)) (sym s.nonbasic)
    (column-nonbasic rows full j h (subst (λ (vs : List ℕ). j < length vs) s.nonbasic l))
