-- A table with one line for each class stands for the full one after an exchange, too.
use Rattle.std.proofs.Common.{◌≡◌, ℕ, ◌+◌, ◌-◌, ◌<◌, ◌⊎◌, ⊎_elim, inl, inr, List, [], ◌∷◌, ◌++◌, length, map, get_or, set, ap, sym, refl, subst, ◌∙◌, arith, Some}
use Rattle.std.specs.List.{remove}
use Rattle.std.proofs.lemmas.Bool.{cases_order, cases_eq}
use Rattle.std.proofs.lemmas.List.{get_or_append_left, get_or_push, get_or-set_same, get_or-set_other, length-map, length-append, length-set}
use Rattle.std.proofs.lemmas.List.Edits.{get_or-remove_below, get_or-remove_above, length-remove}
use Rattle.std.proofs.lemmas.List.Elements.{All-push, All-set}
use Rattle.std.proofs.lemmas.Option.{get_or_from_slice_get, slice_get_within}
use Rattle.std.specs.Prelude.{slice_get}
use Rattle.nomos_forms.specs.declared.row_list.RowList.{RowList}
use Rattle.nomos_simplex.specs.Exchange.{solved_for, exchanged}
use Rattle.nomos_simplex.specs.Divisors.{in_lowest_terms}
use Rattle.nomos_simplex.specs.GoalLine.{itself, line_of}
use Rattle.nomos_simplex.specs.Nearest.{line_at}
use Rattle.nomos_simplex.specs.mirror.Classes.{IsIn, IsClass, IsInOne, Fit, StandsFor, SameNumbers, class_at, column_at, classes_exchanged}
use Rattle.nomos_simplex.specs.declared.classes.Class.{Class}
use Rattle.nomos_simplex.specs.declared.classes.Classes.{Classes}
use Rattle.nomos_simplex.specs.declared.table.TableLine.{TableLine}
use Rattle.nomos_simplex.specs.declared.table.Table.{Table}
use Rattle.nomos_simplex.proofs.CountLemmas.{All-remove}
use Rattle.nomos_simplex.proofs.ClassLemmas.{no_class, no_line, same_back, alike, same_by, column-nonbasic_in_full}
use Rattle.nomos_simplex.proofs.ClassLineLemmas.{column-entered, line_of-exchanged, entered_named}
use Rattle.nomos_simplex.proofs.ExchangedLemmas.{MayExchange, entered, solved_line}
use Rattle.nomos_simplex.proofs.PlacesLemmas.{AtPlaces, places-remove, places_push, places-set, places-map}
use Rattle.nomos_simplex.proofs.TableLaws.{IsTableOfRows}

-- ---- a variable that is in one of the classes
pub in_one : (cs : List Class) (v k : ℕ) → k < length cs → IsIn (class_at cs k) v → IsInOne cs v
in_one cs v k h i = record { place = k; within = h; is_in = i }

-- is in the one that is removed, or in one of the others
pub in_one-remove : (cs : List Class) (i v : ℕ) → i < length cs → IsInOne cs v →
    IsIn (class_at cs i) v ⊎ IsInOne (remove cs i) v
in_one-remove cs i v h o =
    let k = o.place in
    ⊎_elim
    (λ same. inl (subst (λ n. IsIn (class_at cs n) v) same o.is_in))
    (λ other. inr (⊎_elim
    (λ less. in_one (remove cs i) v k (omega (arith, length-remove cs i h, less))
    (subst (λ c. IsIn c v) (sym (get_or-remove_below cs i no_class k less h)) o.is_in))
    (λ more. let back : k - 1 + 1 ≡ k = omega (arith, more) in
    in_one (remove cs i) v (k - 1) (omega (arith, length-remove cs i h, more, o.within))
    (subst (λ c. IsIn c v) (sym (get_or-remove_above cs i no_class (k - 1) (omega (arith, more)) h))
    (subst (λ n. IsIn (class_at cs n) v) (sym back) o.is_in)))
    other))
    (cases_order k i)

pub in_one-front : (cs : List Class) (c : Class) (v : ℕ) → IsInOne cs v → IsInOne (cs ++ c ∷ []) v
in_one-front cs c v o = in_one (cs ++ c ∷ []) v o.place (omega (arith, length-append cs (c ∷ []), o.within))
    (subst (λ a. IsIn a v) (sym (get_or_append_left cs (c ∷ []) no_class o.place o.within)) o.is_in)

pub in_one-last : (cs : List Class) (c : Class) (v : ℕ) → IsIn c v → IsInOne (cs ++ c ∷ []) v
in_one-last cs c v i = in_one (cs ++ c ∷ []) v (length cs) (omega (arith, length-append cs (c ∷ [])))
    (subst (λ a. IsIn a v) (sym (get_or_push cs c no_class (length cs) refl)) i)

-- is in the one that is replaced, or in one of the others
pub in_one-others : (cs : List Class) (j v : ℕ) (c : Class) → IsInOne cs v →
    IsIn (class_at cs j) v ⊎ IsInOne (set cs j c) v
in_one-others cs j v c o =
    let k = o.place in
    ⊎_elim
    (λ same. inl (subst (λ n. IsIn (class_at cs n) v) same o.is_in))
    (λ other. inr (in_one (set cs j c) v k (omega (arith, length-set cs j c, o.within))
    (subst (λ a. IsIn a v) (sym (get_or-set_other cs j k c no_class other)) o.is_in)))
    (cases_eq k j)

pub in_one-set : (cs : List Class) (j v : ℕ) (c : Class) → j < length cs → IsIn c v → IsInOne (set cs j c) v
in_one-set cs j v c h i = in_one (set cs j c) v j (omega (arith, length-set cs j c))
    (subst (λ a. IsIn a v) (sym (get_or-set_same cs j c no_class h)) i)

-- ---- each line and each column keeps its class
cover-exchanged : (i j v : ℕ) (classes : Classes) → i < length classes.lines → j < length classes.columns →
    IsInOne classes.lines v ⊎ IsInOne classes.columns v →
    let after = classes_exchanged i j classes in IsInOne after.lines v ⊎ IsInOne after.columns v
cover-exchanged i j v classes h l o =
    let left = class_at classes.lines i in
    let right = class_at classes.columns j in
    ⊎_elim
    (λ a. ⊎_elim
    (λ here. inr (in_one-set classes.columns j v left l here))
    (λ others. inl (in_one-front (remove classes.lines i) right v others))
    (in_one-remove classes.lines i v h a))
    (λ b. ⊎_elim
    (λ here. inl (in_one-last (remove classes.lines i) right v here))
    (λ others. inr others)
    (in_one-others classes.columns j v left b))
    o

long_after : (X Y : Type 0) (xs : List X) (ys : List Y) (x : X) (y : Y) → length xs ≡ length ys →
    length (xs ++ x ∷ []) ≡ length (ys ++ y ∷ [])
long_after X Y xs ys x y e = length-append xs (x ∷ []) ∙ ap (λ n. n + 1) e ∙ sym (length-append ys (y ∷ []))

removed_long : {X Y : Type 0} (xs : List X) (ys : List Y) (i : ℕ) → length xs ≡ length ys → i < length xs →
    length (remove xs i) ≡ length (remove ys i)
removed_long xs ys i e h = omega (arith, length-remove xs i h, length-remove ys i (omega (arith, e, h)), e)

-- a relation of classes and lines that the exchange keeps
pub at_lines-exchanged : (R S : Class → TableLine → Type 0) (i j : ℕ) (left : TableLine) (table : Table)
    (classes : Classes) →
    length classes.lines ≡ length table.lines → i < length table.lines →
    ((c : Class) (line : TableLine) → R c line → S c (entered j left line)) →
    S (class_at classes.columns j) (solved_line j left table) →
    AtPlaces no_class no_line R classes.lines table.lines →
    AtPlaces no_class no_line S (classes_exchanged i j classes).lines (exchanged i j left table).lines
at_lines-exchanged R S i j left table classes e h f last r =
    let cs = remove classes.lines i in
    let ls = remove table.lines i in
    let long = removed_long classes.lines table.lines i e (omega (arith, e, h)) in
    places_push no_class no_line S cs (map (entered j left) ls) (class_at classes.columns j) (solved_line j left table)
    (long ∙ sym (length-map ls (entered j left))) last
    (places-map no_class no_line no_line S (entered j left) cs ls
    (λ k l. f (get_or cs k no_class) (get_or ls k no_line)
    (places-remove no_class no_line R classes.lines table.lines i e h r k l)))

pub fit-exchanged : (rows : RowList) (i j : ℕ) (left : TableLine) (table : Table) (classes : Classes) →
    Fit rows table classes → slice_get table.lines i ≡ Some left → j < length table.nonbasic →
    Fit rows (exchanged i j left table) (classes_exchanged i j classes)
fit-exchanged rows i j left table classes f at l =
    let h = slice_get_within table.lines i left at in
    let is : line_at table.lines i ≡ left = get_or_from_slice_get table.lines i left no_line at in
    let right = class_at classes.columns j in
    let mine = class_at classes.lines i in
    let ls = remove table.lines i in
    let hc : i < length classes.lines = omega (arith, f.lines, h) in
    let lc : j < length classes.columns = omega (arith, f.columns, l) in
    record {
      lines = long_after Class TableLine (remove classes.lines i) (map (entered j left) ls) right
          (solved_line j left table)
          (removed_long classes.lines table.lines i f.lines hc ∙ sym (length-map ls (entered j left)));
      columns = length-set classes.columns j mine ∙ f.columns ∙ sym (length-set table.nonbasic j left.basic);
      of_lines = All-push (IsClass rows) (remove classes.lines i) right (All-remove (IsClass rows) classes.lines i
          f.of_lines) (f.of_columns j no_class lc);
      of_columns = All-set (IsClass rows) classes.columns j mine (f.of_lines i no_class hc) f.of_columns;
      basic = at_lines-exchanged (λ c line. IsIn c line.basic) (λ c line. IsIn c line.basic) i j left table classes
          f.lines h (λ c line r. r) (f.nonbasic j l) f.basic;
      nonbasic = places-set no_class 0 IsIn classes.columns table.nonbasic j mine left.basic f.columns
          (subst (λ (x : TableLine). IsIn mine x.basic) is (f.basic i h)) f.nonbasic;
      cover = λ v q. cover-exchanged i j v classes hc lc (f.cover v q);
    }

-- ---- the full table after the exchange
module _ (rows : RowList) (i k j : ℕ) (left : TableLine) (table : Table) (classes : Classes) (full : Table)
    (of_rows : IsTableOfRows rows full) (stands : StandsFor rows table classes full)
    (may : MayExchange k j left full) (at : slice_get table.lines i ≡ Some left) where
  after : (v : ℕ) → line_of (exchanged k j left full) v ≡ entered j left (line_of full v)
  after v = line_of-exchanged rows k j left full v of_rows may

  -- lines with the same numbers have the same after it
  entered_alike : (line : TableLine) (v : ℕ) → SameNumbers line (line_of full v) →
      SameNumbers (entered j left line) (line_of (exchanged k j left full) v)
  entered_alike line v s = same_by (entered j left line) (entered j left (line_of full v)) (entered j left line)
      (line_of (exchanged k j left full) v) refl (after v) (entered_named j left line (line_of full v) s)

  both_after : (u v : ℕ) → SameNumbers (line_of full u) (line_of full v) →
      SameNumbers (line_of (exchanged k j left full) u) (line_of (exchanged k j left full) v)
  both_after u v s = same_by (entered j left (line_of full u)) (line_of (exchanged k j left full) v)
      (line_of (exchanged k j left full) u) (line_of (exchanged k j left full) v) (after u) refl
      (entered_alike (line_of full u) v s)

  column : j < length table.nonbasic
  column = subst (λ (vs : List ℕ). j < length vs) (sym stands.nonbasic) may.column

  -- the line that is left, solved for the entering variable, is that variable's
  solved_after : SameNumbers (solved_line j left table) (line_of (exchanged k j left full) (column_at table j))
  solved_after =
      let u = column_at table j in
      let own : u ≡ column_at full j = ap (λ vs. get_or vs j 0) stands.nonbasic in
      let itself_now : line_of full u ≡ itself full.nonbasic (column_at full j) =
      (column-nonbasic_in_full rows table classes full j of_rows.each_once stands column).is
      ∙ ap (itself full.nonbasic) own in
      let is = ap (λ n. in_lowest_terms (solved_for j n left)) own
      ∙ column-entered rows k j left full of_rows.each_once may
      ∙ ap (entered j left) (sym itself_now) ∙ sym (after u) in
      subst (SameNumbers (solved_line j left table)) is (record { times = refl; coefs = refl })

  pub exchange-stands : StandsFor rows (exchanged i j left table) (classes_exchanged i j classes)
      (exchanged k j left full)
  exchange-stands =
      let h = slice_get_within table.lines i left at in
      let is : line_at table.lines i ≡ left = get_or_from_slice_get table.lines i left no_line at in
      let mine = class_at classes.lines i in
      record {
        fit = fit-exchanged rows i j left table classes stands.fit at column;
        nonbasic = ap (λ vs. set vs j left.basic) stands.nonbasic;
        lines = λ n v l q. at_lines-exchanged
            (λ c line. (v : ℕ) → IsIn c v → SameNumbers line (line_of full v))
            (λ c line. (v : ℕ) → IsIn c v → SameNumbers line (line_of (exchanged k j left full) v))
            i j left table classes stands.fit.lines h
            (λ c line r v q. entered_alike line v (r v q))
            (λ v q. alike (line_of (exchanged k j left full) (column_at table j)) (solved_line j left table)
            (line_of (exchanged k j left full) v)
            (same_back _ _ solved_after)
            (both_after (column_at table j) v (stands.columns j v column q)))
            (λ n l v q. stands.lines n v l q) n l v q;
        columns = λ n v l q. places-set no_class 0
            (λ c u. (v : ℕ) → IsIn c v →
            SameNumbers (line_of (exchanged k j left full) u) (line_of (exchanged k j left full) v))
            classes.columns table.nonbasic j mine left.basic stands.fit.columns
            (λ v q. both_after left.basic v
            (alike (line_at table.lines i) (line_of full left.basic) (line_of full v)
            (stands.lines i left.basic h (subst (λ (x : TableLine). IsIn mine x.basic) is (stands.fit.basic i h)))
            (stands.lines i v h q)))
            (λ n l v q. both_after (column_at table n) v (stands.columns n v l q)) n l v q;
      }
