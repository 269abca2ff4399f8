-- The line of each variable, nonbasic or not, before and after an exchange.
use Rattle.std.proofs.Common.{◌≡◌, ◌==◌, ℕ, zero, suc, ◌+◌, ◌<◌, ◌≤◌, Bool, true, false, cond, List, [], ◌∷◌, length, map, get_or, set, refl, ap, sym, subst, ◌∙◌, arith, ℤ, pos, negsuc, neg_ℤ, ◌-ℤ◌, ◌*ℤ◌, ◌<ℤ◌, Option, Some, None, find}
use Rattle.std.specs.List.{remove}
use Rattle.std.specs.Option.{option_or}
use Rattle.std.proofs.lemmas.Bool.{eqb-true, eq-eqb, false≢true}
use Rattle.std.proofs.lemmas.Int.{ints}
use Rattle.std.proofs.lemmas.List.{get_or-map, length-map, length-set, map-set, get_or-set_same}
use Rattle.std.proofs.lemmas.List.Folds.{find-append}
use Rattle.std.proofs.lemmas.List.Sums.{sum_by-cons}
use Rattle.std.proofs.lemmas.Option.{get_or_from_slice_get, slice_get_within}
use Rattle.std.proofs.Math.IntN.{*ℤ-zero}
use borrow.Author.Differences.{below_in}
use Rattle.nomos_forms.specs.declared.row_list.RowList.{RowList}
use Rattle.nomos_forms.proofs.WholeLaws.{neg_times}
use Rattle.nomos_simplex.specs.Divisors.{in_lowest_terms}
use Rattle.nomos_simplex.specs.Exchange.{coef_at, solved_for, eliminated, put_into, exchanged}
use Rattle.nomos_simplex.specs.GoalLine.{itself, line_or_itself, line_of}
use Rattle.nomos_simplex.specs.Sizes.{IsLowest}
use Rattle.nomos_simplex.specs.declared.table.TableLine.{TableLine}
use Rattle.nomos_simplex.specs.declared.table.Table.{Table}
use Rattle.nomos_simplex.specs.mirror.Classes.{SameNumbers}
use Rattle.nomos_simplex.specs.mirror.Opposite.{opposite_of, oriented_of}
use Rattle.nomos_simplex.proofs.ClassLemmas.{unit_of, unit_here, unit_elsewhere}
use Rattle.nomos_simplex.proofs.CountLemmas.{counted}
use Rattle.nomos_simplex.proofs.DivisorLemmas.{common_one, lowest_times}
use Rattle.nomos_simplex.proofs.ExchangeLemmas.{not_zero_product}
use Rattle.nomos_simplex.proofs.ExchangedLemmas.{MayExchange, entered, solved_line, left_of, column_of, put_not_zero}
use Rattle.nomos_simplex.proofs.LineLemmas.{set_same, skipped}
use Rattle.nomos_simplex.proofs.OppositeLemmas.{opposite_lowest, oriented_over, oriented_width, put_oriented}
use Rattle.nomos_simplex.proofs.SignLemmas.{minus_itself, not_zero_over, one_times, times_one}
use Rattle.nomos_simplex.proofs.TableLaws.{IsTableOfRows}
use Rattle.nomos_simplex.proofs.VariableLemmas.{nonbasic_times, basic_times, HasEachOnce, exchanged_times, not_found, finds}

-- ---- lines with the same numbers
renamed : (a b : TableLine) → SameNumbers a b → record a { basic = b.basic } ≡ b
renamed a b s = λ p. record { times = s.times p; basic = b.basic; coefs = s.coefs p }

-- with the same put in, they have the same numbers again
pub entered_named : (j : ℕ) (left a b : TableLine) → SameNumbers a b → SameNumbers (entered j left a) (entered j left b)
entered_named j left a b s =
    let e = ap (entered j left) (renamed a b s) in
    record { times = ap (λ (line : TableLine). line.times) e; coefs = ap (λ (line : TableLine). line.coefs) e }

-- and put into a line, they leave the same
pub entered_by : (j : ℕ) (left left' a : TableLine) → SameNumbers left left' → entered j left a ≡ entered j left' a
entered_by j left left' a s = ap (λ line. entered j line a) (renamed left left' s)

-- ---- a line times a number that is not 0
abbrev times_line : ℤ → TableLine → TableLine
times_line p line = record line { times = p *ℤ line.times; coefs = map (λ c. p *ℤ c) line.coefs }

turned_all : (p : ℕ) (cs : List ℤ) → map (λ c. negsuc p *ℤ c) cs ≡ map neg_ℤ (map (λ c. pos (suc p) *ℤ c) cs)
turned_all p [] = refl
turned_all p (c ∷ cs) = λ q. neg_times (pos (suc p)) c q ∷ turned_all p cs q

times_turned : (p : ℕ) (line : TableLine) → times_line (negsuc p) line ≡ opposite_of (times_line (pos (suc p)) line)
times_turned p line = λ q. record {
  times = neg_times (pos (suc p)) line.times q;
  basic = line.basic;
  coefs = turned_all p line.coefs q;
}

lowest_of_times : (p : ℤ) (line : TableLine) → ¬ (p ≡ pos 0) → pos 0 <ℤ line.times → IsLowest line →
    in_lowest_terms (times_line p line) ≡ line
lowest_of_times (pos zero) line n over low = absurd (n refl)
lowest_of_times (pos (suc p)) line n over low = lowest_times (suc p) line (omega arith) over low
lowest_of_times (negsuc p) line n over low =
    ap in_lowest_terms (times_turned p line)
    ∙ opposite_lowest (times_line (pos (suc p)) line)
    (not_zero_product (pos (suc p)) line.times (not_zero_over (pos (suc p)) (below_in (pos 0) (pos (suc p))
    (omega arith))) (not_zero_over line.times over))
    ∙ lowest_times (suc p) line (omega arith) over low

-- a line without the entering variable stays as it is
pub not_entered : (j : ℕ) (left line : TableLine) → j < length left.coefs → length line.coefs ≡ length left.coefs →
    ¬ (coef_at j left ≡ pos 0) → pos 0 <ℤ line.times → coef_at j line ≡ pos 0 → IsLowest line →
    entered j left line ≡ line
not_entered j left line h w n over none low =
    let width = oriented_width j left h n in
    sym (put_oriented j left h n line (put_not_zero j left line n over))
    ∙ skipped j (oriented_of j left) line (subst (λ k. j < k) (sym width) h) (w ∙ sym width)
    (oriented_over j left h n) over none low

-- ---- a nonbasic variable itself
abbrev pub zeros : List ℕ → List ℤ
zeros vs = map (λ w. pos 0) vs

unit_by : (t : Bool) (c r : ℕ) → c ≡ cond t 1 0 + r → c ≡ 0 → (cond t (pos 1) (pos 0) ≡ pos 0) × (r ≡ 0)
unit_by true c r e z = absurd (omega arith)
unit_by false c r e z = (refl, omega arith)

-- where a variable is not nonbasic, or is so in another column
units_none : (v : ℕ) (vs : List ℕ) → nonbasic_times v vs ≡ 0 → map (unit_of v) vs ≡ zeros vs
units_none v [] h = refl
units_none v (w ∷ vs) h =
    let both = unit_by (w == v) (nonbasic_times v (w ∷ vs)) (nonbasic_times v vs)
    (sum_by-cons (λ w. cond (w == v) 1 0) w vs) h in
    λ p. both.0 p ∷ units_none v vs both.1 p

later_only : (t : Bool) (c r : ℕ) → c ≡ cond t 1 0 + r → c ≤ 1 → 0 < r → (cond t (pos 1) (pos 0) ≡ pos 0) × (r ≤ 1)
later_only true c r e z h = absurd (omega arith)
later_only false c r e z h = (refl, omega arith)

first_only : (c r : ℕ) (t : Bool) → t ≡ true → c ≡ cond t 1 0 + r → c ≤ 1 → r ≡ 0
first_only c r true s e z = omega arith
first_only c r false s e z = absurd (false≢true s)

-- a variable that is nonbasic once, in column j
pub units_once : (v : ℕ) (vs : List ℕ) (j : ℕ) → j < length vs → get_or vs j 0 ≡ v → nonbasic_times v vs ≤ 1 →
    map (unit_of v) vs ≡ set (zeros vs) j (pos 1)
units_once v [] j h e once = absurd (omega arith)
units_once v (w ∷ vs) zero h e once =
    let none = first_only (nonbasic_times v (w ∷ vs)) (nonbasic_times v vs) (w == v) (eq-eqb w v e)
    (sum_by-cons (λ w. cond (w == v) 1 0) w vs) once in
    λ p. unit_here v w e p ∷ units_none v vs none p
units_once v (w ∷ vs) (suc j) h e once =
    let both = later_only (w == v) (nonbasic_times v (w ∷ vs)) (nonbasic_times v vs)
    (sum_by-cons (λ w. cond (w == v) 1 0) w vs) once
    (counted (λ w. w == v) vs j 0 (omega arith) (eq-eqb (get_or vs j 0) v e)) in
    λ p. both.0 p ∷ units_once v vs j (omega arith) e both.1 p

-- ---- the line that is left, put into itself: only its own variable is left of it
put_out : (p m : ℤ) (cs : List ℤ) (vs : List ℕ) → length cs ≡ length vs → eliminated p p cs cs ≡
    map (λ c. m *ℤ c) (zeros vs)
put_out p m [] [] h = refl
put_out p m [] (v ∷ vs) h = absurd (omega arith)
put_out p m (c ∷ cs) [] h = absurd (omega arith)
put_out p m (c ∷ cs) (v ∷ vs) h =
    λ q. (minus_itself (p *ℤ c) (p *ℤ c) refl ∙ sym (*ℤ-zero m)) q ∷ put_out p m cs vs (omega arith) q

put_into_itself : (j : ℕ) (left : TableLine) (vs : List ℕ) → length left.coefs ≡ length vs →
    nonbasic_times left.basic vs ≡ 0 → put_into j left left ≡
    times_line (coef_at j left *ℤ left.times) (itself (set vs j left.basic) left.basic)
put_into_itself j left vs h none =
    let w = left.basic in
    let p = coef_at j left in
    let m = p *ℤ left.times in
    let coefs : set (eliminated p p left.coefs left.coefs) j m ≡ map (λ c. m *ℤ c) (map (unit_of w) (set vs j w)) =
    (λ q. set ((put_out p m left.coefs vs h ∙ ap (map (λ c. m *ℤ c)) (sym (units_none w vs none))) q) j
    ((times_one m ∙ ap (λ z. m *ℤ z) (sym (unit_here w w refl))) q))
    ∙ sym (map-set (λ c. m *ℤ c) (map (unit_of w) vs) j (unit_of w w))
    ∙ ap (map (λ c. m *ℤ c)) (sym (map-set (unit_of w) vs j w)) in
    λ q. record { times = times_one m q; basic = w; coefs = coefs q }

pub left-entered : (j : ℕ) (left : TableLine) (vs : List ℕ) → length left.coefs ≡ length vs →
    nonbasic_times left.basic vs ≡ 0 → ¬ (coef_at j left ≡ pos 0) → pos 0 <ℤ left.times →
    entered j left left ≡ itself (set vs j left.basic) left.basic
left-entered j left vs h none n over =
    let own = itself (set vs j left.basic) left.basic in
    ap in_lowest_terms (put_into_itself j left vs h none)
    ∙ lowest_of_times (coef_at j left *ℤ left.times) own
    (not_zero_product (coef_at j left) left.times n (not_zero_over left.times over))
    (below_in (pos 0) (pos 1) (omega arith)) (common_one own.coefs)

-- ---- the line that is left, put into the variable of column j: it is solved for it
turned : (p c : ℤ) → p *ℤ pos 0 -ℤ pos 1 *ℤ c ≡ neg_ℤ c
turned p c = ap (λ z. z -ℤ pos 1 *ℤ c) (*ℤ-zero p) ∙ less c
  where
    less : (c : ℤ) → pos 0 -ℤ pos 1 *ℤ c ≡ neg_ℤ c
    less c = omega (arith, ints)

all_turned : (p : ℤ) (vs : List ℕ) (cs : List ℤ) → length vs ≡ length cs →
    eliminated p (pos 1) (zeros vs) cs ≡ map neg_ℤ cs
all_turned p [] [] h = refl
all_turned p [] (c ∷ cs) h = absurd (omega arith)
all_turned p (v ∷ vs) [] h = absurd (omega arith)
all_turned p (v ∷ vs) (c ∷ cs) h = λ q. turned p c q ∷ all_turned p vs cs (omega arith) q

solved_units : (p x : ℤ) (vs : List ℕ) (cs : List ℤ) (j : ℕ) → length vs ≡ length cs →
    set (eliminated p (pos 1) (set (zeros vs) j (pos 1)) cs) j x ≡ set (map neg_ℤ cs) j x
solved_units p x [] [] j h = refl
solved_units p x [] (c ∷ cs) j h = absurd (omega arith)
solved_units p x (v ∷ vs) [] j h = absurd (omega arith)
solved_units p x (v ∷ vs) (c ∷ cs) zero h = λ q. x ∷ all_turned p vs cs (omega arith) q
solved_units p x (v ∷ vs) (c ∷ cs) (suc j) h = λ q. turned p c q ∷ solved_units p x vs cs j (omega arith) q

put_into_column : (j : ℕ) (left : TableLine) (vs : List ℕ) → j < length vs → length left.coefs ≡ length vs →
    nonbasic_times (get_or vs j 0) vs ≤ 1 →
    put_into j left (itself vs (get_or vs j 0)) ≡ solved_for j (get_or vs j 0) left
put_into_column j left vs h w once =
    let e = get_or vs j 0 in
    let p = coef_at j left in
    let g = coef_at j (itself vs e) in
    let units = units_once e vs j h refl once in
    let one : g ≡ pos 1 = get_or-map (unit_of e) vs j 0 (pos 0) h ∙ unit_here e e refl in
    let coefs : set (eliminated p g (map (unit_of e) vs) left.coefs) j (g *ℤ left.times) ≡
    set (map neg_ℤ left.coefs) j left.times =
    (λ q. set (eliminated p (one q) (units q) left.coefs) j (one q *ℤ left.times))
    ∙ solved_units p (pos 1 *ℤ left.times) vs left.coefs j (omega arith)
    ∙ (λ q. set (map neg_ℤ left.coefs) j (one_times left.times left.times refl q)) in
    λ q. record { times = sym (times_one p) q; basic = e; coefs = coefs q }

-- ---- what is found after an exchange
abbrev map_line : (TableLine → TableLine) → Option TableLine → Option TableLine
map_line f (Some line) = Some (f line)
map_line f None = None

map_found : (f : TableLine → TableLine) (t : Bool) (x : TableLine) (o u : Option TableLine) → o ≡ map_line f u →
    cond t (Some (f x)) o ≡ map_line f (cond t (Some x) u)
map_found f true x o u e = refl
map_found f false x o u e = e

find-map : (f : TableLine → TableLine) (p : TableLine → Bool) (xs : List TableLine) → ((x : TableLine) → p (f x) ≡ p x)
    →
    find p (map f xs) ≡ map_line f (find p xs)
find-map f p [] h = refl
find-map f p (x ∷ xs) h = ap (λ t. cond t (Some (f x)) (find p (map f xs))) (h x)
    ∙ map_found f (p x) x (find p (map f xs)) (find p xs) (find-map f p xs h)

find-remove : (p : TableLine → Bool) (xs : List TableLine) (i : ℕ) (d : TableLine) → i < length xs
    → p (get_or xs i d) ≡ false →
    find p (remove xs i) ≡ find p xs
find-remove p [] i d h e = absurd (omega arith)
find-remove p (x ∷ xs) zero d h e = sym (ap (λ t. cond t (Some x) (find p xs)) e)
find-remove p (x ∷ xs) (suc i) d h e = ap (cond (p x) (Some x)) (find-remove p xs i d (omega arith) e)

find_exchanged : (i j : ℕ) (left : TableLine) (table : Table) (v : ℕ) →
    find (λ line. line.basic == v) (exchanged i j left table).lines ≡ option_or
    (map_line (entered j left) (find (λ line. line.basic == v) (remove table.lines i)))
    (cond (get_or table.nonbasic j 0 == v) (Some (solved_line j left table)) None)
find_exchanged i j left table v =
    let p = λ (line : TableLine). line.basic == v in
    let others = remove table.lines i in
    find-append p (map (entered j left) others) (solved_line j left table ∷ [])
    ∙ ap (λ o. option_or o (find p (solved_line j left table ∷ [])))
    (find-map (entered j left) p others (λ line. refl))

-- ---- the theorem
-- the variable that leaves is basic before, and nonbasic after the exchange
left_is_basic : (i j : ℕ) (left : TableLine) (table : Table) → MayExchange i j left table →
    0 < basic_times left.basic table.lines
left_is_basic i j left table m =
    counted (λ line. line.basic == left.basic) table.lines i left (slice_get_within table.lines i left m.place)
    (eq-eqb (get_or table.lines i left).basic left.basic
    (ap (λ (line : TableLine). line.basic) (get_or_from_slice_get table.lines i left left m.place)))

line_of-left : (rows : RowList) (i j : ℕ) (left : TableLine) (table : Table) → HasEachOnce rows table →
    MayExchange i j left table →
    line_of (exchanged i j left table) left.basic ≡ entered j left (line_of table left.basic)
line_of-left rows i j left table h m =
    let w = left.basic in
    let once = h.once w in
    let basic = left_is_basic i j left table m in
    let own = left_of i j left table m in
    let here = get_or_from_slice_get table.lines i left left m.place in
    let place = slice_get_within table.lines i left m.place in
    let before : line_of table w ≡ left =
    ap (line_or_itself table.nonbasic w)
    (finds w table.lines i left place (ap (λ (line : TableLine). line.basic) here) (omega arith)) ∙ here in
    let now = counted (λ v. v == w) (set table.nonbasic j w) j 0
    (omega (arith, length-set table.nonbasic j w, m.column))
    (eq-eqb (get_or (set table.nonbasic j w) j 0) w (get_or-set_same table.nonbasic j w 0 m.column)) in
    let counts = exchanged_times w i j left table m in
    let after : line_of (exchanged i j left table) w ≡ itself (set table.nonbasic j w) w =
    ap (line_or_itself (set table.nonbasic j w) w) (not_found w (exchanged i j left table).lines (omega arith)) in
    after ∙ sym (left-entered j left table.nonbasic own.width (omega arith) m.coef own.over)
    ∙ ap (entered j left) (sym before)

-- neither the variable that leaves nor that of column j, and without a line
itself-entered : (i j : ℕ) (left : TableLine) (table : Table) (v : ℕ) → MayExchange i j left table → ¬ (left.basic ≡ v)
    →
    ¬ (get_or table.nonbasic j 0 ≡ v) →
    itself (set table.nonbasic j left.basic) v ≡ entered j left (itself table.nonbasic v)
itself-entered i j left table v m apart other =
    let vs = table.nonbasic in
    let own = left_of i j left table m in
    let width = length-map vs (unit_of v) in
    let none : coef_at j (itself vs v) ≡ pos 0 =
    get_or-map (unit_of v) vs j 0 (pos 0) m.column ∙ unit_elsewhere v (get_or vs j 0) other in
    let coefs : map (unit_of v) (set vs j left.basic) ≡ map (unit_of v) vs =
    map-set (unit_of v) vs j left.basic
    ∙ set_same (map (unit_of v) vs) j (unit_of v left.basic) (omega (arith, width, m.column))
    (unit_elsewhere v left.basic apart ∙ sym none
    ∙ get_or-map (unit_of v) vs j 0 (pos 0) m.column
    ∙ sym (get_or-map (unit_of v) vs j 0 (unit_of v left.basic) m.column)) in
    (λ q. record { times = pos 1; basic = v; coefs = coefs q })
    ∙ sym (not_entered j left (itself vs v) (column_of i j left table m) (width ∙ sym own.width) m.coef
    (below_in (pos 0) (pos 1) (omega arith)) none (common_one (map (unit_of v) vs)))

-- the variable of column j
pub column-entered : (rows : RowList) (i j : ℕ) (left : TableLine) (table : Table) → HasEachOnce rows table →
    MayExchange i j left table →
    solved_line j left table ≡ entered j left (itself table.nonbasic (get_or table.nonbasic j 0))
column-entered rows i j left table h m =
    let own = left_of i j left table m in
    let once = h.once (get_or table.nonbasic j 0) in
    sym (ap in_lowest_terms (put_into_column j left table.nonbasic m.column own.width (omega arith)))

-- without a line, by whether it is that of column j
line_of-none : (rows : RowList) (i j : ℕ) (left : TableLine) (table : Table) (v : ℕ) (t : Bool) → HasEachOnce rows table
    →
    MayExchange i j left table → ¬ (left.basic ≡ v) → get_or table.nonbasic j 0 == v ≡ t →
    line_or_itself (set table.nonbasic j left.basic) v (cond t (Some (solved_line j left table)) None) ≡
    entered j left (itself table.nonbasic v)
line_of-none rows i j left table v true h m apart e =
    column-entered rows i j left table h m
    ∙ ap (λ w. entered j left (itself table.nonbasic w)) (eqb-true (get_or table.nonbasic j 0) v e)
line_of-none rows i j left table v false h m apart e =
    itself-entered i j left table v m apart
    (λ same. false≢true (sym e ∙ eq-eqb (get_or table.nonbasic j 0) v same))

-- any but the one that leaves, by the line that is found
line_of-other : (rows : RowList) (i j : ℕ) (left : TableLine) (table : Table) (v : ℕ) (o : Option TableLine) →
    HasEachOnce rows table → MayExchange i j left table → ¬ (left.basic ≡ v) →
    line_or_itself (set table.nonbasic j left.basic) v (option_or (map_line (entered j left) o)
    (cond (get_or table.nonbasic j 0 == v) (Some (solved_line j left table)) None)) ≡
    entered j left (line_or_itself table.nonbasic v o)
line_of-other rows i j left table v (Some line) h m apart = refl
line_of-other rows i j left table v None h m apart =
    line_of-none rows i j left table v (get_or table.nonbasic j 0 == v) h m apart refl

line_of-by_test : (rows : RowList) (i j : ℕ) (left : TableLine) (table : Table) (v : ℕ) (t : Bool) →
    HasEachOnce rows table → MayExchange i j left table → left.basic == v ≡ t →
    line_of (exchanged i j left table) v ≡ entered j left (line_of table v)
line_of-by_test rows i j left table v true h m e =
    subst (λ w. line_of (exchanged i j left table) w ≡ entered j left (line_of table w)) (eqb-true left.basic v e)
    (line_of-left rows i j left table h m)
line_of-by_test rows i j left table v false h m e =
    let p = λ (line : TableLine). line.basic == v in
    let here = get_or_from_slice_get table.lines i left left m.place in
    let vs = set table.nonbasic j left.basic in
    let last = cond (get_or table.nonbasic j 0 == v) (Some (solved_line j left table)) None in
    ap (line_or_itself vs v) (find_exchanged i j left table v
    ∙ ap (λ o. option_or (map_line (entered j left) o) last)
    (find-remove p table.lines i left (slice_get_within table.lines i left m.place) (ap p here ∙ e)))
    ∙ line_of-other rows i j left table v (find p table.lines) h m
    (λ same. false≢true (sym e ∙ eq-eqb left.basic v same))

-- An exchange does to the line of each variable the same. No more is asked of the table than that each stands in it
-- once.
pub line_of-exchanged_once : (rows : RowList) (i j : ℕ) (left : TableLine) (table : Table) (v : ℕ) →
    HasEachOnce rows table → MayExchange i j left table →
    line_of (exchanged i j left table) v ≡ entered j left (line_of table v)
line_of-exchanged_once rows i j left table v h m = line_of-by_test rows i j left table v (left.basic == v) h m refl

pub line_of-exchanged : (rows : RowList) (i j : ℕ) (left : TableLine) (table : Table) (v : ℕ) → IsTableOfRows rows table
    →
    MayExchange i j left table → line_of (exchanged i j left table) v ≡ entered j left (line_of table v)
line_of-exchanged rows i j left table v t m = line_of-exchanged_once rows i j left table v t.each_once m
