-- What is kept beside a table: it tells which variables are below their bounds, and how an exchange changes it.
use Rattle.std.proofs.Common.{◌≡◌, ℕ, zero, suc, ◌+◌, ◌*◌, ◌<◌, ◌≤◌, ◌^◌, Bool, true, false, ◌||◌, List, [], ◌∷◌, ◌++◌, length, map, take, drop, get_or, set, refl, ap, sym, subst, ◌∙◌, arith, add-one, ℤ, pos, neg_ℤ, ◌+ℤ◌, ◌-ℤ◌, ◌*ℤ◌, ◌<ℤ◌, unsigned_abs, int_lt, All}
use Rattle.std.specs.Int.{◌∣◌}
use Rattle.std.specs.Prelude.{Option, Some, None, IfSome}
use Rattle.std.specs.List.{list_any, remove}
use Rattle.std.proofs.lemmas.Int.{ints, unsigned_abs-mul}
use Rattle.std.proofs.lemmas.Bool.{lt-leb, or_parts}
use Rattle.std.proofs.lemmas.List.{length-map, length-set}
use Rattle.std.proofs.lemmas.List.Elements.{All-weaker, All-head, All-tail}
use Rattle.std.proofs.lemmas.List.Folds.{list_any_none}
use Rattle.std.proofs.lemmas.Nat.Gcd.{dvd_refl}
use Rattle.std.proofs.Math.IntN.{zero-*ℤ}
use Rattle.std.proofs.Math.Seq.{take-append_seam}
use borrow.Author.Differences.{lt-true, lt-false}
use Rattle.nomos_forms.specs.declared.row_list.RowList.{RowList}
use Rattle.nomos_forms.proofs.WholeLaws.{neg_times, times_assoc}
use Rattle.nomos_simplex.proofs.CountLemmas.{All-remove}
use Rattle.nomos_simplex.specs.Divisors.{common, divided_by, in_lowest_terms}
use Rattle.nomos_simplex.specs.Exchange.{coef_at, put_into, solved_for, lines_exchanged, is_large, is_large_line}
use Rattle.nomos_simplex.specs.LowestVariable.{lowest_place, is_below, leaving}
use Rattle.nomos_simplex.specs.Sizes.{IsNumber, HasNumbers, IsLine}
use Rattle.nomos_simplex.specs.Tables.{bound_of, sum_at}
use Rattle.nomos_simplex.specs.declared.exchanging.EnteredLine.{EnteredLine}
use Rattle.nomos_simplex.specs.declared.exchanging.PutIn.{PutIn}
use Rattle.nomos_simplex.specs.declared.keeping.KeptTable.{KeptTable}
use Rattle.nomos_simplex.specs.declared.table.TableLine.{TableLine}
use Rattle.nomos_simplex.specs.mirror.Opposite.{opposite_of, oriented_of}
use Rattle.nomos_simplex.specs.mirror.Keeping.{over_of, Shows, IsEntry, IsPut, IsKeptPut, entered, solved_line}
use Rattle.nomos_simplex.proofs.DivisorLemmas.{common_divides_first, exact, divisor_size, divided_by_one, lowest_is}
use Rattle.nomos_simplex.proofs.ExchangeLemmas.{divisor_left, lowest_over_zero, lowest_width, put_sum_free, put_width}
use Rattle.nomos_simplex.proofs.ExchangedLemmas.{put_not_zero}
use Rattle.nomos_simplex.proofs.OppositeLemmas.{put_oriented, solved_oriented}
use Rattle.nomos_simplex.proofs.SignLemmas.{minus_itself, not_zero_over}
use Rattle.nomos_simplex.proofs.SumLemmas.{sum_neg, times_minus}
use Rattle.nomos_simplex.proofs.TableLaws.{small_line}

-- ---- which variables are below their bounds
pub less_by : (over r s a b : ℤ) → over ≡ s -ℤ b → r ≡ a -ℤ b → int_lt over r ≡ int_lt s a
less_by over r s a b e f = by_tests (int_lt over r) (int_lt s a) refl refl
  where
    by_tests : (x y : Bool) → int_lt over r ≡ x → int_lt s a ≡ y → x ≡ y
    by_tests true true g h = refl
    by_tests false false g h = refl
    by_tests true false g h = absurd (omega (arith, ints, e, f, lt-true over r g, lt-false s a h))
    by_tests false true g h = absurd (omega (arith, ints, e, f, lt-false over r g, lt-true s a h))

below_less : (a b : ℤ) → int_lt (a -ℤ b) (pos 0) ≡ int_lt a b
below_less a b = less_by (a -ℤ b) (pos 0) a b b refl (sym (minus_itself b b refl))

below_all : (rows : RowList) (nonbasic : List ℕ) (lines : List TableLine) →
    map (λ z. int_lt z (pos 0)) (map (over_of rows nonbasic) lines) ≡ map (is_below rows nonbasic) lines
below_all rows nonbasic [] = refl
below_all rows nonbasic (line ∷ lines) =
    λ p. below_less (sum_at (bound_of rows) nonbasic line.coefs) (line.times *ℤ bound_of rows line.basic) p
    ∷ below_all rows nonbasic lines p

get_or_tests : (zs : List ℤ) (i : ℕ) →
    get_or (map (λ z. int_lt z (pos 0)) zs) i false ≡ int_lt (get_or zs i (pos 0)) (pos 0)
get_or_tests [] i = refl
get_or_tests (z ∷ zs) zero = refl
get_or_tests (z ∷ zs) (suc i) = get_or_tests zs i

pub leaving_shown : (rows : RowList) (kept : KeptTable) → Shows rows kept →
    lowest_place (λ i. int_lt (get_or kept.over i (pos 0)) (pos 0))
    (λ i. get_or (map (λ line. line.basic) kept.table.lines) i 0) (length kept.table.lines) ≡ leaving rows kept.table
leaving_shown rows kept h =
    let table = kept.table in
    let tests : (i : ℕ) →
    int_lt (get_or kept.over i (pos 0)) (pos 0) ≡ get_or (map (is_below rows table.nonbasic) table.lines) i false =
    λ i. sym (get_or_tests kept.over i)
    ∙ ap (λ xs. get_or (map (λ z. int_lt z (pos 0)) xs) i false) h
    ∙ ap (λ xs. get_or xs i false) (below_all rows table.nonbasic table.lines) in
    λ p. lowest_place (λ i. tests i p) (λ i. get_or (map (λ line. line.basic) table.lines) i 0) (length table.lines)

-- ---- a line without the entering variable
nothing_times : (c z : ℤ) → c ≡ pos 0 → c *ℤ z ≡ pos 0
nothing_times c z e = ap (λ x. x *ℤ z) e ∙ zero-*ℤ z

unchanged_sum : (y : ℕ → ℤ) (vs : List ℕ) (cs : List ℤ) (j v : ℕ) → j < length vs → j < length cs →
    get_or cs j (pos 0) ≡ pos 0 → sum_at y (set vs j v) cs ≡ sum_at y vs cs
unchanged_sum y [] cs j v h i e = absurd (omega arith)
unchanged_sum y (w ∷ vs) [] j v h i e = absurd (omega arith)
unchanged_sum y (w ∷ vs) (c ∷ cs) zero v h i e =
    ap (λ z. z +ℤ sum_at y vs cs) (nothing_times c (y v) e ∙ sym (nothing_times c (y w) e))
unchanged_sum y (w ∷ vs) (c ∷ cs) (suc j) v h i e =
    ap (λ z. c *ℤ y w +ℤ z) (unchanged_sum y vs cs j v (omega arith) (omega arith) e)

pub unchanged_over : (rows : RowList) (nonbasic : List ℕ) (j v : ℕ) (line : TableLine) → j < length nonbasic →
    length line.coefs ≡ length nonbasic → coef_at j line ≡ pos 0 →
    over_of rows (set nonbasic j v) line ≡ over_of rows nonbasic line
unchanged_over rows nonbasic j v line h w e =
    ap (λ z. z -ℤ line.times *ℤ bound_of rows line.basic)
    (unchanged_sum (bound_of rows) nonbasic line.coefs j v h (omega arith) e)

-- ---- the lines that are made
pub numbers_small : (line : TableLine) → HasNumbers line → is_large_line line ≡ false
numbers_small line h =
    neither (is_large line.times) (list_any is_large line.coefs) (small line.times h.times)
    (list_any_none is_large line.coefs (All-weaker IsNumber (λ c. is_large c ≡ false) small line.coefs h.coefs))
  where
    small : (z : ℤ) → IsNumber z → is_large z ≡ false
    small z l = lt-leb (2 ^ 62) (unsigned_abs z) l

    neither : (x y : Bool) → x ≡ false → y ≡ false → (x || y) ≡ false
    neither true y e f = e
    neither false y e f = f

pub line_small : (n : ℕ) (line : TableLine) → IsLine n line → is_large_line line ≡ false
line_small n line h = numbers_small line (record { times = h.times; coefs = h.coefs })

pub entered_line : (entry : EnteredLine) (line : TableLine) → IsEntry entry → IsLine (length entry.left.coefs) line →
    is_large_line (entered entry line) ≡ false → IsLine (length entry.left.coefs) (entered entry line)
entered_line entry line e l s =
    let put = put_into entry.column entry.left line in
    let n = put_not_zero entry.column entry.left line (not_zero_over (coef_at entry.column entry.left) e.over_zero)
    l.positive in
    let small = small_line (in_lowest_terms put) s in
    record {
      width = lowest_width put ∙ put_width entry.column entry.left line l.width ∙ l.width;
      times = small.times;
      positive = lowest_over_zero put n;
      coefs = small.coefs;
    }

pub solved_is_line : (entry : EnteredLine) → IsEntry entry → is_large_line (solved_line entry) ≡ false →
    IsLine (length entry.left.coefs) (solved_line entry)
solved_is_line entry e s =
    let own = solved_for entry.column entry.entering entry.left in
    let small = small_line (in_lowest_terms own) s in
    record {
      width = lowest_width own ∙ length-set _ entry.column entry.left.times ∙ length-map entry.left.coefs _;
      times = small.times;
      positive = lowest_over_zero own (not_zero_over (coef_at entry.column entry.left) e.over_zero);
      coefs = small.coefs;
    }

-- ---- lines one by one: those in front are made, those behind are as they were
pub seam_at : {X Y : Type 0} (g : X → Y) (xs : List X) (zs : List Y) (i : ℕ) (d : Y) → i < length xs →
    length zs ≡ length xs → get_or (map g (take i xs) ++ drop i zs) i d ≡ get_or zs i d
seam_at g [] zs i d h w = absurd (omega arith)
seam_at g (x ∷ xs) [] i d h w = absurd (omega arith)
seam_at g (x ∷ xs) (z ∷ zs) zero d h w = refl
seam_at g (x ∷ xs) (z ∷ zs) (suc i) d h w = seam_at g xs zs i d (omega arith) (omega arith)

pub seam_more : {X Y : Type 0} (g : X → Y) (xs : List X) (zs : List Y) (i : ℕ) (x : X) → i < length xs →
    length zs ≡ length xs → x ≡ get_or xs i x →
    set (map g (take i xs) ++ drop i zs) i (g x) ≡ map g (take (i + 1) xs) ++ drop (i + 1) zs
seam_more g [] zs i x h w e = absurd (omega arith)
seam_more g (y ∷ xs) [] i x h w e = absurd (omega arith)
seam_more g (y ∷ xs) (z ∷ zs) zero x h w e = λ p. g (e p) ∷ zs
seam_more g (y ∷ xs) (z ∷ zs) (suc i) x h w e =
    rw add-one (ap (λ ys. g y ∷ ys) (rw add-one at (seam_more g xs zs i x (omega arith) (omega arith) e)))

pub all_of_seam : {X Y : Type 0} (g : X → Y) (xs : List X) (zs : List Y) (i : ℕ) → length xs ≤ i →
    length zs ≡ length xs → map g (take i xs) ++ drop i zs ≡ map g xs
all_of_seam g [] [] zero h w = refl
all_of_seam g [] [] (suc i) h w = refl
all_of_seam g [] (z ∷ zs) i h w = absurd (omega arith)
all_of_seam g (x ∷ xs) zs zero h w = absurd (omega arith)
all_of_seam g (x ∷ xs) [] (suc i) h w = absurd (omega arith)
all_of_seam g (x ∷ xs) (z ∷ zs) (suc i) h w = ap (λ ys. g x ∷ ys) (all_of_seam g xs zs i (omega arith) (omega arith))

neither : (x y : Bool) → x ≡ false → y ≡ false → (x || y) ≡ false
neither true y e f = e
neither false y e f = f

pub map_after : {X Y Z : Type 0} (f : Y → Z) (g : X → Y) (xs : List X) → map (λ x. f (g x)) xs ≡ map f (map g xs)
map_after f g [] = refl
map_after f g (x ∷ xs) = ap (λ ys. f (g x) ∷ ys) (map_after f g xs)

pub none_more : (g : TableLine → TableLine) (xs : List TableLine) (i : ℕ) (x : TableLine) → i < length xs
    → x ≡ get_or xs i x →
    list_any is_large_line (map g (take i xs)) ≡ false → is_large_line (g x) ≡ false →
    list_any is_large_line (map g (take (i + 1) xs)) ≡ false
none_more g [] i x h e n s = absurd (omega arith)
none_more g (y ∷ xs) zero x h e n s =
    neither (is_large_line (g y)) (list_any is_large_line []) (ap (λ l. is_large_line (g l)) (sym e) ∙ s) refl
none_more g (y ∷ xs) (suc i) x h e n s =
    let both = or_parts (is_large_line (g y)) (list_any is_large_line (map g (take i xs))) n in
    rw add-one (neither (is_large_line (g y)) (list_any is_large_line (map g (take (suc i) xs))) both.0
    (rw add-one at (none_more g xs i x (omega arith) e both.1 s)))

pub some_large : (g : TableLine → TableLine) (xs : List TableLine) (i : ℕ) (x : TableLine) → i < length xs
    → x ≡ get_or xs i x →
    is_large_line (g x) ≡ true → list_any is_large_line (map g xs) ≡ true
some_large g [] i x h e s = absurd (omega arith)
some_large g (y ∷ xs) zero x h e s =
    in_front (is_large_line (g y)) (list_any is_large_line (map g xs)) (ap (λ l. is_large_line (g l)) (sym e) ∙ s)
  where
    in_front : (a b : Bool) → a ≡ true → (a || b) ≡ true
    in_front true b f = refl
    in_front false b f = cc
some_large g (y ∷ xs) (suc i) x h e s =
    behind (is_large_line (g y)) (list_any is_large_line (map g xs)) (some_large g xs i x (omega arith) e s)
  where
    behind : (a b : Bool) → b ≡ true → (a || b) ≡ true
    behind true b f = refl
    behind false b f = f

-- ---- lines put behind others
pub none_behind : (xs : List TableLine) (x : TableLine) → list_any is_large_line xs ≡ false → is_large_line x ≡ false →
    list_any is_large_line (xs ++ x ∷ []) ≡ false
none_behind [] x n s = neither (is_large_line x) (list_any is_large_line []) s refl
none_behind (y ∷ xs) x n s =
    let both = or_parts (is_large_line y) (list_any is_large_line xs) n in
    neither (is_large_line y) (list_any is_large_line (xs ++ x ∷ [])) both.0 (none_behind xs x both.1 s)

pub map_behind : {X Y : Type 0} (g : X → Y) (xs : List X) (x : X) → map g (xs ++ x ∷ []) ≡ map g xs ++ g x ∷ []
map_behind g [] x = refl
map_behind g (y ∷ xs) x = ap (λ ys. g y ∷ ys) (map_behind g xs x)

-- ---- the lines but that which is left
remove_map : {X Y : Type 0} (f : X → Y) (xs : List X) (i : ℕ) → remove (map f xs) i ≡ map f (remove xs i)
remove_map f [] zero = refl
remove_map f [] (suc i) = refl
remove_map f (x ∷ xs) zero = refl
remove_map f (x ∷ xs) (suc i) = ap (λ ys. f x ∷ ys) (remove_map f xs i)

pub removed_overs : (f : TableLine → ℤ) (lines : List TableLine) (overs : List ℤ) (i : ℕ) → overs ≡ map f lines →
    remove overs i ≡ map f (remove lines i)
removed_overs f lines overs i e = ap (λ zs. remove zs i) e ∙ remove_map f lines i

pub maps_alike : {X Y : Type 0} (f g : X → Y) (xs : List X) → All (λ x. f x ≡ g x) xs → map f xs ≡ map g xs
maps_alike f g [] h = refl
maps_alike f g (x ∷ xs) h =
    λ p. All-head (λ y. f y ≡ g y) x xs h p ∷ maps_alike f g xs (All-tail (λ y. f y ≡ g y) x xs h) p

-- the lines after an exchange, by the one of the line that is left and its opposite that has a coefficient over 0
pub lines_by_oriented : (n i j e : ℕ) (left : TableLine) (lines : List TableLine) → All (IsLine n) lines →
    j < length left.coefs → ¬ (coef_at j left ≡ pos 0) →
    map (λ line. in_lowest_terms (put_into j (oriented_of j left) line)) (remove lines i)
    ++ in_lowest_terms (solved_for j e (oriented_of j left)) ∷ [] ≡ lines_exchanged i j e left lines
lines_by_oriented n i j e left lines own h z =
    let rest = remove lines i in
    let all = All-remove (IsLine n) lines i own in
    let others = maps_alike (λ line. in_lowest_terms (put_into j (oriented_of j left) line))
    (λ line. in_lowest_terms (put_into j left line)) rest
    (λ k d l. let line = all k d l in
    put_oriented j left h z (get_or rest k d) (put_not_zero j left (get_or rest k d) z line.positive)) in
    λ p. others p ++ solved_oriented j left h z e p ∷ []

-- ---- a list that is written back
pub written : {X : Type 0} (n : ℕ) (xs rest : List X) → n ≡ length xs → take n (xs ++ rest) ≡ xs
written n xs rest e = ap (λ k. take k (xs ++ rest)) e ∙ take-append_seam xs rest

-- a place that is written, and written back
pub set_again : {X : Type 0} (xs : List X) (k : ℕ) (y x : X) → k < length xs → x ≡ get_or xs k x →
    set (set xs k y) k x ≡ xs
set_again [] k y x h e = absurd (omega arith)
set_again (z ∷ zs) zero y x h e = λ p. e p ∷ zs
set_again (z ∷ zs) (suc k) y x h e = ap (λ ws. z ∷ ws) (set_again zs k y x (omega arith) e)

-- ---- what is kept of a line with the entering variable put in
pub put_over : (rows : RowList) (vs : List ℕ) (j : ℕ) (left line : TableLine) → j < length vs → j < length left.coefs →
    length line.coefs ≡ length left.coefs → over_of rows (set vs j left.basic) (put_into j left line) ≡ coef_at j left
    *ℤ over_of rows vs line -ℤ coef_at j line *ℤ over_of rows vs left
put_over rows vs j left line h i w =
    let y = bound_of rows in
    let p = coef_at j left in
    let sum = sum_at y vs line.coefs in
    let own = line.times *ℤ y line.basic in
    let other = coef_at j line *ℤ over_of rows vs left in
    (λ k. put_sum_free y vs j left line h i w k -ℤ times_assoc p line.times (y line.basic) k)
    ∙ other_first (p *ℤ sum) other (p *ℤ own) ∙ ap (λ z. z -ℤ other) (sym (times_minus p sum own))
  where
    other_first : (a b c : ℤ) → a -ℤ b -ℤ c ≡ a -ℤ c -ℤ b
    other_first a b c = omega (arith, ints)

pub opposite_over : (rows : RowList) (vs : List ℕ) (line : TableLine) →
    over_of rows vs (opposite_of line) ≡ neg_ℤ (over_of rows vs line)
opposite_over rows vs line =
    let y = bound_of rows in
    (λ p. sum_neg y vs line.coefs p -ℤ neg_times line.times (y line.basic) p)
    ∙ both_turned (sum_at y vs line.coefs) (line.times *ℤ y line.basic)
  where
    both_turned : (a b : ℤ) → neg_ℤ a -ℤ neg_ℤ b ≡ neg_ℤ (a -ℤ b)
    both_turned a b = omega (arith, ints)

-- a line that keeps the number before its variable is in lowest terms
pub lowest_same : (line : TableLine) → pos 0 <ℤ line.times → line.times ≡ (in_lowest_terms line).times →
    in_lowest_terms line ≡ line
lowest_same line over e =
    let g = common (unsigned_abs line.times) line.coefs in
    let is = lowest_is line g over refl in
    let size = divisor_size line g over refl in
    let n = unsigned_abs line.times in
    let whole = exact g line.times size.0 (common_divides_first n line.coefs) in
    let same : g * n ≡ n = sym (unsigned_abs-mul (pos g) line.times) ∙ ap unsigned_abs (ap (λ z. pos g *ℤ z) (e
    ∙ ap (λ (l : TableLine). l.times) is) ∙ whole) in
    let one : g ≡ 1 = divisor_left g n (omega (arith, size.0, size.1)) (subst (λ m. m ∣ n) (sym same) (dvd_refl n)) in
    is ∙ ap (λ k. divided_by (pos k) line) one ∙ divided_by_one line

pub put_kept : (rows : RowList) (entry : EnteredLine) (line made : TableLine) (put : PutIn) → IsEntry entry →
    IsLine (length entry.left.coefs) line → made ≡ entered entry line → IsPut rows entry line put →
    IsKeptPut rows entry made put
put_kept rows entry line made put e l is has same =
    let own = put_into entry.column entry.left line in
    let n = put_not_zero entry.column entry.left line (not_zero_over (coef_at entry.column entry.left) e.over_zero)
    l.positive in
    let times : own.times ≡ (in_lowest_terms own).times = sym has.times ∙ same ∙ ap (λ (m : TableLine). m.times) is in
    let over = subst (λ z. pos 0 <ℤ z) (sym times) (lowest_over_zero own n) in
    has.over ∙ ap (over_of rows entry.nonbasic.items) (sym (is ∙ lowest_same own over times))

pub some_weaker : {X : Type 0} (P Q : X → Type 0) (o : Option X) → ((x : X) → P x → Q x) → IfSome o P → IfSome o Q
some_weaker P Q None f h = h
some_weaker P Q (Some x) f h = f x h
