-- The rows of a program are one list: they ascend, and no two lists that ascend have the same items. So the pivot run
-- on them has one end.
use Rattle.std.proofs.Common.{◌≡◌, ◌≤◌, ◌⊎◌, inl, inr, ℕ, zero, List, [], ◌∷◌, ◌++◌, map, All, Contains, length, get_or, refl, ap, sym, subst, ◌∙◌, arith}
use Rattle.std.proofs.lemmas.Cmp.{tied_itself}
use Rattle.std.proofs.Math.Bridge.{le_prop}
use Rattle.std.proofs.Math.Nat.{ℕ_set}
use Rattle.std.specs.List.{AllByRecursion, flat_map}
use Rattle.std.specs.List.Sorted.{IsStrictlySortedBy}
use Rattle.std.specs.declared.cmp.Ordering.TheVariants.{Less, Equal}
use Rattle.nomos_accept.specs.AcceptedText.{AreRowsFor, PivotRunEndsWith}
use Rattle.nomos_check.proofs.ListLemmas.{contains-inside}
use Rattle.nomos_check.proofs.MemberLemmas.{contains-none}
use Rattle.nomos_forms.specs.Bounds.{IsRow}
use Rattle.nomos_forms.specs.declared.row.Row.{Row}
use Rattle.nomos_forms.specs.declared.row_list.RowList.{RowList}
use Rattle.nomos_forms.specs.RowOrder.{row_cmp, row_total}
use Rattle.nomos_forms.specs.RowsOf.{all_rows, form_row, pair_rows}
use Rattle.nomos_forms.specs.declared.form.Form.{Form}
use Rattle.nomos_ir.specs.Amounts.{star_count}
use Rattle.nomos_ir.specs.declared.amount.Amount.{Amount}
use Rattle.nomos_ir.specs.declared.lists.ProgramLists.{ProgramLists}
use Rattle.nomos_rows.specs.ProgramRows.{AreProgramRows}
use Rattle.nomos_simplex.specs.PivotRun.{answer_to}
use Rattle.nomos_simplex.specs.declared.solved.Solved.{Solved}
use Rattle.nomos_types.proofs.OccurrenceLaws.{contains-cases, contains-tail}

contains-first : {X : Type 0} (x : X) (xs : List X) → Contains (x ∷ xs) x
contains-first x xs = (zero, omega arith, refl)

-- what holds of all items holds of one
at-contained : {X : Type 0} (P : X → Type 0) (xs : List X) (y : X) → AllByRecursion P xs → Contains xs y → P y
at-contained P [] y all there = absurd (contains-none y there)
at-contained P (x ∷ xs) y all there = elim (contains-cases x y xs there) [
  | inl same ↦ subst P same all.0
  | inr later ↦ at-contained P xs y all.1 later
]

-- no item comes before itself, and no two each before the other
not-itself : (x : Row) → ¬ (row_cmp x x ≡ Less)
not-itself x = λ less. let tied = tied_itself row_total x in let both : Less ≡ Equal = sym less ∙ tied in cc

not-both : (x y : Row) → row_cmp x y ≡ Less → ¬ (row_cmp y x ≡ Less)
not-both x y less = λ other. not-itself x (row_total.trans x y x less other)

-- two ascending lists begin alike, where each has the first item of the other
first-same : (x y : Row) (xs ys : List Row) → AllByRecursion (λ z. row_cmp x z ≡ Less) xs
    → AllByRecursion (λ z. row_cmp y z ≡ Less) ys
    → Contains (y ∷ ys) x → Contains (x ∷ xs) y → x ≡ y
first-same x y xs ys above_x above_y there here = elim (contains-cases x y xs here) [
  | inl same ↦ same
  | inr later ↦ elim (contains-cases y x ys there) [
    | inl same ↦ sym same
    | inr before ↦ absurd (not-both x y (at-contained (λ z. row_cmp x z ≡ Less) xs y above_x later)
        (at-contained (λ z. row_cmp y z ≡ Less) ys x above_y before))
  ]
]

-- an item of a list is one of the other list's rest, where both have the same first item, which comes before it
rest-there : (x y z : Row) (xs ys : List Row) → x ≡ y → AllByRecursion (λ w. row_cmp x w ≡ Less) xs → Contains xs z
    → Contains (y ∷ ys) z
    → Contains ys z
rest-there x y z xs ys same above here there = elim (contains-cases y z ys there) [
  | inl is ↦ absurd (not-itself x
      (subst (λ (w : Row). row_cmp x w ≡ Less) (sym is ∙ sym same)
      (at-contained (λ w. row_cmp x w ≡ Less) xs z above here)))
  | inr later ↦ later
]

-- ascending lists with the same items are equal
ascending-once : (xs ys : List Row) → IsStrictlySortedBy row_cmp xs → IsStrictlySortedBy row_cmp ys
    → ((z : Row) → Contains xs z → Contains ys z) → ((z : Row) → Contains ys z → Contains xs z) → xs ≡ ys
unfolding IsStrictlySortedBy
ascending-once [] [] a b to from = refl
ascending-once [] (y ∷ ys) a b to from =
    absurd (contains-none y (from y (contains-first y ys)))
ascending-once (x ∷ xs) [] a b to from =
    absurd (contains-none x (to x (contains-first x xs)))
ascending-once (x ∷ xs) (y ∷ ys) a b to from =
    let same : x ≡ y = first-same x y xs ys a.0 b.0 (to x (contains-first x xs)) (from y (contains-first y ys)) in
    let rest : xs ≡ ys = ascending-once xs ys a.1 b.1
    (λ z here. rest-there x y z xs ys same a.0 here (to z (contains-tail x z xs here)))
    (λ z here. rest-there y x z ys xs (sym same) b.0 here (from z (contains-tail y z ys here))) in
    cc

-- what two lists joined have
joined-cases : {X : Type 0} (y : X) (xs ys : List X) → Contains (xs ++ ys) y → Contains xs y ⊎ Contains ys y
joined-cases y [] ys there = inr there
joined-cases y (x ∷ xs) ys there = elim (contains-cases x y (xs ++ ys) there) [
  | inl same ↦ inl (subst (λ z. Contains (x ∷ xs) z) same (contains-first x xs))
  | inr later ↦ elim (joined-cases y xs ys later) [
    | inl left ↦ inl (contains-tail x y xs left)
    | inr right ↦ inr right
  ]
]

joined-left : {X : Type 0} (y : X) (xs ys : List X) → Contains xs y → Contains (xs ++ ys) y
joined-left y [] ys there = absurd (contains-none y there)
joined-left y (x ∷ xs) ys there = elim (contains-cases x y xs there) [
  | inl same ↦ subst (λ z. Contains (x ∷ xs ++ ys) z) same (contains-first x (xs ++ ys))
  | inr later ↦ contains-tail x y (xs ++ ys) (joined-left y xs ys later)
]

joined-right : {X : Type 0} (y : X) (xs ys : List X) → Contains ys y → Contains (xs ++ ys) y
joined-right y [] ys there = there
joined-right y (x ∷ xs) ys there = contains-tail x y (xs ++ ys) (joined-right y xs ys there)

-- what is mapped from a list is mapped from another that has its items
mapped-there : {X Y : Type 0} (f : X → Y) (xs zs : List X) (y : Y) → ((x : X) → Contains xs x → Contains zs x)
    → ((x : X) → Contains zs x → Contains (map f zs) (f x)) → Contains (map f xs) y → Contains (map f zs) y
mapped-there f [] zs y to put there = absurd (contains-none y there)
mapped-there f (x ∷ xs) zs y to put there = elim (contains-cases (f x) y (map f xs) there) [
  | inl same ↦ subst (λ z. Contains (map f zs) z) same (put x (to x (contains-first x xs)))
  | inr later ↦ mapped-there f xs zs y (λ z here. to z (contains-tail x z xs here)) put later
]

mapped-put : {X Y : Type 0} (f : X → Y) (xs : List X) (x : X) → Contains xs x → Contains (map f xs) (f x)
mapped-put f [] x there = absurd (contains-none x there)
mapped-put f (z ∷ xs) x there = elim (contains-cases z x xs there) [
  | inl same ↦ subst (λ w. Contains (map f (z ∷ xs)) (f w)) same (contains-first (f z) (map f xs))
  | inr later ↦ contains-tail (f z) (f x) (map f xs) (mapped-put f xs x later)
]

made-there : {X Y : Type 0} (f : X → List Y) (xs zs : List X) (y : Y) → ((x : X) → Contains xs x → Contains zs x)
    → Contains (flat_map f xs) y → Contains (flat_map f zs) y
made-there f [] zs y to there = absurd (contains-none y there)
made-there f (x ∷ xs) zs y to there = elim (joined-cases y (f x) (flat_map f xs) there) [
  | inl left ↦ contains-inside f zs x y (to x (contains-first x xs)) left
  | inr right ↦ made-there f xs zs y (λ z here. to z (contains-tail x z xs here)) right
]

-- the rows of forms and pairs are rows of others that are as many or more
rows-there : (n : ℕ) (forms others : List Form) (pairs more : List (Amount × Amount)) (row : Row)
    → ((f : Form) → Contains forms f → Contains others f) → ((p : Amount × Amount) → Contains pairs p → Contains more p)
    → Contains (all_rows n forms pairs) row → Contains (all_rows n others more) row
rows-there n forms others pairs more row forms_to pairs_to there =
    elim (joined-cases row (map form_row forms) (flat_map (pair_rows n) pairs) there) [
      | inl left ↦ joined-left row (map form_row others) (flat_map (pair_rows n) more)
          (mapped-there form_row forms others row forms_to (mapped-put form_row others) left)
      | inr right ↦ joined-right row (map form_row others) (flat_map (pair_rows n) more)
          (made-there (pair_rows n) pairs more row pairs_to right)
    ]

-- the rows of a program over its stars are one list
pub program_rows-once : (lists : ProgramLists) (n : ℕ) (xs ys : List Row) → AreProgramRows lists n xs
    → AreProgramRows lists n ys → xs ≡ ys
program_rows-once lists n xs ys a b =
    ascending-once xs ys a.are_rows.ascend b.are_rows.ascend
    (λ row there. (b.are_rows.same row).1
    (rows-there n a.forms b.forms a.pairs b.pairs row
    (λ f is. (b.are_forms f).1 ((a.are_forms f).0 is)) (λ p is. (b.are_pairs p).1 ((a.are_pairs p).0 is))
    ((a.are_rows.same row).0 there)))
    (λ row there. (a.are_rows.same row).1
    (rows-there n b.forms a.forms b.pairs a.pairs row
    (λ f is. (a.are_forms f).1 ((b.are_forms f).0 is)) (λ p is. (a.are_pairs p).1 ((b.are_pairs p).0 is))
    ((b.are_rows.same row).0 there)))

-- two lists of rows with the same rows over the same stars

-- what is said of the size of a row is said in one way
row-prop : (n : ℕ) (row : Row) → IsProp (IsRow n row)
row-prop n row a b = λ i. record {
  width = ℕ_set (length row.coefs) n a.width b.width i;
  coefs = λ k d inside. le_prop (a.coefs k d inside) (b.coefs k d inside) i;
  least = le_prop a.least b.least i;
}

rows-prop : (n : ℕ) (rows : List Row) → IsProp (All (IsRow n) rows)
rows-prop n rows a b = λ i k d inside. row-prop n (get_or rows k d) (a k d inside) (b k d inside) i

-- the list of these rows
abbrev listed : (n : ℕ) (rows : List Row) → n ≤ 64 → All (IsRow n) rows → RowList
listed n rows few each = record { rows = rows; stars = n; few_stars = few; each = each }

listed-once : (n : ℕ) (rows : List Row) (few more : n ≤ 64) (each other : All (IsRow n) rows)
    → listed n rows few each ≡ listed n rows more other
listed-once n rows few more each other = λ i. listed n rows (le_prop few more i) (rows-prop n rows each other i)

listed-same : (n : ℕ) (xs ys : List Row) (few more : n ≤ 64) (each : All (IsRow n) xs) (other : All (IsRow n) ys)
    → xs ≡ ys → listed n xs few each ≡ listed n ys more other
listed-same n xs ys few more each other same =
    subst (λ (zs : List Row). (e : All (IsRow n) zs) → listed n xs few each ≡ listed n zs more e) same
    (λ e. listed-once n xs few more each e) other

row_list-once : (a b : RowList) → a.stars ≡ b.stars → a.rows ≡ b.rows → a ≡ b
row_list-once a b stars rows =
    subst (λ (m : ℕ). (few : m ≤ 64) (each : All (IsRow m) b.rows) → a ≡ listed m b.rows few each) stars
    (λ few each. listed-same a.stars a.rows b.rows a.few_stars few a.each each rows) b.few_stars b.each

-- the rows of a program over its stars are one list of rows
pub rows_for-once : (lists : ProgramLists) (a b : RowList) → AreRowsFor lists a → AreRowsFor lists b → a ≡ b
rows_for-once lists a b is other =
    row_list-once a b (is.stars ∙ sym other.stars)
    (program_rows-once lists (star_count lists) a.rows b.rows is.of_program other.of_program)

-- the pivot run on the rows of a program has one end
pub ends-once : (lists : ProgramLists) (a b : Solved) → PivotRunEndsWith lists a → PivotRunEndsWith lists b → a ≡ b
ends-once lists a b ends other =
    sym ends.run ∙ ap answer_to (rows_for-once lists ends.rows other.rows ends.are_rows other.are_rows) ∙ other.run
