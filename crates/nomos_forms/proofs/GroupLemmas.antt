-- Rows that are kept in groups, where a group gets more of them.
use Rattle.std.proofs.Common.{◌≡◌, ◌∙◌, ◌+◌, ℕ, zero, suc, ℤ, List, [], ◌∷◌, ◌++◌, length, get_or, set, map, All, Contains, ◌<◌, ◌↔◌, refl, ap, sym, subst, ⊎_elim, arith}
use Rattle.std.specs.List.Sorted.{IsPermutation}
use Rattle.std.proofs.lemmas.List.{append-nil, append_assoc, map-append, length-map, get_or-map}
use Rattle.std.proofs.lemmas.Grind.{flat_map-append}
use Rattle.std.proofs.lemmas.List.Elements.{All-map, All-weaker, All-contains, All-contains_itself, Contains-append_left, Contains-append_right, Contains-append_cases}
use Rattle.std.proofs.lemmas.List.Sorted.{IsPermutation-trans, IsPermutation-append_comm, IsPermutation-append_left, IsPermutation-append_right, IsPermutation-sym, Contains-permutation}
use Rattle.nomos_forms.specs.RowGroups.{row_of, group_rows, rows_in}
use Rattle.nomos_forms.specs.mirror.Joining.{coefs_of}
use Rattle.nomos_forms.specs.mirror.SameRows.{HasSame}
use Rattle.nomos_forms.specs.declared.row.Row.{Row}
use Rattle.nomos_forms.specs.declared.row_group.RowGroup.{RowGroup}

-- the group itself
group-more : (group more : RowGroup) (ls : List ℤ) → more.coefs ≡ group.coefs → more.leasts.items ≡ group.leasts.items
    ++ ls
    → group_rows more ≡ group_rows group ++ map (row_of more.coefs) ls
group-more group more ls same is =
    (λ p. map (row_of (same p)) (is p)) ∙ map-append (row_of group.coefs) group.leasts.items ls
    ∙ (λ p. group_rows group ++ map (row_of (sym same p)) ls)

-- the last of all groups
pub rows-last : (groups : List RowGroup) (k : ℕ) (more d : RowGroup) (ls : List ℤ) → k + 1 ≡ length groups
    → more.coefs ≡ (get_or groups k d).coefs → more.leasts.items ≡ (get_or groups k d).leasts.items ++ ls
    → rows_in (set groups k more) ≡ rows_in groups ++ map (row_of more.coefs) ls
rows-last [] k more d ls last same is = absurd (omega (arith, last))
rows-last (g ∷ []) zero more d ls last same is =
    append-nil (group_rows more) ∙ group-more g more ls same is
    ∙ (λ p. sym (append-nil (group_rows g)) p ++ map (row_of more.coefs) ls)
rows-last (g ∷ []) (suc k) more d ls last same is = absurd (omega (arith, last))
rows-last (g ∷ h ∷ gs) zero more d ls last same is = absurd (omega (arith, last))
rows-last (g ∷ h ∷ gs) (suc k) more d ls last same is =
    ap (λ rows. group_rows g ++ rows) (rows-last (h ∷ gs) k more d ls (omega (arith, last)) same is)
    ∙ sym (append_assoc (group_rows g) (rows_in (h ∷ gs)) (map (row_of more.coefs) ls))

-- what is in front of two lists goes between them
between : (new first rest all : List Row) → IsPermutation (new ++ rest) all
    → IsPermutation (new ++ (first ++ rest)) (first ++ all)
between new first rest all h =
    subst (λ rows. IsPermutation rows (first ++ all)) (append_assoc new first rest)
    (IsPermutation-trans _ _ _ (IsPermutation-append_left rest _ _ (IsPermutation-append_comm new first))
    (subst (λ rows. IsPermutation rows (first ++ all)) (sym (append_assoc first new rest))
    (IsPermutation-append_right first _ _ h)))

-- any group
pub rows-more : (groups : List RowGroup) (k : ℕ) (more d : RowGroup) (ls : List ℤ) → k < length groups
    → more.coefs ≡ (get_or groups k d).coefs → more.leasts.items ≡ (get_or groups k d).leasts.items ++ ls
    → IsPermutation (map (row_of more.coefs) ls ++ rows_in groups) (rows_in (set groups k more))
rows-more [] k more d ls below same is = absurd (omega (arith, below))
rows-more (g ∷ gs) zero more d ls below same is =
    let new = map (row_of more.coefs) ls in
    subst (λ rows. IsPermutation (new ++ rows_in (g ∷ gs)) (rows ++ rows_in gs)) (sym (group-more g more ls same is))
    (subst (λ rows. IsPermutation rows ((group_rows g ++ new) ++ rows_in gs))
    (append_assoc new (group_rows g) (rows_in gs))
    (IsPermutation-append_left (rows_in gs) _ _ (IsPermutation-append_comm new (group_rows g))))
rows-more (g ∷ gs) (suc k) more d ls below same is =
    between (map (row_of more.coefs) ls) (group_rows g) (rows_in gs) _
    (rows-more gs k more d ls (omega (arith, below)) same is)

-- a group is added behind others
pub rows-push : (groups : List RowGroup) (g : RowGroup) → rows_in (groups ++ g ∷ []) ≡ rows_in groups ++ group_rows g
rows-push groups g = flat_map-append group_rows groups (g ∷ [])
    ∙ ap (λ rows. rows_in groups ++ rows) (append-nil (group_rows g))

-- a row is in a group that has its coefficients and its least
pub in-group : (group : RowGroup) (row : Row) → Contains (group_rows group) row
    ↔ ((group.coefs ≡ row.coefs) × Contains group.leasts.items row.least)
in-group group row = (
  (λ h. let at = sym (get_or-map (row_of group.coefs) group.leasts.items h.0 row.least row (below h.1)) ∙ h.2 in
      (ap (λ r. r.coefs) at, (h.0, below h.1, ap (λ r. r.least) at))),
  (λ h. (
    h.1.0,
    subst (λ k. h.1.0 < k) (sym long) h.1.1,
    get_or-map (row_of group.coefs) group.leasts.items h.1.0 row.least row h.1.1
        ∙ (λ p. row_of (h.0 p) (h.1.2 p)),
  )),
)
  where
    long : length (group_rows group) ≡ length group.leasts.items
    long = length-map group.leasts.items (row_of group.coefs)

    below : {k : ℕ} → k < length (group_rows group) → k < length group.leasts.items
    below {k} h = subst (λ n. k < n) long h

-- a row of a group is among all rows
pub in-place : (groups : List RowGroup) (k : ℕ) (d : RowGroup) (row : Row) → k < length groups
    → Contains (group_rows (get_or groups k d)) row → Contains (rows_in groups) row
in-place [] k d row below h = absurd (omega (arith, below))
in-place (g ∷ gs) zero d row below h = Contains-append_left (group_rows g) (rows_in gs) row h
in-place (g ∷ gs) (suc k) d row below h =
    Contains-append_right (group_rows g) (rows_in gs) row (in-place gs k d row (omega (arith, below)) h)

-- what holds of the rows of a group holds of each least with its coefficients, and the other way round
pub all-leasts : (P : Row → Type 0) (group : RowGroup) → All P (group_rows group)
    → All (λ least. P (row_of group.coefs least)) group.leasts.items
all-leasts P group all = λ k d below. subst P (get_or-map (row_of group.coefs) group.leasts.items k d
    (row_of group.coefs d) below)
    (all k (row_of group.coefs d) (subst (λ n. k < n) (sym (length-map group.leasts.items (row_of group.coefs))) below))

pub all-rows : (P : Row → Type 0) (group : RowGroup) → All (λ least. P (row_of group.coefs least)) group.leasts.items
    → All P (group_rows group)
all-rows P group all = All-map P (row_of group.coefs) group.leasts.items all

-- and what holds of all rows holds of those of a group
pub all-in-place : (P : Row → Type 0) (groups : List RowGroup) (k : ℕ) (d : RowGroup) → k < length groups
    → All P (rows_in groups) → All P (group_rows (get_or groups k d))
all-in-place P groups k d below all =
    All-weaker (Contains (group_rows (get_or groups k d))) P
    (λ row h. All-contains P (rows_in groups) row all (in-place groups k d row below h)) _ (All-contains_itself _)

-- a row is in one of the groups
in-one : (groups : List RowGroup) (row : Row) → Contains (rows_in groups) row
    → (g : RowGroup) × Contains groups g × Contains (group_rows g) row
in-one [] row h = absurd (omega (arith, h.1))
in-one (g ∷ gs) row h = ⊎_elim
    (λ own. (g, (0, omega arith, refl), own))
    (λ rest. let one = in-one gs row rest in (one.0, Contains-append_right (g ∷ []) gs one.0 one.1, one.2))
    (Contains-append_cases (group_rows g) (rows_in gs) row h)

-- groups in another order have the same rows
same-rows : (gs hs : List RowGroup) (row : Row) → IsPermutation gs hs → Contains (rows_in gs) row
    → Contains (rows_in hs) row
same-rows gs hs row moved h =
    let one = in-one gs row h in
    let there = Contains-permutation gs hs one.0 moved one.1 in
    in-place hs there.0 one.0 row there.1 (subst (λ g. Contains (group_rows g) row) (sym there.2) one.2)

pub same-permuted : (gs hs : List RowGroup) → IsPermutation gs hs → HasSame (rows_in hs) (rows_in gs)
same-permuted gs hs moved = λ row. (same-rows hs gs row (IsPermutation-sym gs hs moved), same-rows gs hs row moved)

-- the same rows behind the same list
pub same-behind : (xs ys zs : List Row) → HasSame ys zs → HasSame (xs ++ ys) (xs ++ zs)
same-behind xs ys zs same = λ row. (one xs ys zs row (same row).0, one xs zs ys row (same row).1)
  where
    one : (xs ys zs : List Row) (row : Row) → (Contains ys row → Contains zs row) → Contains (xs ++ ys) row
        → Contains (xs ++ zs) row
    one xs ys zs row f h = ⊎_elim (λ left. Contains-append_left xs zs row left)
        (λ right. Contains-append_right xs zs row (f right))
        (Contains-append_cases xs ys row h)

pub same-front : (xs ys zs : List Row) → HasSame ys zs → HasSame (ys ++ xs) (zs ++ xs)
same-front xs ys zs same = λ row. (one xs ys zs row (same row).0, one xs zs ys row (same row).1)
  where
    one : (xs ys zs : List Row) (row : Row) → (Contains ys row → Contains zs row) → Contains (ys ++ xs) row
        → Contains (zs ++ xs) row
    one xs ys zs row f h = ⊎_elim (λ left. Contains-append_left zs xs row (f left))
        (λ right. Contains-append_right zs xs row right)
        (Contains-append_cases ys xs row h)

-- a group with the same leasts in another order
pub same-group : (group other : RowGroup) → other.coefs ≡ group.coefs
    → ((least : ℤ) → Contains other.leasts.items least ↔ Contains group.leasts.items least)
    → HasSame (group_rows other) (group_rows group)
same-group group other coefs leasts = λ row. (
  (λ h. let at = (in-group other row).0 h in (in-group group row).1 (sym coefs ∙ at.0, (leasts row.least).0 at.1)),
  (λ h. let at = (in-group group row).0 h in (in-group other row).1 (coefs ∙ at.0, (leasts row.least).1 at.1)),
)

-- the coefficients of a row are those of its group
pub coefs-in : (groups : List RowGroup) (row : Row) → Contains (rows_in groups) row
    → Contains (coefs_of groups) row.coefs
coefs-in groups row h =
    let one = in-one groups row h in
    let place = one.1 in (
      place.0,
      subst (λ n. place.0 < n) (sym (length-map groups (λ g. g.coefs))) place.1,
      get_or-map (λ g. g.coefs) groups place.0 one.0 row.coefs place.1 ∙ ap (λ g. g.coefs) place.2
          ∙ ((in-group one.0 row).0 one.2).0,
    )
