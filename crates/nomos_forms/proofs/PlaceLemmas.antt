-- The places of rows that are kept in groups.
use Rattle.std.proofs.Common.{◌≡◌, ◌∙◌, ◌+◌, ◌-◌, ◌<◌, ◌≤◌, ℕ, zero, suc, ℤ, List, [], ◌∷◌, ◌++◌, Some, length, get_or, take, refl, ap, sym, ⊎_elim, arith}
use Rattle.std.specs.List.{slice_get}
use Rattle.std.specs.List.Sorted.{IsNonDecreasingBy}
use Rattle.std.proofs.lemmas.List.{length-append, length-map, get_or-map, get_or_default, take_all}
use Rattle.std.proofs.lemmas.Bool.{cases_lt}
use Rattle.std.proofs.lemmas.List.Concat.{get_or-flat_map}
use Rattle.std.proofs.lemmas.List.Folds.{length-flat_map-take}
use Rattle.std.proofs.lemmas.Option.{slice_get-get_or}
use Rattle.nomos_forms.specs.RowGroups.{row_of, group_rows, rows_in}
use Rattle.nomos_forms.specs.mirror.GroupEnds.{ends_after, EndBefore, IsPlaceOf}
use Rattle.nomos_forms.specs.declared.row.Row.{Row}
use Rattle.nomos_forms.specs.declared.row_group.RowGroup.{RowGroup}

-- the number of rows, the first group's apart
rows-first : (g : RowGroup) (gs : List RowGroup) → length (rows_in (g ∷ gs)) ≡ length g.leasts.items + length
    (rows_in gs)
rows-first g gs = length-append (group_rows g) (rows_in gs)
    ∙ ap (λ k. k + length (rows_in gs)) (length-map g.leasts.items (row_of g.coefs))

pub length-ends : (n : ℕ) (gs : List RowGroup) → length (ends_after n gs) ≡ length gs
length-ends n [] = refl
length-ends n (g ∷ gs) = ap suc (length-ends (n + length g.leasts.items) gs)

-- a group ends behind its own rows and those before it
pub end-at : (n : ℕ) (gs : List RowGroup) (k : ℕ) (d : RowGroup) → k < length gs
    → get_or (ends_after n gs) k 0 ≡ n + length (rows_in (take k gs)) + length (get_or gs k d).leasts.items
end-at n [] k d below = absurd (omega (arith, below))
end-at n (g ∷ gs) zero d below = omega arith
end-at n (g ∷ gs) (suc k) d below =
    let rest = end-at (n + length g.leasts.items) gs k d (omega (arith, below)) in
    let first = rows-first g (take k gs) in
    omega (arith, rest, first)

-- the last one behind all rows
pub last-end : (n : ℕ) (gs : List RowGroup) (k : ℕ) → k + 1 ≡ length gs
    → get_or (ends_after n gs) k 0 ≡ n + length (rows_in gs)
last-end n [] k last = absurd (omega (arith, last))
last-end n (g ∷ []) zero last = omega (arith, rows-first g [])
last-end n (g ∷ []) (suc k) last = absurd (omega (arith, last))
last-end n (g ∷ h ∷ gs) zero last = absurd (omega (arith, last))
last-end n (g ∷ h ∷ gs) (suc k) last =
    omega (arith, last-end (n + length g.leasts.items) (h ∷ gs) k (omega (arith, last)), rows-first g (h ∷ gs))

-- the ends rise
ends-low : (n : ℕ) (gs : List RowGroup) (k d : ℕ) → k < length (ends_after n gs) → n ≤ get_or (ends_after n gs) k d
ends-low n [] k d below = absurd (omega (arith, below))
ends-low n (g ∷ gs) zero d below = omega arith
ends-low n (g ∷ gs) (suc k) d below =
    let rest = ends-low (n + length g.leasts.items) gs k d (omega (arith, below)) in omega (arith, rest)

pub ends-rise : (n : ℕ) (gs : List RowGroup) → IsNonDecreasingBy (λ x. x) (ends_after n gs)
ends-rise n [] i j d le below = absurd (omega (arith, below))
ends-rise n (g ∷ gs) zero zero d le below = omega arith
ends-rise n (g ∷ gs) zero (suc j) d le below = ends-low (n + length g.leasts.items) gs j d (omega (arith, below))
ends-rise n (g ∷ gs) (suc i) zero d le below = absurd (omega (arith, le))
ends-rise n (g ∷ gs) (suc i) (suc j) d le below =
    ends-rise (n + length g.leasts.items) gs i j d (omega (arith, le)) (omega (arith, below))

-- a place behind the ends of the groups before one is behind their rows
pub start-low : (n : ℕ) (gs : List RowGroup) (k place : ℕ) → n ≤ place
    → ((i : ℕ) → i < k → get_or (ends_after n gs) i 0 ≤ place) → k ≤ length gs
    → n + length (rows_in (take k gs)) ≤ place
start-low n [] zero place low h most = omega (arith, low)
start-low n [] (suc k) place low h most = absurd (omega (arith, most))
start-low n (g ∷ gs) zero place low h most = omega (arith, low)
start-low n (g ∷ gs) (suc k) place low h most =
    let rest = start-low (n + length g.leasts.items) gs k place (h zero (omega arith))
    (λ i less. h (suc i) (omega (arith, less))) (omega (arith, most)) in
    let first = rows-first g (take k gs) in
    omega (arith, rest, first)

-- the row at a place
pub row-at : (gs : List RowGroup) (place k j : ℕ) (d : RowGroup) (z : ℤ) (e : Row) → IsPlaceOf gs place (Some (k, j))
    → (place < length (rows_in gs))
    × (get_or (rows_in gs) place e ≡ row_of (get_or gs k d).coefs (get_or (get_or gs k d).leasts.items j z))
row-at gs place k j d z e is =
    let group = get_or gs k d in
    let at = is.1 d in
    let own = length-map group.leasts.items (row_of group.coefs) in
    let all = length-flat_map-take group_rows gs k d is.0 in (
      omega (arith, at.0, at.1, own, all),
      (λ p. get_or (rows_in gs) (at.1 p) e) ∙ get_or-flat_map group_rows gs k j d e is.0 (omega (arith, at.0, own))
          ∙ get_or-map (row_of group.coefs) group.leasts.items j z e at.0,
    )

pub slice-at : (gs : List RowGroup) (place k j : ℕ) (g : RowGroup) (z : ℤ) → IsPlaceOf gs place (Some (k, j))
    → g ≡ get_or gs k g → z ≡ get_or g.leasts.items j z → Some (row_of g.coefs z) ≡ slice_get (rows_in gs) place
slice-at gs place k j g z is here there =
    let row = row_of g.coefs z in
    let at = row-at gs place k j g z row is in
    sym (slice_get-get_or (rows_in gs) place row at.0 ∙ ap Some (at.1
    ∙ (λ p. row_of (sym here p).coefs (get_or (sym here p).leasts.items j z)) ∙ ap (row_of g.coefs) (sym there)))

-- a place among the rows is that of a row of the first group that ends behind it
pub place-of : (gs : List RowGroup) (place k : ℕ) → EndBefore gs place k → place < length (rows_in gs)
    → IsPlaceOf gs place (Some (k, place - length (rows_in (take k gs))))
place-of gs place k at inside = (
  below,
  λ g. let end = at.end g below in
      (omega (arith, end, at.start), omega (arith, at.start)),
)
  where
    below : k < length gs
    below = ⊎_elim (λ lt. lt)
        (λ le. absurd (omega (arith, inside, at.start, ap (λ xs. length (rows_in xs)) (take_all k gs le))))
        (cases_lt k (length gs))

-- one group more
pub ends-more : (n : ℕ) (gs : List RowGroup) (g : RowGroup) → ends_after n (gs ++ g ∷ [])
    ≡ ends_after n gs ++ (n + length (rows_in gs) + length g.leasts.items) ∷ []
ends-more n [] g = let same : n + length g.leasts.items ≡ n + length (rows_in []) + length g.leasts.items =
    omega arith in
    ap (λ end. end ∷ []) same
ends-more n (h ∷ hs) g =
    let first = rows-first h hs in
    let same : n + length h.leasts.items + length (rows_in hs) + length g.leasts.items
    ≡ n + length (rows_in (h ∷ hs)) + length g.leasts.items = omega (arith, first) in
    ap (λ ends. (n + length h.leasts.items) ∷ ends)
    (ends-more (n + length h.leasts.items) hs g ∙ ap (λ end. ends_after (n + length h.leasts.items) hs ++ end ∷ [])
    same)

pub end-of : (ends : List ℕ) (groups : List RowGroup) (k : ℕ) (d : RowGroup) → ends ≡ ends_after 0 groups
    → k < length groups
    → get_or ends k 0 ≡ length (rows_in (take k groups)) + length (get_or groups k d).leasts.items
end-of ends groups k d same below = ap (λ xs. get_or xs k 0) same ∙ end-at 0 groups k d below
    ∙ ap (λ n. n + length (get_or groups k d).leasts.items) (start (length (rows_in (take k groups))))
  where
    start : (n : ℕ) → 0 + n ≡ n
    start n = omega arith

pub count-of : (ends : List ℕ) (groups : List RowGroup) (d : ℕ) → ends ≡ ends_after 0 groups → 0 < length ends
    → get_or ends (length ends - 1) d ≡ length (rows_in groups)
count-of ends groups d same some =
    let long = ap length same ∙ length-ends 0 groups in
    let last : length ends - 1 + 1 ≡ length groups = omega (arith, some, long) in
    let inside : length ends - 1 < length ends = omega (arith, some) in
    let end = last-end 0 groups (length ends - 1) last in
    let first = ap (λ xs. get_or xs (length ends - 1) 0) same in
    let any = get_or_default ends (length ends - 1) d 0 inside in
    omega (arith, any, first, end)

pub no-rows : (groups : List RowGroup) → length groups ≤ 0 → 0 ≡ length (rows_in groups)
no-rows [] none = refl
no-rows (g ∷ gs) none = absurd (omega (arith, none))
