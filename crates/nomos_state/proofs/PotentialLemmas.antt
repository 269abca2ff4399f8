-- The potential of a process's lists, taken list by list, and what becomes of it where a list comes or goes.
use Rattle.std.proofs.Common.{◌≡◌, ◌+◌, ◌*◌, ◌<◌, ◌≤◌, ◌^◌, ℕ, Bool, true, false, List, [], ◌∷◌, length, drop, get_or, Option, Some, None, IfSome, sum_by, refl, sym, ap, subst, ◌∙◌, arith, nat_le}
use Rattle.std.proofs.lemmas.Bool.{le-leb, leb-false, leb-true, lt-leb}
use Rattle.std.proofs.lemmas.List.Sums.{sum_by-cons, sum_by-insert, sum_by-remove, sum_by-set}
use Rattle.std.proofs.lemmas.Option.{get_or_from_slice_get, slice_get_within}
use Rattle.std.specs.List.{insert, remove, slice_get, slice_set}
use Rattle.std.specs.Option.{is_some}
use Rattle.nomos_ir.specs.Bindings.{IsAscending, bind, unbind}
use Rattle.nomos_ir.specs.declared.ids.VarId.{VarId}
use Rattle.nomos_ir.proofs.BindingLaws.{bind-ascending, unbind-ascending}
use Rattle.nomos_machine.specs.declared.object.PotentialList.{PotentialList}
use Rattle.nomos_state.specs.Objects.{AscendsIf, FitsLists, IsPotentialIf, ListRow, potential_in}
use Rattle.nomos_state.proofs.LeftLemmas.{left-read, read-there}

-- what a list carries
abbrev carries : VarId × PotentialList → ℕ
carries e = e.1.amount * length e.1.items

pub potential-sum : (lists : List (VarId × PotentialList))
    → potential_in lists ≡ sum_by (λ e. e.1.amount * length e.1.items) lists
potential-sum [] = refl
potential-sum (e ∷ lists) =
    ap (λ (n : ℕ). e.1.amount * length e.1.items + n) (potential-sum lists)
    ∙ sym (sum_by-cons (λ (e : VarId × PotentialList). e.1.amount * length e.1.items) e lists)

-- what is left of a purse beside the gas is enough for the lists exactly where the purse is for both
pub both-told : (gas left other potential purse : ℕ) → other ≡ potential → left + gas ≡ purse
    → nat_le other left ≡ nat_le (gas + potential) purse
both-told gas left other potential purse same all = at (nat_le other left) refl
  where
    at : (b : Bool) → nat_le other left ≡ b → nat_le other left ≡ nat_le (gas + potential) purse
    at true is =
        let fits : other ≤ left = leb-true other left is in
        is ∙ sym (le-leb (gas + potential) purse (omega (arith, fits, same, all)))
    at false is =
        let less : left < other = leb-false other left is in
        is ∙ sym (lt-leb (gas + potential) purse (omega (arith, less, same, all)))

module _ {X : Type 0} (f : X → ℕ) (row : List X) (at : ℕ) (d : X) (read : slice_get row at ≡ Some d) where
  inside : at < length row
  inside = slice_get_within row at d read

  own : f (get_or row at d) ≡ f d
  own = ap f (get_or_from_slice_get row at d d read)

  -- a thing goes, and another one comes in the place of a thing
  sum-removed : sum_by f (remove row at) + f d ≡ sum_by f row
  sum-removed = omega (arith, sum_by-remove f row at d inside, own)

  sum-replaced : (e : X) → sum_by f (slice_set row at e) + f d ≡ sum_by f row + f e
  sum-replaced e = omega (arith, sum_by-set f row at e d inside, own)

-- ---- what is known of a row

-- where its potential is known, it ascends
pub ascends-known : (o : Option ℕ) (row : ListRow) → IsPotentialIf o row → AscendsIf (is_some o) row
ascends-known None row known is = absurd cc
ascends-known (Some n) row known is = known.0

-- the potential of a row that ascends is known, where it fits
pub known-is : (r : Option ℕ) (row : ListRow) → IsAscending row → IfSome r (λ n. potential_in row ≡ n)
    → IsPotentialIf r row
known-is None row order none = tt
known-is (Some n) row order is = (order, is)

-- where none of a row is gone, it fits if its potential is known
pub none-gone : (gone : ℕ) (o : Option ℕ) (row : ListRow) → gone ≡ 0 → IsPotentialIf o row → FitsLists gone o row
none-gone gone o row none known =
    let start : 0 ≤ length row = omega arith in
    subst (λ (n : ℕ). FitsLists n o row) (sym none) (start, known)

-- sums that differ by what goes, by what comes, and by both
less-is : (after all gone n : ℕ) → after + gone ≡ all → all ≡ n + gone → after ≡ n
less-is after all gone n sum total = omega (arith, sum, total)

more-is : (after all come m n : ℕ) → after ≡ all + come → all ≡ m → n ≡ m + come → after ≡ n
more-is after all come m n sum total also = omega (arith, sum, total, also)

other-is : (after all gone come m n : ℕ) → after + gone ≡ all + come → all ≡ m → n + gone ≡ m + come → after ≡ n
other-is after all gone come m n sum total also = omega (arith, sum, total, also)

-- a list goes
pub potential-less : (o r : Option ℕ) (row : ListRow) (w at : ℕ) (d : VarId × PotentialList)
    → slice_get row at ≡ Some d → unbind w row ≡ remove row at → IsPotentialIf o row
    → IfSome r (λ n. o ≡ Some (n + d.1.amount * length d.1.items)) → IsPotentialIf r (unbind w row)
potential-less o None row w at d read same before less = tt
potential-less o (Some n) row w at d read same before less =
    let was : IsPotentialIf (Some (n + carries d)) row = subst (λ (x : Option ℕ). IsPotentialIf x row) less before in
    let total : sum_by carries row ≡ n + carries d = sym (potential-sum row) ∙ was.1 in
    let left : sum_by carries (remove row at) ≡ n =
    less-is (sum_by carries (remove row at)) (sum_by carries row) (carries d) n (sum-removed carries row at d read)
    total in
    (unbind-ascending w row was.0, potential-sum (unbind w row) ∙ ap (sum_by carries) same ∙ left)

-- what is known with one list more
abbrev pub IsWith : Option ℕ → Option ℕ → PotentialList → Type 0
IsWith o r l = IfSome r (λ n. (m : ℕ) × (o ≡ Some m) × (n ≡ m + l.amount * length l.items))

-- a list comes
pub potential-more : (o r : Option ℕ) (row : ListRow) (v : VarId) (l : PotentialList) (at : ℕ)
    → insert row at (v, l) ≡ bind v l row → IsPotentialIf o row → IsWith o r l → IsPotentialIf r (bind v l row)
potential-more o None row v l at same before more = tt
potential-more o (Some n) row v l at same before (m, is, also) =
    let was : IsPotentialIf (Some m) row = subst (λ (x : Option ℕ). IsPotentialIf x row) is before in
    let pair : VarId × PotentialList = (v, l) in
    let total : sum_by carries row ≡ m = sym (potential-sum row) ∙ was.1 in
    let all : sum_by carries (insert row at pair) ≡ n =
    more-is (sum_by carries (insert row at pair)) (sum_by carries row) (carries pair) m n
    (sum_by-insert carries row at pair) total also in
    (bind-ascending v l row was.0, potential-sum (bind v l row) ∙ ap (sum_by carries) (sym same) ∙ all)

-- a list comes in the place of one
pub potential-other : (o w r : Option ℕ) (row : ListRow) (v : VarId) (l : PotentialList) (at : ℕ)
    (d : VarId × PotentialList) → slice_get row at ≡ Some d → slice_set row at (v, l) ≡ bind v l row
    → IsPotentialIf o row → IsWith o w l → IfSome r (λ n. w ≡ Some (n + d.1.amount * length d.1.items))
    → IsPotentialIf r (bind v l row)
potential-other o w None row v l at d read same before more less = tt
potential-other o w (Some n) row v l at d read same before more less =
    let (m, is, also) = subst (λ (x : Option ℕ). IsWith o x l) less more in
    let was : IsPotentialIf (Some m) row = subst (λ (x : Option ℕ). IsPotentialIf x row) is before in
    let pair : VarId × PotentialList = (v, l) in
    let total : sum_by carries row ≡ m = sym (potential-sum row) ∙ was.1 in
    let all : sum_by carries (slice_set row at pair) ≡ n =
    other-is (sum_by carries (slice_set row at pair)) (sum_by carries row) (carries d) (carries pair) m n
    (sum-replaced carries row at d read pair) total also in
    (bind-ascending v l row was.0, potential-sum (bind v l row) ∙ ap (sum_by carries) (sym same) ∙ all)

-- ---- what is left of a row

-- a list of what is left goes
pub used-fits : (gone next : ℕ) (o r : Option ℕ) (row after : ListRow) (w at : ℕ) → FitsLists gone o row
    → next ≤ length after → at < length (drop gone row) → unbind w (drop gone row) ≡ remove (drop gone row) at
    → drop next after ≡ remove (drop gone row) at
    → ((e : VarId × PotentialList) → slice_get row (gone + at) ≡ Some e
    → IfSome r (λ n. o ≡ Some (n + e.1.amount * length e.1.items)))
    → FitsLists next r after
used-fits gone next o r row after w at fits within inside same is less =
    let left : ListRow = drop gone row in
    let (d, read) = read-there left at inside in
    let there : slice_get row (gone + at) ≡ Some d = sym (left-read gone row at) ∙ read in
    let known : IsPotentialIf r (unbind w left) = potential-less o r left w at d read same fits.1 (less d there) in
    (within, subst (λ (ls : ListRow). IsPotentialIf r ls) (same ∙ sym is) known)

-- a list comes to what is left
pub bound-fits : (gone : ℕ) (r : Option ℕ) (after now : ListRow) → gone ≤ length after → drop gone after ≡ now
    → IsPotentialIf r now → FitsLists gone r after
bound-fits gone r after now within is known =
    (within, subst (λ (ls : ListRow). IsPotentialIf r ls) (sym is) known)
