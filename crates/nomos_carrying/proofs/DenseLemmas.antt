-- Numbers that ascend, made dense, and what stays of objects and contracts whose numbers are.
use Rattle.std.proofs.Common.{◌≡◌, ◌≢◌, ◌∙◌, ◌+◌, ◌<◌, ◌≤◌, ◌++◌, Bool, cond, find, slice_get, take, ℕ, zero, suc, List, [], ◌∷◌, map, length, get_or, All, AllPairs, Option, Some, None, sum_by, true, false, ltb, refl, ap, sym, subst, arith}
use Rattle.std.specs.List.{filter}
use Rattle.std.specs.List.Sorted.{IsPartitionPoint, IsStrictlySortedBy}
use Rattle.std.specs.Option.{option_map}
use Rattle.std.specs.Ordering.{nat_cmp}
use Rattle.std.proofs.lemmas.Bool.{le-ltb, lt-ltb}
use Rattle.std.specs.Str.{bytes_eq}
use Rattle.std.proofs.lemmas.List.{get_or-map, get_or-take, get_or_default, length-map, length-take, map_more}
use Rattle.std.proofs.lemmas.Option.{get_or_from_slice_get, slice_get_within}
use Rattle.std.proofs.lemmas.Slice.Eq.{bytes_eq-Decides}
use Rattle.std.proofs.lemmas.List.Elements.{All-head, All-map, All-tail, All-weaker}
use Rattle.std.proofs.lemmas.List.Sums.{sum_by-cons}
use Rattle.std.proofs.lemmas.Map.Keys.{below_from_sorted, non_decreasing_from_sorted, sorted_from_strictly_increasing}
use Rattle.nomos_ir.specs.Bindings.{bound_to, each_bound}
use Rattle.nomos_ir.specs.declared.ids.TypeId.{TypeId}
use Rattle.nomos_ir.proofs.MappedLaws.{each-ascending, each-bound}
use Rattle.nomos_legal.specs.Ledger.{AreNamed, Contracts, LedgerState, shared_name}
use Rattle.nomos_machine.specs.Objects.{object_number, purse_of}
use Rattle.nomos_machine.specs.State.{NameTypes}
use Rattle.nomos_machine.specs.TypedState.{HasVariables}
use Rattle.nomos_machine.specs.declared.object.Object.{Object}
use Rattle.nomos_machine.specs.declared.object.Object.TheVariants as object
use Rattle.nomos_machine.specs.declared.object.Process.{Process}
use Rattle.nomos_script.specs.ScriptNames.{IsScriptName}
use Rattle.nomos_snapshot.specs.ToldLines.{AreSorted, parts_ledger}
use Rattle.nomos_snapshot.specs.declared.ledger_parts.LedgerParts.{LedgerParts}
use Rattle.nomos_types.specs.Judgement.{count_one}
use Rattle.nomos_carrying.specs.Renumbered.{IsRenumbered, MakesDense, ledger_by, object_by}
use Rattle.nomos_carrying.specs.mirror.Dense.{AreNumbersOf, NumberLists, place_in}

-- ---- places

-- so many are smaller as stand before the first that is not
point-counts : (n : ℕ) (xs : List ℕ) (i : ℕ) → i ≤ length xs
    → IsPartitionPoint (λ y. ltb y n ≡ true) (λ y. ltb y n ≡ false) xs i → length (filter (λ y. ltb y n) xs) ≡ i
point-counts n [] i short point = omega (arith, short)
point-counts n (x ∷ xs) zero short point =
    let first : ltb x n ≡ false = point.1 zero x (omega arith) (omega arith) in
    let rest = point-counts n xs zero (omega arith) (
      λ k d low high. absurd (omega (arith, high)),
      λ k d low high. point.1 (suc k) d (omega arith) (omega (arith, high)),
    ) in
    rw first rest
point-counts n (x ∷ xs) (suc i) short point =
    let first : ltb x n ≡ true = point.0 zero x (omega arith) (omega arith) in
    let rest = point-counts n xs i (omega (arith, short)) (
      λ k d low high. point.0 (suc k) d (omega arith) (omega (arith, high)),
      λ k d low high. point.1 (suc k) d (omega (arith, low)) (omega (arith, high)),
    ) in
    rw first (omega (arith, rest))

pub point-place : (n : ℕ) (xs : List ℕ) (i : ℕ) → i ≤ length xs
    → IsPartitionPoint (λ y. ltb y n ≡ true) (λ y. ltb y n ≡ false) xs i → place_in xs n ≡ i + 1
point-place n xs i short point = omega (arith, point-counts n xs i short point)

-- each number that ascends stands at its own place
place-own : (xs : List ℕ) → IsStrictlySortedBy nat_cmp xs → (k : ℕ) → k < length xs
    → place_in xs (get_or xs k 0) ≡ k + 1
place-own xs sorted k within =
    point-place (get_or xs k 0) xs k (omega (arith, within)) (
      λ j d low high. lt-ltb (get_or xs j d) (get_or xs k 0)
          (omega (arith, get_or_default xs k d 0 within, below_from_sorted xs j k d sorted high within)),
      λ j d low high. le-ltb (get_or xs j d) (get_or xs k 0)
          (omega (arith, get_or_default xs k d 0 within, non_decreasing_from_sorted xs sorted k j d low high)),
    )

pub places-dense : (xs : List ℕ) → IsStrictlySortedBy nat_cmp xs → MakesDense (place_in xs) xs
places-dense xs sorted = record { each = place-own xs sorted }

-- what is dense ascends
pub dense-ascends : (f : ℕ → ℕ) (xs : List ℕ) → MakesDense f xs → IsStrictlySortedBy nat_cmp (map f xs)
dense-ascends f xs dense =
    sorted_from_strictly_increasing (map f xs)
    (λ k within.
    let long = length-map xs f in
    omega (
      arith,
      get_or-map f xs k 0 0 (omega arith),
      get_or-map f xs (k + 1) 0 0 (omega arith),
      dense.each k (omega arith),
      dense.each (k + 1) (omega arith),
    ))

-- ---- objects and names

module _ (objects names : ℕ → ℕ) where
  number-by : (o : Object) → object_number (object_by objects names o) ≡ objects (object_number o)
  number-by (object.Process p) = refl
  number-by (object.Message m) = refl

  pub numbers-by : (os : List Object)
      → map object_number (map (object_by objects names) os) ≡ map objects (map object_number os)
  numbers-by [] = refl
  numbers-by (o ∷ os) = rw (number-by o, numbers-by os)

  purse-by : (o : Object) → purse_of (object_by objects names o) ≡ purse_of o
  purse-by (object.Process p) = refl
  purse-by (object.Message m) = refl

  pub purses-by : (os : List Object) → sum_by purse_of (map (object_by objects names) os) ≡ sum_by purse_of os
  purses-by [] = refl
  purses-by (o ∷ os) =
      omega (
        arith,
        sum_by-cons purse_of (object_by objects names o) (map (object_by objects names) os),
        sum_by-cons purse_of o os,
        purse-by o,
        purses-by os,
      )

  count-by : (v : ℕ) (p : Process)
      → count_one (bound_to v (each_bound names p.channels)) ≡ count_one (bound_to v p.channels)
  count-by v p = ap count_one (each-bound names v p.channels) ∙ same (bound_to v p.channels)
    where
      same : (o : Option ℕ) → count_one (option_map names o) ≡ count_one o
      same (Some n) = refl
      same None = refl

  variables-by : (o : Object) → HasVariables o → HasVariables (object_by objects names o)
  variables-by (object.Process p) differ = record {
    values = differ.values;
    lists = differ.lists;
    channels = each-ascending names p.channels differ.channels;
    apart = λ v. omega (arith, count-by v p, differ.apart v);
  }
  variables-by (object.Message m) differ = tt

  pub all-variables : (os : List Object) → All HasVariables os → All HasVariables (map (object_by objects names) os)
  all-variables os differ =
      All-map HasVariables (object_by objects names) os
      (All-weaker HasVariables (λ (o : Object). HasVariables (object_by objects names o)) variables-by os differ)

module _ (names : ℕ → ℕ) where
  pub names-by : (types : NameTypes) → map (λ (t : ℕ × TypeId). t.0) (map (λ (t : ℕ × TypeId). (names t.0, t.1)) types)
      ≡ map names (map (λ (t : ℕ × TypeId). t.0) types)
  names-by [] = refl
  names-by (t ∷ types) = ap (λ (ns : List ℕ). names t.0 ∷ ns) (names-by types)

  -- a contract with another number in place of its own
  abbrev contract-by : List ℕ × ℕ → List ℕ × ℕ
  contract-by c = (c.0, names c.1)

  -- contracts keep their names
  pub contracts-differ : (cs : Contracts) → AllPairs (λ (c d : List ℕ × ℕ). c.0 ≢ d.0) cs
      → AllPairs (λ (c d : List ℕ × ℕ). c.0 ≢ d.0) (map (λ (c : List ℕ × ℕ). (c.0, names c.1)) cs)
  contracts-differ cs differ i j d low high =
      let long = length-map cs contract-by in
      let within : j < length cs = omega arith in
      let first = ap (λ (c : List ℕ × ℕ). c.0) (get_or-map contract-by cs i d d (omega arith)) in
      let second = ap (λ (c : List ℕ × ℕ). c.0) (get_or-map contract-by cs j d d within) in
      λ same. differ i j d low within (sym first ∙ same ∙ second)

  -- ---- contracts, one after another

  -- where no contract has the name, none is found
  shared-none : (cs : Contracts) (name : List ℕ) → All (λ (c : List ℕ × ℕ). c.0 ≢ name) cs → shared_name cs name ≡ None
  shared-none [] name other = refl
  shared-none (c ∷ cs) name other =
      let first : c.0 ≢ name = All-head (λ (d : List ℕ × ℕ). d.0 ≢ name) c cs other in
      by (bytes_eq c.0 name) (λ same. first ((bytes_eq-Decides c.0 name).0 same))
      (shared-none cs name (All-tail (λ (d : List ℕ × ℕ). d.0 ≢ name) c cs other))
    where
      by : (t : Bool) → (t ≢ true) → shared_name cs name ≡ None
          → option_map (λ (d : List ℕ × ℕ). d.1) (cond t (Some c) (find (λ (d : List ℕ × ℕ). bytes_eq d.0 name) cs))
          ≡ None
      by true never rest = absurd (never refl)
      by false never rest = rest

  -- the next one has a name of its own
  pub contract-new : (cs : Contracts) (k : ℕ) (pair : List ℕ × ℕ) → AllPairs (λ (c d : List ℕ × ℕ). c.0 ≢ d.0) cs
      → Some pair ≡ slice_get cs k → shared_name (map contract-by (take k cs)) pair.0 ≡ None
  contract-new cs k pair differ found =
      let within = slice_get_within cs k pair (sym found) in
      let there = get_or_from_slice_get cs k pair pair (sym found) in
      shared-none (map contract-by (take k cs)) pair.0
      (All-map (λ (c : List ℕ × ℕ). c.0 ≢ pair.0) contract-by (take k cs)
      (λ j d below.
      let short : j < k = omega (arith, below, length-take k cs) in
      let own = ap (λ (c : List ℕ × ℕ). c.0) (get_or-take k cs j d short) in
      let last = ap (λ (c : List ℕ × ℕ). c.0) (get_or_default cs k d pair within ∙ there) in
      λ same. differ j k d short within (sym own ∙ same ∙ sym last)))

  pub contract-more : (cs : Contracts) (k : ℕ) (pair : List ℕ × ℕ) → Some pair ≡ slice_get cs k
      → map contract-by (take (k + 1) cs) ≡ map contract-by (take k cs) ++ contract-by pair ∷ []
  contract-more cs k pair found =
      map_more contract-by cs k pair (slice_get_within cs k pair (sym found))
      ∙ ap (λ (c : List ℕ × ℕ). map contract-by (take k cs) ++ contract-by c ∷ [])
      (get_or_from_slice_get cs k pair pair (sym found))

-- it has a name that a script may have
pub contract-named : (cs : Contracts) (k : ℕ) (pair : List ℕ × ℕ) → All (λ (c : List ℕ × ℕ). IsScriptName c.0) cs
    → Some pair ≡ slice_get cs k → IsScriptName pair.0
contract-named cs k pair names found =
    subst (λ (c : List ℕ × ℕ). IsScriptName c.0) (get_or_from_slice_get cs k pair pair (sym found))
    (names k pair (slice_get_within cs k pair (sym found)))

-- ---- parts

-- parts that are made so are those of the renumbered ledger
pub parts-renumbered : (parts made : LedgerParts) (n : NumberLists) → AreSorted parts.contents
    → AreNumbersOf parts.contents n
    → parts_ledger made ≡ ledger_by (place_in n.objects) (place_in n.names) (parts_ledger parts)
    → IsRenumbered (parts_ledger parts) (parts_ledger made)
parts-renumbered parts made n sorted are is =
    let objects : IsStrictlySortedBy nat_cmp n.objects =
    subst (IsStrictlySortedBy nat_cmp) (sym are.objects_are) sorted.objects in
    let names : IsStrictlySortedBy nat_cmp n.names =
    subst (IsStrictlySortedBy nat_cmp) (sym are.names_are) sorted.table in
    record {
      objects = place_in n.objects;
      names = place_in n.names;
      objects_dense = subst (MakesDense (place_in n.objects)) are.objects_are (places-dense n.objects objects);
      names_dense = subst (MakesDense (place_in n.names)) are.names_are (places-dense n.names names);
      is = is;
    }

-- they stand in order, as the others did
pub parts-sorted : (parts made : LedgerParts) → AreSorted parts.contents
    → IsRenumbered (parts_ledger parts) (parts_ledger made) → AreSorted made.contents
parts-sorted parts made sorted r =
    let before = parts.contents in
    let objects = ap (λ (l : LedgerState). l.state.objects) r.is in
    let numbers = ap (map object_number) objects ∙ numbers-by r.objects r.names before.objects in
    let names = ap (λ (l : LedgerState). map (λ (t : ℕ × TypeId). t.0) l.state.types) r.is
    ∙ names-by r.names before.types in
    let balances = ap (λ (l : LedgerState). length l.state.balances) r.is in
    record {
      objects =
          subst (IsStrictlySortedBy nat_cmp) (sym numbers)
          (dense-ascends r.objects (map object_number before.objects) r.objects_dense);
      table =
          subst (IsStrictlySortedBy nat_cmp) (sym names)
          (dense-ascends r.names (map (λ (t : ℕ × TypeId). t.0) before.types) r.names_dense);
      variables =
          subst (All HasVariables) (sym objects) (all-variables r.objects r.names before.objects sorted.variables);
      few = omega (arith, balances, sorted.few);
    }

-- and no two accounts or contracts have one name
pub parts-named : (parts made : LedgerParts) → AreNamed parts.accounts parts.contracts parts.contents.balances
    → IsRenumbered (parts_ledger parts) (parts_ledger made)
    → AreNamed made.accounts made.contracts made.contents.balances
parts-named parts made named r =
    let accounts : made.accounts ≡ parts.accounts = ap (λ (l : LedgerState). l.accounts) r.is in
    let contracts = ap (λ (l : LedgerState). l.contracts) r.is in
    let balances : made.contents.balances ≡ parts.contents.balances = ap (λ (l : LedgerState). l.state.balances) r.is in
    record {
      few = rw accounts named.few;
      each_account = rw (accounts, balances) named.each_account;
      accounts_differ = rw accounts named.accounts_differ;
      contracts_differ =
          subst (AllPairs (λ (c d : List ℕ × ℕ). c.0 ≢ d.0)) (sym contracts)
          (contracts-differ r.names parts.contracts named.contracts_differ);
    }
