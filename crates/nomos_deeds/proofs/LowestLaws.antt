-- What is found first in a list that is in order is the lowest of all that are sought.
use Rattle.std.proofs.Common.{◌≡◌, ◌∙◌, ◌≤◌, ◌<◌, ℕ, Bool, true, false, cond, List, [], ◌∷◌, map, find, Contains, Option, Some, None, Less, refl, sym, ap, subst, arith, inl, inr}
use Rattle.std.proofs.lemmas.Cmp.{ranked}
use Rattle.std.proofs.lemmas.List.Elements.{Contains-append_cases, Contains-append_right}
use Rattle.std.proofs.lemmas.Map.Keys.{sorted_head, sorted_tail}
use Rattle.std.specs.List.{AllByRecursion}
use Rattle.std.specs.List.Sorted.{IsStrictlySortedBy}
use Rattle.std.specs.Option.{MatchOption, option_map}
use Rattle.std.specs.Ordering.{nat_cmp}
use Rattle.nomos_types.specs.Acceptance.{Acceptance}
use Rattle.nomos_machine.specs.Run.{IsNextReady, NoneReady}
use Rattle.nomos_machine.specs.State.{State}
use Rattle.nomos_machine.specs.Step.{IsReady}
use Rattle.nomos_machine.proofs.PutLaws.{contains-one}
use Rattle.nomos_deeds.specs.Lowest.{FindsNext}

module _ {X : Type 0} (key : X → ℕ) where
  -- a number below each key is below that of each element
  pub over-each : (n : ℕ) (xs : List X) (y : X) → AllByRecursion (λ k. nat_cmp n k ≡ Less) (map key xs) → Contains xs y
      → n < key y
  over-each n [] y over there = absurd (omega (arith, there.1))
  over-each n (e ∷ xs) y over there =
      elim (Contains-append_cases (e ∷ []) xs y there) [
        | inl first ↦
            let same : key e ≡ key y = ap key (contains-one e y first) in
            let lower : n < key e = ranked n (key e) Less (sym over.0) in
            omega arith
        | inr further ↦ over-each n xs y over.1 further
      ]

module _ {X : Type 0} (key : X → ℕ) (passes : X → Bool) where
  -- an element that passes, with the lowest key of those that pass
  pub record IsFirst (xs : List X) (x : X) : Type 0 where
    pub there : Contains xs x
    pub passed : passes x ≡ true
    pub lowest : (y : X) → Contains xs y → passes y ≡ true → key x ≤ key y

  opposite : {b : Bool} → b ≡ true → b ≡ false → ⊥
  opposite one other = cc

  -- what is found first has the lowest key
  pub first-found : (xs : List X) (x : X) → IsStrictlySortedBy nat_cmp (map key xs) → find passes xs ≡ Some x
      → IsFirst xs x
  first-found [] x order found = absurd cc
  first-found (e ∷ xs) x order found = at (first-found xs x later) (passes e) refl found
    where
      later : IsStrictlySortedBy nat_cmp (map key xs)
      later = sorted_tail nat_cmp (key e) (map key xs) order

      here : passes e ≡ true → IsFirst (e ∷ xs) e
      here passing = record {
        there = (0, omega arith, refl);
        passed = passing;
        lowest = λ y inside passed.
            elim (Contains-append_cases (e ∷ []) xs y inside) [
              | inl first ↦ let same : key e ≡ key y = ap key (contains-one e y first) in omega arith
              | inr further ↦
                  let over = over-each key (key e) xs y (sorted_head nat_cmp (key e) (map key xs) order) further in
                  omega (arith, over)
            ];
      }

      behind : passes e ≡ false → IsFirst xs x → IsFirst (e ∷ xs) x
      behind failing rest = record {
        there = Contains-append_right (e ∷ []) xs x rest.there;
        passed = rest.passed;
        lowest = λ y inside passed.
            elim (Contains-append_cases (e ∷ []) xs y inside) [
              | inl first ↦ absurd (opposite (ap passes (contains-one e y first) ∙ passed) failing)
              | inr further ↦ rest.lowest y further passed
            ];
      }

      at : (find passes xs ≡ Some x → IsFirst xs x) → (b : Bool) → passes e ≡ b
          → cond b (Some e) (find passes xs) ≡ Some x → IsFirst (e ∷ xs) x
      at rest true is found = let same : e ≡ x = cc in subst (IsFirst (e ∷ xs)) same (here is)
      at rest false is found = behind is (rest found)

  -- where nothing is found, nothing passes
  pub none-passes : (xs : List X) → find passes xs ≡ None → (y : X) → Contains xs y → passes y ≡ true → ⊥
  none-passes [] none y inside passed = absurd (omega (arith, inside.1))
  none-passes (e ∷ xs) none y inside passed =
      at (λ rest further. none-passes xs rest y further passed) (passes e) refl none
    where
      at : (find passes xs ≡ None → Contains xs y → ⊥) → (b : Bool) → passes e ≡ b
          → cond b (Some e) (find passes xs) ≡ None → ⊥
      at rest true is none = cc
      at rest false is none =
          elim (Contains-append_cases (e ∷ []) xs y inside) [
            | inl first ↦ opposite (ap passes (contains-one e y first) ∙ passed) is
            | inr further ↦ rest none further
          ]

  -- Where what passes are the elements with a key over a number of which something holds, and the list has an element
  -- for each such key, the one that is found first has the lowest such key.
  pub finds-next : (P : ℕ → Type 0) (after : ℕ) (xs : List X) → IsStrictlySortedBy nat_cmp (map key xs)
      → ((x : X) → Contains xs x → passes x ≡ true → (after < key x) × P (key x))
      → ((q : ℕ) → after < q → P q → (x : X) × Contains xs x × (key x ≡ q) × (passes x ≡ true))
      → FindsNext P after (option_map key (find passes xs))
  finds-next P after xs order told each = at (find passes xs) refl
    where
      at : (found : Option X) → find passes xs ≡ found → FindsNext P after (option_map key found)
      at (Some x) is =
          let first = first-found xs x order is in
          let (over, holds) = told x first.there first.passed in
          record {
            over = over;
            holds = holds;
            lowest = λ q higher below has.
                let (y, inside, same, passed) = each q higher has in
                absurd (omega (arith, first.lowest y inside passed, same, below));
          }
      at None is = λ q higher has.
          let (y, inside, same, passed) = each q higher has in
          none-passes xs is y inside passed

-- the next ready process is the lowest one that is ready
pub next-ready : (a : Acceptance) (s : State) (after : ℕ) (answer : Option ℕ) → FindsNext (IsReady a s) after answer
    → MatchOption answer (NoneReady a s after) (IsNextReady a s after)
next-ready a s after (Some pid) next = record { over = next.over; ready = next.holds; lowest = next.lowest }
next-ready a s after None next = next
