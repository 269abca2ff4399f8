-- The channels of a process are counted, variable by variable.
use Rattle.std.proofs.Common.{◌≡◌, ◌<◌, ◌≤◌, ℕ, ◌+◌, ◌-◌, List, [], IsSome, Option, Some, None, refl, ap, arith}
use Rattle.std.specs.Option.{option_to_list}
use Rattle.nomos_ir.specs.Bindings.{IsAscending, bound_to}
use Rattle.nomos_ir.specs.Order.{count_of}
use Rattle.nomos_machine.specs.declared.object.Process.{Process}
use Rattle.nomos_state.specs.Moving.{Moves}
use Rattle.nomos_state.specs.Tallying.{channels_used, nothing, only}
use Rattle.nomos_state.specs.declared.tallies.Tallies.{Tallies}
use Rattle.nomos_state.specs.declared.tally.NameUse.{NameUse}
use Rattle.nomos_state.specs.declared.tally.NameUse.TheVariants as doing
use Rattle.nomos_state.proofs.MoveLaws.{moves-both, moves-still}
use Rattle.nomos_state.proofs.TalliedSpanLemmas.{names-all, names-skip, names-step, names_from}

-- there is nothing, where what there is would be nothing
pub none-by : (o : Option ℕ) → (IsSome o → o ≡ None) → o ≡ None
none-by None none = refl
none-by (Some name) none = none refl

-- what is done by so many variables from the lowest on
abbrev pub so_far : ℕ → ℕ → Process → NameUse → List ℕ
so_far low k p d = only doing.Uses (names_from low p.channels k) d

module _ (low : ℕ) (p : Process) where
  -- by no variable nothing is done
  pub none-far : (d : NameUse) (n : ℕ) → count_of n (so_far low 0 p d) ≡ 0
  none-far doing.Provides n = refl
  none-far doing.Uses n = refl
  none-far doing.Bases n = refl

  -- one variable more
  so_far-step : (v : ℕ) (name : Option ℕ) → low ≤ v → name ≡ bound_to v p.channels → (d : NameUse) (n : ℕ)
      → count_of n (so_far low (v + 1 - low) p d)
      ≡ count_of n (so_far low (v - low) p d) + count_of n (only doing.Uses (option_to_list name) d)
  so_far-step v name above is doing.Provides n = refl
  so_far-step v name above is doing.Uses n =
      let same = ap (λ (o : Option ℕ). count_of n (option_to_list o)) is in
      omega (arith, names-step low v n p.channels above)
  so_far-step v name above is doing.Bases n = refl

  -- and all are there at last
  so_far-all : (k : ℕ) → (0 < k → IsAscending p.channels)
      → ((v : ℕ) → IsSome (bound_to v p.channels) → (low ≤ v) × (v < low + k)) → (d : NameUse) (n : ℕ)
      → count_of n (so_far low k p d) ≡ count_of n (channels_used p d)
  so_far-all k ascending within doing.Provides n = refl
  so_far-all k ascending within doing.Uses n = names-all low k n p.channels ascending within
  so_far-all k ascending within doing.Bases n = refl

  module _ (a b c : Tallies) where
    pub count-step : (v : ℕ) (name : Option ℕ) → low ≤ v → name ≡ bound_to v p.channels
        → Moves a b nothing (so_far low (v - low) p)
        → Moves b c (only doing.Uses []) (only doing.Uses (option_to_list name))
        → Moves a c nothing (so_far low (v + 1 - low) p)
    count-step v name above is one other =
        moves-both a b c nothing (so_far low (v - low) p) (only doing.Uses []) (only doing.Uses (option_to_list name))
        nothing (so_far low (v + 1 - low) p) one other
        (λ d n. omega (arith, so_far-step v name above is d n, none d n))
      where
        none : (d : NameUse) (n : ℕ) → count_of n (only doing.Uses [] d) ≡ 0
        none doing.Provides n = refl
        none doing.Uses n = refl
        none doing.Bases n = refl

    pub uncount-step : (v : ℕ) (name : Option ℕ) → low ≤ v → name ≡ bound_to v p.channels
        → Moves a b (so_far low (v - low) p) nothing
        → Moves b c (only doing.Uses (option_to_list name)) (only doing.Uses [])
        → Moves a c (so_far low (v + 1 - low) p) nothing
    uncount-step v name above is one other =
        moves-both a b c (so_far low (v - low) p) nothing (only doing.Uses (option_to_list name)) (only doing.Uses [])
        (so_far low (v + 1 - low) p) nothing one other
        (λ d n. omega (arith, so_far-step v name above is d n, none d n))
      where
        none : (d : NameUse) (n : ℕ) → count_of n (only doing.Uses [] d) ≡ 0
        none doing.Provides n = refl
        none doing.Uses n = refl
        none doing.Bases n = refl

  -- variables without a channel are gone over
  module _ (v next : ℕ) (above : low ≤ v) (over : v ≤ next)
      (none : (w : ℕ) → v ≤ w → w < next → bound_to w p.channels ≡ None) where
    so_far-skip : (d : NameUse) (n : ℕ) → count_of n (so_far low (next - low) p d) ≡ count_of n
        (so_far low (v - low) p d)
    so_far-skip doing.Provides n = refl
    so_far-skip doing.Uses n = names-skip low v next n p.channels above over none
    so_far-skip doing.Bases n = refl

    module _ (a b : Tallies) where
      pub count-skip : Moves a b nothing (so_far low (v - low) p) → Moves a b nothing (so_far low (next - low) p)
      count-skip moves =
          moves-both a b b nothing (so_far low (v - low) p) nothing nothing nothing (so_far low (next - low) p) moves
          (moves-still b nothing nothing (λ d n. refl)) (λ d n. omega (arith, so_far-skip d n))

      pub uncount-skip : Moves a b (so_far low (v - low) p) nothing → Moves a b (so_far low (next - low) p) nothing
      uncount-skip moves =
          moves-both a b b (so_far low (v - low) p) nothing nothing nothing (so_far low (next - low) p) nothing moves
          (moves-still b nothing nothing (λ d n. refl)) (λ d n. omega (arith, so_far-skip d n))

  module _ (a b : Tallies) (k : ℕ) (ascending : 0 < k → IsAscending p.channels)
      (within : (v : ℕ) → IsSome (bound_to v p.channels) → (low ≤ v) × (v < low + k)) where
    pub count-end : Moves a b nothing (so_far low k p) → Moves a b nothing (channels_used p)
    count-end moves =
        moves-both a b b nothing (so_far low k p) nothing nothing nothing (channels_used p) moves
        (moves-still b nothing nothing (λ d n. refl)) (λ d n. omega (arith, so_far-all k ascending within d n))

    pub uncount-end : Moves a b (so_far low k p) nothing → Moves a b (channels_used p) nothing
    uncount-end moves =
        moves-both a b b (so_far low k p) nothing nothing nothing (channels_used p) nothing moves
        (moves-still b nothing nothing (λ d n. refl)) (λ d n. omega (arith, so_far-all k ascending within d n))
