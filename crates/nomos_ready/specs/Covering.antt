-- What a set of processes that may be ready tells of a state.
use Rattle.std.specs.Prelude.{◌≡◌, ◌≤◌, ◌<◌, ◌⊎◌, ℕ, Some, true, IsTrue}
use Rattle.std.specs.BTreeSet.{contains}
use Rattle.std.specs.declared.cmp.Ordering.{Ordering}
use Rattle.std.specs.Ordering.{nat_cmp, ordering_then}
use Rattle.nomos_types.specs.Acceptance.{Acceptance}
use Rattle.nomos_machine.specs.State.{State}
use Rattle.nomos_machine.specs.Step.{IsReady}
use Rattle.nomos_deeds.specs.Readers.{waits}
use Rattle.nomos_ready.specs.declared.awake.Awake.{Awake}

-- pairs in order of the first, and then of the second
abbrev pub by_both : ℕ × ℕ → ℕ × ℕ → Ordering
by_both x y = ordering_then (nat_cmp x.0 y.0) (nat_cmp x.1 y.1)

-- a process may be ready, as far as is told
abbrev pub MayBeReady : Awake → ℕ → Type 0
MayBeReady w q = (w.lost ≡ true) ⊎ IsTrue (contains nat_cmp w.ready q)

-- it is told that a process waits for a shared name
abbrev pub IsNoted : Awake → ℕ → ℕ → Type 0
IsNoted w name q = IsTrue (contains by_both w.waiting (name, q))

-- it is known of each process whether it waits for the shared name, since the name is new, or was acquired
abbrev pub IsFollowed : Awake → ℕ → Type 0
IsFollowed w name = (w.first_name ≤ name) ⊎ IsTrue (contains nat_cmp w.acquired name)

-- Of a crowd that waits for a shared name this process is noted, and one is told in its place as one that may be ready.
-- That one is noted for the name too, is no higher, and is over the number that is sought where this one is.
pub record HasProxy (w : Awake) (name q : ℕ) : Type 0 where
  pub noted : IsNoted w name q
  pub proxy : ℕ
  pub noted_too : IsNoted w name proxy
  pub told : MayBeReady w proxy
  pub low : proxy ≤ q
  pub over : w.sought < q → w.sought < proxy

-- Each process that is ready is told as one that may be, or one that waits for the same name is told in its place. Each
-- that waits for a name which is followed is told as one that may be ready, or is noted. And who is noted waits for
-- the name.
pub record Covers (a : Acceptance) (s : State) (w : Awake) : Type 0 where
  pub ready : (q : ℕ) → IsReady a s q → MayBeReady w q ⊎ ((name : ℕ) × HasProxy w name q)
  pub waiting : (q name : ℕ) → waits a s.objects q ≡ Some name → IsFollowed w name
      → MayBeReady w q ⊎ IsNoted w name q
  pub noted : (q name : ℕ) → IsNoted w name q → waits a s.objects q ≡ Some name
