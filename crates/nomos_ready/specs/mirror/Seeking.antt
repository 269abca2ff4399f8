-- A mirror of the code: what is found among the processes that are told as ones that may be ready. No promise stands on
-- it.
use Rattle.std.specs.Prelude.{◌<◌, ℕ, Option, Some, None, IsTrue}
use Rattle.std.specs.BTreeSet.{contains}
use Rattle.std.specs.Ordering.{nat_cmp}
use Rattle.nomos_types.specs.Acceptance.{Acceptance}
use Rattle.nomos_machine.specs.State.{State}
use Rattle.nomos_machine.specs.Step.{IsReady}
use Rattle.nomos_ready.specs.declared.awake.Awake.{Awake}

-- a process that is told is ready
pub record IsToldReady (a : Acceptance) (s : State) (w : Awake) (q : ℕ) : Type 0 where
  pub told : IsTrue (contains nat_cmp w.ready q)
  pub ready : IsReady a s q

-- the lowest over a number of those that are told and ready, or none where none is
abbrev pub IsSought : Acceptance → State → Awake → ℕ → Option ℕ → Type 0
IsSought a s w after (Some pid) =
    (after < pid) × IsReady a s pid × ((q : ℕ) → after < q → q < pid → ¬ (IsToldReady a s w q))
    × IsTrue (contains nat_cmp w.ready pid)
IsSought a s w after None = (q : ℕ) → after < q → ¬ (IsToldReady a s w q)
