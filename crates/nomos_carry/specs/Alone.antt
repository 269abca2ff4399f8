-- What a call of `nomos-carry` leaves as it was: a file is not opened before its turn.
use Rattle.std.specs.Prelude.{◌≡◌, ◌⊎◌, ℕ, List, Option, IsSome}
use Rattle.nomos_top.specs.Seen.{IsDone}
use Rattle.nomos_carry.specs.CarryWords.{AskForNothing, AsksToCarry, CarryTask, new_file, script_file, snapshot_file}
use Rattle.nomos_carry.specs.declared.carry.Edges.{Edges}

-- the words ask for a task that has such a file
abbrev pub Wants : (CarryTask → Option (List ℕ)) → List (List ℕ) → Type 0
Wants file_of words = (task : CarryTask) × AsksToCarry words task × IsSome (file_of task)

-- the contract is refused, or the solver stopped on it
abbrev pub IsUnacceptedStatus : ℕ → Type 0
IsUnacceptedStatus status = (status ≡ 1) ⊎ (status ≡ 8)

-- a next snapshot is wanted, and what was asked for was done, or a sink failed
abbrev pub MayWriteNew : List (List ℕ) → ℕ → Type 0
MayWriteNew words status = Wants new_file words × (IsDone status ⊎ (status ≡ 6))

-- What stays as it was, where a call of these words ends with this status.
pub record LeavesAlone {S K : Type 0} (words : List (List ℕ)) (status : ℕ) (before after : Edges S K) : Type 0 where
  -- the contract, where the words ask for nothing
  pub contract : AskForNothing words → after.contract ≡ before.contract
  -- the snapshot and the script, where the words ask for none, or the contract is not accepted
  pub snapshot : ¬ (Wants snapshot_file words) ⊎ IsUnacceptedStatus status → after.snapshot ≡ before.snapshot
  pub script : ¬ (Wants script_file words) ⊎ IsUnacceptedStatus status → after.script ≡ before.script
  -- the output, where memory was wanting
  pub out : status ≡ 7 → after.out ≡ before.out
  -- the file of the next snapshot, where none is written
  pub next : ¬ (MayWriteNew words status) → after.next ≡ before.next
