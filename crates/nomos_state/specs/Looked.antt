-- What is answered where an object is looked up.
use Rattle.std.specs.Prelude.{◌≡◌, ℕ, [], Option, Some, None, MatchOption, slice_index_or}
use Rattle.nomos_machine.specs.Objects.{object_at}
use Rattle.nomos_machine.specs.State.{process_at}
use Rattle.nomos_deeds.specs.Acts.{message_at}
use Rattle.nomos_state.specs.Indexed.{Holding, state_of}
use Rattle.nomos_state.specs.Objects.{ListRow, ValueRow, kept_at, message_held, object_of, process_held}
use Rattle.nomos_state.specs.declared.kept.Kept.{Kept}
use Rattle.nomos_state.specs.declared.kept.Kept.TheVariants as kept
use Rattle.nomos_state.specs.declared.kept.KeptMessage.{KeptMessage}
use Rattle.nomos_state.specs.declared.kept.KeptProcess.{KeptProcess}

-- the values, and the lists, at a place
abbrev pub values_at : Holding → ℕ → ValueRow
values_at h place = slice_index_or h.value_rows place []

abbrev pub lists_at : Holding → ℕ → ListRow
lists_at h place = slice_index_or h.list_rows place []

-- The object of a number stands at the place and is made of what is kept there and of its rows.
pub record ObjectIsAt (h : Holding) (number place : ℕ) (k : Kept) : Type 0 where
  pub at : kept_at h.slots place ≡ Some (number, k)
  pub found : object_at (state_of h).objects number
      ≡ Some (object_of h.cells number (values_at h place) (lists_at h place) k)

abbrev pub IsObjectAt : Holding → ℕ → Option (ℕ × Kept) → Type 0
IsObjectAt h number result =
    MatchOption result (object_at (state_of h).objects number ≡ None) (λ r. ObjectIsAt h number r.0 r.1)

-- the same of a process
pub record ProcessIsAt (h : Holding) (pid place : ℕ) (k : KeptProcess) : Type 0 where
  pub at : kept_at h.slots place ≡ Some (pid, kept.Process k)
  pub found : process_at (state_of h) pid
      ≡ Some (process_held h.cells pid (values_at h place) (lists_at h place) k)

abbrev pub IsProcessAt : Holding → ℕ → Option (ℕ × KeptProcess) → Type 0
IsProcessAt h pid result =
    MatchOption result (process_at (state_of h) pid ≡ None) (λ r. ProcessIsAt h pid r.0 r.1)

-- the same of a message
pub record MessageIsAt (h : Holding) (number place : ℕ) (k : KeptMessage) : Type 0 where
  pub at : kept_at h.slots place ≡ Some (number, kept.Message k)
  pub found : message_at (state_of h).objects number ≡ Some (message_held number (values_at h place) k)

abbrev pub IsMessageAt : Holding → ℕ → Option (ℕ × KeptMessage) → Type 0
IsMessageAt h number result =
    MatchOption result (message_at (state_of h).objects number ≡ None) (λ r. MessageIsAt h number r.0 r.1)
