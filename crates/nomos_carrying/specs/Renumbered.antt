-- Ledgers whose objects and names are numbered anew, in the same order.
use Rattle.std.specs.Prelude.{◌≡◌, ◌<◌, ℕ, ◌+◌, List, map, length, slice_index, Option, Some, None, Ok, Err}
use Rattle.std.specs.Option.{option_map}
use Rattle.nomos_answers.specs.Outside.{Input}
use Rattle.nomos_answers.specs.Resumes.{IsNoLedger}
use Rattle.nomos_answers.specs.SnapshotLines.{unloaded_line, unsaved_line}
use Rattle.nomos_ir.specs.Bindings.{each_bound}
use Rattle.nomos_legal.specs.Ledger.{LedgerState}
use Rattle.nomos_legal.specs.StandsFor.{StandsFor}
use Rattle.nomos_machine.specs.Objects.{object_number}
use Rattle.nomos_machine.specs.State.{State}
use Rattle.nomos_machine.specs.declared.object.Message.{Message}
use Rattle.nomos_machine.specs.declared.object.Object.{Object}
use Rattle.nomos_machine.specs.declared.object.Object.TheVariants as object
use Rattle.nomos_machine.specs.declared.object.Payload.{Payload}
use Rattle.nomos_machine.specs.declared.object.Payload.TheVariants as payload
use Rattle.nomos_machine.specs.declared.object.Process.{Process}
use Rattle.nomos_snapshot.specs.Loading.{Admits, Loads}
use Rattle.nomos_snapshot.specs.Saving.{Saves}
use Rattle.nomos_snapshot.specs.Text.{snapshot_text}
use Rattle.nomos_snapshot.specs.declared.error.LoadError.{LoadError}
use Rattle.nomos_snapshot.specs.declared.error.SaveError.{SaveError}
use Rattle.nomos_types.specs.Acceptance.{Acceptance}
use Rattle.nomos_carrying.specs.CarryDue.{TellsNumbers}

-- ---- numbers in place of numbers

-- what a message brings, with another name where it brings one
abbrev pub payload_by : (ℕ → ℕ) → Payload → Payload
payload_by names (payload.Channel name) = payload.Channel (names name)
payload_by names p = p

-- a process with another number and other names; the account that pays stays
abbrev pub process_by : (ℕ → ℕ) → (ℕ → ℕ) → Process → Process
process_by objects names p = record p {
  pid = objects p.pid;
  channels = each_bound names p.channels;
  offers = names p.offers;
  base = option_map names p.base;
}

-- a message with another number and other names
abbrev pub message_by : (ℕ → ℕ) → (ℕ → ℕ) → Message → Message
message_by objects names m = record m {
  number = objects m.number;
  from = names m.from;
  next = option_map names m.next;
  payload = payload_by names m.payload;
}

-- an object with another number and other names
abbrev pub object_by : (ℕ → ℕ) → (ℕ → ℕ) → Object → Object
object_by objects names (object.Process p) = object.Process (process_by objects names p)
object_by objects names (object.Message m) = object.Message (message_by objects names m)

-- The state with these numbers in place of those of its objects and of its names. The next numbers are those behind the
-- last. It is said of states that have emitted nothing and have nothing outside.
abbrev pub state_by : (ℕ → ℕ) → (ℕ → ℕ) → State → State
state_by objects names s = record s {
  objects = map (object_by objects names) s.objects;
  next_object = length s.objects + 1;
  next_name = length s.types + 1;
  types = map (λ t. (names t.0, t.1)) s.types;
}

-- The ledger with these numbers wherever one stands. Accounts, values, purses, the gas spent and the deposits stay.
abbrev pub ledger_by : (ℕ → ℕ) → (ℕ → ℕ) → LedgerState → LedgerState
ledger_by objects names l = record l {
  contracts = map (λ c. (c.0, names c.1)) l.contracts;
  state = state_by objects names l.state;
}

-- ---- dense numbers

-- These numbers, which ascend, become 1, 2, 3 and so on: so they keep their order.
pub record MakesDense (f : ℕ → ℕ) (numbers : List ℕ) : Type 0 where
  pub each : (k : ℕ) → k < length numbers → f (slice_index numbers k) ≡ k + 1

-- The second ledger is the first with its objects, and its names, numbered 1, 2, 3 and so on, in the same order. In a
-- ledger that is loaded each name that stands anywhere has a type, so there is one such ledger.
pub record IsRenumbered (l m : LedgerState) : Type 0 where
  pub objects : ℕ → ℕ
  pub names : ℕ → ℕ
  pub objects_dense : MakesDense objects (map object_number l.state.objects)
  pub names_dense : MakesDense names (map (λ t. t.0) l.state.types)
  pub is : m ≡ ledger_by objects names l

-- What is due where the ledger of a snapshot is renumbered: a status, what is to be written to the output, and the next
-- snapshot if there is one. The renumbered ledger is believed only where its own snapshot is loaded as it. Where it is
-- not admitted as a text's ledger would be, or stands and is not saved, the cause is told, and nothing is kept.
pub data IsRenumberDue (a : Acceptance) (snapshot : Input) : ℕ → List ℕ → Option (List ℕ) → Type 0 where
  no_ledger : (status : ℕ) (out : List ℕ) → IsNoLedger a snapshot status out → IsRenumberDue a snapshot status out None
  not_admitted : (l m : LedgerState) (why : LoadError) → Loads a snapshot.text (Ok l) → IsRenumbered l m
      → Admits a m (Err why) → IsRenumberDue a snapshot 11 (unloaded_line why) None
  unsaved : (l m : LedgerState) (why : SaveError) → Loads a snapshot.text (Ok l) → IsRenumbered l m → StandsFor a m
      → Saves a m (Err why) → IsRenumberDue a snapshot 11 (unsaved_line why) None
  renumbered : (l m : LedgerState) (out : List ℕ) → Loads a snapshot.text (Ok l) → IsRenumbered l m
      → Loads a (snapshot_text a m) (Ok m) → TellsNumbers m.state.next_object m.state.next_name out
      → IsRenumberDue a snapshot 0 out (Some (snapshot_text a m))
