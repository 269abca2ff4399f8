-- The objects that slots, rows and cells stand for.
use Rattle.std.specs.Prelude.{◌≡◌, ◌≤◌, ◌==◌, ◌+◌, ◌*◌, ℕ, Bool, true, cond, List, [], ◌∷◌, ◌++◌, length, drop, Option, Some, None, IsSome, IfSome, slice_get, slice_index_or}
use Rattle.std.specs.Option.{option_map, option_to_list}
use Rattle.nomos_ir.specs.Bindings.{IsAscending, bindings_of}
use Rattle.nomos_ir.specs.Value.{Value}
use Rattle.nomos_ir.specs.declared.ids.TypeId.{TypeId}
use Rattle.nomos_ir.specs.declared.ids.VarId.{VarId}
use Rattle.nomos_deeds.specs.declared.sight.SeenPayload.{SeenPayload}
use Rattle.nomos_deeds.specs.declared.sight.SeenPayload.TheVariants as seen
use Rattle.nomos_deeds.specs.declared.sight.SeenProcess.{SeenProcess}
use Rattle.nomos_machine.specs.Optional.{◌>>=◌}
use Rattle.nomos_machine.specs.State.{NameTypes}
use Rattle.nomos_machine.specs.declared.object.Message.{Message}
use Rattle.nomos_machine.specs.declared.object.Object.{Object}
use Rattle.nomos_machine.specs.declared.object.Object.TheVariants as object
use Rattle.nomos_machine.specs.declared.object.Payload.{Payload}
use Rattle.nomos_machine.specs.declared.object.Payload.TheVariants as payload
use Rattle.nomos_machine.specs.declared.object.PotentialList.{PotentialList}
use Rattle.nomos_machine.specs.declared.object.Process.{Process}
use Rattle.nomos_slots.specs.Cells.{Cell, name_in}
use Rattle.nomos_slots.specs.Numbers.{found}
use Rattle.nomos_slots.specs.declared.numbered.Slot.{Slot}
use Rattle.nomos_state.specs.declared.kept.Kept.{Kept}
use Rattle.nomos_state.specs.declared.kept.Kept.TheVariants as kept
use Rattle.nomos_state.specs.declared.kept.KeptLists.{KeptLists}
use Rattle.nomos_state.specs.declared.kept.KeptMessage.{KeptMessage}
use Rattle.nomos_state.specs.declared.kept.KeptProcess.{KeptProcess}
use Rattle.nomos_state.specs.declared.span.Span.{Span}
use Rattle.nomos_state.specs.Spanning.{Spans}

-- the values, and the lists, of the object at a place
abbrev pub ValueRow : Type 0
ValueRow = List (VarId × Value)

abbrev pub ListRow : Type 0
ListRow = List (VarId × PotentialList)

-- the entries of a process, as pairs
abbrev pub entries_of : List Cell → ℕ → List (VarId × ℕ)
entries_of [] process = []
entries_of (None ∷ cells) process = entries_of cells process
entries_of (Some e ∷ cells) process =
    cond (e.process == process) ((record { 0 = e.variable }, e.name) ∷ entries_of cells process)
    (entries_of cells process)

-- the channels of a process
abbrev pub channels_of : List Cell → ℕ → List (VarId × ℕ)
channels_of cells process = bindings_of (entries_of cells process)

-- the potential of lists: of each its amount, for each of its elements
abbrev pub potential_in : ListRow → ℕ
potential_in [] = 0
potential_in (e ∷ lists) = e.1.amount * length e.1.items + potential_in lists

-- what a message brings, with the value that stands in its row
abbrev pub payload_of : SeenPayload → ValueRow → Payload
payload_of (seen.Label l) values = payload.Label l
payload_of seen.Value (e ∷ values) = payload.Value e.1
payload_of seen.Value [] = payload.Close
payload_of (seen.Channel name) values = payload.Channel name
payload_of seen.Pay values = payload.Pay
payload_of seen.Close values = payload.Close

-- the value that stands first in a row
abbrev pub first_value : ValueRow → Option Value
first_value [] = None
first_value (e ∷ values) = Some e.1

-- the process, and the message, of a number; of its row of lists those at the front that are gone are no lists of it
abbrev pub process_held : List Cell → ℕ → ValueRow → ListRow → KeptProcess → Process
process_held cells number values its_lists k = record {
  pid = number;
  mode = k.mode;
  code = k.code;
  values = values;
  lists = drop k.gone its_lists;
  channels = channels_of cells number;
  offers = k.offers;
  base = k.base;
  purse = k.purse;
  payer = k.payer;
}

abbrev pub message_held : ℕ → ValueRow → KeptMessage → Message
message_held number values k = record {
  number = number;
  to_client = k.to_client;
  from = k.from;
  next = k.next;
  payload = payload_of k.brings values;
  purse = k.purse;
}

-- what is kept of a process with these plain fields, whose channels stand in this span, whose values are known to
-- ascend or not, and of whose lists this is kept
abbrev pub kept_of : SeenProcess → Option Span → Bool → KeptLists → KeptProcess
kept_of fields span ascends its_lists = record {
  mode = fields.mode;
  code = fields.code;
  offers = fields.offers;
  base = fields.base;
  purse = fields.purse;
  payer = fields.payer;
  span = span;
  ascends = ascends;
  gone = its_lists.gone;
  potential = its_lists.potential;
}

-- the object of a number
abbrev pub object_of : List Cell → ℕ → ValueRow → ListRow → Kept → Object
object_of cells number values its_lists (kept.Process k) = object.Process (process_held cells number values its_lists k)
object_of cells number values its_lists (kept.Message k) = object.Message (message_held number values k)

-- what is kept in a slot, and at a place, with its number
abbrev pub kept_in : Slot Kept → Option (ℕ × Kept)
kept_in slot = option_map (λ k. (slot.number, k)) slot.item

abbrev pub kept_at : List (Slot Kept) → ℕ → Option (ℕ × Kept)
kept_at slots place = slice_get slots place >>= kept_in

-- The objects of slots, in their order; each slot has a row of values and a row of lists.
abbrev pub objects_of : List Cell → List (Slot Kept) → List ValueRow → List ListRow → List Object
objects_of cells (slot ∷ slots) (values ∷ value_rows) (its_lists ∷ list_rows) =
    option_to_list (option_map (object_of cells slot.number values its_lists) slot.item)
    ++ objects_of cells slots value_rows list_rows
objects_of cells _ _ _ = []

-- the types of the names in slots
abbrev pub types_of : List (Slot TypeId) → NameTypes
types_of [] = []
types_of (slot ∷ slots) = option_to_list (option_map (λ t. (slot.number, t)) slot.item) ++ types_of slots

-- ---- what holds of slots, rows and cells

-- where a value is brought, it stands in the row
abbrev pub HasValue : SeenPayload → ValueRow → Type 0
HasValue brought values = brought ≡ seen.Value → 1 ≤ length values

-- a row ascends, where that is known of it
abbrev pub AscendsIf : {X : Type 0} → Bool → List (VarId × X) → Type 0
AscendsIf known row = known ≡ true → IsAscending row

-- where it is known what a row of lists carries, that is its potential, and the row ascends
abbrev pub IsPotentialIf : Option ℕ → ListRow → Type 0
IsPotentialIf known its_lists = IfSome known (λ n. IsAscending its_lists × (potential_in its_lists ≡ n))

-- a row has the lists that are gone, and the others carry what is kept of them
abbrev pub FitsLists : ℕ → Option ℕ → ListRow → Type 0
FitsLists gone potential its_lists = (gone ≤ length its_lists) × IsPotentialIf potential (drop gone its_lists)

-- A message that brings a value has it in its row; the rows of a process are as it is kept of them.
abbrev pub FitsRows : Option Kept → ValueRow → ListRow → Type 0
FitsRows (Some (kept.Message k)) values its_lists = HasValue k.brings values
FitsRows (Some (kept.Process k)) values its_lists = AscendsIf k.ascends values × FitsLists k.gone k.potential its_lists
FitsRows None values its_lists = Unit {0}

abbrev pub FitRows : List (Slot Kept) → List ValueRow → List ListRow → Type 0
FitRows slots value_rows list_rows = (place : ℕ) (slot : Slot Kept) → slice_get slots place ≡ Some slot
    → FitsRows slot.item (slice_index_or value_rows place []) (slice_index_or list_rows place [])

-- channels are those of processes that are there, each in the span of its process
abbrev pub AreHeld : List (Slot Kept) → List Cell → Type 0
AreHeld slots cells =
    (process variable : ℕ) → IsSome (name_in cells process variable) → Spans (found slots process) variable
