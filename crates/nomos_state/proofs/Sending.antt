-- An indexed state may go to another thread. What it keeps of values leads to a type that holds itself, for which no
-- law stands by itself, so the parts stand apart here.
use denote.Param.Send.{IsSend, sendable}
use Rattle.std.proofs.Crossing as crossing
use Rattle.nomos_ir.proofs.value_node.Values.TheLaws.TheKnot as nodes
use Rattle.nomos_ir.specs.contracts.value.Value as Value
use Rattle.nomos_ir.specs.contracts.value_node.Values as Values
use Rattle.nomos_machine.specs.contracts.object.PotentialList as PotentialList
use Rattle.nomos_slots.proofs.channels.Channels.TheSendSync as channels
use Rattle.nomos_slots.proofs.column.Column.TheSendSync as column
use Rattle.nomos_slots.proofs.numbered.Numbered.TheSendSync as numbered
use Rattle.nomos_slots.proofs.shelf.Shelf.TheSendSync as shelf
use Rattle.nomos_slots.proofs.tail.Tail.TheSendSync as tail
use Rattle.nomos_state.proofs.inside.Numbers.TheSendSync as numbers
use Rattle.nomos_state.proofs.kept.Kept.TheSendSync as kept
use Rattle.nomos_state.specs.contracts.inside.Columns as Columns
use Rattle.nomos_state.specs.contracts.inside.Inside as Inside
use Rattle.nomos_state.proofs.tallies.Tallies.TheSendSync as tallies
use Rattle.nomos_state.specs.contracts.tallied.Tallied as Tallied
use Rattle.nomos_state.specs.contracts.indexed.IndexedState as IndexedState

value-send : IsSend (Value.the_field).row
value-send = search (nodes.crosses, crossing.crosses, sendable) depth 60

values-send : IsSend (Values.the_field).row
values-send = search (nodes.crosses, crossing.crosses, sendable) depth 60

list-send : IsSend (PotentialList.the_field).row
list-send = search (values-send, crossing.crosses, sendable) depth 60

contents-send : IsSend (Columns.the_field).row
contents-send =
    search (
      value-send,
      list-send,
      channels.the_send,
      column.the_send,
      numbered.the_send,
      shelf.the_send,
      tail.the_send,
      kept.the_send,
      crossing.crosses,
      sendable,
    ) depth 60

inside-send : IsSend (Inside.the_field).row
inside-send = search (contents-send, numbers.the_send, crossing.crosses, sendable) depth 60

tallied-send : IsSend (Tallied.the_field).row
tallied-send = search (inside-send, tallies.the_field_send, crossing.crosses, sendable) depth 60

pub state_sends : IsSend IndexedState.the_row
state_sends = search (tallied-send, crossing.crosses, sendable) depth 60
