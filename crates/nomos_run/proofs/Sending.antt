-- What a worker's thread may be given: a script under way goes to it, where what acts in its ledger does. A `search`
-- from the whole course runs out of steps, so the parts stand apart.
use denote.RattleType.{RattleType}
use denote.Ref.{NamedLft}
use denote.Param.Send.{IsSend, IsSync, sendable}
use Rattle.std.proofs.Crossing as crossing
use Rattle.nomos_deeds.specs.declared.acting.Acting as acting
use Rattle.nomos_deeds.specs.declared.sight.Sight as sight
use Rattle.nomos_eval.specs.contracts.wanted.Wanted as Wanted
use Rattle.nomos_ir.proofs.items.Items.TheSendSync as items
use Rattle.nomos_ir.proofs.value_node.Values.TheLaws.TheKnot as nodes
use Rattle.nomos_ir.specs.contracts.value.Value as Value
use Rattle.nomos_types.proofs.accepted.Accepted.TheSendSync as accepted
use Rattle.nomos_script.proofs.name.ScriptName.TheSendSync as names
use Rattle.nomos_script.specs.contracts.item.ScriptItem as ScriptItem
use Rattle.nomos_legal.proofs.journal.Entry.TheSendSync as entry
use Rattle.nomos_legal.proofs.journal.Firing.TheSendSync as firing
use Rattle.nomos_ledger.proofs.start_arguments.Arguments.TheSendSync as arguments
use Rattle.nomos_ledger.proofs.ledger.Ledger.TheSendSync as ledger
use Rattle.nomos_ledger.specs.contracts.ledger.Ledger as Ledger
use Rattle.nomos_report.proofs.course.Outset.TheSendSync as outset
use Rattle.nomos_walk.proofs.sheet.Sheet.TheSendSync as sheet
use Rattle.nomos_walk.specs.contracts.last_result.LastResult as LastResult
use Rattle.nomos_walk.specs.contracts.papers.Papers as Papers
use Rattle.nomos_walk.specs.contracts.walk.Walk as Walk
use Rattle.nomos_workers.proofs.Sending.{values-send, watched-send}
use Rattle.nomos_run.proofs.orders.Orders.TheSendSync as orders
use Rattle.nomos_run.specs.contracts.script_course.AskedOf as AskedOf
use Rattle.nomos_run.specs.contracts.script_course.ScriptCourse as Course
use Rattle.nomos_run.specs.contracts.script_course.Phase as Phase
use Rattle.nomos_run.specs.contracts.script_course.Trail as Trail
use Rattle.nomos_run.specs.contracts.script_course.UnderWay as UnderWay
use Rattle.nomos_run.specs.contracts.way.RunWay as Way

-- ---- what never changes

value-send : IsSend (Value.the_field).row
value-send = search (nodes.crosses, values-send, crossing.crosses, sendable) depth 60

item-sync : IsSync (ScriptItem.the_field).row
item-sync = search (nodes.crosses, items.the_sync, names.the_sync, crossing.crosses, sendable) depth 60

result-send : IsSend (LastResult.the_field).row
result-send = search (value-send, crossing.crosses, sendable) depth 60

papers-send : IsSend (Papers.the_field).row
papers-send = search (sheet.the_send, result-send, crossing.crosses, sendable) depth 60

wanted-send : IsSend (Wanted.the_field).row
wanted-send = search (value-send, values-send, items.the_send, crossing.crosses, sendable) depth 60

module _ (a : NamedLft) where
  walk-send : IsSend (Walk.the_field a).row
  walk-send = search (arguments.the_send, papers-send, crossing.crosses, sendable) depth 60

  way-send : IsSend (Way.the_field a).row
  way-send = search (walk-send, entry.the_send, entry.the_field_send, crossing.crosses, sendable) depth 60

  trail-send : IsSend (Trail.the_field a).row
  trail-send =
      search (
        accepted.the_sync,
        orders.the_send,
        orders.the_field_send,
        item-sync,
        way-send,
        firing.the_send,
        crossing.crosses,
        sendable,
      ) depth 60

  pub asked_sends : IsSend (AskedOf.the_row a)
  asked_sends = search (accepted.the_sync, wanted-send, crossing.crosses, sendable) depth 60

-- ---- what comes next

module _ (M : RattleType) (g : acting.Ghosts M.Denot) (h : sight.Ghosts M.Denot) where
  ledger-row : IsSend M → IsSend (Ledger.the_row M g h)
  ledger-row acts = search (ledger.the_send, sendable) depth 60

  ledger-send : IsSend M → IsSend (Ledger.the_field M g h).row
  ledger-send acts = ledger-row acts

  under-send : IsSend M → IsSend (UnderWay.the_field M g h).row
  under-send acts =
      let watched = watched-send M g h acts in
      search (watched, outset.the_send, outset.the_field_send, crossing.crosses, sendable) depth 60

  phase-send : IsSend M → IsSend (Phase.the_field M g h).row
  phase-send acts =
      let between = ledger-send acts in
      let under = under-send acts in
      search (between, under, sendable) depth 60

  pub course_sends : (a : NamedLft) → IsSend M → IsSend (Course.the_row a M g h)
  course_sends a acts =
      let trail = trail-send a in
      let phase = phase-send acts in
      search sendable depth 60
