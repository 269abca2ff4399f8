-- What a worker's thread may be given: a shop, and a station of its floor, go to it where what the shop lends and what
-- acts in its world do. A `search` from the whole shop runs out of steps, so the parts stand apart.
use denote.RattleType.{RattleType}
use denote.Param.Send.{IsSend, sendable}
use denote.Struct.Field.{u32-field}
use Rattle.std.proofs.Crossing as crossing
use Rattle.nomos_deeds.specs.declared.acting.Acting as acting
use Rattle.nomos_deeds.specs.declared.sight.Sight as sight
use Rattle.nomos_ir.proofs.items.Items.TheSendSync as items
use Rattle.nomos_ir.proofs.value_node.Values.TheLaws.TheKnot as nodes
use Rattle.nomos_ir.specs.contracts.value_node.Values as Values
use Rattle.nomos_legal.specs.contracts.resolved.Resolved as Resolved
use Rattle.nomos_script.proofs.name.ScriptName.TheSendSync as names
use Rattle.nomos_ledger.proofs.books.Books.TheSendSync as books
use Rattle.nomos_ledger.proofs.fired.Fired.TheSendSync as fired
use Rattle.nomos_ledger.specs.contracts.world.World as World
use Rattle.nomos_ready.proofs.awake.Awake.TheSendSync as awake
use Rattle.nomos_ledger.specs.contracts.watched.Watched as Watched
use Rattle.nomos_floor.proofs.crew.Station.TheSendSync as station
use Rattle.nomos_floor.specs.contracts.crew.Station as Station
use Rattle.nomos_workers.proofs.batch.BatchEnd.TheSendSync as ends
use Rattle.nomos_workers.specs.contracts.batch.BatchEnd as BatchEnd
use Rattle.nomos_ledger.specs.declared.lent.Lent as lent
use Rattle.nomos_workers.specs.contracts.shop.Shop as Shop

pub values-send : IsSend (Values.the_field).row
values-send = search (nodes.crosses, crossing.crosses, sendable) depth 60

resolved-send : IsSend (Resolved.the_field).row
resolved-send = search (values-send, items.the_send, names.the_send, crossing.crosses, sendable) depth 60

module _ (M : RattleType) (g : acting.Ghosts M.Denot) (h : sight.Ghosts M.Denot) where
  world-send : IsSend M → IsSend (World.the_field M g h).row
  world-send acts =
      search (resolved-send, books.the_send, fired.the_field_send, items.the_send, crossing.crosses, sendable) depth 60

  pub watched-send : IsSend M → IsSend (Watched.the_field M g h).row
  watched-send acts =
      let world = world-send acts in
      search (awake.the_field_send, sendable) depth 60

module _ (A M : RattleType) (l : lent.Ghosts A.Denot) (g : acting.Ghosts M.Denot) (h : sight.Ghosts M.Denot) where
  pub shop_sends : IsSend A → IsSend M → IsSend (Shop.the_row A M l g h)
  shop_sends lends acts =
      let watched = watched-send M g h acts in
      search sendable depth 60

  pub station_sends : IsSend A → IsSend M
      → IsSend (Station.the_row (Shop.the_row A M l g h) BatchEnd.the_row (Shop.the_row A M l g h) u32-field.row)
  station_sends lends acts =
      station.the_send (Shop.the_row A M l g h) BatchEnd.the_row (Shop.the_row A M l g h) u32-field.row
      (shop_sends lends acts) ends.the_send
