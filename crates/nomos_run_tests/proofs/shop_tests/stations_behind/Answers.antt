use denote.Exit.{yes}
use denote.Param.{param}
use denote.Param.Send.{IsSend, IsSync, param_send, arg_send, sendable}
use Rattle.std.proofs.Common.{arith}
use Rattle.std.proofs.Crossing as crossing
use Rattle.std.proofs.lemmas.Grind.{common_steps}
use Rattle.nomos_floor.proofs.floor.Floor.TheSendSync as floor
use Rattle.nomos_workers.specs.contracts.shop.Shop as Shop
use Rattle.nomos_workers.proofs.Sending.{shop_sends, station_sends}
use Rattle.nomos_run_tests.proofs.shop_tests.stations_behind.Goals as goal

-- what a value leaves at the function's exit names no lifetime here, so `yes` serves as well as any other
pub for_each_mut-requires-send-T : goal.for_each_mut-requires-send-T
for_each_mut-requires-send-T g c κs within =
    let sends = station_sends (param 0 g.row.A) (param 1 g.row.M) g.A.Lent g.M.Acting g.M.Sight in
    param_send 1 _ (arg_send _ yes _ (sends c.type_bounds.send-A c.type_bounds.send-M))

pub for_each_mut-requires-sync-F : goal.for_each_mut-requires-sync-F
for_each_mut-requires-sync-F g c κs within =
    let sends : IsSend (Shop.the_row (param 0 g.row.A) (param 1 g.row.M) g.A.Lent g.M.Acting g.M.Sight) =
    shop_sends (param 0 g.row.A) (param 1 g.row.M) g.A.Lent g.M.Acting g.M.Sight c.type_bounds.send-A
    c.type_bounds.send-M
    in
    let gate : IsSync (param 2 g.row.G) = c.type_bounds.sync-G in
    let rt : IsSync (param 3 g.row.R) = c.type_bounds.sync-R in
    search (floor.the_sync, sends, crossing.sync, sendable) depth 40

pub returns : goal.returns
returns g c = grind (arith, common_steps)
