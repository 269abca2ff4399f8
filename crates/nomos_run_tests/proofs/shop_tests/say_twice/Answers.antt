use denote.Exit.{yes}
use denote.Param.Send.{arg_send, param_send}
use Rattle.std.proofs.Common.{◌∙◌, List, map, ap, arith}
use Rattle.nomos_legal.specs.declared.journal.Firing.{Firing}
use Rattle.nomos_state.proofs.Sending.{state_sends}
use Rattle.nomos_workers.specs.Shops.{history_of}
use Rattle.nomos_run_tests.proofs.shop_tests.say_twice.Goals as goal

pub shop_behind-requires-send-M : goal.shop_behind-requires-send-M
shop_behind-requires-send-M g c κs within = param_send 1 _ (arg_send _ yes _ state_sends)

pub shop_behind-requires-after_bounds : goal.shop_behind-requires-after_bounds
shop_behind-requires-after_bounds g c κs within =
    let may = c.world_of-world.ensures 1000000 (omega arith) in
    ap history_of c.of-shop.ensures ∙ ap (λ (l : List Firing). map (λ f. (f.pass, f.pid)) l) may.fresh
