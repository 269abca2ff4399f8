use Rattle.nomos_deeds.proofs.DeedLemmas.{decided}
use Rattle.nomos_deeds.proofs.deeds.deed_at_node.Goals as goal

pub returns-in-Label-clause-decides : goal.returns-in-Label-clause-decides
returns-in-Label-clause-decides g c =
    decided c.args.accepted.now (g.S.Sight.state c.args.sight.now) c.args.pid c.args.values.now c.label_at.result
    c.in-Label.is (c.label_at.ensures c.in-Label.field-0 c.args.values.now)

pub returns-in-Case-clause-decides : goal.returns-in-Case-clause-decides
returns-in-Case-clause-decides g c =
    decided c.args.accepted.now (g.S.Sight.state c.args.sight.now) c.args.pid c.args.values.now c.case_at.result
    c.in-Case.is (c.case_at.ensures.decides c.args.accepted.now c.in-Case.field-0 c.args.values.now)

pub returns-in-Send-clause-decides : goal.returns-in-Send-clause-decides
returns-in-Send-clause-decides g c =
    decided c.args.accepted.now (g.S.Sight.state c.args.sight.now) c.args.pid c.args.values.now c.send_at.result
    c.in-Send.is (c.send_at.ensures c.in-Send.field-0 c.args.values.now)

pub returns-in-Recv-clause-decides : goal.returns-in-Recv-clause-decides
returns-in-Recv-clause-decides g c =
    decided c.args.accepted.now (g.S.Sight.state c.args.sight.now) c.args.pid c.args.values.now c.recv_at.result
    c.in-Recv.is (c.recv_at.ensures.decides c.args.accepted.now c.in-Recv.field-0 c.args.values.now)

pub returns-in-Put-clause-decides : goal.returns-in-Put-clause-decides
returns-in-Put-clause-decides g c =
    decided c.args.accepted.now (g.S.Sight.state c.args.sight.now) c.args.pid c.args.values.now c.put_at.result
    c.in-Put.is (c.put_at.ensures c.in-Put.field-0 c.in-Put.field-2 c.args.values.now)

pub returns-in-Take-clause-decides : goal.returns-in-Take-clause-decides
returns-in-Take-clause-decides g c =
    decided c.args.accepted.now (g.S.Sight.state c.args.sight.now) c.args.pid c.args.values.now c.take_at.result
    c.in-Take.is (c.take_at.ensures c.args.accepted.now c.in-Take.field-0 c.args.values.now)

pub returns-in-Pay-clause-decides : goal.returns-in-Pay-clause-decides
returns-in-Pay-clause-decides g c =
    decided c.args.accepted.now (g.S.Sight.state c.args.sight.now) c.args.pid c.args.values.now c.pay_at.result
    c.in-Pay.is (c.pay_at.ensures c.in-Pay.field-0 c.args.values.now)

pub returns-in-Get-clause-decides : goal.returns-in-Get-clause-decides
returns-in-Get-clause-decides g c =
    decided c.args.accepted.now (g.S.Sight.state c.args.sight.now) c.args.pid c.args.values.now c.get_at.result
    c.in-Get.is (c.get_at.ensures.decides c.args.accepted.now c.in-Get.field-0 c.in-Get.field-2 c.args.values.now)

pub returns-in-Work-clause-decides : goal.returns-in-Work-clause-decides
returns-in-Work-clause-decides g c =
    decided c.args.accepted.now (g.S.Sight.state c.args.sight.now) c.args.pid c.args.values.now c.work_at.result
    c.in-Work.is (c.work_at.ensures.decides c.in-Work.field-0 c.args.values.now)

pub returns-in-Wait-clause-decides : goal.returns-in-Wait-clause-decides
returns-in-Wait-clause-decides g c =
    decided c.args.accepted.now (g.S.Sight.state c.args.sight.now) c.args.pid c.args.values.now c.wait_at.result
    c.in-Wait.is (c.wait_at.ensures.decides c.args.accepted.now c.in-Wait.field-0 c.args.values.now)

pub returns-in-Acquire-clause-decides : goal.returns-in-Acquire-clause-decides
returns-in-Acquire-clause-decides g c =
    decided c.args.accepted.now (g.S.Sight.state c.args.sight.now) c.args.pid c.args.values.now c.acquire_at.result
    c.in-Acquire.is (c.acquire_at.ensures.decides c.in-Acquire.field-0 c.args.values.now)

pub returns-in-Release-clause-decides : goal.returns-in-Release-clause-decides
returns-in-Release-clause-decides g c =
    decided c.args.accepted.now (g.S.Sight.state c.args.sight.now) c.args.pid c.args.values.now c.release_at.result
    c.in-Release.is (c.release_at.ensures.decides c.in-Release.field-0 c.args.values.now)

pub returns-in-Spawn-clause-decides : goal.returns-in-Spawn-clause-decides
returns-in-Spawn-clause-decides g c =
    decided c.args.accepted.now (g.S.Sight.state c.args.sight.now) c.args.pid c.args.values.now c.spawn_at.result
    c.in-Spawn.is (c.spawn_at.ensures c.in-Spawn.field-0 c.in-Spawn.field-3 c.args.values.now)

pub returns-in-If-clause-decides : goal.returns-in-If-clause-decides
returns-in-If-clause-decides g c =
    decided c.args.accepted.now (g.S.Sight.state c.args.sight.now) c.args.pid c.args.values.now c.if_at.result
    c.in-If.is (c.if_at.ensures.decides c.in-If.field-0 c.in-If.field-1)

pub returns-in-Fwd-clause-decides : goal.returns-in-Fwd-clause-decides
returns-in-Fwd-clause-decides g c =
    decided c.args.accepted.now (g.S.Sight.state c.args.sight.now) c.args.pid c.args.values.now c.fwd_at.result
    c.in-Fwd.is (c.fwd_at.ensures.decides c.in-Fwd.field-0 c.args.values.now)

pub returns-in-Call-clause-decides : goal.returns-in-Call-clause-decides
returns-in-Call-clause-decides g c =
    decided c.args.accepted.now (g.S.Sight.state c.args.sight.now) c.args.pid c.args.values.now c.call_at.result
    c.in-Call.is (c.call_at.ensures c.in-Call.field-0 c.in-Call.field-2 c.args.values.now)

pub returns-in-Add-clause-decides : goal.returns-in-Add-clause-decides
returns-in-Add-clause-decides g c =
    decided c.args.accepted.now (g.S.Sight.state c.args.sight.now) c.args.pid c.args.values.now c.add_at.result
    c.in-Add.is (c.add_at.ensures c.in-Add.field-0 c.in-Add.field-2)

pub returns-in-Match-clause-decides : goal.returns-in-Match-clause-decides
returns-in-Match-clause-decides g c =
    decided c.args.accepted.now (g.S.Sight.state c.args.sight.now) c.args.pid c.args.values.now c.match_at.result
    c.in-Match.is (c.match_at.ensures c.in-Match.field-0 c.args.values.now)

pub returns-in-Empty-clause-decides : goal.returns-in-Empty-clause-decides
returns-in-Empty-clause-decides g c =
    decided c.args.accepted.now (g.S.Sight.state c.args.sight.now) c.args.pid c.args.values.now c.empty_at.result
    c.in-Empty.is (c.empty_at.ensures c.in-Empty.field-0 c.in-Empty.field-3 c.args.values.now)
