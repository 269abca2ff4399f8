use Rattle.std.proofs.Common.{◌∙◌, ◌-◌, ◌<◌, arith, sym}
use Rattle.nomos_legal.proofs.WorldLaws.{world-typed}
use Rattle.nomos_ledger.proofs.FaultLemmas.{no_fault-first, no_fault-next, ready-below}
use Rattle.nomos_ledger.proofs.world.World.lowest_fault.Goals as goal

pub processes-init : goal.processes-init
processes-init g c =
    let typed = world-typed c.know.ensures.accepted c.requires in
    no_fault-first c.args.accepted.now c.args.self.now.state typed.numbered

pub processes-smaller : goal.processes-smaller
processes-smaller g c =
    let s = c.args.self.now.state in
    let typed = world-typed c.know.ensures.accepted c.requires in
    let next = c.in-Some.ensures in
    let below : c.in-Some.pid < s.next_object =
    ready-below c.args.accepted.now s typed.numbered c.in-Some.pid next.ready
    in
    let smaller : s.next_object - c.in-Some.pid < s.next_object - c.processes.after = omega (arith, below, next.over)
    in
    smaller

pub processes-preserved : goal.processes-preserved
processes-preserved g c =
    no_fault-next c.args.accepted.now c.args.self.now.state c.processes.after c.in-Some.pid c.processes.invariant
    c.in-Some.ensures (sym c.in_ok-fault.ensures ∙ c.in_default-2.is)
