use Rattle.std.proofs.Common.{◌∙◌, ℕ, ◌-◌, ◌<◌, List, ◌++◌, ap, sym, arith, append_assoc, append-nil}
use Rattle.nomos_machine.specs.Objects.{object_number}
use Rattle.nomos_machine.specs.declared.object.Object.TheVariants as object
use Rattle.nomos_deeds.specs.Readers.{IsWaiting}
use Rattle.nomos_report.specs.Reported.{waits_lines}
use Rattle.nomos_report.specs.mirror.NamedLines.{waiting_line}
use Rattle.nomos_report.specs.mirror.Walked.{walked}
use Rattle.nomos_report.proofs.LeftLemmas.{object-below, objects-first, objects-last, objects-next, waits-silent, waits-told}
use Rattle.nomos_report.proofs.left.push_waits.Goals as goal

pub loop-next-init : goal.loop-next-init
loop-next-init g c =
    let objects = (g.M.Sight.state c.args.machine.now).objects in
    let before : List ℕ = c.args.text.now.items in
    sym
    (ap (λ (t : List ℕ). before ++ t) (objects-first c.requires.numbered (waits_lines c.args.accepted.now objects))
    ∙ append-nil before)

pub loop-next-smaller : goal.loop-next-smaller
loop-next-smaller g c =
    let s = g.M.Sight.state c.args.machine.now in
    let waiting = waits-told c.args.accepted.now c.requires.numbered c.in-Some.next c.in-Some.ensures.holds in
    let below : c.in-Some.next < s.next_object =
    object-below c.requires.numbered c.in-Some.next (object.Process waiting.process) waiting.there
    in
    let smaller : s.next_object - c.in-Some.next < s.next_object - c.loop-next.pid =
    omega (arith, below, c.in-Some.ensures.over)
    in
    smaller

pub loop-next-preserved : goal.loop-next-preserved
loop-next-preserved g c =
    let a = c.args.accepted.now in
    let s = g.M.Sight.state c.args.machine.now in
    let before : List ℕ = c.args.text.now.items in
    let next : ℕ = c.in-Some.next in
    let waiting = waits-told a c.requires.numbered next c.in-Some.ensures.holds in
    let so_far : List ℕ = walked object_number (waits_lines a s.objects) c.loop-next.pid s.objects in
    let one : List ℕ = waiting_line a s.objects next in
    let more =
    objects-next c.requires.numbered (IsWaiting a s.objects) (waits_lines a s.objects)
    (waits-silent a c.requires.numbered) c.loop-next.pid next (object.Process waiting.process) waiting.there
    c.in-Some.ensures
    ∙ ap (λ (t : List ℕ). so_far ++ t) waiting.told
    in
    c.in_ok-push_waits_line.ensures
    ∙ ap (λ (t : List ℕ). t ++ one) c.loop-next.invariant
    ∙ append_assoc before so_far one
    ∙ ap (λ (t : List ℕ). before ++ t) (sym more)

pub returns : goal.returns
returns g c =
    let a = c.args.accepted.now in
    let s = g.M.Sight.state c.args.machine.now in
    c.loop-next.invariant
    ∙ ap (λ (t : List ℕ). c.args.text.now.items ++ t)
    (objects-last c.requires.numbered (IsWaiting a s.objects) (waits_lines a s.objects)
    (waits-silent a c.requires.numbered) c.loop-next.pid c.in_default.ensures)
