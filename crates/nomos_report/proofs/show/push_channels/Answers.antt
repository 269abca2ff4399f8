use Rattle.std.proofs.Common.{◌∙◌, ℕ, ◌-◌, ◌<◌, List, ◌++◌, ap, sym, arith, append_assoc}
use Rattle.nomos_ir.specs.declared.ids.TypeId.{TypeId}
use Rattle.nomos_report.specs.ShownState.{channel_line}
use Rattle.nomos_report.specs.mirror.NamedLines.{name_line}
use Rattle.nomos_report.specs.mirror.Walked.{walked}
use Rattle.nomos_report.proofs.ChannelLemmas.{name-below, names-first, names-last, names-next}
use Rattle.nomos_report.proofs.show.push_channels.Goals as goal

pub loop-next-init : goal.loop-next-init
loop-next-init g c =
    let a = c.args.accepted.now in
    let s = g.M.Sight.state c.args.machine.now in
    c.in_ok-push_name.ensures
    ∙ ap (λ (t : List ℕ). c.args.text.now.items ++ t) (sym (names-first a s s.types c.requires.numbered.table))

pub loop-next-smaller : goal.loop-next-smaller
loop-next-smaller g c =
    let s = g.M.Sight.state c.args.machine.now in
    let below : c.in-Some.next < s.next_name =
    name-below s c.requires.numbered c.args.accepted.now.program c.in-Some.next c.in-Some.ensures.holds
    in
    let smaller : s.next_name - c.in-Some.next < s.next_name - c.loop-next.name =
    omega (arith, below, c.in-Some.ensures.over)
    in
    smaller

pub loop-next-preserved : goal.loop-next-preserved
loop-next-preserved g c =
    let a = c.args.accepted.now in
    let s = g.M.Sight.state c.args.machine.now in
    let n : ℕ = c.loop-next.name in
    let m : ℕ = c.in-Some.next in
    let before : List ℕ = c.args.text.now.items in
    let so_far : List ℕ = walked (λ (t : ℕ × TypeId). t.0) (channel_line a s) n s.types in
    c.in_ok-push_name-2.ensures
    ∙ ap (λ (t : List ℕ). t ++ name_line a s m) c.loop-next.invariant
    ∙ append_assoc before so_far (name_line a s m)
    ∙ ap (λ (t : List ℕ). before ++ t)
    (sym (names-next a s c.know.ensures.accepted c.requires.numbered.table n m c.in-Some.ensures))

pub returns : goal.returns
returns g c =
    let a = c.args.accepted.now in
    let s = g.M.Sight.state c.args.machine.now in
    c.loop-next.invariant
    ∙ ap (λ (t : List ℕ). c.args.text.now.items ++ t)
    (names-last a s c.know.ensures.accepted c.requires.numbered.table c.loop-next.name c.in_default.ensures)
