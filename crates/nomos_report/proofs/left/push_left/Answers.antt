use Rattle.std.proofs.Common.{◌∙◌, ℕ, ◌-◌, ◌<◌, List, ◌++◌, ap, sym, arith, append_assoc, append-nil, codes, decimal}
use Rattle.nomos_machine.specs.Objects.{object_number}
use Rattle.nomos_machine.specs.declared.object.Object.TheVariants as object
use Rattle.nomos_deeds.specs.Readers.{IsTransaction}
use Rattle.nomos_report.specs.ReportLines.{line}
use Rattle.nomos_report.specs.Reported.{left_lines}
use Rattle.nomos_report.specs.mirror.Walked.{walked}
use Rattle.nomos_report.proofs.LeftLemmas.{left-before, left-silent, left-told, object-below, objects-last, objects-next}
use Rattle.nomos_report.proofs.left.push_left.Goals as goal

pub loop-next-init : goal.loop-next-init
loop-next-init g c =
    let before : List ℕ = c.args.text.now.items in
    sym (ap (λ (t : List ℕ). before ++ t) (left-before c.requires.numbered c.args.before c.requires.over)
    ∙ append-nil before)

pub loop-next-smaller : goal.loop-next-smaller
loop-next-smaller g c =
    let s = g.M.Sight.state c.args.machine.now in
    let next = c.in-Some.ensures in
    let below : c.in-Some.next < s.next_object =
    object-below c.requires.numbered c.in-Some.next (object.Process next.holds.process) next.holds.there
    in
    let smaller : s.next_object - c.in-Some.next < s.next_object - c.loop-next.pid =
    omega (arith, below, next.over)
    in
    smaller

pub loop-next-preserved : goal.loop-next-preserved
loop-next-preserved g c =
    let s = g.M.Sight.state c.args.machine.now in
    let before : List ℕ = c.args.text.now.items in
    let next = c.in-Some.ensures in
    let so_far : List ℕ = walked object_number left_lines c.loop-next.pid s.objects in
    let one : List ℕ = line (codes "left " ++ decimal c.in-Some.next) in
    let more =
    objects-next c.requires.numbered (IsTransaction s.objects) left_lines (left-silent c.requires.numbered)
    c.loop-next.pid c.in-Some.next (object.Process next.holds.process) next.holds.there next
    ∙ ap (λ (t : List ℕ). so_far ++ t) (left-told c.requires.numbered c.in-Some.next next.holds)
    in
    c.in_ok-push_left_line.ensures
    ∙ ap (λ (t : List ℕ). t ++ one) c.loop-next.invariant
    ∙ append_assoc before so_far one
    ∙ ap (λ (t : List ℕ). before ++ t) (sym more)

pub returns : goal.returns
returns g c =
    let s = g.M.Sight.state c.args.machine.now in
    c.loop-next.invariant
    ∙ ap (λ (t : List ℕ). c.args.text.now.items ++ t)
    (objects-last c.requires.numbered (IsTransaction s.objects) left_lines (left-silent c.requires.numbered)
    c.loop-next.pid c.in_default.ensures)
