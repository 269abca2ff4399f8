use Rattle.std.proofs.Common.{◌≡◌, ◌∙◌, true, ap, sym}
use Rattle.nomos_ir.specs.declared.lists.ProgramLists.{ProgramLists}
use Rattle.nomos_machine.specs.Sight.{is_shared_name}
use Rattle.nomos_machine.specs.declared.object.Process.{Process}
use Rattle.nomos_changes.specs.SmallChanges.{with_process}
use Rattle.nomos_changes.proofs.BecomesLemmas.{process-same}
use Rattle.nomos_changes.proofs.HandLemmas.{hands-shared}
use Rattle.nomos_changes.proofs.spawning.hand_over_channel.Goals as goal
use Rattle.nomos_changes.proofs.spawning.hand_over_channel.Goals.{in-Some, in-None}

pub returns-else-not-stays-clause-state : goal.returns-else-not-stays-clause-state
returns-else-not-stays-clause-state g c a p q program there =
    let s = g.P.Sight.state c.args.parts.now in
    elim c.match-channel.branch [
      | in-Some w ↦
          let shared : is_shared_name a.program s.types w.in-Some.name ≡ true =
          ap (λ (lists : ProgramLists). is_shared_name lists s.types w.in-Some.name) program
          ∙ sym w.is_shared_name-stays.ensures ∙ sym w.stays-is ∙ c.if-not-stays.false in
          sym (process-same s c.args.pid q there)
          ∙ ap (λ (r : Process). with_process c.args.pid r s)
          (sym (hands-shared a s p c.args.v q w.in-Some.name (w.in-Some.ensures q there) shared))
      | in-None w ↦ absurd cc
    ]
