use Rattle.std.proofs.Common.{◌∙◌, ℕ, ap, refl}
use Rattle.nomos_machine.specs.Revised.{poorer, standing_at, with_channel}
use Rattle.nomos_machine.specs.declared.object.Process.{Process}
use Rattle.nomos_changes.specs.SmallChanges.{with_process}
use Rattle.nomos_changes.proofs.BecomesLemmas.{becomes-next, fields-end}
use Rattle.nomos_changes.proofs.spawning.meet_child.Goals as goal

pub returns-clause-state : goal.returns-clause-state
returns-clause-state g c p purse there fields =
    let s = g.P.Sight.state c.args.parts.now in
    let spawn = c.args.spawn in
    let bound = g.P.Sight.state c.bind_channel.new.self in
    let written = g.P.Sight.state c.set_fields.new.self in
    let met : Process = with_channel spawn.variable c.fresh_name-name.result p in
    let goes : Process = standing_at spawn.next (poorer purse met) in
    becomes-next s bound written spawn.pid p met goes there refl (c.bind_channel.ensures.state p there)
    (λ at. fields-end bound written spawn.pid met goes c.args.fields at fields refl refl c.set_fields.ensures.state)
    ∙ ap (λ (n : ℕ). with_process spawn.pid (standing_at spawn.next (with_channel spawn.variable n (poorer purse p))) s)
    c.fresh_name-name.ensures
