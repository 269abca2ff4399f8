use Rattle.std.proofs.Common.{◌≡◌, ◌∙◌, ◌-◌, ap, sym}
use Rattle.std.specs.Global.{Vec}
use Rattle.std.specs.Option.{option_map}
use Rattle.nomos_ir.specs.declared.ids.VarId.{VarId}
use Rattle.nomos_deeds.specs.declared.sight.SeenProcess.{SeenProcess}
use Rattle.nomos_machine.specs.declared.object.PotentialList.{PotentialList}
use Rattle.nomos_machine.specs.Deeds.{hands_over_all}
use Rattle.nomos_machine.specs.Revised.{poorer, standing_at, with_channel}
use Rattle.nomos_machine.specs.State.{State}
use Rattle.nomos_machine.specs.declared.object.Process.{Process}
use Rattle.nomos_changes.specs.Beginnings.{with_lists_if_any}
use Rattle.nomos_changes.specs.SmallChanges.{with_process}
use Rattle.nomos_changes.proofs.BecomesLemmas.{becomes-next}
use Rattle.nomos_changes.proofs.BirthLemmas.{lists-seen, turns-then}
use Rattle.nomos_changes.proofs.HandLemmas.{hands_all-seen}
use Rattle.nomos_changes.proofs.spawning.give_birth.Goals as goal

pub returns-clause-state : goal.returns-clause-state
returns-clause-state g c a p purse program there fields =
    let state = g.P.Sight.state in
    let s = state c.args.parts.now in
    let spawn = c.args.spawn in
    let channels = c.args.birth.channels.now in
    let lists = option_map (λ (kept : Vec (VarId × PotentialList)). kept.items) c.args.birth.lists in
    let left : Process = with_lists_if_any lists p in
    let rest : Process = hands_over_all a s p channels left in
    let over = state c.hand_over_channels.new.parts in
    let pid = λ (x : SeenProcess). x.pid in
    let kept = lists-seen lists p in
    let seen = hands_all-seen a s p channels left ∙ kept in
    let handed : over ≡ with_process spawn.pid rest s =
    turns-then s (state c.keep_lists.new.parts) over spawn.pid p left
    (λ (t : State) (q : Process). hands_over_all a t p channels q) there (ap pid kept)
    (c.keep_lists.ensures.state p there)
    (λ r there_then. c.hand_over_channels.ensures.state a p r program there_then) in
    let goes : State → Process =
    λ (t : State). standing_at spawn.next (with_channel spawn.variable t.next_name (poorer purse rest)) in
    becomes-next s over (state c.meet_child.new.parts) spawn.pid p rest (goes over) there (ap pid seen) handed
    (λ at. c.meet_child.ensures.state rest purse at
    (fields ∙ ap (λ (x : SeenProcess). record x { code = spawn.next; purse = x.purse - purse }) (sym seen)))
    ∙ ap (λ (t : State). with_process spawn.pid (goes t) s) handed
