use Rattle.std.proofs.Common.{◌∙◌, ◌+◌, List, drop, ap, sym, arith}
use Rattle.nomos_ir.specs.declared.ids.VarId.{VarId}
use Rattle.nomos_machine.specs.Deeds.{hands_over_lists}
use Rattle.nomos_machine.specs.declared.object.PotentialList.{PotentialList}
use Rattle.nomos_changes.specs.SmallChanges.{with_lists}
use Rattle.nomos_changes.proofs.GivenLemmas.{hands-list, hands-no_lists, hands-term}
use Rattle.nomos_changes.proofs.spawning.without_lists.Goals as goal
use Rattle.nomos_changes.proofs.spawning.without_lists.Goals.{in-Term, in-List}

pub loop-arg-init : goal.loop-arg-init
loop-arg-init c a s p same =
    ap (λ (lists : List (VarId × PotentialList)). hands_over_lists a s p c.args.args.now (with_lists lists p))
    (c.in_ok-left.ensures ∙ sym same)

pub loop-arg-preserved : goal.loop-arg-preserved
loop-arg-preserved c a s p same =
    let args = c.args.args.now in
    let i = c.loop-arg.arg-index in
    elim c.match-arg.branch [
      | in-Term w ↦ rw w.left-is
          (hands-term a s p args i _ w.in-Term.field-0 (with_lists c.loop-arg.left.items p) (omega arith) w.in-Term.is
          ∙ c.loop-arg.invariant a s p same)
      | in-List w ↦ rw w.left-is
          (ap (λ (lists : List (VarId × PotentialList)). hands_over_lists a s p (drop (i + 1) args)
          (with_lists lists p))
          w.hand_over_list.ensures
          ∙ hands-list a s p args i _ w.in-List.w (with_lists c.loop-arg.left.items p) (omega arith) w.in-List.is
          ∙ c.loop-arg.invariant a s p same)
    ]

pub returns : goal.returns
returns c a s p same =
    hands-no_lists a s p c.args.args.now c.loop-arg.arg-index (with_lists c.loop-arg.left.items p) (omega arith)
    ∙ c.loop-arg.invariant a s p same
