use Rattle.std.proofs.Common.{◌∙◌, refl, subst}
use Rattle.nomos_types.specs.Acceptance.{Acceptance, IsAccepted}
use Rattle.nomos_machine.specs.TypedState.{IsTyped}
use Rattle.nomos_monitor.specs.Talks.{FiresLowest, TalkState}
use Rattle.nomos_monitor.proofs.RunningLaws.{fired-more, fired-none, fired-numbers}
use Rattle.nomos_monitor.proofs.outside_talk.OutsideTalk.fire_to_rest.Goals as goal

pub loop-made-init : goal.loop-made-init
loop-made-init g c = record {
  fired = fired-none c.args.self.now.a c.args.self.now.state;
  same_program = refl;
  same_account = refl;
}

pub step-requires : goal.step-requires
step-requires g c =
    let accepted = subst (λ (v : TalkState). IsAccepted v.a) c.self.view_is c.know.ensures.accepted in
    let typed = subst (λ (v : TalkState). IsTyped v.a v.state) c.self.view_is c.self.invariant.talk.party.typed in
    record {
      numbers =
          fired-numbers accepted typed c.loop-made.invariant.fired c.loop-made-test.true c.requires.objects
          c.requires.names;
    }

pub loop-made-preserved : goal.loop-made-preserved
loop-made-preserved g c =
    let looked = rw c.in_default.is at c.in_ok-how.ensures.ok in
    let same = c.loop-made.invariant.same_program in
    record {
      fired =
          fired-more c.loop-made.invariant.fired
          (subst (λ (a : Acceptance). FiresLowest a c.loop-made.self.state c.step.new.self.state) same looked);
      same_program = c.in_ok-how.ensures.same.0 ∙ same;
      same_account = c.in_ok-how.ensures.same.1 ∙ c.loop-made.invariant.same_account;
    }
