-- The firings that were made are no longer left, and neither are their numbers.
use Rattle.std.proofs.Common.{refl}
use Rattle.nomos_visit.proofs.NumberLemmas.{held-settled}
use Rattle.nomos_visit.proofs.OpeningLemmas.{stopped-told}
use Rattle.nomos_visit.proofs.held.HeldTalk.settle.Goals as goal

pub returns-in-Quiet-clause-held : goal.returns-in-Quiet-clause-held
returns-in-Quiet-clause-held g c =
    held-settled refl c.in_ok-made.ensures.same.0 c.know.ensures.accepted
    c.state-state.ensures.talk.party.typed c.in_ok-made.ensures.ok refl

pub returns : goal.returns
returns g c = record {
  settled = record {
    made = c.in_ok-made.field-0.made;
    how = c.in_ok-made.field-0.how;
    rests = c.in_ok-made.ensures.ok;
    left = refl;
    told =
        stopped-told c.in_ok-made.field-0.how c.args.self.now.text.items c.push_stopped.new.text.items
        c.in_default.not-Quiet c.in_ok-push_stopped.ensures;
  };
  held =
      held-settled refl c.in_ok-made.ensures.same.0 c.know.ensures.accepted
      c.state-state.ensures.talk.party.typed c.in_ok-made.ensures.ok refl;
  same = c.in_ok-made.ensures.same;
}
