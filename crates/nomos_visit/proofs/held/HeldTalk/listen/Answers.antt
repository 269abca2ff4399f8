-- What is heard is told.
use Rattle.std.proofs.Common.{refl}
use Rattle.nomos_visit.proofs.TurnLemmas.{told-heard}
use Rattle.nomos_visit.proofs.held.HeldTalk.listen.Goals as goal

pub returns-clause-taken : goal.returns-clause-taken
returns-clause-taken g c =
    told-heard c.args.number c.args.self.now
    (record {
      accepted = c.args.self.now.accepted;
      talk = c.hear.new.self;
      left = c.args.self.now.left;
      text = c.push_heard.new.text;
    })
    c.in_ok-heard.ensures.same.0 c.in_ok-heard.ensures.same.1 c.requires.1.program c.push_heard.result
    c.in_ok-heard.heard c.in_ok-heard.ensures.ok refl (rw c.as_ref.ensures.value at c.push_heard.ensures)
