-- What is said is told, and how the firings behind it came to rest; or why it is not said.
use Rattle.std.proofs.Common.{◌≡◌, ◌++◌, ℕ, refl, subst}
use Rattle.std.specs.Prelude.{codes, decimal}
use Rattle.nomos_visit.specs.TalkText.{talk_line_text, unsaid_text}
use Rattle.nomos_visit.specs.declared.held.HeldTalk.{HeldTalk}
use Rattle.nomos_visit.proofs.NumberLemmas.{held-unsaid}
use Rattle.nomos_visit.proofs.TurnLemmas.{HasSaid, answer-unsaid, settled-taken, unsaid-taken}
use Rattle.nomos_visit.proofs.held.HeldTalk.speak.Goals as goal

pub returns-in_default-clause-taken : goal.returns-in_default-clause-taken
returns-in_default-clause-taken g c =
    let told : HeldTalk g.row.M.Denot = record {
      accepted = c.args.self.now.accepted;
      talk = c.say.new.self;
      left = c.args.self.now.left;
      text = c.push_said.new.text;
    } in
    let said : HasSaid c.args.number c.args.said.now c.args.self.now told = record {
      says = c.in_default.ensures.answers;
      left = refl;
      program = c.in_default.ensures.same.0;
      account = c.in_default.ensures.same.1;
      printed = c.in_ok-push_said.ensures;
    } in
    settled-taken c.settle.new.self said c.settle.ensures.same.0 c.settle.ensures.same.1 c.settle.result
    c.settle.ensures.settled

pub returns : goal.returns
returns g c =
    let held = c.args.self.now in
    let told : HeldTalk g.row.M.Denot = record {
      accepted = held.accepted;
      talk = c.say.new.self;
      left = held.left;
      text = c.push_unsaid.new.text;
    } in
    let both = answer-unsaid held.talk.a held.talk.state c.say.new.self.state held.talk.account c.args.said.now
    c.in-Err.why c.in_default-why.not-NoMemory c.in-Err.ensures.answers in
    let printed = subst (λ (unit : ℕ). told.text.items ≡ held.text.items ++ talk_line_text (decimal c.args.number
    ++ codes " " ++ unsaid_text unit c.in-Err.why)) c.unit.ensures c.in_ok-push_unsaid.ensures in
    record {
      taken =
          unsaid-taken c.args.number held told c.in-Err.ensures.same.0 c.in-Err.ensures.same.1 c.requires.1.program
          c.args.said.now c.in-Err.why both.0 printed;
      held = held-unsaid refl c.in-Err.ensures.same.0 both.1 refl;
    }
