-- Behind the opening the talk comes to rest, and then the lines are taken.
use Rattle.std.proofs.Common.{Bool, length, refl, subst}
use Rattle.nomos_visit.specs.mirror.Holding.{HasSettled}
use Rattle.nomos_visit.specs.declared.held.HeldTalk.{HeldTalk}
use Rattle.nomos_visit.proofs.OpeningLemmas.{opened-stopped, opened-told}
use Rattle.nomos_visit.proofs.held.HeldTalk.hold_from_opening.Goals as goal

pub returns-then-not-branch : goal.returns-then-not-branch
returns-then-not-branch g c s proc opens =
    let opened : HeldTalk g.row.M.Denot = record {
      accepted = c.args.self.now.accepted;
      talk = c.args.self.now.talk;
      left = c.args.self.now.left;
      text = c.push_opened.new.text;
    } in
    opened-stopped c.args.lines.now c.args.self.now opened c.settle.new.self opens refl refl c.in_ok-push_opened.ensures
    (subst (λ (b : Bool). HasSettled opened b c.settle.new.self) c.if-not-branch.true c.in_ok-settle.ensures.settled)

pub hold-requires-clause-held : goal.hold-requires-clause-held
hold-requires-clause-held g c =
    c.in_ok-settle.ensures.held (length c.args.lines.now)
    (record { program = c.requires.held.program; room = c.requires.held.room })

pub returns : goal.returns
returns g c s proc opens =
    let opened : HeldTalk g.row.M.Denot = record {
      accepted = c.args.self.now.accepted;
      talk = c.args.self.now.talk;
      left = c.args.self.now.left;
      text = c.push_opened.new.text;
    } in
    opened-told c.args.lines.now c.args.self.now opened c.settle.new.self opens refl refl c.in_ok-push_opened.ensures
    c.hold.new.self c.hold.result c.in_ok-settle.ensures.same.0 c.in_ok-settle.ensures.same.1
    (subst (λ (b : Bool). HasSettled opened b c.settle.new.self) c.if-not-branch.false c.in_ok-settle.ensures.settled)
    c.hold.ensures
