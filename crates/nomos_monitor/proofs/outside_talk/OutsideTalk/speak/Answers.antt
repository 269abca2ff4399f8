use Rattle.std.proofs.Common.{◌∙◌, ◌≤◌, ℕ, Option, refl, sym, subst, ap, arith, slice_index}
use Rattle.std.specs.Option.{unwrap_or}
use Rattle.nomos_machine.specs.Saying.{MaySayWith}
use Rattle.nomos_monitor.proofs.KeepingLaws.{has-balance, said-talk, talk-can_say}
use Rattle.nomos_monitor.proofs.outside_talk.OutsideTalk.speak.Goals as goal

pub returns-in_default-clause-answers : goal.returns-in_default-clause-answers
returns-in_default-clause-answers g c = rw (← c.self.view_is) (c.in_default.ensures, refl)

pub returns-then-has-needs-clause-answers : goal.returns-then-has-needs-clause-answers
returns-then-has-needs-clause-answers g c =
    let s = g.M.Sight.state c.self.inside.running.machine in
    let may = subst (λ (n : ℕ). MaySayWith c.self.inside.accepted.now s c.args.said.now n) (sym c.from-needs.ensures)
    c.in-Some.ensures in
    let has = has-balance s.balances c.self.inside.account c.unwrap_or-has.result
    (c.unwrap_or-has.ensures ∙ ap (λ (o : Option ℕ). unwrap_or o 0) c.balance.ensures) in
    rw (← c.self.view_is) ((may, has, c.if-has-needs.true), refl)

pub say-requires-clause-say : goal.say-requires-clause-say
say-requires-clause-say g c =
    let s = g.M.Sight.state c.self.inside.running.machine in
    let has = has-balance s.balances c.self.inside.account c.unwrap_or-has.result
    (c.unwrap_or-has.ensures ∙ ap (λ (o : Option ℕ). unwrap_or o 0) c.balance.ensures) in
    let enough : c.in-Some.gas ≤ slice_index s.balances c.self.inside.account =
    omega (arith, c.if-has-needs.false, c.from-needs.ensures, has) in
    talk-can_say c.self.invariant.talk c.in-Some.ensures enough

pub invariant_of-self : goal.invariant_of-self
invariant_of-self g c = record {
  talk =
      said-talk c.know.ensures.accepted (g.M.Sight.state c.self.inside.running.machine)
      (g.M.Sight.state c.say.new.self.machine) c.self.inside.account c.args.said.now c.say.result c.say.ensures.ok
      c.say.ensures.err c.self.invariant.talk;
  watched = c.say.ensures.watched;
  unmarked = c.say.ensures.marked;
}
