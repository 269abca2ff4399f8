use Rattle.nomos_legal.proofs.WorldCostLaws.{world-pays}
use Rattle.nomos_ledger.proofs.WorldLemmas.{OneFires, faulted-same, fired-stands, fired-under_way, has-fired, may-fire}
use Rattle.nomos_ledger.proofs.world.World.fire_with.Goals as goal
use Rattle.nomos_ledger.proofs.world.World.fire_with.Given.{Over}

pub fire_with-requires-clause-may : goal.fire_with-requires-clause-may
fire_with-requires-clause-may g c =
    let stands = rw (← c.self.view_is) at c.requires.stands in
    let numbers = rw (← c.self.view_is) at c.requires.numbers in
    may-fire c.know.ensures.accepted stands numbers

-- the process that fired
one : (g : Over) (c : goal.After-note g)
    → OneFires c.args.accepted.now c.self.inside.books c.fire_with.new.self c.self.inside.fired c.reserve.new.self
    c.note.new.self c.args.firing c.in-Some.place
one g c = record {
  rest = c.in_ok-answer.ensures.rest;
  at = c.in-Some.ensures;
  steps = rw c.in-Fired.is at c.in_ok-answer.ensures.ok;
  same_firings = c.in_ok-reserve.ensures.firings;
  same_places = c.in_ok-reserve.ensures.places;
  firings = c.note.ensures.firings;
  places = c.note.ensures.places;
}

pub returns-in-Fired-clause-ok : goal.returns-in-Fired-clause-ok
returns-in-Fired-clause-ok g c =
    let stands = rw (← c.self.view_is) at c.requires.stands in
    rw (← c.self.view_is, c.in-Fired.is)
    (has-fired c.know.ensures.accepted (one g c) c.self.inside.kept c.self.inside.starts stands
    c.self.invariant)

pub returns-in-Fired-clause-stands : goal.returns-in-Fired-clause-stands
returns-in-Fired-clause-stands g c =
    let stands = rw (← c.self.view_is) at c.requires.stands in
    fired-stands c.know.ensures.accepted (one g c) c.self.inside.kept c.self.inside.starts stands
    c.self.invariant

pub invariant_of-self-in-Fired : goal.invariant_of-self-in-Fired
invariant_of-self-in-Fired g c =
    let stands = rw (← c.self.view_is) at c.requires.stands in
    fired-under_way c.know.ensures.accepted (one g c) c.self.inside.kept c.self.inside.starts stands
    c.self.invariant

pub returns-in_err-reserve-clause-pays : goal.returns-in_err-reserve-clause-pays
returns-in_err-reserve-clause-pays g c under =
    let stands = rw (← c.self.view_is) at c.requires.stands in
    rw c.reserve.ensures.firings (world-pays under c.know.ensures.accepted stands)

pub returns-in_err-answer-clause-pays : goal.returns-in_err-answer-clause-pays
returns-in_err-answer-clause-pays g c under =
    let stands = rw (← c.self.view_is) at c.requires.stands in
    rw (c.reserve.ensures.firings, c.in_err-answer.ensures.err)
    (world-pays under c.know.ensures.accepted stands)

pub returns-in-Fired-clause-pays : goal.returns-in-Fired-clause-pays
returns-in-Fired-clause-pays g c under =
    world-pays under c.know.ensures.accepted (returns-in-Fired-clause-stands g c)

pub returns-in_default-answer-clause-pays : goal.returns-in_default-answer-clause-pays
returns-in_default-answer-clause-pays g c under =
    let stands = rw (← c.self.view_is) at c.requires.stands in
    let faults = rw c.in_default-answer.is at c.in_ok-answer.ensures.ok in
    let same = faulted-same c.self.inside.books c.fire_with.new.self c.in_ok-answer.ensures.rest faults.1 in
    rw (c.reserve.ensures.firings, same) (world-pays under c.know.ensures.accepted stands)
