use Rattle.std.proofs.Common.{Bool, subst}
use Rattle.nomos_equality.specs.Paths.{StandAtEqualPaths}
use Rattle.nomos_types.specs.TypingRule as row
use Rattle.nomos_types.proofs.ModeLaws.{mode-in_range}
use Rattle.nomos_check.specs.Asking.{AsksPair}
use Rattle.nomos_check.specs.mirror.Passing.{TellsAlike}
use Rattle.nomos_check.specs.mirror.StandingData.{shape_of}
use Rattle.nomos_check.proofs.LeadLemmas.{not-true}
use Rattle.nomos_check.proofs.PairLemmas.{joins-same}
use Rattle.nomos_check.proofs.SendSteps.{forward-asks, forward-stays, only-in_range}
use Rattle.nomos_check.proofs.StepRows.{fwd-stuck}
use Rattle.nomos_check.proofs.sending.at_fwd.Goals as goal

pub returns-then-not-is_mode-clause-tells : goal.returns-then-not-is_mode-clause-tells
returns-then-not-is_mode-clause-tells c =
    fwd-stuck c.requires.stands.1 (λ says. not-true c.if-not-is_mode.true (c.is_mode.ensures.1 says.mode))

pub returns-in-None-clause-tells : goal.returns-in-None-clause-tells
returns-in-None-clause-tells c = fwd-stuck c.requires.stands.1 (λ says. c.in-None.ensures says.own says.only)

pub are_alike-requires-clause-own : goal.are_alike-requires-clause-own
are_alike-requires-clause-own c = mode-in_range c.requires.formed.program c.requires.within.suits.offers

pub are_alike-requires-clause-other : goal.are_alike-requires-clause-other
are_alike-requires-clause-other c =
    only-in_range c.args.program.now (shape_of c.args.now.now) c.args.v c.in-Some.own c.requires.formed.program
    c.requires.within.judgement c.in-Some.ensures

pub returns-then-branch-clause-tells : goal.returns-then-branch-clause-tells
returns-then-branch-clause-tells c =
    let lists = c.args.program.now in
    let s = c.args.now.now in
    let Tells : Bool → Type 0 = TellsAlike lists s.offers c.in-Some.own c.args.asked.now c.are_alike.new.asked in
    let tells = subst Tells c.if-branch.true c.in_ok-are_alike.ensures.tells in
    row.fwd c.requires.stands.1 (record {
      mode = c.is_mode.ensures.0 c.if-not-is_mode.false;
      own = c.in-Some.own;
      only = c.in-Some.ensures;
      alike = tells.0;
    })

pub returns-then-branch-clause-asks : goal.returns-then-branch-clause-asks
returns-then-branch-clause-asks c =
    let lists = c.args.program.now in
    let s = c.args.now.now in
    let own = c.in-Some.own in
    let Tells : Bool → Type 0 = TellsAlike lists s.offers own c.args.asked.now c.are_alike.new.asked in
    let tells = subst Tells c.if-branch.true c.in_ok-are_alike.ensures.tells in
    λ a has.
    joins-same c.args.asked.now c.are_alike.new.asked (StandAtEqualPaths lists s.offers own) (AsksPair lists
    (shape_of s) a)
    tells.1
    (forward-asks lists (shape_of s) a c.requires.stands.0 c.args.v own c.requires.stands.1 c.in-Some.ensures)

pub returns-else-branch-clause-tells : goal.returns-else-branch-clause-tells
returns-else-branch-clause-tells c =
    let lists = c.args.program.now in
    let s = c.args.now.now in
    let own = c.in-Some.own in
    let Tells : Bool → Type 0 = TellsAlike lists s.offers own c.args.asked.now c.are_alike.new.asked in
    let differ = subst Tells c.if-branch.false c.in_ok-are_alike.ensures.tells in
    fwd-stuck c.requires.stands.1 (forward-stays lists (shape_of s) c.args.v own c.in-Some.ensures differ)
