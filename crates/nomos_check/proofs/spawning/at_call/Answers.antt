use Rattle.std.proofs.Common.{◌≡◌, ◌⊎◌, ◌∙◌, Bool, ap, sym, subst, arith}
use Rattle.nomos_equality.specs.Paths.{StandAtEqualPaths}
use Rattle.nomos_ir.specs.declared.amount.Amount.{Amount}
use Rattle.nomos_ir.specs.declared.code_node.CodeNode.TheVariants as code
use Rattle.nomos_types.proofs.EqualityLaws.{no_dths}
use Rattle.nomos_types.specs.Equality.{no_amounts}
use Rattle.nomos_types.specs.Judgement.{Judgement}
use Rattle.nomos_types.specs.TypingRule as row
use Rattle.nomos_types.proofs.ModeLaws.{mode-in_range}
use Rattle.nomos_check.specs.Asking.{AsksPair}
use Rattle.nomos_check.specs.mirror.Passing.{TellsAlike, TellsArguments, PairOfValues, PairOfChannels, carried_by_all}
use Rattle.nomos_check.specs.mirror.StandingData.{shape_of}
use Rattle.nomos_check.proofs.ArgumentSteps.{arguments-ask, arguments-one, call-asks, call-stays, declared-in_range, joins-both}
use Rattle.nomos_check.proofs.FoundLemmas.{code-in_range}
use Rattle.nomos_check.proofs.LeadLemmas.{not-true}
use Rattle.nomos_check.proofs.PairLemmas.{joins-same}
use Rattle.nomos_ir.specs.declared.declaration.ProcDecl.{ProcDecl}
use Rattle.nomos_types.specs.Alike.{AlikeTypes}
use Rattle.nomos_types.specs.Arguments.{ArgumentsFit}
use Rattle.nomos_check.proofs.AskingLaws.{ArgumentsAsk}
use Rattle.nomos_check.proofs.spawning.at_call.Goals as goal

pub proc-called-requires : goal.proc-called-requires
proc-called-requires c =
    let node = code.Call c.requires.stands.0 c.args.f c.args.args.now in
    (code-in_range c.args.program.now (shape_of c.args.now.now) node c.requires.formed.program
    c.requires.stands.1).calls 0 0 (omega arith)

pub returns-then-not-is_mode-clause-tells : goal.returns-then-not-is_mode-clause-tells
returns-then-not-is_mode-clause-tells c =
    call-stays c.args.program.now (shape_of c.args.now.now) c.requires.stands.0 c.args.f c.args.args.now
    c.proc-called.result.now c.requires.stands.1 c.proc-called.ensures
    (λ says same.
    let its = says.mode in
    not-true c.if-not-is_mode.true
    (c.is_mode.ensures.1 (subst (λ (p : ProcDecl). p.mode ≡ c.args.now.now.mode) same its)))

pub are_alike-requires-clause-own : goal.are_alike-requires-clause-own
are_alike-requires-clause-own c = mode-in_range c.requires.formed.program c.requires.within.suits.offers

pub are_alike-requires-clause-other : goal.are_alike-requires-clause-other
are_alike-requires-clause-other c =
    (declared-in_range c.args.program.now c.args.f.0 c.proc-called.result.now c.requires.formed.program
    c.proc-called.ensures).offers

pub returns-then-not-branch-clause-tells : goal.returns-then-not-branch-clause-tells
returns-then-not-branch-clause-tells c =
    let lists = c.args.program.now in
    let s = c.args.now.now in
    let d = c.proc-called.result.now in
    let Alike : Bool → Type 0 = TellsAlike lists s.offers d.offers c.args.asked.now c.are_alike.new.asked in
    let differ = subst Alike c.if-not-branch.true c.in_ok-are_alike.ensures.tells in
    call-stays c.args.program.now (shape_of c.args.now.now) c.requires.stands.0 c.args.f c.args.args.now
    c.proc-called.result.now c.requires.stands.1 c.proc-called.ensures
    (λ says same. differ (subst (λ (p : ProcDecl). AlikeTypes lists no_amounts s.offers p.offers) same says.offers))

pub pass_arguments-requires-clause-terms : goal.pass_arguments-requires-clause-terms
pass_arguments-requires-clause-terms c =
    let node = code.Call c.requires.stands.0 c.args.f c.args.args.now in
    (code-in_range c.args.program.now (shape_of c.args.now.now) node c.requires.formed.program
    c.requires.stands.1).terms

pub pass_arguments-requires-clause-in_range : goal.pass_arguments-requires-clause-in_range
pass_arguments-requires-clause-in_range c =
    (declared-in_range c.args.program.now c.args.f.0 c.proc-called.result.now c.requires.formed.program
    c.proc-called.ensures).channels

pub returns-then-not-branch-2-clause-tells : goal.returns-then-not-branch-2-clause-tells
returns-then-not-branch-2-clause-tells c =
    let lists = c.args.program.now in
    let s = c.args.now.now in
    let d = c.proc-called.result.now in
    let mid = c.pass_arguments.new.now in
    let old = c.args.asked.now in
    let between = c.are_alike.new.asked in
    let new = c.pass_arguments.new.asked in
    let Alike : Bool → Type 0 = TellsAlike lists s.offers d.offers old between in
    let Tells : Bool → Type 0 = λ b. TellsArguments lists s mid d c.args.args.now between new b in
    let stays = subst Tells c.if-not-branch-2.true c.in_ok-pass_arguments.ensures.tells in
    call-stays c.args.program.now (shape_of c.args.now.now) c.requires.stands.0 c.args.f c.args.args.now
    c.proc-called.result.now c.requires.stands.1 c.proc-called.ensures
    (λ says same.
    let Fits : ProcDecl → Type 0 = λ p. ArgumentsFit lists no_amounts (shape_of s) p c.args.args.now says.left in
    stays says.left (subst Fits same says.arguments))

pub returns-then-is_empty-clause-tells : goal.returns-then-is_empty-clause-tells
returns-then-is_empty-clause-tells c =
    let lists = c.args.program.now in
    let s = c.args.now.now in
    let d = c.proc-called.result.now in
    let mid = c.pass_arguments.new.now in
    let old = c.args.asked.now in
    let between = c.are_alike.new.asked in
    let new = c.pass_arguments.new.asked in
    let Alike : Bool → Type 0 = TellsAlike lists s.offers d.offers old between in
    let Tells : Bool → Type 0 = λ b. TellsArguments lists s mid d c.args.args.now between new b in
    let alike = subst Alike c.if-not-branch.false c.in_ok-are_alike.ensures.tells in
    let passed = subst Tells c.if-not-branch-2.false c.in_ok-pass_arguments.ensures.tells in
    let nothing = no_dths d.amount in
    row.call c.requires.stands.1 (record {
      d = d;
      declared = c.proc-called.ensures;
      offers = alike.0;
      mode = c.is_mode.ensures.0 c.if-not-is_mode.false;
      left = shape_of mid;
      arguments = passed.fit;
      nothing_held = c.is_empty.ensures.0 c.if-is_empty.true;
      enough = omega arith;
    })

pub returns-then-is_empty-clause-asks : goal.returns-then-is_empty-clause-asks
returns-then-is_empty-clause-asks c =
    let lists = c.args.program.now in
    let s = c.args.now.now in
    let d = c.proc-called.result.now in
    let mid = c.pass_arguments.new.now in
    let old = c.args.asked.now in
    let between = c.are_alike.new.asked in
    let new = c.pass_arguments.new.asked in
    let Alike : Bool → Type 0 = TellsAlike lists s.offers d.offers old between in
    let Tells : Bool → Type 0 = λ b. TellsArguments lists s mid d c.args.args.now between new b in
    let alike = subst Alike c.if-not-branch.false c.in_ok-are_alike.ensures.tells in
    let passed = subst Tells c.if-not-branch-2.false c.in_ok-pass_arguments.ensures.tells in
    let j = shape_of s in
    let args = c.args.args.now in
    let Paths : Amount × Amount → Type 0 = StandAtEqualPaths lists s.offers d.offers in
    let Pairs : Amount × Amount → Type 0 =
    λ pair. PairOfValues (carried_by_all s) args.values d.values pair
    ⊎ PairOfChannels lists j args.channels d.channels pair
    in
    λ a has.
    joins-same old new (λ pair. Paths pair ⊎ ArgumentsAsk lists j a d args pair) (AsksPair lists j a)
    (joins-both old between new Paths Pairs (ArgumentsAsk lists j a d args) alike.1 passed.joins
    (λ pair. arguments-ask lists j s a d args has.lists pair))
    (λ pair.
    call-asks lists j a c.requires.stands.0 c.args.f args d c.requires.stands.1 c.proc-called.ensures pair)

pub returns-else-is_empty-clause-tells : goal.returns-else-is_empty-clause-tells
returns-else-is_empty-clause-tells c =
    let lists = c.args.program.now in
    let s = c.args.now.now in
    let d = c.proc-called.result.now in
    let mid = c.pass_arguments.new.now in
    let old = c.args.asked.now in
    let between = c.are_alike.new.asked in
    let new = c.pass_arguments.new.asked in
    let Alike : Bool → Type 0 = TellsAlike lists s.offers d.offers old between in
    let Tells : Bool → Type 0 = λ b. TellsArguments lists s mid d c.args.args.now between new b in
    let passed = subst Tells c.if-not-branch-2.false c.in_ok-pass_arguments.ensures.tells in
    call-stays c.args.program.now (shape_of c.args.now.now) c.requires.stands.0 c.args.f c.args.args.now
    c.proc-called.result.now c.requires.stands.1 c.proc-called.ensures
    (λ says same.
    let Fits : ProcDecl → Type 0 = λ p. ArgumentsFit lists no_amounts (shape_of s) p c.args.args.now says.left in
    let one : says.left ≡ shape_of mid = arguments-one lists (shape_of s) d c.args.args.now says.left (shape_of mid)
    (subst Fits same says.arguments) passed.fit in
    not-true c.if-is_empty.false (c.is_empty.ensures.1 (ap (λ (k : Judgement). k.linear)
    (sym one) ∙ says.nothing_held)))
