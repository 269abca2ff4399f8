use Rattle.std.proofs.Common.{Bool, refl, subst}
use Rattle.nomos_equality.specs.Paths.{StandAtEqualPaths}
use Rattle.nomos_ir.specs.declared.code_node.CodeNode.TheVariants as code
use Rattle.nomos_types.specs.Equality.{no_amounts}
use Rattle.nomos_types.specs.Judgement.{goes_on}
use Rattle.nomos_types.specs.Premises.{SendsChannel}
use Rattle.nomos_types.specs.TypingRule as row
use Rattle.nomos_check.specs.Asking.{AsksPair}
use Rattle.nomos_check.specs.mirror.Passing.{TellsChannel}
use Rattle.nomos_check.specs.mirror.StandingData.{shape_of}
use Rattle.nomos_check.proofs.LeadLemmas.{leads-on, keeps-through, not-true}
use Rattle.nomos_check.proofs.PairLemmas.{joins-same}
use Rattle.nomos_check.proofs.PremiseLemmas.{sent-in_range}
use Rattle.nomos_check.proofs.SendSteps.{sent-passes, send-asks}
use Rattle.nomos_check.proofs.StepRows.{send-stuck}
use Rattle.nomos_check.proofs.sending.at_send.Goals as goal

pub returns-then-is_channel_of-clause-tells : goal.returns-then-is_channel_of-clause-tells
returns-then-is_channel_of-clause-tells c =
    send-stuck c.requires.stands.1 (λ left t says. says.other (c.is_channel_of.ensures.0 c.if-is_channel_of.true))

pub returns-in-None-clause-tells : goal.returns-in-None-clause-tells
returns-in-None-clause-tells c =
    send-stuck c.requires.stands.1 (λ left t says. c.in-None.ensures (says.carried, t) says.channel)

pub pass_channel-requires-clause-in_range : goal.pass_channel-requires-clause-in_range
pass_channel-requires-clause-in_range c =
    let found = c.in-Some.found in
    sent-in_range c.args.program.now (shape_of c.args.now.now) c.args.over.channel found.0 found.1 c.requires.formed
    c.requires.within.suits c.in-Some.ensures

pub returns-then-not-branch-clause-tells : goal.returns-then-not-branch-clause-tells
returns-then-not-branch-clause-tells c =
    let lists = c.args.program.now in
    let s = c.args.now.now in
    let over = c.args.over in
    let found = c.in-Some.found in
    let mid = c.pass_channel.new.now in
    let Tells : Bool → Type 0 = TellsChannel lists s mid over.what found.0 c.args.asked.now c.pass_channel.new.asked in
    let stays = subst Tells c.if-not-branch.true c.in_ok-pass_channel.ensures.tells in
    send-stuck c.requires.stands.1
    (λ left t says.
    stays left (sent-passes lists (shape_of s) over.channel over.what found left t c.in-Some.ensures says))

pub returns-clause-tells : goal.returns-clause-tells
returns-clause-tells c =
    let lists = c.args.program.now in
    let s = c.args.now.now in
    let over = c.args.over in
    let found = c.in-Some.found in
    let mid = c.pass_channel.new.now in
    let Tells : Bool → Type 0 = TellsChannel lists s mid over.what found.0 c.args.asked.now c.pass_channel.new.asked in
    let passed = subst Tells c.if-not-branch.false c.in_ok-pass_channel.ensures.tells in
    let says : SendsChannel lists no_amounts (shape_of s) over.channel over.what (shape_of mid) found.1 = record {
      carried = found.0;
      channel = c.in-Some.ensures;
      other = λ same. not-true c.if-is_channel_of.false (c.is_channel_of.ensures.1 same);
      passes = passed.passes;
    }
    in
    leads-on s c.go_on.new.now (goes_on (shape_of mid) over.channel found.1 over.next)
    (code.Send c.requires.stands.0 over.channel over.what over.next) c.requires.stands.1 (λ a. refl)
    (row.send c.requires.stands.1 (shape_of mid) found.1 says) c.in_ok-go_on.ensures.shape
    (keeps-through passed.amounts c.go_on.ensures.amounts)

pub returns-clause-asks : goal.returns-clause-asks
returns-clause-asks c =
    let lists = c.args.program.now in
    let s = c.args.now.now in
    let over = c.args.over in
    let found = c.in-Some.found in
    let mid = c.pass_channel.new.now in
    let Tells : Bool → Type 0 = TellsChannel lists s mid over.what found.0 c.args.asked.now c.pass_channel.new.asked in
    let passed = subst Tells c.if-not-branch.false c.in_ok-pass_channel.ensures.tells in
    λ a has.
    joins-same c.args.asked.now c.pass_channel.new.asked (StandAtEqualPaths lists passed.own found.0)
    (AsksPair lists (shape_of s) a) passed.joins
    (send-asks lists (shape_of s) a c.requires.stands.0 over.channel over.what over.next found.0 found.1 passed.own
    c.requires.within.judgement c.requires.stands.1 c.in-Some.ensures passed.is_of)
