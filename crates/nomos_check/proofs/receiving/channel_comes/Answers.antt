use Rattle.nomos_types.specs.Premises.{ReceivesChannel}
use Rattle.nomos_check.specs.declared.receiving.Received.{Received}
use Rattle.nomos_check.specs.mirror.StandingData.{shape_of}
use Rattle.nomos_check.proofs.ChannelLaws.{none-found}
use Rattle.nomos_check.proofs.LeadLemmas.{not-true}
use Rattle.nomos_check.proofs.PremiseLemmas.{carried-in_range}
use Rattle.nomos_check.proofs.receiving.channel_comes.Goals as goal

pub returns-then-not-is_free : goal.returns-then-not-is_free
returns-then-not-is_free c = λ r says. not-true c.if-not-is_free.true (c.is_free.ensures.1 says.free)

pub returns-in_err-carried : goal.returns-in_err-carried
returns-in_err-carried c =
    let j = shape_of c.args.now.now in
    none-found (λ (r : Received). ReceivesChannel c.args.program.now j c.args.c c.args.y r.mode r.carried r.goes) _
    c.from_residual.ensures (λ r says. c.in_err-carried.ensures (r.carried, r.goes) says.channel)

pub mode_of-requires-clause-in_range : goal.mode_of-requires-clause-in_range
mode_of-requires-clause-in_range c =
    carried-in_range c.args.program.now (shape_of c.args.now.now) c.args.c c.in_ok-carried.carried c.in_ok-carried.goes
    c.requires.formed c.requires.within.suits c.in_ok-carried.ensures

pub returns : goal.returns
returns c = record {
  channel = c.in_ok-carried.ensures;
  mode = c.mode_of.ensures;
  free = c.is_free.ensures.0 c.if-not-is_free.false;
}
