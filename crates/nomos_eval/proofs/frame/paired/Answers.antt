-- One more parameter has its argument.
use Rattle.std.proofs.Common.{◌≤◌, length, ◌∙◌, arith}
use Rattle.std.specs.List.{zip}
use Rattle.std.proofs.lemmas.List.{length-map, take_all}
use Rattle.std.proofs.lemmas.Slice.Zip.{length-zip}
use Rattle.nomos_eval.proofs.CallLemmas.{names_of, paired-more}
use Rattle.nomos_eval.proofs.frame.paired.Goals as goal

pub loop-at-preserved : goal.loop-at-preserved
loop-at-preserved c =
    paired-more c.args.pars.now c.args.arguments.now c.loop-at.at c.loop-at.pairs.items c.push.new.self.items _ _
    (omega arith) (omega arith) c.loop-at.invariant c.in_ok-push.ensures.items

pub returns : goal.returns
returns c =
    let names = names_of c.args.pars.now in
    let long : length (zip names c.args.arguments.now) ≤ c.loop-at.at =
    omega (arith, length-zip names c.args.arguments.now, length-map c.args.pars.now (λ par. par.0)) in
    c.loop-at.invariant ∙ take_all c.loop-at.at (zip names c.args.arguments.now) long
