use Rattle.std.proofs.Common.{refl}
use Rattle.nomos_ir.specs.declared.code_node.CodeNode.TheVariants as code
use Rattle.nomos_types.specs.Judgement.{at_code}
use Rattle.nomos_types.specs.TypingRule as row
use Rattle.nomos_types.specs.TypingRule.{gives_up}
use Rattle.nomos_check.specs.mirror.StandingData.{shape_of}
use Rattle.nomos_check.proofs.LeadLemmas.{leads-on, not-true}
use Rattle.nomos_check.proofs.StepRows.{wait-stuck}
use Rattle.nomos_check.proofs.ending.at_wait.Goals as goal

pub returns-then-not-ends : goal.returns-then-not-ends
returns-then-not-ends c = wait-stuck c.requires.stands.1 (λ typed. not-true c.if-not-ends.true (c.ends.ensures.1 typed))

pub returns : goal.returns
returns c =
    leads-on c.args.now.now c.give_up.new.now (at_code (gives_up (shape_of c.args.now.now) c.args.v) c.args.next)
    (code.Wait c.requires.stands.0 c.args.v c.args.next) c.requires.stands.1 (λ a. refl)
    (row.wait c.requires.stands.1 (c.ends.ensures.0 c.if-not-ends.false)) c.give_up.ensures.shape
    c.give_up.ensures.amounts
