use Rattle.std.proofs.Common.{refl}
use Rattle.nomos_ir.specs.declared.code_node.CodeNode.TheVariants as code
use Rattle.nomos_types.specs.Judgement.{goes_on}
use Rattle.nomos_types.specs.TypingRule as row
use Rattle.nomos_check.specs.mirror.StandingData.{shape_of}
use Rattle.nomos_check.proofs.LeadLemmas.{leads-on}
use Rattle.nomos_check.proofs.StepRows.{label-stuck}
use Rattle.nomos_check.proofs.label_rule.at_label.Goals as goal

pub returns-in_ok-go_on-in-Some : goal.returns-in_ok-go_on-in-Some
returns-in_ok-go_on-in-Some c =
    leads-on c.args.now.now c.go_on.new.now (goes_on (shape_of c.args.now.now) c.args.c c.in-Some.t c.args.next)
    (code.Label c.requires.stands.0 c.args.c c.args.label c.args.next) c.requires.stands.1 (λ a. refl)
    (row.label c.requires.stands.1 c.in-Some.t c.in-Some.ensures) c.in_ok-go_on-in-Some.ensures.shape
    c.go_on.ensures.amounts

pub returns-in-None : goal.returns-in-None
returns-in-None c = label-stuck c.requires.stands.1 c.in-None.ensures
