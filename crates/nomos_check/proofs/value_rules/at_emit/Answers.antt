use Rattle.std.proofs.Common.{refl, arith}
use Rattle.nomos_ir.specs.TermKind.{HasKind}
use Rattle.nomos_ir.specs.declared.code_node.CodeNode.TheVariants as code
use Rattle.nomos_types.specs.Judgement.{at_code}
use Rattle.nomos_types.specs.TypingRule as row
use Rattle.nomos_check.specs.mirror.StandingData.{shape_of}
use Rattle.nomos_check.proofs.FoundLemmas.{code-in_range, found-some, found-none}
use Rattle.nomos_check.proofs.LeadLemmas.{leads-on}
use Rattle.nomos_check.proofs.StepRows.{emit-stuck}
use Rattle.nomos_check.proofs.value_rules.at_emit.Goals as goal

pub kind_of-requires : goal.kind_of-requires
kind_of-requires c =
    let node = code.Emit c.requires.stands.0 c.args.e c.args.next in
    (code-in_range c.args.program.now (shape_of c.args.now.now) node c.know.ensures.program
    c.requires.stands.1).terms 0 0 (omega arith)

pub returns-in-Some : goal.returns-in-Some
returns-in-Some c =
    let j = shape_of c.args.now.now in
    let node = code.Emit c.requires.stands.0 c.args.e c.args.next in
    let has = found-some (HasKind c.args.program.now j.kinds c.args.e) _ c.in-Some.field-0 c.in_ok-kind_of.ensures
    c.in-Some.is in
    leads-on c.args.now.now c.go_to.new.now (at_code j c.args.next) node c.requires.stands.1 (λ a. refl)
    (row.emit c.requires.stands.1 c.in-Some.field-0 has) c.go_to.ensures.shape c.go_to.ensures.amounts

pub returns-in-None : goal.returns-in-None
returns-in-None c =
    emit-stuck c.requires.stands.1
    (found-none (HasKind c.args.program.now (shape_of c.args.now.now).kinds c.args.e) _ c.in_ok-kind_of.ensures
    c.in-None.is)
