use Rattle.std.proofs.Common.{refl, arith}
use Rattle.nomos_ir.specs.declared.code_node.CodeNode.TheVariants as code
use Rattle.nomos_types.specs.Judgement.{goes_on}
use Rattle.nomos_types.specs.Premises.{SendsValue}
use Rattle.nomos_types.specs.TypingRule as row
use Rattle.nomos_check.specs.mirror.StandingData.{shape_of}
use Rattle.nomos_check.proofs.FoundLemmas.{code-in_range, found-some, found-none}
use Rattle.nomos_check.proofs.LeadLemmas.{leads-on}
use Rattle.nomos_check.proofs.StepRows.{put-stuck}
use Rattle.nomos_check.proofs.value_rules.at_put.Goals as goal

pub value_goes-requires-clause-term : goal.value_goes-requires-clause-term
value_goes-requires-clause-term c =
    let over = c.args.over in
    let node = code.Put c.requires.stands.0 over.channel over.what over.next in
    (code-in_range c.args.program.now (shape_of c.args.now.now) node c.requires.formed.program
    c.requires.stands.1).terms 0 0 (omega arith)

pub returns-in_ok-go_on-in-Some : goal.returns-in_ok-go_on-in-Some
returns-in_ok-go_on-in-Some c =
    let over = c.args.over in
    let j = shape_of c.args.now.now in
    let node = code.Put c.requires.stands.0 over.channel over.what over.next in
    let says = found-some (SendsValue c.args.program.now j over.channel over.what) _ c.in-Some.t c.in_ok-t.ensures
    c.in-Some.is in
    leads-on c.args.now.now c.go_on.new.now (goes_on j over.channel c.in-Some.t over.next) node c.requires.stands.1
    (λ a. refl)
    (row.put c.requires.stands.1 c.in-Some.t says) c.in_ok-go_on-in-Some.ensures.shape c.go_on.ensures.amounts

pub returns-in-None : goal.returns-in-None
returns-in-None c =
    let over = c.args.over in
    put-stuck c.requires.stands.1
    (found-none (SendsValue c.args.program.now (shape_of c.args.now.now) over.channel over.what) _ c.in_ok-t.ensures
    c.in-None.is)
