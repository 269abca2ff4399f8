use Rattle.std.proofs.Common.{◌∙◌, ap, arith}
use Rattle.nomos_ir.specs.Bindings.{bind}
use Rattle.nomos_ir.specs.declared.code_node.CodeNode.TheVariants as code
use Rattle.nomos_types.specs.Premises.{Adds}
use Rattle.nomos_check.specs.mirror.StandingData.{shape_of}
use Rattle.nomos_check.proofs.FoundLemmas.{code-in_range}
use Rattle.nomos_check.proofs.LimitLemmas.{room-at, list-amount}
use Rattle.nomos_check.proofs.ListSteps.{add-leads, found-list, found-no_list}
use Rattle.nomos_check.proofs.StepRows.{add-stuck}
use Rattle.nomos_check.proofs.list_rules.at_add.Goals as goal

pub list_grows-requires : goal.list_grows-requires
list_grows-requires c =
    let it = c.args.adding in
    let node = code.Add c.requires.stands.0 it.longer it.element it.list it.next in
    (code-in_range c.args.program.now (shape_of c.args.now.now) node c.know.ensures.program
    c.requires.stands.1).terms 0 0 (omega arith)

pub spend-requires : goal.spend-requires
spend-requires c =
    let it = c.args.adding in
    let s = c.args.now.now in
    let found = found-list s it.list (Adds c.args.program.now
    (shape_of s) it.longer it.element it.list) _ c.in-Some.carried c.in_ok-carried.ensures c.in-Some.is in
    room-at c.know.ensures.program s c.in-Some.carried.amount c.requires.within
    (list-amount s it.list.0 c.in-Some.carried c.requires.within found.1)

pub returns-in_ok-bind-in-Some : goal.returns-in_ok-bind-in-Some
returns-in_ok-bind-in-Some c =
    let it = c.args.adding in
    let s = c.args.now.now in
    let found = found-list s it.list (Adds c.args.program.now
    (shape_of s) it.longer it.element it.list) _ c.in-Some.carried c.in_ok-carried.ensures c.in-Some.is in
    add-leads c.args.program.now s c.requires.stands.0 it c.in-Some.carried c.bind.new.self c.spend.new.self
    (c.in_ok-bind-in-Some.ensures ∙ ap (bind it.longer c.in-Some.carried) c.unbind.ensures) c.spend.ensures
    c.requires.stands.1 found

pub returns-in-None : goal.returns-in-None
returns-in-None c =
    let it = c.args.adding in
    let s = c.args.now.now in
    add-stuck c.requires.stands.1
    (found-no_list s it.list (Adds c.args.program.now (shape_of s) it.longer it.element it.list) _
    c.in_ok-carried.ensures c.in-None.is)
