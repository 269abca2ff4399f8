use Rattle.std.proofs.Common.{Bool, IsTrue, ◌↔◌, subst, sym}
use Rattle.std.proofs.lemmas.Result.{IfOk-weaker}
use Rattle.std.specs.Result.{IfOk}
use Rattle.nomos_ir.specs.declared.code_node.ValueArg.{ValueArg}
use Rattle.nomos_ir.specs.TermKind.{HasKind}
use Rattle.nomos_check.specs.mirror.Passing.{TellsList, TellsValue}
use Rattle.nomos_check.specs.mirror.StandingData.{shape_of}
use Rattle.nomos_check.proofs.GivingSteps.{term-passes, list-passes}
use Rattle.nomos_check.proofs.giving.pass_value.Goals as goal

pub returns-in-Term-None-clause-tells : goal.returns-in-Term-None-clause-tells
returns-in-Term-None-clause-tells c =
    let lists = c.args.program.now in
    let s = c.args.now.now in
    let e = c.in-Term-None.e in
    let par = c.args.par in
    let Has : Bool → Type 0 = λ b. IsTrue b ↔ HasKind lists (shape_of s).kinds e par.kind in
    let Tells : ValueArg → Type 0 =
    λ a. IfOk c.is_of_kind.result (TellsValue lists s s a par c.args.asked.now c.args.asked.now)
    in
    subst Tells (sym c.in-Term-None.is-0)
    (IfOk-weaker c.is_of_kind.result Has _ (term-passes lists s e par c.args.asked.now c.in-Term-None.is-1)
    c.is_of_kind.ensures)

pub returns-in-List-Some-clause-tells : goal.returns-in-List-Some-clause-tells
returns-in-List-Some-clause-tells c =
    let lists = c.args.program.now in
    let s = c.args.now.now in
    let next = c.pass_list.new.now in
    let w = c.in-List-Some.w in
    let par = c.args.par in
    let said = c.in-List-Some.said in
    let old = c.args.asked.now in
    let new = c.pass_list.new.asked in
    let Tells : ValueArg → Type 0 = λ a. IfOk c.pass_list.result (TellsValue lists s next a par old new) in
    subst Tells (sym c.in-List-Some.is-0)
    (IfOk-weaker c.pass_list.result (TellsList s next w par.kind said old new) _
    (list-passes lists s next w par said old new c.in-List-Some.is-1) c.pass_list.ensures.tells)
