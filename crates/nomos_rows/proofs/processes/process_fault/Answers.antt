use Rattle.std.proofs.Common.{List, All, Err, subst, sym}
use Rattle.std.proofs.lemmas.List.Elements.{All-append}
use Rattle.nomos_ir.specs.Amounts.{star_count}
use Rattle.nomos_forms.specs.Bounds.{IsForm}
use Rattle.nomos_forms.specs.declared.form.Form.{Form}
use Rattle.nomos_check.specs.Checking.{AnswersProcessBeside}
use Rattle.nomos_check.specs.declared.checking.ProcError.{ProcError}
use Rattle.nomos_rows.proofs.ProcessLemmas.{adds-joined, stuck-told}
use Rattle.nomos_types.proofs.Nodes.{element-there}
use Rattle.nomos_rows.proofs.processes.process_fault.Goals as goal

pub returns-in_ok-join-in-Ok-clause-adds : goal.returns-in_ok-join-in-Ok-clause-adds
returns-in_ok-join-in-Ok-clause-adds c =
    let lists = c.args.program.now in
    let (d, declared) = element-there lists.procs c.args.p.0 c.requires.p in
    let needs = c.in-Ok.ensures.answers d declared in
    adds-joined lists c.args.p.0 d declared needs c.args.gathered.now c.join.new.self c.in_ok-join-in-Ok.ensures.forms
    c.in_ok-join-in-Ok.ensures.pairs

pub returns-in_ok-join-in-Ok-clause-small : goal.returns-in_ok-join-in-Ok-clause-small
returns-in_ok-join-in-Ok-clause-small c =
    let lists = c.args.program.now in
    let Small : Form → Type 0 = IsForm (star_count lists) in
    let (d, declared) = element-there lists.procs c.args.p.0 c.requires.p in
    let needs = c.in-Ok.ensures.answers d declared in
    let both = All-append Small c.args.gathered.now.forms.items c.in-Ok.checked.forms c.requires.small needs.small in
    subst (λ (fs : List Form). All Small fs) (sym c.in_ok-join-in-Ok.ensures.forms) both

pub returns-in-Err-ProcType-clause-tells : goal.returns-in-Err-ProcType-clause-tells
returns-in-Err-ProcType-clause-tells c =
    let lists = c.args.program.now in
    let (d, declared) = element-there lists.procs c.args.p.0 c.requires.p in
    let new = c.check_process_with.new.equalities in
    let Says : ProcError → Type 0 =
    λ e. AnswersProcessBeside lists (star_count lists) d c.args.equalities.now new (Err e)
    in
    let first = subst Says c.in-Err-ProcType.field-0-is (c.in-Err-ProcType.ensures.answers d declared) in
    stuck-told lists c.args.p.0 c.in-Err-ProcType.at c.in-Err-ProcType.form d declared first
