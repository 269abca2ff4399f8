use Rattle.std.proofs.Common.{◌≡◌, ◌∙◌, ◌≤◌, List, length, Some, slice_get, refl, subst, ap}
use Rattle.std.proofs.lemmas.Option.{slice_get_read}
use Rattle.nomos_ir.specs.declared.declaration.ProcDecl.{ProcDecl}
use Rattle.nomos_ir.specs.declared.lists.ProgramLists.{ProgramLists}
use Rattle.nomos_monitor.proofs.ChoosingLaws.{none-at_all, none-further, not-opener}
use Rattle.nomos_monitor.proofs.opener.opener.Goals as goal

pub loop-at-preserved : goal.loop-at-preserved
loop-at-preserved c =
    let a = c.args.accepted.now in
    let d = c.index-procs-at.result in
    let procs_are : c.as_slice-procs.result.now ≡ a.program.procs =
    c.as_slice-procs.ensures
    ∙ ap (λ (l : ProgramLists). l.procs) (c.lists.ensures.lists ∙ c.program.ensures.program) in
    let declared : slice_get a.program.procs c.loop-at.at ≡ Some d =
    subst (λ (xs : List ProcDecl). slice_get xs c.loop-at.at ≡ Some d) procs_are
    (slice_get_read c.as_slice-procs.result.now (length c.as_slice-procs.result.now) c.loop-at.at d refl
    c.loop-at-test.true c.index-procs-at.is) in
    none-further a c.args.name.now c.loop-at.at c.loop-at.invariant
    (not-opener a c.args.name.now c.loop-at.at d declared c.opens_by.result c.opens_by.ensures c.if-opens_by.false)

pub returns : goal.returns
returns c =
    let a = c.args.accepted.now in
    let procs_are : c.as_slice-procs.result.now ≡ a.program.procs =
    c.as_slice-procs.ensures
    ∙ ap (λ (l : ProgramLists). l.procs) (c.lists.ensures.lists ∙ c.program.ensures.program) in
    none-at_all a c.args.name.now c.loop-at.at
    (subst (λ (xs : List ProcDecl). length xs ≤ c.loop-at.at) procs_are c.loop-at-test.false) c.loop-at.invariant
