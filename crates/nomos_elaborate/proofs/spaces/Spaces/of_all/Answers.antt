use Rattle.std.proofs.Common.{map, ap}
use Rattle.std.proofs.lemmas.Result.{err_from_is_err_and}
use Rattle.nomos_elaborate.specs.Spaces.{declaring_all}
use Rattle.nomos_elaborate.proofs.StopLaws.{stops-found}
use Rattle.nomos_elaborate.proofs.Walks.{names_all, names_next}
use Rattle.nomos_surface.specs.FileView.{decl_tree}
use Rattle.nomos_elaborate.proofs.spaces.Spaces.of_all.Goals as goal

pub loop-decl-init : goal.loop-decl-init
loop-decl-init c = ap (λ s. declaring_all s (map decl_tree c.args.decls.now)) c.new-spaces.ensures

pub loop-decl-preserved : goal.loop-decl-preserved
loop-decl-preserved c =
    names_next decl_tree c.args.decls.now c.loop-decl.decl-index c.loop-decl.spaces c.declare.new.self _
    c.decl-item.result c.loop-decl-test.true c.decl-item.is c.in_ok-declare.ensures c.loop-decl.invariant

pub returns-in_err-declare : goal.returns-in_err-declare
returns-in_err-declare c =
    let p = err_from_is_err_and c.from_residual.result c.from_residual.ensures.1 in
    rw (p.1, p.2) (stops-found c.in_err-declare.field-0.0 _ _ c.in_err-declare.ensures)

pub returns : goal.returns
returns c =
    names_all decl_tree c.args.decls.now c.loop-decl.decl-index c.loop-decl.spaces _ c.loop-decl-test.false
    c.loop-decl.invariant
