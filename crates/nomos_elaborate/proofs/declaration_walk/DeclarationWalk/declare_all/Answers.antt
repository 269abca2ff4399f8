use Rattle.std.proofs.Common.{map, ap, subst, arith}
use Rattle.std.proofs.lemmas.Result.{err_from_is_err_and}
use Rattle.nomos_elaborate.proofs.DeclaringLemmas.{items-left, decls_all, decls_next, decls_stop}
use Rattle.nomos_elaborate.specs.Nesting.{IsNestedWithinLimit}
use Rattle.nomos_elaborate.specs.mirror.Entries.{most_of}
use Rattle.nomos_surface.specs.TreeBounds.{KeepsDecl}
use Rattle.nomos_surface.specs.Counts.{in_decl, in_each}
use Rattle.nomos_surface.specs.FileView.{decl_tree}
use Rattle.nomos_surface.specs.Grammatical.{Each}
use Rattle.nomos_elaborate.proofs.declaration_walk.DeclarationWalk.declare_all.Goals as goal

pub loop-decl-preserved : goal.loop-decl-preserved
loop-decl-preserved c =
    let left = items-left c.args.decls.now c.loop-decl.decl-index c.decl-item.result c.loop-decl-test.true
    c.decl-item.is in
    let rest = ap (λ xs. most_of (in_each in_decl (map decl_tree xs))) left in
    record {
      gives =
          decls_next decl_tree c.args.decls.now c.loop-decl.decl-index c.loop-decl.self c.declare.new.self _
          c.decl-item.result c.loop-decl-test.true c.decl-item.is c.in_ok-declare.ensures.gives
          c.loop-decl.invariant.gives;
      keeps = (subst (λ xs. Each KeepsDecl (map decl_tree xs)) left c.loop-decl.invariant.keeps).1;
      nests = (subst (λ xs. Each IsNestedWithinLimit (map decl_tree xs)) left c.loop-decl.invariant.nests).1;
      room = omega (arith, c.in_ok-declare.ensures.grows);
    }

pub declare-requires : goal.declare-requires
declare-requires c =
    let left = items-left c.args.decls.now c.loop-decl.decl-index c.decl-item.result c.loop-decl-test.true
    c.decl-item.is in
    let rest = ap (λ xs. most_of (in_each in_decl (map decl_tree xs))) left in
    record {
      keeps = (subst (λ xs. Each KeepsDecl (map decl_tree xs)) left c.loop-decl.invariant.keeps).0;
      nests = (subst (λ xs. Each IsNestedWithinLimit (map decl_tree xs)) left c.loop-decl.invariant.nests).0;
      room = omega arith;
    }

pub returns-in_err-declare : goal.returns-in_err-declare
returns-in_err-declare c =
    let p = err_from_is_err_and c.from_residual.result c.from_residual.ensures.1 in
    rw (p.1, p.2) (decls_stop decl_tree c.args.decls.now c.loop-decl.decl-index c.loop-decl.self _ c.decl-item.result
    c.in_err-declare.field-0.0 c.loop-decl-test.true c.decl-item.is c.in_err-declare.ensures.gives
    c.loop-decl.invariant.gives)

pub returns : goal.returns
returns c =
    decls_all decl_tree c.args.decls.now c.loop-decl.decl-index c.loop-decl.self _ c.loop-decl-test.false
    c.loop-decl.invariant.gives
