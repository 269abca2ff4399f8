use Rattle.std.proofs.Common.{List, map, refl, sym, ap, subst}
use Rattle.nomos_elaborate.proofs.EntryLaws.{decls-may_be_made}
use Rattle.nomos_elaborate.proofs.StopLaws.{found_same}
use Rattle.nomos_elaborate.proofs.DeclaringLemmas.{lists_stop}
use Rattle.nomos_elaborate.proofs.NestingLaws.{decls-nested}
use Rattle.nomos_elaborate.specs.CostModel.{model_of}
use Rattle.nomos_elaborate.specs.Nesting.{IsNestedWithinLimit}
use Rattle.nomos_elaborate.specs.Spaces.{declaring_all, no_names}
use Rattle.nomos_elaborate.specs.mirror.Checked.{found}
use Rattle.nomos_elaborate.proofs.elaborate.named_lists.Goals as goal
use Rattle.nomos_surface.specs.FileView.{decl_tree, file_tree}
use Rattle.nomos_surface.specs.Grammatical.{Each}
use Rattle.nomos_surface.specs.Tree.{DeclTree}
use Rattle.nomos_surface.specs.TreeBounds.{KeepsDecl}

pub returns-in-Err : goal.returns-in-Err
returns-in-Err c =
    let tree = file_tree c.args.surface.now in
    let same = ap (map decl_tree) c.as_slice.ensures in
    lists_stop tree (map decl_tree c.as_slice.result.now) (declaring_all no_names tree.decls) (model_of tree.cost)
    c.in_ok-walk.walk c.in-Err.error same (ap (λ decls. found (declaring_all no_names decls)) same) refl
    (sym (found_same c.in_ok-walk.ensures)) c.in-Err.ensures

pub declare_all-requires : goal.declare_all-requires
declare_all-requires c =
    let tree = file_tree c.args.surface.now in
    let same = ap (map decl_tree) c.as_slice.ensures in
    record {
      keeps = subst (λ (xs : List DeclTree). Each KeepsDecl xs) (sym same) c.requires.limits.decls;
      nests =
          subst (λ (xs : List DeclTree). Each IsNestedWithinLimit xs) (sym same) (decls-nested tree c.requires.nests);
      room =
          decls-may_be_made tree (map decl_tree c.as_slice.result.now) (declaring_all no_names tree.decls)
          (model_of tree.cost) c.in_ok-walk.walk c.requires.limits same
          (ap (λ decls. found (declaring_all no_names decls)) same) (sym (found_same c.in_ok-walk.ensures));
    }
