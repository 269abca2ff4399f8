use Rattle.std.proofs.Common.{◌≡◌, map, drop}
use Rattle.nomos_elaborate.specs.Nesting.{IsNestedWithinLimit}
use Rattle.nomos_elaborate.specs.mirror.FileCheck.{check_decls}
use Rattle.nomos_elaborate.specs.mirror.Entries.{MayMake}
use Rattle.nomos_surface.specs.TreeBounds.{KeepsDecl}
use Rattle.nomos_surface.specs.Counts.{in_decl, in_each}
use Rattle.nomos_surface.specs.FileView.{decl_tree}
use Rattle.nomos_surface.specs.Grammatical.{Each}
use Rattle.nomos_elaborate.proofs.declaration_walk.DeclarationWalk.declare_all.Given as goal

-- the declarations that are left give what all of them give, and have room
abbrev pub invariant-loop-decl : goal.invariant-loop-decl
invariant-loop-decl l = record {
  gives : check_decls l.self (map decl_tree (drop l.decl-index l.decls))
      ≡ check_decls l.fn.self (map decl_tree l.decls);
  keeps : Each KeepsDecl (map decl_tree (drop l.decl-index l.decls));
  nests : Each IsNestedWithinLimit (map decl_tree (drop l.decl-index l.decls));
  room : MayMake l.self.work (in_each in_decl (map decl_tree (drop l.decl-index l.decls)));
}
