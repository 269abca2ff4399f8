use Rattle.std.proofs.Common.{◌≡◌, map, drop}
use Rattle.nomos_elaborate.specs.Spaces.{declaring_all, no_names}
use Rattle.nomos_surface.specs.FileView.{decl_tree}
use Rattle.nomos_elaborate.proofs.spaces.Spaces.of_all.Given as goal

-- the names so far, with those of the declarations that are left, are those of all
abbrev pub invariant-loop-decl : goal.invariant-loop-decl
invariant-loop-decl l =
    declaring_all l.spaces (map decl_tree (drop l.decl-index l.decls)) ≡ declaring_all no_names (map decl_tree l.decls)
