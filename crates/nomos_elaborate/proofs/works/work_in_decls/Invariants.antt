use Rattle.std.proofs.Common.{◌≡◌, map, drop}
use Rattle.std.specs.List.{flat_map}
use Rattle.nomos_elaborate.specs.WrittenWork.{decl_works, first_of_list}
use Rattle.nomos_surface.specs.FileView.{decl_tree}
use Rattle.nomos_elaborate.proofs.works.work_in_decls.Given as goal

-- the declarations that are left have the first `work` of all
abbrev pub invariant-loop-decl : goal.invariant-loop-decl
invariant-loop-decl l =
    first_of_list (flat_map (λ d. decl_works (decl_tree d)) (drop l.decl-index l.decls))
    ≡ first_of_list (flat_map decl_works (map decl_tree l.decls))
