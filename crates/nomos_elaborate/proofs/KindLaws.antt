-- The kinds of the program of a tree are shallow where the tree is within the limits.
use Rattle.nomos_elaborate.proofs.DeclMaking.{tree-keeps}
use Rattle.nomos_elaborate.specs.FileBuild.{program_of}
use Rattle.nomos_ir.specs.Kinds.{KindsAreShallow}
use Rattle.nomos_surface.specs.TreeBounds.{IsWithinLimits}
use Rattle.nomos_surface.specs.Tree.{FileTree}

pub kinds-shallow : (tree : FileTree) → IsWithinLimits tree → KindsAreShallow (program_of tree)
kinds-shallow tree limits =
    let h = tree-keeps tree limits in
    record {
      types = λ k e within. (h.built.types k e within).kinds;
      terms = h.built.terms;
      fns = λ k e within. (h.fns k e within).kinds;
      code = λ k e within. (h.built.code k e within).kinds;
      procs = λ k e within. (h.procs k e within).kinds;
    }
