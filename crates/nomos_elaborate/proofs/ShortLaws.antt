-- The names of the program of a tree are short names where the tree is within the limits.
use Rattle.nomos_elaborate.proofs.DeclMaking.{tree-keeps}
use Rattle.nomos_elaborate.specs.FileBuild.{program_of}
use Rattle.nomos_ir.specs.Naming.{NamesAreShort}
use Rattle.nomos_surface.specs.TreeBounds.{IsWithinLimits}
use Rattle.nomos_surface.specs.Tree.{FileTree}

pub names-short : (tree : FileTree) → IsWithinLimits tree → NamesAreShort (program_of tree)
names-short tree limits =
    let h = tree-keeps tree limits in
    record {
      defs = h.defs;
      fns = λ k e within. (h.fns k e within).name;
      procs = λ k e within. (h.procs k e within).name;
      labels = h.built.labels;
    }
