-- The program of a tree is no larger than what counts in the tree.
use Rattle.std.proofs.Common.{◌+◌, ◌≤◌, length, arith}
use Rattle.nomos_elaborate.proofs.DeclMaking.{tree-declares}
use Rattle.nomos_elaborate.specs.FileBuild.{program_of}
use Rattle.nomos_ir.specs.Program.{IsSmall}
use Rattle.nomos_surface.specs.Counts.{in_file}
use Rattle.nomos_surface.specs.Tree.{FileTree}
use Rattle.nomos_syntax.specs.TextLimits.{node_limit}

-- the type nodes and the term nodes of a program together
pub few_types : (tree : FileTree) → length (program_of tree).types + length (program_of tree).terms
    ≤ (in_file tree).nodes
few_types tree = let h = tree-declares tree in omega arith

-- an instruction has at most one `work` put before it
pub small : (tree : FileTree) → (in_file tree).nodes ≤ node_limit → IsSmall (program_of tree)
small tree few = let h = tree-declares tree in record { code = omega arith; declarations = omega arith }
