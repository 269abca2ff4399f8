-- The program of a tree that is within the limits and obeys the rules of names is a program.
use Rattle.nomos_elaborate.proofs.AmountLaws.{amounts-small}
use Rattle.nomos_elaborate.proofs.CodeOnceLaws.{code-once}
use Rattle.nomos_elaborate.proofs.KindLaws.{kinds-shallow}
use Rattle.nomos_elaborate.proofs.NamingLaws.{names-differ, labels-differ, parameters-differ, payers}
use Rattle.nomos_elaborate.proofs.OrderLaws.{parts-lower}
use Rattle.nomos_elaborate.proofs.RangeLaws.{ids-in-range}
use Rattle.nomos_elaborate.proofs.ShortLaws.{names-short}
use Rattle.nomos_elaborate.proofs.SizeLaws.{small}
use Rattle.nomos_elaborate.proofs.TypesOnceLaws.{types-once}
use Rattle.nomos_elaborate.specs.Elaborated.{ObeysNames}
use Rattle.nomos_elaborate.specs.FileBuild.{program_of}
use Rattle.nomos_ir.specs.Program.{IsProgram}
use Rattle.nomos_surface.specs.TreeBounds.{IsWithinLimits}
use Rattle.nomos_surface.specs.Tree.{FileTree}

pub is-program : (tree : FileTree) → IsWithinLimits tree → ObeysNames tree → IsProgram (program_of tree)
is-program tree limits obeys = record {
  ids = ids-in-range tree obeys;
  parts = parts-lower tree;
  code = code-once tree;
  types = types-once tree;
  kinds = kinds-shallow tree limits;
  names = names-short tree limits;
  spaces = names-differ tree obeys;
  labels = labels-differ tree obeys;
  parameters = parameters-differ tree obeys limits;
  payers = payers tree;
  amounts = amounts-small tree limits;
  size = small tree limits.nodes;
}
