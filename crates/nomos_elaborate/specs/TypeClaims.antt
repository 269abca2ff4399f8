-- The claims of a type: each used definition is declared, and the labels of one choice differ.
use Rattle.std.specs.Prelude.{List, [], ◌∷◌, ◌++◌}
use Rattle.nomos_elaborate.specs.NameClaim.{NameClaim, declared, new_among}
use Rattle.nomos_elaborate.specs.Names.{Names, seen}
use Rattle.nomos_surface.specs.Tree.{TypeTree, one, named, choice, channel, valued, paying, going_up, going_down, grouped, BranchTrees, no_branches, branch}

-- the declared definitions, and the labels before a branch
unfoldable mutual
  pub type_claims : Names → TypeTree → List NameClaim
  type_claims types (one at) = []
  type_claims types (named n) = declared types n ∷ []
  type_claims types (choice sender at branches) = branch_claims types [] branches
  type_claims types (channel sender at carried goes) = type_claims types carried ++ type_claims types goes
  type_claims types (valued sender at value goes) = type_claims types goes
  type_claims types (paying sender at potential goes) = type_claims types goes
  type_claims types (going_up at goes) = type_claims types goes
  type_claims types (going_down at goes) = type_claims types goes
  type_claims types (grouped inner) = type_claims types inner

  pub branch_claims : Names → Names → BranchTrees → List NameClaim
  branch_claims types before no_branches = []
  branch_claims types before (branch l goes branches) =
      new_among before l ∷ type_claims types goes ++ branch_claims types (seen before l.name) branches
