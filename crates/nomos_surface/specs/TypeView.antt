-- The tree that a type of the code stands for: where it lies in memory is left out.
use Rattle.std.specs.Prelude.{List, [], ◌∷◌}
use Rattle.nomos_surface.specs.declared.name_at.NameAt.{NameAt}
use Rattle.nomos_surface.specs.declared.types.SurfaceType.{SurfaceType, fold-SurfaceType}
use Rattle.nomos_surface.specs.declared.types.SurfaceBranch.{SurfaceBranch, SurfaceBranch-F, fold-SurfaceBranch}
use Rattle.nomos_surface.specs.declared.types.SurfaceType.TheOpen.{SurfaceType-F}
use Rattle.nomos_surface.specs.Tree.{TypeTree, one, named, choice, channel, valued, paying, going_up, going_down, grouped, BranchTrees, no_branches, branch}

-- a label with its type
abbrev pub Branch : Type 0
Branch = NameAt × TypeTree

-- branches in a row
abbrev pub branch_trees : List Branch → BranchTrees
branch_trees [] = no_branches
branch_trees (b ∷ bs) = branch b.0 b.1 (branch_trees bs)

-- one level, with what is inside already seen as trees
abbrev pub type_step : SurfaceType-F TypeTree Branch → TypeTree
type_step (SurfaceType-F.One at) = one at
type_step (SurfaceType-F.Named n) = named n
type_step (SurfaceType-F.Choice s at branches) = choice s at (branch_trees branches.items)
type_step (SurfaceType-F.Channel s at carried goes) = channel s at carried.value goes.value
type_step (SurfaceType-F.Value s at value goes) = valued s at value goes.value
type_step (SurfaceType-F.Paying s at q goes) = paying s at q goes.value
type_step (SurfaceType-F.Up at goes) = going_up at goes.value
type_step (SurfaceType-F.Down at goes) = going_down at goes.value
type_step (SurfaceType-F.Grouped inner) = grouped inner.value

abbrev pub branch_step : SurfaceBranch-F TypeTree Branch → Branch
branch_step b = (b.label, b.goes)

-- the tree of a type
abbrev pub type_tree : SurfaceType → TypeTree
type_tree = fold-SurfaceType TypeTree Branch type_step branch_step

-- the label and the tree of a branch
abbrev pub branch_tree : SurfaceBranch → Branch
branch_tree = fold-SurfaceBranch TypeTree Branch type_step branch_step
