-- What is answered of a tree.
use Rattle.std.specs.Prelude.{◌≡◌, ℕ, Some, None, Result, Ok, Err}
use Rattle.nomos_elaborate.specs.NameClaim.{first_broken}
use Rattle.nomos_elaborate.specs.FileBuild.{program_of}
use Rattle.nomos_elaborate.specs.FileClaims.{claims_of}
use Rattle.nomos_elaborate.specs.WrittenWork.{written_work}
use Rattle.nomos_elaborate.specs.declared.elab_error.ElabError.{ElabError}
use Rattle.nomos_elaborate.specs.declared.elab_error.ElabError.TheVariants as error
use Rattle.nomos_ir.specs.declared.lists.ProgramLists.{ProgramLists}
use Rattle.nomos_surface.specs.Tree.{FileTree}

-- the names of a tree obey the rules
abbrev pub ObeysNames : FileTree → Type 0
ObeysNames tree = first_broken (claims_of tree) ≡ None

-- the tree obeys the rules of names and of costs, and has this program
pub record ElaboratesTo (tree : FileTree) (lists : ProgramLists) : Type 0 where
  pub names : ObeysNames tree
  pub costs : written_work tree ≡ None
  pub program : lists ≡ program_of tree

-- the names of the tree obey the rules, and its first forbidden `work` stands at the offset
pub record BreaksCosts (tree : FileTree) (at : ℕ) : Type 0 where
  pub names : ObeysNames tree
  pub work : written_work tree ≡ Some at

-- what is answered of a tree; want of memory may come at any time
abbrev pub Answers : FileTree → Result ProgramLists ElabError → Type 0
Answers tree (Ok lists) = ElaboratesTo tree lists
Answers tree (Err (error.Name at)) = first_broken (claims_of tree) ≡ Some at
Answers tree (Err (error.Cost at)) = BreaksCosts tree at
Answers tree (Err error.NoMemory) = Unit {0}
