-- Which contract texts are typed, as which program and under which amounts.
use Rattle.std.specs.Prelude.{◌≡◌, ℕ, List, length}
use Rattle.nomos_ir.specs.Amounts.{star_count}
use Rattle.nomos_ir.specs.declared.lists.ProgramLists.{ProgramLists}
use Rattle.nomos_elaborate.specs.Elaborated.{ElaboratesTo}
use Rattle.nomos_surface.specs.Tree.{FileTree}
use Rattle.nomos_surface.specs.TreeReading.{ReadsAs}
use Rattle.nomos_types.specs.Amount.{Annotations, HasUnit}
use Rattle.nomos_types.specs.Typed.{IsTypedProgram}

-- The text reads as a tree, which stands for this program.
pub record IsReadAs (text : List ℕ) (lists : ProgramLists) : Type 0 where
  pub tree : FileTree
  pub reads : ReadsAs text tree
  pub elaborates : ElaboratesTo tree lists

-- The text reads as this program, which is typed under these amounts over their unit, one amount for each of its stars.
pub record IsTypedAs (text : List ℕ) (lists : ProgramLists) (x : Annotations) : Type 0 where
  pub read : IsReadAs text lists
  pub unit : HasUnit x
  pub each_star : length x.stars ≡ star_count lists
  pub typed : IsTypedProgram lists x

-- the text is typed under no amounts over any unit
abbrev pub IsNeverTypedText : List ℕ → Type 0
IsNeverTypedText text = (lists : ProgramLists) (x : Annotations) → ¬ (IsTypedAs text lists x)
