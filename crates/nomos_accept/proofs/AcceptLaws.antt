-- A text reads as one program at most, and what is typed is answered so where the run does not stop.
use Rattle.std.proofs.Common.{◌≡◌, ℕ, List, ap, sym, subst, ◌∙◌}
use Rattle.nomos_accept.specs.AcceptedText.{PivotRunEndsWith, IsProgramWith, IsUnsolved}
use Rattle.nomos_accept.specs.TypedText.{IsReadAs, IsTypedAs, IsNeverTypedText}
use Rattle.nomos_elaborate.specs.FileBuild.{program_of}
use Rattle.nomos_ir.specs.declared.lists.ProgramLists.{ProgramLists}
use Rattle.nomos_rows.specs.PartFaults.{IsNeverTyped}
use Rattle.nomos_simplex.specs.declared.solved.Solved.TheVariants as solved
use Rattle.nomos_simplex.specs.declared.solved.Stop.{Stop}
use Rattle.nomos_reader.proofs.FoundLaws.{printed-unique}
use Rattle.nomos_surface.specs.TreeReading.{ReadsAs}
use Rattle.nomos_surface.specs.Tree.{FileTree}
use Rattle.nomos_syntax.specs.Scan.{tokens_of}
use Rattle.nomos_types.specs.Amount.{Annotations}
use Rattle.nomos_types.specs.Typed.{IsTypedProgram}

-- a text reads as one tree
pub one-tree : (text : List ℕ) (f g : FileTree) → ReadsAs text f → ReadsAs text g → f ≡ g
one-tree text f g a b =
    printed-unique f g a.tokens.grammatical b.tokens.grammatical (tokens_of text) a.tokens.printed b.tokens.printed

-- a text reads as one program
pub one-program : (text : List ℕ) (a b : ProgramLists) → IsReadAs text a → IsReadAs text b → a ≡ b
one-program text a b read other =
    read.elaborates.program ∙ ap program_of (one-tree text read.tree other.tree read.reads other.reads)
    ∙ sym other.elaborates.program

-- a text that reads as a program that is typed under no amounts is typed under none
pub never-typed : (text : List ℕ) (lists : ProgramLists) → IsReadAs text lists → IsNeverTyped lists →
    IsNeverTypedText text
never-typed text lists read never = λ other x typed.
    never x (subst (λ (l : ProgramLists). IsTypedProgram l x) (one-program text other lists typed.read read)
    typed.typed)

-- where the run on the rows of its program does not stop without an answer, it is answered that it is typed
pub typed-solved : (text : List ℕ) (lists : ProgramLists) (x : Annotations) → IsTypedAs text lists x
    → ((stop : Stop) → ¬ (PivotRunEndsWith lists (solved.Unsolved stop))) → (stop : Stop)
    → ¬ (IsProgramWith text (λ l. IsUnsolved l stop))
typed-solved text lists x typed solves stop (other, read, unsolved) =
    solves stop (subst (λ (l : ProgramLists). PivotRunEndsWith l (solved.Unsolved stop))
    (one-program text other lists read typed.read) unsolved.ends)
