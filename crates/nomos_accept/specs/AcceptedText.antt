-- Which contract texts are accepted, and why the others are refused.
use Rattle.std.specs.Prelude.{◌≡◌, ◌<◌, ℕ, List, length, Some, Result, Ok, Err}
use Rattle.nomos_accept.specs.declared.why.AcceptError.{AcceptError}
use Rattle.nomos_accept.specs.declared.why.AcceptError.TheVariants as error
use Rattle.nomos_accept.specs.declared.why.Why.{Why}
use Rattle.nomos_accept.specs.declared.why.Why.TheVariants as why
use Rattle.nomos_elaborate.specs.Elaborated.{BreaksCosts}
use Rattle.nomos_elaborate.specs.NameClaim.{first_broken}
use Rattle.nomos_elaborate.specs.FileClaims.{claims_of}
use Rattle.nomos_forms.specs.Refuting.{Refutes}
use Rattle.nomos_forms.specs.declared.found.Found.{Found}
use Rattle.nomos_forms.specs.declared.row_list.RowList.{RowList}
use Rattle.nomos_forms.specs.declared.verdict.Verdict.{Verdict}
use Rattle.nomos_grammar.specs.Offence.{Answers as AnswersGrammar}
use Rattle.nomos_grammar.specs.declared.offence.GrammarError.{GrammarError}
use Rattle.nomos_grammar.specs.declared.offence.GrammarError.TheVariants as grammar
use Rattle.nomos_ir.specs.Amounts.{star_count}
use Rattle.nomos_ir.specs.Unfold.{IsContractive}
use Rattle.nomos_ir.specs.declared.lists.ProgramLists.{ProgramLists}
use Rattle.nomos_rows.specs.PartFaults.{IsCause}
use Rattle.nomos_rows.specs.ProgramRows.{AreProgramRows}
use Rattle.nomos_rows.specs.declared.program_rows.RowsError.TheVariants as rows_error
use Rattle.nomos_simplex.specs.PivotRun.{answer_to}
use Rattle.nomos_simplex.specs.declared.solved.Solved.{Solved}
use Rattle.nomos_simplex.specs.declared.solved.Solved.TheVariants as solved
use Rattle.nomos_simplex.specs.declared.solved.Stop.{Stop}
use Rattle.nomos_surface.specs.TreeReading.{ReadsAs}
use Rattle.nomos_surface.specs.Tree.{FileTree}
use Rattle.nomos_ir.specs.Limits.{text_limit}
use Rattle.nomos_syntax.specs.Reading.{IsPlainText}
use Rattle.nomos_syntax.specs.Scan.{tokens_of}
use Rattle.nomos_syntax.specs.Spans.{IsFirstNotAscii}
use Rattle.nomos_types.specs.Acceptance.{Acceptance}
use Rattle.nomos_accept.specs.TypedText.{IsReadAs, IsTypedAs, IsNeverTypedText}
use Rattle.nomos_types.specs.Amount.{Annotations}
use Rattle.nomos_types.specs.Forming.{IsFirstBareName, IsFirstOffence}
use Rattle.nomos_types.specs.Typed.{IsWellFormed, HasSkeletons}

-- the rows of the program, over its stars
pub record AreRowsFor (lists : ProgramLists) (rows : RowList) : Type 0 where
  pub stars : rows.stars ≡ star_count lists
  pub of_program : AreProgramRows lists (star_count lists) rows.rows

-- the pivot run on the rows of the program ends with this answer
pub record PivotRunEndsWith (lists : ProgramLists) (answer : Solved) : Type 0 where
  pub rows : RowList
  pub are_rows : AreRowsFor lists rows
  pub run : answer_to rows ≡ answer

-- amounts over their unit, as the run finds them
abbrev pub found_amounts : Annotations → Found
found_amounts x = record { stars = x.stars; unit = x.unit }

-- The text is typed under the amounts that the pivot run finds.
pub record IsAcceptedAs (text : List ℕ) (a : Acceptance) : Type 0 where
  pub typed : IsTypedAs text a.program a.annotations
  pub run : PivotRunEndsWith a.program (solved.Found (found_amounts a.annotations))

-- the text reads as a tree of which this holds
abbrev pub ReadsWith : List ℕ → (FileTree → Type 0) → Type 0
ReadsWith text P = (tree : FileTree) × ReadsAs text tree × P tree

-- the text reads as a program of which this holds
abbrev pub IsProgramWith : List ℕ → (ProgramLists → Type 0) → Type 0
IsProgramWith text P = (lists : ProgramLists) × IsReadAs text lists × P lists

-- the text is plain, and the grammar refuses its tokens for this
pub record IsOffence (text : List ℕ) (e : GrammarError) : Type 0 where
  pub plain : IsPlainText text
  pub refused : AnswersGrammar {T = Unit {0}} (tokens_of text) (length text) (Err e)

-- Each part of the program has a skeleton, and weighted rows show that no amounts meet all rows: those with which the
-- pivot run ends.
pub record IsRefuted (lists : ProgramLists) (verdict : Verdict) : Type 0 where
  pub skeletons : HasSkeletons lists
  pub ends : PivotRunEndsWith lists (solved.Refuted verdict)
  pub refutes : Refutes ends.rows.stars ends.rows.rows verdict

-- Each part of the program has a skeleton, and the pivot run stops without an answer.
pub record IsUnsolved (lists : ProgramLists) (stop : Stop) : Type 0 where
  pub skeletons : HasSkeletons lists
  pub ends : PivotRunEndsWith lists (solved.Unsolved stop)

-- What the cause of a refusal says of the text.
abbrev pub IsCauseOf : List ℕ → Why → Type 0
IsCauseOf text why.TooLong = text_limit < length text
IsCauseOf text (why.NotAscii at) = IsFirstNotAscii text at
IsCauseOf text (why.Syntax at) = IsOffence text (grammar.Syntax at)
IsCauseOf text (why.Limit which at) = IsOffence text (grammar.Limit which at)
IsCauseOf text (why.Name at) = ReadsWith text (λ tree. first_broken (claims_of tree) ≡ Some at)
IsCauseOf text (why.Cost at) = ReadsWith text (λ tree. BreaksCosts tree at)
IsCauseOf text (why.Contractive at) = IsProgramWith text (λ lists. IsFirstBareName lists at)
IsCauseOf text (why.Mode at) = IsProgramWith text (λ lists. IsContractive lists × IsFirstOffence lists at)
IsCauseOf text (why.NotSync at path) =
    IsProgramWith text (λ lists. IsWellFormed lists × IsCause lists (rows_error.NotSync at path))
IsCauseOf text (why.TermType at) =
    IsProgramWith text (λ lists. IsWellFormed lists × IsCause lists (rows_error.TermType at))
IsCauseOf text (why.ProcType at form) =
    IsProgramWith text (λ lists. IsWellFormed lists × IsCause lists (rows_error.ProcType at form))
IsCauseOf text (why.NoPotential verdict) = IsProgramWith text (λ lists. IsRefuted lists verdict)

-- The text is refused for this cause, and is typed under no amounts at all.
pub record IsRefused (text : List ℕ) (why : Why) : Type 0 where
  pub cause : IsCauseOf text why
  pub never : IsNeverTypedText text

-- What is answered of a text. Where it is refused, it is typed under no amounts at all.
abbrev pub Answers : List ℕ → Result Acceptance AcceptError → Type 0
Answers text (Ok a) = IsAcceptedAs text a
Answers text (Err (error.Refused why)) = IsRefused text why
Answers text (Err (error.Unsolved stop)) = IsProgramWith text (λ lists. IsUnsolved lists stop)
Answers text (Err error.NoMemory) = Unit {0}
