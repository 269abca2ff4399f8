-- What is answered of a text: its one tree, or why it has none.
use Rattle.std.specs.Prelude.{◌≡◌, ℕ, ◌<◌, List, length}
use Rattle.std.specs.declared.result.Result.{Result}
use Rattle.std.specs.declared.result.Result.TheVariants.{Ok, Err}
use Rattle.nomos_grammar.specs.declared.offence.GrammarError.{GrammarError}
use Rattle.nomos_grammar.specs.declared.offence.GrammarError.TheVariants as grammar
use Rattle.nomos_grammar.specs.Offence.{Answers}
use Rattle.nomos_reader.specs.declared.parse.ParseError.{ParseError}
use Rattle.nomos_reader.specs.declared.parse.ParseError.TheVariants as error
use Rattle.nomos_surface.specs.declared.surface.Surface.{Surface}
use Rattle.nomos_surface.specs.FileView.{file_tree}
use Rattle.nomos_surface.specs.TreeReading.{ReadsAs}
use Rattle.nomos_surface.specs.Tree.{FileTree}
use Rattle.nomos_ir.specs.Limits.{text_limit}
use Rattle.nomos_syntax.specs.Reading.{IsPlainText}
use Rattle.nomos_syntax.specs.Scan.{tokens_of}
use Rattle.nomos_syntax.specs.Spans.{IsFirstNotAscii}

-- the text reads as this tree alone
pub record ReadsOnlyAs (text : List ℕ) (tree : FileTree) : Type 0 where
  pub reads : ReadsAs text tree
  pub only : (other : FileTree) → ReadsAs text other → other ≡ tree

-- the text reads as no tree
abbrev pub ReadsAsNone : List ℕ → Type 0
ReadsAsNone text = (tree : FileTree) → ¬ (ReadsAs text tree)

-- the text is plain, and the grammar refuses its tokens for this
pub record Offends (text : List ℕ) (e : GrammarError) : Type 0 where
  pub plain : IsPlainText text
  pub refused : Answers {T = Unit {0}} (tokens_of text) (length text) (Err e)
  pub none : ReadsAsNone text

abbrev pub AnswersParse : List ℕ → Result Surface ParseError → Type 0
AnswersParse text (Ok surface) = ReadsOnlyAs text (file_tree surface)
AnswersParse text (Err error.TooLong) = (text_limit < length text) × ReadsAsNone text
AnswersParse text (Err (error.NotAscii at)) = IsFirstNotAscii text at × ReadsAsNone text
AnswersParse text (Err (error.Syntax at)) = Offends text (grammar.Syntax at)
AnswersParse text (Err (error.Limit which at)) = Offends text (grammar.Limit which at)
AnswersParse text (Err error.NoMemory) = Unit {0}
