-- When a text reads as a tree.
use Rattle.std.specs.Prelude.{ℕ, List, []}
use Rattle.nomos_grammar.specs.Offence.{AllKeep}
use Rattle.nomos_surface.specs.Grammatical.{IsGrammatical}
use Rattle.nomos_surface.specs.Print.{print_file}
use Rattle.nomos_surface.specs.Printed.{Spells}
use Rattle.nomos_surface.specs.Tree.{FileTree}
use Rattle.nomos_syntax.specs.Lexeme.{Placed}
use Rattle.nomos_syntax.specs.Reading.{IsPlainText}
use Rattle.nomos_syntax.specs.Scan.{tokens_of}

-- the tokens are those of the tree, each of them within the limits
pub record TokensReadAs (tokens : List Placed) (tree : FileTree) : Type 0 where
  pub grammatical : IsGrammatical tree
  pub printed : Spells (print_file tree) tokens
  pub limits : AllKeep [] tokens

-- the text reads as the tree
pub record ReadsAs (text : List ℕ) (tree : FileTree) : Type 0 where
  pub plain : IsPlainText text
  pub tokens : TokensReadAs (tokens_of text) tree
