-- The tree whose tokens these are.
use Rattle.std.specs.Prelude.{◌≡◌, List}
use Rattle.nomos_surface.specs.Grammatical.{IsGrammatical}
use Rattle.nomos_surface.specs.Print.{print_file}
use Rattle.nomos_surface.specs.Printed.{Spells}
use Rattle.nomos_surface.specs.Tree.{FileTree}
use Rattle.nomos_syntax.specs.Lexeme.{Placed}

-- if these are the tokens of a tree of the grammar, then of this one
abbrev pub IsTreeOf : List Placed → FileTree → Type 0
IsTreeOf tokens tree = (other : FileTree) → IsGrammatical other → Spells (print_file other) tokens → tree ≡ other
