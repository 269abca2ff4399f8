-- The trees that are nested no deeper than the limit of texts, parentheses counted.
use Rattle.std.specs.Prelude.{◌≡◌, List, [], ◌∷◌, ◌++◌}
use Rattle.nomos_grammar.specs.Offence.{Keeps, limit}
use Rattle.nomos_grammar.specs.declared.offence.Which.TheVariants as which
use Rattle.nomos_surface.specs.Print.{print_file}
use Rattle.nomos_surface.specs.Printed.{Spells}
use Rattle.nomos_surface.specs.Tree.{DeclTree, FileTree}
use Rattle.nomos_syntax.specs.Lexeme.{Placed}

-- each of the tokens, which stand behind these, keeps to the rule by which texts are refused for their nesting
abbrev pub AllNestWithinLimit : List Placed → List Placed → Type 0
AllNestWithinLimit front [] = Unit {0}
AllNestWithinLimit front (x ∷ tokens) =
    Keeps front x (limit which.Nesting) × AllNestWithinLimit (front ++ x ∷ []) tokens

-- the tokens of the tree do
pub record NestsWithinLimit (tree : FileTree) : Type 0 where
  pub tokens : List Placed
  pub printed : Spells (print_file tree) tokens
  pub nested : AllNestWithinLimit [] tokens

-- the declaration is one of such a tree
pub record IsNestedWithinLimit (decl : DeclTree) : Type 0 where
  pub tree : FileTree
  pub nests : NestsWithinLimit tree
  pub earlier : List DeclTree
  pub later : List DeclTree
  pub stands : earlier ++ decl ∷ later ≡ tree.decls
