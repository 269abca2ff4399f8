-- A mirror of the code: the grammar as the reader knows it, with the tokens that choose among alternatives.
use Rattle.std.specs.Prelude.{
  ℕ,
  zero,
  suc,
  Bool,
  true,
  false,
  ◌||◌,
  List,
  [],
  ◌∷◌,
  ◌++◌,
  Option,
  Some,
  None,
  if◌then◌else◌,
}
use Rattle.nomos_grammar.specs.contracts.part.TerminalPartialEq.TheImpl as compared
use Rattle.nomos_grammar.specs.declared.part.Terminal.{Terminal}
use Rattle.nomos_grammar.specs.declared.part.Terminal.TheVariants as terminal
use Rattle.nomos_grammar.specs.declared.part.Nonterminal.{Nonterminal}
use Rattle.nomos_grammar.specs.declared.part.Part.{Part}
use Rattle.nomos_grammar.specs.declared.part.Part.TheVariants as part
use Rattle.nomos_grammar.specs.declared.productions.Alternative.{Alternative}
use Rattle.nomos_grammar.specs.Grammar.{alternatives}

-- the two are the same
abbrev pub same : Terminal → Terminal → Bool
same x y = compared.ghosts.eq x y

abbrev pub is_in : Terminal → List Terminal → Bool
is_in t [] = false
is_in t (x ∷ terminals) = same x t || is_in t terminals

-- one of the alternatives is empty
abbrev pub has_empty : List (List Part) → Bool
has_empty [] = false
has_empty ([] ∷ sides) = true
has_empty ((p ∷ side) ∷ sides) = has_empty sides

abbrev pub vanishes : Nonterminal → Bool
vanishes n = has_empty (alternatives n)

-- what fits the terminal
abbrev pub fitting : Terminal → List Terminal
fitting terminal.Number = terminal.Number ∷ terminal.One ∷ []
fitting terminal.Name = terminal.Name ∷ []
fitting terminal.One = terminal.One ∷ []
fitting (terminal.Reserved w) = terminal.Reserved w ∷ []
fitting (terminal.Symbol s) = terminal.Symbol s ∷ []

-- with which tokens the parts may begin, found in so many steps
abbrev mutual
  pub starts_within : ℕ → List Part → List Terminal
  starts_within zero parts = []
  starts_within (suc k) [] = []
  starts_within (suc k) (part.Terminal t ∷ rest) = fitting t
  starts_within (suc k) (part.Mark m ∷ rest) = starts_within k rest
  starts_within (suc k) (part.Nonterminal n ∷ rest) =
      one_starts_within k (alternatives n) ++ (if vanishes n then starts_within k rest else [])

  pub one_starts_within : ℕ → List (List Part) → List Terminal
  one_starts_within k [] = []
  one_starts_within zero (side ∷ sides) = []
  one_starts_within (suc k) (side ∷ sides) = starts_within k side ++ one_starts_within k sides

-- an alternative, and the tokens that choose it
pub record TableRow : Type 0 where
  pub begins : List Terminal
  pub side : List Part

abbrev pub row_of : Alternative → TableRow
row_of a = record { begins = a.begins.now; side = a.side.now }

-- each alternative but the last is chosen by the tokens with which it may begin
abbrev pub rows_of : List (List Part) → List TableRow
rows_of [] = []
rows_of (side ∷ []) = record { begins = []; side = side } ∷ []
rows_of (side ∷ other ∷ sides) = record { begins = starts_within 60 side; side = side } ∷ rows_of (other ∷ sides)

abbrev pub rows : Nonterminal → List TableRow
rows n = rows_of (alternatives n)

-- whether what comes next chooses the alternative
abbrev pub takes : List Terminal → Option Terminal → Bool
takes [] next = true
takes (x ∷ begins) None = false
takes (x ∷ begins) (Some t) = is_in t (x ∷ begins)

abbrev pub pick : List TableRow → Option Terminal → List Part
pick [] next = []
pick (r ∷ more) next = if takes r.begins next then r.side else pick more next

-- the alternative that what comes next chooses
unfoldable pub chosen : Nonterminal → Option Terminal → List Part
chosen n next = pick (rows n) next
