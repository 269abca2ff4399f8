-- What the proofs say of the parts that have to follow: with which tokens they may begin, and what may stand behind a
-- production.
use Rattle.std.specs.Prelude.{
  ℕ,
  zero,
  suc,
  ◌+◌,
  ◌≤◌,
  max,
  Bool,
  true,
  false,
  ◌&&◌,
  List,
  [],
  ◌∷◌,
  ◌++◌,
  Option,
  None,
  if◌then◌else◌,
}
use Rattle.nomos_ir.specs.declared.word.Word.{Word}
use Rattle.nomos_ir.specs.declared.word.Word.TheVariants as word
use Rattle.nomos_syntax.specs.declared.symbol.Symbol.{Symbol}
use Rattle.nomos_syntax.specs.declared.symbol.Symbol.TheVariants as sym
use Rattle.nomos_grammar.specs.declared.part.Terminal.{Terminal}
use Rattle.nomos_grammar.specs.declared.part.Terminal.TheVariants as terminal
use Rattle.nomos_grammar.specs.declared.part.Nonterminal.{Nonterminal}
use Rattle.nomos_grammar.specs.declared.part.Nonterminal.TheVariants as n
use Rattle.nomos_grammar.specs.declared.part.Mark.{Mark}
use Rattle.nomos_grammar.specs.declared.part.Mark.TheVariants as mark
use Rattle.nomos_grammar.specs.declared.part.Part.{Part}
use Rattle.nomos_grammar.specs.declared.part.Part.TheVariants as part
use Rattle.nomos_grammar.specs.Producing.{terminal_of, Event, token, mark as marked, IsAmong}
use Rattle.nomos_grammar.specs.Grammar.{alternatives}
use Rattle.nomos_grammar.specs.mirror.Table.{vanishes, fitting, starts_within}

-- with which tokens a production may begin
unfoldable pub firsts : Nonterminal → List Terminal
firsts m = starts_within 60 (part.Nonterminal m ∷ [])

-- with which tokens the parts may begin
abbrev pub starts : List Part → List Terminal
starts [] = []
starts (part.Terminal t ∷ rest) = fitting t
starts (part.Mark m ∷ rest) = starts rest
starts (part.Nonterminal m ∷ rest) = firsts m ++ (if vanishes m then starts rest else [])

-- whether the parts may derive no token
abbrev pub may_vanish : List Part → Bool
may_vanish [] = true
may_vanish (part.Terminal t ∷ rest) = false
may_vanish (part.Mark m ∷ rest) = may_vanish rest
may_vanish (part.Nonterminal m ∷ rest) = vanishes m && may_vanish rest

-- what the grammar sees of the first token
abbrev pub next_in : List Event → Option Terminal
next_in [] = None
next_in (token x ∷ events) = terminal_of x.lexeme
next_in (marked m ∷ events) = next_in events

abbrev pub word_is : Word → Terminal
word_is w = terminal.Reserved w

abbrev pub sign_is : Symbol → Terminal
sign_is s = terminal.Symbol s

-- what may stand behind types, and behind terms and the parts of terms
abbrev pub after_type : List Terminal
after_type =
    sign_is sym.Semicolon ∷ sign_is sym.Equals ∷ sign_is sym.Comma ∷ sign_is sym.CloseParen ∷ sign_is sym.Bar ∷
    sign_is sym.CloseBrace ∷ []

abbrev pub after_term : List Terminal
after_term =
    sign_is sym.Semicolon ∷ sign_is sym.Comma ∷ sign_is sym.CloseParen ∷ word_is word.Then ∷ word_is word.Else ∷
    sign_is sym.OpenBrace ∷ sign_is sym.Bar ∷ sign_is sym.CloseBrace ∷ []

abbrev pub after_conjunction : List Terminal
after_conjunction = word_is word.Or ∷ after_term

abbrev pub after_negation : List Terminal
after_negation = word_is word.And ∷ after_conjunction

abbrev pub after_list_term : List Terminal
after_list_term = sign_is sym.Less ∷ sign_is sym.Equals ∷ after_negation

abbrev pub after_sum : List Terminal
after_sum = sign_is sym.DoubleColon ∷ after_list_term

abbrev pub after_product : List Terminal
after_product = sign_is sym.Plus ∷ sign_is sym.Minus ∷ after_sum

abbrev pub after_primary : List Terminal
after_primary = sign_is sym.Star ∷ sign_is sym.Slash ∷ sign_is sym.Percent ∷ after_product

abbrev pub after_code : List Terminal
after_code = sign_is sym.Semicolon ∷ sign_is sym.Bar ∷ sign_is sym.CloseBrace ∷ []

-- what may stand behind a production
unfoldable pub follow : Nonterminal → List Terminal
follow n.File = []
follow n.CostModel = sign_is sym.Semicolon ∷ []
follow n.Declarations = []
follow n.Declaration = word_is word.«Type» ∷ word_is word.Fn ∷ word_is word.Proc ∷ []
follow n.DefinitionMode = terminal.Name ∷ []
follow n.Process = word_is word.«Type» ∷ word_is word.Fn ∷ word_is word.Proc ∷ []
follow n.FunctionParameters = sign_is sym.CloseParen ∷ []
follow n.MoreFunctionParameters = sign_is sym.CloseParen ∷ []
follow n.FunctionParameter = sign_is sym.Comma ∷ sign_is sym.CloseParen ∷ []
follow n.Parameters = sign_is sym.OpenBrace ∷ sign_is sym.Colon ∷ sign_is sym.Equals ∷ []
follow n.ValueParameters = sign_is sym.Semicolon ∷ []
follow n.MoreValueParameters = sign_is sym.Semicolon ∷ []
follow n.ValueParameter = sign_is sym.Comma ∷ sign_is sym.Semicolon ∷ []
follow n.ParameterKind = sign_is sym.Comma ∷ sign_is sym.Semicolon ∷ []
follow n.AfterParameterList = sign_is sym.Comma ∷ sign_is sym.Semicolon ∷ []
follow n.ChannelParameters = sign_is sym.CloseParen ∷ []
follow n.MoreChannelParameters = sign_is sym.CloseParen ∷ []
follow n.ChannelParameter = sign_is sym.Comma ∷ sign_is sym.CloseParen ∷ []
follow n.OptionalPotential = sign_is sym.Colon ∷ sign_is sym.Equals ∷ []
follow n.Potential =
    sign_is sym.Colon ∷ sign_is sym.Equals ∷ sign_is sym.Greater ∷ sign_is sym.Bar ∷ sign_is sym.Semicolon ∷
    firsts n.ValueType
follow n.Amount = sign_is sym.CloseBrace ∷ []
follow n.ValueType = sign_is sym.Wedge ∷ sign_is sym.Arrow ∷ after_primary
follow n.SessionType = after_type
follow n.ValueArrow = firsts n.SessionType
follow n.AfterAtom = after_type
follow n.Atom = sign_is sym.Star ∷ sign_is sym.Lollipop ∷ after_type
follow n.Labels = sign_is sym.CloseBrace ∷ []
follow n.MoreLabels = sign_is sym.CloseBrace ∷ []
follow n.LabelledType = sign_is sym.Bar ∷ sign_is sym.CloseBrace ∷ []
follow n.Channel = terminal.Name ∷ sign_is sym.Dot ∷ sign_is sym.OpenBrace ∷ firsts n.Term
follow n.Arguments = after_code
follow n.ValueArguments = sign_is sym.Semicolon ∷ sign_is sym.CloseParen ∷ []
follow n.MoreValueArguments = sign_is sym.Semicolon ∷ sign_is sym.CloseParen ∷ []
follow n.ChannelArguments = sign_is sym.CloseParen ∷ []
follow n.MoreChannelArguments = sign_is sym.CloseParen ∷ []
follow n.Code = after_code
follow n.Step = sign_is sym.Semicolon ∷ []
follow n.BoundValue = sign_is sym.Semicolon ∷ []
follow n.AfterList = sign_is sym.Semicolon ∷ []
follow n.Last = after_code
follow n.BracedCode = word_is word.Else ∷ after_code
follow n.Branches = sign_is sym.CloseBrace ∷ []
follow n.MoreBranches = sign_is sym.CloseBrace ∷ []
follow n.Branch = sign_is sym.Bar ∷ sign_is sym.CloseBrace ∷ []
follow n.Term = after_term
follow n.Disjunction = after_term
follow n.MoreDisjuncts = after_term
follow n.Conjunction = after_conjunction
follow n.MoreConjuncts = after_conjunction
follow n.Negation = after_negation
follow n.Comparison = after_negation
follow n.MoreComparison = after_negation
follow n.ListTerm = after_list_term
follow n.MoreListTerm = after_list_term
follow n.Sum = after_sum
follow n.MoreSummands = after_sum
follow n.Product = after_product
follow n.MoreFactors = after_product
follow n.Primary = after_primary
follow n.CallArguments = after_primary

-- each of these is one of those
abbrev pub AreWithin : List Terminal → List Terminal → Type 0
AreWithin some all = (t : Terminal) → IsAmong t some → IsAmong t all

-- behind each production stands what may stand there
abbrev pub IsStack : List Part → Type 0
IsStack [] = Unit {0}
IsStack (part.Terminal t ∷ rest) = IsStack rest
IsStack (part.Mark m ∷ rest) = IsStack rest
IsStack (part.Nonterminal m ∷ rest) = AreWithin (starts rest) (follow m) × IsStack rest

-- whether the mark adds to a count
abbrev pub rises : Mark → ℕ
rises mark.ClosePart = 0
rises mark.CloseTerm = 0
rises _ = 1

-- how many productions are replaced and marks counted that add, at most, before the parts come to a token
abbrev mutual
  pub distance_within : ℕ → List Part → ℕ
  distance_within zero parts = 0
  distance_within (suc k) [] = 0
  distance_within (suc k) (part.Terminal t ∷ rest) = 0
  distance_within (suc k) (part.Mark m ∷ rest) = rises m + distance_within k rest
  distance_within (suc k) (part.Nonterminal m ∷ rest) =
      max (suc (most_within k (alternatives m))) (if vanishes m then distance_within k rest else 0)

  pub most_within : ℕ → List (List Part) → ℕ
  most_within k [] = 0
  most_within zero (side ∷ sides) = 0
  most_within (suc k) (side ∷ sides) = max (distance_within k side) (most_within k sides)

unfoldable pub rank : Nonterminal → ℕ
rank m = distance_within 60 (part.Nonterminal m ∷ [])

abbrev pub distance : List Part → ℕ
distance [] = 0
distance (part.Terminal t ∷ rest) = 0
distance (part.Mark m ∷ rest) = rises m + distance rest
distance (part.Nonterminal m ∷ rest) = max (rank m) (if vanishes m then distance rest else 0)

-- no part of the stack is far from a token
abbrev pub IsLow : List Part → Type 0
IsLow [] = Unit {0}
IsLow (p ∷ rest) = (distance (p ∷ rest) ≤ 40) × IsLow rest
