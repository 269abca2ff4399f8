-- What the proofs say of the reader: which parts and counts it has come to.
use Rattle.std.specs.Prelude.{
  ◌≡◌,
  ℕ,
  ◌+◌,
  ◌≤◌,
  List,
  [],
  ◌∷◌,
  ◌++◌,
  Option,
  Some,
  None,
  Bool,
  false,
  ◌&&◌,
  ◌||◌,
  nat_lt,
  if◌then◌else◌,
}
use Rattle.std.specs.Str.Parse.{IsNumeral}
use Rattle.nomos_syntax.specs.Lexeme.{Lexeme, name, reserved, number, symbol, bad, Placed}
use Rattle.nomos_syntax.specs.TextLimits.{nesting_limit, node_limit, IsShort}
use Rattle.nomos_grammar.specs.declared.offence.GrammarError.{GrammarError}
use Rattle.nomos_grammar.specs.declared.offence.Which.{Which}
use Rattle.nomos_grammar.specs.declared.offence.Which.TheVariants as which
use Rattle.nomos_grammar.specs.declared.part.Terminal.{Terminal}
use Rattle.nomos_grammar.specs.declared.part.Terminal.TheVariants as terminal
use Rattle.nomos_grammar.specs.declared.part.Mark.{Mark}
use Rattle.nomos_grammar.specs.declared.part.Part.{Part}
use Rattle.nomos_grammar.specs.declared.part.Part.TheVariants as part
use Rattle.nomos_grammar.specs.CountedPlaces.{Counts, depth, counts, counts_from}
use Rattle.nomos_grammar.specs.Producing.{Event, mark, tokens_in, Produces, file}
use Rattle.nomos_grammar.specs.Offence.{star_limit, IsSmall, Rule, rules, Keeps, KeepsAll, error_of}
use Rattle.nomos_grammar.specs.mirror.Table.{same}
use Rattle.nomos_grammar.specs.mirror.Stacks.{next_in, distance, IsStack, IsLow}

abbrev pub events_of : List Mark → List Event
events_of [] = []
events_of (m ∷ marks) = mark m ∷ events_of marks

-- the counts leave room for so many more
pub record HasRoom (c : Counts) (more : ℕ) : Type 0 where
  pub nested : depth c + more ≤ 20000
  pub nodes : c.nodes + more ≤ 20000
  pub before : c.before + more ≤ 20000
  pub stars : c.stars + more ≤ 20000

-- Parts that may follow, and counts that leave room for them.
pub record IsReady (parts : List Part) (c : Counts) : Type 0 where
  pub stack : IsStack parts
  pub low : IsLow parts
  pub room : HasRoom c (distance parts)

-- where this comes next, the marks lead from these parts and counts to those
pub record Leads (next : Option Terminal) (parts : List Part) (c : Counts) (marks : List Mark)
    (rest : List Part) (d : Counts) : Type 0 where
  pub counted : d ≡ counts_from c (events_of marks)
  pub sound : (events : List Event) → Produces rest events → Produces parts (events_of marks ++ events)
  pub complete :
      (events : List Event) → next_in events ≡ next → Produces parts events →
      (more : List Event) × (events ≡ events_of marks ++ more) × Produces rest more
  pub ready : IsReady rest d

-- the parts with the terminal that was taken from them
abbrev pub with_terminal : Option Terminal → List Part → List Part
with_terminal None rest = rest
with_terminal (Some t) rest = part.Terminal t ∷ rest

-- the terminal that is asked for next is taken from the parts; nothing is left where there is none
pub record Settles (next : Option Terminal) (parts : List Part) (c : Counts) (asked : Option Terminal)
    (rest : List Part) (d : Counts) : Type 0 where
  pub marks : List Mark
  pub leads : Leads next parts c marks (with_terminal asked rest) d
  pub ended : asked ≡ None → rest ≡ []

-- the tokens are read, and these parts have to follow
pub record HasRead (front : List Placed) (parts : List Part) (c : Counts) : Type 0 where
  pub events : List Event
  pub tokens : tokens_in events ≡ front
  pub counted : counts events ≡ c
  pub sound : (more : List Event) → Produces parts more → Produces file (events ++ more)
  pub complete :
      (all : List Event) (others : List Placed) → Produces file all → tokens_in all ≡ front ++ others →
      (more : List Event) × (all ≡ events ++ more) × Produces parts more

-- a number consists of digits
abbrev pub IsWritten : Lexeme → Type 0
IsWritten (name text) = Unit {0}
IsWritten (reserved w) = Unit {0}
IsWritten (number digits) = IsNumeral 10 digits
IsWritten (symbol s) = Unit {0}
IsWritten (bad byte) = Unit {0}

-- which limit a token that says this passes by itself
abbrev pub PassesItself : Lexeme → Option Which → Type 0
PassesItself lexeme None = IsShort lexeme × IsSmall lexeme
PassesItself lexeme (Some which.Name) = ¬ IsShort lexeme
PassesItself lexeme (Some which.Number) = IsShort lexeme × (¬ IsSmall lexeme)
PassesItself lexeme (Some which.Nesting) = ⊥
PassesItself lexeme (Some which.Nodes) = ⊥
PassesItself lexeme (Some which.Stars) = ⊥

-- the rule is the first that the token breaks
pub record Breaks (front : List Placed) (x : Placed) (rule : Rule) : Type 0 where
  pub kept_rules : List Rule
  pub other_rules : List Rule
  pub in_order : kept_rules ++ rule ∷ other_rules ≡ rules
  pub keeps : KeepsAll front x kept_rules
  pub broken : ¬ Keeps front x rule

-- the error is that of the rule which the token breaks first
abbrev pub BreaksBy : List Placed → Placed → GrammarError → Type 0
BreaksBy front x error = (rule : Rule) × Breaks front x rule × (error_of front x rule ≡ error)

-- the first limit that a token passes by what counts at it
abbrev pub passed : Counts → Option Which
passed c =
    if nat_lt nesting_limit (depth c) then Some which.Nesting
    else (if nat_lt node_limit c.nodes then Some which.Nodes
    else (if nat_lt star_limit c.stars then Some which.Stars
    else None))

-- whether the token that comes next is what is asked for; `1` is a number too
abbrev pub is_asked : Option Terminal → Option Terminal → Bool
is_asked None next = false
is_asked (Some t) None = false
is_asked (Some t) (Some x) = same t x || (same t terminal.Number && same x terminal.One)
