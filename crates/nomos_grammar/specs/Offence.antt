-- The first token of a text that the grammar or a limit does not allow.
use Rattle.std.specs.Prelude.{◌≡◌, ℕ, ◌≤◌, List, [], ◌∷◌, ◌++◌, Result, Ok, Err, ◌⊎◌}
use Rattle.std.specs.Str.Parse.{digits_value}
use Rattle.nomos_syntax.specs.Lexeme.{Lexeme, name, reserved, number, symbol, bad, Placed}
use Rattle.nomos_syntax.specs.TextLimits.{nesting_limit, node_limit, IsShort}
use Rattle.nomos_grammar.specs.declared.offence.GrammarError.{GrammarError}
use Rattle.nomos_grammar.specs.declared.offence.GrammarError.TheVariants.{Syntax, Limit, NoMemory}
use Rattle.nomos_grammar.specs.declared.offence.Which.{Which}
use Rattle.nomos_grammar.specs.declared.offence.Which.TheVariants as which
use Rattle.nomos_grammar.specs.CountedPlaces.{Counts, depth, counts}
use Rattle.nomos_grammar.specs.Producing.{Event, token, tokens_in, Produces, file, IsFile}

-- the most stars of a text, and the largest number
abbrev pub star_limit : ℕ
star_limit = 64

-- The largest number that a text may write.
abbrev pub number_limit : ℕ
number_limit = 1000000000

-- a number is no larger than the limit, however many digits write it
abbrev pub IsSmall : Lexeme → Type 0
IsSmall (name text) = Unit {0}
IsSmall (reserved w) = Unit {0}
IsSmall (number digits) = digits_value 10 digits ≤ number_limit
IsSmall (symbol s) = Unit {0}
IsSmall (bad byte) = Unit {0}

-- some tokens follow, so that the whole is a file of the grammar
abbrev pub MayBecome : List Placed → Type 0
MayBecome front = (more : List Placed) × IsFile (front ++ more)

-- in some file of the grammar the token stands behind these, and what counts at it is such
abbrev pub MayStand : (Counts → Type 0) → List Placed → Placed → Type 0
MayStand P front x =
    (earlier later : List Event) ×
    Produces file (earlier ++ token x ∷ later) × (tokens_in earlier ≡ front) × P (counts earlier)

-- What a token has to keep to. The word `list` may turn out to be a node only with the token behind it: that the nodes
-- up to the token before are not too many is a rule of its own.
pub data Rule : Type 0 where
  nodes_before : Rule
  limit : (which : Which) → Rule
  syntax : Rule

-- the rules, in the order in which a token is held to them
abbrev pub rules : List Rule
rules =
    nodes_before ∷ limit which.Name ∷ limit which.Number ∷ syntax ∷ limit which.Nesting ∷ limit which.Nodes ∷
    limit which.Stars ∷ []

-- the token that stands behind these keeps to the rule
abbrev pub Keeps : List Placed → Placed → Rule → Type 0
Keeps front x nodes_before = MayBecome (front ++ x ∷ []) → MayStand (λ c. c.before ≤ node_limit) front x
Keeps front x (limit which.Name) = IsShort x.lexeme
Keeps front x (limit which.Number) = IsSmall x.lexeme
Keeps front x syntax = MayBecome (front ++ x ∷ [])
Keeps front x (limit which.Nesting) = MayStand (λ c. depth c ≤ nesting_limit) front x
Keeps front x (limit which.Nodes) = MayStand (λ c. c.nodes ≤ node_limit) front x
Keeps front x (limit which.Stars) = MayStand (λ c. c.stars ≤ star_limit) front x

-- The token that stands behind these keeps to each of the rules.
abbrev pub KeepsAll : List Placed → Placed → List Rule → Type 0
KeepsAll front x [] = Unit {0}
KeepsAll front x (rule ∷ more) = Keeps front x rule × KeepsAll front x more

-- each of the tokens, which stand behind these, keeps to the rules
abbrev pub AllKeep : List Placed → List Placed → Type 0
AllKeep front [] = Unit {0}
AllKeep front (x ∷ tokens) = KeepsAll front x rules × AllKeep (front ++ x ∷ []) tokens

-- the token is the first of these that breaks a rule, and this is the first rule that it breaks
pub record IsFirstOffence (tokens front : List Placed) (x : Placed) (rule : Rule) : Type 0 where
  pub after : List Placed
  pub stands : front ++ x ∷ after ≡ tokens
  pub kept : AllKeep [] front
  pub kept_rules : List Rule
  pub other_rules : List Rule
  pub in_order : kept_rules ++ rule ∷ other_rules ≡ rules
  pub keeps : KeepsAll front x kept_rules
  pub broken : ¬ Keeps front x rule

-- the offset of the last of the tokens
abbrev pub last_offset : List Placed → ℕ
last_offset [] = 0
last_offset (x ∷ []) = x.at
last_offset (x ∷ y ∷ tokens) = last_offset (y ∷ tokens)

-- what is answered where the token behind these breaks the rule
abbrev pub error_of : List Placed → Placed → Rule → GrammarError
error_of front x nodes_before = Limit which.Nodes (last_offset front)
error_of front x (limit which) = Limit which x.at
error_of front x syntax = Syntax x.at

-- Some token is the first that breaks a rule, and this is the error that is answered for it.
abbrev pub Offends : List Placed → GrammarError → Type 0
Offends tokens error =
    (front : List Placed) × (x : Placed) × (rule : Rule) ×
    IsFirstOffence tokens front x rule × (error_of front x rule ≡ error)

-- the tokens keep to all rules, and are no file: the text ends too early
abbrev pub EndsTooEarly : List Placed → Type 0
EndsTooEarly tokens = AllKeep [] tokens × (¬ IsFile tokens)

-- what is answered for the tokens of a text of this length
abbrev pub Answers : {T : Type 0} → List Placed → ℕ → Result T GrammarError → Type 0
Answers tokens size (Ok found) = AllKeep [] tokens × IsFile tokens
Answers tokens size (Err (Limit which at)) = Offends tokens (Limit which at)
Answers tokens size (Err (Syntax at)) = Offends tokens (Syntax at) ⊎ (EndsTooEarly tokens × (at ≡ size))
Answers tokens size (Err NoMemory) = Unit {0}
