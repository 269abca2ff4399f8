-- What the code of the reader returns, against the definitions: a mirror of the code, on which no promise stands.
use Rattle.std.specs.Prelude.{◌≡◌, ℕ, ◌≤◌, ◌==◌, false, List, [], ◌∷◌, ◌++◌, All, Option, Some, codes, if◌then◌else◌}
use Rattle.std.specs.Str.Parse.{IsNumeral}
use Rattle.nomos_ir.specs.Value.{Value}
use Rattle.nomos_script.specs.declared.item.Start.{Start}
use Rattle.nomos_script.specs.declared.line.Line.{Line}
use Rattle.nomos_script.specs.declared.tokens.Token.{Token as Found}
use Rattle.nomos_script.specs.declared.tokens.Token.TheVariants as found
use Rattle.nomos_script.specs.Form.{Form, Invocation, TokensReadAs, LineReadsAs, IsValidInvocation, print_invocation, print_names, print_more_names, units_of, max_units}
use Rattle.nomos_script.specs.Item.{start_at}
use Rattle.nomos_script.specs.ScriptNames.{IsScriptName}
use Rattle.nomos_ir.specs.Name.{is_letter, is_digit}
use Rattle.nomos_script.specs.ScriptScan.{Token, word, number, mark, is_blank}
use Rattle.nomos_script.specs.ValueTree.{ValueTrees, print_values, AreValidValues, values_at}
use Rattle.nomos_script.specs.mirror.Assembling.{Assembled, line_said, add_line}

-- what a token says
abbrev pub token_seen : Found → Token
token_seen (found.Word text) = word text.now
token_seen (found.Number digits) = number digits.now
token_seen (found.Mark byte) = mark (byte ∷ [])

-- a number consists of digits
abbrev pub HasDigits : Found → Type 0
HasDigits (found.Word text) = Unit {0}
HasDigits (found.Number digits) = IsNumeral 10 digits.now
HasDigits (found.Mark byte) = Unit {0}

-- wherever this byte begins a piece, it is a token by itself
abbrev pub IsPlainMark : ℕ → Type 0
IsPlainMark b =
    (is_blank b ≡ false) × ((b == 47) ≡ false) × (is_letter b ≡ false) × (is_digit b ≡ false)

-- a line that ended with a line feed, without the carriage return at its end
abbrev pub without_return : List ℕ → List ℕ
without_return [] = []
without_return (b ∷ []) = if b == 13 then [] else b ∷ []
without_return (b ∷ c ∷ line) = b ∷ without_return (c ∷ line)

-- a name stands next
abbrev pub BeginsWithName : List Token → Type 0
BeginsWithName tokens = (text : List ℕ) × (rest : List Token) × (tokens ≡ word text ∷ rest) × IsScriptName text

-- the units of a deposit stand next, before the rest
abbrev pub BeginsWithUnits : ℕ → List Token → List Token → Type 0
BeginsWithUnits n tokens rest =
    (digits : List ℕ) × (tokens ≡ number digits ∷ rest) × (n ≡ units_of digits) × (n ≤ max_units)

-- commas and names stand next, before other tokens; with them the names so far become all of these
pub record AreMoreNames (tokens after : List Token) (names all : List (List ℕ)) : Type 0 where
  pub more : List (List ℕ)
  pub printed : tokens ≡ print_more_names more after
  pub each : All IsScriptName more
  pub together : all ≡ names ++ more

-- names stand next, up to `)`, before the rest
pub record AreNames (tokens : List Token) (names : List (List ℕ)) (rest : List Token) : Type 0 where
  pub printed : tokens ≡ print_names names (mark (codes ")") ∷ rest)
  pub each : All IsScriptName names

-- the tokens are arguments
pub record AreArguments (tokens : List Token) (values : List Value) (names : List (List ℕ)) : Type 0 where
  pub trees : ValueTrees
  pub printed : tokens
      ≡ mark (codes "(") ∷ print_values trees (mark (codes ";") ∷ print_names names (mark (codes ")") ∷ []))
  pub valid : AreValidValues trees
  pub each : All IsScriptName names
  pub are : values_at trees ≡ values

-- the tokens say what is started, by a line of this number
pub record Starts (tokens : List Token) (line : ℕ) (contract : Option (List ℕ)) (start : Start) : Type 0 where
  pub i : Invocation
  pub printed : tokens ≡ print_invocation i
  pub valid : IsValidInvocation i
  pub is : start_at line contract i ≡ start

-- the tokens of a line with this number say this
abbrev pub SaysLine : ℕ → List Token → Line → Type 0
SaysLine n tokens line = (form : Form) × TokensReadAs tokens form × (line_said n form ≡ line)

-- a line with this number was added
abbrev pub AddsLine : ℕ → List ℕ → Assembled → Assembled → Type 0
AddsLine n line before after =
    (form : Form) × LineReadsAs line form × (add_line n (line_said n form) before ≡ Some after)
