-- The forms of a line, how they are printed to tokens, and which of them are valid.
use Rattle.std.specs.Prelude.{◌≡◌, ℕ, ◌^◌, ◌≤◌, List, [], ◌∷◌, All, codes}
use Rattle.std.specs.Str.Parse.{digits_value}
use Rattle.nomos_script.specs.ScriptNames.{IsScriptName}
use Rattle.nomos_script.specs.ScriptScan.{Token, word, number, mark, tokens_of}
use Rattle.nomos_script.specs.ValueTree.{ValueTrees, print_values, AreValidValues}

-- invocation = NAME NAME "(" [ value { "," value } ] ";" [ NAME { "," NAME } ] ")"
pub record Invocation : Type 0 where
  pub sender : List ℕ
  pub proc : List ℕ
  pub values : ValueTrees
  pub names : List (List ℕ)

-- line = [ "deposit" NAME N | "let" NAME "=" "new" invocation | "exec" invocation | "begin" | "end" | "show" ]
pub data Form : Type 0 where
  -- a blank line, or a comment alone
  blank : Form
  deposit : (name : List ℕ) → (digits : List ℕ) → Form
  create : (contract : List ℕ) → (i : Invocation) → Form
  exec : (i : Invocation) → Form
  begin : Form
  end : Form
  show : Form

-- names before other tokens, with a comma before each one
abbrev pub print_more_names : List (List ℕ) → List Token → List Token
print_more_names [] after = after
print_more_names (name ∷ names) after = mark (codes ",") ∷ word name ∷ print_more_names names after

-- names before other tokens, with a comma before each but the first
abbrev pub print_names : List (List ℕ) → List Token → List Token
print_names [] after = after
print_names (name ∷ names) after = word name ∷ print_more_names names after

-- the account, the declaration and, in brackets, the values, `;` and the names
abbrev pub print_invocation : Invocation → List Token
print_invocation i =
    word i.sender ∷ word i.proc ∷ mark (codes "(") ∷
    print_values i.values (mark (codes ";") ∷ print_names i.names (mark (codes ")") ∷ []))

-- the tokens of a line of this form
abbrev pub print_form : Form → List Token
print_form blank = []
print_form (deposit name digits) = word (codes "deposit") ∷ word name ∷ number digits ∷ []
print_form (create contract i) =
    word (codes "let") ∷ word contract ∷ mark (codes "=") ∷ word (codes "new") ∷ print_invocation i
print_form (exec i) = word (codes "exec") ∷ print_invocation i
print_form begin = word (codes "begin") ∷ []
print_form end = word (codes "end") ∷ []
print_form show = word (codes "show") ∷ []

-- the units that digits write in decimal
abbrev pub units_of : List ℕ → ℕ
units_of digits = digits_value 10 digits

-- the most units of one deposit
abbrev pub max_units : ℕ
max_units = 10 ^ 18

-- the names are names, and the values are valid
pub record IsValidInvocation (i : Invocation) : Type 0 where
  pub sender : IsScriptName i.sender
  pub proc : IsScriptName i.proc
  pub values : AreValidValues i.values
  pub names : All IsScriptName i.names

-- the same, and no deposit is too large
abbrev pub IsValid : Form → Type 0
IsValid blank = Unit {0}
IsValid (deposit name digits) = IsScriptName name × (units_of digits ≤ max_units)
IsValid (create contract i) = IsScriptName contract × IsValidInvocation i
IsValid (exec i) = IsValidInvocation i
IsValid begin = Unit {0}
IsValid end = Unit {0}
IsValid show = Unit {0}

-- the tokens are those of the form
pub record TokensReadAs (tokens : List Token) (form : Form) : Type 0 where
  pub printed : tokens ≡ print_form form
  pub valid : IsValid form

-- the line has this form
abbrev pub LineReadsAs : List ℕ → Form → Type 0
LineReadsAs line form = TokensReadAs (tokens_of line) form

-- the line has a form
abbrev pub HasForm : List ℕ → Type 0
HasForm line = (form : Form) × LineReadsAs line form
