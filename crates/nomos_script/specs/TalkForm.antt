-- The forms of a line of a talk, how they are printed to tokens, and which of them are valid.
use Rattle.std.specs.Prelude.{◌≡◌, ℕ, List, [], ◌∷◌, codes}
use Rattle.nomos_script.specs.ScriptNames.{IsScriptName}
use Rattle.nomos_script.specs.ScriptScan.{Token, word, tokens_of}
use Rattle.nomos_script.specs.ValueTree.{ValueTree, print_value, IsValidValue}

-- line = [ "label" NAME | "value" value | "pay" | "hear" ]
pub data TalkForm : Type 0 where
  -- a blank line, or a comment alone
  blank : TalkForm
  label : (name : List ℕ) → TalkForm
  value : (v : ValueTree) → TalkForm
  pay : TalkForm
  hear : TalkForm

abbrev pub print_talk_form : TalkForm → List Token
print_talk_form blank = []
print_talk_form (label name) = word (codes "label") ∷ word name ∷ []
print_talk_form (value v) = word (codes "value") ∷ print_value v []
print_talk_form pay = word (codes "pay") ∷ []
print_talk_form hear = word (codes "hear") ∷ []

-- a name is a name, and a value is valid
abbrev pub IsValidTalkForm : TalkForm → Type 0
IsValidTalkForm blank = Unit {0}
IsValidTalkForm (label name) = IsScriptName name
IsValidTalkForm (value v) = IsValidValue v
IsValidTalkForm pay = Unit {0}
IsValidTalkForm hear = Unit {0}

-- the tokens are those of the form
pub record TalkTokensReadAs (tokens : List Token) (form : TalkForm) : Type 0 where
  pub printed : tokens ≡ print_talk_form form
  pub valid : IsValidTalkForm form

-- the line has this form
abbrev pub TalkLineReadsAs : List ℕ → TalkForm → Type 0
TalkLineReadsAs line form = TalkTokensReadAs (tokens_of line) form

-- the line has a form
abbrev pub HasTalkForm : List ℕ → Type 0
HasTalkForm line = (form : TalkForm) × TalkLineReadsAs line form
