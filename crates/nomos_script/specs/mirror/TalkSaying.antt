-- What the code of the reader of talks returns, against the definitions. Private clauses alone cite it.
use Rattle.std.specs.Prelude.{◌≡◌, ℕ, List, ◌++◌, Option}
use Rattle.nomos_script.specs.declared.talk_line.TalkLine.{TalkLine}
use Rattle.nomos_script.specs.ScriptScan.{Token, tokens_of}
use Rattle.nomos_script.specs.TalkForm.{TalkForm, TalkTokensReadAs}
use Rattle.nomos_script.specs.TalkReading.{talk_said, numbered}

-- the tokens of a line say this, if they say something
abbrev pub SaysTalkLine : List Token → Option TalkLine → Type 0
SaysTalkLine tokens what = (form : TalkForm) × TalkTokensReadAs tokens form × (talk_said form ≡ what)

-- a line with this number was added
abbrev pub AddsTalkLine : ℕ → List ℕ → List (ℕ × TalkLine) → List (ℕ × TalkLine) → Type 0
AddsTalkLine n line before after =
    (what : Option TalkLine) × SaysTalkLine (tokens_of line) what × (after ≡ before ++ numbered n what)
