-- What lines of a talk say, when a text reads as a talk, and at which line another is refused.
use Rattle.std.specs.Prelude.{◌≡◌, ℕ, ◌+◌, ◌<◌, ◌≤◌, List, [], ◌∷◌, ◌++◌, length, All, Option, Some, None, Result, Ok, Err}
use Rattle.nomos_ir.specs.Limits.{text_limit}
use Rattle.nomos_script.specs.declared.talk_line.TalkLine.{TalkLine}
use Rattle.nomos_script.specs.declared.talk_line.TalkLine.TheVariants as said
use Rattle.nomos_script.specs.declared.talk_parsing.TalkError.{TalkError}
use Rattle.nomos_script.specs.declared.talk_parsing.TalkError.TheVariants as error
use Rattle.nomos_script.specs.Lines.{lines_of}
use Rattle.nomos_script.specs.ScriptReading.{HasLineAt}
use Rattle.nomos_script.specs.TalkForm.{TalkForm, blank, label, value, pay, hear, TalkLineReadsAs, HasTalkForm}
use Rattle.nomos_script.specs.ValueTree.{value_at}

-- what a form says, if it says something
abbrev pub talk_said : TalkForm → Option TalkLine
talk_said blank = None
talk_said (label name) = Some (said.Label name)
talk_said (value v) = Some (said.Value (value_at v))
talk_said pay = Some said.Pay
talk_said hear = Some said.Hear

-- what a line with this number says
abbrev pub numbered : ℕ → Option TalkLine → List (ℕ × TalkLine)
numbered k None = []
numbered k (Some what) = (k, what) ∷ []

-- The lines, of which the first has this number, say this, each with its number.
pub data LinesSay : ℕ → List (List ℕ) → List (ℕ × TalkLine) → Type 0 where
  none : (k : ℕ) → LinesSay k [] []
  line : (k : ℕ) (line : List ℕ) (lines : List (List ℕ)) (form : TalkForm) (rest all : List (ℕ × TalkLine))
      → TalkLineReadsAs line form → LinesSay (k + 1) lines rest → all ≡ numbered k (talk_said form) ++ rest
      → LinesSay k (line ∷ lines) all

-- the text reads as this talk: what its lines say, counted from 1
pub record ReadsAsTalk (text : List ℕ) (talk : List (ℕ × TalkLine)) : Type 0 where
  pub limit : length text ≤ text_limit
  pub say : LinesSay 1 (lines_of text) talk

-- the first line that has no form
pub record IsFormlessAt (text : List ℕ) (k : ℕ) : Type 0 where
  pub before : List (List ℕ)
  pub line : List ℕ
  pub after : List (List ℕ)
  pub here : HasLineAt text k before line after
  pub forms : All HasTalkForm before
  pub bad : ¬ HasTalkForm line

-- what is answered of a text; want of memory is the one answer without a reason
abbrev pub AnswersTalk : List ℕ → Result (List (ℕ × TalkLine)) TalkError → Type 0
AnswersTalk text (Ok talk) = ReadsAsTalk text talk
AnswersTalk text (Err error.TooLong) = text_limit < length text
AnswersTalk text (Err (error.Syntax k)) = IsFormlessAt text k
AnswersTalk text (Err error.NoMemory) = Unit {0}

-- where memory is found, one answer is the other
abbrev pub IsSameTalk : Result (List (ℕ × TalkLine)) TalkError → Result (List (ℕ × TalkLine)) TalkError → Type 0
IsSameTalk (Err error.NoMemory) other = Unit {0}
IsSameTalk answer (Err error.NoMemory) = Unit {0}
IsSameTalk answer other = answer ≡ other
