-- A text reads as one talk at most; it reads, or is refused at one line.
use Rattle.std.proofs.Common.{◌≡◌, ℕ, ◌+◌, List, [], ◌∷◌, ◌++◌, length, Result, Ok, Err, All, refl, sym, ◌∙◌, ap, arith}
use Rattle.std.proofs.lemmas.List.Elements.{All-head, All-tail}
use Rattle.nomos_script.specs.declared.talk_line.TalkLine.{TalkLine}
use Rattle.nomos_script.specs.declared.talk_parsing.TalkError.{TalkError}
use Rattle.nomos_script.specs.declared.talk_parsing.TalkError.TheVariants as error
use Rattle.nomos_script.specs.Lines.{lines_of}
use Rattle.nomos_script.specs.ScriptScan.{tokens_of}
use Rattle.nomos_script.specs.TalkForm.{HasTalkForm}
use Rattle.nomos_script.specs.TalkReading.{talk_said, numbered, LinesSay, none, line, ReadsAsTalk, IsFormlessAt, AnswersTalk, IsSameTalk}
use Rattle.nomos_script.proofs.TalkFormLemmas.{talk_said_once}

-- lines say one talk at most
LinesSay-once : (k : ℕ) (lines : List (List ℕ)) (talk other : List (ℕ × TalkLine)) → LinesSay k lines talk
    → LinesSay k lines other → talk ≡ other
LinesSay-once k [] talk other (none _) (none _) = refl
LinesSay-once k (l ∷ lines) talk other (line _ _ _ f rest _ reads more is) (line _ _ _ g left _ finds others are) =
    is ∙ ap (λ what. numbered k what ++ rest) (talk_said_once (tokens_of l) f g reads finds)
    ∙ ap (λ t. numbered k (talk_said g) ++ t) (LinesSay-once (k + 1) lines rest left more others) ∙ sym are

-- each line of a talk has a form
LinesSay-forms : (k : ℕ) (before after : List (List ℕ)) (here : List ℕ) (talk : List (ℕ × TalkLine))
    → LinesSay k (before ++ here ∷ after) talk → HasTalkForm here
LinesSay-forms k [] after here talk (line _ _ _ form _ _ reads more is) = (form, reads)
LinesSay-forms k (l ∷ before) after here talk (line _ _ _ form rest _ reads more is) =
    LinesSay-forms (k + 1) before after here rest more

-- so a text that reads is refused at no line
reads-formless : (text : List ℕ) (k : ℕ) (talk : List (ℕ × TalkLine)) → ReadsAsTalk text talk → ¬ IsFormlessAt text k
reads-formless text k talk h = λ bad.
    bad.bad (LinesSay-forms 1 bad.before bad.after bad.line talk (rw bad.here.split at h.say))

-- the first of some lines without a form has one place
first_once : (before after front back : List (List ℕ)) (here there : List ℕ)
    → before ++ here ∷ after ≡ front ++ there ∷ back → All HasTalkForm before → ¬ HasTalkForm here
    → All HasTalkForm front → ¬ HasTalkForm there → length before ≡ length front
first_once [] after [] back here there same forms bad others worse = refl
first_once [] after (l ∷ front) back here there same forms bad others worse =
    let is : l ≡ here = cc same in absurd (bad (rw is at (All-head HasTalkForm l front others)))
first_once (l ∷ before) after [] back here there same forms bad others worse =
    let is : l ≡ there = cc same in absurd (worse (rw is at (All-head HasTalkForm l before forms)))
first_once (l ∷ before) after (m ∷ front) back here there same forms bad others worse =
    let rest = first_once before after front back here there (cc same) (All-tail HasTalkForm l before forms) bad
    (All-tail HasTalkForm m front others) worse in
    omega (arith, rest)

formless_once : (text : List ℕ) (k j : ℕ) → IsFormlessAt text k → IsFormlessAt text j → k ≡ j
formless_once text k j h g =
    let same = first_once h.before h.after g.before g.after h.line g.line (sym h.here.split ∙ g.here.split) h.forms
    h.bad g.forms g.bad in
    omega (arith, same, h.here.numbered, g.here.numbered)

-- a text has one answer, where memory is found
pub answers_once : (text : List ℕ) (answer other : Result (List (ℕ × TalkLine)) TalkError) → AnswersTalk text answer
    → AnswersTalk text other → IsSameTalk answer other
answers_once text (Err error.NoMemory) other h k = tt
answers_once text (Ok talk) (Err error.NoMemory) h k = tt
answers_once text (Err error.TooLong) (Err error.NoMemory) h k = tt
answers_once text (Err (error.Syntax i)) (Err error.NoMemory) h k = tt
answers_once text (Ok talk) (Ok others) h k = ap Ok (LinesSay-once 1 (lines_of text) talk others h.say k.say)
answers_once text (Ok talk) (Err error.TooLong) h k = absurd (omega (arith, h.limit, k))
answers_once text (Ok talk) (Err (error.Syntax j)) h k = absurd (reads-formless text j talk h k)
answers_once text (Err error.TooLong) (Ok others) h k = absurd (omega (arith, k.limit, h))
answers_once text (Err error.TooLong) (Err error.TooLong) h k = refl
answers_once text (Err error.TooLong) (Err (error.Syntax j)) h k = absurd (omega (arith, k.here.limit, h))
answers_once text (Err (error.Syntax i)) (Ok others) h k = absurd (reads-formless text i others k h)
answers_once text (Err (error.Syntax i)) (Err error.TooLong) h k = absurd (omega (arith, h.here.limit, k))
answers_once text (Err (error.Syntax i)) (Err (error.Syntax j)) h k =
    ap (λ n. Err (error.Syntax n)) (formless_once text i j h k)
