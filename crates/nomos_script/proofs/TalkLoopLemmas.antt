-- How a talk grows line by line.
use Rattle.std.proofs.Common.{◌≡◌, ℕ, ◌+◌, ◌<◌, ◌≤◌, ◌==◌, true, List, [], ◌∷◌, ◌++◌, length, Option, All, refl, sym, ◌∙◌, ap, append_assoc, arith, length-append}
use Rattle.std.proofs.lemmas.Bool.{eqb-true}
use Rattle.std.proofs.lemmas.List.{append-nil}
use Rattle.std.proofs.lemmas.List.Elements.{All-nil, All-cons}
use Rattle.nomos_ir.specs.Limits.{text_limit}
use Rattle.nomos_script.specs.declared.talk_line.TalkLine.{TalkLine}
use Rattle.nomos_script.specs.Lines.{lines_of}
use Rattle.nomos_script.specs.ScriptScan.{tokens_of}
use Rattle.nomos_script.specs.TalkForm.{HasTalkForm}
use Rattle.nomos_script.specs.TalkReading.{talk_said, numbered, LinesSay, none, line, ReadsAsTalk, IsFormlessAt}
use Rattle.nomos_script.specs.mirror.TalkSaying.{SaysTalkLine, AddsTalkLine}
use Rattle.nomos_script.proofs.LineLemmas.{lines_of-nil}

-- one more line
LinesSay-line : (k n : ℕ) (before : List (List ℕ)) (talk : List (ℕ × TalkLine)) (here : List ℕ)
    (what : Option TalkLine) → LinesSay k before talk → n ≡ k + length before → SaysTalkLine (tokens_of here) what
    → LinesSay k (before ++ here ∷ []) (talk ++ numbered n what)
LinesSay-line k n [] talk here what (none _) number (form, reads, is) =
    let first : n ≡ k = omega (arith, number) in
    line k here [] form [] (numbered n what) reads (none (k + 1))
    (rw (first, ← is) (sym (append-nil (numbered k (talk_said form)))))
LinesSay-line k n (l ∷ before) talk here what (line _ _ _ form rest _ reads more is) number says =
    line k l (before ++ here ∷ []) form (rest ++ numbered n what) (talk ++ numbered n what) reads
    (LinesSay-line (k + 1) n before rest here what more (omega (arith, number)) says)
    (ap (λ t. t ++ numbered n what) is ∙ append_assoc (numbered k (talk_said form)) rest (numbered n what))

LinesSay-all : (k : ℕ) (lines : List (List ℕ)) (talk : List (ℕ × TalkLine)) → LinesSay k lines talk
    → All HasTalkForm lines
LinesSay-all k [] talk (none _) = All-nil HasTalkForm
LinesSay-all k (l ∷ lines) talk (line _ _ _ form rest _ reads more is) =
    All-cons HasTalkForm l lines (form, reads) (LinesSay-all (k + 1) lines rest more)

-- The lines before the rest of the text say this, and the next one has this number.
pub record SaidSoFar (text rest : List ℕ) (number : ℕ) (talk : List (ℕ × TalkLine)) : Type 0 where
  pub before : List (List ℕ)
  pub split : lines_of text ≡ before ++ lines_of rest
  pub say : LinesSay 1 before talk
  pub numbered : number ≡ length before + 1
  pub room : number + length rest ≤ length text + 1

-- at first there are none
pub SaidSoFar-none : (text : List ℕ) → SaidSoFar text text 1 []
SaidSoFar-none text = record {
  before = [];
  split = refl;
  say = none 1;
  numbered = refl;
  room = omega arith;
}

-- one more line was read
pub SaidSoFar-line : (text rest here after : List ℕ) (number : ℕ) (talk more : List (ℕ × TalkLine))
    → SaidSoFar text rest number talk → lines_of rest ≡ here ∷ lines_of after → length after < length rest
    → AddsTalkLine number here talk more → SaidSoFar text after (number + 1) more
SaidSoFar-line text rest here after number talk more s split shorter (what, says, grown) = record {
  before = s.before ++ here ∷ [];
  split = rw (append_assoc, ← split) s.split;
  say =
      rw grown (LinesSay-line 1 number s.before talk here what s.say (omega (arith, s.numbered)) says);
  numbered = omega (arith, length-append s.before (here ∷ []), s.numbered);
  room = omega (arith, s.room, shorter);
}

-- all lines were read
pub SaidSoFar-all : (text rest : List ℕ) (number : ℕ) (talk : List (ℕ × TalkLine)) → length text ≤ text_limit
    → length rest == 0 ≡ true → SaidSoFar text rest number talk → ReadsAsTalk text talk
SaidSoFar-all text [] number talk limit done s =
    let whole : lines_of text ≡ s.before = rw (lines_of-nil, append-nil) at s.split in
    record { limit = limit; say = rw whole s.say }
SaidSoFar-all text (b ∷ rest) number talk limit done s =
    absurd (omega (arith, eqb-true (length (b ∷ rest)) 0 done))

-- the next line has no form
pub SaidSoFar-bad : (text rest here after : List ℕ) (number : ℕ) (talk : List (ℕ × TalkLine))
    → length text ≤ text_limit → SaidSoFar text rest number talk → lines_of rest ≡ here ∷ lines_of after
    → ¬ HasTalkForm here → IsFormlessAt text number
SaidSoFar-bad text rest here after number talk limit s split bad = record {
  before = s.before;
  line = here;
  after = lines_of after;
  here = record { limit = limit; split = rw split at s.split; numbered = s.numbered };
  forms = LinesSay-all 1 s.before talk s.say;
  bad = bad;
}
