-- Calls that end alike: of the same words, on the same texts, where nobody is waited for.
use Rattle.std.specs.Prelude.{◌≡◌, ◌⊎◌, ℕ, List, Option}
use Rattle.nomos_answers.specs.Written.{with_text}
use Rattle.nomos_top.specs.Call.{EndsOn}
use Rattle.nomos_top.specs.Replaying.{DoesTheSame}
use Rattle.nomos_top.specs.Seen.{Call, Texts, Fails}
use Rattle.nomos_top.specs.Turns.{MayWait}

-- the journal's sink has got exactly this text, or nothing where there is none
abbrev pub HasGot : Call → Option (List ℕ) → Type 0
HasGot c text = c.journal_out.after ≡ with_text c.journal_out.before text

-- both have kept the same text, or both none
abbrev pub KeepTheSame : Call → Call → Type 0
KeepTheSame c d = (text : Option (List ℕ)) × HasGot c text × HasGot d text

-- Each other call of these words on these texts gives the same program, journal and status, and writes the same to the
-- output and to the journal's sink. Or reading, writing or memory fails in one of the two. Only where several workers
-- run a script, or threads submit its lines, may they differ.
pub record Repeats (c : Call) (t : Texts) : Type 0 where
  pub repeats : (d : Call) → EndsOn d t → d.words ≡ c.words → ¬ (MayWait c.words)
      → (DoesTheSame c d × KeepTheSame c d) ⊎ (Fails c ⊎ Fails d)
