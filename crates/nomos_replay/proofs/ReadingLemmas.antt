-- How lines that are read lead on, and how they are refused.
use Rattle.std.proofs.Common.{◌+◌, ◌<◌, ◌^◌, ℕ, List, Err, sym, subst, arith}
use Rattle.nomos_types.specs.Acceptance.{Acceptance, IsAccepted}
use Rattle.nomos_script.specs.declared.item.ScriptItem.{ScriptItem}
use Rattle.nomos_legal.specs.Ledger.{LedgerState}
use Rattle.nomos_journal.specs.declared.line.JournalLine.{JournalLine}
use Rattle.nomos_replay.specs.Answers.{BeginsWith, HasNoForm, Reads, WantsLine}
use Rattle.nomos_replay.specs.Answers as answers
use Rattle.nomos_replay.specs.Spoiled.{Spoils}
use Rattle.nomos_replay.specs.Stand.{Goes, MayStand, Stand}
use Rattle.nomos_replay.specs.declared.error.ReplayError.{ReplayError}
use Rattle.nomos_replay.specs.declared.error.ReplayError.TheVariants as error
use Rattle.nomos_replay.specs.declared.journal_lines.JournalLines.{JournalLines}
use Rattle.nomos_replay.specs.mirror.JournalReading.{Carries, HasRead, IsNoLine, Stops}
use Rattle.nomos_replay.proofs.LineLemmas.{one-line}

pub small-unit : {a : Acceptance} → IsAccepted a → a.annotations.unit < 2 ^ 32
small-unit accepted = omega (arith, accepted.small_unit)

module _ (a : Acceptance) (first : LedgerState) (all : List ScriptItem) where
  -- where no line is read the text is refused, wherever one is looked for
  pub stops-no_line : (before : JournalLines) (s : Stand) → WantsLine s before.lines → (e : ReplayError)
      → IsNoLine a.annotations.unit before e → Stops a first all before s e
  stops-no_line before s wants error.NoMemory is = tt
  stops-no_line before s wants (error.BadLine at) is =
      subst (λ (n : ℕ). Reads a first all (before.at + 1) s before.lines (Err (error.BadLine n))) (sym is.0)
      (answers.bad (before.at + 1) s before.lines wants (λ l left begins form. is.1 l left begins))
  stops-no_line before s wants error.TooLong is = absurd is
  stops-no_line before s wants (error.NotEnabled at pid) is = absurd is
  stops-no_line before s wants (error.WrongFiring at pid) is = absurd is
  stops-no_line before s wants (error.WrongEnd at kept found) is = absurd is

  -- a line that was read is bad where it has no form
  pub stops-no_form : IsAccepted a → {before after : JournalLines} {s : Stand} {l : JournalLine}
      → HasRead a.annotations.unit before l after → WantsLine s before.lines → ¬ MayStand s l
      → Reads a first all (before.at + 1) s before.lines (Err (error.BadLine after.at))
  stops-no_form accepted {before} {after} {s} {l} read wants none =
      subst (λ (n : ℕ). Reads a first all (before.at + 1) s before.lines (Err (error.BadLine n))) (sym read.at)
      (answers.bad (before.at + 1) s before.lines wants
      (λ m left begins form.
      let same = one-line a.annotations.unit (small-unit accepted) before.lines m l left after.lines begins
      read.begins in
      none (subst (λ (x : JournalLine). MayStand s x) same.0 form)))

  -- a line that spoils the text
  pub stops-spoiled : {before after : JournalLines} {s : Stand} {l : JournalLine} {e : ReplayError}
      → HasRead a.annotations.unit before l after → Spoils a after.at s l e
      → Reads a first all (before.at + 1) s before.lines (Err e)
  stops-spoiled {before} {after} {s} {l} {e} read spoils =
      answers.spoils (before.at + 1) s before.lines after.lines l e read.begins
      (subst (λ (n : ℕ). Spoils a n s l e) read.at spoils)

  -- a line that is right leads on
  pub carries-line : {before after : JournalLines} {s t : Stand} {l : JournalLine}
      → HasRead a.annotations.unit before l after → Goes a first all s l t → Carries a first all before s after t
  carries-line {before} {after} {s} {t} {l} read goes = record {
    answers = λ answer rest.
        answers.goes (before.at + 1) s t before.lines after.lines l answer read.begins goes
        (subst (λ (n : ℕ). Reads a first all (n + 1) t after.lines answer) read.at rest);
  }

  -- what leads on leads on further
  pub carries-on : {before middle after : JournalLines} {r s t : Stand} → Carries a first all before r middle s
      → Carries a first all middle s after t → Carries a first all before r after t
  carries-on one other = record { answers = λ answer rest. one.answers answer (other.answers answer rest) }

  -- and so it does without a line
  pub carries-same : (source : JournalLines) (s : Stand) → Carries a first all source s source s
  carries-same source s = record { answers = λ answer rest. rest }

  -- where the text is refused later it is refused
  pub stops-later : {before after : JournalLines} {s t : Stand} → Carries a first all before s after t
      → (e : ReplayError)
      → Stops a first all after t e → Stops a first all before s e
  stops-later carries error.NoMemory stops = tt
  stops-later carries error.TooLong stops = carries.answers (Err error.TooLong) stops
  stops-later carries (error.BadLine at) stops = carries.answers (Err (error.BadLine at)) stops
  stops-later carries (error.NotEnabled at pid) stops = carries.answers (Err (error.NotEnabled at pid)) stops
  stops-later carries (error.WrongFiring at pid) stops = carries.answers (Err (error.WrongFiring at pid)) stops
  stops-later carries (error.WrongEnd at kept found) stops = carries.answers (Err (error.WrongEnd at kept found)) stops
