-- What is answered of the text of a legal journal, on a script that is read from a text.
use Rattle.std.proofs.Common.{◌≡◌, ◌∙◌, ℕ, List, Ok, Err, ap, sym}
use Rattle.nomos_types.specs.Acceptance.{Acceptance, IsAccepted}
use Rattle.nomos_script.specs.ScriptReading.{ReadsAs}
use Rattle.nomos_script.specs.declared.item.ScriptItem.{ScriptItem}
use Rattle.nomos_script.proofs.SizeLemmas.{reads_within_size}
use Rattle.nomos_legal.specs.declared.journal.Entry.{Entry}
use Rattle.nomos_legal.specs.declared.journal.Journal.{Journal}
use Rattle.nomos_journal.specs.JournalText.{IsTextOf}
use Rattle.nomos_journal.specs.declared.line.Version.{Version}
use Rattle.nomos_replay.specs.Answers.{Answers}
use Rattle.nomos_replay.specs.Told.{Told, journal_told}
use Rattle.nomos_replay.specs.declared.error.ReplayError.{ReplayError}
use Rattle.nomos_replay.proofs.FormLaws.{journal-form}
use Rattle.nomos_replay.proofs.LengthLaws.{journal-within}
use Rattle.nomos_replay.proofs.OneAnswerLaws.{answers-one}
use Rattle.nomos_replay.proofs.RoundTripLaws.{legal-answer}
use Rattle.nomos_script.proofs.WrittenLaws.{reads-written}

-- what the text of a legal journal tells
abbrev pub told_by : {v : Version} {a : Acceptance} {items : List ScriptItem} {journal : Journal} {text : List ℕ}
    → IsTextOf v a items journal text → Told
told_by {journal = journal} is = record { limit = journal.limit; passages = is.passages; ledger = is.last }

module _ {a : Acceptance} (accepted : IsAccepted a) (script : List ℕ) {items : List ScriptItem}
    (reads : ReadsAs script items) {text : List ℕ} where
  -- that is what is answered of it
  pub legal-answered : {v : Version} {journal : Journal} (is : IsTextOf v a items journal text)
      → Answers a items text (Ok (told_by is))
  legal-answered {v} {journal} is =
      let size = reads_within_size script items reads in
      let written = reads-written script items reads in
      let forms = journal-form accepted v size written is.tells in
      legal-answer v is.tells forms text is.lines (rw is.lines (journal-within accepted v size written is.tells forms))

  -- it is not refused
  pub legal-not_refused : {v : Version} {journal : Journal} {why : ReplayError} → IsTextOf v a items journal text
      → ¬ (Answers a items text (Err why))
  legal-not_refused {why = why} is refused =
      absurd
      (let same : Ok (told_by is) ≡ Err why = answers-one accepted (legal-answered is) refused in cc)

  -- and it is the text of one journal, of which one row of passages tells
  pub legal-one : {v w : Version} {journal other : Journal} (is : IsTextOf v a items journal text)
      (also : IsTextOf w a items other text) → (journal ≡ other) × (is.passages ≡ also.passages)
  legal-one {journal = journal} {other = other} is also =
      let same : Ok (told_by is) ≡ Ok (told_by also) =
      answers-one accepted (legal-answered is) (legal-answered also) in
      let told : told_by is ≡ told_by also = cc in (
        ap (λ (es : List Entry). record { limit = journal.limit; entries = es }) (sym is.tells.entries_are)
            ∙ ap journal_told told
            ∙ ap (λ (es : List Entry). record { limit = other.limit; entries = es }) also.tells.entries_are,
        ap (λ (t : Told). t.passages) told,
      )
