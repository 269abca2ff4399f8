-- What a call carries on goes right, since `nomos` would go on so: a save begins at the empty ledger, and a resume at
-- one that is loaded.
use Rattle.std.proofs.Common.{◌≡◌, inl, ℕ, List, [], ◌∷◌, Some, None, Ok, refl, subst, arith}
use Rattle.std.specs.Prelude.{codes}
use Rattle.nomos_accept.specs.AcceptedText.{IsAcceptedAs}
use Rattle.nomos_answers.specs.Outside.{sink_state, source_state}
use Rattle.nomos_answers.specs.Resumes as resumes
use Rattle.nomos_answers.specs.RunsDue.{HasRunFrom, usual_orders}
use Rattle.nomos_answers.specs.Saves as saves
use Rattle.nomos_answers.specs.Written as writing
use Rattle.nomos_legal.specs.Ledger.{LedgerState, empty_ledger}
use Rattle.nomos_legal.specs.Passage.{Passage}
use Rattle.nomos_legal.specs.StandsFor.{StandsFor}
use Rattle.nomos_legal.specs.declared.journal.Journal.{Journal}
use Rattle.nomos_report.specs.Reported.{report_of, run_status}
use Rattle.nomos_script.specs.ScriptReading.{ReadsAs}
use Rattle.nomos_script.specs.declared.item.ScriptItem.{ScriptItem}
use Rattle.nomos_snapshot.specs.Loading.{Loads}
use Rattle.nomos_snapshot.specs.Saving.{Saves}
use Rattle.nomos_top.proofs.KeptLaws.{kept-goes_right}
use Rattle.nomos_top.specs.Call.{EndsOn}
use Rattle.nomos_top.specs.Headline.{GoesRightTo}
use Rattle.nomos_top.specs.Outcome as outcome
use Rattle.nomos_top.specs.Outcome.{given}
use Rattle.nomos_top.specs.Seen.{Call, Texts}
use Rattle.nomos_types.specs.Acceptance.{Acceptance, IsAccepted}
use Rattle.nomos_words.specs.Options.{IsFileWord}
use Rattle.nomos_words.specs.Words.{Asks, Task, resume, save}

-- a word for any file
abbrev word : List ℕ
word = codes "f"

names : IsFileWord word
names = λ same. omega (arith, same)

module _ {a : Acceptance} (text : List ℕ) (is : IsAcceptedAs text a) (accepted : IsAccepted a) (script : List ℕ)
    (items : List ScriptItem) (reads : ReadsAs script items) (journal : Journal) (ps : List Passage)
    (last : LedgerState) (stands : StandsFor a last) where
  -- a call with these words, this script and this third text
  abbrev call : List (List ℕ) → List ℕ → Call
  call words third = record {
    words = words;
    contract = source_state (Some text) 0 0;
    script = source_state (Some script) 0 0;
    journal_in = source_state (Some third) 0 0;
    out = sink_state None None 0 0;
    journal_out = sink_state None None 0 0;
    status = run_status journal.entries;
    accepted = Some a;
    journal = journal;
    taken = None;
  }

  abbrev texts : List ℕ → Texts
  texts third = record { contract = text; script = script; third = third }

  fits : (b : Acceptance) → Some a ≡ Some b → IsAccepted b
  fits b same = let one : a ≡ b = cc in subst IsAccepted one accepted

  -- a resume goes on from a ledger that is loaded
  pub loaded-right : (snapshot : List ℕ) (first : LedgerState) → Loads a snapshot (Ok first)
      → HasRunFrom a first items usual_orders journal ps last → GoesRightTo a first ps last
  loaded-right snapshot first loads run =
      let words : List (List ℕ) = codes "resume" ∷ word ∷ word ∷ word ∷ [] in
      let task : Task = resume word word word in
      let asks : Asks words task = (refl, record { are = refl; is_first = names; is_second = names; is_third = names })
      in
      let ends : EndsOn (call words snapshot) (texts snapshot) = record {
        told = record { contract = refl; script = refl; third = refl };
        fits = fits;
        ends =
            inl (record {
              status = run_status journal.entries;
              out = report_of a ps;
              kept = None;
              due =
                  outcome.asked task (given (run_status journal.entries) (report_of a ps) None a journal) asks
                  (outcome.resumed word word word a (run_status journal.entries) (report_of a ps) journal is
                  (resumes.ran first items journal ps last loads reads run stands));
              written = writing.whole refl refl;
            });
      } in
      (kept-goes_right (call words snapshot) (texts snapshot) ends).right task a first items ps last asks refl loads
      run.tells

  -- a save begins at the empty ledger
  pub begun-right : (saved : List ℕ) → HasRunFrom a empty_ledger items usual_orders journal ps last
      → Saves a last (Ok saved) → Loads a saved (Ok last) → GoesRightTo a empty_ledger ps last
  begun-right saved run keeps loads =
      let words : List (List ℕ) = codes "save" ∷ word ∷ word ∷ word ∷ [] in
      let task : Task = save word word word in
      let asks : Asks words task = (refl, record { are = refl; is_first = names; is_second = names; is_third = names })
      in
      let ends : EndsOn (call words []) (texts []) = record {
        told = record { contract = refl; script = refl; third = refl };
        fits = fits;
        ends =
            inl (record {
              status = run_status journal.entries;
              out = report_of a ps;
              kept = Some saved;
              due =
                  outcome.asked task (given (run_status journal.entries) (report_of a ps) (Some saved) a journal) asks
                  (outcome.saved word word word a (run_status journal.entries) (report_of a ps) (Some saved) journal is
                  (saves.saved items journal ps last saved reads run stands keeps loads));
              written = writing.whole refl refl;
            });
      } in
      (kept-goes_right (call words []) (texts []) ends).right task a empty_ledger items ps last asks refl refl run.tells
