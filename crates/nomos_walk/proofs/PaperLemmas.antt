-- What is written with one passage more.
use Rattle.std.proofs.Common.{◌≡◌, ◌∙◌, ℕ, List, [], ◌∷◌, ◌++◌, length, Option, None, refl, sym, ap, append-nil, append_assoc}
use Rattle.std.specs.Option.{option_map}
use Rattle.nomos_ir.specs.Value.{Value}
use Rattle.nomos_types.specs.Acceptance.{Acceptance}
use Rattle.nomos_machine.specs.State.{State, empty}
use Rattle.nomos_script.specs.declared.item.Batch.{Batch}
use Rattle.nomos_script.specs.declared.item.ScriptItem.{ScriptItem}
use Rattle.nomos_script.specs.declared.item.ScriptItem.TheVariants as item
use Rattle.nomos_legal.specs.Ledger.{LedgerState}
use Rattle.nomos_legal.specs.Passage.{bare, runs, still}
use Rattle.nomos_legal.specs.StandsFor.{WorldStandsFor}
use Rattle.nomos_legal.specs.World.{WorldState, pids_of, ledger_begun}
use Rattle.nomos_legal.specs.declared.journal.End.{End}
use Rattle.nomos_legal.specs.declared.journal.End.TheVariants as end
use Rattle.nomos_journal.proofs.PlacedLaws.{firing_lines-placed}
use Rattle.nomos_journal.specs.JournalText.{firing_lines, placed_lines}
use Rattle.nomos_journal.specs.Line.{line_text}
use Rattle.nomos_journal.specs.Text.{lines_text}
use Rattle.nomos_journal.specs.declared.line.JournalLine.{JournalLine}
use Rattle.nomos_journal.specs.declared.line.JournalLine.TheVariants as line
use Rattle.nomos_journal.specs.declared.line.Version.TheVariants as version
use Rattle.nomos_report.proofs.PassageLaws.{batch-printed, still-printed}
use Rattle.nomos_report.specs.Reported.{HasNoFirings, end_lines, shown_lines}
use Rattle.nomos_walk.specs.declared.papers.Papers.{Papers}
use Rattle.nomos_walk.specs.Wanted.{end_result}
use Rattle.nomos_walk.specs.Papers.{papers_with, result_with, with_lines}

-- an item without firings has no result
still-result : (i : ScriptItem) (n : ℕ) (e : End) (before last : LedgerState) (kept : Option (Option Value))
    → HasNoFirings e → result_with (still i (bare n e) before last) kept ≡ option_map (λ _. None) kept
still-result i n end.Deposited before last kept none = refl
still-result i n (end.Refused m cause) before last kept none = refl
still-result i n end.Committed before last kept none = absurd none
still-result i n end.Blocked before last kept none = absurd none
still-result i n (end.Steps k) before last kept none = absurd none
still-result i n (end.Aborted pid f) before last kept none = absurd none

-- what is printed of an end without firings is the same in all states
same-end : (a : Acceptance) (n spent other : ℕ) (s t : State) (e : End) → HasNoFirings e
    → end_lines a n 0 spent s e ≡ end_lines a n 0 other t e
same-end a n spent other s t end.Deposited none = refl
same-end a n spent other s t (end.Refused m cause) none = refl
same-end a n spent other s t end.Committed none = absurd none
same-end a n spent other s t end.Blocked none = absurd none
same-end a n spent other s t (end.Steps k) none = absurd none
same-end a n spent other s t (end.Aborted pid f) none = absurd none

-- an item without firings
pub still-written : (a : Acceptance) (i : ScriptItem) (n : ℕ) (e : End) (before last : LedgerState)
    (papers after : Papers) → HasNoFirings e → shown_lines a before i ≡ []
    → after.report ≡ with_lines papers.report (end_lines a n 0 0 empty e)
    → after.text ≡ with_lines papers.text (lines_text a.annotations.unit (line.Line n ∷ line.End e ∷ []))
    → after.result ≡ option_map (λ _. None) papers.result
    → after ≡ papers_with a (still i (bare n e) before last) papers
still-written a i n e before last papers after still none report text result =
    let printed =
    report
    ∙ ap (with_lines papers.report)
    (same-end a n 0 before.state.spent empty before.state e still ∙ sym (still-printed a i n e before last none))
    in
    let cleared = result ∙ sym (still-result i n e before last papers.result still) in
    λ j. record { report = printed j; text = text j; result = cleared j }

-- a batch that has come to a world
pub batch-written : (a : Acceptance) (batch : Batch) (n : ℕ) (w : WorldState) (e : End) (last : LedgerState)
    (papers after : Papers) → WorldStandsFor a w → batch.line ≡ n
    → after.report ≡ with_lines papers.report (end_lines a n (length w.firings) (ledger_begun a w).state.spent w.state
    e)
    → after.text
    ≡ with_lines papers.text
    (lines_text a.annotations.unit (line.Line n ∷ (placed_lines a (pids_of w.firings) w.places ++ line.End e ∷ [])))
    → after.result ≡ option_map (λ _. end_result w.state e) papers.result
    → after ≡ papers_with a (runs batch (pids_of w.firings) e w.origin (ledger_begun a w) w.state last) papers
batch-written a batch n w e last papers after stands at report text result =
    let Ends : ℕ → Option (List ℕ) =
    λ k. with_lines papers.report (end_lines a k (length w.firings) (ledger_begun a w).state.spent w.state e)
    in
    let printed = report ∙ ap Ends (sym at) ∙ ap (with_lines papers.report) (sym (batch-printed a batch w e last)) in
    let placed : firing_lines version.Two a (ledger_begun a w).state (pids_of w.firings)
    ≡ placed_lines a (pids_of w.firings) w.places =
    firing_lines-placed a (ledger_begun a w).state (pids_of w.firings) w.places w.state stands.reached
    in
    let Writes : ℕ → List JournalLine → Option (List ℕ) =
    λ k ls. with_lines papers.text (lines_text a.annotations.unit (line.Line k ∷ ls))
    in
    let more : List JournalLine → List JournalLine = λ ls. ls ++ line.End e ∷ [] in
    let written =
    text
    ∙ ap (λ (k : ℕ). Writes k (more (placed_lines a (pids_of w.firings) w.places))) (sym at)
    ∙ ap (λ (ls : List JournalLine). Writes batch.line (more ls)) (sym placed)
    ∙ ap (Writes batch.line)
    (sym (append-nil (more (firing_lines version.Two a (ledger_begun a w).state (pids_of w.firings)))))
    in
    λ j. record { report = printed j; text = written j; result = result j }

-- two lines
pub two-lines : (unit : ℕ) (l m : JournalLine) (old mid : List ℕ) → mid ≡ old ++ (line_text unit l ++ 10 ∷ [])
    → mid ++ (line_text unit m ++ 10 ∷ []) ≡ old ++ lines_text unit (l ∷ m ∷ [])
two-lines unit l m old mid first =
    let one : List ℕ = line_text unit l ++ 10 ∷ [] in
    let other : List ℕ = line_text unit m ++ 10 ∷ [] in
    ap (λ (t : List ℕ). t ++ other) first
    ∙ append_assoc old one other
    ∙ ap (λ (t : List ℕ). old ++ (one ++ t)) (sym (append-nil other))
