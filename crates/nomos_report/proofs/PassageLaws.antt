-- What is printed of a passage is what is printed of its ledger, of its end without firings, or of its world.
use Rattle.std.proofs.Common.{◌≡◌, ◌∙◌, ℕ, List, [], ◌∷◌, ◌++◌, length, None, ap, append-nil}
use Rattle.std.proofs.lemmas.List.{flat_map_more, length-map}
use Rattle.nomos_types.specs.Acceptance.{Acceptance}
use Rattle.nomos_script.specs.declared.item.Batch.{Batch}
use Rattle.nomos_script.specs.declared.item.ScriptItem.{ScriptItem}
use Rattle.nomos_script.specs.declared.item.ScriptItem.TheVariants as item
use Rattle.nomos_legal.specs.Ledger.{LedgerState}
use Rattle.nomos_legal.specs.Passage.{Passage, bare, runs, still}
use Rattle.nomos_legal.specs.World.{WorldState, pids_of, ledger_begun}
use Rattle.nomos_legal.specs.declared.journal.End.{End}
use Rattle.nomos_legal.specs.declared.journal.Firing.{Firing}
use Rattle.nomos_report.specs.Block.{accepted_block}
use Rattle.nomos_report.specs.Reported.{end_lines, passage_lines, report_of, shown_lines}
use Rattle.nomos_report.specs.ShownState.{show_lines}

-- of a `show` its ledger
pub show-printed : (a : Acceptance) (l : LedgerState) (line : ℕ)
    → passage_lines a (still (item.Show line) None l l) ≡ show_lines a line l
show-printed a l line = append-nil (show_lines a line l)

-- of an item without firings that is no `show` its end
pub still-printed : (a : Acceptance) (i : ScriptItem) (line : ℕ) (answer : End) (before after : LedgerState)
    → shown_lines a before i ≡ []
    → passage_lines a (still i (bare line answer) before after)
    ≡ end_lines a line 0 before.state.spent before.state answer
still-printed a i line answer before after none =
    let lines : List ℕ = end_lines a line 0 before.state.spent before.state answer in
    ap (λ (t : List ℕ). t ++ (lines ++ [])) none ∙ append-nil lines

-- of a batch whose lines started its end in its world
pub batch-printed : (a : Acceptance) (batch : Batch) (w : WorldState) (answer : End) (after : LedgerState)
    → passage_lines a (runs batch (pids_of w.firings) answer w.origin (ledger_begun a w) w.state after)
    ≡ end_lines a batch.line (length w.firings) (ledger_begun a w).state.spent w.state answer
batch-printed a batch w answer after =
    append-nil (end_lines a batch.line (length (pids_of w.firings)) (ledger_begun a w).state.spent w.state answer)
    ∙ ap (λ (n : ℕ). end_lines a batch.line n (ledger_begun a w).state.spent w.state answer)
    (length-map w.firings (λ (f : Firing). f.pid))

-- the report grows passage by passage
pub report-next : (a : Acceptance) (ps : List Passage) (p : Passage)
    → report_of a ps ++ passage_lines a p ≡ report_of a (ps ++ p ∷ [])
report-next a ps p = flat_map_more (passage_lines a) (accepted_block a) ps p
