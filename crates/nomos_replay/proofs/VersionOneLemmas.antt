-- The lines of a journal's text in version 1 are those of its entries, whatever the states.
use Rattle.std.proofs.Common.{◌≡◌, ◌∙◌, ◌+◌, ◌<◌, ◌^◌, ◌++◌, ℕ, List, [], ◌∷◌, length, map, take, get_or, Option, Some, None, refl, sym, ap, append_assoc}
use Rattle.std.specs.List.{flat_map}
use Rattle.std.specs.Option.{option_to_list}
use Rattle.std.proofs.lemmas.List.{flat_map_more, map_more, take_more}
use Rattle.std.proofs.lemmas.List.Concat.{flat_map-append}
use Rattle.nomos_types.specs.Acceptance.{Acceptance, IsAccepted}
use Rattle.nomos_machine.specs.State.{State}
use Rattle.nomos_machine.specs.Step.{step}
use Rattle.nomos_script.specs.Size.{IsScriptSize}
use Rattle.nomos_script.specs.WrittenItems.{AreWritten}
use Rattle.nomos_script.specs.declared.item.ScriptItem.{ScriptItem}
use Rattle.nomos_legal.specs.Batch.{state_or}
use Rattle.nomos_legal.specs.Ledger.{IsLedger, LedgerState}
use Rattle.nomos_legal.specs.Legal.{IsLegalFrom, entries_of}
use Rattle.nomos_legal.specs.NextNumbers.{HasNumbered}
use Rattle.nomos_legal.specs.Passage.{Passage}
use Rattle.nomos_legal.specs.StandsFor.{StandsFor}
use Rattle.nomos_legal.specs.declared.journal.Entry.{Entry}
use Rattle.nomos_legal.specs.declared.journal.Journal.{Journal}
use Rattle.nomos_journal.specs.JournalText.{entry_lines, firing_lines, passage_lines}
use Rattle.nomos_journal.specs.Line.{line_text}
use Rattle.nomos_journal.specs.Text.{lines_text}
use Rattle.nomos_journal.specs.declared.line.JournalLine.{JournalLine}
use Rattle.nomos_journal.specs.declared.line.JournalLine.TheVariants as line
use Rattle.nomos_journal.specs.declared.line.Version.TheVariants as version
use Rattle.nomos_replay.specs.Replayed.{IsTextFrom}
use Rattle.nomos_replay.specs.mirror.Items.{IsLegalText}
use Rattle.nomos_replay.specs.mirror.VersionOne.{entry_lines_in_one, lines_in_one}
use Rattle.nomos_replay.proofs.WalkLemmas.{ledger-standing, text-legal}

-- ---- what is written

-- the lines of one process more
pub pids-more : (unit : ℕ) (before pids : List ℕ) (n : ℕ) → n < length pids
    → (before ++ lines_text unit (map line.Pid (take n pids)))
    ++ (line_text unit (line.Pid (get_or pids n 0)) ++ 10 ∷ [])
    ≡ before ++ lines_text unit (map line.Pid (take (n + 1) pids))
pids-more unit before pids n less =
    flat_map_more (λ (l : JournalLine). line_text unit l ++ 10 ∷ []) before (map line.Pid (take n pids))
    (line.Pid (get_or pids n 0))
    ∙ ap (λ (ls : List JournalLine). before ++ lines_text unit ls) (sym (map_more line.Pid pids n 0 less))

-- the lines of one entry more
pub entries-more : (unit : ℕ) (before : List ℕ) (entries : List Entry) (n : ℕ) (e : Entry) → n < length entries
    → e ≡ get_or entries n e
    → (before ++ lines_text unit (flat_map entry_lines_in_one (take n entries))) ++ lines_text unit
    (entry_lines_in_one e)
    ≡ before ++ lines_text unit (flat_map entry_lines_in_one (take (n + 1) entries))
entries-more unit before entries n e less is =
    let so_far : List JournalLine = flat_map entry_lines_in_one (take n entries) in
    let one : List JournalLine = entry_lines_in_one e in
    let more : take (n + 1) entries ≡ take n entries ++ e ∷ [] =
    take_more entries n e less ∙ ap (λ (x : Entry). take n entries ++ x ∷ []) (sym is) in
    let lines : so_far ++ one ≡ flat_map entry_lines_in_one (take (n + 1) entries) =
    flat_map_more entry_lines_in_one [] (take n entries) e ∙ ap (flat_map entry_lines_in_one) (sym more) in
    append_assoc before (lines_text unit so_far) (lines_text unit one)
    ∙ ap (λ (text : List ℕ). before ++ text)
    (sym (flat_map-append (λ (l : JournalLine). line_text unit l ++ 10 ∷ []) so_far one) ∙ ap (lines_text unit) lines)

-- two lines, and others behind them
pub front-lines : (unit : ℕ) (l m : JournalLine) (ls : List JournalLine) (none one two all : List ℕ) → none ≡ []
    → one ≡ none ++ (line_text unit l ++ 10 ∷ []) → two ≡ one ++ (line_text unit m ++ 10 ∷ [])
    → all ≡ two ++ lines_text unit ls → all ≡ lines_text unit (l ∷ m ∷ ls)
front-lines unit l m ls none one two all empty first second others =
    let a : List ℕ = line_text unit l ++ 10 ∷ [] in
    let b : List ℕ = line_text unit m ++ 10 ∷ [] in
    others
    ∙ ap (λ (t : List ℕ). t ++ lines_text unit ls)
    (second ∙ ap (λ (t : List ℕ). t ++ b) (first ∙ ap (λ (t : List ℕ). t ++ a) empty))
    ∙ append_assoc a b (lines_text unit ls)

-- ---- what it is

-- firings
firings-in_one : (a : Acceptance) (s : State) (pids : List ℕ) → firing_lines version.One a s pids ≡ map line.Pid pids
firings-in_one a s [] = refl
firings-in_one a s (pid ∷ pids) =
    ap (λ (ls : List JournalLine). line.Pid pid ∷ ls) (firings-in_one a (state_or s (step a s pid)) pids)

-- an entry, if there is one
entry-in_one : (a : Acceptance) (s : State) (o : Option Entry)
    → flat_map (entry_lines version.One a s) (option_to_list o) ≡ flat_map entry_lines_in_one (option_to_list o)
entry-in_one a s None = refl
entry-in_one a s (Some entry) =
    ap (λ (ls : List JournalLine). (line.Line entry.line ∷ (ls ++ line.End entry.end ∷ [])) ++ [])
    (firings-in_one a s entry.firings)

-- passages
passages-in_one : (a : Acceptance) (ps : List Passage)
    → flat_map (passage_lines version.One a) ps ≡ flat_map entry_lines_in_one (entries_of ps)
passages-in_one a [] = refl
passages-in_one a (p ∷ ps) =
    let own : List JournalLine = flat_map entry_lines_in_one (option_to_list p.entry) in
    ap (λ (ls : List JournalLine). ls ++ flat_map (passage_lines version.One a) ps)
    (entry-in_one a p.start.state p.entry)
    ∙ ap (λ (ls : List JournalLine). own ++ ls) (passages-in_one a ps)
    ∙ sym (flat_map-append entry_lines_in_one (option_to_list p.entry) (entries_of ps))

-- So the lines of the entries of a legal journal are its text in version 1.
pub text-in_one : {a : Acceptance} {first : LedgerState} {items : List ScriptItem} {journal : Journal} {text : List ℕ}
    → IsLegalFrom a first items journal → text ≡ lines_text a.annotations.unit (lines_in_one journal)
    → IsTextFrom version.One a first items journal text
text-in_one {a} {journal = journal} legal is = record {
  passages = legal.passages;
  last = legal.last;
  tells = legal.tells;
  lines =
      is
      ∙ ap (λ (ls : List JournalLine). lines_text a.annotations.unit
      (line.Head version.One ∷ line.Steps journal.limit ∷ ls))
      (sym (passages-in_one a legal.passages ∙ ap (flat_map entry_lines_in_one) legal.tells.entries_are));
}

-- It can be read back, whatever lent it.
pub kept-legal : {a : Acceptance} → IsAccepted a → {first : LedgerState} → StandsFor a first → IsLedger first
    → HasNumbered (2 ^ 31) first.state → {items : List ScriptItem} → IsScriptSize items → AreWritten items
    → {journal : Journal} → IsLegalFrom a first items journal → {unit : ℕ} {kept text : List ℕ}
    → unit ≡ a.annotations.unit → kept ≡ lines_text unit (lines_in_one journal) → text ≡ kept
    → IsLegalText a first items journal text
kept-legal accepted stands ledger numbers size written {journal} legal unit lines same =
    text-legal accepted (ledger-standing stands ledger) numbers size written version.One journal
    (text-in_one legal (same ∙ lines ∙ ap (λ (n : ℕ). lines_text n (lines_in_one journal)) unit))
