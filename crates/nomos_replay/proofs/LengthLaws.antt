-- The text of a legal journal is short enough to be read.
use Rattle.std.proofs.Common.{◌≡◌, ◌∙◌, ◌+◌, ◌*◌, ◌<◌, ◌≤◌, ◌^◌, ◌++◌, ℕ, List, [], ◌∷◌, length, length-append, map, Option, Some, None, slice_get, sym, subst, ap, arith, append-nil}
use Rattle.std.specs.List.{All, flat_map}
use Rattle.std.specs.Option.{option_map, option_to_list}
use Rattle.std.specs.Prelude.{codes, decimal}
use Rattle.std.proofs.lemmas.List.Concat.{flat_map-append}
use Rattle.std.proofs.lemmas.List.Elements.{All-head, All-tail}
use Rattle.nomos_ir.specs.Instruction.{code_form}
use Rattle.nomos_ir.specs.declared.code_node.CodeNode.{CodeNode}
use Rattle.nomos_ir.specs.declared.code_node.CodeNode.TheVariants as code
use Rattle.nomos_types.proofs.AmountLaws.{all-first, all-last}
use Rattle.nomos_types.specs.Acceptance.{Acceptance, IsAccepted}
use Rattle.nomos_types.specs.Amount.{Annotations, dths}
use Rattle.nomos_machine.specs.Optional.{◌>>=◌}
use Rattle.nomos_machine.specs.State.{State, process_at}
use Rattle.nomos_machine.specs.Step.{step}
use Rattle.nomos_machine.specs.declared.object.Process.{Process}
use Rattle.nomos_script.specs.Size.{IsScriptSize, entry_count}
use Rattle.nomos_script.specs.declared.item.ScriptItem.{ScriptItem}
use Rattle.nomos_script.specs.declared.item.ScriptItem.TheVariants as item
use Rattle.nomos_legal.specs.Batch.{after_starts, state_or}
use Rattle.nomos_legal.specs.Ending.{IsAllowed}
use Rattle.nomos_legal.specs.Ledger.{LedgerState}
use Rattle.nomos_legal.specs.Legal.{Leads, TellsFrom, entries_of, firings_in, firings_made}
use Rattle.nomos_legal.specs.Legal as legal
use Rattle.nomos_legal.specs.Passage.{IsPassage, Passage}
use Rattle.nomos_legal.specs.Passage as passage
use Rattle.nomos_legal.specs.declared.journal.End.{End}
use Rattle.nomos_legal.specs.declared.journal.End.TheVariants as end
use Rattle.nomos_legal.specs.declared.journal.Journal.{Journal}
use Rattle.nomos_legal.specs.declared.refusal.Refusal.TheVariants as refusal
use Rattle.nomos_legal.proofs.LegalLaws.{first-made, tells-within}
use Rattle.nomos_printing.specs.End.{HasLineBelow, IsEnd}
use Rattle.nomos_printing.proofs.LengthLaws.{length-decimal_32}
use Rattle.nomos_journal.specs.JournalText.{fired_line, firing_line, firing_lines, journal_lines, passage_lines, placed_line}
use Rattle.nomos_journal.specs.Line.{IsLine, line_text}
use Rattle.nomos_journal.specs.Text.{lines_text}
use Rattle.nomos_journal.specs.declared.line.JournalLine.{JournalLine}
use Rattle.nomos_journal.specs.declared.line.JournalLine.TheVariants as line
use Rattle.nomos_journal.specs.declared.line.Version.{Version}
use Rattle.nomos_journal.specs.declared.line.Version.TheVariants as version
use Rattle.nomos_journal.proofs.LineLaws.{length-fired_line, length-frame_line, length-worked_line}
use Rattle.nomos_replay.specs.Answers.{max_bytes}
use Rattle.nomos_script.specs.WrittenItems.{AreWritten, IsWrittenItem, line_bound}
use Rattle.nomos_replay.proofs.FormLaws.{refuses-form}

-- the bytes of lines with their line feeds
abbrev bytes_of : ℕ → List JournalLine → ℕ
bytes_of unit lines = length (lines_text unit lines)

bytes-append : (unit : ℕ) (ls ms : List JournalLine) → bytes_of unit (ls ++ ms) ≡ bytes_of unit ls + bytes_of unit ms
bytes-append unit ls ms =
    ap length (flat_map-append (λ (l : JournalLine). line_text unit l ++ 10 ∷ []) ls ms)
    ∙ length-append (lines_text unit ls) (lines_text unit ms)

bytes-one : (unit : ℕ) (l : JournalLine) → bytes_of unit (l ∷ []) ≡ length (line_text unit l ++ 10 ∷ [])
bytes-one unit l = ap length (append-nil (line_text unit l ++ 10 ∷ []))

bytes-first : (unit : ℕ) (l : JournalLine) (ls : List JournalLine)
    → bytes_of unit (l ∷ ls) ≡ length (line_text unit l ++ 10 ∷ []) + bytes_of unit ls
bytes-first unit l ls = length-append (line_text unit l ++ 10 ∷ []) (lines_text unit ls)

-- ---- firings

fired-bytes : (unit : ℕ) (x : Annotations) (pid : ℕ) (n : CodeNode) → IsLine (fired_line x pid n)
    → length (line_text unit (fired_line x pid n) ++ 10 ∷ []) ≤ 37
fired-bytes unit x pid (code.Work at r next) is = length-worked_line unit pid (dths x r) is.0 is.1
fired-bytes unit x pid n is = omega (arith, length-fired_line unit pid (code_form n) is.0)

pid-bytes : (unit pid : ℕ) → pid < 2 ^ 32 → length (line_text unit (line.Pid pid) ++ 10 ∷ []) ≤ 37
pid-bytes unit pid small =
    omega (arith, length-decimal_32 pid small, length-append (decimal pid) (10 ∷ []))

firing-bytes : (v : Version) (a : Acceptance) (s : State) (pid : ℕ)
    → All IsLine (option_to_list (firing_line v a s pid))
    → bytes_of a.annotations.unit (option_to_list (firing_line v a s pid)) ≤ 37
firing-bytes version.One a s pid are =
    omega (
      arith,
      bytes-one a.annotations.unit (line.Pid pid),
      pid-bytes a.annotations.unit pid (All-head IsLine (line.Pid pid) [] are),
    )
firing-bytes version.Two a s pid are = at (process_at s pid) are
  where
    by : (pid : ℕ) (o : Option CodeNode)
        → All IsLine (option_to_list (option_map (fired_line a.annotations pid) o))
        → bytes_of a.annotations.unit (option_to_list (option_map (fired_line a.annotations pid) o)) ≤ 37
    by pid (Some n) are =
        omega (
          arith,
          bytes-one a.annotations.unit (fired_line a.annotations pid n),
          fired-bytes a.annotations.unit a.annotations pid n (All-head IsLine (fired_line a.annotations pid n) [] are),
        )
    by pid None are = omega arith

    at : (o : Option Process) → All IsLine (option_to_list (o >>= λ q. placed_line a pid q.code))
        → bytes_of a.annotations.unit (option_to_list (o >>= λ q. placed_line a pid q.code)) ≤ 37
    at (Some p) are = by pid (slice_get a.program.code p.code.0) are
    at None are = omega arith

firings-bytes : (v : Version) (a : Acceptance) (s : State) (pids : List ℕ) → All IsLine (firing_lines v a s pids)
    → bytes_of a.annotations.unit (firing_lines v a s pids) ≤ 37 * length pids
firings-bytes v a s [] are = omega arith
firings-bytes v a s (pid ∷ pids) are =
    let first = option_to_list (firing_line v a s pid) in
    let rest = firing_lines v a (state_or s (step a s pid)) pids in
    omega (
      arith,
      bytes-append a.annotations.unit first rest,
      firing-bytes v a s pid (all-first IsLine first rest are),
      firings-bytes v a (state_or s (step a s pid)) pids (all-last IsLine first rest are),
    )

-- ---- passages

-- the lines of an entry
entry-bytes : (a : Acceptance) → IsAccepted a → (at : ℕ) (e : End) (firings : List JournalLine) (most : ℕ)
    → at < line_bound → HasLineBelow 7 e → All IsLine (line.Line at ∷ (firings ++ line.End e ∷ []))
    → bytes_of a.annotations.unit firings ≤ most
    → bytes_of a.annotations.unit (line.Line at ∷ (firings ++ line.End e ∷ [])) ≤ 219 + most
entry-bytes a accepted at e firings most small below are few =
    let unit : ℕ = a.annotations.unit in
    let tail = All-tail IsLine (line.Line at) (firings ++ line.End e ∷ []) are in
    let is_end : IsEnd e = All-head IsLine (line.End e) [] (all-last IsLine firings (line.End e ∷ []) tail) in
    let unit_small : unit < 2 ^ 32 = omega (arith, accepted.small_unit) in
    omega (
      arith,
      bytes-first unit (line.Line at) (firings ++ line.End e ∷ []),
      bytes-append unit firings (line.End e ∷ []),
      bytes-one unit (line.End e),
      length-frame_line unit at e unit_small small is_end below,
      few,
    )

-- an end that is allowed names no line
allowed-below : (a : Acceptance) (s : State) (count most : ℕ) (e : End) → IsAllowed a s count most e → HasLineBelow 7 e
allowed-below a s count most end.Committed allowed = tt
allowed-below a s count most end.Blocked allowed = tt
allowed-below a s count most (end.Steps n) allowed = tt
allowed-below a s count most (end.Aborted pid f) allowed = tt
allowed-below a s count most end.Deposited allowed = tt
allowed-below a s count most (end.Refused n cause) allowed = absurd allowed

module _ {a : Acceptance} (accepted : IsAccepted a) (v : Version) where
  passage-bytes : {most : ℕ} {p : Passage} → IsPassage a most p → IsWrittenItem p.item
      → All IsLine (passage_lines v a p)
      → bytes_of a.annotations.unit (passage_lines v a p)
      ≤ 219 * entry_count (p.item ∷ []) + 37 * length (firings_in p.entry)
  passage-bytes (passage.deposit l at units name fits) written are =
      omega (arith, entry-bytes a accepted at end.Deposited [] 0 written.0 tt are (omega arith))
  passage-bytes (passage.no_deposit l at units name never) written are =
      omega (
        arith,
        entry-bytes a accepted at (end.Refused at refusal.TooMuchGas) [] 0 written.0 written.0 are (omega arith),
      )
  passage-bytes (passage.refused l b at cause refuses) written are =
      omega (
        arith,
        entry-bytes a accepted b.line (end.Refused at cause) [] 0 written.0
            (refuses-form accepted refuses written.1).0 are (omega arith),
      )
  passage-bytes (passage.stays l b starts pids last begun reaches) written are =
      let lines = firing_lines v a (after_starts a l starts).state pids in
      let all = all-first IsLine (line.Line b.line ∷ (lines ++ line.End end.Committed ∷ [])) [] are in
      let inner = all-first IsLine lines (line.End end.Committed ∷ [])
      (All-tail IsLine (line.Line b.line) (lines ++ line.End end.Committed ∷ []) all) in
      let same = ap (bytes_of a.annotations.unit)
      (append-nil (line.Line b.line ∷ (lines ++ line.End end.Committed ∷ []))) in
      omega (
        arith,
        same,
        entry-bytes a accepted b.line end.Committed lines (37 * length pids) written.0 tt all
            (firings-bytes v a (after_starts a l starts).state pids inner),
      )
  passage-bytes (passage.undone l b starts pids last e begun reaches undoes) written are =
      let lines = firing_lines v a (after_starts a l starts).state pids in
      let all = all-first IsLine (line.Line b.line ∷ (lines ++ line.End e ∷ [])) [] are in
      let inner = all-first IsLine lines (line.End e ∷ [])
      (All-tail IsLine (line.Line b.line) (lines ++ line.End e ∷ []) all) in
      let same = ap (bytes_of a.annotations.unit) (append-nil (line.Line b.line ∷ (lines ++ line.End e ∷ []))) in
      omega (
        arith,
        same,
        entry-bytes a accepted b.line e lines (37 * length pids) written.0
            (allowed-below a last (length pids) _ e reaches.allowed) all
            (firings-bytes v a (after_starts a l starts).state pids inner),
      )
  passage-bytes (passage.shown l at) written are = omega arith

  -- the entries of the first item, and those of the others
  first-entries : (i : ScriptItem) (items : List ScriptItem)
      → entry_count (i ∷ items) ≡ entry_count (i ∷ []) + entry_count items
  first-entries (item.Deposit at name units) items = omega arith
  first-entries (item.Batch b) items = omega arith
  first-entries (item.Show at) items = omega arith

  leads-bytes : {limit made : ℕ} {l last : LedgerState} {ps : List Passage} → Leads a limit made l ps last
      → All IsWrittenItem (map (λ p. p.item) ps) → All IsLine (flat_map (passage_lines v a) ps)
      → bytes_of a.annotations.unit (flat_map (passage_lines v a) ps)
      ≤ 219 * entry_count (map (λ p. p.item) ps) + 37 * firings_made (entries_of ps)
  leads-bytes (legal.done made l) written are = omega arith
  leads-bytes (legal.passes made p ps last is rest) written are =
      let item_of : Passage → ScriptItem = λ x. x.item in
      let first = passage_lines v a p in
      let others = flat_map (passage_lines v a) ps in
      omega (
        arith,
        bytes-append a.annotations.unit first others,
        passage-bytes is (All-head IsWrittenItem p.item (map item_of ps) written) (all-first IsLine first others are),
        leads-bytes rest (All-tail IsWrittenItem p.item (map item_of ps) written) (all-last IsLine first others are),
        first-entries p.item (map item_of ps),
        first-made p ps,
      )

  -- The text of a legal journal is short enough to be read, where the items are as a script has them.
  pub journal-within : {first : LedgerState} {items : List ScriptItem} {journal : Journal} {ps : List Passage}
      {last : LedgerState} → IsScriptSize items → AreWritten items → TellsFrom a first items journal ps last
      → All IsLine (journal_lines v a journal.limit ps)
      → length (lines_text a.annotations.unit (journal_lines v a journal.limit ps)) ≤ max_bytes
  journal-within {first} {items} {journal} {ps} size written tells are =
      let unit : ℕ = a.annotations.unit in
      let rest : List JournalLine = flat_map (passage_lines v a) ps in
      let items_written = subst (All IsWrittenItem) (sym tells.items_are) written in
      let tail = All-tail IsLine (line.Head v) (line.Steps journal.limit ∷ rest) are in
      let entries = ap entry_count tells.items_are in
      let firings = ap firings_made tells.entries_are in
      omega (
        arith,
        bytes-first unit (line.Head v) (line.Steps journal.limit ∷ rest),
        bytes-first unit (line.Steps journal.limit) rest,
        head-bytes unit v,
        steps-bytes unit journal.limit (omega (arith, tells.limit.few)),
        leads-bytes tells.leads items_written (All-tail IsLine (line.Steps journal.limit) rest tail),
        entries,
        firings,
        size.entries,
        tells-within tells,
      )
    where
      head-bytes : (unit : ℕ) (v : Version) → length (line_text unit (line.Head v) ++ 10 ∷ []) ≤ 16
      head-bytes unit version.One = omega arith
      head-bytes unit version.Two = omega arith

      steps-bytes : (unit n : ℕ) → n < 2 ^ 32 → length (line_text unit (line.Steps n) ++ 10 ∷ []) ≤ 17
      steps-bytes unit n small =
          omega (
            arith,
            length-append (codes "steps " ++ decimal n) (10 ∷ []),
            length-append (codes "steps ") (decimal n),
            length-decimal_32 n small,
          )
