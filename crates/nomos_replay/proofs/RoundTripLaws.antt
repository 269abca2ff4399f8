-- The text of each legal journal tells that journal.
use Rattle.std.proofs.Common.{◌≡◌, ◌∙◌, ◌+◌, ◌≤◌, ◌++◌, ℕ, List, [], ◌∷◌, length, length-append, map, Option, Some, None, Result, Ok, refl, sym, subst, ap, arith, append-nil, append_assoc, slice_get}
use Rattle.std.specs.List.{All, flat_map}
use Rattle.std.specs.Option.{option_map, option_to_list}
use Rattle.std.proofs.lemmas.List.Concat.{flat_map-append}
use Rattle.std.proofs.lemmas.List.Elements.{All-head, All-tail}
use Rattle.std.proofs.lemmas.Option.{none-some, same_Some}
use Rattle.nomos_ir.specs.declared.code_node.CodeNode.{CodeNode}
use Rattle.nomos_ir.specs.declared.code_node.CodeNode.TheVariants as code
use Rattle.nomos_types.proofs.AmountLaws.{all-first, all-last}
use Rattle.nomos_types.specs.Acceptance.{Acceptance}
use Rattle.nomos_machine.specs.Optional.{◌>>=◌}
use Rattle.nomos_machine.specs.Run.{run}
use Rattle.nomos_machine.specs.State.{State, process_at}
use Rattle.nomos_ir.specs.CodeParts.{code_terms}
use Rattle.nomos_ir.specs.TermsEvaluation.{terms_evaluation}
use Rattle.nomos_machine.specs.Step.{deed, deed_by, state_after, step}
use Rattle.nomos_machine.specs.declared.object.Process.{Process}
use Rattle.nomos_script.specs.declared.item.Batch.{Batch}
use Rattle.nomos_script.specs.declared.item.ScriptItem.{ScriptItem}
use Rattle.nomos_script.specs.declared.item.ScriptItem.TheVariants as item
use Rattle.nomos_legal.specs.Batch.{AllStart, after_starts, state_or}
use Rattle.nomos_legal.specs.Ending.{IsAllowed}
use Rattle.nomos_legal.specs.Ledger.{LedgerState, deposited}
use Rattle.nomos_legal.specs.Legal.{Leads, TellsFrom, batch_limit, entries_of, firings_in, firings_made}
use Rattle.nomos_legal.specs.Legal as legal
use Rattle.nomos_legal.specs.Passage.{IsPassage, Passage, RunsTo, Undoes, bare, runs, still}
use Rattle.nomos_legal.specs.Passage as passage
use Rattle.nomos_legal.specs.declared.journal.End.{End}
use Rattle.nomos_legal.specs.declared.journal.End.TheVariants as end
use Rattle.nomos_legal.specs.declared.journal.Journal.{Journal}
use Rattle.nomos_legal.specs.declared.refusal.Refusal.TheVariants as refusal
use Rattle.nomos_legal.specs.declared.resolved.Resolved.{Resolved}
use Rattle.nomos_legal.proofs.LegalLaws.{entries_of-append, first-made, firings_made-append}
use Rattle.nomos_journal.specs.JournalText.{firing_line, firing_lines, fired_line, journal_lines, passage_lines, placed_line}
use Rattle.nomos_journal.specs.Line.{IsLine, line_text}
use Rattle.nomos_journal.specs.Text.{lines_text}
use Rattle.nomos_journal.specs.declared.line.JournalLine.{JournalLine}
use Rattle.nomos_journal.specs.declared.line.JournalLine.TheVariants as line
use Rattle.nomos_journal.specs.declared.line.Version.{Version}
use Rattle.nomos_journal.specs.declared.line.Version.TheVariants as version
use Rattle.nomos_journal.proofs.LineLaws.{first_line}
use Rattle.nomos_replay.specs.Answers.{AnswersFrom, Reads, max_bytes}
use Rattle.nomos_replay.specs.Answers as answers
use Rattle.nomos_replay.specs.Stand.{Goes, Stand, before, fires, says_fired}
use Rattle.nomos_replay.specs.Stand as stand
use Rattle.nomos_replay.specs.Told.{Told, next_limit, nothing_told, told_with}
use Rattle.nomos_replay.specs.declared.error.ReplayError.{ReplayError}

-- ---- the line of a firing

-- a firing by which a state goes on has a line, which says so
record HasLine (v : Version) (a : Acceptance) (s : State) (pid : ℕ) : Type 0 where
  line : JournalLine
  is : firing_line v a s pid ≡ Some line
  says : says_fired v line ≡ Some pid

-- the line of version 2 at an instruction
says-fired_line : (a : Acceptance) (pid : ℕ) (n : CodeNode)
    → says_fired version.Two (fired_line a.annotations pid n) ≡ Some pid
says-fired_line a pid (code.Work at r next) = refl
says-fired_line a pid n = refl

step-line : (v : Version) (a : Acceptance) (s t : State) (pid : ℕ) → step a s pid ≡ Some t → HasLine v a s pid
step-line version.One a s t pid steps = record { line = line.Pid pid; is = refl; says = refl }
step-line version.Two a s t pid steps = at (process_at s pid) refl steps
  where
    by : (p : Process) → process_at s pid ≡ Some p → (o : Option CodeNode) → slice_get a.program.code p.code.0 ≡ o
        → (deed a s p >>= state_after s) ≡ Some t → HasLine version.Two a s pid
    by p found (Some n) there is = record {
      line = fired_line a.annotations pid n;
      is =
          ap (λ (o : Option Process). o >>= λ q. placed_line a pid q.code) found
          ∙ ap (option_map (fired_line a.annotations pid)) there;
      says = says-fired_line a pid n;
    }
    by p found None there is =
        absurd
        (let never : None ≡ Some t =
        ap (λ (o : Option CodeNode). (o >>= λ n. deed_by a s p n (terms_evaluation a.program p.values (code_terms n)))
        >>= state_after s) (sym there) ∙ is in
        none-some t never)

    at : (o : Option Process) → process_at s pid ≡ o → ((o >>= deed a s) >>= state_after s) ≡ Some t
        → HasLine version.Two a s pid
    at (Some p) found is = by p found (slice_get a.program.code p.code.0) refl is
    at None found is = absurd cc

-- ---- lines that are read

module _ (a : Acceptance) (first : LedgerState) (all : List ScriptItem) (v : Version) where
  -- what is read from there on, whatever the number of the line
  abbrev ReadsOn : Stand → List ℕ → Result Told ReplayError → Type 0
  ReadsOn s text answer = (at : ℕ) → Reads a first all at s text answer

  lines_front : (l : JournalLine) (ls : List JournalLine) (text : List ℕ)
      → lines_text a.annotations.unit (l ∷ ls) ++ text
      ≡ line_text a.annotations.unit l ++ 10 ∷ (lines_text a.annotations.unit ls ++ text)
  lines_front l ls text =
      ap (λ (t : List ℕ). t ++ text) (first_line a.annotations.unit l ls)
      ∙ append_assoc (line_text a.annotations.unit l) (10 ∷ lines_text a.annotations.unit ls) text

  -- one line
  reads-line : {s next : Stand} (l : JournalLine) (ls : List JournalLine) (text : List ℕ)
      (answer : Result Told ReplayError) → IsLine l → Goes a first all s l next
      → ReadsOn next (lines_text a.annotations.unit ls ++ text) answer
      → ReadsOn s (lines_text a.annotations.unit (l ∷ ls) ++ text) answer
  reads-line {s} {next} l ls text answer is goes rest at =
      answers.goes at s next (lines_text a.annotations.unit (l ∷ ls) ++ text) (lines_text a.annotations.unit ls ++ text)
      l
      answer (record { is = is; joined = lines_front l ls text }) goes (rest (at + 1))

  -- the lines of an item without firings
  reads-still : {i : ScriptItem} {at : ℕ} {own : End} {after : LedgerState} (told : Told) (items : List ScriptItem)
      (text : List ℕ) (answer : Result Told ReplayError)
      → stand.entry_at i ≡ Some at
      → stand.Opens a v told items i (stand.owes v told i at own after items)
      → All IsLine (line.Line at ∷ line.End own ∷ [])
      → ReadsOn (before v (told_with told (still i (bare at own) told.ledger after)) items) text answer
      → ReadsOn (before v told (i ∷ items))
      (lines_text a.annotations.unit (line.Line at ∷ line.End own ∷ []) ++ text) answer
  reads-still {i} {at} {own} {after} told items text answer is opens are rest =
      let tail = All-tail IsLine (line.Line at) (line.End own ∷ []) are in
      reads-line (line.Line at) (line.End own ∷ []) text answer (All-head IsLine (line.Line at) (line.End own ∷ []) are)
      (stand.item_line v told i items at (stand.owes v told i at own after items) is opens)
      (reads-line (line.End own) [] text answer (All-head IsLine (line.End own) [] tail)
      (stand.own_end v told i at own after items own refl) rest)

  -- the lines of firings and of the end behind them
  reads-firings : (told : Told) (batch : Batch) (starts : List Resolved) (e : End) (items : List ScriptItem)
      (text : List ℕ) (answer : Result Told ReplayError) (last : State) (pids fired : List ℕ) (s : State)
      → run a s pids ≡ Some last → length fired + length pids ≤ next_limit told
      → IsAllowed a last (length fired + length pids) (next_limit told) e
      → All IsLine (firing_lines v a s pids ++ line.End e ∷ [])
      → ReadsOn
      (before v
      (stand.told_run a told (record { batch = batch; starts = starts; firings = fired ++ pids; state = last }) e)
      items)
      text answer
      → ReadsOn (fires v told (record { batch = batch; starts = starts; firings = fired; state = s }) items)
      (lines_text a.annotations.unit (firing_lines v a s pids ++ line.End e ∷ []) ++ text) answer
  reads-firings told batch starts e items text answer last [] fired s reached within allowed are rest =
      let here : s ≡ last = same_Some s last reached in
      let count : length fired + 0 ≡ length fired = omega arith in
      let may = subst (λ (x : State). IsAllowed a x (length fired) (next_limit told) e) (sym here)
      (subst (λ (n : ℕ). IsAllowed a last n (next_limit told) e) count allowed) in
      reads-line (line.End e) [] text answer (All-head IsLine (line.End e) [] are)
      (stand.batch_end v told (record { batch = batch; starts = starts; firings = fired; state = s }) items e may)
      (subst
      (λ (x : State). ReadsOn
      (before v (stand.told_run a told (record { batch = batch; starts = starts; firings = fired; state = x }) e) items)
      text answer) (sym here)
      (subst
      (λ (ps : List ℕ). ReadsOn
      (before v (stand.told_run a told (record { batch = batch; starts = starts; firings = ps; state = last }) e) items)
      text answer) (append-nil fired) rest))
  reads-firings told batch starts e items text answer last (pid ∷ pids) fired s reached within allowed are rest =
      at (step a s pid) refl reached
      (λ u. reads-firings told batch starts e items text answer last pids (fired ++ pid ∷ []) u)
    where
      at : (o : Option State) → step a s pid ≡ o → (o >>= λ next. run a next pids) ≡ Some last
          → ((u : State) → run a u pids ≡ Some last → length (fired ++ pid ∷ []) + length pids ≤ next_limit told
          → IsAllowed a last (length (fired ++ pid ∷ []) + length pids) (next_limit told) e
          → All IsLine (firing_lines v a u pids ++ line.End e ∷ [])
          → ReadsOn
          (before v
          (stand.told_run a told
          (record { batch = batch; starts = starts; firings = (fired ++ pid ∷ []) ++ pids; state = last }) e) items)
          text answer
          → ReadsOn
          (fires v told (record { batch = batch; starts = starts; firings = fired ++ pid ∷ []; state = u }) items)
          (lines_text a.annotations.unit (firing_lines v a u pids ++ line.End e ∷ []) ++ text) answer)
          → ReadsOn (fires v told (record { batch = batch; starts = starts; firings = fired; state = s }) items)
          (lines_text a.annotations.unit (firing_lines v a s (pid ∷ pids) ++ line.End e ∷ []) ++ text) answer
      at (Some u) steps runs others =
          let has = step-line v a s u pid steps in
          let count : length fired + length (pid ∷ pids) ≡ length (fired ++ pid ∷ []) + length pids =
          omega (arith, length-append fired (pid ∷ [])) in
          let lines : firing_lines v a s (pid ∷ pids) ++ line.End e ∷ []
          ≡ has.line ∷ (firing_lines v a u pids ++ line.End e ∷ []) =
          (λ i. (option_to_list (has.is i) ++ firing_lines v a (state_or s (steps i)) pids) ++ line.End e ∷ []) in
          let lines_are = subst (All IsLine) lines are in
          let goes : Goes a first all
          (fires v told (record { batch = batch; starts = starts; firings = fired; state = s }) items)
          has.line
          (fires v told (record { batch = batch; starts = starts; firings = fired ++ pid ∷ []; state = u }) items) =
          stand.firing v told (record { batch = batch; starts = starts; firings = fired; state = s }) items has.line pid
          u
          (record { process = has.says; left = omega (arith, within) }) steps has.is in
          subst
          (λ (ls : List JournalLine). ReadsOn
          (fires v told (record { batch = batch; starts = starts; firings = fired; state = s }) items)
          (lines_text a.annotations.unit ls ++ text) answer) (sym lines)
          (reads-line has.line (firing_lines v a u pids ++ line.End e ∷ []) text answer
          (All-head IsLine has.line (firing_lines v a u pids ++ line.End e ∷ []) lines_are) goes
          (others u runs (omega (arith, within, count))
          (subst (λ (n : ℕ). IsAllowed a last n (next_limit told) e) count allowed)
          (All-tail IsLine has.line (firing_lines v a u pids ++ line.End e ∷ []) lines_are)
          (subst
          (λ (ps : List ℕ). ReadsOn
          (before v (stand.told_run a told (record { batch = batch; starts = starts; firings = ps; state = last }) e)
          items)
          text answer) (sym (append_assoc fired (pid ∷ []) pids)) rest)))
      at None steps runs others = absurd cc

  -- the lines of a batch whose lines started
  reads-run : (told : Told) (batch : Batch) (starts : List Resolved) (pids : List ℕ) (last : State) (e : End)
      (items : List ScriptItem) (text : List ℕ) (answer : Result Told ReplayError)
      → AllStart a told.ledger batch.starts starts
      → RunsTo a (next_limit told) (after_starts a told.ledger starts).state pids last e
      → All IsLine
      (line.Line batch.line ∷ (firing_lines v a (after_starts a told.ledger starts).state pids ++ line.End e ∷ []))
      → ReadsOn
      (before v
      (stand.told_run a told (record { batch = batch; starts = starts; firings = pids; state = last }) e) items)
      text answer
      → ReadsOn (before v told (item.Batch batch ∷ items))
      (lines_text a.annotations.unit
      (line.Line batch.line ∷ (firing_lines v a (after_starts a told.ledger starts).state pids ++ line.End e ∷ []))
      ++ text)
      answer
  reads-run told batch starts pids last e items text answer begun reaches are rest =
      let start : State = (after_starts a told.ledger starts).state in
      let lines : List JournalLine = firing_lines v a start pids ++ line.End e ∷ [] in
      reads-line (line.Line batch.line) lines text answer (All-head IsLine (line.Line batch.line) lines are)
      (stand.item_line v told (item.Batch batch) items batch.line
      (fires v told (record { batch = batch; starts = starts; firings = []; state = start }) items) refl
      (stand.started batch starts begun))
      (reads-firings told batch starts e items text answer last pids [] start reaches.reached
      (omega (arith, reaches.within))
      (subst (λ (n : ℕ). IsAllowed a last n (next_limit told) e) (omega arith) reaches.allowed)
      (All-tail IsLine (line.Line batch.line) lines are) rest)

  -- what was told before a passage, which begins from this ledger
  abbrev up_to : ℕ → List Passage → LedgerState → Told
  up_to limit qs l = record { limit = limit; passages = qs; ledger = l }

  -- the lines of a passage
  reads-passage : (limit : ℕ) (qs : List Passage) {p : Passage} (items : List ScriptItem) (text : List ℕ)
      (answer : Result Told ReplayError)
      → IsPassage a (batch_limit limit (firings_made (entries_of qs))) p → All IsLine (passage_lines v a p)
      → ReadsOn (before v (told_with (up_to limit qs p.before) p) items) text answer
      → ReadsOn (before v (up_to limit qs p.before) (p.item ∷ items))
      (lines_text a.annotations.unit (passage_lines v a p) ++ text) answer
  reads-passage limit qs items text answer (passage.deposit l at units name fits) are rest =
      reads-still (up_to limit qs l) items text answer refl
      (stand.deposit at name units end.Deposited (deposited a.annotations.unit l name units)
      (record { made = λ _. (refl, refl); refused = λ never. absurd (never fits) }))
      are rest
  reads-passage limit qs items text answer (passage.no_deposit l at units name never) are rest =
      reads-still (up_to limit qs l) items text answer refl
      (stand.deposit at name units (end.Refused at refusal.TooMuchGas) l
      (record { made = λ fits. absurd (never fits); refused = λ _. (refl, refl) }))
      are rest
  reads-passage limit qs items text answer (passage.refused l batch at cause refuses) are rest =
      reads-still (up_to limit qs l) items text answer refl (stand.refused batch at cause refuses) are rest
  reads-passage limit qs items text answer (passage.stays l batch starts pids last begun reaches) are rest =
      let lines : List JournalLine =
      line.Line batch.line ∷ (firing_lines v a (after_starts a l starts).state pids ++ line.End end.Committed ∷ []) in
      subst
      (λ (ls : List JournalLine). ReadsOn (before v (up_to limit qs l) (item.Batch batch ∷ items))
      (lines_text a.annotations.unit ls ++ text) answer) (sym (append-nil lines))
      (reads-run (up_to limit qs l) batch starts pids last end.Committed items text answer begun reaches
      (subst (All IsLine) (append-nil lines) are) rest)
  reads-passage limit qs items text answer (passage.undone l batch starts pids last e begun reaches undoes) are rest =
      let lines : List JournalLine =
      line.Line batch.line ∷ (firing_lines v a (after_starts a l starts).state pids ++ line.End e ∷ []) in
      subst
      (λ (ls : List JournalLine). ReadsOn (before v (up_to limit qs l) (item.Batch batch ∷ items))
      (lines_text a.annotations.unit ls ++ text) answer) (sym (append-nil lines))
      (reads-run (up_to limit qs l) batch starts pids last e items text answer begun reaches
      (subst (All IsLine) (append-nil lines) are)
      (λ at. subst
      (λ (after : LedgerState). Reads a first all at
      (before v
      (told_with (up_to limit qs l) (runs batch pids e l (after_starts a l starts) last after)) items) text answer)
      (undone-same e undoes) (rest at)))
    where
      undone-same : (e : End) → Undoes e → l ≡ stand.ledger_after l (after_starts a l starts) last e
      undone-same end.Committed undoes = absurd undoes
      undone-same end.Deposited undoes = refl
      undone-same end.Blocked undoes = refl
      undone-same (end.Aborted pid f) undoes = refl
      undone-same (end.Steps n) undoes = refl
      undone-same (end.Refused n cause) undoes = refl
  reads-passage limit qs items text answer (passage.shown l n) are rest =
      λ at. answers.shows at v (up_to limit qs l) n items text answer (rest at)

  -- ---- the text of a journal

  reads-leads : (limit : ℕ) {made : ℕ} {l last : LedgerState} {ps : List Passage} → Leads a limit made l ps last
      → (qs : List Passage) → made ≡ firings_made (entries_of qs) → All IsLine (flat_map (passage_lines v a) ps)
      → ReadsOn (before v (up_to limit qs l) (map (λ p. p.item) ps))
      (lines_text a.annotations.unit (flat_map (passage_lines v a) ps)) (Ok (up_to limit (qs ++ ps) last))
  reads-leads limit (legal.done made l) qs count are at =
      subst (λ (ps : List Passage). Reads a first all at (before v (up_to limit qs l) []) [] (Ok (up_to limit ps l)))
      (sym (append-nil qs)) (answers.ends at v (up_to limit qs l))
  reads-leads limit (legal.passes made p ps last is leads) qs count are at =
      let here = subst (λ (n : ℕ). IsPassage a (batch_limit limit n) p) count is in
      let lines = passage_lines v a p in
      let others = flat_map (passage_lines v a) ps in
      let more : made + length (firings_in p.entry) ≡ firings_made (entries_of (qs ++ p ∷ [])) =
      omega (
        arith,
        count,
        first-made p [],
        ap firings_made (entries_of-append qs (p ∷ [])),
        firings_made-append (entries_of qs) (entries_of (p ∷ [])),
      ) in
      let rest = reads-leads limit leads (qs ++ p ∷ []) more (all-last IsLine lines others are) in
      let told = subst
      (λ (rs : List Passage). ReadsOn (before v (up_to limit (qs ++ p ∷ []) p.after) (map (λ (x : Passage). x.item) ps))
      (lines_text a.annotations.unit others) (Ok (up_to limit rs last)))
      (append_assoc qs (p ∷ []) ps) rest in
      subst
      (λ (text : List ℕ). Reads a first all at
      (before v (up_to limit qs p.before) (map (λ (x : Passage). x.item) (p ∷ ps))) text
      (Ok (up_to limit (qs ++ p ∷ ps) last)))
      (sym (flat_map-append (λ (l : JournalLine). line_text a.annotations.unit l ++ 10 ∷ []) lines others))
      (reads-passage limit qs (map (λ (x : Passage). x.item) ps) (lines_text a.annotations.unit others)
      (Ok (up_to limit (qs ++ p ∷ ps) last)) here (all-first IsLine lines others are) told at)

-- The text of a legal journal, in either version, tells that journal, where its lines are lines and it is not too long.
pub legal-answer : {a : Acceptance} {first : LedgerState} {items : List ScriptItem} {journal : Journal}
    {ps : List Passage} {last : LedgerState} (v : Version) → TellsFrom a first items journal ps last
    → All IsLine (journal_lines v a journal.limit ps) → (text : List ℕ)
    → text ≡ lines_text a.annotations.unit (journal_lines v a journal.limit ps) → length text ≤ max_bytes
    → AnswersFrom a first items text (Ok (record { limit = journal.limit; passages = ps; ledger = last }))
legal-answer {a} {first} {items} {journal} {ps} {last} v tells are text is within =
    let lines : List JournalLine = flat_map (passage_lines v a) ps in
    let told : Told = record { limit = journal.limit; passages = ps; ledger = last } in
    let tail = All-tail IsLine (line.Head v) (line.Steps journal.limit ∷ lines) are in
    let reads = reads-leads a first items v journal.limit tells.leads [] refl
    (All-tail IsLine (line.Steps journal.limit) lines tail) in
    let from_items = subst
    (λ (is : List ScriptItem). (at : ℕ) → Reads a first items at (before v (nothing_told first journal.limit) is)
    (lines_text a.annotations.unit lines) (Ok told)) tells.items_are reads in
    answers.reads (Ok told) within
    (subst (λ (t : List ℕ). Reads a first items 1 stand.at_head t (Ok told))
    (append-nil (lines_text a.annotations.unit (line.Head v ∷ line.Steps journal.limit ∷ lines)) ∙ sym is)
    (reads-line a first items v (line.Head v) (line.Steps journal.limit ∷ lines) [] (Ok told)
    (All-head IsLine (line.Head v) (line.Steps journal.limit ∷ lines) are) (stand.head v)
    (reads-line a first items v (line.Steps journal.limit) lines [] (Ok told)
    (All-head IsLine (line.Steps journal.limit) lines tail) (stand.steps v journal.limit tells.limit)
    (λ at. subst
    (λ (t : List ℕ). Reads a first items at (before v (nothing_told first journal.limit) items) t (Ok told))
    (sym (append-nil (lines_text a.annotations.unit lines))) (from_items at))) 1))
