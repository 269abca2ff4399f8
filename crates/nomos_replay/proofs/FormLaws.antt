-- Each line of a legal journal's text is a line: its numbers are within their bits.
use Rattle.std.proofs.Common.{◌≡◌, ◌∙◌, ◌+◌, ◌-◌, ◌<◌, ◌≤◌, ◌^◌, ◌++◌, inl, inr, zero, suc, ℕ, List, [], ◌∷◌, length, map, take, Option, Some, None, Err, IfSome, slice_get, slice_index, refl, sym, subst, ap, arith}
use Rattle.std.specs.List.{All, flat_map}
use Rattle.std.specs.Option.{option_map, option_to_list}
use Rattle.std.proofs.Math.Nat.{mul-le-mul_left}
use Rattle.std.proofs.lemmas.Bool.{cases_lt}
use Rattle.std.proofs.lemmas.List.{get_or_past, take_all}
use Rattle.std.proofs.lemmas.List.Elements.{All-append, All-cons, All-contains, All-get_or, All-head, All-nil, All-tail}
use Rattle.nomos_ir.specs.Amounts.{IsAmount, amounts_of, proc_amounts}
use Rattle.nomos_ir.specs.CodeParts.{code_amounts}
use Rattle.nomos_ir.specs.TypeParts.{type_amounts}
use Rattle.nomos_ir.specs.declared.amount.Amount.{Amount}
use Rattle.nomos_ir.specs.declared.amount.Amount.TheVariants as amount
use Rattle.nomos_ir.specs.declared.code_node.CodeNode.{CodeNode}
use Rattle.nomos_ir.specs.declared.code_node.CodeNode.TheVariants as code
use Rattle.nomos_ir.specs.declared.declaration.ProcDecl.{ProcDecl}
use Rattle.nomos_ir.specs.declared.fault.Fault.{Fault}
use Rattle.nomos_types.proofs.AmountLaws.{all-first, all-last}
use Rattle.nomos_types.specs.Acceptance.{Acceptance, IsAccepted}
use Rattle.nomos_types.specs.Amount.{dths}
use Rattle.nomos_machine.specs.Objects.{object_number}
use Rattle.nomos_machine.specs.Optional.{◌>>=◌}
use Rattle.nomos_machine.specs.Run.{run}
use Rattle.nomos_machine.specs.State.{State, process_at}
use Rattle.nomos_machine.specs.Step.{deed, fault, fault_in, state_after, step}
use Rattle.nomos_machine.specs.TypedState.{IsTyped}
use Rattle.nomos_machine.specs.declared.object.Object.{Object}
use Rattle.nomos_machine.specs.declared.object.Object.TheVariants as object
use Rattle.nomos_machine.specs.declared.object.Process.{Process}
use Rattle.nomos_machine.proofs.PreservationLaws.{process_at-there, run-keeps}
use Rattle.nomos_script.specs.ScriptNames.{IsScriptName}
use Rattle.nomos_script.specs.Size.{IsScriptSize}
use Rattle.nomos_script.specs.declared.item.Batch.{Batch}
use Rattle.nomos_script.specs.declared.item.ScriptItem.{ScriptItem}
use Rattle.nomos_script.specs.declared.item.Start.{Start}
use Rattle.nomos_legal.specs.Batch.{AllStart, OneRefuses, after_starts, state_or}
use Rattle.nomos_legal.specs.Batch as batch
use Rattle.nomos_legal.specs.Ending.{IsAllowed}
use Rattle.nomos_legal.specs.Ledger.{LedgerState}
use Rattle.nomos_legal.specs.Legal.{Leads, Tells, TellsFrom}
use Rattle.nomos_legal.specs.Legal as legal
use Rattle.nomos_legal.specs.NextNumbers.{HasNumbered, PassageNumbers}
use Rattle.nomos_legal.specs.Passage.{IsPassage, Passage, RunsTo}
use Rattle.nomos_legal.specs.Passage as passage
use Rattle.nomos_legal.specs.StandsFor.{StandsNamed}
use Rattle.nomos_legal.specs.LineStarts.{Resolves}
use Rattle.nomos_legal.specs.LineStarts as starting
use Rattle.nomos_legal.specs.declared.journal.End.{End}
use Rattle.nomos_legal.specs.declared.journal.End.TheVariants as end
use Rattle.nomos_legal.specs.declared.journal.Journal.{Journal}
use Rattle.nomos_legal.specs.declared.refusal.Refusal.{Refusal}
use Rattle.nomos_legal.specs.declared.refusal.Refusal.TheVariants as refusal
use Rattle.nomos_legal.specs.declared.resolved.Resolved.{Resolved}
use Rattle.nomos_legal.proofs.NextNumberLaws.{given-few, legal-numbers-from}
use Rattle.nomos_legal.proofs.RightLaws.{batch-started, empty-standing, passage-standing}
use Rattle.nomos_printing.specs.Cause.{IsCause}
use Rattle.nomos_printing.specs.End.{IsEnd}
use Rattle.nomos_journal.specs.JournalText.{fired_line, firing_line, firing_lines, journal_lines, passage_lines, placed_line}
use Rattle.nomos_journal.specs.Line.{IsLine}
use Rattle.nomos_journal.specs.declared.line.JournalLine.{JournalLine}
use Rattle.nomos_journal.specs.declared.line.JournalLine.TheVariants as line
use Rattle.nomos_journal.specs.declared.line.Version.{Version}
use Rattle.nomos_journal.specs.declared.line.Version.TheVariants as version
use Rattle.nomos_script.specs.WrittenItems.{AreWritten, IsWrittenItem, IsWrittenStart, line_bound}

-- ---- amounts

-- the amounts of an instruction are among those of all
code-among : (P : Amount → Type 0) (nodes : List CodeNode) (c : ℕ) (n : CodeNode) → All P (flat_map code_amounts nodes)
    → slice_get nodes c ≡ Some n → All P (code_amounts n)
code-among P [] c n all found = absurd cc
code-among P (m ∷ nodes) zero n all found =
    let same : m ≡ n = cc in
    subst (λ (e : CodeNode). All P (code_amounts e)) same
    (all-first P (code_amounts m) (flat_map code_amounts nodes) all)
code-among P (m ∷ nodes) (suc c) n all found =
    code-among P nodes c n (all-last P (code_amounts m) (flat_map code_amounts nodes) all) found

proc-among : (P : Amount → Type 0) (procs : List ProcDecl) (c : ℕ) (d : ProcDecl) → All P (flat_map proc_amounts procs)
    → slice_get procs c ≡ Some d → All P (proc_amounts d)
proc-among P [] c d all found = absurd cc
proc-among P (e ∷ procs) zero d all found =
    let same : e ≡ d = cc in
    subst (λ (x : ProcDecl). All P (proc_amounts x)) same
    (all-first P (proc_amounts e) (flat_map proc_amounts procs) all)
proc-among P (e ∷ procs) (suc c) d all found =
    proc-among P procs c d (all-last P (proc_amounts e) (flat_map proc_amounts procs) all) found

module _ {a : Acceptance} (accepted : IsAccepted a) where
  abbrev Small : Amount → Type 0
  Small r = dths a.annotations r < 2 ^ 64

  small-at : (k : ℕ) → slice_index a.annotations.stars k < 2 ^ 62
  small-at k =
      elim (cases_lt k (length a.annotations.stars)) [
        | inl within ↦ All-get_or (λ (q : ℕ). q < 2 ^ 62) a.annotations.stars k 0 within accepted.small_stars
        | inr past ↦ omega (arith, get_or_past a.annotations.stars k 0 past)
      ]

  small-amount : (r : Amount) → IsAmount r → Small r
  small-amount (amount.Written units) is =
      omega (arith, is, mul-le-mul_left units accepted.small_unit)
  small-amount (amount.Star star) is = omega (arith, small-at (star - 1))

  all-small : All Small (amounts_of a.program)
  all-small = λ k d within. small-amount _ (accepted.is_program.amounts k d within)

  code-small : (c : ℕ) (n : CodeNode) → slice_get a.program.code c ≡ Some n → All Small (code_amounts n)
  code-small c n found =
      code-among Small a.program.code c n
      (all-last Small (flat_map (λ t. type_amounts t.node) a.program.types) (flat_map code_amounts a.program.code)
      (all-first Small
      (flat_map (λ t. type_amounts t.node) a.program.types ++ flat_map code_amounts a.program.code)
      (flat_map proc_amounts a.program.procs) all-small))
      found

  declared-small : (c : ℕ) (d : ProcDecl) → slice_get a.program.procs c ≡ Some d → Small d.amount
  declared-small c d found =
      All-head Small d.amount []
      (all-last Small _ (d.amount ∷ [])
      (proc-among Small a.program.procs c d
      (all-last Small
      (flat_map (λ t. type_amounts t.node) a.program.types ++ flat_map code_amounts a.program.code)
      (flat_map proc_amounts a.program.procs) all-small)
      found))

  -- ---- processes

  -- a process that is found has a small number
  found-small : {s : State} {n : ℕ} → IsTyped a s → HasNumbered n s → n + 2 ≤ 2 ^ 32 → (pid : ℕ) (p : Process)
      → process_at s pid ≡ Some p → pid < 2 ^ 32
  found-small {s} typed numbered few pid p found =
      let (there, number) = process_at-there s pid p found in
      let below = All-contains (λ (o : Object). object_number o < s.next_object) s.objects (object.Process p)
      typed.numbered.below there in
      omega (arith, below, number, numbered.objects, few)

  -- so has one with a fault
  fault-process : (s : State) (pid : ℕ) (f : Fault) → fault a s pid ≡ Some f
      → (p : Process) × (process_at s pid ≡ Some p)
  fault-process s pid f has = at (process_at s pid) refl has
    where
      at : (o : Option Process) → process_at s pid ≡ o → ((o >>= deed a s) >>= fault_in) ≡ Some f
          → (p : Process) × (process_at s pid ≡ Some p)
      at (Some p) found is = (p, found)
      at None found is = absurd cc

  -- the line of version 2 at an instruction
  fired-form : (pid : ℕ) (n : CodeNode) → pid < 2 ^ 32 → All Small (code_amounts n)
      → IsLine (fired_line a.annotations pid n)
  fired-form pid (code.Work at r next) few small = (few, All-head Small r [] small)
  fired-form pid n few small = (few, λ is. cc)

  firing-form : (v : Version) {s : State} {n : ℕ} → IsTyped a s → HasNumbered n s → n + 2 ≤ 2 ^ 32 → (pid : ℕ)
      (p : Process) → process_at s pid ≡ Some p → All IsLine (option_to_list (firing_line v a s pid))
  firing-form version.One {s} typed numbered few pid p found =
      All-cons IsLine (line.Pid pid) [] (found-small typed numbered few pid p found) (All-nil IsLine)
  firing-form version.Two {s} typed numbered few pid p found =
      subst (λ (o : Option Process). All IsLine (option_to_list (o >>= λ q. placed_line a pid q.code))) (sym found)
      (at (slice_get a.program.code p.code.0) refl)
    where
      at : (o : Option CodeNode) → slice_get a.program.code p.code.0 ≡ o
          → All IsLine (option_to_list (option_map (fired_line a.annotations pid) (slice_get a.program.code p.code.0)))
      at (Some n) there =
          subst (λ (o : Option CodeNode). All IsLine (option_to_list (option_map (fired_line a.annotations pid) o)))
          (sym there)
          (All-cons IsLine (fired_line a.annotations pid n) []
          (fired-form pid n (found-small typed numbered few pid p found) (code-small p.code.0 n there))
          (All-nil IsLine))
      at None there =
          subst (λ (o : Option CodeNode). All IsLine (option_to_list (option_map (fired_line a.annotations pid) o)))
          (sym there) (All-nil IsLine)

  -- ---- firings

  -- who makes a step is a process
  step-process : (s t : State) (pid : ℕ) → step a s pid ≡ Some t → (p : Process) × (process_at s pid ≡ Some p)
  step-process s t pid steps = at (process_at s pid) refl steps
    where
      at : (o : Option Process) → process_at s pid ≡ o → ((o >>= deed a s) >>= state_after s) ≡ Some t
          → (p : Process) × (process_at s pid ≡ Some p)
      at (Some p) found is = (p, found)
      at None found is = absurd cc

  -- the lines of firings from a typed state in which numbers stay small
  firings-form : (v : Version) (n : ℕ) → n + 2 ≤ 2 ^ 32 → (s t : State) (pids : List ℕ) → IsTyped a s
      → run a s pids ≡ Some t → ((k : ℕ) (u : State) → run a s (take k pids) ≡ Some u → HasNumbered n u)
      → All IsLine (firing_lines v a s pids)
  firings-form v n few s t [] typed reached numbered = All-nil IsLine
  firings-form v n few s t (pid ∷ pids) typed reached numbered =
      at (step a s pid) refl reached
      (λ u typed_next rest numbers. firings-form v n few u t pids typed_next rest numbers)
    where
      at : (o : Option State) → step a s pid ≡ o → (o >>= λ next. run a next pids) ≡ Some t
          → ((u : State) → IsTyped a u → run a u pids ≡ Some t
          → ((k : ℕ) (w : State) → run a u (take k pids) ≡ Some w → HasNumbered n w)
          → All IsLine (firing_lines v a u pids))
          → All IsLine (firing_lines v a s (pid ∷ pids))
      at (Some u) steps rest others =
          let (p, found) = step-process s u pid steps in
          let one : run a s (pid ∷ []) ≡ Some u = ap (λ (o : Option State). o >>= λ next. Some next) steps in
          let typed_next = (run-keeps accepted s u (pid ∷ []) typed one).0 in
          let numbers = λ (k : ℕ) (w : State) (is : run a u (take k pids) ≡ Some w).
          numbered (suc k) w (ap (λ (o : Option State). o >>= λ next. run a next (take k pids)) steps ∙ is) in
          let same : state_or s (step a s pid) ≡ u = ap (state_or s) steps in
          All-append IsLine (option_to_list (firing_line v a s pid)) (firing_lines v a (state_or s (step a s pid)) pids)
          (firing-form v typed (numbered 0 s refl) few pid p found)
          (subst (λ (x : State). All IsLine (firing_lines v a x pids)) (sym same) (others u typed_next rest numbers))
      at None steps rest others = absurd cc

  -- ---- ends

  end-form : {last : State} {n : ℕ} (count most : ℕ) → IsTyped a last → HasNumbered n last → n + 2 ≤ 2 ^ 32
      → most < 2 ^ 32 → (e : End) → IsAllowed a last count most e → IsEnd e
  end-form count most typed numbered few small end.Committed allowed = tt
  end-form count most typed numbered few small end.Blocked allowed = tt
  end-form {last} count most typed numbered few small (end.Aborted pid f) allowed =
      let (p, found) = fault-process last pid f allowed.1 in
      found-small typed numbered few pid p found
  end-form count most typed numbered few small (end.Steps k) allowed = omega (arith, allowed.0, small)
  end-form count most typed numbered few small end.Deposited allowed = absurd allowed
  end-form count most typed numbered few small (end.Refused k cause) allowed = absurd allowed

  cause-form : {l : LedgerState} {start : Start} {cause : Refusal} → Resolves a l start (Err cause)
      → IsWrittenStart start → IsCause cause
  cause-form (starting.no_account none) written = written.sender
  cause-form (starting.no_process payer pays none) written = written.proc
  cause-form (starting.bad_arguments payer number d pays declared none) written = written.proc
  cause-form (starting.name_taken payer number d shared name contract pays declared fits is found) written =
      let named = subst (λ (o : Option (List ℕ)). IfSome o IsScriptName) is written.contract in named
  cause-form (starting.no_gas payer number d shared pays declared fits is few) written =
      let small = declared-small number d declared.there in
      (written.sender, omega (arith, few, small), omega (arith, small))

  -- the line of which a batch is refused, and the cause
  pub refuses-form : {l : LedgerState} {starts : List Start} {n : ℕ} {cause : Refusal} → OneRefuses a l starts n cause
      → All IsWrittenStart starts → (n < line_bound) × IsCause cause
  refuses-form (batch.this l start starts cause refused) written =
      let first = All-head IsWrittenStart start starts written in (first.line, cause-form refused first)
  refuses-form (batch.later l start r starts n cause resolves rest) written =
      refuses-form rest (All-tail IsWrittenStart start starts written)

  -- ---- passages

  -- two lines
  two-forms : (at : ℕ) (e : End) → at < line_bound → IsEnd e → All IsLine (line.Line at ∷ line.End e ∷ [])
  two-forms at e small is =
      All-cons IsLine (line.Line at) (line.End e ∷ []) (omega (arith, small))
      (All-cons IsLine (line.End e) [] is (All-nil IsLine))

  run-form : (v : Version) (b : Batch) (starts : List Resolved) (pids : List ℕ) (last : State) (e : End)
      {l : LedgerState} {n : ℕ} (most : ℕ) → n + 2 ≤ 2 ^ 32 → most < 2 ^ 32 → StandsNamed a l
      → AllStart a l b.starts starts
      → RunsTo a most (after_starts a l starts).state pids last e
      → ((k : ℕ) (u : State) → run a (after_starts a l starts).state (take k pids) ≡ Some u → HasNumbered n u)
      → b.line < line_bound
      → All IsLine
      ((line.Line b.line ∷ (firing_lines v a (after_starts a l starts).state pids ++ line.End e ∷ [])) ++ [])
  run-form v b starts pids last e {l} {n} most few small standing begun reaches numbered written =
      let start : State = (after_starts a l starts).state in
      let typed = (batch-started accepted standing begun).settled.typed in
      let typed_last = (run-keeps accepted start last pids typed reaches.reached).0 in
      let whole : run a start (take (length pids) pids) ≡ Some last =
      ap (run a start) (take_all (length pids) pids (omega arith)) ∙ reaches.reached in
      let ended = end-form (length pids) most typed_last (numbered (length pids) last whole) few small e
      reaches.allowed in
      let lines : List JournalLine = firing_lines v a start pids ++ line.End e ∷ [] in
      All-append IsLine (line.Line b.line ∷ lines) []
      (All-cons IsLine (line.Line b.line) lines (omega (arith, written))
      (All-append IsLine (firing_lines v a start pids) (line.End e ∷ [])
      (firings-form v n few start last pids typed reaches.reached numbered)
      (All-cons IsLine (line.End e) [] ended (All-nil IsLine))))
      (All-nil IsLine)

  passage-form : (v : Version) {most n : ℕ} {p : Passage} → IsPassage a most p → n + 2 ≤ 2 ^ 32 → most < 2 ^ 32
      → StandsNamed a p.before → PassageNumbers a n p → IsWrittenItem p.item → All IsLine (passage_lines v a p)
  passage-form v (passage.deposit l at units name fits) few small standing numbers written =
      two-forms at end.Deposited written.0 tt
  passage-form v (passage.no_deposit l at units name never) few small standing numbers written =
      two-forms at (end.Refused at refusal.TooMuchGas) written.0 (omega (arith, written.0), tt)
  passage-form v (passage.refused l b at cause refuses) few small standing numbers written =
      let is = refuses-form refuses written.1 in
      two-forms b.line (end.Refused at cause) written.0 (omega (arith, is.0), is.1)
  passage-form v {most} (passage.stays l b starts pids last begun reaches) few small standing numbers written =
      run-form v b starts pids last end.Committed most few small standing begun reaches numbers.firings written.0
  passage-form v {most} (passage.undone l b starts pids last e begun reaches undoes) few small standing numbers
      written =
      run-form v b starts pids last e most few small standing begun reaches numbers.firings written.0
  passage-form v (passage.shown l at) few small standing numbers written = All-nil IsLine

  -- ---- journals

  leads-form : (v : Version) {limit made n : ℕ} {l last : LedgerState} {ps : List Passage}
      → Leads a limit made l ps last
      → n + 2 ≤ 2 ^ 32 → limit < 2 ^ 32 → StandsNamed a l → All (PassageNumbers a n) ps
      → All IsWrittenItem (map (λ p. p.item) ps) → All IsLine (flat_map (passage_lines v a) ps)
  leads-form v (legal.done made l) few small standing numbers written = All-nil IsLine
  leads-form v {limit} {n = n} (legal.passes made p ps last is rest) few small standing numbers written =
      let item_of : Passage → ScriptItem = λ x. x.item in
      All-append IsLine (passage_lines v a p) (flat_map (passage_lines v a) ps)
      (passage-form v is few (omega (arith, small)) standing (All-head (PassageNumbers a n) p ps numbers)
      (All-head IsWrittenItem p.item (map item_of ps) written))
      (leads-form v rest few small (passage-standing accepted is standing) (All-tail (PassageNumbers a n) p ps numbers)
      (All-tail IsWrittenItem p.item (map item_of ps) written))

  -- Each line of the text of a legal journal is a line, where the items are as a script has them, from any ledger that
  -- is not too far on.
  pub journal-form-from : {first : LedgerState} → StandsNamed a first → HasNumbered (2 ^ 31) first.state
      → {items : List ScriptItem} {journal : Journal} {ps : List Passage} {last : LedgerState} (v : Version)
      → IsScriptSize items → AreWritten items → TellsFrom a first items journal ps last
      → All IsLine (journal_lines v a journal.limit ps)
  journal-form-from standing numbers {items} {journal} {ps} v size written tells =
      let rest : List JournalLine = flat_map (passage_lines v a) ps in
      let items_written = subst (All IsWrittenItem) (sym tells.items_are) written in
      let few = given-few accepted tells size in
      All-cons IsLine (line.Head v) (line.Steps journal.limit ∷ rest) tt
      (All-cons IsLine (line.Steps journal.limit) rest (omega (arith, tells.limit.few))
      (leads-form v tells.leads (omega (arith, few)) (omega (arith, tells.limit.few)) standing
      (legal-numbers-from accepted tells (2 ^ 31) standing numbers) items_written))

  -- so it is from the empty one
  pub journal-form : {items : List ScriptItem} {journal : Journal} {ps : List Passage} {last : LedgerState}
      (v : Version)
      → IsScriptSize items → AreWritten items → Tells a items journal ps last
      → All IsLine (journal_lines v a journal.limit ps)
  journal-form v size written tells =
      journal-form-from (empty-standing a) (record { objects = omega arith; names = omega arith }) v size written tells
