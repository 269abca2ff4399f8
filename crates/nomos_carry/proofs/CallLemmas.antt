-- How a call ends, from what the parts of the code found.
use Rattle.std.proofs.Common.{◌≡◌, ◌≢◌, ◌∙◌, ◌<◌, ◌⊎◌, inl, inr, ℕ, List, [], ◌∷◌, length, true≢false, Option, Some, None, refl, sym, ap, subst, arith}
use Rattle.std.specs.Prelude.{IfSome, IsSome, codes}
use Rattle.nomos_accept.specs.AcceptedText.{IsAcceptedAs, IsRefused}
use Rattle.nomos_accept.specs.declared.why.Why.TheVariants as why
use Rattle.nomos_answers.proofs.SourceLemmas.{some_text}
use Rattle.nomos_answers.specs.DueLines.{read_fault_line}
use Rattle.nomos_answers.specs.Outside.{FaultCounts, HasText, HaveRisen, Input, SinkState, SourceState, source_state}
use Rattle.nomos_answers.specs.Sources.{kept_text}
use Rattle.nomos_answers.specs.Written.{HasWrittenOut}
use Rattle.nomos_answers.specs.declared.due.Due.{Due}
use Rattle.nomos_ir.specs.Limits.{text_limit}
use Rattle.nomos_top.specs.Call.{EndsOn, EndsWithoutMemory, EndsWritten, inputs_of}
use Rattle.nomos_top.specs.Outcome as outcome
use Rattle.nomos_top.specs.Outcome.{Inputs, IsDue, IsTaskDue, IsUnaccepted, Outcome}
use Rattle.nomos_top.specs.Refusal.{refusal}
use Rattle.nomos_top.specs.Seen.{Call, IsDone, Texts}
use Rattle.nomos_top.specs.TaskRuns.{HasStopped}
use Rattle.nomos_top.specs.Tasks.{Keeps, Waits}
use Rattle.nomos_top.specs.Turns.{MayKeep, MayWait}
use Rattle.nomos_types.specs.Acceptance.{Acceptance}
use Rattle.nomos_words.proofs.WordLaws.{one_task}
use Rattle.nomos_words.specs.Options.{IsFileWord}
use Rattle.nomos_words.specs.Words.{Asks, Task, check}
use Rattle.nomos_carrying.specs.CarrySources.{IsBeginDueFor, IsCarryDueFor, IsNumbersDueFor, IsRenumberDueFor}
use Rattle.nomos_carry.specs.Alone.{LeavesAlone}
use Rattle.nomos_carry.specs.CarryCall as calling
use Rattle.nomos_carry.specs.CarryCall.{CarryCall, CarryEndsOn, CarryTexts}
use Rattle.nomos_carry.specs.CarryClaims.{CarryClaims}
use Rattle.nomos_carry.specs.CarryWords.{AskForNothing, AsksToCarry, CarryTask, carry, carry_usage, contract_word, new_file, numbers, renumber, script_file, snapshot_file}
use Rattle.nomos_carry.specs.declared.carry.Edges.{Edges}
use Rattle.nomos_carry.specs.mirror.Errands as errands
use Rattle.nomos_carry.specs.mirror.Errands.{AloneFor, Ends, IsDueBehind, IsDueOn, IsJudgedDue, IsRefusalDue}
use Rattle.nomos_carry.proofs.ClaimLaws.{ended-claims}
use Rattle.nomos_carry.proofs.EndLaws.{due-not, due-view, written-status}

-- ---- values

pub if_some-map : {X : Type 0} (o : Option X) (P Q : X → Type 0) → ((x : X) → P x → Q x) → IfSome o P → IfSome o Q
if_some-map (Some x) P Q f h = f x h
if_some-map None P Q f h = tt

-- what was due so was due otherwise
pub ends-map : {P Q : ℕ → List ℕ → Option (List ℕ) → Type 0} {out new : SinkState} {ended : ℕ}
    → ((status : ℕ) (bytes : List ℕ) (next : Option (List ℕ)) → P status bytes next → Q status bytes next)
    → Ends P out new ended → Ends Q out new ended
ends-map f (errands.wrote status bytes next due written) =
    errands.wrote status bytes next (f status bytes next due) written
ends-map f (errands.wanted seven out new) = errands.wanted seven out new

-- ---- on an accepted contract

module _ (a : Acceptance) (snapshot script : SourceState) (due : Due) where
  pub begin-behind : (file : List ℕ) (from : Option (List ℕ)) (words new : List ℕ) → from ≡ None
      → IsBeginDueFor a script due → IsDueBehind a (carry file from words new) snapshot script due
  begin-behind file None words new none is =
      let t = some_text snapshot.left in
      record {
        snapshot_text = t.0;
        snapshot_told = t.1;
        script_text = is.text;
        script_told = is.told;
        is = is.is;
      }
  begin-behind file (Some word) words new none is = absurd cc

  pub carry-behind : (file from words new : List ℕ) → IsCarryDueFor a snapshot script due
      → IsDueBehind a (carry file (Some from) words new) snapshot script due
  carry-behind file from words new is = record {
    snapshot_text = is.snapshot_text;
    snapshot_told = is.snapshot_told;
    script_text = is.script_text;
    script_told = is.script_told;
    is = is.is;
  }

  pub renumber-behind : (file from new : List ℕ) → IsRenumberDueFor a snapshot due
      → IsDueBehind a (renumber file from new) snapshot script due
  renumber-behind file from new is =
      let t = some_text script.left in
      record {
        snapshot_text = is.text;
        snapshot_told = is.told;
        script_text = t.0;
        script_told = t.1;
        is = is.is;
      }

  pub numbers-behind : (file from : List ℕ) → IsNumbersDueFor a snapshot due
      → IsDueBehind a (numbers file from) snapshot script due
  numbers-behind file from is =
      let t = some_text script.left in
      record {
        snapshot_text = is.text;
        snapshot_told = is.told;
        script_text = t.0;
        script_told = t.1;
        is = (is.is, is.nothing_kept);
      }

-- what stays as it was where something was due behind acceptance
pub alone-behind : {S K : Type 0} (a : Acceptance) (task : CarryTask) (snapshot script : SourceState) (due : Due)
    (before after : Edges S K) (out new : SinkState) (status : ℕ) → IsDueBehind a task snapshot script due
    → HasWrittenOut due.status due.out.items (kept_text due) out new status
    → (¬ (IsSome (snapshot_file task)) → after.snapshot ≡ before.snapshot)
    → (¬ (IsSome (script_file task)) → after.script ≡ before.script)
    → (kept_text due ≡ None → after.next ≡ before.next) → AloneFor task status before after
alone-behind a task snapshot script due before after out new status is written snapshot_unread script_unread none =
    record {
      snapshot = snapshot_unread;
      script = script_unread;
      refused = λ unaccepted. elim unaccepted [
        | inl one ↦
            absurd
            (never 1 (λ z. omega (arith, z)) (λ z. omega (arith, z)) (λ z. omega (arith, z))
            (λ z. omega (arith, z)) (λ z. omega (arith, z)) (λ z. omega (arith, z)) one)
        | inr eight ↦
            absurd
            (never 8 (λ z. omega (arith, z)) (λ z. omega (arith, z)) (λ z. omega (arith, z))
            (λ z. omega (arith, z)) (λ z. omega (arith, z)) (λ z. omega (arith, z)) eight)
      ];
      out = λ seven.
          absurd
          (never 7 (λ z. omega (arith, z)) (λ z. omega (arith, z)) (λ z. omega (arith, z))
          (λ z. omega (arith, z)) (λ z. omega (arith, z)) (λ z. omega (arith, z)) seven);
      next = λ unwritten. kept unwritten
          (due-view a _ _ task due.status due.out.items (kept_text due) is.is);
    }
  where
    never : (n : ℕ) → n ≢ 0 → n ≢ 3 → n ≢ 2 → n ≢ 5 → n ≢ 11 → n ≢ 6 → status ≢ n
    never n zero three two five eleven six same = elim (written-status written) [
      | inl kept ↦
          due-not a _ _ task due.status due.out.items (kept_text due) is.is n zero three two five eleven
          (sym kept ∙ same)
      | inr failed ↦ six (sym same ∙ failed)
    ]

    done : IsDone due.status → IsDone status ⊎ (status ≡ 6)
    done finished = elim (written-status written) [
      | inl kept ↦ inl (subst IsDone (sym kept) finished)
      | inr failed ↦ inr failed
    ]

    kept : ¬ (IsSome (new_file task) × (IsDone status ⊎ (status ≡ 6)))
        → ((due.status ≡ 2) ⊎ ((due.status ≡ 5) ⊎ (due.status ≡ 11))) × (kept_text due ≡ None)
        ⊎ (IsDone due.status × ((kept_text due ≡ None) ⊎ IsSome (new_file task))) → after.next ≡ before.next
    kept unwritten (inl missed) = none missed.1
    kept unwritten (inr (finished, inl nothing)) = none nothing
    kept unwritten (inr (finished, inr has)) = absurd (unwritten (has, done finished))

-- what stays as it was where memory was wanting
pub alone-wanting : {S K : Type 0} (task : CarryTask) (before after : Edges S K)
    → (¬ (IsSome (snapshot_file task)) → after.snapshot ≡ before.snapshot)
    → (¬ (IsSome (script_file task)) → after.script ≡ before.script) → after.out ≡ before.out → after.next ≡ before.next
    → AloneFor task 7 before after
alone-wanting task before after snapshot script out next = record {
  snapshot = snapshot;
  script = script;
  refused = λ unaccepted. elim unaccepted [
    | inl one ↦ absurd (omega (arith, one))
    | inr eight ↦ absurd (omega (arith, eight))
  ];
  out = λ seven. out;
  next = λ unwritten. next;
}

-- what stays as it was where the contract is not accepted
pub alone-refused : {S K : Type 0} (task : CarryTask) (status : ℕ) (before after : Edges S K)
    → after.snapshot ≡ before.snapshot → after.script ≡ before.script → (status ≡ 7 → after.out ≡ before.out)
    → after.next ≡ before.next → AloneFor task status before after
alone-refused task status before after snapshot script out next = record {
  snapshot = λ unread. snapshot;
  script = λ unread. script;
  refused = λ unaccepted. (snapshot, script);
  out = out;
  next = λ unwritten. next;
}

-- what stays as it was where a line alone was written
pub alone-line : {S K : Type 0} (task : CarryTask) (n status : ℕ) (before after : Edges S K)
    → (status ≡ n) ⊎ (status ≡ 6) → n ≢ 7 → after.snapshot ≡ before.snapshot → after.script ≡ before.script
    → after.next ≡ before.next → AloneFor task status before after
alone-line task n status before after is other snapshot script next = record {
  snapshot = λ unread. snapshot;
  script = λ unread. script;
  refused = λ unaccepted. (snapshot, script);
  out = λ seven. elim is [
    | inl same ↦ absurd (other (sym same ∙ seven))
    | inr six ↦ absurd (omega (arith, six, seven))
  ];
  next = λ unwritten. next;
}

-- ---- contracts that are not accepted

-- A contract that is too long is refused for that: no text that reads is so long.
pub too_long-refused : (text : List ℕ) → text_limit < length text → IsRefused text why.TooLong
too_long-refused text long = record {
  cause = long;
  never = λ lists x typed.
      absurd (let short = typed.read.reads.plain.length_limit in omega (arith, long, short));
}

-- what is due of a check
task-check : {i : Inputs} {task : Task} {o : Outcome} → IsTaskDue i task o → (file : List ℕ) → task ≡ check file
    → ((a : Acceptance) → ¬ (IsAcceptedAs i.contract.text a))
    → IsUnaccepted task i.contract o.status o.out × (o.kept ≡ None)
task-check (outcome.unaccepted task status out is) file same never = (is, refl)
task-check (outcome.checked word a is) file same never = absurd (never a is)
task-check (outcome.bounded word b is) file same never = absurd cc
task-check (outcome.ran word script by steps journal a status out kept made is due) file same never = absurd cc
task-check (outcome.replayed word script journal a status out read is due) file same never = absurd cc
task-check (outcome.benched seed bidders a status out made is due) file same never = absurd cc
task-check (outcome.pooled word script threads a status out made taken is due) file same never = absurd cc
task-check (outcome.talked word script name proc text a status out made is due) file same never = absurd cc
task-check (outcome.saved word script snapshot a status out kept made is due) file same never = absurd cc
task-check (outcome.resumed word snapshot script a status out made is due) file same never = absurd cc

due-check : {words : List (List ℕ)} {i : Inputs} {o : Outcome} → IsDue words i o → (file : List ℕ)
    → Asks words (check file) → ((a : Acceptance) → ¬ (IsAcceptedAs i.contract.text a))
    → IsUnaccepted (check file) i.contract o.status o.out × (o.kept ≡ None)
due-check (outcome.usage none) file asks never = absurd (none (check file) asks)
due-check {words} {i} (outcome.asked task o asked due) file asks never =
    let same : task ≡ check file = one_task words task (check file) asked asks in
    let is = task-check due file same never in
    (subst (λ (t : Task). IsUnaccepted t i.contract o.status o.out) same is.0, is.1)

-- a source that never fails has no fault
sure : (counts : FaultCounts) → counts.before ≡ 0 → counts.after ≡ 0 → HaveRisen counts → ⊥
sure counts before after (inl more) = omega (arith, before, after, more)
sure counts before after (inr last) = omega (arith, after, last)

-- what is due of a text that is read by a source that never fails is due of it by any source
refusal-any : (file text : List ℕ) (x : Input) (status : ℕ) (out : List ℕ) → x.text ≡ text
    → (HaveRisen x.counts → ⊥) → IsUnaccepted (check file) x status out → (counts : FaultCounts)
    → IsUnaccepted (check file) (record { text = text; counts = counts }) status out
refusal-any file text x status out same never (outcome.fault reads rose) counts = absurd (never rose)
refusal-any file text x status out same never (outcome.refused cause is) counts =
    outcome.refused cause (subst (λ (t : List ℕ). IsRefused t cause) same is)
refusal-any file text x status out same never (outcome.unsolved stop is) counts =
    outcome.unsolved stop (subst (λ (t : List ℕ). HasStopped t stop) same is)

-- the words that ask for a check
pub check-asks : (file : List ℕ) → IsFileWord file → Asks (codes "check" ∷ file ∷ []) (check file)
check-asks file is = (refl, record { are = refl; is_file = is })

-- such a call waits for nobody, and keeps nothing
pub check-alone : (words : List (List ℕ)) (file : List ℕ) → words ≡ codes "check" ∷ file ∷ [] → IsFileWord file
    → ¬ (MayWait words)
check-alone words file are is (task, asks, waits) =
    let own : Asks words (check file) =
    subst (λ (w : List (List ℕ)). Asks w (check file)) (sym are) (check-asks file is) in
    let here : Waits (check file) = subst Waits (one_task words task (check file) asks own) waits in
    elim here [ inl crew ↦ crew | inr pooled ↦ pooled ]

pub check-keeps : (words : List (List ℕ)) (file : List ℕ) (status : ℕ) → words ≡ codes "check" ∷ file ∷ []
    → IsFileWord file → ¬ (MayKeep words status)
check-keeps words file status are is (task, asks, keeps, done) =
    let own : Asks words (check file) =
    subst (λ (w : List (List ℕ)). Asks w (check file)) (sym are) (check-asks file is) in
    let here : Keeps (check file) = subst Keeps (one_task words task (check file) asks own) keeps in
    true≢false (sym here)

-- so the call of `nomos` that checks a contract ends
pub check-ends : (c : Call) (t : Texts) (file text : List ℕ) → EndsOn c t → c.words ≡ codes "check" ∷ file ∷ []
    → IsFileWord file → c.contract ≡ source_state (Some text) 0 0 → ((a : Acceptance) → ¬ (IsAcceptedAs text a))
    → Ends (IsRefusalDue file text) c.out c.journal_out c.status
check-ends c t file text ends are is source never = by ends.ends
  where
    told : t.contract ≡ text
    told =
        let has : HasText (Some text) t.contract =
        subst (λ (s : SourceState). HasText s.left t.contract) source ends.told.contract in
        has

    by : EndsWritten c (inputs_of c t) ⊎ EndsWithoutMemory c (inputs_of c t)
        → Ends (IsRefusalDue file text) c.out c.journal_out c.status
    by (inl w) =
        let asks : Asks c.words (check file) =
        subst (λ (words : List (List ℕ)). Asks words (check file)) (sym are) (check-asks file is) in
        let due = due-check w.due file asks
        (λ a accepted. never a (subst (λ (x : List ℕ). IsAcceptedAs x a) told accepted)) in
        let unrisen : HaveRisen c.contract.counts → ⊥ =
        sure c.contract.counts (ap (λ (s : SourceState). s.counts.before) source)
        (ap (λ (s : SourceState). s.counts.after) source) in
        errands.wrote w.status w.out None
        (record {
          is = refusal-any file text (inputs_of c t).contract w.status w.out told unrisen due.0;
          none = refl;
        })
        (subst (λ (kept : Option (List ℕ)). HasWrittenOut w.status w.out kept c.out c.journal_out c.status) due.1
        w.written)
    by (inr m) = errands.wanted m.status m.out m.journal_out

-- ---- contracts, and words

module _ (words : List (List ℕ)) (task : CarryTask) (contract snapshot script : SourceState)
    (asks : AsksToCarry words task) where
  -- the contract has this text, the other sources some
  texts-with : List ℕ → CarryTexts
  texts-with text = record {
    contract = text;
    snapshot = (some_text snapshot.left).0;
    script = (some_text script.left).0;
  }

  -- what is due of a contract that is not accepted
  pub refusal-asked : (text : List ℕ) → HasText contract.left text → (status : ℕ) (out : List ℕ)
      → IsUnaccepted (check (contract_word task)) (record { text = text; counts = contract.counts }) status out
      → IsDueOn words contract snapshot script status out None
  unfolding texts-with
  refusal-asked text told status out is = record {
    texts = texts-with text;
    contract_told = told;
    snapshot_told = (some_text snapshot.left).1;
    script_told = (some_text script.left).1;
    is = calling.unaccepted task status out asks is;
  }

  judged-asked : (text : List ℕ) → HasText contract.left text → (status : ℕ) (out : List ℕ) (next : Option (List ℕ))
      → IsJudgedDue task text snapshot script status out next
      → IsDueOn words contract snapshot script status out next
  judged-asked text told status out next (errands.refused r) =
      subst (λ (n : Option (List ℕ)). IsDueOn words contract snapshot script status out n) (sym r.none)
      (refusal-asked text told status out (r.is contract.counts))
  judged-asked text told status out next (errands.behind a is accepted b) = record {
    texts = record { contract = text; snapshot = b.snapshot_text; script = b.script_text };
    contract_told = told;
    snapshot_told = b.snapshot_told;
    script_told = b.script_told;
    is = calling.accepted task a status out next asks is accepted b.is;
  }

  pub judged-ends : (text : List ℕ) (out new : SinkState) (ended : ℕ) → HasText contract.left text
      → Ends (IsJudgedDue task text snapshot script) out new ended
      → Ends (IsDueOn words contract snapshot script) out new ended
  judged-ends text out new ended told ends = ends-map (λ s o n due. judged-asked text told s o n due) ends

  -- a contract that is too long
  pub long-asked : (text : List ℕ) → HasText contract.left text → text_limit < length text
      → IsDueOn words contract snapshot script 1 (refusal why.TooLong) None
  long-asked text told long =
      refusal-asked text told 1 (refusal why.TooLong) (outcome.refused why.TooLong (too_long-refused text long))

  -- a contract that cannot be read
  pub fault-asked : HaveRisen contract.counts
      → IsDueOn words contract snapshot script 5 (read_fault_line (codes "contract")) None
  fault-asked rose =
      let t = some_text contract.left in
      refusal-asked t.0 t.1 5 (read_fault_line (codes "contract")) (outcome.fault tt rose)

-- words that ask for nothing
pub usage-due : (words : List (List ℕ)) (contract snapshot script : SourceState) → AskForNothing words
    → IsDueOn words contract snapshot script 4 carry_usage None
usage-due words contract snapshot script none =
    let t = some_text contract.left in
    let u = some_text snapshot.left in
    let v = some_text script.left in
    record {
      texts = record { contract = t.0; snapshot = u.0; script = v.0 };
      contract_told = t.1;
      snapshot_told = u.1;
      script_told = v.1;
      is = calling.usage none;
    }

-- ---- the whole call

call-ends : (c : CarryCall) → Ends (IsDueOn c.words c.contract c.snapshot c.script) c.out c.new c.status
    → (t : CarryTexts) × CarryEndsOn c t
call-ends c (errands.wrote status bytes next due written) = (
  due.texts,
  record {
    told = record { contract = due.contract_told; snapshot = due.snapshot_told; script = due.script_told };
    ends = inl (record { status = status; out = bytes; next = next; due = due.is; written = written });
  },
)
call-ends c (errands.wanted seven out new) =
    let t = some_text c.contract.left in
    let u = some_text c.snapshot.left in
    let v = some_text c.script.left in (
      record { contract = t.0; snapshot = u.0; script = v.0 },
      record {
        told = record { contract = t.1; snapshot = u.1; script = v.1 };
        ends = inr (record { status = seven; out = out; new = new });
      },
    )

pub call-claims : (c : CarryCall) → Ends (IsDueOn c.words c.contract c.snapshot c.script) c.out c.new c.status
    → CarryClaims c
call-claims c ends = let (t, e) = call-ends c ends in ended-claims c t e

-- what a call leaves as it was
pub alone-asked : {S K : Type 0} (words : List (List ℕ)) (task : CarryTask) (status : ℕ) (before after : Edges S K)
    → AsksToCarry words task → AloneFor task status before after → LeavesAlone words status before after
alone-asked words task status before after asks alone = record {
  contract = λ none. absurd (none task asks);
  snapshot = λ unread. elim unread [
    | inl unwanted ↦ alone.snapshot (λ has. unwanted (task, asks, has))
    | inr refused ↦ (alone.refused refused).0
  ];
  script = λ unread. elim unread [
    | inl unwanted ↦ alone.script (λ has. unwanted (task, asks, has))
    | inr refused ↦ (alone.refused refused).1
  ];
  out = alone.out;
  next = λ unwritten. alone.next (λ (has, ended). unwritten ((task, asks, has), ended));
}

-- the same where the words ask for nothing
pub alone-unasked : {S K : Type 0} (words : List (List ℕ)) (status : ℕ) (before after : Edges S K)
    → (status ≡ 4) ⊎ (status ≡ 6) → after.contract ≡ before.contract → after.snapshot ≡ before.snapshot
    → after.script ≡ before.script → after.next ≡ before.next → LeavesAlone words status before after
alone-unasked words status before after is contract snapshot script next = record {
  contract = λ none. contract;
  snapshot = λ unread. snapshot;
  script = λ unread. script;
  out = λ seven. elim is [
    | inl four ↦ absurd (omega (arith, four, seven))
    | inr six ↦ absurd (omega (arith, six, seven))
  ];
  next = λ unwritten. next;
}
