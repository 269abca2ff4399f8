-- What is read off the ways in which a call ends.
use Rattle.std.proofs.Common.{◌≡◌, ◌≢◌, ◌∙◌, ◌⊎◌, inl, inr, ℕ, List, Option, Some, None, Ok, refl, sym, ap, subst, arith}
use Rattle.std.specs.Prelude.{IsSome}
use Rattle.nomos_accept.specs.AcceptedText.{IsAcceptedAs}
use Rattle.nomos_base.specs.Sink.{with_end}
use Rattle.nomos_answers.specs.DueLines as lines
use Rattle.nomos_answers.specs.DueLines.{IsNoScript}
use Rattle.nomos_answers.specs.Outside.{Input, SinkState}
use Rattle.nomos_answers.specs.Resumes as resumes
use Rattle.nomos_answers.specs.Resumes.{IsNoLedger}
use Rattle.nomos_answers.specs.Written as writing
use Rattle.nomos_answers.specs.Written.{HasWrittenOut, with_text}
use Rattle.nomos_legal.specs.Ledger.{LedgerState}
use Rattle.nomos_legal.specs.Passage.{Passage}
use Rattle.nomos_legal.specs.declared.journal.Journal.{Journal}
use Rattle.nomos_report.specs.Reported.{report_of, run_status}
use Rattle.nomos_snapshot.specs.Loading.{Loads}
use Rattle.nomos_snapshot.specs.Saving.{Saves}
use Rattle.nomos_snapshot.specs.Text.{snapshot_text}
use Rattle.nomos_top.specs.Outcome as outcome
use Rattle.nomos_top.specs.Outcome.{IsUnaccepted}
use Rattle.nomos_top.specs.Seen.{IsDone}
use Rattle.nomos_top.proofs.StatusLaws.{done-not, done-status}
use Rattle.nomos_types.specs.Acceptance.{Acceptance, IsAccepted}
use Rattle.nomos_words.specs.Words.{check}
use Rattle.nomos_carrying.specs.CarryDue as carrying
use Rattle.nomos_carrying.specs.CarryDue.{HasCarried, IsCarryDue, IsNumbersDue, TellsNumbers}
use Rattle.nomos_carrying.specs.Renumbered as renumbering
use Rattle.nomos_carrying.specs.Renumbered.{IsRenumberDue, IsRenumbered}
use Rattle.nomos_carry.specs.CarryCall as call
use Rattle.nomos_carry.specs.CarryCall.{CarryCall, CarryEndsOn, CarryEndsWithoutMemory, CarryEndsWritten, CarryInputs, CarryTexts, IsCallDue, IsDueOnAccepted, carry_inputs}
use Rattle.nomos_carry.specs.CarryClaims.{HasPrinted}
use Rattle.nomos_carry.specs.CarryWords.{AsksToCarry, CarryTask, carry, contract_word, new_file, numbers, renumber}
use Rattle.nomos_carry.proofs.OneDueLaws.{saves-text}
use Rattle.nomos_carry.proofs.TaskLaws.{one-task}

-- ---- statuses

-- the statuses of what was not done
abbrev pub IsUndone : ℕ → Type 0
IsUndone status = (status ≡ 1) ⊎ ((status ≡ 2) ⊎ ((status ≡ 4) ⊎ ((status ≡ 5) ⊎ ((status ≡ 8) ⊎ (status ≡ 11)))))

undone-not : (status n : ℕ) → IsUndone status → n ≢ 1 → n ≢ 2 → n ≢ 4 → n ≢ 5 → n ≢ 8 → n ≢ 11 → status ≢ n
undone-not status n (inl is) one two four five eight eleven same = one (sym same ∙ is)
undone-not status n (inr (inl is)) one two four five eight eleven same = two (sym same ∙ is)
undone-not status n (inr (inr (inl is))) one two four five eight eleven same = four (sym same ∙ is)
undone-not status n (inr (inr (inr (inl is)))) one two four five eight eleven same = five (sym same ∙ is)
undone-not status n (inr (inr (inr (inr (inl is))))) one two four five eight eleven same = eight (sym same ∙ is)
undone-not status n (inr (inr (inr (inr (inr is))))) one two four five eight eleven same = eleven (sym same ∙ is)

pub undone-done : (status : ℕ) → IsUndone status → IsDone status → ⊥
undone-done status undone (inl zero) =
    undone-not status 0 undone (λ z. omega (arith, z)) (λ z. omega (arith, z)) (λ z. omega (arith, z))
    (λ z. omega (arith, z)) (λ z. omega (arith, z)) (λ z. omega (arith, z)) zero
undone-done status undone (inr three) =
    undone-not status 3 undone (λ z. omega (arith, z)) (λ z. omega (arith, z)) (λ z. omega (arith, z))
    (λ z. omega (arith, z)) (λ z. omega (arith, z)) (λ z. omega (arith, z)) three

undone-seven : (status : ℕ) → IsUndone status → status ≢ 7
undone-seven status undone =
    undone-not status 7 undone (λ z. omega (arith, z)) (λ z. omega (arith, z)) (λ z. omega (arith, z))
    (λ z. omega (arith, z)) (λ z. omega (arith, z)) (λ z. omega (arith, z))

unaccepted-undone : (file : List ℕ) (x : Input) (status : ℕ) (out : List ℕ) → IsUnaccepted (check file) x status out
    → IsUndone status
unaccepted-undone file x status out (outcome.fault reads rose) = inr (inr (inr (inl refl)))
unaccepted-undone file x status out (outcome.refused why is) = inl refl
unaccepted-undone file x status out (outcome.unsolved stop is) = inr (inr (inr (inr (inl refl))))

-- the statuses behind acceptance where nothing was done
abbrev pub IsMissed : ℕ → Type 0
IsMissed status = (status ≡ 2) ⊎ ((status ≡ 5) ⊎ (status ≡ 11))

pub missed-undone : (status : ℕ) → IsMissed status → IsUndone status
missed-undone status (inl two) = inr (inl two)
missed-undone status (inr (inl five)) = inr (inr (inr (inl five)))
missed-undone status (inr (inr eleven)) = inr (inr (inr (inr (inr eleven))))

missed-not : (status n : ℕ) → IsMissed status → n ≢ 2 → n ≢ 5 → n ≢ 11 → status ≢ n
missed-not status n (inl is) two five eleven same = two (sym same ∙ is)
missed-not status n (inr (inl is)) two five eleven same = five (sym same ∙ is)
missed-not status n (inr (inr is)) two five eleven same = eleven (sym same ∙ is)

no_ledger-missed : (a : Acceptance) (x : Input) (status : ℕ) (out : List ℕ) → IsNoLedger a x status out
    → IsMissed status
no_ledger-missed a x status out (resumes.fault rose) = inr (inl refl)
no_ledger-missed a x status out (resumes.refused why refused) = inr (inr refl)

no_script-missed : (x : Input) (status : ℕ) (out : List ℕ) → IsNoScript x status out → IsMissed status
no_script-missed x status out (lines.fault rose) = inr (inl refl)
no_script-missed x status out (lines.too_long over) = inl refl
no_script-missed x status out (lines.syntax k bad) = inl refl

-- ---- what is due of each task

-- what is due where a ledger was carried on
pub record CarriedView (a : Acceptance) (snapshot : Option Input) (script : Input) (status : ℕ) (out : List ℕ)
    (next : Option (List ℕ)) : Type 0 where
  pub journal : Journal
  pub passages : List Passage
  pub last : LedgerState
  pub has : HasCarried a snapshot script journal passages last
  pub saves : Saves a last (Ok (snapshot_text a last))
  pub loads : Loads a (snapshot_text a last) (Ok last)
  pub status_is : status ≡ run_status journal.entries
  pub out_is : out ≡ report_of a passages
  pub next_is : next ≡ Some (snapshot_text a last)

pub carry-view : {a : Acceptance} {snapshot : Option Input} {script : Input} {status : ℕ} {out : List ℕ}
    {next : Option (List ℕ)} → IsCarryDue a snapshot script status out next
    → (IsMissed status × (next ≡ None)) ⊎ CarriedView a snapshot script status out next
carry-view {a} (carrying.no_ledger s status out is none) = inl (no_ledger-missed a s status out none, refl)
carry-view {script = script} (carrying.no_script first status out begins none) =
    inl (no_script-missed script status out none, refl)
carry-view (carrying.unsaved journal ps last why has bad) = inl (inr (inr refl), refl)
carry-view {a} (carrying.carried journal ps last text has saves loads) =
    let is : text ≡ snapshot_text a last = saves-text text saves in
    inr (record {
      journal = journal;
      passages = ps;
      last = last;
      has = has;
      saves = subst (λ (t : List ℕ). Saves a last (Ok t)) is saves;
      loads = subst (λ (t : List ℕ). Loads a t (Ok last)) is loads;
      status_is = refl;
      out_is = refl;
      next_is = ap (λ (t : List ℕ). Some t) is;
    })

-- what is due where a ledger was renumbered
pub record RenumberedView (a : Acceptance) (snapshot : Input) (status : ℕ) (next : Option (List ℕ)) : Type 0 where
  pub before : LedgerState
  pub after : LedgerState
  pub loads_before : Loads a snapshot.text (Ok before)
  pub is : IsRenumbered before after
  pub loads : Loads a (snapshot_text a after) (Ok after)
  pub status_is : status ≡ 0
  pub next_is : next ≡ Some (snapshot_text a after)

pub renumber-view : {a : Acceptance} {snapshot : Input} {status : ℕ} {out : List ℕ} {next : Option (List ℕ)}
    → IsRenumberDue a snapshot status out next
    → (IsMissed status × (next ≡ None)) ⊎ RenumberedView a snapshot status next
renumber-view {a} {snapshot} (renumbering.no_ledger status out none) =
    inl (no_ledger-missed a snapshot status out none, refl)
renumber-view (renumbering.not_admitted l m why loads is bad) = inl (inr (inr refl), refl)
renumber-view (renumbering.unsaved l m why loads is stands bad) = inl (inr (inr refl), refl)
renumber-view (renumbering.renumbered l m out loads is keeps tells) =
    inr (record {
      before = l;
      after = m;
      loads_before = loads;
      is = is;
      loads = keeps;
      status_is = refl;
      next_is = refl;
    })

-- what is due where next numbers were told
pub record NumbersView (a : Acceptance) (snapshot : Input) (status : ℕ) (out : List ℕ) : Type 0 where
  pub ledger : LedgerState
  pub loads : Loads a snapshot.text (Ok ledger)
  pub tells : TellsNumbers ledger.state.next_object ledger.state.next_name out
  pub status_is : status ≡ 0

pub numbers-view : {a : Acceptance} {snapshot : Input} {status : ℕ} {out : List ℕ} → IsNumbersDue a snapshot status out
    → IsMissed status ⊎ NumbersView a snapshot status out
numbers-view {a} {snapshot} (carrying.numbers_unloaded status out none) =
    inl (no_ledger-missed a snapshot status out none)
numbers-view (carrying.numbers_told l out loads tells) =
    inr (record { ledger = l; loads = loads; tells = tells; status_is = refl })

-- nothing was done on an accepted contract, or it was done, with a next snapshot where the task has one
pub due-view : (a : Acceptance) (snapshot script : Input) (task : CarryTask) (status : ℕ) (out : List ℕ)
    (next : Option (List ℕ)) → IsDueOnAccepted a snapshot script task status out next
    → (IsMissed status × (next ≡ None)) ⊎ (IsDone status × ((next ≡ None) ⊎ IsSome (new_file task)))
due-view a snapshot script (carry file from words new) status out next due = elim (carry-view due) [
  | inl missed ↦ inl missed
  | inr v ↦ inr (subst IsDone (sym v.status_is) (done-status v.journal.entries), inr refl)
]
due-view a snapshot script (renumber file from new) status out next due = elim (renumber-view due) [
  | inl missed ↦ inl missed
  | inr v ↦ inr (inl v.status_is, inr refl)
]
due-view a snapshot script (numbers file from) status out next due = elim (numbers-view due.0) [
  | inl missed ↦ inl (missed, due.1)
  | inr v ↦ inr (inl v.status_is, inl due.1)
]

-- a status behind acceptance is no other one
pub due-not : (a : Acceptance) (snapshot script : Input) (task : CarryTask) (status : ℕ) (out : List ℕ)
    (next : Option (List ℕ)) → IsDueOnAccepted a snapshot script task status out next → (n : ℕ) → n ≢ 0 → n ≢ 3 → n ≢ 2
    → n ≢ 5 → n ≢ 11 → status ≢ n
due-not a snapshot script task status out next due n zero three two five eleven =
    elim (due-view a snapshot script task status out next due) [
      | inl missed ↦ missed-not status n missed.0 two five eleven
      | inr done ↦ done-not status n done.0 zero three
    ]

-- ---- what is due of a call

-- nothing was done, or the contract is accepted
pub data WordsView (words : List (List ℕ)) (i : CarryInputs) (status : ℕ) (out : List ℕ) (next : Option (List ℕ))
    : Type 0 where
  undone : IsUndone status → next ≡ None → WordsView words i status out next
  done : (task : CarryTask) (a : Acceptance) → AsksToCarry words task → IsAcceptedAs i.contract.text a → IsAccepted a
      → IsDueOnAccepted a i.snapshot i.script task status out next → WordsView words i status out next

pub words-view : {words : List (List ℕ)} {i : CarryInputs} {status : ℕ} {out : List ℕ} {next : Option (List ℕ)}
    → IsCallDue words i status out next → WordsView words i status out next
words-view (call.usage none) = undone (inr (inr (inl refl))) refl
words-view {i = i} (call.unaccepted task status out asks is) =
    undone (unaccepted-undone (contract_word task) i.contract status out is) refl
words-view (call.accepted task a status out next asks is accepted due) = done task a asks is accepted due

-- what is due for a task that was done
pub record DoneView (i : CarryInputs) (task : CarryTask) (status : ℕ) (out : List ℕ) (next : Option (List ℕ)) : Type 0
  where
    pub a : Acceptance
    pub is : IsAcceptedAs i.contract.text a
    pub accepted : IsAccepted a
    pub due : IsDueOnAccepted a i.snapshot i.script task status out next

pub done-view : {words : List (List ℕ)} {i : CarryInputs} {status : ℕ} {out : List ℕ} {next : Option (List ℕ)}
    → IsCallDue words i status out next → IsDone status → (task : CarryTask) → AsksToCarry words task
    → DoneView i task status out next
done-view {words} {i} {status} {out} {next} due finished task asks = elim (words-view due) [
  | undone none kept ↦ absurd (undone-done status none finished)
  | done own a asked is accepted own_due ↦
      let same : own ≡ task = one-task words own task asked asks in
      record {
        a = a;
        is = is;
        accepted = accepted;
        due = subst (λ (t : CarryTask). IsDueOnAccepted a i.snapshot i.script t status out next) same own_due;
      }
]

-- ---- how a call ends

-- all was written, or a sink failed
pub data WrittenView (status : ℕ) (bytes : List ℕ) (next : Option (List ℕ)) (out new : SinkState) (ended : ℕ) : Type 0
  where
    all : ended ≡ status → out.after ≡ with_end out.before bytes → new.after ≡ with_text new.before next
        → WrittenView status bytes next out new ended
    failed : ended ≡ 6 → WrittenView status bytes next out new ended

pub written-view : {status : ℕ} {bytes : List ℕ} {next : Option (List ℕ)} {out new : SinkState} {ended : ℕ}
    → HasWrittenOut status bytes next out new ended → WrittenView status bytes next out new ended
written-view (writing.whole wrote keeps) = all refl wrote keeps
written-view (writing.out_fault rose front none) = failed refl
written-view (writing.journal_fault text is wrote rose front) = failed refl

-- the status stands, or a sink failed
pub written-status : {status : ℕ} {bytes : List ℕ} {next : Option (List ℕ)} {out new : SinkState} {ended : ℕ}
    → HasWrittenOut status bytes next out new ended → (ended ≡ status) ⊎ (ended ≡ 6)
written-status (writing.whole wrote keeps) = inl refl
written-status (writing.out_fault rose front none) = inr refl
written-status (writing.journal_fault text is wrote rose front) = inr refl

-- what was due was written; or a sink failed, or memory was wanting
pub data EndView (c : CarryCall) (i : CarryInputs) : Type 0 where
  whole : (out : List ℕ) (next : Option (List ℕ)) → IsCallDue c.words i c.status out next → HasPrinted c out
      → c.new.after ≡ with_text c.new.before next → EndView c i
  six : c.status ≡ 6 → EndView c i
  seven : c.status ≡ 7 → c.new.after ≡ c.new.before → EndView c i

pub end-view : (c : CarryCall) (t : CarryTexts) → CarryEndsOn c t → EndView c (carry_inputs c t)
end-view c t ends = by ends.ends
  where
    by : CarryEndsWritten c (carry_inputs c t) ⊎ CarryEndsWithoutMemory c → EndView c (carry_inputs c t)
    by (inl w) = elim (written-view w.written) [
      | all is wrote keeps ↦
          whole w.out w.next
          (subst (λ (s : ℕ). IsCallDue c.words (carry_inputs c t) s w.out w.next) (sym is) w.due) wrote keeps
      | failed is ↦ six is
    ]
    by (inr m) = seven m.status m.new
