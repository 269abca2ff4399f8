-- What is accepted is typed, and what is typed is accepted.
use Rattle.std.proofs.Common.{◌≡◌, ◌≢◌, ◌∙◌, ◌⊎◌, inl, inr, ℕ, List, Option, Some, None, Ok, Err, refl, sym, subst, arith}
use Rattle.std.specs.Prelude.{codes}
use Rattle.nomos_accept.specs.AcceptedText.{PivotRunEndsWith}
use Rattle.nomos_accept.specs.TypedText.{IsTypedAs}
use Rattle.nomos_answers.proofs.ReplayLaws.{legal-not_refused}
use Rattle.nomos_answers.specs.DueLines.{read_fault_line}
use Rattle.nomos_answers.specs.Outside.{HaveRisen}
use Rattle.nomos_answers.specs.RunsDue.{HasRun, usual_orders}
use Rattle.nomos_ir.specs.declared.lists.ProgramLists.{ProgramLists}
use Rattle.nomos_least.specs.LeastBounds.{LeastRunEndsWith}
use Rattle.nomos_journal.specs.JournalText.{IsTextOf}
use Rattle.nomos_legal.specs.Ledger.{LedgerState}
use Rattle.nomos_legal.specs.Passage.{Passage}
use Rattle.nomos_legal.specs.declared.journal.Journal.{Journal}
use Rattle.nomos_pool.specs.Pooled.{PoolsTo}
use Rattle.nomos_replay.specs.Answers.{Answers}
use Rattle.nomos_replay.specs.declared.error.ReplayError.{ReplayError}
use Rattle.nomos_report.specs.Reported.{run_status}
use Rattle.nomos_script.proofs.ReadingLaws.{reads_once}
use Rattle.nomos_script.specs.ScriptReading.{ReadsAs}
use Rattle.nomos_script.specs.TalkReading.{ReadsAsTalk}
use Rattle.nomos_script.specs.declared.item.ScriptItem.{ScriptItem}
use Rattle.nomos_script.specs.declared.talk_line.TalkLine.{TalkLine}
use Rattle.nomos_simplex.specs.declared.solved.Solved.TheVariants as solved
use Rattle.nomos_simplex.specs.declared.solved.SolvedLeast.TheVariants as least_solved
use Rattle.nomos_simplex.specs.declared.solved.Stop.{Stop}
use Rattle.nomos_snapshot.proofs.LoadingLaws.{loads-one}
use Rattle.nomos_snapshot.specs.Loading.{Loads}
use Rattle.nomos_snapshot.specs.Saving.{Saves}
use Rattle.nomos_snapshot.specs.declared.error.SaveError.{SaveError}
use Rattle.nomos_top.specs.Accepted.{AcceptedIsTyped, GivesOne, IsBehindStatus}
use Rattle.nomos_top.specs.Call.{EndsOn, inputs_of, outcome_with}
use Rattle.nomos_top.specs.Seen.{Call, Texts, Fails, Gives, HasWritten, IsDone}
use Rattle.nomos_top.specs.Complete.{CanBeSaved, HasReport, IsAnswered, TypedIsAccepted}
use Rattle.nomos_top.specs.Outcome.{Inputs, Outcome}
use Rattle.nomos_top.specs.TaskRuns.{HasStoppedFor, IsGivenFor}
use Rattle.nomos_top.specs.Tasks.{IsAlone, IsLeast, KeepsSnapshot, ReadsJournal, ReadsScript, ReadsSnapshot, ReadsTalk, contract_of}
use Rattle.nomos_top.proofs.CauseLemmas.{given-no_cause, given-no_stop, given-one, stops, least-stops}
use Rattle.nomos_top.proofs.EndLaws.{IsOrFault, bad-unread, further-not_eight, further-not_one, missed-status, or-fails, whole-at, whole-done, whole-of, words-sound}
use Rattle.nomos_top.proofs.OneDueLaws.{saves-one, talk-not_missing, usual-one}
use Rattle.nomos_top.proofs.StatusLaws.{done-not, missed-undone}
use Rattle.nomos_top.proofs.Views.{Against, Carried, Further, DueView, Missed, WordsView, Whole, PartView, EndView, end-view}
use Rattle.nomos_top.proofs.Views as view
use Rattle.nomos_types.specs.Acceptance.{Acceptance, IsAccepted}
use Rattle.nomos_types.specs.Amount.{Annotations}
use Rattle.nomos_words.proofs.WordLaws.{one_task}
use Rattle.nomos_words.specs.Commands.{row}
use Rattle.nomos_words.specs.Words.{Task, check, run, replay, bench, least, pool, talk, save, resume, Asks}

-- ---- what is given

-- what is known where memory was wanting is accepted
part-sound : (c : Call) (t : Texts) → PartView c.words (inputs_of c t) c.accepted c.journal c.taken → (a : Acceptance)
    → Gives c a → (task : Task) × Asks c.words task × IsGivenFor task (contract_of task t.contract) a
part-sound c t (view.nothing none entries) a gives = absurd (let both : None ≡ Some a = sym none ∙ gives in cc)
part-sound c t (view.some task b asks further given is some) a gives =
    let same : Some b ≡ Some a = sym given ∙ gives in
    let one : b ≡ a = cc in
    (task, asks, subst (λ (x : Acceptance). IsGivenFor task (contract_of task t.contract) x) one is)

pub end-sound : (c : Call) (t : Texts) → EndView c t → (a : Acceptance) → Gives c a
    → (task : Task) × Asks c.words task × IsGivenFor task (contract_of task t.contract) a
end-sound c t (view.all w) a gives = words-sound w.view a gives
end-sound c t (view.failed f) a gives = words-sound f.view a gives
end-sound c t (view.wanting m) a gives = part-sound c t m.view a gives

-- a contract that is not accepted has one of these statuses
against-status : {i : Inputs} {task : Task} {o : Outcome} → Against i task o
    → (o.status ≡ 5) ⊎ ((o.status ≡ 1) ⊎ (o.status ≡ 8))
against-status (view.fault reads rose five out) = inl five
against-status (view.refused why is one out) = inr (inl one)
against-status (view.unsolved stop is eight out) = inr (inr eight)

-- behind acceptance no other status is due
behind-is : (status n : ℕ) → IsBehindStatus status → n ≢ 0 → n ≢ 2 → n ≢ 3 → n ≢ 9 → n ≢ 10 → n ≢ 11 → status ≢ n
behind-is status n (inl is) zero two three nine ten eleven same = zero (sym same ∙ is)
behind-is status n (inr (inl is)) zero two three nine ten eleven same = two (sym same ∙ is)
behind-is status n (inr (inr (inl is))) zero two three nine ten eleven same = three (sym same ∙ is)
behind-is status n (inr (inr (inr (inl is)))) zero two three nine ten eleven same = nine (sym same ∙ is)
behind-is status n (inr (inr (inr (inr (inl is))))) zero two three nine ten eleven same = ten (sym same ∙ is)
behind-is status n (inr (inr (inr (inr (inr is))))) zero two three nine ten eleven same = eleven (sym same ∙ is)

behind-not : (status : ℕ) → IsBehindStatus status → (status ≡ 5) ⊎ ((status ≡ 1) ⊎ (status ≡ 8)) → ⊥
behind-not status is (inl five) =
    behind-is status 5 is (λ z. omega (arith, z)) (λ z. omega (arith, z)) (λ z. omega (arith, z))
    (λ z. omega (arith, z)) (λ z. omega (arith, z)) (λ z. omega (arith, z)) five
behind-not status is (inr (inl one)) =
    behind-is status 1 is (λ z. omega (arith, z)) (λ z. omega (arith, z)) (λ z. omega (arith, z))
    (λ z. omega (arith, z)) (λ z. omega (arith, z)) (λ z. omega (arith, z)) one
behind-not status is (inr (inr eight)) =
    behind-is status 8 is (λ z. omega (arith, z)) (λ z. omega (arith, z)) (λ z. omega (arith, z))
    (λ z. omega (arith, z)) (λ z. omega (arith, z)) (λ z. omega (arith, z)) eight

behind-four : (status : ℕ) → IsBehindStatus status → status ≡ 4 → ⊥
behind-four status is =
    behind-is status 4 is (λ z. omega (arith, z)) (λ z. omega (arith, z)) (λ z. omega (arith, z))
    (λ z. omega (arith, z)) (λ z. omega (arith, z)) (λ z. omega (arith, z))

given-due : (c : Call) (t : Texts) (out : List ℕ) (kept : Option (List ℕ))
    → WordsView c.words (inputs_of c t) (outcome_with c c.status out kept) → IsBehindStatus c.status → GivesOne c
given-due c t out kept (view.nothing_asked none idle never four is) behind =
    absurd (behind-four c.status behind four)
given-due c t out kept (view.task_asked task asks (view.against why idle none)) behind =
    absurd (behind-not c.status behind (against-status why))
given-due c t out kept (view.task_asked task asks (view.alone a what alone gives is idle zero)) behind = (a, gives)
given-due c t out kept (view.task_asked task asks (view.behind a what further gives is)) behind = (a, gives)

behind-whole : (c : Call) (t : Texts) → EndView c t → IsBehindStatus c.status → Whole c t
behind-whole c t ends is =
    whole-of c t ends
    (behind-is c.status 6 is (λ z. omega (arith, z)) (λ z. omega (arith, z)) (λ z. omega (arith, z))
    (λ z. omega (arith, z)) (λ z. omega (arith, z)) (λ z. omega (arith, z)))
    (behind-is c.status 7 is (λ z. omega (arith, z)) (λ z. omega (arith, z)) (λ z. omega (arith, z))
    (λ z. omega (arith, z)) (λ z. omega (arith, z)) (λ z. omega (arith, z)))

-- with 5 the contract could not be read, or a program is given
fault-given : (c : Call) (t : Texts) → (w : Whole c t)
    → WordsView c.words (inputs_of c t) (outcome_with c c.status w.out w.kept) → c.status ≡ 5
    → HasWritten c (read_fault_line (codes "contract")) ⊎ GivesOne c
fault-given c t w (view.nothing_asked none idle never four is) five = absurd (omega (arith, four, five))
fault-given c t w (view.task_asked task asks (view.against (view.fault reads rose n is) idle none)) five =
    inl (subst (HasWritten c) is w.wrote)
fault-given c t w (view.task_asked task asks (view.against (view.refused why h one is) idle none)) five =
    absurd (omega (arith, one, five))
fault-given c t w (view.task_asked task asks (view.against (view.unsolved stop h eight is) idle none)) five =
    absurd (omega (arith, eight, five))
fault-given c t w (view.task_asked task asks (view.alone a what alone gives is idle zero)) five = inr (a, gives)
fault-given c t w (view.task_asked task asks (view.behind a what further gives is)) five = inr (a, gives)

-- what has a program is given it, unless its source failed
due-given : {i : Inputs} {task : Task} {o : Outcome} → DueView i task o → (a : Acceptance)
    → IsGivenFor task (contract_of task i.contract.text) a → (o.accepted ≡ Some a) ⊎ HaveRisen i.contract.counts
due-given (view.against (view.fault reads rose n is) idle none) a h = inr rose
due-given {i} {task} (view.against (view.refused why w one is) idle none) a h =
    absurd (given-no_cause task (contract_of task i.contract.text) a why h w.cause)
due-given {i} {task} (view.against (view.unsolved stop w eight is) idle none) a h =
    absurd (given-no_stop task (contract_of task i.contract.text) a stop h w)
due-given {i} {task} {o} (view.alone b what alone gives is idle zero) a h =
    inl
    (subst (λ (x : Acceptance). o.accepted ≡ Some x) (given-one task (contract_of task i.contract.text) b a is h)
    gives)
due-given {i} {task} {o} (view.behind b what further gives is) a h =
    inl
    (subst (λ (x : Acceptance). o.accepted ≡ Some x) (given-one task (contract_of task i.contract.text) b a is h)
    gives)

words-given : {words : List (List ℕ)} {i : Inputs} {o : Outcome} → WordsView words i o → (task : Task) (a : Acceptance)
    → Asks words task → IsGivenFor task (contract_of task i.contract.text) a
    → (o.accepted ≡ Some a) ⊎ HaveRisen i.contract.counts
words-given (view.nothing_asked none idle never four is) task a asks h = absurd (none task asks)
words-given {words} {i} {o} (view.task_asked own owns due) task a asks h =
    let same : own ≡ task = one_task words own task owns asks in
    due-given (subst (λ (x : Task). DueView i x o) same due) a h

end-given : (c : Call) (t : Texts) → EndView c t → (task : Task) (a : Acceptance) → Asks c.words task
    → IsGivenFor task (contract_of task t.contract) a → c.status ≢ 7 → Gives c a ⊎ HaveRisen c.contract.counts
end-given c t (view.all w) task a asks h seven = words-given w.view task a asks h
end-given c t (view.failed f) task a asks h seven = words-given f.view task a asks h
end-given c t (view.wanting m) task a asks h seven = absurd (seven m.is)

-- where the contract alone is asked about a program is given with 0 and 6
due-alone : {i : Inputs} {task : Task} {o : Outcome} → DueView i task o → IsAlone task → (a : Acceptance)
    → o.accepted ≡ Some a → o.status ≡ 0
due-alone (view.against why idle none) alone a gives = absurd (let both : None ≡ Some a = sym none ∙ gives in cc)
due-alone (view.alone b what is_alone given is idle zero) alone a gives = zero
due-alone (view.behind b what further given is) alone a gives = absurd (further alone)

words-alone : {words : List (List ℕ)} {i : Inputs} {o : Outcome} → WordsView words i o → (task : Task) → Asks words task
    → IsAlone task → (a : Acceptance) → o.accepted ≡ Some a → o.status ≡ 0
words-alone (view.nothing_asked none idle never four is) task asks alone a gives = absurd (none task asks)
words-alone {words} {i} {o} (view.task_asked own owns due) task asks alone a gives =
    let same : own ≡ task = one_task words own task owns asks in
    due-alone (subst (λ (x : Task). DueView i x o) same due) alone a gives

end-alone : (c : Call) (t : Texts) → EndView c t → (task : Task) → Asks c.words task → IsAlone task → (a : Acceptance)
    → Gives c a → (c.status ≡ 0) ⊎ (c.status ≡ 6)
end-alone c t (view.all w) task asks alone a gives = inl (words-alone w.view task asks alone a gives)
end-alone c t (view.failed f) task asks alone a gives = inr f.is
end-alone c t (view.wanting m) task asks alone a gives = absurd (never m.view)
  where
    never : PartView c.words (inputs_of c t) c.accepted c.journal c.taken → ⊥
    never (view.nothing none entries) = let both : None ≡ Some a = sym none ∙ gives in cc both
    never (view.some own b owns further given is some) =
        further (subst IsAlone (one_task c.words task own asks owns) alone)

pub accepted-is_typed : (c : Call) (t : Texts) → EndsOn c t → AcceptedIsTyped c t
accepted-is_typed c t e =
    let ends = end-view c t e in
    record {
      typed = λ a gives. end-sound c t ends a gives;
      given = λ behind.
          let w = behind-whole c t ends behind in given-due c t w.out w.kept w.view behind;
      given_behind = λ five.
          let w = whole-at c t 5 ends five (λ e. omega (arith, e)) (λ e. omega (arith, e)) in
          fault-given c t w w.view five;
      given_always = λ task a asks h seven. end-given c t ends task a asks h seven;
      given_alone = λ task asks alone gives. end-alone c t ends task asks alone gives.0 gives.1;
    }

-- ---- what is typed

-- a text that is typed has no cause of a refusal but its potential, and none where its run does not stop
abbrev GoesOn : Task → ProgramLists → Type 0
GoesOn task lists =
    ((stop : Stop) → ¬ (PivotRunEndsWith lists (solved.Unsolved stop)))
    × (IsLeast task → (stop : Stop) → ¬ (LeastRunEndsWith lists (least_solved.Unsolved stop)))

typed-no_stop : (task : Task) (text : List ℕ) (lists : ProgramLists) (x : Annotations) (stop : Stop)
    → IsTypedAs text lists x → GoesOn task lists → ¬ (HasStoppedFor task text stop)
typed-no_stop (check file) text lists x stop typed goes_on s = goes_on.0 stop (stops text lists stop typed.read s)
typed-no_stop (run file script by steps journal) text lists x stop typed goes_on s =
    goes_on.0 stop (stops text lists stop typed.read s)
typed-no_stop (replay file script journal) text lists x stop typed goes_on s =
    goes_on.0 stop (stops text lists stop typed.read s)
typed-no_stop (bench seed bidders) text lists x stop typed goes_on s =
    goes_on.0 stop (stops text lists stop typed.read s)
typed-no_stop (pool file script threads) text lists x stop typed goes_on s =
    goes_on.0 stop (stops text lists stop typed.read s)
typed-no_stop (talk file script name proc words) text lists x stop typed goes_on s =
    goes_on.0 stop (stops text lists stop typed.read s)
typed-no_stop (save file script snapshot) text lists x stop typed goes_on s =
    goes_on.0 stop (stops text lists stop typed.read s)
typed-no_stop (resume file snapshot script) text lists x stop typed goes_on s =
    goes_on.0 stop (stops text lists stop typed.read s)
typed-no_stop (least file) text lists x stop typed goes_on s =
    goes_on.1 tt stop (least-stops text lists stop typed.read s)

-- what is answered then: neither 1 nor 8, and of a contract alone 0
record DueAnswers (task : Task) (status : ℕ) : Type 0 where
  one : status ≢ 1
  eight : status ≢ 8
  alone : IsAlone task → IsOrFault status 0

due-answers : {i : Inputs} {task : Task} {o : Outcome} → DueView i task o → (lists : ProgramLists) (x : Annotations)
    → IsTypedAs (contract_of task i.contract.text) lists x → GoesOn task lists → DueAnswers task o.status
due-answers (view.against (view.fault reads rose n is) idle none) lists x typed goes_on =
    record { one = λ e. omega (arith, e, n); eight = λ e. omega (arith, e, n); alone = λ alone. inr n }
due-answers (view.against (view.refused why w n is) idle none) lists x typed goes_on = absurd (w.never lists x typed)
due-answers {i} {task} (view.against (view.unsolved stop w n is) idle none) lists x typed goes_on =
    absurd (typed-no_stop task (contract_of task i.contract.text) lists x stop typed goes_on w)
due-answers (view.alone a what alone gives is idle n) lists x typed goes_on =
    record { one = λ e. omega (arith, e, n); eight = λ e. omega (arith, e, n); alone = λ alone. inl n }
due-answers (view.behind a what further gives is) lists x typed goes_on =
    record { one = further-not_one what; eight = further-not_eight what; alone = λ alone. absurd (further alone) }

-- ---- where there is something to report of, it is reported

-- the script reads then
report-reads : (task : Task) (t : Texts) (a : Acceptance) → HasReport task t a → ReadsScript task
    → (items : List ScriptItem) × ReadsAs t.script items
report-reads (check file) t a has reads = absurd reads
report-reads (run file script by steps journal) t a has reads = has
report-reads (replay file script journal) t a has reads = (has.0, has.1)
report-reads (bench seed bidders) t a has reads = absurd reads
report-reads (least file) t a has reads = absurd reads
report-reads (pool file script threads) t a has reads = (has.items, has.reads)
report-reads (talk file script name proc text) t a has reads = has.0
report-reads (save file script snapshot) t a has reads = (has.items, has.reads)
report-reads (resume file snapshot script) t a has reads = has.1

-- it is refused by no line of the journal
report-unspoiled : (task : Task) (t : Texts) (a : Acceptance) → IsAccepted a → HasReport task t a → ReadsJournal task
    → (items : List ScriptItem) → ReadsAs t.script items → (why : ReplayError)
    → ¬ (Answers a items t.third (Err why))
report-unspoiled (check file) t a accepted has reads items h why refused = reads
report-unspoiled (run file script by steps journal) t a accepted has reads items h why refused = reads
report-unspoiled (replay file script journal) t a accepted has reads items h why refused =
    let same : has.0 ≡ items = reads_once t.script has.0 items has.1 h in
    legal-not_refused accepted t.script h
    (subst (λ (xs : List ScriptItem). IsTextOf has.2.0 a xs has.2.1 t.third) same has.2.2) refused
report-unspoiled (bench seed bidders) t a accepted has reads items h why refused = reads
report-unspoiled (least file) t a accepted has reads items h why refused = reads
report-unspoiled (pool file script threads) t a accepted has reads items h why refused = reads
report-unspoiled (talk file script name proc text) t a accepted has reads items h why refused = reads
report-unspoiled (save file script snapshot) t a accepted has reads items h why refused = reads
report-unspoiled (resume file snapshot script) t a accepted has reads items h why refused = reads

-- no line of it is refused for where it stands
report-pools : (task : Task) (t : Texts) (a : Acceptance) → HasReport task t a → (threads : ℕ)
    → (row task).threads ≡ Some threads → (items : List ScriptItem) → ReadsAs t.script items → (k : ℕ)
    → ¬ (PoolsTo threads items (Err k))
report-pools (check file) t a has threads is items h k bad = let never : None ≡ Some threads = is in cc never
report-pools (run file script by steps journal) t a has threads is items h k bad =
    let never : None ≡ Some threads = is in cc never
report-pools (replay file script journal) t a has threads is items h k bad =
    let never : None ≡ Some threads = is in cc never
report-pools (bench seed bidders) t a has threads is items h k bad = let never : None ≡ Some threads = is in cc never
report-pools (least file) t a has threads is items h k bad = let never : None ≡ Some threads = is in cc never
report-pools (pool file script own) t a has threads is items h k bad =
    has.others k
    (subst (λ (xs : List ScriptItem). PoolsTo own xs (Err k)) (reads_once t.script items has.items h has.reads) bad)
report-pools (talk file script name proc text) t a has threads is items h k bad =
    let never : None ≡ Some threads = is in cc never
report-pools (save file script snapshot) t a has threads is items h k bad =
    let never : None ≡ Some threads = is in cc never
report-pools (resume file snapshot script) t a has threads is items h k bad =
    let never : None ≡ Some threads = is in cc never

-- what is said in a talk reads
report-talks : (task : Task) (t : Texts) (a : Acceptance) → HasReport task t a → ReadsTalk task
    → (lines : List (ℕ × TalkLine)) × ReadsAsTalk t.third lines
report-talks (check file) t a has reads = absurd reads
report-talks (run file script by steps journal) t a has reads = absurd reads
report-talks (replay file script journal) t a has reads = absurd reads
report-talks (bench seed bidders) t a has reads = absurd reads
report-talks (least file) t a has reads = absurd reads
report-talks (pool file script threads) t a has reads = absurd reads
report-talks (talk file script name proc text) t a has reads = has.1
report-talks (save file script snapshot) t a has reads = absurd reads
report-talks (resume file snapshot script) t a has reads = absurd reads

-- the snapshot is loaded
report-loads : (task : Task) (t : Texts) (a : Acceptance) → HasReport task t a → ReadsSnapshot task
    → (first : LedgerState) × Loads a t.third (Ok first)
report-loads (check file) t a has reads = absurd reads
report-loads (run file script by steps journal) t a has reads = absurd reads
report-loads (replay file script journal) t a has reads = absurd reads
report-loads (bench seed bidders) t a has reads = absurd reads
report-loads (least file) t a has reads = absurd reads
report-loads (pool file script threads) t a has reads = absurd reads
report-loads (talk file script name proc text) t a has reads = absurd reads
report-loads (save file script snapshot) t a has reads = absurd reads
report-loads (resume file snapshot script) t a has reads = has.0

-- and the last ledger is saved
report-saves : (task : Task) (t : Texts) (a : Acceptance) → HasReport task t a → KeepsSnapshot task → CanBeSaved t a
report-saves (check file) t a has keeps = absurd keeps
report-saves (run file script by steps (Some journal)) t a has keeps = absurd keeps
report-saves (run file script by steps None) t a has keeps = absurd keeps
report-saves (replay file script journal) t a has keeps = absurd keeps
report-saves (bench seed bidders) t a has keeps = absurd keeps
report-saves (least file) t a has keeps = absurd keeps
report-saves (pool file script threads) t a has keeps = absurd keeps
report-saves (talk file script name proc text) t a has keeps = absurd keeps
report-saves (save file script snapshot) t a has keeps = has
report-saves (resume file snapshot script) t a has keeps = absurd keeps

-- a ledger that can be saved is not one that is not
saved-not_refused : (t : Texts) (a : Acceptance) → CanBeSaved t a → (items : List ScriptItem) → ReadsAs t.script items
    → (journal : Journal) (ps : List Passage) (last : LedgerState) → HasRun a items usual_orders journal ps last
    → (why : SaveError) → ¬ (Saves a last (Err why))
saved-not_refused t a can items h journal ps last ran why bad =
    let same : items ≡ can.items = reads_once t.script items can.items h can.reads in
    let here = subst (λ (xs : List ScriptItem). HasRun a xs usual_orders journal ps last) same ran in
    let ledgers : last ≡ can.last = (usual-one here can.run).2 in
    let refused : Saves a can.last (Err why) = subst (λ (l : LedgerState). Saves a l (Err why)) ledgers bad in
    let both : Ok can.text ≡ Err why = saves-one can.saves refused in
    cc both

-- so only a fault of a source is left
missed-reported : (c : Call) (t : Texts) (task : Task) (a : Acceptance) (status : ℕ) (line : List ℕ) → IsAccepted a
    → HasReport task t a → Missed (inputs_of c t) task a status line
    → (status ≡ 5) × (HaveRisen c.script.counts ⊎ HaveRisen c.journal_in.counts)
missed-reported c t task a status line accepted has (view.script_fault reads rose) = (refl, inl rose)
missed-reported c t task a status line accepted has (view.third_fault reads rose) = (refl, inr rose)
missed-reported c t task a status line accepted has (view.bad_script first l reads begins bad) =
    let script = report-reads task t a has reads in
    absurd (bad-unread (inputs_of c t).script script.0 l bad script.1)
missed-reported c t task a status line accepted has (view.no_pool threads items k reads is begins h bad) =
    absurd (report-pools task t a has threads is items h k bad)
missed-reported c t task a status line accepted has (view.bad_journal items why reads h answers) =
    absurd (report-unspoiled task t a accepted has reads items h why answers)
missed-reported c t task a status line accepted has (view.bad_talk items l reads h bad) =
    let says = report-talks task t a has reads in
    absurd (talk-not_missing (inputs_of c t).third l says.0 bad says.1)
missed-reported c t task a status line accepted has (view.unloaded why reads loads) =
    let ledger = report-loads task t a has reads in
    absurd (let both : Ok ledger.0 ≡ Err why = loads-one accepted ledger.1 loads in cc)
missed-reported c t task a status line accepted has (view.unsaved items journal ps last why keeps h ran bad) =
    absurd (saved-not_refused t a (report-saves task t a has keeps) items h journal ps last ran why bad)

pub further-reported : (c : Call) (t : Texts) (task : Task) (o : Outcome) (a : Acceptance) → IsAccepted a
    → HasReport task t a → Further (inputs_of c t) task o a
    → Carried (inputs_of c t) task o a ⊎ ((o.status ≡ 5) × (HaveRisen c.script.counts ⊎ HaveRisen c.journal_in.counts))
further-reported c t task o a accepted has (view.missed status line is idle same out) =
    let (five, rose) = missed-reported c t task a status line accepted has is in inr (same ∙ five, rose)
further-reported c t task o a accepted has (view.carried r) = inl r

-- what is due where there is a report
pub due-reported : (c : Call) (t : Texts) (task : Task) (o : Outcome) (a : Acceptance)
    → ((b : Acceptance) → o.accepted ≡ Some b → IsAccepted b)
    → IsGivenFor task (contract_of task t.contract) a → HasReport task t a → DueView (inputs_of c t) task o
    → (Carried (inputs_of c t) task o a × (o.accepted ≡ Some a))
    ⊎ ((o.status ≡ 5) × (HaveRisen c.contract.counts ⊎ (HaveRisen c.script.counts ⊎ HaveRisen c.journal_in.counts)))
due-reported c t task o a fits h has (view.against (view.fault reads rose n is) idle none) = inr (n, inl rose)
due-reported c t task o a fits h has (view.against (view.refused why w n is) idle none) =
    absurd (given-no_cause task (contract_of task t.contract) a why h w.cause)
due-reported c t task o a fits h has (view.against (view.unsolved stop w n is) idle none) =
    absurd (given-no_stop task (contract_of task t.contract) a stop h w)
due-reported c t task o a fits h has (view.alone b what alone gives is idle n) = absurd (never task alone has)
  where
    never : (task : Task) → IsAlone task → HasReport task t a → ⊥
    never (check file) alone has = has
    never (run file script by steps journal) alone has = alone
    never (replay file script journal) alone has = alone
    never (bench seed bidders) alone has = alone
    never (least file) alone has = has
    never (pool file script threads) alone has = alone
    never (talk file script name proc text) alone has = alone
    never (save file script snapshot) alone has = alone
    never (resume file snapshot script) alone has = alone
due-reported c t task o a fits h has (view.behind b what further gives is) =
    let one : b ≡ a = given-one task (contract_of task t.contract) b a is h in
    let given : o.accepted ≡ Some a = subst (λ (x : Acceptance). o.accepted ≡ Some x) one gives in
    either given
    (further-reported c t task o a (fits a given) has
    (subst (λ (x : Acceptance). Further (inputs_of c t) task o x) one what))
  where
    either : o.accepted ≡ Some a
        → Carried (inputs_of c t) task o a
        ⊎ ((o.status ≡ 5) × (HaveRisen c.script.counts ⊎ HaveRisen c.journal_in.counts))
        → (Carried (inputs_of c t) task o a × (o.accepted ≡ Some a))
        ⊎ ((o.status ≡ 5)
        × (HaveRisen c.contract.counts ⊎ (HaveRisen c.script.counts ⊎ HaveRisen c.journal_in.counts)))
    either given (inl r) = inl (r, given)
    either given (inr (five, rose)) = inr (five, inr rose)

-- the view of what is due of this task
pub task-view : {words : List (List ℕ)} {i : Inputs} {o : Outcome} → WordsView words i o → (task : Task)
    → Asks words task → DueView i task o
task-view (view.nothing_asked none idle never four is) task asks = absurd (none task asks)
task-view {words} {i} {o} (view.task_asked own owns due) task asks =
    subst (λ (x : Task). DueView i x o) (one_task words own task owns asks) due

module _ (c : Call) (t : Texts) (e : EndsOn c t) (task : Task) (asks : Asks c.words task) (lists : ProgramLists)
    (x : Annotations) (typed : IsTypedAs (contract_of task t.contract) lists x) (goes_on : GoesOn task lists) where
  -- where all was written
  whole-answers : (out : List ℕ) (kept : Option (List ℕ))
      → WordsView c.words (inputs_of c t) (outcome_with c c.status out kept) → DueAnswers task c.status
  whole-answers out kept due = due-answers (task-view due task asks) lists x typed goes_on

  answers-not : (n : ℕ) → n ≢ 6 → n ≢ 7 → (DueAnswers task c.status → c.status ≢ n) → EndView c t → c.status ≢ n
  answers-not n six seven told ends is =
      let w = whole-at c t n ends is six seven in told (whole-answers w.out w.kept w.view) is

  report-failed : (out : List ℕ) (kept : Option (List ℕ)) (a : Acceptance)
      → IsGivenFor task (contract_of task t.contract) a → HasReport task t a
      → WordsView c.words (inputs_of c t) (outcome_with c c.status out kept) → IsDone c.status ⊎ (c.status ≡ 5)
  report-failed out kept a h has due =
      either (due-reported c t task (outcome_with c c.status out kept) a e.fits h has (task-view due task asks))
    where
      either : (Carried (inputs_of c t) task (outcome_with c c.status out kept) a × (c.accepted ≡ Some a))
          ⊎ ((c.status ≡ 5)
          × (HaveRisen c.contract.counts ⊎ (HaveRisen c.script.counts ⊎ HaveRisen c.journal_in.counts)))
          → IsDone c.status ⊎ (c.status ≡ 5)
      either (inl (r, given)) = inl r.done
      either (inr (five, rose)) = inr five

  answers-report : (a : Acceptance) → IsGivenFor task (contract_of task t.contract) a → HasReport task t a
      → EndView c t → IsDone c.status ⊎ Fails c
  answers-report a h has (view.all w) = either (report-failed w.out w.kept a h has w.view)
    where
      either : IsDone c.status ⊎ (c.status ≡ 5) → IsDone c.status ⊎ Fails c
      either (inl done) = inl done
      either (inr five) = inr (inl five)
  answers-report a h has (view.failed f) = inr (inr (inl f.is))
  answers-report a h has (view.wanting m) = inr (inr (inr m.is))

  -- which of the two statuses of what is done it is, the journal tells
  done-by : (out : List ℕ) (kept : Option (List ℕ)) → IsDone c.status → ¬ (IsAlone task) → ¬ (ReadsTalk task)
      → DueView (inputs_of c t) task (outcome_with c c.status out kept) → c.status ≡ run_status c.journal.entries
  done-by out kept done scripted quiet (view.against (view.fault reads rose n is) idle none) =
      absurd (done-not c.status 5 done (λ z. omega (arith, z)) (λ z. omega (arith, z)) n)
  done-by out kept done scripted quiet (view.against (view.refused why h n is) idle none) =
      absurd (done-not c.status 1 done (λ z. omega (arith, z)) (λ z. omega (arith, z)) n)
  done-by out kept done scripted quiet (view.against (view.unsolved stop h n is) idle none) =
      absurd (done-not c.status 8 done (λ z. omega (arith, z)) (λ z. omega (arith, z)) n)
  done-by out kept done scripted quiet (view.alone a what alone gives is idle n) = absurd (scripted alone)
  done-by out kept done scripted quiet (view.behind a (view.missed status line is idle same o) further gives h) =
      absurd (missed-undone (missed-status is) same done)
  done-by out kept done scripted quiet (view.behind a (view.carried r) further gives h) = r.status quiet

  is-answered : IsAnswered c t task
  is-answered =
      let ends = end-view c t e in
      record {
        not_refused = answers-not 1 (λ e. omega (arith, e)) (λ e. omega (arith, e)) (λ d. d.one) ends;
        not_stopped = answers-not 8 (λ e. omega (arith, e)) (λ e. omega (arith, e)) (λ d. d.eight) ends;
        checked = λ alone. or-fails c t 0 ends (λ out kept due. (whole-answers out kept due).alone alone);
        reported = λ a h has. answers-report a h has ends;
        by_journal = λ done scripted quiet.
            let w = whole-done c t ends done in
            done-by w.out w.kept done scripted quiet (task-view w.view task asks);
      }

pub typed-is_accepted : (c : Call) (t : Texts) → EndsOn c t → TypedIsAccepted c t
typed-is_accepted c t e = record {
  typed = λ task lists x asks typed goes_on seeks. is-answered c t e task asks lists x typed (goes_on, seeks);
}
