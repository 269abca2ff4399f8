-- What a call leaves as it was.
use Rattle.std.proofs.Common.{◌≡◌, ◌≢◌, ◌∙◌, ◌⊎◌, inl, inr, ℕ, List, Option, Some, None, Result, Ok, Err, refl, sym, subst, arith}
use Rattle.std.specs.Prelude.{IfOk, IfErr}
use Rattle.nomos_answers.specs.Outside.{SinkState}
use Rattle.nomos_answers.specs.Sources.{kept_text}
use Rattle.nomos_top.specs.Seen.{Call, IsDone}
use Rattle.nomos_top.specs.Outcome.{Inputs, Outcome}
use Rattle.nomos_top.specs.Tasks.{Keeps, ReadsSnapshot, Waits}
use Rattle.nomos_top.specs.Turns.{MayKeep, MayWait, WantsSnapshot}
use Rattle.nomos_top.specs.declared.call_due.CallDue.{CallDue}
use Rattle.nomos_top.specs.declared.call_due.DoneSoFar.{DoneSoFar}
use Rattle.nomos_top.specs.mirror.Judging.{EndsDue, IsDueOn, Sources, inputs_on, outcome_of}
use Rattle.nomos_top.proofs.EndLaws.{further-not_seven, keeps-any_or_not}
use Rattle.nomos_top.proofs.Views.{WordsView, WrittenView, words-view, written-view}
use Rattle.nomos_top.proofs.Views as view
use Rattle.nomos_types.specs.Acceptance.{Acceptance}
use Rattle.nomos_words.proofs.WordLaws.{one_task}
use Rattle.nomos_words.specs.Words.{Task, check, run, replay, bench, least, pool, talk, save, resume, Asks}

-- ---- sources

-- what is not wanted is read by no task, or no program is given
pub unwanted : (words : List (List ℕ)) (task : Task) → Asks words task → (Reads : Task → Type 0)
    (given : Option Acceptance)
    → ¬ ((task : Task) × (a : Acceptance) × Asks words task × Reads task × (given ≡ Some a))
    → ¬ (Reads task) ⊎ (given ≡ None)
unwanted words task asks Reads None none = inr refl
unwanted words task asks Reads (Some a) none = inl (λ reads. none (task, a, asks, reads, refl))

-- ---- sinks

-- what is due has another status than 7
pub words-not_seven : {words : List (List ℕ)} {i : Inputs} {o : Outcome} → WordsView words i o → o.status ≢ 7
words-not_seven (view.nothing_asked none idle never n is) seven = omega (arith, n, seven)
words-not_seven (view.task_asked task asks (view.against (view.fault reads rose n is) idle none)) seven =
    omega (arith, n, seven)
words-not_seven (view.task_asked task asks (view.against (view.refused why h n is) idle none)) seven =
    omega (arith, n, seven)
words-not_seven (view.task_asked task asks (view.against (view.unsolved stop h n is) idle none)) seven =
    omega (arith, n, seven)
words-not_seven (view.task_asked task asks (view.alone a what alone gives is idle n)) seven = omega (arith, n, seven)
words-not_seven (view.task_asked task asks (view.behind a what further gives h)) seven = further-not_seven what seven

-- a text is kept where the task keeps one, and was done
words-keeps : {words : List (List ℕ)} {i : Inputs} {o : Outcome} → WordsView words i o
    → (o.kept ≡ None) ⊎ ((task : Task) × Asks words task × Keeps task × IsDone o.status)
words-keeps (view.nothing_asked none idle never n is) = inl idle.kept
words-keeps (view.task_asked task asks (view.against why idle none)) = inl idle.kept
words-keeps (view.task_asked task asks (view.alone a what alone gives is idle n)) = inl idle.kept
words-keeps (view.task_asked task asks (view.behind a (view.missed status line is idle same out) further gives h)) =
    inl idle.kept
words-keeps {words} {i} {o} (view.task_asked task asks (view.behind a (view.carried r) further gives h)) =
    either (keeps-any_or_not task)
  where
    either : Keeps task ⊎ ¬ (Keeps task)
        → (o.kept ≡ None) ⊎ ((task : Task) × Asks words task × Keeps task × IsDone o.status)
    either (inl keeps) = inr (task, asks, keeps, r.done)
    either (inr drops) = inl (r.drops drops)

-- the status stands, or a sink failed
written-status : {status : ℕ} {out : List ℕ} {kept : Option (List ℕ)} {so jo : SinkState} {ended : ℕ}
    → WrittenView status out kept so jo ended → (ended ≡ status) ⊎ (ended ≡ 6)
written-status (view.whole same wrote keeps) = inl same
written-status (view.out_failed six rose front none) = inr six
written-status (view.journal_failed text six is wrote rose front) = inr six

-- what is due of a call, as it is seen
due-words : (c : Call) (s : Sources) (d : CallDue) (due : IsDueOn s c.words d)
    → WordsView c.words (inputs_on s due.texts) (outcome_of d)
due-words c s d due = words-view c.words (inputs_on s due.texts) (outcome_of d) due.holds

-- with 7 what holds where memory was wanting
pub seven-wanting : (c : Call) (r : Result CallDue DoneSoFar) (s : Sources) (Same : Type 0) → IfOk r (IsDueOn s c.words)
    → IfOk r (EndsDue c) → IfErr r (λ _. Same) → c.status ≡ 7 → Same
seven-wanting c (Ok d) s Same due ends same seven =
    either
    (written-status (written-view d.due.status d.due.out.items (kept_text d.due) c.out c.journal_out c.status
    ends.written))
  where
    either : (c.status ≡ d.due.status) ⊎ (c.status ≡ 6) → Same
    either (inl is) = absurd (words-not_seven (due-words c s d due) (sym is ∙ seven))
    either (inr six) = absurd (omega (arith, six, seven))
seven-wanting c (Err p) s Same due ends same seven = same

-- where nothing may be kept, what holds where no text is
pub nothing-may_keep : (c : Call) (r : Result CallDue DoneSoFar) (s : Sources) (Same : Type 0)
    → IfOk r (IsDueOn s c.words) → IfOk r (EndsDue c) → IfOk r (λ d. kept_text d.due ≡ None → Same)
    → IfErr r (λ _. Same) → ¬ (MayKeep c.words c.status) → Same
nothing-may_keep c (Ok d) s Same due ends same none never = either (words-keeps (due-words c s d due))
  where
    status : (c.status ≡ d.due.status) ⊎ (c.status ≡ 6) → IsDone d.due.status → IsDone c.status ⊎ (c.status ≡ 6)
    status (inl is) done = inl (subst IsDone (sym is) done)
    status (inr six) done = inr six

    either : (kept_text d.due ≡ None)
        ⊎ ((task : Task) × Asks c.words task × Keeps task × IsDone d.due.status) → Same
    either (inl kept) = same kept
    either (inr (task, asks, keeps, done)) =
        absurd
        (never (
          task,
          asks,
          keeps,
          status
              (written-status (written-view d.due.status d.due.out.items (kept_text d.due) c.out c.journal_out c.status
              ends.written)) done,
        ))
nothing-may_keep c (Err p) s Same due ends same none never = none

-- ---- calls that wait

-- no task waits that begins at a snapshot
waits-none : (task : Task) → Waits task → ReadsSnapshot task → ⊥
waits-none (check file) waits reads = reads
waits-none (run file script by steps journal) waits reads = reads
waits-none (replay file script journal) waits reads = reads
waits-none (bench seed bidders) waits reads = reads
waits-none (least file) waits reads = reads
waits-none (pool file script threads) waits reads = reads
waits-none (talk file script name proc text) waits reads = reads
waits-none (save file script snapshot) waits reads = reads
waits-none (resume file snapshot script) (inl waits) reads = waits
waits-none (resume file snapshot script) (inr waits) reads = waits

pub waits-no_snapshot : (words : List (List ℕ)) → MayWait words → WantsSnapshot words → ⊥
waits-no_snapshot words (task, asks, waits) (other, asked, reads) =
    waits-none task waits (subst ReadsSnapshot (one_task words other task asked asks) reads)
