-- Refusals are true.
use Rattle.std.proofs.Common.{◌≡◌, ◌≢◌, ◌∙◌, ◌⊎◌, inl, inr, ℕ, List, Option, Some, None, Ok, Err, refl, sym, subst, arith}
use Rattle.nomos_accept.specs.AcceptedText.{IsCauseOf, IsRefused}
use Rattle.nomos_accept.specs.declared.why.Why.{Why}
use Rattle.nomos_answers.proofs.ReplayLaws.{legal-not_refused}
use Rattle.nomos_answers.specs.Pools.{pool_refusal}
use Rattle.nomos_answers.specs.RunsDue.{HasRun, usual_orders}
use Rattle.nomos_answers.specs.SnapshotLines.{unloaded_line, unsaved_line}
use Rattle.nomos_legal.specs.Ledger.{LedgerState, empty_ledger}
use Rattle.nomos_legal.specs.declared.journal.Journal.{Journal}
use Rattle.nomos_pool.proofs.PooledLaws.{refused-alone}
use Rattle.nomos_pool.specs.Pooled.{PoolsTo}
use Rattle.nomos_replay.specs.Answers.{Answers}
use Rattle.nomos_replay.specs.Refusal.{refusal_line}
use Rattle.nomos_replay.specs.declared.error.ReplayError.{ReplayError}
use Rattle.nomos_script.proofs.ReadingLaws.{reads_once}
use Rattle.nomos_script.specs.ScriptReading.{ReadsAs}
use Rattle.nomos_script.specs.declared.item.ScriptItem.{ScriptItem}
use Rattle.nomos_simplex.specs.declared.solved.Stop.{Stop}
use Rattle.nomos_snapshot.proofs.LoadingLaws.{loads-one}
use Rattle.nomos_snapshot.specs.Loading.{Loads}
use Rattle.nomos_snapshot.specs.Saving.{Saves}
use Rattle.nomos_snapshot.specs.declared.error.LoadError.{LoadError}
use Rattle.nomos_snapshot.specs.declared.error.SaveError.{SaveError}
use Rattle.nomos_top.specs.Call.{EndsOn, inputs_of, outcome_with}
use Rattle.nomos_top.specs.Headline.{BeginsAt, CarriesBy}
use Rattle.nomos_top.specs.Seen.{Call, Texts, Gives, HasWritten}
use Rattle.nomos_top.specs.Kept.{IsOwn}
use Rattle.nomos_top.specs.Outcome.{Outcome}
use Rattle.nomos_top.specs.Refusal.{refusal, unsolved_line}
use Rattle.nomos_top.specs.Refusing as refusing
use Rattle.nomos_top.specs.Refusing.{IsBadJournal, IsBadScript, IsBadSnapshot, IsBadTalk, IsBehind, IsLastLedger, RefusesTruly}
use Rattle.nomos_top.specs.TaskRuns.{HasStoppedFor, IsGivenFor}
use Rattle.nomos_top.specs.Tasks.{AskNothing, KeepsSnapshot, ReadsJournal, ReadsScript, ReadsSnapshot, ReadsTalk, contract_of, script_of}
use Rattle.nomos_top.proofs.AcceptedLaws.{task-view}
use Rattle.nomos_top.proofs.CauseLemmas.{cause-no_stop_for, given-no_cause, given-no_stop, given-one}
use Rattle.nomos_top.proofs.EndLaws.{IsOrFault, bad-unread, further-not_eight, further-not_four, further-not_one, journal-script, or-fails, reads-script, saved-script, script-not_alone, snapshot-script, talk-script, whole-at}
use Rattle.nomos_top.proofs.OneDueLaws.{saves-one, talk-not_missing, usual-one}
use Rattle.nomos_top.proofs.StatusLaws.{done-not}
use Rattle.nomos_top.proofs.TaskLaws.{journal-alone, journal-unsaved, one-third, saved-alone, saved-run, snapshot-alone, snapshot-begins, talk-alone, talk-no_snapshot, talk-says, talk-unsaved}
use Rattle.nomos_top.proofs.Views.{Carried, Further, DueView, IsGathered, Missed, WordsView, Whole, end-view, EndView}
use Rattle.nomos_top.proofs.Views as view
use Rattle.nomos_types.specs.Acceptance.{Acceptance, IsAccepted}
use Rattle.nomos_words.specs.Commands.{row}
use Rattle.nomos_words.specs.Usage.{usage_line}
use Rattle.nomos_words.specs.Words.{Task, check, run, replay, bench, least, pool, talk, save, resume, Asks}

module _ (c : Call) (t : Texts) (e : EndsOn c t) where
  -- ---- 4

  usage-told : (w : Whole c t) → WordsView c.words (inputs_of c t) (outcome_with c c.status w.out w.kept)
      → c.status ≡ 4 → AskNothing c.words × HasWritten c usage_line
  usage-told w (view.nothing_asked none idle never n is) four = (none, subst (HasWritten c) is w.wrote)
  usage-told w (view.task_asked task asks (view.against (view.fault reads rose n is) idle none)) four =
      absurd (omega (arith, n, four))
  usage-told w (view.task_asked task asks (view.against (view.refused why h n is) idle none)) four =
      absurd (omega (arith, n, four))
  usage-told w (view.task_asked task asks (view.against (view.unsolved stop h n is) idle none)) four =
      absurd (omega (arith, n, four))
  usage-told w (view.task_asked task asks (view.alone a what alone gives is idle n)) four =
      absurd (omega (arith, n, four))
  usage-told w (view.task_asked task asks (view.behind a what further gives is)) four =
      absurd (further-not_four what four)

  usage-due : AskNothing c.words → (out : List ℕ) (kept : Option (List ℕ))
      → WordsView c.words (inputs_of c t) (outcome_with c c.status out kept) → c.status ≡ 4
  usage-due none out kept (view.nothing_asked none2 idle never n is) = n
  usage-due none out kept (view.task_asked task asks due) = absurd (none task asks)

  usage-or_fails : AskNothing c.words → EndView c t → (c.status ≡ 4) ⊎ ((c.status ≡ 6) ⊎ (c.status ≡ 7))
  usage-or_fails none (view.all w) = inl (usage-due none w.out w.kept w.view)
  usage-or_fails none (view.failed f) = inr (inl f.is)
  usage-or_fails none (view.wanting m) = inr (inr m.is)

  -- ---- 1 and 8

  refused-told : (w : Whole c t) → WordsView c.words (inputs_of c t) (outcome_with c c.status w.out w.kept)
      → c.status ≡ 1
      → (task : Task) × (why : Why) × Asks c.words task × IsRefused (contract_of task t.contract) why
      × HasWritten c (refusal why)
  refused-told w (view.nothing_asked none idle never n is) one = absurd (omega (arith, n, one))
  refused-told w (view.task_asked task asks (view.against (view.fault reads rose n is) idle none)) one =
      absurd (omega (arith, n, one))
  refused-told w (view.task_asked task asks (view.against (view.refused why h n is) idle none)) one =
      (task, why, asks, h, subst (HasWritten c) is w.wrote)
  refused-told w (view.task_asked task asks (view.against (view.unsolved stop h n is) idle none)) one =
      absurd (omega (arith, n, one))
  refused-told w (view.task_asked task asks (view.alone a what alone gives is idle n)) one =
      absurd (omega (arith, n, one))
  refused-told w (view.task_asked task asks (view.behind a what further gives is)) one =
      absurd (further-not_one what one)

  caused-due : (task : Task) (why : Why) → Asks c.words task → IsCauseOf (contract_of task t.contract) why
      → (out : List ℕ) (kept : Option (List ℕ)) → DueView (inputs_of c t) task (outcome_with c c.status out kept)
      → IsOrFault c.status 1
  caused-due task why asks cause out kept (view.against (view.fault reads rose n is) idle none) = inr n
  caused-due task why asks cause out kept (view.against (view.refused why2 h n is) idle none) = inl n
  caused-due task why asks cause out kept (view.against (view.unsolved stop h n is) idle none) =
      absurd (cause-no_stop_for task (contract_of task t.contract) why stop cause h)
  caused-due task why asks cause out kept (view.alone a what alone gives is idle n) =
      absurd (given-no_cause task (contract_of task t.contract) a why is cause)
  caused-due task why asks cause out kept (view.behind a what further gives is) =
      absurd (given-no_cause task (contract_of task t.contract) a why is cause)

  stopped-told : (w : Whole c t) → WordsView c.words (inputs_of c t) (outcome_with c c.status w.out w.kept)
      → c.status ≡ 8
      → (task : Task) × (stop : Stop) × Asks c.words task × HasStoppedFor task (contract_of task t.contract) stop
      × HasWritten c (unsolved_line stop)
  stopped-told w (view.nothing_asked none idle never n is) eight = absurd (omega (arith, n, eight))
  stopped-told w (view.task_asked task asks (view.against (view.fault reads rose n is) idle none)) eight =
      absurd (omega (arith, n, eight))
  stopped-told w (view.task_asked task asks (view.against (view.refused why h n is) idle none)) eight =
      absurd (omega (arith, n, eight))
  stopped-told w (view.task_asked task asks (view.against (view.unsolved stop h n is) idle none)) eight =
      (task, stop, asks, h, subst (HasWritten c) is w.wrote)
  stopped-told w (view.task_asked task asks (view.alone a what alone gives is idle n)) eight =
      absurd (omega (arith, n, eight))
  stopped-told w (view.task_asked task asks (view.behind a what further gives is)) eight =
      absurd (further-not_eight what eight)

  stops-due : (task : Task) (stop : Stop) → Asks c.words task → HasStoppedFor task (contract_of task t.contract) stop
      → (out : List ℕ) (kept : Option (List ℕ)) → DueView (inputs_of c t) task (outcome_with c c.status out kept)
      → IsOrFault c.status 8
  stops-due task stop asks stopped out kept (view.against (view.fault reads rose n is) idle none) = inr n
  stops-due task stop asks stopped out kept (view.against (view.refused why h n is) idle none) =
      absurd (cause-no_stop_for task (contract_of task t.contract) why stop h.cause stopped)
  stops-due task stop asks stopped out kept (view.against (view.unsolved stop2 h n is) idle none) = inl n
  stops-due task stop asks stopped out kept (view.alone a what alone gives is idle n) =
      absurd (given-no_stop task (contract_of task t.contract) a stop is stopped)
  stops-due task stop asks stopped out kept (view.behind a what further gives is) =
      absurd (given-no_stop task (contract_of task t.contract) a stop is stopped)

  -- ---- what is refused behind acceptance

  -- where nothing was carried out, with this status, it is known why
  abbrev MissedWith : Whole c t → ℕ → Type 0
  MissedWith w n =
      (task : Task) × (a : Acceptance) × (line : List ℕ) × Asks c.words task × Gives c a
      × Missed (inputs_of c t) task a n line × HasWritten c line

  missed-told : (w : Whole c t) → WordsView c.words (inputs_of c t) (outcome_with c c.status w.out w.kept)
      → (n : ℕ) → c.status ≡ n → n ≢ 0 → n ≢ 1 → n ≢ 3 → n ≢ 4 → n ≢ 5 → n ≢ 8 → MissedWith w n
  missed-told w (view.nothing_asked none idle never four is) n at zero one three is_four five eight =
      absurd (is_four (sym at ∙ four))
  missed-told w (view.task_asked task asks (view.against (view.fault reads rose s is) idle none)) n at zero one three
      is_four five eight =
      absurd (five (sym at ∙ s))
  missed-told w (view.task_asked task asks (view.against (view.refused why h s is) idle none)) n at zero one three
      is_four five eight =
      absurd (one (sym at ∙ s))
  missed-told w (view.task_asked task asks (view.against (view.unsolved stop h s is) idle none)) n at zero one three
      is_four five eight =
      absurd (eight (sym at ∙ s))
  missed-told w (view.task_asked task asks (view.alone a what alone gives is idle s)) n at zero one three is_four five
      eight =
      absurd (zero (sym at ∙ s))
  missed-told w (view.task_asked task asks (view.behind a (view.carried r) further gives h)) n at zero one three is_four
      five eight =
      absurd (done-not c.status n r.done zero three at)
  missed-told w (view.task_asked task asks (view.behind a (view.missed status line is idle same out) further gives h)) n
      at zero one three is_four five eight = (
        task,
        a,
        line,
        asks,
        gives,
        subst (λ (s : ℕ). Missed (inputs_of c t) task a s line) (sym same ∙ at) is,
        subst (HasWritten c) out w.wrote,
      )

  -- what stands behind acceptance comes to this status, unless a source failed
  due-of : (task : Task) (a : Acceptance) (n : ℕ) → ReadsScript task → IsGivenFor task (contract_of task t.contract) a
      → ((o : Outcome) → IsAccepted a → Further (inputs_of c t) task o a → IsOrFault o.status n) → (out : List ℕ)
      (kept : Option (List ℕ)) → DueView (inputs_of c t) task (outcome_with c c.status out kept) → IsOrFault c.status n
  due-of task a n reads h told out kept (view.against (view.fault reads2 rose s is) idle none) = inr s
  due-of task a n reads h told out kept (view.against (view.refused why w s is) idle none) =
      absurd (given-no_cause task (contract_of task t.contract) a why h w.cause)
  due-of task a n reads h told out kept (view.against (view.unsolved stop w s is) idle none) =
      absurd (given-no_stop task (contract_of task t.contract) a stop h w)
  due-of task a n reads h told out kept (view.alone b what alone gives is idle s) =
      absurd (script-not_alone task reads alone)
  due-of task a n reads h told out kept (view.behind b what further gives is) =
      let one : b ≡ a = given-one task (contract_of task t.contract) b a is h in
      let given : Gives c a = subst (λ (x : Acceptance). Gives c x) one gives in
      told (outcome_with c c.status out kept) (e.fits a given)
      (subst (λ (x : Acceptance). Further (inputs_of c t) task (outcome_with c c.status out kept) x) one what)

  -- where a script is read, the items that were read for what was carried out
  carried-reads : (task : Task) (a : Acceptance) (o : Outcome) → Carried (inputs_of c t) task o a → ReadsScript task
      → (items : List ScriptItem) × ReadsAs t.script items
  carried-reads task a o r reads = by (row task).threads r.script r.gathered
    where
      here : (items : List ScriptItem) → ReadsAs (script_of task t.script) items → ReadsAs t.script items
      here items is = subst (λ (text : List ℕ). ReadsAs text items) (reads-script task t.script reads) is

      by : (threads : Option ℕ) → CarriesBy threads o.taken (script_of task t.script) r.items
          → IsGathered threads (script_of task t.script) r.items → (items : List ScriptItem) × ReadsAs t.script items
      by (Some n) is gathered = (gathered.0, here gathered.0 gathered.1)
      by None is gathered = (r.items, here r.items is)

  -- the same where no threads submit: the items that were carried out
  unsubmitted-reads : (task : Task) (a : Acceptance) (o : Outcome) (r : Carried (inputs_of c t) task o a)
      → ReadsScript task → (row task).threads ≡ None → ReadsAs t.script r.items
  unsubmitted-reads task a o r reads none =
      subst (λ (text : List ℕ). ReadsAs text r.items) (reads-script task t.script reads)
      (subst (λ (n : Option ℕ). CarriesBy n o.taken (script_of task t.script) r.items) none r.script)

  -- ---- 2

  bad_script-of : (w : Whole c t) → MissedWith w 2
      → (a : Acceptance) × (first : LedgerState) × (line : List ℕ) × (k : IsBehind c ReadsScript a)
      × BeginsAt k.task a t first × IsBadScript c t k.task line × HasWritten c line
  bad_script-of w (task, a, line, asks, gives, is, wrote) = by 2 line is refl wrote
    where
      by : (n : ℕ) (line : List ℕ) → Missed (inputs_of c t) task a n line → n ≡ 2 → HasWritten c line
          → (a : Acceptance) × (first : LedgerState) × (line : List ℕ) × (k : IsBehind c ReadsScript a)
          × BeginsAt k.task a t first × IsBadScript c t k.task line × HasWritten c line
      by n line (view.script_fault reads rose) two wrote = absurd (omega (arith, two))
      by n line (view.third_fault reads rose) two wrote = absurd (omega (arith, two))
      by n line (view.bad_script first l reads begins bad) two wrote = (
        a,
        first,
        l,
        record { task = task; asks = asks; reads = reads; gives = gives },
        begins,
        refusing.unread l bad,
        wrote,
      )
      by n line (view.no_pool threads items k reads has begins h bad) two wrote = (
        a,
        empty_ledger,
        pool_refusal k,
        record { task = task; asks = asks; reads = reads; gives = gives },
        begins,
        refusing.unpooled threads items k has h bad,
        wrote,
      )
      by n line (view.bad_journal items why reads h answers) two wrote = absurd (omega (arith, two))
      by n line (view.bad_talk items l reads h bad) two wrote = absurd (omega (arith, two))
      by n line (view.unloaded why reads loads) two wrote = absurd (omega (arith, two))
      by n line (view.unsaved items journal ps last why keeps h ran bad) two wrote = absurd (omega (arith, two))

  -- a script that is refused is no one of which something is told that reads it
  bad_script-not : (task : Task) (line : List ℕ) → IsBadScript c t task line → (threads : Option ℕ)
      → (row task).threads ≡ threads → (taken : Option (List ScriptItem)) (items : List ScriptItem)
      → CarriesBy threads taken t.script items → IsGathered threads t.script items → ⊥
  bad_script-not task line (refusing.unread l bad) (Some n) is taken items script gathered =
      bad-unread (inputs_of c t).script gathered.0 l bad gathered.1
  bad_script-not task line (refusing.unread l bad) None is taken items script gathered =
      bad-unread (inputs_of c t).script items l bad script
  bad_script-not task line (refusing.unpooled n read k has h bad) (Some m) is taken items script gathered =
      let both : Some n ≡ Some m = sym has ∙ is in
      let same : n ≡ m = cc in
      let reads : read ≡ gathered.0 = reads_once t.script read gathered.0 h gathered.1 in
      let here : PoolsTo m gathered.0 (Err k) =
      subst (λ (x : ℕ). PoolsTo x gathered.0 (Err k)) same
      (subst (λ (xs : List ScriptItem). PoolsTo n xs (Err k)) reads bad) in
      let never : Ok items ≡ Err k = refused-alone m k gathered.0 here (Ok items) gathered.2 in
      cc never
  bad_script-not task line (refusing.unpooled n read k has h bad) None is taken items script gathered =
      let both : Some n ≡ None = sym has ∙ is in cc both

  -- it does not read, where no threads submit
  bad_script-unread : (task : Task) (line : List ℕ) → IsBadScript c t task line → (row task).threads ≡ None
      → (items : List ScriptItem) → ReadsAs t.script items → ⊥
  bad_script-unread task line (refusing.unread l bad) none items reads =
      bad-unread (inputs_of c t).script items l bad reads
  bad_script-unread task line (refusing.unpooled n read k has h bad) none items reads =
      let both : Some n ≡ None = sym has ∙ none in cc both

  bad_script-missed : (task : Task) (a : Acceptance) (first : LedgerState) (line : List ℕ) → IsAccepted a
      → BeginsAt task a t first → IsBadScript c t task line → (status : ℕ) (l : List ℕ)
      → Missed (inputs_of c t) task a status l → (status ≡ 2) ⊎ (status ≡ 5)
  bad_script-missed task a first line accepted begins bad status l (view.script_fault reads rose) = inr refl
  bad_script-missed task a first line accepted begins bad status l (view.third_fault reads rose) = inr refl
  bad_script-missed task a first line accepted begins bad status l (view.bad_script f m reads is none) = inl refl
  bad_script-missed task a first line accepted begins bad status l (view.no_pool threads items k reads has is h worse) =
      inl refl
  bad_script-missed task a first line accepted begins bad status l (view.bad_journal items why reads h answers) =
      absurd (bad_script-unread task line bad (journal-alone task reads) items h)
  bad_script-missed task a first line accepted begins bad status l (view.bad_talk items m reads h worse) =
      absurd (bad_script-unread task line bad (talk-alone task reads) items h)
  bad_script-missed task a first line accepted begins bad status l (view.unloaded why reads loads) =
      absurd
      (let both : Ok first ≡ Err why = loads-one accepted (snapshot-begins task reads a t.third first begins) loads in
      cc)
  bad_script-missed task a first line accepted begins bad status l
      (view.unsaved items j ps last why keeps h ran worse) =
      absurd (bad_script-unread task line bad (saved-alone task keeps) items h)

  bad_script-further : (task : Task) (a : Acceptance) (first : LedgerState) (line : List ℕ) → ReadsScript task
      → BeginsAt task a t first → IsBadScript c t task line → (o : Outcome) → IsAccepted a
      → Further (inputs_of c t) task o a → IsOrFault o.status 2
  bad_script-further task a first line reads begins bad o accepted (view.missed status l is idle same out) =
      subst (λ (s : ℕ). IsOrFault s 2) (sym same)
      (bad_script-missed task a first line accepted begins bad status l is)
  bad_script-further task a first line reads begins bad o accepted (view.carried r) =
      let text = reads-script task t.script reads in
      absurd
      (bad_script-not task line bad (row task).threads refl o.taken r.items
      (subst (λ (s : List ℕ). CarriesBy (row task).threads o.taken s r.items) text r.script)
      (subst (λ (s : List ℕ). IsGathered (row task).threads s r.items) text r.gathered))

  -- ---- 9

  bad_journal-of : (w : Whole c t) → MissedWith w 9
      → (a : Acceptance) × (why : ReplayError) × IsBehind c ReadsJournal a × IsBadJournal t a why
      × HasWritten c (refusal_line a.annotations.unit why)
  bad_journal-of w (task, a, line, asks, gives, is, wrote) = by 9 line is refl wrote
    where
      by : (n : ℕ) (line : List ℕ) → Missed (inputs_of c t) task a n line → n ≡ 9 → HasWritten c line
          → (a : Acceptance) × (why : ReplayError) × IsBehind c ReadsJournal a × IsBadJournal t a why
          × HasWritten c (refusal_line a.annotations.unit why)
      by n line (view.script_fault reads rose) nine wrote = absurd (omega (arith, nine))
      by n line (view.third_fault reads rose) nine wrote = absurd (omega (arith, nine))
      by n line (view.bad_script first l reads begins bad) nine wrote = absurd (omega (arith, nine))
      by n line (view.no_pool threads items k reads has begins h bad) nine wrote = absurd (omega (arith, nine))
      by n line (view.bad_journal items why reads h answers) nine wrote = (
        a,
        why,
        record { task = task; asks = asks; reads = reads; gives = gives },
        record { items = items; reads = h; answers = answers },
        wrote,
      )
      by n line (view.bad_talk items l reads h bad) nine wrote = absurd (omega (arith, nine))
      by n line (view.unloaded why reads loads) nine wrote = absurd (omega (arith, nine))
      by n line (view.unsaved items journal ps last why keeps h ran bad) nine wrote = absurd (omega (arith, nine))

  -- the journal of a replay is not refused where it was carried out
  own-unspoiled : (task : Task) (a : Acceptance) (items : List ScriptItem) (journal : Journal) (why : ReplayError)
      → IsAccepted a → ReadsJournal task → ReadsAs t.script items → IsOwn task a items t.third journal
      → Answers a items t.third (Err why) → ⊥
  own-unspoiled (check file) a items journal why accepted reads h own refused = reads
  own-unspoiled (run file script by steps kept) a items journal why accepted reads h own refused = reads
  own-unspoiled (replay file script kept) a items journal why accepted reads h own refused =
      legal-not_refused accepted t.script h own.1 refused
  own-unspoiled (bench seed bidders) a items journal why accepted reads h own refused = reads
  own-unspoiled (least file) a items journal why accepted reads h own refused = reads
  own-unspoiled (pool file script threads) a items journal why accepted reads h own refused = reads
  own-unspoiled (talk file script name proc text) a items journal why accepted reads h own refused = reads
  own-unspoiled (save file script snapshot) a items journal why accepted reads h own refused = reads
  own-unspoiled (resume file snapshot script) a items journal why accepted reads h own refused = reads

  bad_journal-missed : (task : Task) (a : Acceptance) (why : ReplayError) → ReadsJournal task → IsBadJournal t a why
      → (status : ℕ) (l : List ℕ) → Missed (inputs_of c t) task a status l → (status ≡ 9) ⊎ (status ≡ 5)
  bad_journal-missed task a why reads bad status l (view.script_fault reads2 rose) = inr refl
  bad_journal-missed task a why reads bad status l (view.third_fault reads2 rose) = inr refl
  bad_journal-missed task a why reads bad status l (view.bad_script first m reads2 begins missing) =
      absurd (bad-unread (inputs_of c t).script bad.items m missing bad.reads)
  bad_journal-missed task a why reads bad status l (view.no_pool threads items k reads2 has begins h worse) =
      absurd (let both : Some threads ≡ None = sym has ∙ journal-alone task reads in cc)
  bad_journal-missed task a why reads bad status l (view.bad_journal items why2 reads2 h answers) = inl refl
  bad_journal-missed task a why reads bad status l (view.bad_talk items m reads2 h worse) =
      absurd (one-third task reads (inl reads2))
  bad_journal-missed task a why reads bad status l (view.unloaded why2 reads2 loads) =
      absurd (one-third task reads (inr reads2))
  bad_journal-missed task a why reads bad status l (view.unsaved items j ps last why2 keeps h ran worse) =
      absurd (journal-unsaved task reads keeps)

  bad_journal-further : (task : Task) (a : Acceptance) (why : ReplayError) → ReadsJournal task → IsBadJournal t a why
      → (o : Outcome) → IsAccepted a → Further (inputs_of c t) task o a → IsOrFault o.status 9
  bad_journal-further task a why reads bad o accepted (view.missed status l is idle same out) =
      subst (λ (s : ℕ). IsOrFault s 9) (sym same) (bad_journal-missed task a why reads bad status l is)
  bad_journal-further task a why reads bad o accepted (view.carried r) =
      let h = unsubmitted-reads task a o r (journal-script task reads) (journal-alone task reads) in
      let same : bad.items ≡ r.items = reads_once t.script bad.items r.items bad.reads h in
      absurd
      (own-unspoiled task a r.items o.journal why accepted reads h r.own
      (subst (λ (xs : List ScriptItem). Answers a xs t.third (Err why)) same bad.answers))

  -- ---- 10

  bad_talk-of : (w : Whole c t) → MissedWith w 10
      → (a : Acceptance) × (line : List ℕ) × IsBehind c ReadsTalk a × IsBadTalk c t line × HasWritten c line
  bad_talk-of w (task, a, line, asks, gives, is, wrote) = by 10 line is refl wrote
    where
      by : (n : ℕ) (line : List ℕ) → Missed (inputs_of c t) task a n line → n ≡ 10 → HasWritten c line
          → (a : Acceptance) × (line : List ℕ) × IsBehind c ReadsTalk a × IsBadTalk c t line × HasWritten c line
      by n line (view.script_fault reads rose) ten wrote = absurd (omega (arith, ten))
      by n line (view.third_fault reads rose) ten wrote = absurd (omega (arith, ten))
      by n line (view.bad_script first l reads begins bad) ten wrote = absurd (omega (arith, ten))
      by n line (view.no_pool threads items k reads has begins h bad) ten wrote = absurd (omega (arith, ten))
      by n line (view.bad_journal items why reads h answers) ten wrote = absurd (omega (arith, ten))
      by n line (view.bad_talk items l reads h bad) ten wrote = (
        a,
        l,
        record { task = task; asks = asks; reads = reads; gives = gives },
        record { items = items; reads = h; bad = bad },
        wrote,
      )
      by n line (view.unloaded why reads loads) ten wrote = absurd (omega (arith, ten))
      by n line (view.unsaved items journal ps last why keeps h ran bad) ten wrote = absurd (omega (arith, ten))

  bad_talk-missed : (task : Task) (a : Acceptance) (line : List ℕ) → ReadsTalk task → IsBadTalk c t line
      → (status : ℕ) (l : List ℕ) → Missed (inputs_of c t) task a status l → (status ≡ 10) ⊎ (status ≡ 5)
  bad_talk-missed task a line reads bad status l (view.script_fault reads2 rose) = inr refl
  bad_talk-missed task a line reads bad status l (view.third_fault reads2 rose) = inr refl
  bad_talk-missed task a line reads bad status l (view.bad_script first m reads2 begins missing) =
      absurd (bad-unread (inputs_of c t).script bad.items m missing bad.reads)
  bad_talk-missed task a line reads bad status l (view.no_pool threads items k reads2 has begins h worse) =
      absurd (let both : Some threads ≡ None = sym has ∙ talk-alone task reads in cc)
  bad_talk-missed task a line reads bad status l (view.bad_journal items why reads2 h answers) =
      absurd (one-third task reads2 (inl reads))
  bad_talk-missed task a line reads bad status l (view.bad_talk items m reads2 h worse) = inl refl
  bad_talk-missed task a line reads bad status l (view.unloaded why reads2 loads) =
      absurd (talk-no_snapshot task reads reads2)
  bad_talk-missed task a line reads bad status l (view.unsaved items j ps last why keeps h ran worse) =
      absurd (talk-unsaved task reads keeps)

  bad_talk-further : (task : Task) (a : Acceptance) (line : List ℕ) → ReadsTalk task → IsBadTalk c t line
      → (o : Outcome) → IsAccepted a → Further (inputs_of c t) task o a → IsOrFault o.status 10
  bad_talk-further task a line reads bad o accepted (view.missed status l is idle same out) =
      subst (λ (s : ℕ). IsOrFault s 10) (sym same) (bad_talk-missed task a line reads bad status l is)
  bad_talk-further task a line reads bad o accepted (view.carried r) =
      let (lines, says) = talk-says task reads (inputs_of c t) o a r.passages r.last r.talks in
      absurd (talk-not_missing (inputs_of c t).third line lines bad.bad says)

  -- ---- 11

  bad_snapshot-of : (w : Whole c t) → MissedWith w 11
      → (task : Task) × (a : Acceptance) × (line : List ℕ) × Asks c.words task × Gives c a
      × IsBadSnapshot t a task line × HasWritten c line
  bad_snapshot-of w (task, a, line, asks, gives, is, wrote) = by 11 line is refl wrote
    where
      by : (n : ℕ) (line : List ℕ) → Missed (inputs_of c t) task a n line → n ≡ 11 → HasWritten c line
          → (task : Task) × (a : Acceptance) × (line : List ℕ) × Asks c.words task × Gives c a
          × IsBadSnapshot t a task line × HasWritten c line
      by n line (view.script_fault reads rose) eleven wrote = absurd (omega (arith, eleven))
      by n line (view.third_fault reads rose) eleven wrote = absurd (omega (arith, eleven))
      by n line (view.bad_script first l reads begins bad) eleven wrote = absurd (omega (arith, eleven))
      by n line (view.no_pool threads items k reads has begins h bad) eleven wrote = absurd (omega (arith, eleven))
      by n line (view.bad_journal items why reads h answers) eleven wrote = absurd (omega (arith, eleven))
      by n line (view.bad_talk items l reads h bad) eleven wrote = absurd (omega (arith, eleven))
      by n line (view.unloaded why reads loads) eleven wrote =
          (task, a, unloaded_line why, asks, gives, refusing.unloaded why reads loads, wrote)
      by n line (view.unsaved items journal ps last why keeps h ran bad) eleven wrote = (
        task,
        a,
        unsaved_line why,
        asks,
        gives,
        refusing.unsaved last why keeps
            (record { items = items; reads = h; journal = journal; passages = ps; run = ran }) bad,
        wrote,
      )

  -- a snapshot that is not loaded: nothing behind it is due
  unloaded-missed : (task : Task) (a : Acceptance) (why : LoadError) → IsAccepted a → ReadsSnapshot task
      → Loads a t.third (Err why) → (status : ℕ) (l : List ℕ) → Missed (inputs_of c t) task a status l
      → (status ≡ 11) ⊎ (status ≡ 5)
  unloaded-missed task a why accepted reads bad status l (view.script_fault reads2 rose) = inr refl
  unloaded-missed task a why accepted reads bad status l (view.third_fault reads2 rose) = inr refl
  unloaded-missed task a why accepted reads bad status l (view.bad_script first m reads2 begins missing) =
      absurd
      (let both : Ok first ≡ Err why = loads-one accepted (snapshot-begins task reads a t.third first begins) bad in cc)
  unloaded-missed task a why accepted reads bad status l (view.no_pool threads items k reads2 has begins h worse) =
      absurd (let both : Some threads ≡ None = sym has ∙ snapshot-alone task reads in cc)
  unloaded-missed task a why accepted reads bad status l (view.bad_journal items why2 reads2 h answers) =
      absurd (one-third task reads2 (inr reads))
  unloaded-missed task a why accepted reads bad status l (view.bad_talk items m reads2 h worse) =
      absurd (talk-no_snapshot task reads2 reads)
  unloaded-missed task a why accepted reads bad status l (view.unloaded why2 reads2 loads) = inl refl
  unloaded-missed task a why accepted reads bad status l (view.unsaved items j ps last why2 keeps h ran worse) =
      inl refl

  -- a ledger that is not saved: nothing else is due behind its script
  unsaved-missed : (task : Task) (a : Acceptance) (last : LedgerState) → KeepsSnapshot task → IsLastLedger t a last
      → (status : ℕ) (l : List ℕ) → Missed (inputs_of c t) task a status l → (status ≡ 11) ⊎ (status ≡ 5)
  unsaved-missed task a last keeps led status l (view.script_fault reads2 rose) = inr refl
  unsaved-missed task a last keeps led status l (view.third_fault reads2 rose) = inr refl
  unsaved-missed task a last keeps led status l (view.bad_script first m reads2 begins missing) =
      absurd (bad-unread (inputs_of c t).script led.items m missing led.reads)
  unsaved-missed task a last keeps led status l (view.no_pool threads items k reads2 has begins h worse) =
      absurd (let both : Some threads ≡ None = sym has ∙ saved-alone task keeps in cc)
  unsaved-missed task a last keeps led status l (view.bad_journal items why2 reads2 h answers) =
      absurd (journal-unsaved task reads2 keeps)
  unsaved-missed task a last keeps led status l (view.bad_talk items m reads2 h worse) =
      absurd (talk-unsaved task reads2 keeps)
  unsaved-missed task a last keeps led status l (view.unloaded why2 reads2 loads) = inl refl
  unsaved-missed task a last keeps led status l (view.unsaved items j ps m why2 keeps2 h ran worse) = inl refl

  -- the last ledger of a script that was carried out for it was saved
  unsaved-carried : (task : Task) (a : Acceptance) (last : LedgerState) (why : SaveError) → KeepsSnapshot task
      → IsLastLedger t a last → Saves a last (Err why) → (o : Outcome) → Carried (inputs_of c t) task o a → ⊥
  unsaved-carried task a last why keeps led bad o r =
      let h = unsubmitted-reads task a o r (saved-script task keeps) (saved-alone task keeps) in
      let items : r.items ≡ led.items = reads_once t.script r.items led.items h led.reads in
      let mine : HasRun a led.items usual_orders o.journal r.passages r.last =
      subst (λ (xs : List ScriptItem). HasRun a xs usual_orders o.journal r.passages r.last) items
      (saved-run task keeps (inputs_of c t) o a r) in
      let ledgers : r.last ≡ last = (usual-one mine led.run).2 in
      let saved = r.saves keeps in
      let refused : Saves a r.last (Err why) = subst (λ (l : LedgerState). Saves a l (Err why)) (sym ledgers) bad in
      let both : Ok saved.text ≡ Err why = saves-one saved.saves refused in
      cc both

  bad_snapshot-further : (task : Task) (a : Acceptance) (line : List ℕ) → IsBadSnapshot t a task line → (o : Outcome)
      → IsAccepted a → Further (inputs_of c t) task o a → IsOrFault o.status 11
  bad_snapshot-further task a line (refusing.unloaded why reads loads) o accepted
      (view.missed status l is idle same out) =
      subst (λ (s : ℕ). IsOrFault s 11) (sym same) (unloaded-missed task a why accepted reads loads status l is)
  bad_snapshot-further task a line (refusing.unloaded why reads loads) o accepted (view.carried r) =
      absurd
      (let both : Ok r.first ≡ Err why =
      loads-one accepted (snapshot-begins task reads a t.third r.first r.begins) loads in cc)
  bad_snapshot-further task a line (refusing.unsaved last why keeps led bad) o accepted
      (view.missed status l is idle same out) =
      subst (λ (s : ℕ). IsOrFault s 11) (sym same) (unsaved-missed task a last keeps led status l is)
  bad_snapshot-further task a line (refusing.unsaved last why keeps led bad) o accepted (view.carried r) =
      absurd (unsaved-carried task a last why keeps led bad o r)

  -- a task to which a snapshot belongs reads a script
  bad_snapshot-script : (task : Task) (a : Acceptance) (line : List ℕ) → IsBadSnapshot t a task line
      → ReadsScript task
  bad_snapshot-script task a line (refusing.unloaded why reads loads) = snapshot-script task reads
  bad_snapshot-script task a line (refusing.unsaved last why keeps led bad) = saved-script task keeps

pub refuses-truly : (c : Call) (t : Texts) → EndsOn c t → RefusesTruly c t
refuses-truly c t e =
    let ends = end-view c t e in
    record {
      usage = λ four.
          let w = whole-at c t 4 ends four (λ z. omega (arith, z)) (λ z. omega (arith, z)) in
          usage-told c t e w w.view four;
      no_task = λ none. usage-or_fails c t e none ends;
      refused = λ one.
          let w = whole-at c t 1 ends one (λ z. omega (arith, z)) (λ z. omega (arith, z)) in
          refused-told c t e w w.view one;
      caused = λ task why asks cause.
          or-fails c t 1 ends
          (λ out kept due. caused-due c t e task why asks cause out kept (task-view due task asks));
      stopped = λ eight.
          let w = whole-at c t 8 ends eight (λ z. omega (arith, z)) (λ z. omega (arith, z)) in
          stopped-told c t e w w.view eight;
      stops = λ task stop asks stopped.
          or-fails c t 8 ends
          (λ out kept due. stops-due c t e task stop asks stopped out kept (task-view due task asks));
      bad_script = λ two.
          let w = whole-at c t 2 ends two (λ z. omega (arith, z)) (λ z. omega (arith, z)) in
          bad_script-of c t e w
          (missed-told c t e w w.view 2 two (λ z. omega (arith, z)) (λ z. omega (arith, z)) (λ z. omega (arith, z))
          (λ z. omega (arith, z)) (λ z. omega (arith, z)) (λ z. omega (arith, z)));
      script_is_bad = λ task a first line asks reads h begins bad.
          or-fails c t 2 ends
          (λ out kept due.
          due-of c t e task a 2 reads h (bad_script-further c t e task a first line reads begins bad) out kept
          (task-view due task asks));
      bad_journal = λ nine.
          let w = whole-at c t 9 ends nine (λ z. omega (arith, z)) (λ z. omega (arith, z)) in
          bad_journal-of c t e w
          (missed-told c t e w w.view 9 nine (λ z. omega (arith, z)) (λ z. omega (arith, z)) (λ z. omega (arith, z))
          (λ z. omega (arith, z)) (λ z. omega (arith, z)) (λ z. omega (arith, z)));
      journal_is_bad = λ task a why asks reads h bad.
          or-fails c t 9 ends
          (λ out kept due.
          due-of c t e task a 9 (journal-script task reads) h (bad_journal-further c t e task a why reads bad) out kept
          (task-view due task asks));
      bad_talk = λ ten.
          let w = whole-at c t 10 ends ten (λ z. omega (arith, z)) (λ z. omega (arith, z)) in
          bad_talk-of c t e w
          (missed-told c t e w w.view 10 ten (λ z. omega (arith, z)) (λ z. omega (arith, z)) (λ z. omega (arith, z))
          (λ z. omega (arith, z)) (λ z. omega (arith, z)) (λ z. omega (arith, z)));
      talk_is_bad = λ task a line asks reads h bad.
          or-fails c t 10 ends
          (λ out kept due.
          due-of c t e task a 10 (talk-script task reads) h (bad_talk-further c t e task a line reads bad) out kept
          (task-view due task asks));
      bad_snapshot = λ eleven.
          let w = whole-at c t 11 ends eleven (λ z. omega (arith, z)) (λ z. omega (arith, z)) in
          bad_snapshot-of c t e w
          (missed-told c t e w w.view 11 eleven (λ z. omega (arith, z)) (λ z. omega (arith, z))
          (λ z. omega (arith, z)) (λ z. omega (arith, z)) (λ z. omega (arith, z)) (λ z. omega (arith, z)));
      snapshot_is_bad = λ task a line asks h bad.
          or-fails c t 11 ends
          (λ out kept due.
          due-of c t e task a 11 (bad_snapshot-script c t e task a line bad) h
          (bad_snapshot-further c t e task a line bad) out kept (task-view due task asks));
    }
