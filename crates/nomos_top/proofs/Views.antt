-- What was due of a call, case by case, as the laws on calls look at it.
use Rattle.std.proofs.Common.{◌≡◌, ◌∙◌, ◌⊎◌, inl, inr, ℕ, List, [], ◌++◌, take, Bool, Option, Some, None, Ok, Err, ap, refl, sym, subst}
use Rattle.std.specs.Prelude.{codes, is_some}
use Rattle.nomos_accept.specs.AcceptedText.{IsRefused}
use Rattle.nomos_accept.specs.declared.why.Why.{Why}
use Rattle.nomos_base.specs.Sink.{with_end, AppendsSome}
use Rattle.nomos_answers.specs.Benches as benches
use Rattle.nomos_answers.specs.Benches.{IsBenchDue, IsBenchPart}
use Rattle.nomos_answers.specs.DueLines as lines
use Rattle.nomos_answers.specs.DueLines.{IsNoScript, read_fault_line}
use Rattle.nomos_answers.specs.Outside.{HaveRisen, SinkState}
use Rattle.nomos_answers.specs.Pools as pools
use Rattle.nomos_answers.specs.Pools.{IsPoolDue, IsPoolPart, pool_refusal}
use Rattle.nomos_answers.specs.Replays as replays
use Rattle.nomos_answers.specs.Replays.{IsJournalDue, IsReplayDue}
use Rattle.nomos_answers.specs.Resumes as resumes
use Rattle.nomos_answers.specs.Resumes.{IsNoLedger, IsResumeDue, IsResumePart}
use Rattle.nomos_answers.specs.RunsDue as runs
use Rattle.nomos_answers.specs.RunsDue.{HasRun, IsRunDue, IsRunPart, usual_orders}
use Rattle.nomos_answers.specs.Saves as saving
use Rattle.nomos_answers.specs.Saves.{IsSaveDue}
use Rattle.nomos_answers.specs.SnapshotLines.{unloaded_line, unsaved_line}
use Rattle.nomos_answers.specs.TalkDue as talking
use Rattle.nomos_answers.specs.TalkDue.{IsNoTalk, IsTalkDue, talk_status}
use Rattle.nomos_answers.specs.Written as writing
use Rattle.nomos_answers.specs.Written.{HasWrittenOut, with_text}
use Rattle.nomos_least.specs.LeastBounds.{IsLeastAs}
use Rattle.nomos_least.specs.declared.least.LeastBounds.{LeastBounds}
use Rattle.nomos_legal.specs.Ledger.{LedgerState, empty_ledger}
use Rattle.nomos_legal.specs.Legal.{FollowPolicy, TellsFrom}
use Rattle.nomos_legal.specs.Passage.{Passage}
use Rattle.nomos_legal.specs.declared.journal.Journal.{Journal}
use Rattle.nomos_machine.specs.declared.policy.Policy.{Policy}
use Rattle.nomos_machine.specs.declared.policy.Policy.TheVariants.{First}
use Rattle.nomos_monitor.specs.TalkCourse.{TalkReply}
use Rattle.nomos_pool.specs.Pooled.{PoolsTo}
use Rattle.nomos_replay.specs.Answers.{Answers}
use Rattle.nomos_replay.specs.Refusal.{refusal_line}
use Rattle.nomos_replay.specs.declared.error.ReplayError.{ReplayError}
use Rattle.nomos_report.specs.Block.{accepted_block}
use Rattle.nomos_report.specs.Reported.{report_of, run_status}
use Rattle.nomos_run.specs.Carried.{FollowsCrew}
use Rattle.nomos_walk.specs.Wanted.{journal_text_of, where_wanted}
use Rattle.nomos_script.specs.ScriptReading.{ReadsAs}
use Rattle.nomos_script.specs.TalkReading.{ReadsAsTalk}
use Rattle.nomos_script.specs.declared.item.ScriptItem.{ScriptItem}
use Rattle.nomos_script.specs.declared.talk_line.TalkLine.{TalkLine}
use Rattle.nomos_simplex.specs.declared.solved.Stop.{Stop}
use Rattle.nomos_snapshot.specs.Loading.{Loads}
use Rattle.nomos_snapshot.specs.Saving.{Saves}
use Rattle.nomos_snapshot.specs.declared.error.LoadError.{LoadError}
use Rattle.nomos_snapshot.specs.declared.error.SaveError.{SaveError}
use Rattle.nomos_top.proofs.StatusLaws.{done-talk, done-status}
use Rattle.nomos_top.specs.Call.{EndsOn, EndsWritten, EndsWithoutMemory, IsDueOf, inputs_of, outcome_with}
use Rattle.nomos_top.specs.Headline.{BeginsBy, CarriesBy}
use Rattle.nomos_top.specs.Seen.{Call, Texts, IsDone}
use Rattle.nomos_top.specs.Kept.{IsOwn}
use Rattle.nomos_top.specs.LeastBlock.{least_block}
use Rattle.nomos_top.specs.Outcome as outcome
use Rattle.nomos_top.specs.Outcome.{Inputs, Outcome, IsUnaccepted, IsTaskDue, IsDue, IsTaskPart, IsPart, bare, given}
use Rattle.nomos_top.specs.Refusal.{refusal, unsolved_line}
use Rattle.nomos_top.specs.Shown.{told_of}
use Rattle.nomos_top.specs.TaskRuns.{HasStoppedFor, IsByOne, IsGivenFor, bench_orders, crew_of, limit_of, run_orders}
use Rattle.nomos_top.specs.Tasks.{AskNothing, IsAlone, IsPooled, Keeps, KeepsJournal, KeepsSnapshot, ReadsContract, ReadsJournal, ReadsScript, ReadsSnapshot, ReadsTalk, ReadsThird, RunsScript, contract_of, script_of, third_name}
use Rattle.nomos_types.specs.Acceptance.{Acceptance}
use Rattle.nomos_visit.specs.TalkText.{turns_of}
use Rattle.nomos_visit.specs.Visits.{HoldsTalkIn, told_of_talk}
use Rattle.nomos_words.specs.Commands.{row}
use Rattle.nomos_words.specs.Options.{usual_limit}
use Rattle.nomos_words.specs.Usage.{usage_line}
use Rattle.nomos_words.specs.Words.{Task, check, run, replay, bench, least, pool, talk, save, resume, Asks}
use Rattle.nomos_words.specs.declared.workers.Workers.{Workers}
use Rattle.nomos_words.specs.declared.workers.Workers.TheVariants as workers
use Rattle.nomos_workers.specs.declared.batch.Crew.TheVariants as crews

-- ---- what was due

-- nothing was run, nothing is to be kept, and nothing was taken
pub record Idle (o : Outcome) (most : ℕ) : Type 0 where
  pub kept : o.kept ≡ None
  pub entries : o.journal.entries ≡ []
  pub limit : o.journal.limit ≡ most
  pub taken : o.taken ≡ None

-- why a contract is not accepted
pub data Against (i : Inputs) (task : Task) (o : Outcome) : Type 0 where
  fault : ReadsContract task → HaveRisen i.contract.counts → o.status ≡ 5
      → o.out ≡ read_fault_line (codes "contract") → Against i task o
  refused : (why : Why) → IsRefused (contract_of task i.contract.text) why → o.status ≡ 1 → o.out ≡ refusal why
      → Against i task o
  unsolved : (stop : Stop) → HasStoppedFor task (contract_of task i.contract.text) stop → o.status ≡ 8
      → o.out ≡ unsolved_line stop → Against i task o

-- what is said of a contract alone
pub data Alone (i : Inputs) (task : Task) (o : Outcome) (a : Acceptance) : Type 0 where
  checked : (file : List ℕ) → task ≡ check file → o.out ≡ accepted_block a → Alone i task o a
  bounded : (file : List ℕ) (b : LeastBounds) → task ≡ least file → b.accepted ≡ a → IsLeastAs i.contract.text b
      → o.out ≡ least_block b → Alone i task o a

-- why nothing is carried out behind acceptance: a status, and what is written
pub data Missed (i : Inputs) (task : Task) (a : Acceptance) : ℕ → List ℕ → Type 0 where
  script_fault : ReadsScript task → HaveRisen i.script.counts → Missed i task a 5 (read_fault_line (codes "script"))
  third_fault : ReadsThird task → HaveRisen i.third.counts
      → Missed i task a 5 (read_fault_line (third_name (row task).third))
  bad_script : (first : LedgerState) (line : List ℕ) → ReadsScript task
      → BeginsBy (row task).third a i.third.text first → IsNoScript i.script 2 line → Missed i task a 2 line
  no_pool : (threads : ℕ) (items : List ScriptItem) (k : ℕ) → ReadsScript task → (row task).threads ≡ Some threads
      → BeginsBy (row task).third a i.third.text empty_ledger → ReadsAs i.script.text items
      → PoolsTo threads items (Err k) → Missed i task a 2 (pool_refusal k)
  bad_journal : (items : List ScriptItem) (why : ReplayError) → ReadsJournal task → ReadsAs i.script.text items
      → Answers a items i.third.text (Err why) → Missed i task a 9 (refusal_line a.annotations.unit why)
  bad_talk : (items : List ScriptItem) (line : List ℕ) → ReadsTalk task → ReadsAs i.script.text items
      → IsNoTalk i.third 10 line → Missed i task a 10 line
  unloaded : (why : LoadError) → ReadsSnapshot task → Loads a i.third.text (Err why)
      → Missed i task a 11 (unloaded_line why)
  unsaved : (items : List ScriptItem) (journal : Journal) (ps : List Passage) (last : LedgerState) (why : SaveError)
      → KeepsSnapshot task → ReadsAs i.script.text items → HasRun a items usual_orders journal ps last
      → Saves a last (Err why) → Missed i task a 11 (unsaved_line why)

-- where the lines of a script are submitted, what is carried out is what was taken of it
abbrev pub IsGathered : Option ℕ → List ℕ → List ScriptItem → Type 0
IsGathered (Some threads) text items =
    (read : List ScriptItem) × ReadsAs text read × PoolsTo threads read (Ok items)
IsGathered None text items = Unit {0}

-- what is told of a talk behind a script
pub record TalkSeen (i : Inputs) (o : Outcome) (a : Acceptance) (ps : List Passage) (last : LedgerState)
    (name proc : List ℕ) : Type 0 where
  pub lines : List (ℕ × TalkLine)
  pub reads : ReadsAsTalk i.third.text lines
  pub fine : Bool
  pub replies : List TalkReply
  pub holds : HoldsTalkIn a last name proc usual_limit (turns_of a.program lines) fine replies
  pub out : o.out ≡ report_of a ps ++ told_of_talk a lines replies
  pub status : o.status ≡ talk_status fine o.journal.entries

abbrev pub TalkSeenFor : Task → Inputs → Outcome → Acceptance → List Passage → LedgerState → Type 0
TalkSeenFor (talk file script name proc text) i o a ps last = TalkSeen i o a ps last name proc
TalkSeenFor _ i o a ps last = Unit {0}

-- the snapshot of the last ledger
pub record SavedAs (o : Outcome) (a : Acceptance) (last : LedgerState) : Type 0 where
  pub text : List ℕ
  pub kept : o.kept ≡ Some text
  pub saves : Saves a last (Ok text)
  pub loads : Loads a text (Ok last)

-- what became of the whole script
pub record Carried (i : Inputs) (task : Task) (o : Outcome) (a : Acceptance) : Type 0 where
  pub scripted : ¬ (IsAlone task)
  pub first : LedgerState
  pub begins : BeginsBy (row task).third a i.third.text first
  pub items : List ScriptItem
  pub script : CarriesBy (row task).threads o.taken (script_of task i.script.text) items
  pub gathered : IsGathered (row task).threads (script_of task i.script.text) items
  pub untaken : ¬ (IsPooled task) → o.taken ≡ None
  pub passages : List Passage
  pub last : LedgerState
  pub tells : TellsFrom a first items o.journal passages last
  pub own : IsOwn task a items i.third.text o.journal
  pub follows : (policy : Policy) → IsByOne task policy → FollowPolicy policy a passages
  pub done : IsDone o.status
  pub status : ¬ (ReadsTalk task) → o.status ≡ run_status o.journal.entries
  pub out : ¬ (ReadsTalk task) → o.out ≡ told_of task a o.journal passages last
  pub talks : TalkSeenFor task i o a passages last
  pub keeps : KeepsJournal task → o.kept ≡ Some (journal_text_of a o.journal.limit passages)
  pub saves : KeepsSnapshot task → SavedAs o a last
  pub drops : ¬ (Keeps task) → o.kept ≡ None

-- what comes behind acceptance
pub data Further (i : Inputs) (task : Task) (o : Outcome) (a : Acceptance) : Type 0 where
  missed : (status : ℕ) (line : List ℕ) → Missed i task a status line → Idle o (limit_of task) → o.status ≡ status
      → o.out ≡ line → Further i task o a
  carried : Carried i task o a → Further i task o a

pub data DueView (i : Inputs) (task : Task) (o : Outcome) : Type 0 where
  against : Against i task o → Idle o (limit_of task) → o.accepted ≡ None → DueView i task o
  alone : (a : Acceptance) → Alone i task o a → IsAlone task → o.accepted ≡ Some a
      → IsGivenFor task (contract_of task i.contract.text) a → Idle o (limit_of task) → o.status ≡ 0 → DueView i task o
  behind : (a : Acceptance) → Further i task o a → ¬ (IsAlone task) → o.accepted ≡ Some a
      → IsGivenFor task (contract_of task i.contract.text) a → DueView i task o

-- ---- of contracts that are not accepted

against-view : (i : Inputs) (task : Task) (status : ℕ) (out : List ℕ) → IsUnaccepted task i.contract status out
    → DueView i task (bare status out (limit_of task))
against-view i task status out (outcome.fault reads rose) =
    against (fault reads rose refl refl) (record { kept = refl; entries = refl; limit = refl; taken = refl }) refl
against-view i task status out (outcome.refused why is) =
    against (refused why is refl refl) (record { kept = refl; entries = refl; limit = refl; taken = refl }) refl
against-view i task status out (outcome.unsolved stop is) =
    against (unsolved stop is refl refl) (record { kept = refl; entries = refl; limit = refl; taken = refl }) refl

-- ---- of what is missing behind acceptance

-- a status and lines are due, and a program is given
missed-view : (i : Inputs) (task : Task) (a : Acceptance) (status : ℕ) (out : List ℕ) (journal : Journal)
    → journal.entries ≡ [] → journal.limit ≡ limit_of task → Missed i task a status out
    → Further i task (given status out None a journal) a
missed-view i task a status out journal none within is =
    missed status out is (record { kept = refl; entries = none; limit = within; taken = refl }) refl refl

-- there is no script
no_script : (i : Inputs) (task : Task) (a : Acceptance) (first : LedgerState) (status : ℕ) (out : List ℕ)
    → ReadsScript task → BeginsBy (row task).third a i.third.text first → IsNoScript i.script status out
    → Missed i task a status out
no_script i task a first status out reads begins (lines.fault rose) = script_fault reads rose
no_script i task a first status out reads begins (lines.too_long over) =
    bad_script first out reads begins (lines.too_long over)
no_script i task a first status out reads begins (lines.syntax k bad) =
    bad_script first out reads begins (lines.syntax k bad)

-- ---- of runs

by-crew : (file script : List ℕ) (by : Workers) (steps : ℕ) (journal : Option (List ℕ)) (policy : Policy)
    → IsByOne (run file script by steps journal) policy → crew_of by ≡ crews.One policy
by-crew file script (workers.One chosen) steps journal policy is = ap (λ p. crews.One p) (sym is)
by-crew file script (workers.Many n) steps journal policy is = absurd is

-- where the words say nothing of it, one worker fires
by-usual : (a : Acceptance) (ps : List Passage) → FollowsCrew usual_orders.crew a ps → (policy : Policy)
    → policy ≡ First → FollowPolicy policy a ps
by-usual a ps follows policy is = follows policy (ap (λ p. crews.One p) (sym is))

run-keeps : (file script : List ℕ) (by : Workers) (steps : ℕ) (journal : Option (List ℕ)) (text : List ℕ)
    → KeepsJournal (run file script by steps journal) → where_wanted (is_some journal) text ≡ Some text
run-keeps file script by steps (Some journal) text keeps = refl
run-keeps file script by steps None text keeps = absurd keeps

run-drops : (file script : List ℕ) (by : Workers) (steps : ℕ) (journal : Option (List ℕ)) (text : List ℕ)
    → ¬ (Keeps (run file script by steps journal)) → where_wanted (is_some journal) text ≡ None
run-drops file script by steps (Some journal) text drops = absurd (drops refl)
run-drops file script by steps None text drops = refl

run-unsaved : {A : Type 0} (file script : List ℕ) (by : Workers) (steps : ℕ) (journal : Option (List ℕ))
    → KeepsSnapshot (run file script by steps journal) → A
run-unsaved file script by steps (Some journal) keeps = absurd keeps
run-unsaved file script by steps None keeps = absurd keeps

run-view : (i : Inputs) (file script : List ℕ) (by : Workers) (steps : ℕ) (journal : Option (List ℕ)) (a : Acceptance)
    (status : ℕ) (out : List ℕ) (kept : Option (List ℕ)) (made : Journal)
    → IsRunDue a (run_orders by steps journal) i.script status out kept made
    → Further i (run file script by steps journal) (given status out kept a made) a
run-view i file script by steps journal a status out kept made (runs.no_script s o is) =
    let task = run file script by steps journal in
    missed-view i task a status out made refl refl (no_script i task a empty_ledger status out tt refl is)
run-view i file script by steps journal a status out kept made (runs.ran items j ps last reads is stands) =
    carried (record {
      scripted = λ no. no;
      first = empty_ledger;
      begins = refl;
      items = items;
      script = reads;
      gathered = tt;
      untaken = λ none. refl;
      passages = ps;
      last = last;
      tells = is.tells;
      own = is.limit;
      follows = λ policy one. is.follows policy (by-crew file script by steps journal policy one);
      done = done-status j.entries;
      status = λ quiet. refl;
      out = λ quiet. refl;
      talks = tt;
      keeps = λ keeps.
          run-keeps file script by steps journal (journal_text_of a steps ps) keeps
          ∙ ap (λ (n : ℕ). Some (journal_text_of a n ps)) (sym is.limit);
      saves = λ keeps. run-unsaved file script by steps journal keeps;
      drops = run-drops file script by steps journal (journal_text_of a steps ps);
    })

bench-view : (i : Inputs) (seed bidders : ℕ) (a : Acceptance) (status : ℕ) (out : List ℕ) (made : Journal)
    → IsBenchDue a bench_orders (record { seed = seed; bidders = bidders }) status out made
    → Further i (bench seed bidders) (given status out None a made) a
bench-view i seed bidders a status out made (benches.ran items j ps last reads is stands) =
    carried (record {
      scripted = λ no. no;
      first = empty_ledger;
      begins = refl;
      items = items;
      script = reads;
      gathered = tt;
      untaken = λ none. refl;
      passages = ps;
      last = last;
      tells = is.tells;
      own = is.limit;
      follows = λ policy one. is.follows policy (ap (λ p. crews.One p) (sym one));
      done = done-status j.entries;
      status = λ quiet. refl;
      out = λ quiet. refl;
      talks = tt;
      keeps = λ keeps. absurd keeps;
      saves = λ keeps. absurd keeps;
      drops = λ drops. refl;
    })

-- ---- of replays

journal-view : (i : Inputs) (file script journal : List ℕ) (a : Acceptance) (items : List ScriptItem) (status : ℕ)
    (out : List ℕ) (read : Journal) → ReadsAs i.script.text items → IsJournalDue a items i.third status out read
    → Further i (replay file script journal) (given status out None a read) a
journal-view i file script journal a items status out read reads (replays.fault rose) =
    missed-view i (replay file script journal) a status out read refl refl (third_fault refl rose)
journal-view i file script journal a items status out read reads (replays.refused why answers) =
    missed-view i (replay file script journal) a status out read refl refl (bad_journal items why tt reads answers)
journal-view i file script journal a items status out read reads (replays.replayed kept last report has stands) =
    carried (record {
      scripted = λ no. no;
      first = empty_ledger;
      begins = refl;
      items = items;
      script = reads;
      gathered = tt;
      untaken = λ none. refl;
      passages = has.passages;
      last = last;
      tells = has.tells;
      own = (
        has.version,
        record { passages = has.passages; last = last; tells = has.tells; lines = has.lines },
      );
      follows = λ policy one. absurd one;
      done = done-status kept.entries;
      status = λ quiet. refl;
      out = λ quiet. has.printed;
      talks = tt;
      keeps = λ keeps. absurd keeps;
      saves = λ keeps. absurd keeps;
      drops = λ drops. refl;
    })

replay-view : (i : Inputs) (file script journal : List ℕ) (a : Acceptance) (status : ℕ) (out : List ℕ) (read : Journal)
    → IsReplayDue a i.script i.third status out read
    → Further i (replay file script journal) (given status out None a read) a
replay-view i file script journal a status out read (replays.no_script s o is) =
    let task = replay file script journal in
    missed-view i task a status out read refl refl (no_script i task a empty_ledger status out tt refl is)
replay-view i file script journal a status out read (replays.answered items s o k reads is) =
    journal-view i file script journal a items status out read reads is

-- ---- where threads submit

pool-view : (i : Inputs) (file script : List ℕ) (threads : ℕ) (a : Acceptance) (status : ℕ) (out : List ℕ)
    (made : Journal) (taken : Option (List ScriptItem)) → IsPoolDue a threads i.script status out made taken
    → Further i (pool file script threads) (record (given status out None a made) { taken = taken }) a
pool-view i file script threads a status out made taken (pools.no_script s o is) =
    let task = pool file script threads in
    missed-view i task a status out made refl refl (no_script i task a empty_ledger status out tt refl is)
pool-view i file script threads a status out made taken (pools.no_pool items k reads bad) =
    let task = pool file script threads in
    missed-view i task a status out made refl refl (no_pool threads items k tt refl refl reads bad)
pool-view i file script threads a status out made taken (pools.ran items pooled j ps last reads fair is stands) =
    carried (record {
      scripted = λ no. no;
      first = empty_ledger;
      begins = refl;
      items = pooled;
      script = refl;
      gathered = (items, reads, fair);
      untaken = λ none. absurd (none tt);
      passages = ps;
      last = last;
      tells = is.tells;
      own = is.limit;
      follows = by-usual a ps is.follows;
      done = done-status j.entries;
      status = λ quiet. refl;
      out = λ quiet. refl;
      talks = tt;
      keeps = λ keeps. absurd keeps;
      saves = λ keeps. absurd keeps;
      drops = λ drops. refl;
    })

-- ---- of talks

-- there is no talk
no_talk : (i : Inputs) (file script name proc text : List ℕ) (a : Acceptance) (items : List ScriptItem) (status : ℕ)
    (out : List ℕ) → ReadsAs i.script.text items → IsNoTalk i.third status out
    → Missed i (talk file script name proc text) a status out
no_talk i file script name proc text a items status out reads (talking.fault rose) = third_fault refl rose
no_talk i file script name proc text a items status out reads (talking.too_long over) =
    bad_talk items out tt reads (talking.too_long over)
no_talk i file script name proc text a items status out reads (talking.syntax k bad) =
    bad_talk items out tt reads (talking.syntax k bad)

talk-view : (i : Inputs) (file script name proc text : List ℕ) (a : Acceptance) (status : ℕ) (out : List ℕ)
    (made : Journal) → IsTalkDue a name proc i.script i.third status out made
    → Further i (talk file script name proc text) (given status out None a made) a
talk-view i file script name proc text a status out made (talking.no_script s o is) =
    let task = talk file script name proc text in
    missed-view i task a status out made refl refl (no_script i task a empty_ledger status out tt refl is)
talk-view i file script name proc text a status out made (talking.no_talk items s o reads is) =
    let task = talk file script name proc text in
    missed-view i task a status out made refl refl (no_talk i file script name proc text a items status out reads is)
talk-view i file script name proc text a status out made
    (talking.talked items lines j ps last fine replies reads says is stands holds) =
    carried (record {
      scripted = λ no. no;
      first = empty_ledger;
      begins = refl;
      items = items;
      script = reads;
      gathered = tt;
      untaken = λ none. refl;
      passages = ps;
      last = last;
      tells = is.tells;
      own = is.limit;
      follows = by-usual a ps is.follows;
      done = done-talk fine j.entries;
      status = λ quiet. absurd (quiet tt);
      out = λ quiet. absurd (quiet tt);
      talks = record {
        lines = lines;
        reads = says;
        fine = fine;
        replies = replies;
        holds = holds;
        out = refl;
        status = refl;
      };
      keeps = λ keeps. absurd keeps;
      saves = λ keeps. absurd keeps;
      drops = λ drops. refl;
    })

-- ---- of snapshots

save-view : (i : Inputs) (file script snapshot : List ℕ) (a : Acceptance) (status : ℕ) (out : List ℕ)
    (kept : Option (List ℕ)) (made : Journal) → IsSaveDue a i.script status out kept made
    → Further i (save file script snapshot) (given status out kept a made) a
save-view i file script snapshot a status out kept made (saving.no_script s o is) =
    let task = save file script snapshot in
    missed-view i task a status out made refl refl (no_script i task a empty_ledger status out tt refl is)
save-view i file script snapshot a status out kept made (saving.unsaved items j ps last why reads is stands bad) =
    missed-view i (save file script snapshot) a status out made refl refl
    (unsaved items j ps last why tt reads is bad)
save-view i file script snapshot a status out kept made
    (saving.saved items j ps last text reads is stands kept_so loads) =
    carried (record {
      scripted = λ no. no;
      first = empty_ledger;
      begins = refl;
      items = items;
      script = reads;
      gathered = tt;
      untaken = λ none. refl;
      passages = ps;
      last = last;
      tells = is.tells;
      own = is.limit;
      follows = by-usual a ps is.follows;
      done = done-status j.entries;
      status = λ quiet. refl;
      out = λ quiet. refl;
      talks = tt;
      keeps = λ keeps. absurd keeps;
      saves = λ keeps. record { text = text; kept = refl; saves = kept_so; loads = loads };
      drops = λ drops. absurd (drops refl);
    })

-- there is no ledger to begin at
no_ledger : (i : Inputs) (file snapshot script : List ℕ) (a : Acceptance) (status : ℕ) (out : List ℕ)
    → IsNoLedger a i.third status out → Missed i (resume file snapshot script) a status out
no_ledger i file snapshot script a status out (resumes.fault rose) = third_fault refl rose
no_ledger i file snapshot script a status out (resumes.refused why loads) = unloaded why tt loads

resume-view : (i : Inputs) (file snapshot script : List ℕ) (a : Acceptance) (status : ℕ) (out : List ℕ)
    (made : Journal) → IsResumeDue a i.third i.script status out made
    → Further i (resume file snapshot script) (given status out None a made) a
resume-view i file snapshot script a status out made (resumes.no_ledger s o is) =
    let task = resume file snapshot script in
    missed-view i task a status out made refl refl (no_ledger i file snapshot script a status out is)
resume-view i file snapshot script a status out made (resumes.no_script first s o loads is) =
    let task = resume file snapshot script in
    missed-view i task a status out made refl refl (no_script i task a first status out tt loads is)
resume-view i file snapshot script a status out made (resumes.ran first items j ps last loads reads is stands) =
    carried (record {
      scripted = λ no. no;
      first = first;
      begins = loads;
      items = items;
      script = reads;
      gathered = tt;
      untaken = λ none. refl;
      passages = ps;
      last = last;
      tells = is.tells;
      own = is.limit;
      follows = by-usual a ps is.follows;
      done = done-status j.entries;
      status = λ quiet. refl;
      out = λ quiet. refl;
      talks = tt;
      keeps = λ keeps. absurd keeps;
      saves = λ keeps. absurd keeps;
      drops = λ drops. refl;
    })

-- ---- of tasks

pub due-view : (i : Inputs) (task : Task) (o : Outcome) → IsTaskDue i task o → DueView i task o
due-view i task o (outcome.unaccepted t status out is) = against-view i task status out is
due-view i task o (outcome.checked file a is) =
    alone a (checked file refl refl) tt refl is
    (record { kept = refl; entries = refl; limit = refl; taken = refl }) refl
due-view i task o (outcome.bounded file b is) =
    alone b.accepted (bounded file b refl refl is refl) tt refl (b, refl, is)
    (record { kept = refl; entries = refl; limit = refl; taken = refl }) refl
due-view i task o (outcome.ran file script by steps journal a status out kept made is due) =
    behind a (run-view i file script by steps journal a status out kept made due) (λ no. no) refl is
due-view i task o (outcome.replayed file script journal a status out read is due) =
    behind a (replay-view i file script journal a status out read due) (λ no. no) refl is
due-view i task o (outcome.benched seed bidders a status out made is due) =
    behind a (bench-view i seed bidders a status out made due) (λ no. no) refl is
due-view i task o (outcome.pooled file script threads a status out made taken is due) =
    behind a (pool-view i file script threads a status out made taken due) (λ no. no) refl is
due-view i task o (outcome.talked file script name proc text a status out made is due) =
    behind a (talk-view i file script name proc text a status out made due) (λ no. no) refl is
due-view i task o (outcome.saved file script snapshot a status out kept made is due) =
    behind a (save-view i file script snapshot a status out kept made due) (λ no. no) refl is
due-view i task o (outcome.resumed file snapshot script a status out made is due) =
    behind a (resume-view i file snapshot script a status out made due) (λ no. no) refl is

-- what is due of words
pub data WordsView (words : List (List ℕ)) (i : Inputs) (o : Outcome) : Type 0 where
  nothing_asked : AskNothing words → Idle o usual_limit → o.accepted ≡ None → o.status ≡ 4 → o.out ≡ usage_line
      → WordsView words i o
  task_asked : (task : Task) → Asks words task → DueView i task o → WordsView words i o

pub words-view : (words : List (List ℕ)) (i : Inputs) (o : Outcome) → IsDue words i o → WordsView words i o
words-view words i o (outcome.usage none) =
    nothing_asked none (record { kept = refl; entries = refl; limit = refl; taken = refl }) refl refl refl
words-view words i o (outcome.asked task o2 asks due) = task_asked task asks (due-view i task o due)

-- ---- what was written

pub data WrittenView (status : ℕ) (out : List ℕ) (kept : Option (List ℕ)) (so jo : SinkState) (ended : ℕ) : Type 0 where
  whole : ended ≡ status → so.after ≡ with_end so.before out → jo.after ≡ with_text jo.before kept
      → WrittenView status out kept so jo ended
  out_failed : ended ≡ 6 → HaveRisen so.counts → AppendsSome out so.before so.after → jo.after ≡ jo.before
      → WrittenView status out kept so jo ended
  journal_failed : (text : List ℕ) → ended ≡ 6 → kept ≡ Some text → so.after ≡ with_end so.before out
      → HaveRisen jo.counts → AppendsSome text jo.before jo.after → WrittenView status out kept so jo ended

pub written-view : (status : ℕ) (out : List ℕ) (kept : Option (List ℕ)) (so jo : SinkState) (ended : ℕ)
    → HasWrittenOut status out kept so jo ended → WrittenView status out kept so jo ended
written-view status out kept so jo ended (writing.whole wrote keeps) = whole refl wrote keeps
written-view status out kept so jo ended (writing.out_fault rose front none) = out_failed refl rose front none
written-view status out kept so jo ended (writing.journal_fault text is wrote rose front) =
    journal_failed text refl is wrote rose front

-- ---- where memory was wanting

-- what became of some first items
pub record CarriedSome (i : Inputs) (task : Task) (journal : Journal) (taken : Option (List ScriptItem))
    (a : Acceptance)
    : Type 0 where
  pub runs : RunsScript task
  pub first : LedgerState
  pub begins : BeginsBy (row task).third a i.third.text first
  pub items : List ScriptItem
  pub script : CarriesBy (row task).threads taken (script_of task i.script.text) items
  pub gathered : IsGathered (row task).threads (script_of task i.script.text) items
  pub untaken : ¬ (IsPooled task) → taken ≡ None
  pub count : ℕ
  pub passages : List Passage
  pub last : LedgerState
  pub tells : TellsFrom a first (take count items) journal passages last
  pub limit : journal.limit ≡ limit_of task
  pub follows : (policy : Policy) → IsByOne task policy → FollowPolicy policy a passages

-- nothing was carried out, and nothing was taken
pub record Unbegun (journal : Journal) (took : Option (List ScriptItem)) : Type 0 where
  pub entries : journal.entries ≡ []
  pub taken : took ≡ None

pub data PartView (words : List (List ℕ)) (i : Inputs) (accepted : Option Acceptance) (journal : Journal)
    (taken : Option (List ScriptItem)) : Type 0 where
  nothing : accepted ≡ None → Unbegun journal taken → PartView words i accepted journal taken
  some : (task : Task) (a : Acceptance) → Asks words task → ¬ (IsAlone task) → accepted ≡ Some a
      → IsGivenFor task (contract_of task i.contract.text) a
      → Unbegun journal taken ⊎ CarriedSome i task journal taken a → PartView words i accepted journal taken

run-part : (i : Inputs) (file script : List ℕ) (by : Workers) (steps : ℕ) (journal : Option (List ℕ)) (a : Acceptance)
    (made : Journal) → IsRunPart a (run_orders by steps journal) i.script made
    → Unbegun made None ⊎ CarriedSome i (run file script by steps journal) made None a
run-part i file script by steps journal a made runs.not_run = inl (record { entries = refl; taken = refl })
run-part i file script by steps journal a made (runs.ran_part items count j ps last reads is) =
    inr (record {
      runs = tt;
      first = empty_ledger;
      begins = refl;
      items = items;
      script = reads;
      gathered = tt;
      untaken = λ none. refl;
      count = count;
      passages = ps;
      last = last;
      tells = is.tells;
      limit = is.limit;
      follows = λ policy one. is.follows policy (by-crew file script by steps journal policy one);
    })

bench-part : (i : Inputs) (seed bidders : ℕ) (a : Acceptance) (made : Journal)
    → IsBenchPart a bench_orders (record { seed = seed; bidders = bidders }) made
    → Unbegun made None ⊎ CarriedSome i (bench seed bidders) made None a
bench-part i seed bidders a made benches.not_run = inl (record { entries = refl; taken = refl })
bench-part i seed bidders a made (benches.ran_part items count j ps last reads is) =
    inr (record {
      runs = tt;
      first = empty_ledger;
      begins = refl;
      items = items;
      script = reads;
      gathered = tt;
      untaken = λ none. refl;
      count = count;
      passages = ps;
      last = last;
      tells = is.tells;
      limit = is.limit;
      follows = λ policy one. is.follows policy (ap (λ p. crews.One p) (sym one));
    })

pool-part : (i : Inputs) (file script : List ℕ) (threads : ℕ) (a : Acceptance) (made : Journal)
    (taken : Option (List ScriptItem)) → IsPoolPart a threads i.script made taken
    → Unbegun made taken ⊎ CarriedSome i (pool file script threads) made taken a
pool-part i file script threads a made taken pools.not_gathered = inl (record { entries = refl; taken = refl })
pool-part i file script threads a made taken (pools.ran_part items pooled count j ps last reads fair is) =
    inr (record {
      runs = tt;
      first = empty_ledger;
      begins = refl;
      items = pooled;
      script = refl;
      gathered = (items, reads, fair);
      untaken = λ none. absurd (none tt);
      count = count;
      passages = ps;
      last = last;
      tells = is.tells;
      limit = is.limit;
      follows = by-usual a ps is.follows;
    })

talk-part : (i : Inputs) (file script name proc text : List ℕ) (a : Acceptance) (made : Journal)
    → IsRunPart a usual_orders i.script made
    → Unbegun made None ⊎ CarriedSome i (talk file script name proc text) made None a
talk-part i file script name proc text a made runs.not_run = inl (record { entries = refl; taken = refl })
talk-part i file script name proc text a made (runs.ran_part items count j ps last reads is) =
    inr (record {
      runs = tt;
      first = empty_ledger;
      begins = refl;
      items = items;
      script = reads;
      gathered = tt;
      untaken = λ none. refl;
      count = count;
      passages = ps;
      last = last;
      tells = is.tells;
      limit = is.limit;
      follows = by-usual a ps is.follows;
    })

save-part : (i : Inputs) (file script snapshot : List ℕ) (a : Acceptance) (made : Journal)
    → IsRunPart a usual_orders i.script made
    → Unbegun made None ⊎ CarriedSome i (save file script snapshot) made None a
save-part i file script snapshot a made runs.not_run = inl (record { entries = refl; taken = refl })
save-part i file script snapshot a made (runs.ran_part items count j ps last reads is) =
    inr (record {
      runs = tt;
      first = empty_ledger;
      begins = refl;
      items = items;
      script = reads;
      gathered = tt;
      untaken = λ none. refl;
      count = count;
      passages = ps;
      last = last;
      tells = is.tells;
      limit = is.limit;
      follows = by-usual a ps is.follows;
    })

resume-part : (i : Inputs) (file snapshot script : List ℕ) (a : Acceptance) (made : Journal)
    → IsResumePart a i.third i.script made
    → Unbegun made None ⊎ CarriedSome i (resume file snapshot script) made None a
resume-part i file snapshot script a made resumes.not_run = inl (record { entries = refl; taken = refl })
resume-part i file snapshot script a made (resumes.ran_part first items count j ps last loads reads is) =
    inr (record {
      runs = tt;
      first = first;
      begins = loads;
      items = items;
      script = reads;
      gathered = tt;
      untaken = λ none. refl;
      count = count;
      passages = ps;
      last = last;
      tells = is.tells;
      limit = is.limit;
      follows = by-usual a ps is.follows;
    })

task-part : (words : List (List ℕ)) (i : Inputs) (task : Task) (accepted : Option Acceptance) (journal : Journal)
    (taken : Option (List ScriptItem)) → Asks words task → IsTaskPart i task accepted journal taken
    → PartView words i accepted journal taken
task-part words i task accepted journal taken asks (outcome.nothing t) =
    nothing refl (record { entries = refl; taken = refl })
task-part words i task accepted journal taken asks (outcome.run_part file script by steps kept a made is part) =
    some task a asks (λ no. no) refl is (run-part i file script by steps kept a journal part)
task-part words i task accepted journal taken asks (outcome.replay_part file script read a is) =
    some task a asks (λ no. no) refl is (inl (record { entries = refl; taken = refl }))
task-part words i task accepted journal taken asks (outcome.bench_part seed bidders a made is part) =
    some task a asks (λ no. no) refl is (bench-part i seed bidders a journal part)
task-part words i task accepted journal taken asks (outcome.pool_part file script threads a made took is part) =
    some task a asks (λ no. no) refl is (pool-part i file script threads a journal taken part)
task-part words i task accepted journal taken asks (outcome.talk_part file script name proc text a made is part) =
    some task a asks (λ no. no) refl is (talk-part i file script name proc text a journal part)
task-part words i task accepted journal taken asks (outcome.save_part file script snapshot a made is part) =
    some task a asks (λ no. no) refl is (save-part i file script snapshot a journal part)
task-part words i task accepted journal taken asks (outcome.resume_part file snapshot script a made is part) =
    some task a asks (λ no. no) refl is (resume-part i file snapshot script a journal part)

pub part-view : (words : List (List ℕ)) (i : Inputs) (accepted : Option Acceptance) (journal : Journal)
    (taken : Option (List ScriptItem)) → IsPart words i accepted journal taken
    → PartView words i accepted journal taken
part-view words i accepted journal taken (outcome.no_task none) =
    nothing refl (record { entries = refl; taken = refl })
part-view words i accepted journal taken (outcome.asked_part task acc j took asks part) =
    task-part words i task accepted journal taken asks part

-- ---- how a call ended

-- all was written
pub record Whole (c : Call) (t : Texts) : Type 0 where
  pub out : List ℕ
  pub kept : Option (List ℕ)
  pub view : WordsView c.words (inputs_of c t) (outcome_with c c.status out kept)
  pub wrote : c.out.after ≡ with_end c.out.before out
  pub keeps : c.journal_out.after ≡ with_text c.journal_out.before kept

-- a sink failed
pub record Failed (c : Call) (t : Texts) : Type 0 where
  pub is : c.status ≡ 6
  pub status : ℕ
  pub out : List ℕ
  pub kept : Option (List ℕ)
  pub due : IsDueOf c (inputs_of c t) status out kept
  pub view : WordsView c.words (inputs_of c t) (outcome_with c status out kept)
  pub written : WrittenView status out kept c.out c.journal_out c.status

-- memory was wanting
pub record Wanting (c : Call) (t : Texts) : Type 0 where
  pub is : c.status ≡ 7
  pub out : c.out.after ≡ c.out.before
  pub journal_out : c.journal_out.after ≡ c.journal_out.before
  pub view : PartView c.words (inputs_of c t) c.accepted c.journal c.taken

pub data EndView (c : Call) (t : Texts) : Type 0 where
  all : Whole c t → EndView c t
  failed : Failed c t → EndView c t
  wanting : Wanting c t → EndView c t

ended : (c : Call) (t : Texts) (status : ℕ) (out : List ℕ) (kept : Option (List ℕ))
    → IsDueOf c (inputs_of c t) status out kept → WrittenView status out kept c.out c.journal_out c.status → EndView c t
ended c t status out kept due (whole same wrote keeps) =
    all (record {
      out = out;
      kept = kept;
      view =
          subst (λ (s : ℕ). WordsView c.words (inputs_of c t) (outcome_with c s out kept)) (sym same)
          (words-view c.words (inputs_of c t) (outcome_with c status out kept) due);
      wrote = wrote;
      keeps = keeps;
    })
ended c t status out kept due (out_failed is rose front none) =
    failed (record {
      is = is;
      status = status;
      out = out;
      kept = kept;
      due = due;
      view = words-view c.words (inputs_of c t) (outcome_with c status out kept) due;
      written = out_failed is rose front none;
    })
ended c t status out kept due (journal_failed text is has wrote rose front) =
    failed (record {
      is = is;
      status = status;
      out = out;
      kept = kept;
      due = due;
      view = words-view c.words (inputs_of c t) (outcome_with c status out kept) due;
      written = journal_failed text is has wrote rose front;
    })

end-either : (c : Call) (t : Texts) → EndsWritten c (inputs_of c t) ⊎ EndsWithoutMemory c (inputs_of c t) → EndView c t
end-either c t (inl e) =
    ended c t e.status e.out e.kept e.due
    (written-view e.status e.out e.kept c.out c.journal_out c.status e.written)
end-either c t (inr e) =
    wanting (record {
      is = e.status;
      out = e.out;
      journal_out = e.journal_out;
      view = part-view c.words (inputs_of c t) c.accepted c.journal c.taken e.part;
    })

pub end-view : (c : Call) (t : Texts) → EndsOn c t → EndView c t
end-view c t e = end-either c t e.ends
