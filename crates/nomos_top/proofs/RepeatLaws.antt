-- Two calls of the same words on the same texts end alike, where nobody is waited for.
use Rattle.std.proofs.Common.{◌≡◌, ◌∙◌, ◌⊎◌, inl, inr, ℕ, List, ◌++◌, length, Bool, Option, Some, None, Ok, Err, refl, sym, ap, subst, arith}
use Rattle.std.specs.Prelude.{codes, decimal}
use Rattle.nomos_accept.proofs.RowListLaws.{ends-once}
use Rattle.nomos_answers.proofs.ReplayLaws.{legal-not_refused, legal-one}
use Rattle.nomos_answers.specs.DueLines as lines
use Rattle.nomos_answers.specs.DueLines.{IsNoScript, script_refusal}
use Rattle.nomos_answers.specs.Outside.{Input}
use Rattle.nomos_answers.specs.RunsDue.{HasRun, usual_orders}
use Rattle.nomos_answers.specs.SnapshotLines.{unloaded_line, unsaved_line}
use Rattle.nomos_answers.specs.TalkDue as talking
use Rattle.nomos_answers.specs.TalkDue.{IsNoTalk, talk_status}
use Rattle.nomos_least.proofs.OneLeastLaws.{least_ends-once}
use Rattle.nomos_least.specs.LeastBounds.{IsLeastAs}
use Rattle.nomos_least.specs.declared.least.LeastBounds.{LeastBounds}
use Rattle.nomos_legal.proofs.OneJournalLaws.{follows-one_journal}
use Rattle.nomos_legal.proofs.UniqueLaws.{tells-one}
use Rattle.nomos_legal.specs.Ledger.{LedgerState}
use Rattle.nomos_legal.specs.Legal.{TellsFrom}
use Rattle.nomos_legal.specs.Passage.{Passage}
use Rattle.nomos_legal.specs.declared.journal.Journal.{Journal}
use Rattle.nomos_machine.specs.declared.policy.Policy.TheVariants.{First}
use Rattle.nomos_monitor.specs.TalkCourse.{TalkReply}
use Rattle.nomos_replay.proofs.OneAnswerLaws.{answers-one}
use Rattle.nomos_replay.specs.Answers.{Answers}
use Rattle.nomos_replay.specs.Refusal.{refusal_line}
use Rattle.nomos_replay.specs.declared.error.ReplayError.{ReplayError}
use Rattle.nomos_report.specs.Block.{accepted_block}
use Rattle.nomos_report.specs.Reported.{report_of, run_status}
use Rattle.nomos_script.proofs.ReadingLaws.{reads_once, syntax_once}
use Rattle.nomos_script.proofs.TalkLaws.{answers_once}
use Rattle.nomos_script.specs.ScriptReading.{IsSyntaxAt, ReadsAs}
use Rattle.nomos_script.specs.TalkReading.{IsFormlessAt}
use Rattle.nomos_script.specs.declared.item.ScriptItem.{ScriptItem}
use Rattle.nomos_script.specs.declared.talk_line.TalkLine.{TalkLine}
use Rattle.nomos_script.specs.declared.talk_parsing.TalkError.TheVariants as talk_error
use Rattle.nomos_simplex.specs.declared.solved.Proof.{Proof}
use Rattle.nomos_simplex.specs.declared.solved.Solved.TheVariants as solved
use Rattle.nomos_simplex.specs.declared.solved.SolvedLeast.TheVariants as least_solved
use Rattle.nomos_simplex.specs.declared.solved.Stop.{Stop}
use Rattle.nomos_snapshot.proofs.LoadingLaws.{loads-one}
use Rattle.nomos_snapshot.specs.Saving.{Saves}
use Rattle.nomos_top.proofs.CauseLemmas.{cause-no_stop_for, given-no_cause, given-no_stop, given-one, least-same, least-stops, stops}
use Rattle.nomos_top.proofs.EndLaws.{bad-unread, journal-script, reads-script, saved-script}
use Rattle.nomos_top.proofs.OneDueLaws.{begins-one, holds-one, saves-one, talk-not_missing, talk-reads_once, usual-one}
use Rattle.nomos_top.proofs.RefusalLaws.{one-refusal}
use Rattle.nomos_top.proofs.TaskLaws.{journal-unsaved, keeps-kinds, one-third, saved-run, snapshot-begins, snapshot-unsaved, talk-no_snapshot, talk-says, talk-unsaved, unpooled-alone}
use Rattle.nomos_top.proofs.Views as view
use Rattle.nomos_top.proofs.Views.{Against, Alone, Carried, DueView, EndView, Further, Idle, Missed, TalkSeen, Whole, WordsView, end-view}
use Rattle.nomos_top.specs.Call.{EndsOn, inputs_of, outcome_with}
use Rattle.nomos_top.specs.Headline.{CarriesBy}
use Rattle.nomos_top.specs.Kept.{IsOwn}
use Rattle.nomos_top.specs.LeastBlock.{least_block, least_line, proof_lines}
use Rattle.nomos_top.specs.Outcome.{Outcome}
use Rattle.nomos_top.specs.Refusal.{unsolved_line}
use Rattle.nomos_top.specs.Repeating.{HasGot, KeepTheSame, Repeats}
use Rattle.nomos_top.specs.Replaying.{DoesTheSame}
use Rattle.nomos_top.specs.Seen.{Call, Texts, Fails, HasWritten}
use Rattle.nomos_top.specs.Shown.{told_of}
use Rattle.nomos_top.specs.TaskRuns.{HasLeastStopped, HasStopped, HasStoppedFor, IsGivenFor, limit_of}
use Rattle.nomos_top.specs.Tasks.{IsPooled, Keeps, KeepsJournal, KeepsSnapshot, ReadsJournal, ReadsTalk, Waits, contract_of, script_of}
use Rattle.nomos_top.specs.Turns.{MayWait}
use Rattle.nomos_types.specs.Acceptance.{Acceptance, IsAccepted}
use Rattle.nomos_visit.specs.TalkText.{talk_line_text, turns_of}
use Rattle.nomos_visit.specs.Visits.{HoldsTalkIn, told_of_talk}
use Rattle.nomos_walk.specs.Wanted.{journal_text_of}
use Rattle.nomos_words.proofs.WordLaws.{one_task}
use Rattle.nomos_words.specs.Commands.{IsSubmitted, row}
use Rattle.nomos_words.specs.Options.{usual_limit}
use Rattle.nomos_words.specs.Words.{Task, check, run, replay, bench, least, pool, talk, save, resume}
use Rattle.nomos_words.specs.declared.workers.Workers.TheVariants as workers

-- ---- what is due, twice

-- it is the same, or one of both tells that a source failed
abbrev Alike : Outcome → Outcome → Type 0
Alike o p = (o ≡ p) ⊎ ((o.status ≡ 5) ⊎ (p.status ≡ 5))

same-outcome : (o p : Outcome) → o.status ≡ p.status → o.out ≡ p.out → o.kept ≡ p.kept → o.accepted ≡ p.accepted
    → o.journal ≡ p.journal → o.taken ≡ p.taken → o ≡ p
same-outcome o p statuses outs texts programs journals takes =
    λ i. record {
      status = statuses i;
      out = outs i;
      kept = texts i;
      accepted = programs i;
      journal = journals i;
      taken = takes i;
    }

idle-journal : {o p : Outcome} {n : ℕ} → Idle o n → Idle p n → o.journal ≡ p.journal
idle-journal idle other =
    let limits = idle.limit ∙ sym other.limit in
    let entries = idle.entries ∙ sym other.entries in
    λ i. record { limit = limits i; entries = entries i }

idle-alike : (o p : Outcome) {n : ℕ} → Idle o n → Idle p n → o.status ≡ p.status → o.out ≡ p.out
    → o.accepted ≡ p.accepted → Alike o p
idle-alike o p idle other statuses outs programs =
    inl
    (same-outcome o p statuses outs (idle.kept ∙ sym other.kept) programs (idle-journal idle other)
    (idle.taken ∙ sym other.taken))

-- ---- stops and blocks

stop-one : (text : List ℕ) (s u : Stop) → HasStopped text s → HasStopped text u → s ≡ u
stop-one text s u one two =
    let same : solved.Unsolved s ≡ solved.Unsolved u =
    ends-once one.0 (solved.Unsolved s) (solved.Unsolved u) one.2.ends (stops text one.0 u one.1 two) in
    cc

least_stop-one : (text : List ℕ) (s u : Stop) → HasLeastStopped text s → HasLeastStopped text u → s ≡ u
least_stop-one text s u one two =
    let same : least_solved.Unsolved s ≡ least_solved.Unsolved u =
    least_ends-once one.0 (least_solved.Unsolved s) (least_solved.Unsolved u) one.2.ends
    (least-stops text one.0 u one.1 two) in
    cc

stop_for-one : (task : Task) (text : List ℕ) (s u : Stop) → HasStoppedFor task text s → HasStoppedFor task text u
    → s ≡ u
stop_for-one (check file) text s u one two = stop-one text s u one two
stop_for-one (run file script by steps journal) text s u one two = stop-one text s u one two
stop_for-one (replay file script journal) text s u one two = stop-one text s u one two
stop_for-one (bench seed bidders) text s u one two = stop-one text s u one two
stop_for-one (pool file script threads) text s u one two = stop-one text s u one two
stop_for-one (talk file script name proc words) text s u one two = stop-one text s u one two
stop_for-one (save file script snapshot) text s u one two = stop-one text s u one two
stop_for-one (resume file snapshot script) text s u one two = stop-one text s u one two
stop_for-one (least file) text s u one two = least_stop-one text s u one two

-- what is printed of least bounds, of the two parts that they are printed of
abbrev block_of : Acceptance → Proof → List ℕ
block_of a proof = accepted_block a ++ least_line proof.total a.annotations.unit ++ proof_lines proof

least_block-one : (text : List ℕ) (b k : LeastBounds) → IsLeastAs text b → IsLeastAs text k
    → least_block b ≡ least_block k
least_block-one text b k one two =
    let (programs, proofs) = least-same text b k one two in
    ap (λ (a : Acceptance). block_of a b.proof) programs ∙ ap (λ (p : Proof). block_of k.accepted p) proofs

-- ---- scripts that do not read

bad_line-one : (script other : Input) → script.text ≡ other.text → (line also : List ℕ) → IsNoScript script 2 line
    → IsNoScript other 2 also → line ≡ also
bad_line-one script other same line also (lines.too_long over) (lines.too_long over2) = refl
bad_line-one script other same line also (lines.too_long over) (lines.syntax k (inl bad)) =
    absurd (omega (arith, over, bad.here.limit, ap (λ t. length t) same))
bad_line-one script other same line also (lines.too_long over) (lines.syntax k (inr bad)) =
    absurd (omega (arith, over, bad.here.limit, ap (λ t. length t) same))
bad_line-one script other same line also (lines.syntax k (inl bad)) (lines.too_long over) =
    absurd (omega (arith, over, bad.here.limit, ap (λ t. length t) same))
bad_line-one script other same line also (lines.syntax k (inr bad)) (lines.too_long over) =
    absurd (omega (arith, over, bad.here.limit, ap (λ t. length t) same))
bad_line-one script other same line also (lines.syntax k bad) (lines.syntax m worse) =
    let here = subst (λ (t : List ℕ). IsSyntaxAt t m) (sym same) worse in
    ap (λ (n : ℕ). script_refusal (codes "Syntax " ++ decimal n)) (syntax_once script.text k m bad here)

-- so do what is said in talks
bad_talk-one : (text other : Input) → text.text ≡ other.text → (line also : List ℕ) → IsNoTalk text 10 line
    → IsNoTalk other 10 also → line ≡ also
bad_talk-one text other same line also (talking.too_long over) (talking.too_long over2) = refl
bad_talk-one text other same line also (talking.too_long over) (talking.syntax k bad) =
    absurd (omega (arith, over, bad.here.limit, ap (λ t. length t) same))
bad_talk-one text other same line also (talking.syntax k bad) (talking.too_long over) =
    absurd (omega (arith, over, bad.here.limit, ap (λ t. length t) same))
bad_talk-one text other same line also (talking.syntax k bad) (talking.syntax m worse) =
    let here = subst (λ (t : List ℕ). IsFormlessAt t m) (sym same) worse in
    let both : Err (talk_error.Syntax k) ≡ Err (talk_error.Syntax m) =
    answers_once text.text (Err (talk_error.Syntax k)) (Err (talk_error.Syntax m)) bad here in
    let lines : k ≡ m = cc in
    ap (λ (n : ℕ). talk_line_text (codes "refused Syntax " ++ decimal n)) lines

-- ---- journals

-- the text of a legal journal is not refused
journal-not_refused : (task : Task) (a : Acceptance) → IsAccepted a → ReadsJournal task → (script : List ℕ)
    (items : List ScriptItem) → ReadsAs script items → (text : List ℕ) (journal : Journal)
    → IsOwn task a items text journal → (why : ReplayError) → ¬ (Answers a items text (Err why))
journal-not_refused (check file) a accepted reads script items is text journal own why refused = absurd reads
journal-not_refused (run file words by steps kept) a accepted reads script items is text journal own why refused =
    absurd reads
journal-not_refused (replay file words kept) a accepted reads script items is text journal own why refused =
    legal-not_refused accepted script is own.1 refused
journal-not_refused (bench seed bidders) a accepted reads script items is text journal own why refused = absurd reads
journal-not_refused (pool file words threads) a accepted reads script items is text journal own why refused =
    absurd reads
journal-not_refused (talk file words name proc says) a accepted reads script items is text journal own why refused =
    absurd reads
journal-not_refused (save file words snapshot) a accepted reads script items is text journal own why refused =
    absurd reads
journal-not_refused (resume file snapshot words) a accepted reads script items is text journal own why refused =
    absurd reads
journal-not_refused (least file) a accepted reads script items is text journal own why refused = absurd reads

-- what became of a script: one journal, one row of passages and one last ledger
abbrev OneCourse : Journal → Journal → List Passage → List Passage → LedgerState → LedgerState → Type 0
OneCourse journal other ps qs last m = (journal ≡ other) × (ps ≡ qs) × (last ≡ m)

told-course : {a : Acceptance} {first : LedgerState} {items : List ScriptItem} {journal other : Journal}
    {ps qs : List Passage} {last m : LedgerState} → TellsFrom a first items journal ps last
    → TellsFrom a first items other qs m → journal ≡ other → OneCourse journal other ps qs last m
told-course {a} {first} {items} {journal} {other} {ps} {qs} {last} {m} one two same =
    let both = tells-one one (subst (λ (j : Journal). TellsFrom a first items j qs m) (sym same) two) in
    (same, both.0, both.1)

-- ---- two calls of the same words on the same texts

module _ (c d : Call) (t : Texts) where
  against-alike : (task : Task) (o p : Outcome) → Against (inputs_of c t) task o → Idle o (limit_of task)
      → o.accepted ≡ None → Against (inputs_of d t) task p → Idle p (limit_of task) → p.accepted ≡ None → Alike o p
  against-alike task o p (view.fault reads rose five is) idle none other idle2 none2 = inr (inl five)
  against-alike task o p (view.refused why h one is) idle none (view.fault reads rose five is2) idle2 none2 =
      inr (inr five)
  against-alike task o p (view.refused why h one is) idle none (view.refused why2 h2 one2 is2) idle2 none2 =
      let lines = one-refusal (contract_of task t.contract) why why2 h.cause h2.cause in
      idle-alike o p idle idle2 (one ∙ sym one2) (is ∙ lines ∙ sym is2) (none ∙ sym none2)
  against-alike task o p (view.refused why h one is) idle none (view.unsolved stop stopped eight is2) idle2 none2 =
      absurd (cause-no_stop_for task (contract_of task t.contract) why stop h.cause stopped)
  against-alike task o p (view.unsolved stop stopped eight is) idle none (view.fault reads rose five is2) idle2 none2 =
      inr (inr five)
  against-alike task o p (view.unsolved stop stopped eight is) idle none (view.refused why h one is2) idle2 none2 =
      absurd (cause-no_stop_for task (contract_of task t.contract) why stop h.cause stopped)
  against-alike task o p (view.unsolved stop stopped eight is) idle none (view.unsolved stop2 stopped2 eight2 is2) idle2
      none2 =
      let same = stop_for-one task (contract_of task t.contract) stop stop2 stopped stopped2 in
      idle-alike o p idle idle2 (eight ∙ sym eight2) (is ∙ ap (λ (s : Stop). unsolved_line s) same ∙ sym is2)
      (none ∙ sym none2)

  -- where a program is given, the contract alone can have failed
  given-against : (task : Task) (k : Call) (o : Outcome) (a : Acceptance)
      → IsGivenFor task (contract_of task t.contract) a → Against (inputs_of k t) task o → o.status ≡ 5
  given-against task k o a given (view.fault reads rose five is) = five
  given-against task k o a given (view.refused why h one is) =
      absurd (given-no_cause task (contract_of task t.contract) a why given h.cause)
  given-against task k o a given (view.unsolved stop stopped eight is) =
      absurd (given-no_stop task (contract_of task t.contract) a stop given stopped)

  alone-out : (task : Task) (o p : Outcome) (a b : Acceptance) → Alone (inputs_of c t) task o a
      → Alone (inputs_of d t) task p b → a ≡ b → o.out ≡ p.out
  alone-out task o p a b (view.checked file is out) (view.checked file2 is2 out2) same =
      out ∙ ap (λ (x : Acceptance). accepted_block x) same ∙ sym out2
  alone-out task o p a b (view.checked file is out) (view.bounded file2 e is2 gives h out2) same =
      absurd (let tasks : check file ≡ least file2 = sym is ∙ is2 in cc)
  alone-out task o p a b (view.bounded file e is gives h out) (view.checked file2 is2 out2) same =
      absurd (let tasks : check file2 ≡ least file = sym is2 ∙ is in cc)
  alone-out task o p a b (view.bounded file e is gives h out) (view.bounded file2 e2 is2 gives2 h2 out2) same =
      out ∙ least_block-one t.contract e e2 h h2 ∙ sym out2

  -- ---- of what was carried out

  -- the items, where no threads submit
  carried-reads : (k : Call) (task : Task) → ¬ (IsPooled task) → (a : Acceptance) (o : Outcome)
      (r : Carried (inputs_of k t) task o a) → ReadsAs (script_of task t.script) r.items
  carried-reads k task alone a o r =
      subst (λ (n : Option ℕ). CarriesBy n o.taken (script_of task t.script) r.items) (unpooled-alone task alone)
      r.script

  -- what became of a script is one: for a replay it is what its text tells, and otherwise one worker fires
  course-one : (task : Task) → ¬ (Waits task) → (a : Acceptance) → IsAccepted a → (o p : Outcome)
      → (r : Carried (inputs_of c t) task o a) → (q : Carried (inputs_of d t) task p a)
      → TellsFrom a r.first r.items p.journal q.passages q.last → IsOwn task a r.items t.third p.journal
      → OneCourse o.journal p.journal r.passages q.passages r.last q.last
  course-one (check file) one a accepted o p r q tells own = absurd (r.scripted tt)
  course-one (run file script (workers.One policy) steps kept) one a accepted o p r q tells own =
      follows-one_journal policy r.tells tells (r.own ∙ sym own) (r.follows policy refl) (q.follows policy refl)
  course-one (run file script (workers.Many count) steps kept) one a accepted o p r q tells own =
      absurd (one (inl tt))
  course-one (replay file script kept) one a accepted o p r q tells own =
      told-course r.tells tells (legal-one accepted t.script r.script r.own.1 own.1).0
  course-one (bench seed bidders) one a accepted o p r q tells own =
      follows-one_journal First r.tells tells (r.own ∙ sym own) (r.follows First refl) (q.follows First refl)
  course-one (least file) one a accepted o p r q tells own = absurd (r.scripted tt)
  course-one (pool file script threads) one a accepted o p r q tells own = absurd (one (inr tt))
  course-one (talk file script name proc text) one a accepted o p r q tells own =
      follows-one_journal First r.tells tells (r.own ∙ sym own) (r.follows First refl) (q.follows First refl)
  course-one (save file script snapshot) one a accepted o p r q tells own =
      follows-one_journal First r.tells tells (r.own ∙ sym own) (r.follows First refl) (q.follows First refl)
  course-one (resume file snapshot script) one a accepted o p r q tells own =
      follows-one_journal First r.tells tells (r.own ∙ sym own) (r.follows First refl) (q.follows First refl)

  -- what is kept
  kept-one : (task : Task) (a : Acceptance) (o p : Outcome) (r : Carried (inputs_of c t) task o a)
      (q : Carried (inputs_of d t) task p a)
      → OneCourse o.journal p.journal r.passages q.passages r.last q.last
      → KeepsJournal task ⊎ (KeepsSnapshot task ⊎ ¬ (Keeps task)) → o.kept ≡ p.kept
  kept-one task a o p r q (journals, passages, lasts) (inl keeps) =
      r.keeps keeps ∙ ap (λ (j : Journal). Some (journal_text_of a j.limit r.passages)) journals
      ∙ ap (λ (ps : List Passage). Some (journal_text_of a p.journal.limit ps)) passages ∙ sym (q.keeps keeps)
  kept-one task a o p r q (journals, passages, lasts) (inr (inl keeps)) =
      let mine = r.saves keeps in
      let theirs = q.saves keeps in
      let here : Saves a q.last (Ok mine.text) = subst (λ (l : LedgerState). Saves a l (Ok mine.text)) lasts
      mine.saves in
      let both : Ok mine.text ≡ Ok theirs.text = saves-one here theirs.saves in
      let texts : mine.text ≡ theirs.text = cc in
      mine.kept ∙ ap (λ (x : List ℕ). Some x) texts ∙ sym theirs.kept
  kept-one task a o p r q course (inr (inr drops)) = r.drops drops ∙ sym (q.drops drops)

  -- what is written, and the status
  abbrev ToldAlike : Outcome → Outcome → Type 0
  ToldAlike o p = (o.status ≡ p.status) × (o.out ≡ p.out)

  quiet-told : (task : Task) → ¬ (ReadsTalk task) → (a : Acceptance) (o p : Outcome)
      (r : Carried (inputs_of c t) task o a) (q : Carried (inputs_of d t) task p a)
      → OneCourse o.journal p.journal r.passages q.passages r.last q.last → ToldAlike o p
  quiet-told task quiet a o p r q course = (
    r.status quiet ∙ ap (λ (j : Journal). run_status j.entries) course.0 ∙ sym (q.status quiet),
    r.out quiet ∙ ap (λ (j : Journal). told_of task a j r.passages r.last) course.0
        ∙ ap (λ (ps : List Passage). told_of task a p.journal ps r.last) course.1
        ∙ ap (λ (l : LedgerState). told_of task a p.journal q.passages l) course.2 ∙ sym (q.out quiet),
  )

  talk-told : (a : Acceptance) → IsAccepted a → (o p : Outcome) (name proc : List ℕ) (ps qs : List Passage)
      (last m : LedgerState) → TalkSeen (inputs_of c t) o a ps last name proc
      → TalkSeen (inputs_of d t) p a qs m name proc → OneCourse o.journal p.journal ps qs last m → ToldAlike o p
  talk-told a accepted o p name proc ps qs last m mine theirs (journals, passages, lasts) =
      let lines : mine.lines ≡ theirs.lines = talk-reads_once t.third mine.lines theirs.lines mine.reads theirs.reads in
      let there : HoldsTalkIn a m name proc usual_limit (turns_of a.program theirs.lines) mine.fine mine.replies =
      subst (λ (ls : List (ℕ × TalkLine)). HoldsTalkIn a m name proc usual_limit (turns_of a.program ls) mine.fine
      mine.replies) lines
      (subst (λ (l : LedgerState). HoldsTalkIn a l name proc usual_limit (turns_of a.program mine.lines) mine.fine
      mine.replies) lasts mine.holds) in
      let (ends, replies) = holds-one accepted there theirs.holds in (
        mine.status
            ∙ ap (λ (j : Journal). talk_status mine.fine j.entries) journals
            ∙ ap (λ (b : Bool). talk_status b p.journal.entries) ends ∙ sym theirs.status,
        mine.out
            ∙ ap (λ (xs : List Passage). report_of a xs ++ told_of_talk a mine.lines mine.replies) passages
            ∙ ap (λ (ls : List (ℕ × TalkLine)). report_of a qs ++ told_of_talk a ls mine.replies) lines
            ∙ ap (λ (rs : List TalkReply). report_of a qs ++ told_of_talk a theirs.lines rs) replies ∙ sym theirs.out,
      )

  told-one : (task : Task) (a : Acceptance) → IsAccepted a → (o p : Outcome) (r : Carried (inputs_of c t) task o a)
      (q : Carried (inputs_of d t) task p a)
      → OneCourse o.journal p.journal r.passages q.passages r.last q.last → ToldAlike o p
  told-one (check file) a accepted o p r q course = quiet-told (check file) (λ no. no) a o p r q course
  told-one (run file script by steps kept) a accepted o p r q course =
      quiet-told (run file script by steps kept) (λ no. no) a o p r q course
  told-one (replay file script kept) a accepted o p r q course =
      quiet-told (replay file script kept) (λ no. no) a o p r q course
  told-one (bench seed bidders) a accepted o p r q course =
      quiet-told (bench seed bidders) (λ no. no) a o p r q course
  told-one (least file) a accepted o p r q course = quiet-told (least file) (λ no. no) a o p r q course
  told-one (pool file script threads) a accepted o p r q course =
      quiet-told (pool file script threads) (λ no. no) a o p r q course
  told-one (talk file script name proc text) a accepted o p r q course =
      talk-told a accepted o p name proc r.passages q.passages r.last q.last r.talks q.talks course
  told-one (save file script snapshot) a accepted o p r q course =
      quiet-told (save file script snapshot) (λ no. no) a o p r q course
  told-one (resume file snapshot script) a accepted o p r q course =
      quiet-told (resume file snapshot script) (λ no. no) a o p r q course

  carried-alike : (task : Task) → ¬ (Waits task) → (a : Acceptance) → IsAccepted a → (o p : Outcome)
      → o.accepted ≡ p.accepted → Carried (inputs_of c t) task o a → Carried (inputs_of d t) task p a → Alike o p
  carried-alike task one a accepted o p programs r q =
      let alone : ¬ (IsPooled task) = λ pooled. one (inr pooled) in
      let items : q.items ≡ r.items =
      reads_once (script_of task t.script) q.items r.items (carried-reads d task alone a p q)
      (carried-reads c task alone a o r) in
      let firsts : q.first ≡ r.first =
      begins-one (row task).third a t.third q.first r.first accepted q.begins r.begins in
      let tells : TellsFrom a r.first r.items p.journal q.passages q.last =
      subst (λ (l : LedgerState). TellsFrom a l r.items p.journal q.passages q.last) firsts
      (subst (λ (is : List ScriptItem). TellsFrom a q.first is p.journal q.passages q.last) items q.tells) in
      let own : IsOwn task a r.items t.third p.journal =
      subst (λ (is : List ScriptItem). IsOwn task a is t.third p.journal) items q.own in
      let course = course-one task one a accepted o p r q tells own in
      let told = told-one task a accepted o p r q course in
      inl
      (same-outcome o p told.0 told.1 (kept-one task a o p r q course (keeps-kinds task)) programs course.0
      (r.untaken alone ∙ sym (q.untaken alone)))

  -- ---- of what was not

  -- nothing is carried out of one call where the other was refused
  missed-carried : (task : Task) → ¬ (Waits task) → (a : Acceptance) → IsAccepted a → (k m : Call) (o : Outcome)
      → Carried (inputs_of k t) task o a → (status : ℕ) (line : List ℕ) → Missed (inputs_of m t) task a status line
      → status ≡ 5
  missed-carried task one a accepted k m o r status line (view.script_fault reads rose) = refl
  missed-carried task one a accepted k m o r status line (view.third_fault reads rose) = refl
  missed-carried task one a accepted k m o r status line (view.bad_script first l reads begins bad) =
      let h = carried-reads k task (λ pooled. one (inr pooled)) a o r in
      absurd
      (bad-unread (inputs_of m t).script r.items l bad
      (subst (λ (s : List ℕ). ReadsAs s r.items) (reads-script task t.script reads) h))
  missed-carried task one a accepted k m o r status line (view.no_pool threads items n reads has begins h bad) =
      absurd (one (inr (subst IsSubmitted (sym has) tt)))
  missed-carried task one a accepted k m o r status line (view.bad_journal items why reads h answers) =
      let here = reads-script task t.script (journal-script task reads) in
      let script : ReadsAs t.script r.items =
      subst (λ (s : List ℕ). ReadsAs s r.items) here (carried-reads k task (λ pooled. one (inr pooled)) a o r) in
      let same : items ≡ r.items = reads_once t.script items r.items h script in
      let refused = subst (λ (is : List ScriptItem). Answers a is t.third (Err why)) same answers in
      absurd (journal-not_refused task a accepted reads t.script r.items script t.third o.journal r.own why refused)
  missed-carried task one a accepted k m o r status line (view.bad_talk items l reads h bad) =
      let (lines, says) = talk-says task reads (inputs_of k t) o a r.passages r.last r.talks in
      absurd (talk-not_missing (inputs_of m t).third l lines bad says)
  missed-carried task one a accepted k m o r status line (view.unloaded why reads loads) =
      absurd
      (let both : Ok r.first ≡ Err why =
      loads-one accepted (snapshot-begins task reads a t.third r.first r.begins) loads in cc)
  missed-carried task one a accepted k m o r status line (view.unsaved items j ps last why keeps h ran bad) =
      let here = reads-script task t.script (saved-script task keeps) in
      let script : ReadsAs t.script r.items =
      subst (λ (s : List ℕ). ReadsAs s r.items) here (carried-reads k task (λ pooled. one (inr pooled)) a o r) in
      let same : r.items ≡ items = reads_once t.script r.items items script h in
      let mine : HasRun a items usual_orders o.journal r.passages r.last =
      subst (λ (is : List ScriptItem). HasRun a is usual_orders o.journal r.passages r.last) same
      (saved-run task keeps (inputs_of k t) o a r) in
      let ledgers : r.last ≡ last = (usual-one mine ran).2 in
      let saved = r.saves keeps in
      let refused : Saves a r.last (Err why) = subst (λ (l : LedgerState). Saves a l (Err why)) (sym ledgers) bad in
      absurd (let both : Ok saved.text ≡ Err why = saves-one saved.saves refused in cc)

  -- two refusals are one, unless a source failed
  abbrev MissedAlike : ℕ → List ℕ → ℕ → List ℕ → Type 0
  MissedAlike status line other also = ((status ≡ other) × (line ≡ also)) ⊎ ((status ≡ 5) ⊎ (other ≡ 5))

  missed-one : (task : Task) → ¬ (Waits task) → (a : Acceptance) → IsAccepted a → (status : ℕ) (line : List ℕ)
      (other : ℕ) (also : List ℕ) → Missed (inputs_of c t) task a status line
      → Missed (inputs_of d t) task a other also → MissedAlike status line other also
  missed-one task one a accepted status line other also (view.script_fault reads rose) two = inr (inl refl)
  missed-one task one a accepted status line other also (view.third_fault reads rose) two = inr (inl refl)
  missed-one task one a accepted status line other also (view.no_pool threads items n reads has begins h bad) two =
      absurd (one (inr (subst IsSubmitted (sym has) tt)))
  missed-one task one a accepted status line other also is (view.script_fault reads rose) = inr (inr refl)
  missed-one task one a accepted status line other also is (view.third_fault reads rose) = inr (inr refl)
  missed-one task one a accepted status line other also is (view.no_pool threads items n reads has begins h bad) =
      absurd (one (inr (subst IsSubmitted (sym has) tt)))
  missed-one task one a accepted status line other also (view.bad_script first l reads begins bad)
      (view.bad_script first2 l2 reads2 begins2 bad2) =
      inl (refl, bad_line-one (inputs_of c t).script (inputs_of d t).script refl l l2 bad bad2)
  missed-one task one a accepted status line other also (view.bad_script first l reads begins bad)
      (view.bad_journal items why reads2 h answers) =
      absurd (bad-unread (inputs_of c t).script items l bad h)
  missed-one task one a accepted status line other also (view.bad_script first l reads begins bad)
      (view.bad_talk items l2 reads2 h bad2) =
      absurd (bad-unread (inputs_of c t).script items l bad h)
  missed-one task one a accepted status line other also (view.bad_script first l reads begins bad)
      (view.unloaded why reads2 loads) =
      absurd
      (let both : Ok first ≡ Err why =
      loads-one accepted (snapshot-begins task reads2 a t.third first begins) loads in cc)
  missed-one task one a accepted status line other also (view.bad_script first l reads begins bad)
      (view.unsaved items j ps last why keeps h ran bad2) =
      absurd (bad-unread (inputs_of c t).script items l bad h)
  missed-one task one a accepted status line other also (view.bad_journal items why reads h answers)
      (view.bad_script first l reads2 begins bad) =
      absurd (bad-unread (inputs_of d t).script items l bad h)
  missed-one task one a accepted status line other also (view.bad_journal items why reads h answers)
      (view.bad_journal items2 why2 reads2 h2 answers2) =
      let same : items2 ≡ items = reads_once t.script items2 items h2 h in
      let there = subst (λ (is : List ScriptItem). Answers a is t.third (Err why2)) same answers2 in
      let told : Err why ≡ Err why2 = answers-one accepted answers there in
      let whys : why ≡ why2 = cc in
      inl (refl, ap (λ (w : ReplayError). refusal_line a.annotations.unit w) whys)
  missed-one task one a accepted status line other also (view.bad_journal items why reads h answers)
      (view.bad_talk items2 l2 reads2 h2 bad2) =
      absurd (one-third task reads (inl reads2))
  missed-one task one a accepted status line other also (view.bad_journal items why reads h answers)
      (view.unloaded why2 reads2 loads) =
      absurd (one-third task reads (inr reads2))
  missed-one task one a accepted status line other also (view.bad_journal items why reads h answers)
      (view.unsaved items2 j ps last why2 keeps h2 ran bad2) =
      absurd (journal-unsaved task reads keeps)
  missed-one task one a accepted status line other also (view.bad_talk items l reads h bad)
      (view.bad_script first l2 reads2 begins bad2) =
      absurd (bad-unread (inputs_of d t).script items l2 bad2 h)
  missed-one task one a accepted status line other also (view.bad_talk items l reads h bad)
      (view.bad_journal items2 why2 reads2 h2 answers2) =
      absurd (one-third task reads2 (inl reads))
  missed-one task one a accepted status line other also (view.bad_talk items l reads h bad)
      (view.bad_talk items2 l2 reads2 h2 bad2) =
      inl (refl, bad_talk-one (inputs_of c t).third (inputs_of d t).third refl l l2 bad bad2)
  missed-one task one a accepted status line other also (view.bad_talk items l reads h bad)
      (view.unloaded why2 reads2 loads) =
      absurd (talk-no_snapshot task reads reads2)
  missed-one task one a accepted status line other also (view.bad_talk items l reads h bad)
      (view.unsaved items2 j ps last why2 keeps h2 ran bad2) =
      absurd (talk-unsaved task reads keeps)
  missed-one task one a accepted status line other also (view.unloaded why reads loads)
      (view.bad_script first l2 reads2 begins bad2) =
      absurd
      (let both : Ok first ≡ Err why = loads-one accepted (snapshot-begins task reads a t.third first begins) loads in
      cc)
  missed-one task one a accepted status line other also (view.unloaded why reads loads)
      (view.bad_journal items2 why2 reads2 h2 answers2) =
      absurd (one-third task reads2 (inr reads))
  missed-one task one a accepted status line other also (view.unloaded why reads loads)
      (view.bad_talk items2 l2 reads2 h2 bad2) =
      absurd (talk-no_snapshot task reads2 reads)
  missed-one task one a accepted status line other also (view.unloaded why reads loads)
      (view.unloaded why2 reads2 loads2) =
      let both : Err why ≡ Err why2 = loads-one accepted loads loads2 in
      let whys : why ≡ why2 = cc in
      inl (refl, ap unloaded_line whys)
  missed-one task one a accepted status line other also (view.unloaded why reads loads)
      (view.unsaved items2 j ps last why2 keeps h2 ran bad2) =
      absurd (snapshot-unsaved task reads keeps)
  missed-one task one a accepted status line other also (view.unsaved items j ps last why keeps h ran bad)
      (view.bad_script first l2 reads2 begins bad2) =
      absurd (bad-unread (inputs_of d t).script items l2 bad2 h)
  missed-one task one a accepted status line other also (view.unsaved items j ps last why keeps h ran bad)
      (view.bad_journal items2 why2 reads2 h2 answers2) =
      absurd (journal-unsaved task reads2 keeps)
  missed-one task one a accepted status line other also (view.unsaved items j ps last why keeps h ran bad)
      (view.bad_talk items2 l2 reads2 h2 bad2) =
      absurd (talk-unsaved task reads2 keeps)
  missed-one task one a accepted status line other also (view.unsaved items j ps last why keeps h ran bad)
      (view.unloaded why2 reads2 loads) =
      absurd (snapshot-unsaved task reads2 keeps)
  missed-one task one a accepted status line other also (view.unsaved items j ps last why keeps h ran bad)
      (view.unsaved items2 j2 ps2 last2 why2 keeps2 h2 ran2 bad2) =
      let same : items2 ≡ items = reads_once t.script items2 items h2 h in
      let there : HasRun a items usual_orders j2 ps2 last2 =
      subst (λ (is : List ScriptItem). HasRun a is usual_orders j2 ps2 last2) same ran2 in
      let ledgers : last ≡ last2 = (usual-one ran there).2 in
      let here : Saves a last2 (Err why) = subst (λ (l : LedgerState). Saves a l (Err why)) ledgers bad in
      let both : Err why ≡ Err why2 = saves-one here bad2 in
      let whys : why ≡ why2 = cc in
      inl (refl, ap unsaved_line whys)

  further-alike : (task : Task) → ¬ (Waits task) → (a : Acceptance) → IsAccepted a → (o p : Outcome)
      → o.accepted ≡ p.accepted → Further (inputs_of c t) task o a → Further (inputs_of d t) task p a → Alike o p
  further-alike task one a accepted o p programs (view.missed status line is idle same out)
      (view.missed other also is2 idle2 same2 out2) =
      either (missed-one task one a accepted status line other also is is2)
    where
      either : MissedAlike status line other also → Alike o p
      either (inl (statuses, lines)) =
          idle-alike o p idle idle2 (same ∙ statuses ∙ sym same2) (out ∙ lines ∙ sym out2) programs
      either (inr (inl five)) = inr (inl (same ∙ five))
      either (inr (inr five)) = inr (inr (same2 ∙ five))
  further-alike task one a accepted o p programs (view.missed status line is idle same out) (view.carried q) =
      inr (inl (same ∙ missed-carried task one a accepted d c p q status line is))
  further-alike task one a accepted o p programs (view.carried r) (view.missed other also is2 idle2 same2 out2) =
      inr (inr (same2 ∙ missed-carried task one a accepted c d o r other also is2))
  further-alike task one a accepted o p programs (view.carried r) (view.carried q) =
      carried-alike task one a accepted o p programs r q

  due-alike : (task : Task) → ¬ (Waits task) → (o p : Outcome)
      → ((a : Acceptance) → o.accepted ≡ Some a → IsAccepted a) → DueView (inputs_of c t) task o
      → DueView (inputs_of d t) task p → Alike o p
  due-alike task one o p fits (view.against w idle none) (view.against v idle2 none2) =
      against-alike task o p w idle none v idle2 none2
  due-alike task one o p fits (view.against w idle none) (view.alone b y is gives given idle2 zero) =
      inr (inl (given-against task c o b given w))
  due-alike task one o p fits (view.against w idle none) (view.behind b y scripted gives given) =
      inr (inl (given-against task c o b given w))
  due-alike task one o p fits (view.alone a x is gives given idle zero) (view.against v idle2 none) =
      inr (inr (given-against task d p a given v))
  due-alike task one o p fits (view.alone a x is gives given idle zero)
      (view.alone b y is2 gives2 given2 idle2 zero2) =
      let same = given-one task (contract_of task t.contract) a b given given2 in
      idle-alike o p idle idle2 (zero ∙ sym zero2) (alone-out task o p a b x y same)
      (gives ∙ ap (λ (e : Acceptance). Some e) same ∙ sym gives2)
  due-alike task one o p fits (view.alone a x is gives given idle zero) (view.behind b y scripted gives2 given2) =
      absurd (scripted is)
  due-alike task one o p fits (view.behind a x scripted gives given) (view.against v idle none) =
      inr (inr (given-against task d p a given v))
  due-alike task one o p fits (view.behind a x scripted gives given) (view.alone b y is gives2 given2 idle zero) =
      absurd (scripted is)
  due-alike task one o p fits (view.behind a x scripted gives given) (view.behind b y scripted2 gives2 given2) =
      let same = given-one task (contract_of task t.contract) a b given given2 in
      let further = subst (λ (e : Acceptance). Further (inputs_of d t) task p e) (sym same) y in
      further-alike task one a (fits a gives) o p (gives ∙ ap (λ (e : Acceptance). Some e) same ∙ sym gives2) x further

  words-alike : (words : List (List ℕ)) → ¬ (MayWait words) → (o p : Outcome)
      → ((a : Acceptance) → o.accepted ≡ Some a → IsAccepted a) → WordsView words (inputs_of c t) o
      → WordsView words (inputs_of d t) p → Alike o p
  words-alike words alone o p fits (view.nothing_asked none idle never four is)
      (view.nothing_asked none2 idle2 never2 four2 is2) =
      idle-alike o p idle idle2 (four ∙ sym four2) (is ∙ sym is2) (never ∙ sym never2)
  words-alike words alone o p fits (view.nothing_asked none idle never four is) (view.task_asked task asks due) =
      absurd (none task asks)
  words-alike words alone o p fits (view.task_asked task asks due) (view.nothing_asked none idle never four is) =
      absurd (none task asks)
  words-alike words alone o p fits (view.task_asked task asks due) (view.task_asked task2 asks2 due2) =
      let same : task2 ≡ task = one_task words task2 task asks2 asks in
      let other = subst (λ (x : Task). DueView (inputs_of d t) x p) same due2 in
      due-alike task (λ crew. alone (task, asks, crew)) o p fits due other

  -- what two calls that wrote all tell of one another
  told-alike : (w : Whole c t) (v : Whole d t)
      → Alike (outcome_with c c.status w.out w.kept) (outcome_with d d.status v.out v.kept)
      → (DoesTheSame c d × KeepTheSame c d) ⊎ (Fails c ⊎ Fails d)
  told-alike w v (inl same) =
      let outs : v.out ≡ w.out = sym (ap (λ (o : Outcome). o.out) same) in
      let texts : v.kept ≡ w.kept = sym (ap (λ (o : Outcome). o.kept) same) in
      inl (
        record {
          accepted = sym (ap (λ (o : Outcome). o.accepted) same);
          journal = sym (ap (λ (o : Outcome). o.journal) same);
          status = sym (ap (λ (o : Outcome). o.status) same);
          report = w.out;
          wrote = w.wrote;
          writes = subst (λ (bytes : List ℕ). HasWritten d bytes) outs v.wrote;
        },
        (w.kept, w.keeps, subst (λ (text : Option (List ℕ)). HasGot d text) texts v.keeps),
      )
  told-alike w v (inr (inl five)) = inr (inl (inl five))
  told-alike w v (inr (inr five)) = inr (inr (inl five))

  ends-alike : d.words ≡ c.words → ¬ (MayWait c.words)
      → ((a : Acceptance) → c.accepted ≡ Some a → IsAccepted a) → EndView c t → EndView d t
      → (DoesTheSame c d × KeepTheSame c d) ⊎ (Fails c ⊎ Fails d)
  ends-alike same alone fits (view.all w) (view.all v) =
      let there =
      subst (λ (ws : List (List ℕ)). WordsView ws (inputs_of d t) (outcome_with d d.status v.out v.kept)) same v.view
      in
      told-alike w v
      (words-alike c.words alone (outcome_with c c.status w.out w.kept) (outcome_with d d.status v.out v.kept) fits
      w.view there)
  ends-alike same alone fits (view.failed f) other = inr (inl (inr (inl f.is)))
  ends-alike same alone fits (view.wanting m) other = inr (inl (inr (inr m.is)))
  ends-alike same alone fits (view.all w) (view.failed f) = inr (inr (inr (inl f.is)))
  ends-alike same alone fits (view.all w) (view.wanting m) = inr (inr (inr (inr m.is)))

pub call-repeats : (c : Call) (t : Texts) → EndsOn c t → Repeats c t
call-repeats c t ends = record {
  repeats = λ d other same alone. ends-alike c d t same alone ends.fits (end-view c t ends) (end-view d t other);
}
