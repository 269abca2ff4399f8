-- What is read off the ways in which a call ends.
use Rattle.std.proofs.Common.{◌≡◌, ◌≢◌, ◌∙◌, ◌⊎◌, inl, inr, ℕ, List, true, false, true≢false, Option, Some, None, refl, sym, subst, arith}
use Rattle.nomos_answers.specs.DueLines as lines
use Rattle.nomos_answers.specs.DueLines.{IsNoScript}
use Rattle.nomos_answers.specs.Outside.{Input}
use Rattle.nomos_script.proofs.ReadingLaws.{reads_without_syntax}
use Rattle.nomos_script.specs.ScriptReading.{ReadsAs}
use Rattle.nomos_script.specs.declared.item.ScriptItem.{ScriptItem}
use Rattle.nomos_top.specs.Call.{inputs_of, outcome_with}
use Rattle.nomos_top.specs.Seen.{Call, Texts, IsDone, IsOrFails}
use Rattle.nomos_top.specs.TaskRuns.{IsGivenFor}
use Rattle.nomos_top.specs.Tasks.{IsAlone, Keeps, KeepsJournal, KeepsSnapshot, ReadsJournal, ReadsScript, ReadsSnapshot, ReadsTalk, contract_of, script_of}
use Rattle.nomos_top.proofs.StatusLaws.{IsMissedStatus, done-not, missed-not}
use Rattle.nomos_top.proofs.Views.{DueView, Further, Missed, WordsView, Whole, EndView}
use Rattle.nomos_top.proofs.Views as view
use Rattle.nomos_top.specs.Outcome.{Inputs, Outcome}
use Rattle.nomos_types.specs.Acceptance.{Acceptance}
use Rattle.nomos_words.specs.Words.{Task, check, run, replay, bench, least, pool, talk, save, resume, Asks}

-- ---- statuses

-- why nothing was carried out tells the status
pub missed-status : {i : Inputs} {task : Task} {a : Acceptance} {status : ℕ} {line : List ℕ}
    → Missed i task a status line → IsMissedStatus status
missed-status (view.script_fault reads rose) = inl refl
missed-status (view.third_fault reads rose) = inl refl
missed-status (view.bad_script first line reads begins bad) = inr (inl refl)
missed-status (view.no_pool threads items k reads has begins h bad) = inr (inl refl)
missed-status (view.bad_journal items why reads h answers) = inr (inr (inl refl))
missed-status (view.bad_talk items line reads h bad) = inr (inr (inr (inl refl)))
missed-status (view.unloaded why reads loads) = inr (inr (inr (inr refl)))
missed-status (view.unsaved items journal ps last why keeps h ran bad) = inr (inr (inr (inr refl)))

-- behind acceptance no other status is due
pub further-not : {i : Inputs} {task : Task} {o : Outcome} {a : Acceptance} → Further i task o a → (n : ℕ) → n ≢ 0
    → n ≢ 3 → n ≢ 5 → n ≢ 2 → n ≢ 9 → n ≢ 10 → n ≢ 11 → o.status ≢ n
further-not (view.missed status line is idle same out) n zero three five two nine ten eleven e =
    missed-not status n (missed-status is) five two nine ten eleven (sym same ∙ e)
further-not {o = o} (view.carried r) n zero three five two nine ten eleven e = done-not o.status n r.done zero three e

pub further-not_one : {i : Inputs} {task : Task} {o : Outcome} {a : Acceptance} → Further i task o a → o.status ≢ 1
further-not_one f =
    further-not f 1 (λ z. omega (arith, z)) (λ z. omega (arith, z)) (λ z. omega (arith, z)) (λ z. omega (arith, z))
    (λ z. omega (arith, z)) (λ z. omega (arith, z)) (λ z. omega (arith, z))

pub further-not_four : {i : Inputs} {task : Task} {o : Outcome} {a : Acceptance} → Further i task o a → o.status ≢ 4
further-not_four f =
    further-not f 4 (λ z. omega (arith, z)) (λ z. omega (arith, z)) (λ z. omega (arith, z)) (λ z. omega (arith, z))
    (λ z. omega (arith, z)) (λ z. omega (arith, z)) (λ z. omega (arith, z))

pub further-not_six : {i : Inputs} {task : Task} {o : Outcome} {a : Acceptance} → Further i task o a → o.status ≢ 6
further-not_six f =
    further-not f 6 (λ z. omega (arith, z)) (λ z. omega (arith, z)) (λ z. omega (arith, z)) (λ z. omega (arith, z))
    (λ z. omega (arith, z)) (λ z. omega (arith, z)) (λ z. omega (arith, z))

pub further-not_seven : {i : Inputs} {task : Task} {o : Outcome} {a : Acceptance} → Further i task o a → o.status ≢ 7
further-not_seven f =
    further-not f 7 (λ z. omega (arith, z)) (λ z. omega (arith, z)) (λ z. omega (arith, z)) (λ z. omega (arith, z))
    (λ z. omega (arith, z)) (λ z. omega (arith, z)) (λ z. omega (arith, z))

pub further-not_eight : {i : Inputs} {task : Task} {o : Outcome} {a : Acceptance} → Further i task o a → o.status ≢ 8
further-not_eight f =
    further-not f 8 (λ z. omega (arith, z)) (λ z. omega (arith, z)) (λ z. omega (arith, z)) (λ z. omega (arith, z))
    (λ z. omega (arith, z)) (λ z. omega (arith, z)) (λ z. omega (arith, z))

-- it is that status, or reading failed
abbrev pub IsOrFault : ℕ → ℕ → Type 0
IsOrFault status wanted = (status ≡ wanted) ⊎ (status ≡ 5)

fails-more : (status wanted : ℕ) → IsOrFault status wanted → IsOrFails status wanted
fails-more status wanted (inl e) = inl e
fails-more status wanted (inr e) = inr (inl e)

-- what was due tells the status, unless a sink failed or memory was wanting
pub or-fails : (c : Call) (t : Texts) (wanted : ℕ) → EndView c t
    → ((out : List ℕ) (kept : Option (List ℕ))
    → WordsView c.words (inputs_of c t) (outcome_with c c.status out kept) → IsOrFault c.status wanted)
    → IsOrFails c.status wanted
or-fails c t wanted (view.all w) told = fails-more c.status wanted (told w.out w.kept w.view)
or-fails c t wanted (view.failed f) told = inr (inr (inl f.is))
or-fails c t wanted (view.wanting m) told = inr (inr (inr m.is))

-- a call with another status than 6 and 7 has written all
pub whole-of : (c : Call) (t : Texts) → EndView c t → c.status ≢ 6 → c.status ≢ 7 → Whole c t
whole-of c t (view.all w) six seven = w
whole-of c t (view.failed f) six seven = absurd (six f.is)
whole-of c t (view.wanting m) six seven = absurd (seven m.is)

pub whole-at : (c : Call) (t : Texts) (n : ℕ) → EndView c t → c.status ≡ n → n ≢ 6 → n ≢ 7 → Whole c t
whole-at c t n ends is six seven =
    whole-of c t ends (λ e. six (subst (λ (s : ℕ). s ≡ 6) is e)) (λ e. seven (subst (λ (s : ℕ). s ≡ 7) is e))

pub whole-done : (c : Call) (t : Texts) → EndView c t → IsDone c.status → Whole c t
whole-done c t ends (inl is) = whole-at c t 0 ends is (λ e. omega (arith, e)) (λ e. omega (arith, e))
whole-done c t ends (inr is) = whole-at c t 3 ends is (λ e. omega (arith, e)) (λ e. omega (arith, e))

-- ---- tasks

-- where a script is read, its text and the contract's are those of the sources
pub reads-script : (task : Task) (text : List ℕ) → ReadsScript task → script_of task text ≡ text
reads-script (check file) text reads = refl
reads-script (run file script by steps journal) text reads = refl
reads-script (replay file script journal) text reads = refl
reads-script (bench seed bidders) text reads = absurd reads
reads-script (least file) text reads = refl
reads-script (pool file script threads) text reads = refl
reads-script (talk file script name proc words) text reads = refl
reads-script (save file script snapshot) text reads = refl
reads-script (resume file snapshot script) text reads = refl

pub journal-script : (task : Task) → ReadsJournal task → ReadsScript task
journal-script (check file) reads = absurd reads
journal-script (run file script by steps journal) reads = absurd reads
journal-script (replay file script journal) reads = tt
journal-script (bench seed bidders) reads = absurd reads
journal-script (least file) reads = absurd reads
journal-script (pool file script threads) reads = absurd reads
journal-script (talk file script name proc text) reads = absurd reads
journal-script (save file script snapshot) reads = absurd reads
journal-script (resume file snapshot script) reads = absurd reads

pub talk-script : (task : Task) → ReadsTalk task → ReadsScript task
talk-script (check file) reads = absurd reads
talk-script (run file script by steps journal) reads = tt
talk-script (replay file script journal) reads = tt
talk-script (bench seed bidders) reads = absurd reads
talk-script (least file) reads = absurd reads
talk-script (pool file script threads) reads = tt
talk-script (talk file script name proc text) reads = tt
talk-script (save file script snapshot) reads = tt
talk-script (resume file snapshot script) reads = tt

pub snapshot-script : (task : Task) → ReadsSnapshot task → ReadsScript task
snapshot-script (check file) reads = absurd reads
snapshot-script (run file script by steps journal) reads = tt
snapshot-script (replay file script journal) reads = tt
snapshot-script (bench seed bidders) reads = absurd reads
snapshot-script (least file) reads = absurd reads
snapshot-script (pool file script threads) reads = tt
snapshot-script (talk file script name proc text) reads = tt
snapshot-script (save file script snapshot) reads = tt
snapshot-script (resume file snapshot script) reads = tt

pub saved-script : (task : Task) → KeepsSnapshot task → ReadsScript task
saved-script (check file) keeps = absurd keeps
saved-script (run file script by steps journal) keeps = tt
saved-script (replay file script journal) keeps = tt
saved-script (bench seed bidders) keeps = absurd keeps
saved-script (least file) keeps = absurd keeps
saved-script (pool file script threads) keeps = tt
saved-script (talk file script name proc text) keeps = tt
saved-script (save file script snapshot) keeps = tt
saved-script (resume file snapshot script) keeps = tt

pub script-not_alone : (task : Task) → ReadsScript task → ¬ (IsAlone task)
script-not_alone (check file) reads alone = reads
script-not_alone (run file script by steps journal) reads alone = alone
script-not_alone (replay file script journal) reads alone = alone
script-not_alone (bench seed bidders) reads alone = alone
script-not_alone (least file) reads alone = reads
script-not_alone (pool file script threads) reads alone = alone
script-not_alone (talk file script name proc text) reads alone = alone
script-not_alone (save file script snapshot) reads alone = alone
script-not_alone (resume file snapshot script) reads alone = alone

pub keeps-script : (task : Task) → KeepsJournal task → ReadsScript task
keeps-script (check file) keeps = absurd keeps
keeps-script (run file script by steps (Some journal)) keeps = tt
keeps-script (run file script by steps None) keeps = absurd keeps
keeps-script (replay file script journal) keeps = absurd keeps
keeps-script (bench seed bidders) keeps = absurd keeps
keeps-script (least file) keeps = absurd keeps
keeps-script (pool file script threads) keeps = absurd keeps
keeps-script (talk file script name proc text) keeps = absurd keeps
keeps-script (save file script snapshot) keeps = absurd keeps
keeps-script (resume file snapshot script) keeps = absurd keeps

pub keeps-or_not : (task : Task) → KeepsJournal task ⊎ ¬ (KeepsJournal task)
keeps-or_not (check file) = inr (λ no. no)
keeps-or_not (run file script by steps (Some journal)) = inl tt
keeps-or_not (run file script by steps None) = inr (λ no. no)
keeps-or_not (replay file script journal) = inr (λ no. no)
keeps-or_not (bench seed bidders) = inr (λ no. no)
keeps-or_not (least file) = inr (λ no. no)
keeps-or_not (pool file script threads) = inr (λ no. no)
keeps-or_not (talk file script name proc text) = inr (λ no. no)
keeps-or_not (save file script snapshot) = inr (λ no. no)
keeps-or_not (resume file snapshot script) = inr (λ no. no)

-- ---- scripts

-- a script that reads is missing for a fault of its source alone
no_script-fault : (script : Input) (items : List ScriptItem) (status : ℕ) (line : List ℕ) → ReadsAs script.text items
    → IsNoScript script status line → status ≡ 5
no_script-fault script items status line reads (lines.fault rose) = refl
no_script-fault script items status line reads (lines.too_long over) = absurd (omega (arith, over, reads.limit))
no_script-fault script items status line reads (lines.syntax k bad) =
    absurd (reads_without_syntax script.text k items reads bad)

pub bad-unread : (script : Input) (items : List ScriptItem) (line : List ℕ) → IsNoScript script 2 line
    → ReadsAs script.text items → ⊥
bad-unread script items line bad reads =
    let five : 2 ≡ 5 = no_script-fault script items 2 line reads bad in omega (arith, five)

-- ---- what is given

-- what was given was accepted
pub due-sound : {i : Inputs} {task : Task} {o : Outcome} → DueView i task o → (a : Acceptance) → o.accepted ≡ Some a
    → IsGivenFor task (contract_of task i.contract.text) a
due-sound (view.against why idle none) a gives = absurd (let both : None ≡ Some a = sym none ∙ gives in cc)
due-sound {i} {task} (view.alone b what alone given is idle zero) a gives =
    let same : Some b ≡ Some a = sym given ∙ gives in
    let one : b ≡ a = cc in
    subst (λ (x : Acceptance). IsGivenFor task (contract_of task i.contract.text) x) one is
due-sound {i} {task} (view.behind b what further given is) a gives =
    let same : Some b ≡ Some a = sym given ∙ gives in
    let one : b ≡ a = cc in
    subst (λ (x : Acceptance). IsGivenFor task (contract_of task i.contract.text) x) one is

pub words-sound : {words : List (List ℕ)} {i : Inputs} {o : Outcome} → WordsView words i o → (a : Acceptance)
    → o.accepted ≡ Some a
    → (task : Task) × Asks words task × IsGivenFor task (contract_of task i.contract.text) a
words-sound (view.nothing_asked none idle never four out) a gives =
    absurd (let both : None ≡ Some a = sym never ∙ gives in cc)
words-sound (view.task_asked task asks due) a gives = (task, asks, due-sound due a gives)

-- where nothing is, nothing is kept
pub none-kept : false ≡ true → ⊥
none-kept same = true≢false (sym same)

-- a task keeps something, or nothing
pub keeps-any_or_not : (task : Task) → Keeps task ⊎ ¬ (Keeps task)
keeps-any_or_not (check file) = inr none-kept
keeps-any_or_not (run file script by steps (Some journal)) = inl refl
keeps-any_or_not (run file script by steps None) = inr none-kept
keeps-any_or_not (replay file script journal) = inr none-kept
keeps-any_or_not (bench seed bidders) = inr none-kept
keeps-any_or_not (least file) = inr none-kept
keeps-any_or_not (pool file script threads) = inr none-kept
keeps-any_or_not (talk file script name proc text) = inr none-kept
keeps-any_or_not (save file script snapshot) = inl refl
keeps-any_or_not (resume file snapshot script) = inr none-kept
