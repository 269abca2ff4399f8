-- What the task of a call asks for rules out what else it could.
use Rattle.std.proofs.Common.{◌≡◌, ◌⊎◌, inl, inr, ℕ, List, Option, Some, None, Ok, refl, subst}
use Rattle.nomos_accept.specs.AcceptedText.{IsAcceptedAs}
use Rattle.nomos_answers.specs.RunsDue.{HasRun, usual_orders}
use Rattle.nomos_legal.specs.Ledger.{LedgerState, empty_ledger}
use Rattle.nomos_legal.specs.Legal.{FollowPolicy, TellsFrom}
use Rattle.nomos_legal.specs.Passage.{Passage}
use Rattle.nomos_machine.specs.declared.policy.Policy.{Policy}
use Rattle.nomos_machine.specs.declared.policy.Policy.TheVariants.{First}
use Rattle.nomos_script.specs.TalkReading.{ReadsAsTalk}
use Rattle.nomos_script.specs.declared.talk_line.TalkLine.{TalkLine}
use Rattle.nomos_snapshot.specs.Loading.{Loads}
use Rattle.nomos_top.proofs.EndLaws.{none-kept}
use Rattle.nomos_top.proofs.Views.{Carried, TalkSeenFor}
use Rattle.nomos_top.specs.Headline.{BeginsBy}
use Rattle.nomos_top.specs.Outcome.{Inputs, Outcome}
use Rattle.nomos_top.specs.TaskRuns.{IsGivenFor}
use Rattle.nomos_top.specs.Tasks.{IsPooled, Keeps, KeepsJournal, KeepsSnapshot, ReadsJournal, ReadsSnapshot, ReadsTalk, contract_of}
use Rattle.nomos_types.specs.Acceptance.{Acceptance}
use Rattle.nomos_words.specs.Commands.{IsJournal, IsSnapshot, IsSubmitted, IsTalkText, Third, no_third, a_journal, a_snapshot, a_talk, row}
use Rattle.nomos_words.specs.Words.{Task, check, run, replay, bench, least, pool, talk, save, resume}
use Rattle.nomos_workers.specs.declared.batch.Crew.TheVariants as crew

-- ---- of the third text

journal-third : (third : Third) → IsJournal third → IsTalkText third ⊎ IsSnapshot third → ⊥
journal-third no_third journal other = journal
journal-third (a_journal word) journal (inl other) = other
journal-third (a_journal word) journal (inr other) = other
journal-third (a_snapshot word) journal other = journal
journal-third (a_talk word) journal other = journal

-- a journal that is read is neither a talk nor a snapshot
pub one-third : (task : Task) → ReadsJournal task → ReadsTalk task ⊎ ReadsSnapshot task → ⊥
one-third task journal other = journal-third (row task).third journal other

talk-third : (third : Third) → IsTalkText third → IsSnapshot third → ⊥
talk-third no_third says other = says
talk-third (a_journal word) says other = says
talk-third (a_snapshot word) says other = says
talk-third (a_talk word) says other = other

-- a talk is no snapshot
pub talk-no_snapshot : (task : Task) → ReadsTalk task → ReadsSnapshot task → ⊥
talk-no_snapshot task says other = talk-third (row task).third says other

snapshot-third : (third : Third) → IsSnapshot third → (a : Acceptance) (text : List ℕ) (first : LedgerState)
    → BeginsBy third a text first → Loads a text (Ok first)
snapshot-third no_third is a text first begins = absurd is
snapshot-third (a_journal word) is a text first begins = absurd is
snapshot-third (a_snapshot word) is a text first begins = begins
snapshot-third (a_talk word) is a text first begins = absurd is

-- where a snapshot is read, a script begins at the ledger that is loaded
pub snapshot-begins : (task : Task) → ReadsSnapshot task → (a : Acceptance) (text : List ℕ) (first : LedgerState)
    → BeginsBy (row task).third a text first → Loads a text (Ok first)
snapshot-begins task reads a text first begins = snapshot-third (row task).third reads a text first begins

-- ---- where no threads submit

pub journal-alone : (task : Task) → ReadsJournal task → (row task).threads ≡ None
journal-alone (check file) reads = refl
journal-alone (run file script by steps journal) reads = refl
journal-alone (replay file script journal) reads = refl
journal-alone (bench seed bidders) reads = refl
journal-alone (least file) reads = refl
journal-alone (pool file script threads) reads = absurd reads
journal-alone (talk file script name proc text) reads = refl
journal-alone (save file script snapshot) reads = refl
journal-alone (resume file snapshot script) reads = refl

pub talk-alone : (task : Task) → ReadsTalk task → (row task).threads ≡ None
talk-alone (check file) reads = refl
talk-alone (run file script by steps journal) reads = refl
talk-alone (replay file script journal) reads = refl
talk-alone (bench seed bidders) reads = refl
talk-alone (least file) reads = refl
talk-alone (pool file script threads) reads = absurd reads
talk-alone (talk file script name proc text) reads = refl
talk-alone (save file script snapshot) reads = refl
talk-alone (resume file snapshot script) reads = refl

pub snapshot-alone : (task : Task) → ReadsSnapshot task → (row task).threads ≡ None
snapshot-alone (check file) reads = refl
snapshot-alone (run file script by steps journal) reads = refl
snapshot-alone (replay file script journal) reads = refl
snapshot-alone (bench seed bidders) reads = refl
snapshot-alone (least file) reads = refl
snapshot-alone (pool file script threads) reads = absurd reads
snapshot-alone (talk file script name proc text) reads = refl
snapshot-alone (save file script snapshot) reads = refl
snapshot-alone (resume file snapshot script) reads = refl

pub saved-alone : (task : Task) → KeepsSnapshot task → (row task).threads ≡ None
saved-alone (check file) keeps = refl
saved-alone (run file script by steps journal) keeps = refl
saved-alone (replay file script journal) keeps = refl
saved-alone (bench seed bidders) keeps = refl
saved-alone (least file) keeps = refl
saved-alone (pool file script threads) keeps = absurd keeps
saved-alone (talk file script name proc text) keeps = refl
saved-alone (save file script snapshot) keeps = refl
saved-alone (resume file snapshot script) keeps = refl

none-submit : (threads : Option ℕ) → ¬ (IsSubmitted threads) → threads ≡ None
none-submit (Some n) alone = absurd (alone tt)
none-submit None alone = refl

pub unpooled-alone : (task : Task) → ¬ (IsPooled task) → (row task).threads ≡ None
unpooled-alone task alone = none-submit (row task).threads alone

-- ---- where a ledger is saved

-- neither a journal is read then
pub journal-unsaved : (task : Task) → ReadsJournal task → KeepsSnapshot task → ⊥
journal-unsaved (check file) reads keeps = reads
journal-unsaved (run file script by steps journal) reads keeps = reads
journal-unsaved (replay file script journal) reads keeps = keeps
journal-unsaved (bench seed bidders) reads keeps = reads
journal-unsaved (least file) reads keeps = reads
journal-unsaved (pool file script threads) reads keeps = reads
journal-unsaved (talk file script name proc text) reads keeps = reads
journal-unsaved (save file script snapshot) reads keeps = reads
journal-unsaved (resume file snapshot script) reads keeps = reads

-- nor a talk
pub talk-unsaved : (task : Task) → ReadsTalk task → KeepsSnapshot task → ⊥
talk-unsaved (check file) reads keeps = reads
talk-unsaved (run file script by steps journal) reads keeps = reads
talk-unsaved (replay file script journal) reads keeps = reads
talk-unsaved (bench seed bidders) reads keeps = reads
talk-unsaved (least file) reads keeps = reads
talk-unsaved (pool file script threads) reads keeps = reads
talk-unsaved (talk file script name proc text) reads keeps = keeps
talk-unsaved (save file script snapshot) reads keeps = reads
talk-unsaved (resume file snapshot script) reads keeps = reads

-- nor a snapshot
pub snapshot-unsaved : (task : Task) → ReadsSnapshot task → KeepsSnapshot task → ⊥
snapshot-unsaved (check file) reads keeps = reads
snapshot-unsaved (run file script by steps journal) reads keeps = reads
snapshot-unsaved (replay file script journal) reads keeps = reads
snapshot-unsaved (bench seed bidders) reads keeps = reads
snapshot-unsaved (least file) reads keeps = reads
snapshot-unsaved (pool file script threads) reads keeps = reads
snapshot-unsaved (talk file script name proc text) reads keeps = reads
snapshot-unsaved (save file script snapshot) reads keeps = reads
snapshot-unsaved (resume file snapshot script) reads keeps = keeps

usual-run : (a : Acceptance) (ps : List Passage) → ((policy : Policy) → policy ≡ First → FollowPolicy policy a ps)
    → (policy : Policy) → crew.One First ≡ crew.One policy → FollowPolicy policy a ps
usual-run a ps follows policy same = follows policy cc

-- what was carried out is the usual run
pub saved-run : (task : Task) → KeepsSnapshot task → (i : Inputs) (o : Outcome) (a : Acceptance)
    (r : Carried i task o a) → HasRun a r.items usual_orders o.journal r.passages r.last
saved-run (check file) keeps i o a r = absurd keeps
saved-run (run file script by steps (Some journal)) keeps i o a r = absurd keeps
saved-run (run file script by steps None) keeps i o a r = absurd keeps
saved-run (replay file script journal) keeps i o a r = absurd keeps
saved-run (bench seed bidders) keeps i o a r = absurd keeps
saved-run (least file) keeps i o a r = absurd keeps
saved-run (pool file script threads) keeps i o a r = absurd keeps
saved-run (talk file script name proc text) keeps i o a r = absurd keeps
saved-run (save file script snapshot) keeps i o a r = record {
  limit = r.own;
  tells =
      subst (λ (l : LedgerState). TellsFrom a l r.items o.journal r.passages r.last) r.begins r.tells;
  follows = usual-run a r.passages r.follows;
}
saved-run (resume file snapshot script) keeps i o a r = absurd keeps

-- ---- what is said in a talk

pub talk-says : (task : Task) → ReadsTalk task → (i : Inputs) (o : Outcome) (a : Acceptance) (ps : List Passage)
    (last : LedgerState) → TalkSeenFor task i o a ps last
    → (lines : List (ℕ × TalkLine)) × ReadsAsTalk i.third.text lines
talk-says (check file) reads i o a ps last seen = absurd reads
talk-says (run file script by steps journal) reads i o a ps last seen = absurd reads
talk-says (replay file script journal) reads i o a ps last seen = absurd reads
talk-says (bench seed bidders) reads i o a ps last seen = absurd reads
talk-says (least file) reads i o a ps last seen = absurd reads
talk-says (pool file script threads) reads i o a ps last seen = absurd reads
talk-says (talk file script name proc text) reads i o a ps last seen = (seen.lines, seen.reads)
talk-says (save file script snapshot) reads i o a ps last seen = absurd reads
talk-says (resume file snapshot script) reads i o a ps last seen = absurd reads

-- ---- where a journal is kept

-- no threads submit then
pub keeps-alone : (task : Task) → KeepsJournal task → (row task).threads ≡ None
keeps-alone (check file) keeps = absurd keeps
keeps-alone (run file script by steps (Some journal)) keeps = refl
keeps-alone (run file script by steps None) keeps = absurd keeps
keeps-alone (replay file script journal) keeps = absurd keeps
keeps-alone (bench seed bidders) keeps = absurd keeps
keeps-alone (least file) keeps = absurd keeps
keeps-alone (pool file script threads) keeps = absurd keeps
keeps-alone (talk file script name proc text) keeps = absurd keeps
keeps-alone (save file script snapshot) keeps = absurd keeps
keeps-alone (resume file snapshot script) keeps = absurd keeps

-- the script begins with nothing
pub keeps-begins : (task : Task) → KeepsJournal task → (a : Acceptance) (text : List ℕ) (first : LedgerState)
    → BeginsBy (row task).third a text first → first ≡ empty_ledger
keeps-begins (check file) keeps a text first begins = absurd keeps
keeps-begins (run file script by steps (Some journal)) keeps a text first begins = begins
keeps-begins (run file script by steps None) keeps a text first begins = absurd keeps
keeps-begins (replay file script journal) keeps a text first begins = absurd keeps
keeps-begins (bench seed bidders) keeps a text first begins = absurd keeps
keeps-begins (least file) keeps a text first begins = absurd keeps
keeps-begins (pool file script threads) keeps a text first begins = absurd keeps
keeps-begins (talk file script name proc says) keeps a text first begins = absurd keeps
keeps-begins (save file script snapshot) keeps a text first begins = absurd keeps
keeps-begins (resume file snapshot script) keeps a text first begins = absurd keeps

-- and no party talks
pub keeps-quiet : (task : Task) → KeepsJournal task → ¬ (ReadsTalk task)
keeps-quiet (check file) keeps = absurd keeps
keeps-quiet (run file script by steps (Some journal)) keeps = (λ no. no)
keeps-quiet (run file script by steps None) keeps = absurd keeps
keeps-quiet (replay file script journal) keeps = absurd keeps
keeps-quiet (bench seed bidders) keeps = absurd keeps
keeps-quiet (least file) keeps = absurd keeps
keeps-quiet (pool file script threads) keeps = absurd keeps
keeps-quiet (talk file script name proc text) keeps = absurd keeps
keeps-quiet (save file script snapshot) keeps = absurd keeps
keeps-quiet (resume file snapshot script) keeps = absurd keeps

-- a task keeps a journal, or a snapshot, or nothing
pub keeps-kinds : (task : Task) → KeepsJournal task ⊎ (KeepsSnapshot task ⊎ ¬ (Keeps task))
keeps-kinds (check file) = inr (inr none-kept)
keeps-kinds (run file script by steps (Some journal)) = inl tt
keeps-kinds (run file script by steps None) = inr (inr none-kept)
keeps-kinds (replay file script journal) = inr (inr none-kept)
keeps-kinds (bench seed bidders) = inr (inr none-kept)
keeps-kinds (least file) = inr (inr none-kept)
keeps-kinds (pool file script threads) = inr (inr none-kept)
keeps-kinds (talk file script name proc text) = inr (inr none-kept)
keeps-kinds (save file script snapshot) = inr (inl tt)
keeps-kinds (resume file snapshot script) = inr (inr none-kept)

-- where a ledger is saved, the pivot run accepts the contract that is read
pub saved-accepted : (task : Task) → KeepsSnapshot task → (text : List ℕ) (a : Acceptance)
    → IsGivenFor task (contract_of task text) a → IsAcceptedAs text a
saved-accepted (check file) keeps text a is = absurd keeps
saved-accepted (run file script by steps (Some journal)) keeps text a is = absurd keeps
saved-accepted (run file script by steps None) keeps text a is = absurd keeps
saved-accepted (replay file script journal) keeps text a is = absurd keeps
saved-accepted (bench seed bidders) keeps text a is = absurd keeps
saved-accepted (least file) keeps text a is = absurd keeps
saved-accepted (pool file script threads) keeps text a is = absurd keeps
saved-accepted (talk file script name proc says) keeps text a is = absurd keeps
saved-accepted (save file script snapshot) keeps text a is = is
saved-accepted (resume file snapshot script) keeps text a is = absurd keeps
