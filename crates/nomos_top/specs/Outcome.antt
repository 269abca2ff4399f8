-- What is due of a call, and what is known where memory was wanting.
use Rattle.std.specs.Prelude.{ℕ, List, Option, Some, None, codes}
use Rattle.nomos_accept.specs.AcceptedText.{IsAcceptedAs, IsRefused}
use Rattle.nomos_accept.specs.declared.why.Why.{Why}
use Rattle.nomos_answers.specs.Benches.{IsBenchDue, IsBenchPart, load_contract}
use Rattle.nomos_answers.specs.DueLines.{no_entries, read_fault_line}
use Rattle.nomos_answers.specs.Outside.{HaveRisen, Input}
use Rattle.nomos_answers.specs.Pools.{IsPoolDue, IsPoolPart}
use Rattle.nomos_answers.specs.Replays.{IsReplayDue, no_journal}
use Rattle.nomos_answers.specs.Resumes.{IsResumeDue, IsResumePart}
use Rattle.nomos_answers.specs.RunsDue.{IsRunDue, IsRunPart, usual_orders}
use Rattle.nomos_answers.specs.Saves.{IsSaveDue}
use Rattle.nomos_answers.specs.TalkDue.{IsTalkDue}
use Rattle.nomos_least.specs.LeastBounds.{IsLeastAs}
use Rattle.nomos_least.specs.declared.least.LeastBounds.{LeastBounds}
use Rattle.nomos_legal.specs.declared.journal.Journal.{Journal}
use Rattle.nomos_report.specs.Block.{accepted_block}
use Rattle.nomos_script.specs.declared.item.ScriptItem.{ScriptItem}
use Rattle.nomos_simplex.specs.declared.solved.Stop.{Stop}
use Rattle.nomos_top.specs.LeastBlock.{least_block}
use Rattle.nomos_top.specs.Refusal.{refusal, unsolved_line}
use Rattle.nomos_top.specs.TaskRuns.{HasStoppedFor, limit_of, run_orders, bench_orders}
use Rattle.nomos_top.specs.Tasks.{AskNothing, ReadsContract, contract_of}
use Rattle.nomos_types.specs.Acceptance.{Acceptance}
use Rattle.nomos_words.specs.Usage.{usage_line}
use Rattle.nomos_words.specs.Words.{Task, check, run, replay, bench, least, pool, talk, save, resume, Asks}
use Rattle.nomos_words.specs.declared.workers.Workers.{Workers}

-- the texts of the three sources, and their counts of faults
pub record Inputs : Type 0 where
  pub contract : Input
  pub script : Input
  pub third : Input

-- A status; what is to be written to the output, and to the journal's sink if anything is; what is accepted; the
-- journal; and what was taken of the script where threads submit.
pub record Outcome : Type 0 where
  pub status : ℕ
  pub out : List ℕ
  pub kept : Option (List ℕ)
  pub accepted : Option Acceptance
  pub journal : Journal
  pub taken : Option (List ScriptItem)

-- lines are due, and nothing is accepted
abbrev pub bare : ℕ → List ℕ → ℕ → Outcome
bare status out limit = record {
  status = status;
  out = out;
  kept = None;
  accepted = None;
  journal = no_entries limit;
  taken = None;
}

-- a text is due, and a program is given
abbrev pub given : ℕ → List ℕ → Option (List ℕ) → Acceptance → Journal → Outcome
given status out kept a journal =
    record { status = status; out = out; kept = kept; accepted = Some a; journal = journal; taken = None }

-- What is due where the contract is not accepted: a status, and lines.
pub data IsUnaccepted (task : Task) (contract : Input) : ℕ → List ℕ → Type 0 where
  fault : ReadsContract task → HaveRisen contract.counts
      → IsUnaccepted task contract 5 (read_fault_line (codes "contract"))
  refused : (why : Why) → IsRefused (contract_of task contract.text) why → IsUnaccepted task contract 1 (refusal why)
  unsolved : (stop : Stop) → HasStoppedFor task (contract_of task contract.text) stop
      → IsUnaccepted task contract 8 (unsolved_line stop)

-- What is due for a task.
pub data IsTaskDue (i : Inputs) : Task → Outcome → Type 0 where
  unaccepted : (task : Task) (status : ℕ) (out : List ℕ) → IsUnaccepted task i.contract status out
      → IsTaskDue i task (bare status out (limit_of task))
  checked : (file : List ℕ) (a : Acceptance) → IsAcceptedAs i.contract.text a
      → IsTaskDue i (check file) (given 0 (accepted_block a) None a no_journal)
  bounded : (file : List ℕ) (b : LeastBounds) → IsLeastAs i.contract.text b
      → IsTaskDue i (least file) (given 0 (least_block b) None b.accepted no_journal)
  ran : (file script : List ℕ) (by : Workers) (steps : ℕ) (journal : Option (List ℕ)) (a : Acceptance) (status : ℕ)
      (out : List ℕ) (kept : Option (List ℕ)) (made : Journal) → IsAcceptedAs i.contract.text a
      → IsRunDue a (run_orders by steps journal) i.script status out kept made
      → IsTaskDue i (run file script by steps journal) (given status out kept a made)
  replayed : (file script journal : List ℕ) (a : Acceptance) (status : ℕ) (out : List ℕ) (read : Journal)
      → IsAcceptedAs i.contract.text a → IsReplayDue a i.script i.third status out read
      → IsTaskDue i (replay file script journal) (given status out None a read)
  benched : (seed bidders : ℕ) (a : Acceptance) (status : ℕ) (out : List ℕ) (made : Journal)
      → IsAcceptedAs load_contract a
      → IsBenchDue a bench_orders (record { seed = seed; bidders = bidders }) status out made
      → IsTaskDue i (bench seed bidders) (given status out None a made)
  pooled : (file script : List ℕ) (threads : ℕ) (a : Acceptance) (status : ℕ) (out : List ℕ) (made : Journal)
      (taken : Option (List ScriptItem)) → IsAcceptedAs i.contract.text a
      → IsPoolDue a threads i.script status out made taken
      → IsTaskDue i (pool file script threads) (record (given status out None a made) { taken = taken })
  talked : (file script name proc text : List ℕ) (a : Acceptance) (status : ℕ) (out : List ℕ) (made : Journal)
      → IsAcceptedAs i.contract.text a → IsTalkDue a name proc i.script i.third status out made
      → IsTaskDue i (talk file script name proc text) (given status out None a made)
  saved : (file script snapshot : List ℕ) (a : Acceptance) (status : ℕ) (out : List ℕ) (kept : Option (List ℕ))
      (made : Journal) → IsAcceptedAs i.contract.text a → IsSaveDue a i.script status out kept made
      → IsTaskDue i (save file script snapshot) (given status out kept a made)
  resumed : (file snapshot script : List ℕ) (a : Acceptance) (status : ℕ) (out : List ℕ) (made : Journal)
      → IsAcceptedAs i.contract.text a → IsResumeDue a i.third i.script status out made
      → IsTaskDue i (resume file snapshot script) (given status out None a made)

-- What is due for words.
pub data IsDue (words : List (List ℕ)) (i : Inputs) : Outcome → Type 0 where
  usage : AskNothing words → IsDue words i (bare 4 usage_line no_journal.limit)
  asked : (task : Task) (o : Outcome) → Asks words task → IsTaskDue i task o → IsDue words i o

-- What is known where memory was wanting: of what is accepted, of the journal, and of what was taken. Either nothing
-- is; or the contract is accepted, and the journal is that of some first items of the script.
pub data IsTaskPart (i : Inputs) : Task → Option Acceptance → Journal → Option (List ScriptItem) → Type 0 where
  nothing : (task : Task) → IsTaskPart i task None (no_entries (limit_of task)) None
  run_part : (file script : List ℕ) (by : Workers) (steps : ℕ) (journal : Option (List ℕ)) (a : Acceptance)
      (made : Journal) → IsAcceptedAs i.contract.text a → IsRunPart a (run_orders by steps journal) i.script made
      → IsTaskPart i (run file script by steps journal) (Some a) made None
  replay_part : (file script journal : List ℕ) (a : Acceptance) → IsAcceptedAs i.contract.text a
      → IsTaskPart i (replay file script journal) (Some a) no_journal None
  bench_part : (seed bidders : ℕ) (a : Acceptance) (made : Journal) → IsAcceptedAs load_contract a
      → IsBenchPart a bench_orders (record { seed = seed; bidders = bidders }) made
      → IsTaskPart i (bench seed bidders) (Some a) made None
  pool_part : (file script : List ℕ) (threads : ℕ) (a : Acceptance) (made : Journal)
      (taken : Option (List ScriptItem)) → IsAcceptedAs i.contract.text a → IsPoolPart a threads i.script made taken
      → IsTaskPart i (pool file script threads) (Some a) made taken
  talk_part : (file script name proc text : List ℕ) (a : Acceptance) (made : Journal) → IsAcceptedAs i.contract.text a
      → IsRunPart a usual_orders i.script made
      → IsTaskPart i (talk file script name proc text) (Some a) made None
  save_part : (file script snapshot : List ℕ) (a : Acceptance) (made : Journal) → IsAcceptedAs i.contract.text a
      → IsRunPart a usual_orders i.script made → IsTaskPart i (save file script snapshot) (Some a) made None
  resume_part : (file snapshot script : List ℕ) (a : Acceptance) (made : Journal) → IsAcceptedAs i.contract.text a
      → IsResumePart a i.third i.script made → IsTaskPart i (resume file snapshot script) (Some a) made None

-- the same for words
pub data IsPart (words : List (List ℕ)) (i : Inputs) : Option Acceptance → Journal → Option (List ScriptItem) → Type 0
  where
    no_task : AskNothing words → IsPart words i None no_journal None
    asked_part : (task : Task) (accepted : Option Acceptance) (journal : Journal) (taken : Option (List ScriptItem))
        → Asks words task → IsTaskPart i task accepted journal taken → IsPart words i accepted journal taken
