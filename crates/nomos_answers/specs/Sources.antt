-- What is due for what sources have left: for the texts that they tell, or for some texts where they do not tell.
use Rattle.std.specs.Prelude.{◌≡◌, ℕ, List, Option, None, Vec}
use Rattle.std.specs.Option.{option_map}
use Rattle.std.specs.Global.{Global}
use Rattle.nomos_types.specs.Acceptance.{Acceptance}
use Rattle.nomos_script.specs.declared.item.ScriptItem.{ScriptItem}
use Rattle.nomos_legal.specs.declared.journal.Journal.{Journal}
use Rattle.nomos_run.specs.declared.orders.Orders.{Orders}
use Rattle.nomos_answers.specs.Outside.{HasText, SourceState, input_of}
use Rattle.nomos_answers.specs.Pools.{IsPoolDue, IsPoolPart}
use Rattle.nomos_answers.specs.Replays.{IsJournalDue, IsReplayDue}
use Rattle.nomos_answers.specs.Resumes.{IsResumeDue, IsResumePart}
use Rattle.nomos_answers.specs.RunsDue.{IsRunDue, IsRunPart}
use Rattle.nomos_answers.specs.Saves.{IsSaveDue}
use Rattle.nomos_answers.specs.TalkDue.{IsTalkDue}
use Rattle.nomos_answers.specs.declared.due.Due.{Due}
use Rattle.nomos_answers.specs.declared.pools.PoolDue.{PoolDue}
use Rattle.nomos_answers.specs.declared.pools.PoolPart.{PoolPart}

-- the text of the journal, or the snapshot, that is to be written
abbrev pub kept_text : Due → Option (List ℕ)
kept_text due = option_map (λ (t : Vec ℕ Global). t.items) due.kept

-- it is due for a run
pub record IsRunDueFor (a : Acceptance) (orders : Orders) (script : SourceState) (due : Due) : Type 0 where
  pub text : List ℕ
  pub told : HasText script.left text
  pub is : IsRunDue a orders (input_of script text) due.status due.out.items (kept_text due) due.journal

-- this is the journal where memory was wanting
pub record IsRunPartFor (a : Acceptance) (orders : Orders) (script : SourceState) (journal : Journal) : Type 0 where
  pub text : List ℕ
  pub told : HasText script.left text
  pub is : IsRunPart a orders (input_of script text) journal

-- it is due of a journal, where the script has these items; no text of a journal is to be written
pub record IsJournalDueFor (a : Acceptance) (items : List ScriptItem) (journal : SourceState) (due : Due) : Type 0 where
  pub text : List ℕ
  pub told : HasText journal.left text
  pub is : IsJournalDue a items (input_of journal text) due.status due.out.items due.journal
  pub nothing_kept : kept_text due ≡ None

-- it is due for a replay
pub record IsReplayDueFor (a : Acceptance) (script journal : SourceState) (due : Due) : Type 0 where
  pub script_text : List ℕ
  pub text : List ℕ
  pub script_told : HasText script.left script_text
  pub told : HasText journal.left text
  pub is : IsReplayDue a (input_of script script_text) (input_of journal text) due.status due.out.items due.journal
  pub nothing_kept : kept_text due ≡ None

-- it is due where threads submit
pub record IsPoolDueFor (a : Acceptance) (threads : ℕ) (script : SourceState) (p : PoolDue) : Type 0 where
  pub text : List ℕ
  pub told : HasText script.left text
  pub is : IsPoolDue a threads (input_of script text) p.due.status p.due.out.items p.due.journal p.taken
  pub nothing_kept : kept_text p.due ≡ None

-- this is what is known of it where memory was wanting
pub record IsPoolPartFor (a : Acceptance) (threads : ℕ) (script : SourceState) (p : PoolPart) : Type 0 where
  pub text : List ℕ
  pub told : HasText script.left text
  pub is : IsPoolPart a threads (input_of script text) p.journal p.taken

-- it is due where a party talks
pub record IsTalkDueFor (a : Acceptance) (name proc : List ℕ) (script talk : SourceState) (due : Due) : Type 0 where
  pub script_text : List ℕ
  pub text : List ℕ
  pub script_told : HasText script.left script_text
  pub told : HasText talk.left text
  pub is : IsTalkDue a name proc (input_of script script_text) (input_of talk text) due.status due.out.items due.journal
  pub nothing_kept : kept_text due ≡ None

-- it is due where a ledger is to be saved
pub record IsSaveDueFor (a : Acceptance) (script : SourceState) (due : Due) : Type 0 where
  pub text : List ℕ
  pub told : HasText script.left text
  pub is : IsSaveDue a (input_of script text) due.status due.out.items (kept_text due) due.journal

-- it is due where a script is run from a snapshot
pub record IsResumeDueFor (a : Acceptance) (snapshot script : SourceState) (due : Due) : Type 0 where
  pub text : List ℕ
  pub script_text : List ℕ
  pub told : HasText snapshot.left text
  pub script_told : HasText script.left script_text
  pub is : IsResumeDue a (input_of snapshot text) (input_of script script_text) due.status due.out.items due.journal
  pub nothing_kept : kept_text due ≡ None

-- this is the journal of it where memory was wanting
pub record IsResumePartFor (a : Acceptance) (snapshot script : SourceState) (journal : Journal) : Type 0 where
  pub text : List ℕ
  pub script_text : List ℕ
  pub told : HasText snapshot.left text
  pub script_told : HasText script.left script_text
  pub is : IsResumePart a (input_of snapshot text) (input_of script script_text) journal
