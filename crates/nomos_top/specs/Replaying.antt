-- Journals that are kept replay.
use Rattle.std.specs.Prelude.{◌≡◌, ◌≢◌, ◌⊎◌, ◌++◌, ℕ, List, [], Some}
use Rattle.nomos_top.specs.Call.{EndsOn}
use Rattle.nomos_top.specs.Seen.{Call, Texts, HasWritten, Fails}
use Rattle.nomos_top.specs.Tasks.{KeepsJournal}
use Rattle.nomos_words.specs.Words.{Task, replay, Asks}

-- the journal's sink told what it had, and has got this text, a journal or a snapshot, which is not empty, to its end
pub record KeepsText (c : Call) (text : List ℕ) : Type 0 where
  pub before : List ℕ
  pub had : c.journal_out.before ≡ Some before
  pub has : c.journal_out.after ≡ Some (before ++ text)
  pub some : text ≢ []
  pub whole : c.status ≢ 6

-- The other call replays this text with the contract and the script of the first one.
pub record ReplaysText (t : Texts) (text : List ℕ) (d : Call) (u : Texts) : Type 0 where
  pub file : List ℕ
  pub script : List ℕ
  pub journal : List ℕ
  pub asks : Asks d.words (replay file script journal)
  pub ends : EndsOn d u
  pub same_contract : u.contract ≡ t.contract
  pub same_script : u.script ≡ t.script
  pub its_text : u.third ≡ text

-- the other call gives the same program, journal and status, and has written the same
pub record DoesTheSame (c d : Call) : Type 0 where
  pub accepted : d.accepted ≡ c.accepted
  pub journal : d.journal ≡ c.journal
  pub status : d.status ≡ c.status
  pub report : List ℕ
  pub wrote : HasWritten c report
  pub writes : HasWritten d report

-- Where a journal's text was kept, each replay of it does the same, unless it fails.
pub record KeptReplays (c : Call) (t : Texts) : Type 0 where
  pub replays : (task : Task) (text : List ℕ) (d : Call) (u : Texts) → Asks c.words task → KeepsJournal task
      → KeepsText c text → ReplaysText t text d u
      → DoesTheSame c d ⊎ Fails d
