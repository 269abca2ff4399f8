-- What is saved is loaded again, and a run from it goes on where the other one stopped.
use Rattle.std.specs.Prelude.{◌≡◌, ◌≢◌, ℕ, List, Ok}
use Rattle.nomos_snapshot.specs.Loading.{Loads}
use Rattle.nomos_snapshot.specs.Text.{snapshot_text}
use Rattle.nomos_top.specs.Call.{EndsOn}
use Rattle.nomos_top.specs.Headline.{Course}
use Rattle.nomos_top.specs.Kept.{CarriesOut}
use Rattle.nomos_top.specs.Replaying.{KeepsText}
use Rattle.nomos_top.specs.Seen.{Call, Texts, HasKept, IsDone}
use Rattle.nomos_top.specs.Tasks.{KeepsSnapshot}
use Rattle.nomos_words.specs.Words.{resume, Asks}

-- The other call runs a script from this text, with the contract of the first one.
pub record ResumesText (t : Texts) (text : List ℕ) (d : Call) (u : Texts) : Type 0 where
  pub file : List ℕ
  pub snapshot : List ℕ
  pub script : List ℕ
  pub asks : Asks d.words (resume file snapshot script)
  pub ends : EndsOn d u
  pub same_contract : u.contract ≡ t.contract
  pub its_text : u.third ≡ text

-- a call goes on where another one stopped: its snapshot is not refused, and its script begins at that one's last
-- ledger, under the same program
pub record GoesOn (c : Call) (t : Texts) (r : CarriesOut c t) (d : Call) (u : Texts) : Type 0 where
  pub not_refused : d.status ≢ 11
  pub same_program : (k : Course d u) → k.a ≡ r.a
  pub begins : (k : Course d u) → k.first ≡ r.last

pub record SavesAndLoads (c : Call) (t : Texts) : Type 0 where
  -- what is kept is the snapshot of the ledger to which the script led, and is loaded as that ledger
  pub saved : (r : CarriesOut c t) → IsDone c.status → KeepsSnapshot r.task
      → HasKept c (snapshot_text r.a r.last) × Loads r.a (snapshot_text r.a r.last) (Ok r.last)
  -- and a run from what was kept goes on there
  pub goes_on : (r : CarriesOut c t) (text : List ℕ) (d : Call) (u : Texts) → IsDone c.status → KeepsSnapshot r.task
      → KeepsText c text → ResumesText t text d u → GoesOn c t r d u
