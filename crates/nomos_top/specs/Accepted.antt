-- What is accepted is typed.
use Rattle.std.specs.Prelude.{◌≡◌, ◌≢◌, ◌⊎◌, ℕ, codes}
use Rattle.nomos_answers.specs.DueLines.{read_fault_line}
use Rattle.nomos_answers.specs.Outside.{HaveRisen}
use Rattle.nomos_top.specs.Seen.{Call, Texts, HasWritten, Gives}
use Rattle.nomos_top.specs.TaskRuns.{IsGivenFor}
use Rattle.nomos_top.specs.Tasks.{IsAlone, contract_of}
use Rattle.nomos_types.specs.Acceptance.{Acceptance}
use Rattle.nomos_words.specs.Words.{Task, Asks}

-- some program is given
abbrev pub GivesOne : Call → Type 0
GivesOne c = (a : Acceptance) × Gives c a

-- the statuses behind acceptance alone
abbrev pub IsBehindStatus : ℕ → Type 0
IsBehindStatus status =
    (status ≡ 0) ⊎ ((status ≡ 2) ⊎ ((status ≡ 3) ⊎ ((status ≡ 9) ⊎ ((status ≡ 10) ⊎ (status ≡ 11)))))

-- The text reads as the program that is given, and it is typed under the amounts that are given with it, over their
-- unit, which has at least one Dth. They are those that the pivot run finds, which looks for amounts that meet the rows
-- of the program: just what amounts have to meet for it to be typed under them. Where least bounds are sought, they are
-- those that the least run finds, and under no others do the transactions declare less.
pub record AcceptedIsTyped (c : Call) (t : Texts) : Type 0 where
  pub typed : (a : Acceptance) → Gives c a
      → (task : Task) × Asks c.words task × IsGivenFor task (contract_of task t.contract) a
  -- a program is given with these statuses
  pub given : IsBehindStatus c.status → GivesOne c
  -- and with 5 where it was not the contract that could not be read
  pub given_behind : c.status ≡ 5 → HasWritten c (read_fault_line (codes "contract")) ⊎ GivesOne c
  -- wherever the text is accepted it is given, but where memory was wanting or the contract's source failed
  pub given_always : (task : Task) (a : Acceptance) → Asks c.words task
      → IsGivenFor task (contract_of task t.contract) a → c.status ≢ 7 → Gives c a ⊎ HaveRisen c.contract.counts
  -- for `check` and `least` with 0 and 6 alone
  pub given_alone : (task : Task) → Asks c.words task → IsAlone task → GivesOne c → (c.status ≡ 0) ⊎ (c.status ≡ 6)
