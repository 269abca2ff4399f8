-- How far the numbers of objects and names rise along a journal.
use Rattle.std.specs.Prelude.{◌≡◌, ◌≤◌, ℕ, ◌+◌, All, List, Some, take}
use Rattle.nomos_types.specs.Acceptance.{Acceptance}
use Rattle.nomos_machine.specs.Run.{run}
use Rattle.nomos_machine.specs.State.{State}
use Rattle.nomos_script.specs.Size.{start_count}
use Rattle.nomos_script.specs.declared.item.ScriptItem.{ScriptItem}
use Rattle.nomos_legal.specs.Legal.{firings_in, firings_made}
use Rattle.nomos_legal.specs.Passage.{Passage}
use Rattle.nomos_legal.specs.declared.journal.Journal.{Journal}

-- Both next numbers are at most 1 and so many.
pub record HasNumbered (most : ℕ) (s : State) : Type 0 where
  pub objects : s.next_object ≤ 1 + most
  pub names : s.next_name ≤ 1 + most

-- So it is before and after the passage, and after each front of its firings.
pub record PassageNumbers (a : Acceptance) (most : ℕ) (p : Passage) : Type 0 where
  pub before : HasNumbered most p.before.state
  pub firings : (k : ℕ) (s : State) → run a p.start.state (take k (firings_in p.entry)) ≡ Some s → HasNumbered most s
  pub after : HasNumbered most p.after.state

-- so many numbers are given at most: one for each start of the items and one for each firing
abbrev pub numbers_given : List ScriptItem → Journal → ℕ
numbers_given items journal = start_count items + firings_made journal.entries

-- so it is in all passages
abbrev pub AllNumbered : Acceptance → ℕ → List Passage → Type 0
AllNumbered a most ps = All (PassageNumbers a most) ps
