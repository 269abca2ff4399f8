-- Names that maybe no object mentions any more, beside tallies.
use Rattle.std.specs.Prelude.{◌≡◌, ◌++◌, ℕ, Bool, false, List, [], ◌∷◌, Contains}
use Rattle.nomos_slots.specs.declared.numbered.Slot.{Slot}
use Rattle.nomos_state.specs.Tallying.{tallied}
use Rattle.nomos_state.specs.declared.tally.NameUse.{NameUse}
use Rattle.nomos_state.specs.declared.tally.Tally.{Tally}

-- suspects: names, and whether there may be some that are not among them
pub record Suspicion : Type 0 where
  pub names : List ℕ
  pub lost : Bool

-- one suspect more
abbrev pub suspecting : ℕ → Suspicion → Suspicion
suspecting name s = record s { names = s.names ++ name ∷ [] }

-- nothing is done with a name, as tallies say it
abbrev pub IsIdle : List (Slot Tally) → ℕ → Type 0
IsIdle tallies name = (d : NameUse) → tallied tallies d name ≡ 0

-- the name is a suspect, if nothing is done with it
abbrev pub IsSuspectIfIdle : List (Slot Tally) → Suspicion → ℕ → Type 0
IsSuspectIfIdle tallies s name = IsIdle tallies name → Contains s.names name

-- Whatever name was a suspect, if nothing was done with it, is one afterwards; unless suspects were lost.
abbrev pub KeepsSuspects : List (Slot Tally) → List (Slot Tally) → Suspicion → Suspicion → Type 0
KeepsSuspects before after was is = is.lost ≡ false
    → (was.lost ≡ false)
    × ((name : ℕ) → IsSuspectIfIdle before was name → IsSuspectIfIdle after is name)
