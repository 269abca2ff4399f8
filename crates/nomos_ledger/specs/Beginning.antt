-- What the begin of a batch answers.
use Rattle.std.specs.Prelude.{◌≡◌, []}
use Rattle.nomos_types.specs.Acceptance.{Acceptance}
use Rattle.nomos_script.specs.declared.item.Batch.{Batch}
use Rattle.nomos_legal.specs.Batch.{AllStart, OneRefuses}
use Rattle.nomos_legal.specs.Ledger.{LedgerState}
use Rattle.nomos_legal.specs.StandsFor.{StandsFor, WorldStandsFor}
use Rattle.nomos_legal.specs.World.{WorldState, ledger_begun}
use Rattle.nomos_ledger.specs.declared.begun.Begun.{Begun}
use Rattle.nomos_ledger.specs.declared.begun.Begun.TheVariants as begun

-- Every line of the batch started from this ledger, and nothing has fired.
pub record HasBegun (a : Acceptance) (l : LedgerState) (batch : Batch) (w : WorldState) : Type 0 where
  pub origin : w.origin ≡ l
  pub starts : AllStart a l batch.starts w.starts
  pub contracts : w.contracts ≡ (ledger_begun a w).contracts
  pub state : w.state ≡ (ledger_begun a w).state
  pub firings : w.firings ≡ []
  pub places : w.places ≡ []

-- what the begin of a batch answers
abbrev pub Begins : {M : Type 0} → Acceptance → LedgerState → Batch → Begun M → Type 0
Begins a l batch (begun.World w) = HasBegun a l batch w
Begins a l batch (begun.Refused kept line cause) = OneRefuses a l batch.starts line cause × (kept ≡ l)
Begins a l batch (begun.NoMemory kept) = kept ≡ l

-- what is answered stands for the program
abbrev pub BegunStandsFor : {M : Type 0} → Acceptance → Begun M → Type 0
BegunStandsFor a (begun.World w) = WorldStandsFor a w
BegunStandsFor a (begun.Refused kept line cause) = StandsFor a kept
BegunStandsFor a (begun.NoMemory kept) = StandsFor a kept
