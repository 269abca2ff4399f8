-- Shops: a batch under way with its program and its limit.
use Rattle.std.specs.Prelude.{◌≡◌, ℕ, ◌+◌, ◌<◌, ◌≤◌, ◌^◌, List, [], map, length, Some}
use Rattle.nomos_types.specs.Acceptance.{Acceptance}
use Rattle.nomos_machine.specs.Run.{run}
use Rattle.nomos_machine.specs.State.{State}
use Rattle.nomos_legal.specs.Ending.{IsAllowed}
use Rattle.nomos_legal.specs.StandsFor.{WorldStandsFor}
use Rattle.nomos_legal.specs.World.{WorldState, ledger_begun}
use Rattle.nomos_workers.specs.declared.batch.BatchEnd.{BatchEnd}
use Rattle.nomos_workers.specs.declared.batch.BatchEnd.TheVariants as batch_end

pub record ShopState : Type 0 where
  pub accepted : Acceptance
  pub world : WorldState
  -- the most firings that the batch may make
  pub limit : ℕ

-- a shop of its parts
abbrev pub shop_of : Acceptance → WorldState → ℕ → ShopState
shop_of a w limit = record { accepted = a; world = w; limit = limit }

-- What holds of every shop. Its world stands for the program and has no more firings than it may make, and the next
-- numbers of its start are far enough from the greatest for so many.
pub record IsShop (s : ShopState) : Type 0 where
  pub stands : WorldStandsFor s.accepted s.world
  pub within : length s.world.firings ≤ s.limit
  pub objects : (ledger_begun s.accepted s.world).state.next_object + s.limit < 2 ^ 32
  pub names : (ledger_begun s.accepted s.world).state.next_name + s.limit < 2 ^ 32

-- the world before any firing
abbrev pub unfired : Acceptance → WorldState → WorldState
unfired a w = record {
  origin = w.origin;
  starts = w.starts;
  contracts = (ledger_begun a w).contracts;
  firings = [];
  places = [];
  state = (ledger_begun a w).state;
}

-- the shop as it was opened
abbrev pub opening : ShopState → ShopState
opening s = record { accepted = s.accepted; world = unfired s.accepted s.world; limit = s.limit }

-- its firings: the number of a pass, and that of a process
abbrev pub history_of : ShopState → List (ℕ × ℕ)
history_of s = map (λ f. (f.pass, f.pid)) s.world.firings

-- the end is one that is allowed for a state after so many firings of at most so many; want of memory is free
abbrev pub MayEnd : Acceptance → State → ℕ → ℕ → BatchEnd → Type 0
MayEnd a s count limit (batch_end.Done e) = IsAllowed a s count limit e
MayEnd a s count limit batch_end.NoMemory = Unit {0}

-- From this start the processes of the history fire one after another, no more than may fire, and lead to a state in
-- which this end is allowed.
pub record HasRun (start : ShopState) (history : List (ℕ × ℕ)) (e : BatchEnd) : Type 0 where
  pub state : State
  pub reached : run start.accepted start.world.state (map (λ f. f.1) history) ≡ Some state
  pub within : length history ≤ start.limit
  pub ends : MayEnd start.accepted state (length history) start.limit e
