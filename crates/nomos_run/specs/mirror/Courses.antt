-- A script under way that several workers carry on, as the code has it. No promise stands on it.
use Rattle.std.specs.Prelude.{◌≡◌, ℕ, ◌+◌, ◌<◌, ◌≤◌, ◌∷◌, ◌++◌, List, [], map, length, take, Result, IfOk, OnErr}
use Rattle.nomos_types.specs.Acceptance.{Acceptance, IsAccepted}
use Rattle.nomos_script.specs.Size.{IsScriptSize}
use Rattle.nomos_script.specs.declared.item.ScriptItem.{ScriptItem}
use Rattle.nomos_legal.specs.Ending.{IsAllowed}
use Rattle.nomos_legal.specs.Ledger.{LedgerState, empty_ledger}
use Rattle.nomos_legal.specs.Legal.{batch_limit, max_firings}
use Rattle.nomos_legal.specs.StandsFor.{StandsNamed}
use Rattle.nomos_legal.specs.World.{WorldState}
use Rattle.nomos_legal.specs.declared.journal.End.{End}
use Rattle.nomos_legal.specs.declared.journal.Firing.{Firing}
use Rattle.nomos_ledger.specs.Running.{RunsOn}
use Rattle.nomos_walk.specs.WalkState.{WalkState}
use Rattle.nomos_walk.specs.Walks.{HasBegunBatch}
use Rattle.nomos_walk.specs.declared.started.PassedItem.{PassedItem}
use Rattle.nomos_ledger.specs.Watching.{IsWatched}
use Rattle.nomos_workers.specs.Shops.{IsShop, shop_of}
use Rattle.nomos_workers.specs.declared.batch.Crew.TheVariants as crews
use Rattle.nomos_run.specs.declared.script_course.Phase.{Phase}
use Rattle.nomos_run.specs.declared.script_course.Phase.TheVariants as phase
use Rattle.nomos_run.specs.declared.script_course.Trail.{Trail}
use Rattle.nomos_run.specs.declared.script_course.UnderWay.{UnderWay}
use Rattle.nomos_run.specs.declared.orders.Orders.{Orders}
use Rattle.nomos_run.specs.mirror.Runs.{CarriesOut, HasGone, RunsSoFar}

-- ---- what contracts see of it

-- what it began with, and the firings so far, each with its pass
pub record CourseState : Type 0 where
  pub accepted : Acceptance
  pub orders : Orders
  pub items : List ScriptItem
  pub firings : List Firing

-- as it began
abbrev pub opening : CourseState → CourseState
opening s = record s { firings = [] }

-- firings as the number of a pass and that of a process
abbrev pub firings_told : List Firing → List (ℕ × ℕ)
firings_told firings = map (λ f. (f.pass, f.pid)) firings

abbrev pub history_of : CourseState → List (ℕ × ℕ)
history_of s = firings_told s.firings

-- ---- what holds between two looks

-- What never changes: the program is accepted, the script is no longer than a script may be, and several workers carry
-- it out.
pub record IsTrail (t : Trail) : Type 0 where
  pub accepted : IsAccepted t.accepted.now
  pub standing : StandsNamed t.accepted.now empty_ledger
  pub size : IsScriptSize t.items.now
  pub workers : ℕ
  pub several : t.orders.crew ≡ crews.Many workers

-- the same program, orders and items
pub record KeepsTrail (before after : Trail) : Type 0 where
  pub accepted : after.accepted ≡ before.accepted
  pub orders : after.orders ≡ before.orders
  pub items : after.items ≡ before.items

-- so many first items have passed, with this ledger and this walk behind them
abbrev pub HasComeTo : Trail → LedgerState → WalkState → Type 0
HasComeTo t l w = HasGone t.accepted.now empty_ledger t.orders (take t.next t.items.now) t.way.entries.items l w

-- the next item is this one
pub record IsNext (t : Trail) (i : ScriptItem) : Type 0 where
  pub inside : t.next < length t.items.now
  pub more : take (t.next + 1) t.items.now ≡ take t.next t.items.now ++ i ∷ []

-- the next item is a batch, which has come to this world
pub record IsUnder {M : Type 0} (t : Trail) (u : UnderWay M) : Type 0 where
  pub ledger : LedgerState
  pub item : ScriptItem
  pub start : WorldState
  pub come : HasComeTo t ledger t.way.walk
  pub next : IsNext t item
  pub begun : HasBegunBatch t.way.walk ledger item u.outset.line u.outset.spent start t.way.walk
  pub runs : RunsOn t.accepted.now u.limit start u.watched.world
  pub limit : u.limit ≡ batch_limit t.way.walk.limit t.way.walk.made
  pub sum : t.way.walk.made + u.limit ≤ max_firings
  pub shop : IsShop (shop_of t.accepted.now u.watched.world u.limit)
  pub watched : IsWatched t.accepted.now u.watched.world.state u.watched.awake

-- what comes next fits what has passed; where memory was wanting the entries are those of some first items
abbrev pub IsPhase : {M : Type 0} → Trail → Phase M → Type 0
IsPhase t (phase.Between l) = HasComeTo t l t.way.walk
IsPhase t (phase.Under u) = IsUnder t u
IsPhase t phase.Stopped = RunsSoFar t.accepted.now empty_ledger t.items.now t.orders t.way.entries.items

pub record IsCourse {M : Type 0} (t : Trail) (p : Phase M) : Type 0 where
  pub trail : IsTrail t
  pub phase : IsPhase t p

-- ---- steps

-- the firings of the batch under way
abbrev pub phase_firings : {M : Type 0} → Phase M → List Firing
phase_firings (phase.Under u) = u.watched.world.firings
phase_firings _ = []

-- no batch is under way
abbrev pub IsNotUnder : {M : Type 0} → Phase M → Type 0
IsNotUnder (phase.Under u) = ⊥
IsNotUnder _ = Unit {0}

-- a batch is under way, which may end so
abbrev pub IsEndOf : {M : Type 0} → Trail → Phase M → End → Type 0
IsEndOf t (phase.Under u) e =
    IsAllowed t.accepted.now u.watched.world.state (length u.watched.world.firings) u.limit e
IsEndOf t _ e = ⊥

-- The next item has passed, and its entry is not kept yet.
pub record HasPassed {M : Type 0} (t : Trail) (passed : PassedItem M) : Type 0 where
  pub ledger : LedgerState
  pub walk : WalkState
  pub item : ScriptItem
  pub come : HasComeTo t ledger walk
  pub next : IsNext t item
  pub carried : CarriesOut t.orders.crew walk ledger item passed t.way.walk

-- It went on, and no batch that is under way has fired; or memory was wanting.
pub record HasMoved {M E : Type 0} (before after : Trail) (r : Result (Phase M) E) : Type 0 where
  pub kept : KeepsTrail before after
  pub fired : after.fired.items ≡ before.fired.items
  pub ok : IfOk r (λ p. IsPhase after p × (phase_firings p ≡ []))
  pub err : OnErr r (RunsSoFar after.accepted.now empty_ledger after.items.now after.orders after.way.entries.items)
