-- A mirror of the code: what the parts of a waking tell one another. No promise stands on it.
use Rattle.std.specs.Prelude.{◌≡◌, ◌<◌, ◌+◌, ◌⊎◌, ℕ, true, false, Option, Some, None, IsSome, slice_get}
use Rattle.nomos_ir.specs.declared.code_node.CodeNode.{CodeNode}
use Rattle.nomos_types.specs.Acceptance.{Acceptance}
use Rattle.nomos_machine.specs.Sight.{offering, owner, accept_next, detach_next}
use Rattle.nomos_machine.specs.State.{State, process_at}
use Rattle.nomos_machine.specs.declared.object.Process.{Process}
use Rattle.nomos_ready.specs.Covering.{HasProxy, IsFollowed, IsNoted, MayBeReady}
use Rattle.nomos_ready.specs.declared.awake.Awake.{Awake}
use Rattle.nomos_ready.specs.declared.touch.Incoming.{Incoming}
use Rattle.nomos_ready.specs.declared.waking.Foreseen.{Foreseen}
use Rattle.nomos_ready.specs.mirror.ToldSets.{Tells}

-- who may read what is heard may be ready
abbrev pub WakesHeard : State → Option Incoming → Awake → Type 0
WakesHeard t (Some h) w = (h.to_client ≡ true → (q : ℕ) → owner t h.name ≡ Some q → MayBeReady w q)
    × (h.to_client ≡ false → (r : Process) → offering t.objects h.name ≡ Some r → MayBeReady w r.pid)
WakesHeard t None w = Unit {0}

-- the process of a number stands at this instruction
pub record StandsAt (a : Acceptance) (t : State) (number : ℕ) (r : Process) (n : CodeNode) : Type 0 where
  pub there : process_at t number ≡ Some r
  pub stands : slice_get a.program.code r.code.0 ≡ Some n

-- The process of a number, if there is one, may be ready, and so may who meets it where it stands, or another one in
-- its place.
pub record WakesBy (a : Acceptance) (t : State) (number : ℕ) (v w : Awake) : Type 0 where
  pub itself : (r : Process) → process_at t number ≡ Some r → MayBeReady w number
  pub tells : Tells v w
  pub releasing : (r : Process) (n : CodeNode) (q : ℕ) → StandsAt a t number r n → IsSome (detach_next n)
      → owner t r.offers ≡ Some q → MayBeReady w q
  pub acquiring : (r : Process) (n : CodeNode) (q : ℕ) → StandsAt a t number r n → IsSome (accept_next n) → 0 < q
      → IsNoted v r.offers q → MayBeReady w q ⊎ HasProxy w r.offers q
  pub unknown : (r : Process) (n : CodeNode) (q : ℕ) → StandsAt a t number r n → IsSome (accept_next n)
      → ¬ (IsFollowed v r.offers) → MayBeReady w q

-- the same of the process of a number, if there is one
abbrev pub MayWakeBy : Acceptance → State → Option ℕ → Awake → Awake → Type 0
MayWakeBy a t (Some number) v w = WakesBy a t number v w
MayWakeBy a t None v w = Tells v w

-- Of the second set the process that fires and its partner are not noted; all else is as it was, but that the one after
-- the process may be sought.
pub record Leaves (f : Foreseen) (v w : Awake) : Type 0 where
  pub ready : (q : ℕ) → MayBeReady v q → MayBeReady w q
  pub noted : (n q : ℕ) → IsNoted v n q → IsNoted w n q ⊎ ((q ≡ f.pid) ⊎ (f.touch.partner ≡ Some q))
  pub back : (n q : ℕ) → IsNoted w n q → IsNoted v n q
  pub own : (n : ℕ) → f.waits ≡ Some n → ¬ (IsNoted w n f.pid)
  pub partner : (n q : ℕ) → f.touch.partner ≡ Some q → f.partner_waits ≡ Some n → ¬ (IsNoted w n q)
  pub followed : (n : ℕ) → IsFollowed w n → IsFollowed v n
  pub sought : (w.sought ≡ v.sought) ⊎ ((w.sought ≡ f.pid) × (v.sought + 1 ≡ f.pid))
