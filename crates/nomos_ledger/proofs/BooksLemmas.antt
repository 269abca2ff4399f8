-- Books of a batch under way.
use Rattle.std.proofs.Common.{◌≡◌, ◌≢◌, Option, Some, None, refl}
use Rattle.nomos_machine.specs.State.{State}
use Rattle.nomos_legal.specs.Batch.{state_or}

-- a state that is each one that is marked, where one is, is the marked one
pub back-state : (marked : Option State) (s t : State) → marked ≢ None → ((u : State) → marked ≡ Some u → t ≡ u)
    → t ≡ state_or s marked
back-state (Some u) s t some is = is u refl
back-state None s t some is = absurd (some refl)
