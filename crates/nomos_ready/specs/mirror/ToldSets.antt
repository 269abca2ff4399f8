-- A mirror of the code: how one set of processes that may be ready is told after another. No promise stands on it.
use Rattle.std.specs.Prelude.{◌≡◌, ◌≤◌, ◌<◌, ℕ}
use Rattle.nomos_ready.specs.Covering.{IsFollowed, IsNoted, MayBeReady}
use Rattle.nomos_ready.specs.declared.awake.Awake.{Awake}

-- The second set tells more as ones that may be ready than the first, and the same besides.
pub record Tells (v w : Awake) : Type 0 where
  pub ready : (q : ℕ) → MayBeReady v q → MayBeReady w q
  pub waiting : w.waiting ≡ v.waiting
  pub followed : (name : ℕ) → IsFollowed w name → IsFollowed v name
  pub sought : w.sought ≡ v.sought

-- of those that are noted for a name and are over a number, one that is no higher may be ready
pub record IsToldOver (w : Awake) (name after q : ℕ) : Type 0 where
  pub proxy : ℕ
  pub noted : IsNoted w name proxy
  pub told : MayBeReady w proxy
  pub over : after < proxy
  pub low : proxy ≤ q
