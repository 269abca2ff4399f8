-- A mirror of the code: how a way begins.
use Rattle.std.specs.Prelude.{◌≡◌, ℕ}
use Rattle.nomos_check.specs.Account.{Account}
use Rattle.nomos_check.specs.declared.standing.Standing.{Standing}
use Rattle.nomos_check.specs.declared.standing.WayOn.{WayOn}
use Rattle.nomos_check.specs.declared.standing.WayOn.TheVariants as way
use Rattle.nomos_check.specs.Room.{HasRoom}
use Rattle.nomos_check.specs.mirror.StandingData.{shape_of, HasAccount, way_shape, way_account}

-- the potential has room for what the head of a list frees
abbrev pub HasWayRoom : Standing → WayOn → Type 0
HasWayRoom s (way.Full p) = HasRoom s.potential p.carried.amount
HasWayRoom s _ = Unit {0}

-- the way leads from the one standing to the other
pub record GoesWay (s : Standing) (w : WayOn) (next : Standing) : Type 0 where
  pub shape : shape_of next ≡ way_shape (shape_of s) w
  pub account : (n : ℕ) (a : Account) → HasAccount n s a → HasAccount n next (way_account a w)
