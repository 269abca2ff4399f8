-- A mirror of the code: standings between which the potential and the lists stay the same.
use Rattle.std.specs.Prelude.{◌≡◌}
use Rattle.nomos_check.specs.declared.standing.Standing.{Standing}

-- the lists and the potential are the same
pub record KeepsAmounts (s next : Standing) : Type 0 where
  pub lists : next.lists ≡ s.lists
  pub potential : next.potential ≡ s.potential
