-- A mirror of the code: room for firings.
use Rattle.std.specs.Prelude.{◌<◌}
use Rattle.std.specs.Vec.{vec_len, vec_capacity}
use Rattle.nomos_ledger.specs.declared.fired.Fired.{Fired}

-- there is room for one more firing and its instruction
pub record HasSpace (f : Fired) : Type 0 where
  pub firings : vec_len f.firings < vec_capacity f.firings
  pub places : vec_len f.places < vec_capacity f.places
