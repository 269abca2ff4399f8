-- A mirror of the code: a shop beside which is known who may be ready. No promise stands on it.
use Rattle.std.specs.Prelude.{Option}
use Rattle.nomos_ready.specs.declared.awake.Awake.{Awake}
use Rattle.nomos_ledger.specs.Watching.{IsWatched}
use Rattle.nomos_workers.specs.Shops.{IsShop, ShopState}

pub record IsWatchedShop (s : ShopState) (awake : Option Awake) : Type 0 where
  pub shop : IsShop s
  pub watched : IsWatched s.accepted s.world.state awake
