-- All parts of the contents are marked, put back and given room together.
use Rattle.std.specs.Prelude.{◌≡◌, ◌≤◌, ℕ, IsSome, Some, None}
use Rattle.nomos_slots.specs.Cells.{name_in}
use Rattle.nomos_slots.specs.ChannelTables.{HaveSameNames}
use Rattle.nomos_state.specs.Indexed.{Holding}
use Rattle.nomos_state.specs.declared.inside.Columns.{Columns}

-- the same is held, but for where the names of channels are kept
pub record HoldsTheSame (before after : Holding) : Type 0 where
  pub slots : after.slots ≡ before.slots
  pub value_rows : after.value_rows ≡ before.value_rows
  pub list_rows : after.list_rows ≡ before.list_rows
  pub channels : (p v : ℕ) → name_in after.cells p v ≡ name_in before.cells p v
  pub names : after.names ≡ before.names
  pub balances : after.balances ≡ before.balances
  pub outside : after.outside ≡ before.outside
  pub results : after.results ≡ before.results
  pub drawn : after.drawn ≡ before.drawn

-- the same is marked, but for where the names of channels are kept
pub record MarksTheSame (before after : Columns) : Type 0 where
  pub objects : after.objects.marked ≡ before.objects.marked
  pub values : after.values.marked ≡ before.values.marked
  pub its_lists : after.lists.marked ≡ before.lists.marked
  pub channels : HaveSameNames before.channels.marked after.channels.marked
  pub names : after.names.marked ≡ before.names.marked
  pub balances : after.balances.marked ≡ before.balances.marked
  pub outside : after.outside.marked ≡ before.outside.marked
  pub results : after.results.marked ≡ before.results.marked

-- nothing is marked
pub record NothingIsMarked (c : Columns) : Type 0 where
  pub objects : c.objects.marked ≡ None
  pub values : c.values.marked ≡ None
  pub its_lists : c.lists.marked ≡ None
  pub channels : c.channels.marked ≡ None
  pub names : c.names.marked ≡ None
  pub balances : c.balances.marked ≡ None
  pub outside : c.outside.marked ≡ None
  pub results : c.results.marked ≡ None

-- each part is marked
pub record EachIsMarked (c : Columns) : Type 0 where
  pub objects : IsSome c.objects.marked
  pub values : IsSome c.values.marked
  pub its_lists : IsSome c.lists.marked
  pub channels : IsSome c.channels.marked
  pub names : IsSome c.names.marked
  pub balances : IsSome c.balances.marked
  pub outside : IsSome c.outside.marked
  pub results : IsSome c.results.marked

-- each part is marked, with what the other contents hold
pub record MarksWhatIsHeld (before after : Columns) : Type 0 where
  pub objects : after.objects.marked ≡ Some before.objects.now
  pub values : after.values.marked ≡ Some before.values.now
  pub its_lists : after.lists.marked ≡ Some before.lists.now
  pub channels : after.channels.marked ≡ Some before.channels.now
  pub names : after.names.marked ≡ Some before.names.now
  pub balances : after.balances.marked ≡ Some before.balances.now
  pub outside : after.outside.marked ≡ Some before.outside.now
  pub results : after.results.marked ≡ Some before.results.now

-- no part has less room, or fewer seats
pub record KeepsRoom (before after : Columns) : Type 0 where
  pub objects : before.objects.room ≤ after.objects.room
  pub values : before.values.room ≤ after.values.room
  pub its_lists : before.lists.room ≤ after.lists.room
  pub channels : before.channels.room ≤ after.channels.room
  pub names : before.names.room ≤ after.names.room
  pub balances : before.balances.seats ≤ after.balances.seats
  pub outside : before.outside.seats ≤ after.outside.seats
