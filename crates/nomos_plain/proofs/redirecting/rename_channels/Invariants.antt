-- The channels so far have their new names, the others are as they were, and the room stays.
use Rattle.std.proofs.Common.{◌≡◌, ◌++◌, map, take, drop}
use Rattle.std.specs.Vec.{vec_len, vec_capacity}
use Rattle.nomos_machine.specs.Revised.{renamed}
use Rattle.nomos_plain.proofs.redirecting.rename_channels.Given as goal

abbrev pub invariant-loop-at : goal.invariant-loop-at
invariant-loop-at l = record {
  items : l.channels.items
      ≡ map (λ e. (e.0, renamed l.old l.new e.1)) (take l.at l.fn.channels.items) ++ drop l.at l.fn.channels.items;
  len : vec_len l.channels ≡ vec_len l.fn.channels;
  capacity : vec_capacity l.channels ≡ vec_capacity l.fn.channels;
}
