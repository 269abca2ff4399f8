use Rattle.std.proofs.Common.{◌≡◌, ◌≤◌, ◌++◌, length, map, vec_len, vec_capacity}
use Rattle.std.specs.Vec.Iter.{into_iter_items, into_iter_len}
use Rattle.nomos_pool.specs.Hands.{sender_of}
use Rattle.nomos_pool.proofs.gathering.senders_of.Given as goal

-- the senders of the hands that went by are in the room
abbrev pub invariant-loop-hand : goal.invariant-loop-hand
invariant-loop-hand g l = record {
  rest : l.yielded ++ into_iter_items l.hand-iterator ≡ l.fn.hands.items;
  long : into_iter_len l.hand-iterator ≡ length (into_iter_items l.hand-iterator);
  senders : l.room.items ≡ map sender_of l.yielded;
  many : vec_len l.room ≡ length l.yielded;
  free : length l.fn.hands.items ≤ vec_capacity l.room;
}
