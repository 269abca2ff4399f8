use Rattle.std.proofs.Common.{◌≡◌, ◌≤◌}
use Rattle.nomos_state.specs.Indexed.{IsHolding, held_now, state_of}
use Rattle.nomos_state.proofs.TidyLemmas.{tidied_first}
use Rattle.nomos_state.proofs.naming.tidy_all.Given as goal

-- the first names are tidied, and nothing else is changed
abbrev pub invariant-loop-place : goal.invariant-loop-place
invariant-loop-place l = record {
  holding : IsHolding (held_now l.contents);
  others : l.contents ≡ record l.fn.contents { names = l.contents.names };
  names : l.contents.names.now
      ≡ tidied_first (state_of (held_now l.fn.contents)).objects l.place l.fn.contents.names.now;
  marked : l.contents.names.marked ≡ l.fn.contents.names.marked;
  room : l.fn.contents.names.room ≤ l.contents.names.room;
}
