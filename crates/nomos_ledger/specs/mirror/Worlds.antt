-- A mirror of the code: the world that is kept in books, with its starts and its firings.
use Rattle.std.specs.Prelude.{ℕ, List}
use Rattle.nomos_legal.specs.World.{WorldState}
use Rattle.nomos_legal.specs.declared.resolved.Resolved.{Resolved}
use Rattle.nomos_ledger.specs.declared.fired.Fired.{Fired}
use Rattle.nomos_ledger.specs.mirror.Books.{BooksState, origin_in}

abbrev pub world_of : BooksState → ℕ → List Resolved → Fired → WorldState
world_of b kept starts fired = record {
  origin = origin_in b kept;
  starts = starts;
  contracts = b.now.contracts;
  firings = fired.firings.items;
  places = fired.places.items;
  state = b.now.state;
}
