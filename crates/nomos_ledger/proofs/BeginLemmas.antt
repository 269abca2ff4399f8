-- Worlds before any firing.
use Rattle.std.proofs.Common.{◌≡◌, ◌∙◌, ℕ, List, [], length, sym, ap, subst}
use Rattle.nomos_types.specs.Acceptance.{Acceptance, IsAccepted}
use Rattle.nomos_script.specs.declared.item.Start.{Start}
use Rattle.nomos_legal.specs.Ledger.{IsLedger}
use Rattle.nomos_legal.specs.StandsFor.{StandsFor, WorldStandsFor}
use Rattle.nomos_legal.specs.declared.resolved.Resolved.{Resolved}
use Rattle.nomos_legal.proofs.StartLaws.{starts-named}
use Rattle.nomos_legal.proofs.WorldLaws.{begun, begun-stands}
use Rattle.nomos_ledger.specs.declared.fired.Fired.{Fired}
use Rattle.nomos_ledger.specs.mirror.Books.{BooksState, IsUnderWay, origin_in}
use Rattle.nomos_ledger.specs.mirror.StartedLines.{StartedBatch}
use Rattle.nomos_ledger.specs.mirror.Worlds.{world_of}

-- The lines of a batch started in the books of a ledger that stands, which has so many contracts.
module _ {a : Acceptance} (accepted : IsAccepted a) {b c : BooksState} {starts : List Start} {rs : List Resolved}
    (started : StartedBatch a b starts rs c) (stands : StandsFor a b.now) (ledger : IsLedger b.now) (kept : ℕ)
    (count : kept ≡ length b.now.contracts) where
  origin-kept : origin_in c kept ≡ b.now
  origin-kept = ap (origin_in c) count ∙ started.origin

  pub begun-under_way : IsUnderWay c kept
  begun-under_way = record {
    marked = λ none. let some = started.marked in cc;
    origin = subst IsLedger (sym origin-kept) ledger;
    ledger = subst IsLedger (sym started.now) (starts-named accepted stands.settled ledger started.starts_all);
  }

  begun-is : (f : Fired) → f.firings.items ≡ [] → f.places.items ≡ [] → world_of c kept rs f ≡ begun a b.now rs
  begun-is f firings places = λ i. record {
    origin = origin-kept i;
    starts = rs;
    contracts = (started.now i).contracts;
    firings = firings i;
    places = places i;
    state = (started.now i).state;
  }

  -- the world before any firing stands
  pub begun-world_stands : (f : Fired) → f.firings.items ≡ [] → f.places.items ≡ []
      → WorldStandsFor a (world_of c kept rs f)
  begun-world_stands f firings places =
      subst (WorldStandsFor a) (sym (begun-is f firings places))
      (begun-stands accepted stands ledger started.starts_all)
