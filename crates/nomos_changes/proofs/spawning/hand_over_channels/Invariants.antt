-- The channels before are handed over, and no room is used.
use Rattle.std.proofs.Common.{◌≡◌, ◌≤◌, Some, drop}
use Rattle.nomos_types.specs.Acceptance.{Acceptance}
use Rattle.nomos_machine.specs.State.{process_at}
use Rattle.nomos_machine.specs.declared.object.Process.{Process}
use Rattle.nomos_changes.proofs.HandLemmas.{Handed}
use Rattle.nomos_changes.proofs.spawning.hand_over_channels.Given as goal

abbrev pub invariant-loop-v : goal.invariant-loop-v
invariant-loop-v g l = record {
  state : (a : Acceptance) (p q : Process) → a.program ≡ l.program
      → process_at (g.P.Sight.state l.fn.parts) l.pid ≡ Some q
      → Handed a (g.P.Sight.state l.fn.parts) p (g.P.Sight.state l.parts) l.pid q l.channels
      (drop l.v-index l.channels);
  room : g.P.Parts.room l.fn.parts ≤ g.P.Parts.room l.parts;
  marked : g.P.Parts.marked l.parts ≡ g.P.Parts.marked l.fn.parts;
}
