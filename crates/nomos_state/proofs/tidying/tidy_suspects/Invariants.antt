use Rattle.std.proofs.Common.{◌≡◌, true, false, length}
use Rattle.nomos_machine.specs.Change.{tidied}
use Rattle.nomos_state.specs.Tallied.{AreTalliesOf}
use Rattle.nomos_state.proofs.tidying.tidy_suspects.Given as goal

-- what is left to tidy stays, and tallies are right
abbrev pub invariant-loop-name : goal.invariant-loop-name
invariant-loop-name l = record {
  exact : l.tallies.exact ≡ true;
  known : l.tallies.suspects.lost ≡ false;
  says : AreTalliesOf l.tallies l.inside.state;
  names : l.tallies.names.marked ≡ l.fn.tallies.names.marked;
  state : tidied l.inside.state ≡ tidied l.fn.inside.state;
  room : l.inside.room ≡ l.fn.inside.room;
  marked : l.inside.marked ≡ l.fn.inside.marked;
}

-- one suspect less
abbrev pub decreases-loop-name : goal.decreases-loop-name
decreases-loop-name l = length l.tallies.suspects.names
