-- The lines of firings by the instructions at which they were made.
use Rattle.std.proofs.Common.{◌≡◌, ℕ, List, ◌++◌, refl, ◌∙◌, ap}
use Rattle.std.specs.Option.{option_to_list}
use Rattle.nomos_ir.specs.declared.ids.CodeId.{CodeId}
use Rattle.nomos_types.specs.Acceptance.{Acceptance}
use Rattle.nomos_machine.specs.Optional.{◌>>=◌}
use Rattle.nomos_machine.specs.State.{State}
use Rattle.nomos_machine.specs.Step.{step}
use Rattle.nomos_legal.specs.Batch.{state_or}
use Rattle.nomos_legal.specs.World.{FiresAt, done, fires}
use Rattle.nomos_journal.specs.JournalText.{firing_lines, placed_line, placed_lines}
use Rattle.nomos_journal.specs.declared.line.Version.TheVariants as version

-- the lines of a run are those of its firings at the instructions at which they were made
pub firing_lines-placed : (a : Acceptance) (s : State) (pids : List ℕ) (places : List CodeId) (t : State)
    → FiresAt a s pids places t → firing_lines version.Two a s pids ≡ placed_lines a pids places
firing_lines-placed a s pids places t (done u) = refl
firing_lines-placed a s pids places t (fires u next v pid p rest others here steps more) =
    ap (λ o. option_to_list (o >>= λ q. placed_line a pid q.code)
    ++ firing_lines version.Two a (state_or u (step a u pid)) rest) here
    ∙ ap (λ o. option_to_list (placed_line a pid p.code) ++ firing_lines version.Two a (state_or u o) rest) steps
    ∙ ap (λ ls. option_to_list (placed_line a pid p.code) ++ ls) (firing_lines-placed a next rest others v more)
