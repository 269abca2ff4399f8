-- What makes a state typed, apart from what its processes have at their instructions.
use Rattle.std.specs.Prelude.{◌≤◌, All}
use Rattle.nomos_contents.specs.declared.data.StateData.{StateData}
use Rattle.nomos_machine.specs.Matching.{Matches}
use Rattle.nomos_machine.specs.Objects.{free_purse, potential_of}
use Rattle.nomos_machine.specs.State.{NameTypes}
use Rattle.nomos_machine.specs.declared.object.Object.{Object}
use Rattle.nomos_machine.specs.declared.object.Object.TheVariants as object
use Rattle.nomos_machine.specs.declared.object.Process.{Process}
use Rattle.nomos_types.specs.Acceptance.{Acceptance}
use Rattle.nomos_types.specs.Derivation.{Derives}
use Rattle.nomos_types.specs.Judgement.{Judgement, with_potential}
use Rattle.nomos_types.specs.Places.{IsPlace}
use Rattle.nomos_typed.specs.Founded.{AreObjectsFounded}
use Rattle.nomos_typed.specs.Messages.{AreMessagesTyped}
use Rattle.nomos_typed.specs.Owning.{AreNamesMentioned, AreNamesOwned}
use Rattle.nomos_typed.specs.Sections.{AreInSections}

-- A process stands at its place: it has what some judgement says that stands there, its purse covers its lists, and
-- with what is left of it the judgement has a derivation.
pub record IsPlaced (a : Acceptance) (types : NameTypes) (p : Process) : Type 0 where
  pub place : Judgement
  pub is_place : IsPlace a.program a.annotations place
  pub matches : Matches a.program a.annotations types p place
  pub covered : potential_of p ≤ p.purse
  pub derives : Derives a.program a.annotations (with_potential place (free_purse p))

-- where it is a process, it stands at its place
abbrev pub ObjectPlaced : Acceptance → NameTypes → Object → Type 0
ObjectPlaced a types (object.Process p) = IsPlaced a types p
ObjectPlaced a types (object.Message m) = Unit {0}

abbrev pub AreProcessesPlaced : Acceptance → StateData → Type 0
AreProcessesPlaced a d = All (ObjectPlaced a d.types) d.objects

-- the other parts of what makes a state typed
pub record ArePartsTyped (a : Acceptance) (d : StateData) : Type 0 where
  pub mentioned : AreNamesMentioned d
  pub owned : AreNamesOwned a d
  pub founded : AreObjectsFounded a d
  pub messages : AreMessagesTyped a d
  pub sections : AreInSections a d
