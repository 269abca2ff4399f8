-- Amounts that are ignored; the types of channels in the program.
use Rattle.std.proofs.Common.{◌≡◌, ◌<◌, ℕ, length, Some}
use Rattle.nomos_ir.proofs.BindingLaws.{all-bound}
use Rattle.nomos_ir.specs.declared.ids.TypeId.{TypeId}
use Rattle.nomos_ir.specs.declared.lists.ProgramLists.{ProgramLists}
use Rattle.nomos_ir.specs.declared.mode.Mode.{Mode}
use Rattle.nomos_ir.specs.declared.mode.Mode.TheVariants as mode
use Rattle.nomos_ir.specs.Bindings.{bound_to}
use Rattle.nomos_ir.specs.Program.{IsProgram}
use Rattle.nomos_types.proofs.ModeLaws.{mode-in_range}
use Rattle.nomos_types.specs.Modes.{HasMode}
use Rattle.nomos_check.specs.declared.standing.Standing.{Standing}
use Rattle.nomos_check.specs.mirror.StandingData.{IsWithin}

module _ {lists : ProgramLists} {s : Standing} (is_program : IsProgram lists) (within : IsWithin lists s) where
  pub shared-in_range : (v : ℕ) (t : TypeId) → bound_to v s.shared ≡ Some t → t.0 < length lists.types
  shared-in_range v t found =
      let AtS : TypeId → Type 0 = λ u. HasMode lists u mode.S in
      mode-in_range is_program (all-bound AtS v t s.shared within.judgement.shared_modes found)
