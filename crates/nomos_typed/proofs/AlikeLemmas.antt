-- Types of one mode are alike exactly where they are equal.
use Rattle.std.proofs.Common.{◌≡◌, ◌↔◌, ℕ, Some, None, subst, sym, ◌∙◌, arith}
use Rattle.nomos_ir.specs.Program.{IsProgram}
use Rattle.nomos_ir.specs.declared.ids.TypeId.{TypeId}
use Rattle.nomos_ir.specs.declared.lists.ProgramLists.{ProgramLists}
use Rattle.nomos_ir.specs.declared.mode.Mode.{Mode}
use Rattle.nomos_types.specs.Alike.{AlikeTypes}
use Rattle.nomos_types.specs.Amount.{Annotations}
use Rattle.nomos_types.specs.Equality.{EqualTypes}
use Rattle.nomos_types.specs.Modes.{HasMode}
use Rattle.nomos_types.proofs.ModeLaws.{mode-in_range, mode-unique}
use Rattle.nomos_machine.specs.State.{type_of}
use Rattle.nomos_typed.specs.declared.told.Told.{Told}
use Rattle.nomos_typed.specs.mirror.ComparedWith.{AreAlikeIn, FindsType, NameFits, program_of}

module _ {lists : ProgramLists} {x : Annotations} {own t : TypeId} {m n : Mode} where
  pub alike-equal : HasMode lists own m → HasMode lists t n → m ≡ n
      → EqualTypes lists x own t ↔ AlikeTypes lists x own t
  alike-equal left right same = (
    λ equal. record {
      equal = equal;
      mode = m;
      left_mode = left;
      right_mode = subst (λ (k : Mode). HasMode lists t k) (sym same) right;
    },
    λ alike. alike.equal,
  )

  -- what is alike has one mode
  pub alike-mode : IsProgram lists → HasMode lists own m → HasMode lists t n → AlikeTypes lists x own t → m ≡ n
  alike-mode is_program left right alike =
      mode-unique is_program left alike.left_mode ∙ mode-unique is_program alike.right_mode right

module _ (told : Told) (is_program : IsProgram (program_of told)) where
  -- a name whose type is known
  pub name-exact : (name : ℕ) (own t : TypeId) → type_of told.types.now name ≡ Some own
      → AreAlikeIn told own t ↔ NameFits told name t
  name-exact name own t found = (
    λ alike. record { own = own; found = found; alike = alike },
    λ fits.
        let there = fits.found in
        let same : fits.own ≡ own = cc in
        subst (λ (u : TypeId). AreAlikeIn told u t) same fits.alike,
  )

  -- a name without a type of the program
  pub name-none : (name : ℕ) (t : TypeId) → FindsType told name None → NameFits told name t → ⊥
  name-none name t none fits =
      let inside = mode-in_range is_program fits.alike.left_mode in
      let over = none fits.own fits.found in
      absurd (omega (arith, inside, over))
