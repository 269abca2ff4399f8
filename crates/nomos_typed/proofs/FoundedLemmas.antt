-- A name has a mode exactly where that is found, and a process is founded where its parts are.
use Rattle.std.proofs.Common.{◌≡◌, ◌≢◌, ◌↔◌, ℕ, Bool, IsTrue, Option, Some, None, IsSome, refl, ap, subst, sym, ◌∙◌}
use Rattle.nomos_ir.specs.Program.{IsProgram}
use Rattle.nomos_ir.specs.declared.mode.Mode.{Mode}
use Rattle.nomos_ir.specs.declared.mode.Mode.TheVariants as mode
use Rattle.nomos_machine.specs.Matching.{HasBase}
use Rattle.nomos_machine.specs.State.{type_of}
use Rattle.nomos_machine.specs.declared.object.Process.{Process}
use Rattle.nomos_typed.proofs.TieLemmas.{mode-typed, typed-mode}
use Rattle.nomos_typed.specs.Founded.{NameHasMode}
use Rattle.nomos_typed.specs.declared.told.Told.{Told}
use Rattle.nomos_typed.specs.mirror.Ties.{mode_in}
use Rattle.nomos_typed.specs.mirror.ComparedWith.{IsTold, program_of}

some-there : {X : Type 0} (o : Option X) (x : X) → o ≡ Some x → IsSome o
some-there (Some y) x is = refl
some-there None x is = absurd cc

none-there : {X : Type 0} (o : Option X) → o ≡ None → ¬ (IsSome o)
none-there None is some = absurd cc
none-there (Some y) is some = absurd cc

module _ (told : Told) (is_told : IsTold told) where
  abbrev InMode : ℕ → Mode → Type 0
  InMode name m = NameHasMode (program_of told) told.types.now name m

  -- the name has the mode exactly where that is found
  pub found-mode : IsProgram (program_of told) → (name : ℕ) (m : Mode) → (mode_in told name ≡ Some m) ↔ InMode name m
  found-mode is_program name m = (
    λ is.
        let (t, found, has) = typed-mode told is_told is_program name m is in
        record { own = t; found = found; mode = has },
    λ in_mode. mode-typed told is_told name in_mode.own m in_mode.found in_mode.mode,
  )

  -- a mode was found: the name has another one exactly where that is the same
  pub mode-exact : IsProgram (program_of told) → (name : ℕ) (own m : Mode) (answer : Bool)
      → mode_in told name ≡ Some own
      → (IsTrue answer ↔ (own ≡ m)) → IsTrue answer ↔ InMode name m
  mode-exact is_program name own m answer is exact = (
    λ same. (found-mode is_program name m).0 (is ∙ ap Some (exact.0 same)),
    λ in_mode.
        let there = (found-mode is_program name m).1 in_mode in
        let same : own ≡ m = cc in
        exact.1 same,
  )

  pub mode-missing : IsProgram (program_of told) → (name : ℕ) (m : Mode) → mode_in told name ≡ None → ¬ (InMode name m)
  mode-missing is_program name m none in_mode =
      let there = (found-mode is_program name m).1 in_mode in
      cc

  -- a process with a base
  pub based-exact : (p : Process) (base : ℕ) → p.base ≡ Some base → ((p.mode ≡ mode.L) × InMode base mode.S)
      ↔ HasBase (program_of told) told.types.now p
  based-exact p base is = (
    λ both. record {
      base = (λ some. both.0, λ at_l. some-there p.base base is);
      shared =
          λ b same.
          let one : base ≡ b = let path = sym is ∙ same in cc in
          let there = both.1 in
          (there.own, subst (λ (n : ℕ). type_of told.types.now n ≡ Some there.own) one there.found, there.mode);
    },
    λ has.
        let (t, found, in_mode) = has.shared base is in
        (has.base.0 (some-there p.base base is), record { own = t; found = found; mode = in_mode }),
  )

  -- a process without one
  pub baseless-exact : (p : Process) → p.base ≡ None → (p.mode ≢ mode.L)
      ↔ HasBase (program_of told) told.types.now p
  baseless-exact p is = (
    λ other. record {
      base = (λ some. absurd (none-there p.base is some), λ at_l. absurd (other at_l));
      shared = λ b same. absurd cc;
    },
    λ has at_l. none-there p.base is (has.base.1 at_l),
  )
