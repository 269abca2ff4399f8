-- A mirror of the code: talks of mode L, by their types and those of their contracts.
use Rattle.std.specs.Prelude.{◌≡◌, ◌↔◌, ℕ, Bool, true, false, IsTrue, List, Contains, Option, Some, None}
use Rattle.nomos_ir.specs.declared.mode.Mode.{Mode}
use Rattle.nomos_ir.specs.declared.mode.Mode.TheVariants as mode
use Rattle.nomos_machine.specs.State.{type_of}
use Rattle.nomos_types.specs.Acceptance.{Acceptance}
use Rattle.nomos_types.specs.Synchronizing.{IsSynchronizingAt}
use Rattle.nomos_typed.specs.declared.leading.Led.{Led}
use Rattle.nomos_typed.specs.declared.sections.Decided.{Decided}
use Rattle.nomos_typed.specs.declared.sections.Talk.{Talk}
use Rattle.nomos_typed.specs.declared.told.Told.{Told}
use Rattle.nomos_typed.specs.mirror.Ties.{mode_in}
use Rattle.nomos_typed.specs.mirror.ComparedWith.{IsTypeIn}

-- the mode is L
abbrev pub at_l : Option Mode → Bool
at_l (Some mode.L) = true
at_l _ = false

abbrev pub talks_at_l : Told → ℕ → Bool
talks_at_l told name = at_l (mode_in told name)

-- the talk on a name of mode L that leads to a base
pub record IsTalkOf (told : Told) (l : Led) (t : Talk) : Type 0 where
  pub name : t.name ≡ l.name
  pub own : type_of told.types.now l.name ≡ Some t.own
  pub own_in : IsTypeIn told t.own
  pub shared : type_of told.types.now l.base ≡ Some t.shared
  pub shared_in : IsTypeIn told t.shared
  pub mode : IsTrue (talks_at_l told l.name)

abbrev pub IsTalkFor : Told → Led → Option Talk → Type 0
IsTalkFor told l (Some t) = IsTalkOf told l t
IsTalkFor told l None = (t : Talk) → ¬ (IsTalkOf told l t)

-- one of these names has the talk
pub record IsTalkAmong (told : Told) (led : List Led) (t : Talk) : Type 0 where
  pub l : Led
  pub among : Contains led l
  pub talk : IsTalkOf told l t

abbrev pub AreTalks : Told → List Led → List Talk → Type 0
AreTalks told led talks = (t : Talk) → Contains talks t ↔ IsTalkAmong told led t

-- each end of its section that the talk can reach goes back to the contract
abbrev pub IsBack : Acceptance → Talk → Type 0
IsBack a t = IsSynchronizingAt a.program a.annotations t.own t.shared

-- one of these talks is that of the name, and goes back
pub record HasBack (a : Acceptance) (talks : List Talk) (name : ℕ) : Type 0 where
  pub t : Talk
  pub among : Contains talks t
  pub is : t.name ≡ name
  pub back : IsBack a t

abbrev pub IsDecided : Acceptance → Decided → Type 0
IsDecided a d = IsTrue d.is_back ↔ IsBack a d.talk
