-- Typed processes: a process has what the typing rules say at its place.
use Rattle.std.specs.Prelude.{◌≡◌, ◌≤◌, ◌<◌, ◌↔◌, ℕ, All, Some, IsSome}
use Rattle.nomos_ir.specs.Bindings.{bound_to}
use Rattle.nomos_ir.specs.ValueKind.{ValueHasKind}
use Rattle.nomos_ir.specs.declared.ids.TypeId.{TypeId}
use Rattle.nomos_ir.specs.declared.lists.ProgramLists.{ProgramLists}
use Rattle.nomos_ir.specs.declared.mode.Mode.TheVariants as mode
use Rattle.nomos_types.specs.Acceptance.{Acceptance}
use Rattle.nomos_types.specs.Alike.{AlikeTypes}
use Rattle.nomos_types.specs.Amount.{Annotations}
use Rattle.nomos_types.specs.Derivation.{Derives}
use Rattle.nomos_types.specs.Judgement.{Judgement, ListType, type_held, with_potential}
use Rattle.nomos_types.specs.Modes.{HasMode}
use Rattle.nomos_types.specs.Places.{IsPlace}
use Rattle.nomos_machine.specs.Objects.{potential_of, free_purse}
use Rattle.nomos_ir.specs.Paired.{Paired}
use Rattle.nomos_machine.specs.State.{NameTypes, type_of}
use Rattle.nomos_machine.specs.declared.object.PotentialList.{PotentialList}
use Rattle.nomos_machine.specs.declared.object.Process.{Process}

-- the name has a type, and that is alike to this one
pub record NameHasType (lists : ProgramLists) (x : Annotations) (types : NameTypes) (name : ℕ)
    (t : TypeId) : Type 0 where
  pub own : TypeId
  pub found : type_of types name ≡ Some own
  pub alike : AlikeTypes lists x own t

-- each element has the kind, and carries the amount
pub record IsListOf (l : PotentialList) (t : ListType) : Type 0 where
  pub amount : l.amount ≡ t.amount
  pub items : All (λ v. ValueHasKind v t.kind) l.items

-- The process stands where the judgement does, and has what the judgement says. That is for each variable a value of
-- its kind, a list of its kind and amount, or a channel of a type that is alike; and nothing besides.
pub record Matches (lists : ProgramLists) (x : Annotations) (types : NameTypes) (p : Process) (j : Judgement)
    : Type 0 where
  pub mode : p.mode ≡ j.mode
  pub code : p.code ≡ j.code
  pub offers : NameHasType lists x types p.offers j.offers
  pub values : (v : ℕ) → Paired ValueHasKind (bound_to v p.values) (bound_to v j.kinds)
  pub held_lists : (v : ℕ) → Paired IsListOf (bound_to v p.lists) (bound_to v j.lists)
  pub channels : (v : ℕ) → Paired (NameHasType lists x types) (bound_to v p.channels)
      (type_held j v)

-- A process has a base, which is a shared name, exactly at mode L.
pub record HasBase (lists : ProgramLists) (types : NameTypes) (p : Process) : Type 0 where
  pub base : IsSome p.base ↔ (p.mode ≡ mode.L)
  pub shared : (b : ℕ) → p.base ≡ Some b → (t : TypeId) × (type_of types b ≡ Some t) × HasMode lists t mode.S

-- A process is typed. It has what some judgement says that stands at its place in the program. Its purse covers its
-- lists, and with what is left of it the judgement has a derivation. Its payer is an account, it offers a name of its
-- own mode, and it has a base where it has to.
pub record ProcessTyped (a : Acceptance) (types : NameTypes) (accounts : ℕ) (p : Process) : Type 0 where
  pub place : Judgement
  pub is_place : IsPlace a.program a.annotations place
  pub matches : Matches a.program a.annotations types p place
  pub covered : potential_of p ≤ p.purse
  pub derives : Derives a.program a.annotations (with_potential place (free_purse p))
  pub payer : p.payer < accounts
  pub offered : (t : TypeId) → type_of types p.offers ≡ Some t → HasMode a.program t p.mode
  pub has_base : HasBase a.program types p
