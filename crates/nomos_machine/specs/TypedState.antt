-- Typed states.
use Rattle.std.specs.Prelude.{◌≡◌, ◌≤◌, ◌<◌, ◌+◌, ◌↔◌, ℕ, List, map, length, All, Contains, Some, IsSome}
use Rattle.std.specs.Ordering.{nat_cmp}
use Rattle.std.specs.List.Sorted.{IsStrictlySortedBy}
use Rattle.nomos_ir.specs.Bindings.{IsAscending, bound_to}
use Rattle.nomos_ir.specs.Order.{count_of}
use Rattle.nomos_ir.specs.declared.ids.TypeId.{TypeId}
use Rattle.nomos_ir.specs.declared.mode.Mode.{Mode}
use Rattle.nomos_ir.specs.declared.mode.Mode.TheVariants as mode
use Rattle.nomos_types.specs.Acceptance.{Acceptance}
use Rattle.nomos_types.specs.Judgement.{count_one}
use Rattle.nomos_types.specs.Modes.{HasMode}
use Rattle.nomos_types.specs.Synchronizing.{IsSynchronizingAt}
use Rattle.nomos_machine.specs.Matching.{ProcessTyped}
use Rattle.nomos_machine.specs.Objects.{object_number, provided, used, shared_names, mentioned, talk_end, times}
use Rattle.nomos_machine.specs.State.{State, NameTypes, type_of}
use Rattle.nomos_machine.specs.TypedMessage.{MessageTyped}
use Rattle.nomos_machine.specs.declared.object.Message.{Message}
use Rattle.nomos_machine.specs.declared.object.Object.{Object}
use Rattle.nomos_machine.specs.declared.object.Object.TheVariants as object
use Rattle.nomos_machine.specs.declared.object.Process.{Process}

-- ---- numbers and names

-- values, lists and channels are maps, and no variable stands in two of them
pub record VariablesDiffer (p : Process) : Type 0 where
  pub values : IsAscending p.values
  pub lists : IsAscending p.lists
  pub channels : IsAscending p.channels
  pub apart : (v : ℕ)
      → count_one (bound_to v p.values) + count_one (bound_to v p.lists) + count_one (bound_to v p.channels) ≤ 1

-- the variables of a process differ; a message has none
abbrev pub HasVariables : Object → Type 0
HasVariables (object.Process p) = VariablesDiffer p
HasVariables (object.Message m) = Unit {0}

-- Numbers and names are in order: each object and each name is there once, below the next one, and a name has a type
-- exactly where an object mentions it.
pub record Numbered (s : State) : Type 0 where
  -- objects stand in order of number, each number once, all from 1 to below the next one
  pub ascending : IsStrictlySortedBy nat_cmp (map object_number s.objects)
  pub over : All (λ o. 0 < object_number o) s.objects
  pub below : All (λ o. object_number o < s.next_object) s.objects
  pub next : 0 < s.next_object
  -- the names in the table of types ascend, each once, all below the next one
  pub table : IsStrictlySortedBy nat_cmp (map (λ t. t.0) s.types)
  pub names : All (λ t. t.0 < s.next_name) s.types
  -- exactly the names that objects mention have a type
  pub typed : (name : ℕ) → IsSome (type_of s.types name) ↔ (1 ≤ times mentioned s.objects name)
  pub variables : All HasVariables s.objects

-- ---- who provides a name, and who uses it

-- By the mode of its type: a name of mode R or L has one provider and one user, which for R may be an outside party.
-- One of mode T has a provider alone, and for one of mode S there stands one process.
abbrev pub IsOwned : Mode → State → ℕ → Type 0
IsOwned mode.R s name =
    (times provided s.objects name ≡ 1) × (times used s.objects name + count_of name s.outside ≡ 1)
IsOwned mode.L s name =
    (times provided s.objects name ≡ 1) × (times used s.objects name ≡ 1) × (count_of name s.outside ≡ 0)
IsOwned mode.T s name =
    (times provided s.objects name ≡ 1) × (times used s.objects name ≡ 0) × (count_of name s.outside ≡ 0)
IsOwned mode.S s name = (times shared_names s.objects name ≡ 1) × (count_of name s.outside ≡ 0)

-- ---- each object by itself

-- where names have these types, and there are so many accounts
abbrev pub ObjectTyped : Acceptance → NameTypes → ℕ → Object → Type 0
ObjectTyped a types accounts (object.Process p) = ProcessTyped a types accounts p
ObjectTyped a types accounts (object.Message m) = MessageTyped a types m

-- ---- critical sections

-- From the name one comes to a process of mode L with this base. The provider of the name is that process, or it is a
-- message, and one goes on from the end of its talk that it uses.
pub data LeadsToBase (objects : List Object) (base : ℕ) : ℕ → Type 0 where
  at_base : (p : Process) → Contains objects (object.Process p) → p.mode ≡ mode.L → p.base ≡ Some base
      → LeadsToBase objects base p.offers
  further : (m : Message) (name onward : ℕ) → Contains objects (object.Message m)
      → Contains (provided (object.Message m)) name → Contains (talk_end m) onward → LeadsToBase objects base onward
      → LeadsToBase objects base name

-- The talk on a name of mode L comes from an acquired contract, and each `down` that it can reach goes back to the type
-- of that contract.
pub record InSection (a : Acceptance) (s : State) (name : ℕ) (t : TypeId) : Type 0 where
  pub base : ℕ
  pub leads : LeadsToBase s.objects base name
  pub shared : TypeId
  pub found : type_of s.types base ≡ Some shared
  pub synchronizing : IsSynchronizingAt a.program a.annotations t shared

-- ---- the whole state

-- A state is typed. Its numbers and names are in order, each name has the provider and the users that its mode wants,
-- and an outside party has names of mode R alone. Each object is typed by itself, and each talk on an acquired contract
-- leads back to that contract.
pub record IsTyped (a : Acceptance) (s : State) : Type 0 where
  pub numbered : Numbered s
  pub owned : (name : ℕ) (t : TypeId) (m : Mode) → type_of s.types name ≡ Some t → HasMode a.program t m
      → IsOwned m s name
  pub outside : (name : ℕ) → 1 ≤ count_of name s.outside
      → (t : TypeId) × (type_of s.types name ≡ Some t) × HasMode a.program t mode.R
  pub each : All (ObjectTyped a s.types (length s.balances)) s.objects
  pub sections : (name : ℕ) (t : TypeId) → type_of s.types name ≡ Some t → HasMode a.program t mode.L
      → InSection a s name t

-- a name that a contract may have: one whose type has mode S; the machine knows of no contracts
pub record IsContractName (a : Acceptance) (s : State) (name : ℕ) : Type 0 where
  pub own : TypeId
  pub found : type_of s.types name ≡ Some own
  pub mode : HasMode a.program own mode.S
