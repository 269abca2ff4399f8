-- Who may be ready in a state that was not in the one before it.
use Rattle.std.specs.Prelude.{◌≡◌, ◌⊎◌, ℕ, Bool, true, false, Contains, Some, IsSome, slice_get}
use Rattle.nomos_ir.specs.declared.code_node.CodeNode.{CodeNode}
use Rattle.nomos_types.specs.Acceptance.{Acceptance}
use Rattle.nomos_machine.specs.Sight.{offering, owner, accept_next, detach_next}
use Rattle.nomos_machine.specs.State.{State}
use Rattle.nomos_machine.specs.declared.object.Message.{Message}
use Rattle.nomos_machine.specs.declared.object.Object.TheVariants as object
use Rattle.nomos_machine.specs.declared.object.Process.{Process}
use Rattle.nomos_deeds.specs.Readers.{waits}

-- a message of the same way on the same name is one of the objects
pub record WasThere (s : State) (m : Message) : Type 0 where
  pub other : Message
  pub there : Contains s.objects (object.Message other)
  pub way : other.to_client ≡ m.to_client
  pub name : other.from ≡ m.from

-- The second state is the first one but for processes of some numbers, and messages that go some way on some names.
pub record IsSameBut (changed : ℕ → Type 0) (heard : Bool → ℕ → Type 0) (s t : State) : Type 0 where
  pub processes : (r : Process) → Contains t.objects (object.Process r)
      → Contains s.objects (object.Process r) ⊎ changed r.pid
  pub stays : (r : Process) → Contains s.objects (object.Process r)
      → Contains t.objects (object.Process r) ⊎ changed r.pid
  pub messages : (m : Message) → Contains t.objects (object.Message m) → WasThere s m ⊎ heard m.to_client m.from

-- Whom such changes may wake, in the second state. These are who changed; who reads what is heard; who wants to release
-- a process that changed, and now stands at `detach`. And it is who wants to acquire one that changed, and now stands
-- at `accept`.
pub data Woken (a : Acceptance) (changed : ℕ → Type 0) (heard : Bool → ℕ → Type 0) (t : State) : ℕ → Type 0 where
  itself : (q : ℕ) → changed q → Woken a changed heard t q
  client : (name q : ℕ) → heard true name → owner t name ≡ Some q → Woken a changed heard t q
  provider : (name : ℕ) (r : Process) → heard false name → offering t.objects name ≡ Some r
      → Woken a changed heard t r.pid
  releasing : (r : Process) (n : CodeNode) (q : ℕ) → changed r.pid → Contains t.objects (object.Process r)
      → slice_get a.program.code r.code.0 ≡ Some n → IsSome (detach_next n) → owner t r.offers ≡ Some q
      → Woken a changed heard t q
  acquiring : (r : Process) (n : CodeNode) (q : ℕ) → changed r.pid → Contains t.objects (object.Process r)
      → slice_get a.program.code r.code.0 ≡ Some n → IsSome (accept_next n) → waits a t.objects q ≡ Some r.offers
      → Woken a changed heard t q

-- no process changed
abbrev pub NoneChanged : ℕ → Type 0
NoneChanged q = ⊥

-- a message came to the provider of this name
abbrev pub IsSpoken : ℕ → Bool → ℕ → Type 0
IsSpoken name way on = (way ≡ false) × (on ≡ name)

-- An outside party spoke on the name, or heard something: the second state is the first one but for messages, and those
-- that it has besides go to the provider of the name.
abbrev pub IsSpokenTo : ℕ → State → State → Type 0
IsSpokenTo name s t = IsSameBut NoneChanged (IsSpoken name) s t
