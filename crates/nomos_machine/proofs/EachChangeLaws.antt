-- What holds of each change that a process makes, put together as its deed is.
use Rattle.std.proofs.Common.{◌≡◌, ◌+◌, ℕ, Bool, true, false, cond, Option, Some, None, option_and_then, refl, subst, nat_le}
use Rattle.std.specs.Option.{option_map}
use Rattle.nomos_ir.specs.declared.fault.Fault.{Fault}
use Rattle.nomos_machine.specs.Change.{Change}
use Rattle.nomos_machine.specs.Deeds.{Deed, changes, has_fault, where_it_has}
use Rattle.nomos_machine.specs.Objects.{potential_of}
use Rattle.nomos_machine.specs.declared.object.Process.{Process}

-- it holds of the change, where there is one
pub record OfChange (Holds : Change → Type 0) (change : Option Change) : Type 0 where
  pub each : (c : Change) → change ≡ Some c → Holds c

-- it holds of the change of the deed, where there is one that is no fault
pub record OfDeed (Holds : Change → Type 0) (d : Option Deed) : Type 0 where
  pub of_changes : (c : Change) → d ≡ Some (changes c) → Holds c

module _ {Holds : Change → Type 0} where
  pub change-some : (c : Change) → Holds c → OfChange Holds (Some c)
  change-some c holds = record { each = λ d is. subst Holds (same d is) holds }
    where
      same : (d : Change) → Some c ≡ Some d → c ≡ d
      same d is = cc

  pub change-bind : {X : Type 0} (o : Option X) (f : X → Option Change) → ((x : X) → o ≡ Some x → OfChange Holds (f x))
      → OfChange Holds (option_and_then f o)
  change-bind None f rest = record { each = λ c is. absurd cc }
  change-bind (Some x) f rest = rest x refl

  pub change-where : (p : Process) (gas : ℕ) (change : Option Change) → OfChange Holds change
      → OfChange Holds (where_it_has gas p change)
  change-where p gas change holds = either (nat_le (gas + potential_of p) p.purse)
    where
      either : (b : Bool) → OfChange Holds (cond b change None)
      either true = holds
      either false = record { each = λ c is. absurd cc }

  pub deed-does : (change : Option Change) → OfChange Holds change → OfDeed Holds (option_map changes change)
  deed-does None holds = record { of_changes = λ c is. absurd cc }
  deed-does (Some d) holds = record { of_changes = λ c is. holds.each c (same c is) }
    where
      same : (c : Change) → Some (changes d) ≡ Some (changes c) → Some d ≡ Some c
      same c is = cc

  pub deed-some : (c : Change) → Holds c → OfDeed Holds (Some (changes c))
  deed-some c holds = deed-does (Some c) (change-some c holds)

  pub deed-bind : {X : Type 0} (o : Option X) (f : X → Option Deed) → ((x : X) → o ≡ Some x → OfDeed Holds (f x))
      → OfDeed Holds (option_and_then f o)
  deed-bind None f rest = record { of_changes = λ c is. absurd cc }
  deed-bind (Some x) f rest = rest x refl

  pub deed-either : (b : Bool) (d e : Option Deed) → OfDeed Holds d → OfDeed Holds e → OfDeed Holds (cond b d e)
  deed-either true d e first second = first
  deed-either false d e first second = second

  pub deed-none : OfDeed Holds None
  deed-none = record { of_changes = λ c is. absurd cc }

  pub deed-fault : (f : Fault) → OfDeed Holds (Some (has_fault f))
  deed-fault f = record { of_changes = λ c is. absurd cc }
