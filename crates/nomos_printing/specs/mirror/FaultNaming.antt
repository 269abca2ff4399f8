-- A mirror: how the code finds the fault of a name.
use Rattle.std.specs.Prelude.{ℕ, List, [], ◌∷◌, Option, find}
use Rattle.std.specs.Str.{bytes_eq}
use Rattle.nomos_ir.specs.declared.fault.Fault.{Fault}
use Rattle.nomos_ir.specs.declared.fault.Fault.TheVariants as fault
use Rattle.nomos_printing.specs.Cause.{fault_text}

-- every fault
abbrev pub all_faults : List Fault
all_faults = fault.Overflow ∷ fault.DivideByZero ∷ fault.TermSteps ∷ fault.ListLength ∷ fault.Depth ∷ []

-- the first fault with this name
unfoldable pub fault_named : List ℕ → Option Fault
fault_named text = find (λ f. bytes_eq (fault_text f) text) all_faults
