-- The table of faults has each of them.
use Rattle.std.proofs.Common.{◌≡◌, ℕ, List, Option, Some, refl, subst}
use Rattle.std.specs.Prelude.{find}
use Rattle.std.specs.Str.{bytes_eq}
use Rattle.nomos_ir.specs.declared.fault.Fault.{Fault}
use Rattle.nomos_ir.specs.declared.fault.Fault.TheVariants as fault
use Rattle.nomos_printing.specs.Cause.{fault_text}
use Rattle.nomos_printing.specs.ReadAs.{ReadsAs}
use Rattle.nomos_printing.specs.mirror.FaultNaming.{all_faults, fault_named}
use Rattle.nomos_printing.proofs.NamingLaws.{ReadsAs-named}

-- a fault is found by its name
whole : (f : Fault) → find (λ g. bytes_eq (fault_text g) (fault_text f)) all_faults ≡ Some f
whole fault.Overflow = refl
whole fault.DivideByZero = refl
whole fault.TermSteps = refl
whole fault.ListLength = refl
whole fault.Depth = refl

-- faults are read by their names
pub fault_named_reads : (text : List ℕ) → ReadsAs (λ f. Unit {0}) fault_text text (fault_named text)
unfolding fault_named
fault_named_reads text = ReadsAs-named fault_text all_faults whole text

-- a fault is read as itself
pub fault_reads : (f : Fault) → ReadsAs (λ g. Unit {0}) fault_text (fault_text f) (Some f)
fault_reads f =
    let P : Option Fault → Type 0 = λ answer. ReadsAs (λ g. Unit {0}) fault_text (fault_text f) answer in
    subst P (whole f) (ReadsAs-named fault_text all_faults whole (fault_text f))
