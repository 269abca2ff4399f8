-- How causes and faults are written.
use Rattle.std.specs.Prelude.{◌<◌, ◌^◌, ℕ, List, ◌++◌, codes}
use Rattle.nomos_base.specs.Gas.{gas_text}
use Rattle.nomos_ir.specs.declared.fault.Fault.{Fault}
use Rattle.nomos_ir.specs.declared.fault.Fault.TheVariants as fault
use Rattle.nomos_script.specs.ScriptNames.{IsScriptName}
use Rattle.nomos_legal.specs.declared.refusal.Refusal.{Refusal}
use Rattle.nomos_legal.specs.declared.refusal.Refusal.TheVariants as refusal

-- the fault of a term
abbrev pub fault_text : Fault → List ℕ
fault_text fault.Overflow = codes "Overflow"
fault_text fault.DivideByZero = codes "DivideByZero"
fault_text fault.TermSteps = codes "TermSteps"
fault_text fault.ListLength = codes "ListLength"
fault_text fault.Depth = codes "Depth"

-- why a line could not be carried out; amounts have so many Dths to the unit
abbrev pub cause_text : ℕ → Refusal → List ℕ
cause_text unit (refusal.NoAccount name) = codes "NoAccount " ++ name
cause_text unit (refusal.NoProcess name) = codes "NoProcess " ++ name
cause_text unit (refusal.BadArguments name) = codes "BadArguments " ++ name
cause_text unit (refusal.NameTaken name) = codes "NameTaken " ++ name
cause_text unit (refusal.NoGas name has needs) =
    codes "NoGas " ++ name ++ codes " has " ++ gas_text has unit ++ codes " needs " ++ gas_text needs unit
cause_text unit refusal.TooMuchGas = codes "TooMuchGas"

-- a cause whose name is one of a script, and whose amounts are within 128 bits
abbrev pub IsCause : Refusal → Type 0
IsCause (refusal.NoAccount name) = IsScriptName name
IsCause (refusal.NoProcess name) = IsScriptName name
IsCause (refusal.BadArguments name) = IsScriptName name
IsCause (refusal.NameTaken name) = IsScriptName name
IsCause (refusal.NoGas name has needs) = IsScriptName name × (has < 2 ^ 128) × (needs < 2 ^ 128)
IsCause refusal.TooMuchGas = Unit {0}
