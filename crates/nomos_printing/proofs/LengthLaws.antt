-- How long texts are.
use Rattle.std.proofs.Common.{ℕ, ◌+◌, ◌<◌, ◌≤◌, ◌^◌, List, ◌++◌, length, length-append, arith, inl, inr}
use Rattle.std.specs.Prelude.{decimal, codes}
use Rattle.std.proofs.lemmas.Bool.Decides.{eqb_tells}
use Rattle.std.proofs.lemmas.Fmt.{length-decimal-le_wide}
use Rattle.nomos_base.specs.Gas.{gas_text}
use Rattle.nomos_ir.specs.declared.fault.Fault.{Fault}
use Rattle.nomos_ir.specs.declared.fault.Fault.TheVariants as fault
use Rattle.nomos_script.specs.ScriptNames.{IsScriptName}
use Rattle.nomos_legal.specs.declared.journal.End.{End}
use Rattle.nomos_legal.specs.declared.journal.End.TheVariants as end
use Rattle.nomos_legal.specs.declared.refusal.Refusal.{Refusal}
use Rattle.nomos_legal.specs.declared.refusal.Refusal.TheVariants as refusal
use Rattle.nomos_printing.specs.Cause.{cause_text, fault_text, IsCause}
use Rattle.nomos_printing.specs.End.{end_text, IsEnd, HasLineBelow}

-- a number of 32, 64 and 128 bits
pub length-decimal_32 : (n : ℕ) → n < 2 ^ 32 → length (decimal n) ≤ 10
length-decimal_32 n small = length-decimal-le_wide 10 n (omega arith) (omega (arith, small)) (omega (arith, small))

pub length-decimal_64 : (n : ℕ) → n < 2 ^ 64 → length (decimal n) ≤ 20
length-decimal_64 n small = length-decimal-le_wide 20 n (omega arith) (omega (arith, small)) (omega (arith, small))

length-decimal_128 : (n : ℕ) → n < 2 ^ 128 → length (decimal n) ≤ 39
length-decimal_128 n small = length-decimal-le_wide 39 n (omega arith) (omega (arith, small)) (omega (arith, small))

-- an amount of gas
pub length-gas_text : (unit n : ℕ) → unit < 2 ^ 32 → n < 2 ^ 128 → length (gas_text n unit) ≤ 50
length-gas_text unit n unit_small small =
    let count = length-decimal_128 n small in
    let parts = length-decimal_32 unit unit_small in
    elim (eqb_tells unit 1) [
      | inl whole ↦ rw whole.0 (omega (arith, count))
      | inr other ↦ rw other.0 (simp length-append (omega (arith, count, parts)))
    ]

-- the fault of a term
pub length-fault_text : (f : Fault) → length (fault_text f) ≤ 12
length-fault_text fault.Overflow = omega arith
length-fault_text fault.DivideByZero = omega arith
length-fault_text fault.TermSteps = omega arith
length-fault_text fault.ListLength = omega arith
length-fault_text fault.Depth = omega arith

-- a word of at most 13 bytes and a name
named : (name : List ℕ) → IsScriptName name → length name ≤ 64
named name is = is.short

-- a name with two amounts
shortage : (name g h : List ℕ) → length name ≤ 64 → length g ≤ 50 → length h ≤ 50
    → length (codes "NoGas " ++ name ++ codes " has " ++ g ++ codes " needs " ++ h) ≤ 182
shortage name g h a b d = simp length-append (omega (arith, a, b, d))

-- a cause
pub length-cause_text : (unit : ℕ) (cause : Refusal) → unit < 2 ^ 32 → IsCause cause
    → length (cause_text unit cause) ≤ 182
length-cause_text unit (refusal.NoAccount name) unit_small is = simp length-append (omega (arith, named name is))
length-cause_text unit (refusal.NoProcess name) unit_small is = simp length-append (omega (arith, named name is))
length-cause_text unit (refusal.BadArguments name) unit_small is = simp length-append (omega (arith, named name is))
length-cause_text unit (refusal.NameTaken name) unit_small is = simp length-append (omega (arith, named name is))
length-cause_text unit (refusal.NoGas name has needs) unit_small is =
    shortage name (gas_text has unit) (gas_text needs unit) (named name is.0)
    (length-gas_text unit has unit_small is.1) (length-gas_text unit needs unit_small is.2)
length-cause_text unit refusal.TooMuchGas unit_small is = omega arith

-- a line and a cause
refused : (line cause : List ℕ) (digits : ℕ) → length line ≤ digits → length cause ≤ 182
    → length (codes "refused at " ++ line ++ codes " " ++ cause) ≤ 194 + digits
refused line cause digits a b = simp length-append (omega (arith, a, b))

aborted : (pid text : List ℕ) → length pid ≤ 10 → length text ≤ 12
    → length (codes "aborted " ++ pid ++ codes " " ++ text) ≤ 31
aborted pid text a b = simp length-append (omega (arith, a, b))

-- an end, where the line that it names has at most so many digits
pub length-end_text_line : (unit : ℕ) (digits : ℕ) (e : End) → 1 ≤ digits → digits ≤ 10 → unit < 2 ^ 32 → IsEnd e
    → HasLineBelow digits e → length (end_text unit e) ≤ 194 + digits
length-end_text_line unit digits end.Deposited some few unit_small is below = omega arith
length-end_text_line unit digits end.Committed some few unit_small is below = omega arith
length-end_text_line unit digits end.Blocked some few unit_small is below = omega arith
length-end_text_line unit digits (end.Aborted pid f) some few unit_small is below =
    let short = aborted (decimal pid) (fault_text f) (length-decimal_32 pid is) (length-fault_text f) in
    omega (arith, short)
length-end_text_line unit digits (end.Steps k) some few unit_small is below =
    simp length-append (omega (arith, length-decimal_32 k is))
length-end_text_line unit digits (end.Refused m cause) some few unit_small is below =
    refused (decimal m) (cause_text unit cause) digits
    (length-decimal-le_wide digits m (omega (arith, some)) below (omega (arith, is.0)))
    (length-cause_text unit cause unit_small is.1)

-- an end
pub length-end_text : (unit : ℕ) (e : End) → unit < 2 ^ 32 → IsEnd e → length (end_text unit e) ≤ 204
length-end_text unit end.Deposited unit_small is = omega arith
length-end_text unit end.Committed unit_small is = omega arith
length-end_text unit end.Blocked unit_small is = omega arith
length-end_text unit (end.Aborted pid f) unit_small is =
    length-end_text_line unit 10 (end.Aborted pid f) (omega arith) (omega arith) unit_small is tt
length-end_text unit (end.Steps k) unit_small is =
    length-end_text_line unit 10 (end.Steps k) (omega arith) (omega arith) unit_small is tt
length-end_text unit (end.Refused m cause) unit_small is =
    length-end_text_line unit 10 (end.Refused m cause) (omega arith) (omega arith) unit_small is (omega (arith, is.0))
