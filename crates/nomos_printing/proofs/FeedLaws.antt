-- What is written has no line feed.
use Rattle.std.proofs.Common.{◌≢◌, ℕ, ◌<◌, ◌^◌, List, ◌++◌, refl, subst, arith, inl, inr, IsTrue}
use Rattle.std.specs.Prelude.{decimal, codes}
use Rattle.std.proofs.lemmas.Bool.{false≢true}
use Rattle.std.proofs.lemmas.Bool.Decides.{eqb_tells}
use Rattle.std.proofs.lemmas.List.Elements.{All-weaker}
use Rattle.nomos_base.specs.Gas.{gas_text}
use Rattle.nomos_ir.specs.Name.{is_word_byte}
use Rattle.nomos_ir.specs.declared.fault.Fault.{Fault}
use Rattle.nomos_ir.specs.declared.fault.Fault.TheVariants as fault
use Rattle.nomos_script.specs.ScriptNames.{IsScriptName}
use Rattle.nomos_legal.specs.declared.journal.End.{End}
use Rattle.nomos_legal.specs.declared.journal.End.TheVariants as end
use Rattle.nomos_legal.specs.declared.refusal.Refusal.{Refusal}
use Rattle.nomos_legal.specs.declared.refusal.Refusal.TheVariants as refusal
use Rattle.nomos_printing.specs.Cause.{cause_text, fault_text, IsCause}
use Rattle.nomos_printing.specs.End.{end_text, IsEnd}
use Rattle.nomos_printing.specs.Splitting.{Lacks}
use Rattle.nomos_printing.proofs.GasLemmas.{gas_text-parts}
use Rattle.nomos_printing.proofs.SplittingLaws.{Lacks-decimal, Lacks-tested, Lacks-append}

-- a number
pub feedless_number : (n : ℕ) → n < 2 ^ 128 → Lacks 10 (decimal n)
feedless_number n small = Lacks-decimal 10 n small (omega arith)

-- a name
feedless_name : (name : List ℕ) → IsScriptName name → Lacks 10 name
feedless_name name is =
    All-weaker (λ byte. IsTrue (is_word_byte byte)) (λ byte. byte ≢ 10)
    (λ byte word e. let P : ℕ → Type 0 = λ b. IsTrue (is_word_byte b) in false≢true (subst P e word)) name is.word.each

-- an amount of gas
feedless_gas : (unit n : ℕ) → unit < 2 ^ 32 → n < 2 ^ 128 → Lacks 10 (gas_text n unit)
feedless_gas unit n unit_small small = elim (eqb_tells unit 1) [
  | inl whole ↦ rw whole.0 (feedless_number n small)
  | inr parts ↦
      rw (gas_text-parts n unit parts.1)
      (Lacks-append 10 (decimal n) (codes "/" ++ decimal unit) (feedless_number n small)
      (Lacks-append 10 (codes "/") (decimal unit) (Lacks-tested 10 (codes "/") refl)
      (feedless_number unit (omega arith))))
]

-- a fault
feedless_fault : (f : Fault) → Lacks 10 (fault_text f)
feedless_fault fault.Overflow = Lacks-tested 10 (fault_text fault.Overflow) refl
feedless_fault fault.DivideByZero = Lacks-tested 10 (fault_text fault.DivideByZero) refl
feedless_fault fault.TermSteps = Lacks-tested 10 (fault_text fault.TermSteps) refl
feedless_fault fault.ListLength = Lacks-tested 10 (fault_text fault.ListLength) refl
feedless_fault fault.Depth = Lacks-tested 10 (fault_text fault.Depth) refl

-- a name with two amounts
feedless_shortage : (name g h : List ℕ) → Lacks 10 name → Lacks 10 g → Lacks 10 h
    → Lacks 10 (codes "NoGas " ++ name ++ codes " has " ++ g ++ codes " needs " ++ h)
feedless_shortage name g h a b d =
    Lacks-append 10 (codes "NoGas " ++ name ++ codes " has " ++ g ++ codes " needs ") h
    (Lacks-append 10 (codes "NoGas " ++ name ++ codes " has " ++ g) (codes " needs ")
    (Lacks-append 10 (codes "NoGas " ++ name ++ codes " has ") g
    (Lacks-append 10 (codes "NoGas " ++ name) (codes " has ")
    (Lacks-append 10 (codes "NoGas ") name (Lacks-tested 10 (codes "NoGas ") refl) a)
    (Lacks-tested 10 (codes " has ") refl))
    b) (Lacks-tested 10 (codes " needs ") refl))
    d

-- a cause
feedless_cause : (unit : ℕ) (cause : Refusal) → unit < 2 ^ 32 → IsCause cause → Lacks 10 (cause_text unit cause)
feedless_cause unit (refusal.NoAccount name) unit_small is =
    Lacks-append 10 (codes "NoAccount ") name (Lacks-tested 10 (codes "NoAccount ") refl) (feedless_name name is)
feedless_cause unit (refusal.NoProcess name) unit_small is =
    Lacks-append 10 (codes "NoProcess ") name (Lacks-tested 10 (codes "NoProcess ") refl) (feedless_name name is)
feedless_cause unit (refusal.BadArguments name) unit_small is =
    Lacks-append 10 (codes "BadArguments ") name (Lacks-tested 10 (codes "BadArguments ") refl) (feedless_name name is)
feedless_cause unit (refusal.NameTaken name) unit_small is =
    Lacks-append 10 (codes "NameTaken ") name (Lacks-tested 10 (codes "NameTaken ") refl) (feedless_name name is)
feedless_cause unit (refusal.NoGas name has needs) unit_small is =
    feedless_shortage name (gas_text has unit) (gas_text needs unit) (feedless_name name is.0)
    (feedless_gas unit has unit_small is.1) (feedless_gas unit needs unit_small is.2)
feedless_cause unit refusal.TooMuchGas unit_small is = Lacks-tested 10 (codes "TooMuchGas") refl

-- a number and a text with a blank between them, behind a word
feedless_pair : (word number text : List ℕ) → Lacks 10 word → Lacks 10 number → Lacks 10 text
    → Lacks 10 (word ++ number ++ codes " " ++ text)
feedless_pair word number text a b d =
    Lacks-append 10 (word ++ number ++ codes " ") text
    (Lacks-append 10 (word ++ number) (codes " ") (Lacks-append 10 word number a b) (Lacks-tested 10 (codes " ") refl))
    d

-- an end
pub feedless_end : (unit : ℕ) (e : End) → unit < 2 ^ 32 → IsEnd e → Lacks 10 (end_text unit e)
feedless_end unit end.Deposited unit_small is = Lacks-tested 10 (codes "deposited") refl
feedless_end unit end.Committed unit_small is = Lacks-tested 10 (codes "committed") refl
feedless_end unit end.Blocked unit_small is = Lacks-tested 10 (codes "blocked") refl
feedless_end unit (end.Aborted pid f) unit_small is =
    feedless_pair (codes "aborted ") (decimal pid) (fault_text f) (Lacks-tested 10 (codes "aborted ") refl)
    (feedless_number pid (omega (arith, is))) (feedless_fault f)
feedless_end unit (end.Steps k) unit_small is =
    Lacks-append 10 (codes "steps ") (decimal k) (Lacks-tested 10 (codes "steps ") refl)
    (feedless_number k (omega (arith, is)))
feedless_end unit (end.Refused m cause) unit_small is =
    feedless_pair (codes "refused at ") (decimal m) (cause_text unit cause) (Lacks-tested 10 (codes "refused at ") refl)
    (feedless_number m (omega (arith, is.0))) (feedless_cause unit cause unit_small is.1)
