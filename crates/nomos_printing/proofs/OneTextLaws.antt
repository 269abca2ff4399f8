-- What is written is read as what it is: so a text says one thing alone.
use Rattle.std.proofs.Common.{◌≡◌, ℕ, ◌<◌, ◌≤◌, ◌^◌, List, ◌++◌, drop, get_or, Some, refl, sym, ◌∙◌, ap, arith, append_assoc, inl, inr}
use Rattle.std.specs.Prelude.{decimal, codes}
use Rattle.std.specs.Str.Parse.{digits_value}
use Rattle.std.proofs.lemmas.Bool.Decides.{eqb_tells}
use Rattle.std.proofs.lemmas.Fmt.{decimal_is_IsNumeral_wide}
use Rattle.nomos_base.specs.Gas.{gas_text}
use Rattle.nomos_script.specs.ScriptNames.{IsScriptName}
use Rattle.nomos_legal.specs.declared.journal.End.{End}
use Rattle.nomos_legal.specs.declared.journal.End.TheVariants as end
use Rattle.nomos_legal.specs.declared.refusal.Refusal.{Refusal}
use Rattle.nomos_legal.specs.declared.refusal.Refusal.TheVariants as refusal
use Rattle.nomos_printing.specs.declared.cause.Shortage.{Shortage}
use Rattle.nomos_printing.specs.Cause.{cause_text, fault_text, IsCause}
use Rattle.nomos_printing.specs.End.{end_text, IsEnd}
use Rattle.nomos_printing.specs.ReadAs.{ReadsAs}
use Rattle.nomos_printing.specs.mirror.Shortages.{IsShortage, shortage_text}
use Rattle.nomos_printing.proofs.CauseLemmas.{Lacks-name, shortage_both, no_gas_all, three_parts}
use Rattle.nomos_printing.proofs.EndLemmas.{aborted_both, steps_some, refused_both}
use Rattle.nomos_printing.proofs.GasLemmas.{Lacks-gas_text, gas_text-parts, same_unit}
use Rattle.nomos_printing.proofs.NamingLemmas.{fault_reads}
use Rattle.nomos_printing.proofs.SplittingLaws.{Lacks-decimal}

-- each thing of the kind is read as itself where it is written
abbrev pub ReadsItself : {A : Type 0} → (A → Type 0) → (A → List ℕ) → Type 0
ReadsItself {A} IsOne written = (a : A) → IsOne a → ReadsAs IsOne written (written a) (Some a)

-- then no two of them are written alike
pub one_text : {A : Type 0} {IsOne : A → Type 0} {written : A → List ℕ} → ReadsItself IsOne written
    → (a b : A) → IsOne a → IsOne b → written a ≡ written b → a ≡ b
one_text itself a b a_is b_is same = let told = (itself a a_is).each b b_is same in cc

-- ---- numbers

-- two numbers are not written alike
pub decimal-only : (m n : ℕ) → m < 2 ^ 128 → n < 2 ^ 128 → decimal m ≡ decimal n → m ≡ n
decimal-only m n m_small n_small same =
    sym (decimal_is_IsNumeral_wide m (omega arith)).1 ∙ ap (λ t. digits_value 10 t) same
    ∙ (decimal_is_IsNumeral_wide n (omega arith)).1

pub number_itself : (bits : ℕ) → 2 ^ bits ≤ 2 ^ 128 → ReadsItself (λ n. n < 2 ^ bits) decimal
number_itself bits few n small =
    record {
      found = (small, refl);
      each = λ m m_small same. ap (λ x. Some x)
          (decimal-only n m (omega (arith, small, few)) (omega (arith, m_small, few)) same);
    }

pub gas_itself : (unit : ℕ) → unit < 2 ^ 32 → ReadsItself (λ n. n < 2 ^ 128) (λ n. gas_text n unit)
gas_itself unit unit_small n small = elim (eqb_tells unit 1) [
  | inl whole ↦ rw whole.0 (number_itself 128 (omega arith) n small)
  | inr parts ↦
      same_unit unit (gas_text n unit) (decimal n) (decimal unit) (Some n) parts.1
      (record { lacks = Lacks-decimal 47 n small (omega arith); joined = gas_text-parts n unit parts.1 }) refl
      (number_itself 128 (omega arith) n small)
]

-- ---- causes

-- a name is read as itself
name_itself : ReadsItself IsScriptName (λ n. n)
name_itself name is = record { found = (is, refl); each = λ other other_is same. ap (λ x. Some x) same }

shortage_itself : (unit : ℕ) → unit < 2 ^ 32 → ReadsItself IsShortage (shortage_text unit)
shortage_itself unit unit_small s is =
    let has = gas_text s.has unit in
    let needs = gas_text s.needs unit in
    shortage_both unit unit_small (shortage_text unit s) ((has ++ codes " needs ") ++ needs) has
    (codes "needs " ++ needs)
    needs s.has s.needs refl
    (record { lacks = Lacks-gas_text unit s.has unit_small is.0; joined = append_assoc has (codes " needs ") needs })
    refl
    (gas_itself unit unit_small s.has is.0) (gas_itself unit unit_small s.needs is.1)

account_only : (unit : ℕ) (name : List ℕ) (b : Refusal) → cause_text unit (refusal.NoAccount name) ≡ cause_text unit b
    → Some (refusal.NoAccount name) ≡ Some b
account_only unit name (refusal.NoAccount other) same = ap (λ n. Some (refusal.NoAccount n)) (ap (λ t. drop 10 t) same)
account_only unit name (refusal.NoProcess other) same = absurd (omega (arith, ap (λ t. get_or t 2 0) same))
account_only unit name (refusal.BadArguments other) same = absurd (omega (arith, ap (λ t. get_or t 2 0) same))
account_only unit name (refusal.NameTaken other) same = absurd (omega (arith, ap (λ t. get_or t 2 0) same))
account_only unit name (refusal.NoGas other has needs) same = absurd (omega (arith, ap (λ t. get_or t 2 0) same))
account_only unit name refusal.TooMuchGas same = absurd (omega (arith, ap (λ t. get_or t 2 0) same))

process_only : (unit : ℕ) (name : List ℕ) (b : Refusal) → cause_text unit (refusal.NoProcess name) ≡ cause_text unit b
    → Some (refusal.NoProcess name) ≡ Some b
process_only unit name (refusal.NoAccount other) same = absurd (omega (arith, ap (λ t. get_or t 2 0) same))
process_only unit name (refusal.NoProcess other) same = ap (λ n. Some (refusal.NoProcess n)) (ap (λ t. drop 10 t) same)
process_only unit name (refusal.BadArguments other) same = absurd (omega (arith, ap (λ t. get_or t 2 0) same))
process_only unit name (refusal.NameTaken other) same = absurd (omega (arith, ap (λ t. get_or t 2 0) same))
process_only unit name (refusal.NoGas other has needs) same = absurd (omega (arith, ap (λ t. get_or t 2 0) same))
process_only unit name refusal.TooMuchGas same = absurd (omega (arith, ap (λ t. get_or t 2 0) same))

arguments_only : (unit : ℕ) (name : List ℕ) (b : Refusal) → cause_text unit (refusal.BadArguments name) ≡ cause_text
    unit b
    → Some (refusal.BadArguments name) ≡ Some b
arguments_only unit name (refusal.NoAccount other) same = absurd (omega (arith, ap (λ t. get_or t 2 0) same))
arguments_only unit name (refusal.NoProcess other) same = absurd (omega (arith, ap (λ t. get_or t 2 0) same))
arguments_only unit name (refusal.BadArguments other) same = ap (λ n. Some (refusal.BadArguments n))
    (ap (λ t. drop 13 t) same)
arguments_only unit name (refusal.NameTaken other) same = absurd (omega (arith, ap (λ t. get_or t 2 0) same))
arguments_only unit name (refusal.NoGas other has needs) same = absurd (omega (arith, ap (λ t. get_or t 2 0) same))
arguments_only unit name refusal.TooMuchGas same = absurd (omega (arith, ap (λ t. get_or t 2 0) same))

taken_only : (unit : ℕ) (name : List ℕ) (b : Refusal) → cause_text unit (refusal.NameTaken name) ≡ cause_text unit b
    → Some (refusal.NameTaken name) ≡ Some b
taken_only unit name (refusal.NoAccount other) same = absurd (omega (arith, ap (λ t. get_or t 2 0) same))
taken_only unit name (refusal.NoProcess other) same = absurd (omega (arith, ap (λ t. get_or t 2 0) same))
taken_only unit name (refusal.BadArguments other) same = absurd (omega (arith, ap (λ t. get_or t 2 0) same))
taken_only unit name (refusal.NameTaken other) same = ap (λ n. Some (refusal.NameTaken n)) (ap (λ t. drop 10 t) same)
taken_only unit name (refusal.NoGas other has needs) same = absurd (omega (arith, ap (λ t. get_or t 2 0) same))
taken_only unit name refusal.TooMuchGas same = absurd (omega (arith, ap (λ t. get_or t 2 0) same))

much_only : (unit : ℕ) (b : Refusal) → cause_text unit refusal.TooMuchGas ≡ cause_text unit b
    → Some refusal.TooMuchGas ≡ Some b
much_only unit (refusal.NoAccount other) same = absurd (omega (arith, ap (λ t. get_or t 2 0) same))
much_only unit (refusal.NoProcess other) same = absurd (omega (arith, ap (λ t. get_or t 2 0) same))
much_only unit (refusal.BadArguments other) same = absurd (omega (arith, ap (λ t. get_or t 2 0) same))
much_only unit (refusal.NameTaken other) same = absurd (omega (arith, ap (λ t. get_or t 2 0) same))
much_only unit (refusal.NoGas other has needs) same = absurd (omega (arith, ap (λ t. get_or t 2 0) same))
much_only unit refusal.TooMuchGas same = refl

pub cause_itself : (unit : ℕ) → unit < 2 ^ 32 → ReadsItself IsCause (cause_text unit)
cause_itself unit unit_small (refusal.NoGas name has needs) is =
    let amounts : Shortage = record { has = has; needs = needs } in
    let rest = (((name ++ codes " has ") ++ gas_text has unit) ++ codes " needs ") ++ gas_text needs unit in
    no_gas_all unit rest name (shortage_text unit amounts) name has needs
    (record { lacks = Lacks-name name is.0; joined = three_parts name (gas_text has unit) (gas_text needs unit) })
    (shortage_itself unit unit_small amounts (is.1, is.2)) (name_itself name is.0)
cause_itself unit unit_small (refusal.NoAccount name) is =
    record { found = (is, refl); each = λ b b_is same. account_only unit name b same }
cause_itself unit unit_small (refusal.NoProcess name) is =
    record { found = (is, refl); each = λ b b_is same. process_only unit name b same }
cause_itself unit unit_small (refusal.BadArguments name) is =
    record { found = (is, refl); each = λ b b_is same. arguments_only unit name b same }
cause_itself unit unit_small (refusal.NameTaken name) is =
    record { found = (is, refl); each = λ b b_is same. taken_only unit name b same }
cause_itself unit unit_small refusal.TooMuchGas is =
    record { found = (is, refl); each = λ b b_is same. much_only unit b same }

-- ---- ends

deposited_only : (unit : ℕ) (b : End) → end_text unit end.Deposited ≡ end_text unit b → Some end.Deposited ≡ Some b
deposited_only unit end.Deposited same = refl
deposited_only unit end.Committed same = absurd (omega (arith, ap (λ t. get_or t 0 0) same))
deposited_only unit end.Blocked same = absurd (omega (arith, ap (λ t. get_or t 0 0) same))
deposited_only unit (end.Aborted pid f) same = absurd (omega (arith, ap (λ t. get_or t 0 0) same))
deposited_only unit (end.Steps k) same = absurd (omega (arith, ap (λ t. get_or t 0 0) same))
deposited_only unit (end.Refused m cause) same = absurd (omega (arith, ap (λ t. get_or t 0 0) same))

committed_only : (unit : ℕ) (b : End) → end_text unit end.Committed ≡ end_text unit b → Some end.Committed ≡ Some b
committed_only unit end.Deposited same = absurd (omega (arith, ap (λ t. get_or t 0 0) same))
committed_only unit end.Committed same = refl
committed_only unit end.Blocked same = absurd (omega (arith, ap (λ t. get_or t 0 0) same))
committed_only unit (end.Aborted pid f) same = absurd (omega (arith, ap (λ t. get_or t 0 0) same))
committed_only unit (end.Steps k) same = absurd (omega (arith, ap (λ t. get_or t 0 0) same))
committed_only unit (end.Refused m cause) same = absurd (omega (arith, ap (λ t. get_or t 0 0) same))

blocked_only : (unit : ℕ) (b : End) → end_text unit end.Blocked ≡ end_text unit b → Some end.Blocked ≡ Some b
blocked_only unit end.Deposited same = absurd (omega (arith, ap (λ t. get_or t 0 0) same))
blocked_only unit end.Committed same = absurd (omega (arith, ap (λ t. get_or t 0 0) same))
blocked_only unit end.Blocked same = refl
blocked_only unit (end.Aborted pid f) same = absurd (omega (arith, ap (λ t. get_or t 0 0) same))
blocked_only unit (end.Steps k) same = absurd (omega (arith, ap (λ t. get_or t 0 0) same))
blocked_only unit (end.Refused m cause) same = absurd (omega (arith, ap (λ t. get_or t 0 0) same))

pub end_itself : (unit : ℕ) → unit < 2 ^ 32 → ReadsItself IsEnd (end_text unit)
end_itself unit unit_small (end.Aborted pid f) is =
    aborted_both unit ((decimal pid ++ codes " ") ++ fault_text f) (decimal pid) (fault_text f) pid f
    (record {
      lacks = Lacks-decimal 32 pid (omega (arith, is)) (omega arith);
      joined = append_assoc (decimal pid) (codes " ") (fault_text f);
    })
    (number_itself 32 (omega arith) pid is) (fault_reads f)
end_itself unit unit_small (end.Steps k) is = steps_some unit (decimal k) k (number_itself 32 (omega arith) k is)
end_itself unit unit_small (end.Refused m cause) is =
    refused_both unit ((decimal m ++ codes " ") ++ cause_text unit cause) (decimal m) (cause_text unit cause) m cause
    (record {
      lacks = Lacks-decimal 32 m (omega (arith, is.0)) (omega arith);
      joined = append_assoc (decimal m) (codes " ") (cause_text unit cause);
    })
    (number_itself 32 (omega arith) m is.0) (cause_itself unit unit_small cause is.1)
end_itself unit unit_small end.Deposited is =
    record { found = (is, refl); each = λ b b_is same. deposited_only unit b same }
end_itself unit unit_small end.Committed is =
    record { found = (is, refl); each = λ b b_is same. committed_only unit b same }
end_itself unit unit_small end.Blocked is =
    record { found = (is, refl); each = λ b b_is same. blocked_only unit b same }

-- no two ends are written alike
pub end_text-only : (unit : ℕ) → unit < 2 ^ 32 → (a b : End) → IsEnd a → IsEnd b → end_text unit a ≡ end_text unit b
    → a ≡ b
end_text-only unit unit_small a b a_is b_is same = one_text (end_itself unit unit_small) a b a_is b_is same
