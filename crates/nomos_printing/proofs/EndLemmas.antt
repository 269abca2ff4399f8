-- Ends that are read behind their first word.
use Rattle.std.proofs.Common.{◌≡◌, ◌≢◌, ℕ, ◌<◌, ◌^◌, List, [], ◌∷◌, ◌++◌, drop, get_or, Option, Some, None, IfSome, refl, ◌∙◌, ap, arith, append_assoc}
use Rattle.std.specs.Prelude.{decimal, codes}
use Rattle.nomos_ir.specs.declared.fault.Fault.{Fault}
use Rattle.nomos_legal.specs.declared.journal.End.{End}
use Rattle.nomos_legal.specs.declared.journal.End.TheVariants as end
use Rattle.nomos_legal.specs.declared.refusal.Refusal.{Refusal}
use Rattle.nomos_printing.specs.Cause.{fault_text, cause_text, IsCause}
use Rattle.nomos_printing.specs.End.{end_text, IsEnd}
use Rattle.nomos_printing.specs.Number.{ReadsBits}
use Rattle.nomos_printing.specs.ReadAs.{ReadsAs}
use Rattle.nomos_printing.specs.Splitting.{Lacks, ComesApart}
use Rattle.nomos_printing.specs.mirror.PlainEnds.{IsPlainEnd}
use Rattle.nomos_printing.proofs.ReadingLaws.{ReadsAs-none}
use Rattle.nomos_printing.proofs.SplittingLaws.{Lacks-apart, Lacks-decimal, ComesApart-parts}

-- ---- faults

-- an end with a fault, and what stands behind its word
record Aborts (rest : List ℕ) (e : End) : Type 0 where
  pid : ℕ
  fault : Fault
  small : pid < 2 ^ 32
  is : e ≡ end.Aborted pid fault
  parts : rest ≡ decimal pid ++ 32 ∷ fault_text fault

aborts : (unit : ℕ) (rest : List ℕ) (e : End) → IsEnd e → codes "aborted " ++ rest ≡ end_text unit e → Aborts rest e
aborts unit rest end.Deposited is same = absurd (omega (arith, ap (λ t. get_or t 0 0) same))
aborts unit rest end.Committed is same = absurd (omega (arith, ap (λ t. get_or t 0 0) same))
aborts unit rest end.Blocked is same = absurd (omega (arith, ap (λ t. get_or t 0 0) same))
aborts unit rest (end.Aborted pid f) is same =
    let behind : rest ≡ (decimal pid ++ 32 ∷ []) ++ fault_text f = ap (λ t. drop 8 t) same in
    record {
      pid = pid;
      fault = f;
      small = is;
      is = refl;
      parts = behind ∙ append_assoc (decimal pid) (32 ∷ [])
          (fault_text f);
    }
aborts unit rest (end.Steps k) is same = absurd (omega (arith, ap (λ t. get_or t 0 0) same))
aborts unit rest (end.Refused m cause) is same = absurd (omega (arith, ap (λ t. get_or t 0 0) same))

-- the number of the process and the fault
aborted_parts : (rest front back : List ℕ) (e : End) (a : Aborts rest e) → ComesApart 32 rest front back
    → (front ≡ decimal a.pid) × (back ≡ fault_text a.fault)
aborted_parts rest front back e a apart =
    ComesApart-parts 32 rest front back (decimal a.pid) (fault_text a.fault) apart
    (Lacks-decimal 32 a.pid (omega (arith, a.small)) (omega arith)) a.parts

-- without a blank
pub aborted_whole : (unit : ℕ) (rest : List ℕ) → Lacks 32 rest
    → ReadsAs IsEnd (end_text unit) (codes "aborted " ++ rest) None
aborted_whole unit rest lacks =
    ReadsAs-none (codes "aborted " ++ rest) (λ e is same.
    let a = aborts unit rest e is same in
    let lacks' : Lacks 32 (decimal a.pid ++ 32 ∷ fault_text a.fault) = rw (← a.parts) lacks in
    Lacks-apart 32 (decimal a.pid) (fault_text a.fault) lacks')

-- without a number
pub aborted_pid : (unit : ℕ) (rest front back : List ℕ) → ComesApart 32 rest front back → ReadsBits 32 front None
    → ReadsAs IsEnd (end_text unit) (codes "aborted " ++ rest) None
aborted_pid unit rest front back apart reads =
    ReadsAs-none (codes "aborted " ++ rest) (λ e is same.
    let a = aborts unit rest e is same in
    let none = reads.each a.pid a.small (aborted_parts rest front back e a apart).0 in
    cc)

-- without a fault
pub aborted_fault : (unit : ℕ) (rest front back : List ℕ) → ComesApart 32 rest front back
    → ReadsAs (λ f. Unit {0}) fault_text back None → ReadsAs IsEnd (end_text unit) (codes "aborted " ++ rest) None
aborted_fault unit rest front back apart reads =
    ReadsAs-none (codes "aborted " ++ rest) (λ e is same.
    let a = aborts unit rest e is same in
    let none = reads.each a.fault tt (aborted_parts rest front back e a apart).1 in
    cc)

-- with both
pub aborted_both : (unit : ℕ) (rest front back : List ℕ) (pid : ℕ) (f : Fault) → ComesApart 32 rest front back
    → ReadsBits 32 front (Some pid) → ReadsAs (λ f. Unit {0}) fault_text back (Some f)
    → ReadsAs IsEnd (end_text unit) (codes "aborted " ++ rest) (Some (end.Aborted pid f))
aborted_both unit rest front back pid f apart pid_reads fault_reads =
    let here : rest ≡ (decimal pid ++ 32 ∷ []) ++ fault_text f =
    rw (append_assoc, ← pid_reads.found.1, ← fault_reads.found.1) apart.joined in
    record {
      found = (pid_reads.found.0, ap (λ r. codes "aborted " ++ r) here);
      each = λ e is same.
          let a = aborts unit rest e is same in
          let parts = aborted_parts rest front back e a apart in
          let pid_is = pid_reads.each a.pid a.small parts.0 in
          let fault_is = fault_reads.each a.fault tt parts.1 in
          let e_is = a.is in
          cc;
    }

-- ---- steps

-- an end by its steps
record Stops (rest : List ℕ) (e : End) : Type 0 where
  steps : ℕ
  small : steps < 2 ^ 32
  is : e ≡ end.Steps steps
  text : rest ≡ decimal steps

stops : (unit : ℕ) (rest : List ℕ) (e : End) → IsEnd e → codes "steps " ++ rest ≡ end_text unit e → Stops rest e
stops unit rest end.Deposited is same = absurd (omega (arith, ap (λ t. get_or t 0 0) same))
stops unit rest end.Committed is same = absurd (omega (arith, ap (λ t. get_or t 0 0) same))
stops unit rest end.Blocked is same = absurd (omega (arith, ap (λ t. get_or t 0 0) same))
stops unit rest (end.Aborted pid f) is same = absurd (omega (arith, ap (λ t. get_or t 0 0) same))
stops unit rest (end.Steps k) is same = record { steps = k; small = is; is = refl; text = ap (λ t. drop 6 t) same }
stops unit rest (end.Refused m cause) is same = absurd (omega (arith, ap (λ t. get_or t 0 0) same))

pub steps_some : (unit : ℕ) (rest : List ℕ) (k : ℕ) → ReadsBits 32 rest (Some k)
    → ReadsAs IsEnd (end_text unit) (codes "steps " ++ rest) (Some (end.Steps k))
steps_some unit rest k reads =
    record {
      found = (reads.found.0, ap (λ r. codes "steps " ++ r) reads.found.1);
      each = λ e is same.
          let s = stops unit rest e is same in
          let k_is = reads.each s.steps s.small s.text in
          let e_is = s.is in
          cc;
    }

-- ---- refusals

-- an end by a refusal, and what stands behind its words
record Refuses (unit : ℕ) (rest : List ℕ) (e : End) : Type 0 where
  line : ℕ
  cause : Refusal
  small : line < 2 ^ 32
  valid : IsCause cause
  is : e ≡ end.Refused line cause
  parts : rest ≡ decimal line ++ 32 ∷ cause_text unit cause

refuses : (unit : ℕ) (rest : List ℕ) (e : End) → IsEnd e → codes "refused at " ++ rest ≡ end_text unit e
    → Refuses unit rest e
refuses unit rest end.Deposited is same = absurd (omega (arith, ap (λ t. get_or t 0 0) same))
refuses unit rest end.Committed is same = absurd (omega (arith, ap (λ t. get_or t 0 0) same))
refuses unit rest end.Blocked is same = absurd (omega (arith, ap (λ t. get_or t 0 0) same))
refuses unit rest (end.Aborted pid f) is same = absurd (omega (arith, ap (λ t. get_or t 0 0) same))
refuses unit rest (end.Steps k) is same = absurd (omega (arith, ap (λ t. get_or t 0 0) same))
refuses unit rest (end.Refused m cause) is same =
    let behind : rest ≡ (decimal m ++ 32 ∷ []) ++ cause_text unit cause = ap (λ t. drop 11 t) same in
    record {
      line = m;
      cause = cause;
      small = is.0;
      valid = is.1;
      is = refl;
      parts = behind ∙ append_assoc (decimal m) (32 ∷ []) (cause_text unit cause);
    }

-- the line and the cause
refused_parts : (unit : ℕ) (rest front back : List ℕ) (e : End) (r : Refuses unit rest e)
    → ComesApart 32 rest front back
    → (front ≡ decimal r.line) × (back ≡ cause_text unit r.cause)
refused_parts unit rest front back e r apart =
    ComesApart-parts 32 rest front back (decimal r.line) (cause_text unit r.cause) apart
    (Lacks-decimal 32 r.line (omega (arith, r.small)) (omega arith)) r.parts

-- without a blank
pub refused_whole : (unit : ℕ) (rest : List ℕ) → Lacks 32 rest
    → ReadsAs IsEnd (end_text unit) (codes "refused at " ++ rest) None
refused_whole unit rest lacks =
    ReadsAs-none (codes "refused at " ++ rest) (λ e is same.
    let r = refuses unit rest e is same in
    let lacks' : Lacks 32 (decimal r.line ++ 32 ∷ cause_text unit r.cause) = rw (← r.parts) lacks in
    Lacks-apart 32 (decimal r.line) (cause_text unit r.cause) lacks')

-- without a number
pub refused_line : (unit : ℕ) (rest front back : List ℕ) → ComesApart 32 rest front back → ReadsBits 32 front None
    → ReadsAs IsEnd (end_text unit) (codes "refused at " ++ rest) None
refused_line unit rest front back apart reads =
    ReadsAs-none (codes "refused at " ++ rest) (λ e is same.
    let r = refuses unit rest e is same in
    let none = reads.each r.line r.small (refused_parts unit rest front back e r apart).0 in
    cc)

-- without a cause
pub refused_cause : (unit : ℕ) (rest front back : List ℕ) → ComesApart 32 rest front back
    → ReadsAs IsCause (cause_text unit) back None → ReadsAs IsEnd (end_text unit) (codes "refused at " ++ rest) None
refused_cause unit rest front back apart reads =
    ReadsAs-none (codes "refused at " ++ rest) (λ e is same.
    let r = refuses unit rest e is same in
    let none = reads.each r.cause r.valid (refused_parts unit rest front back e r apart).1 in
    cc)

-- with both
pub refused_both : (unit : ℕ) (rest front back : List ℕ) (line : ℕ) (cause : Refusal) → ComesApart 32 rest front back
    → ReadsBits 32 front (Some line) → ReadsAs IsCause (cause_text unit) back (Some cause)
    → ReadsAs IsEnd (end_text unit) (codes "refused at " ++ rest) (Some (end.Refused line cause))
refused_both unit rest front back line cause apart line_reads cause_reads =
    let here : rest ≡ (decimal line ++ 32 ∷ []) ++ cause_text unit cause =
    rw (append_assoc, ← line_reads.found.1, ← cause_reads.found.1) apart.joined in
    record {
      found = ((line_reads.found.0, cause_reads.found.0), ap (λ r. codes "refused at " ++ r) here);
      each = λ e is same.
          let r = refuses unit rest e is same in
          let parts = refused_parts unit rest front back e r apart in
          let line_is = line_reads.each r.line r.small parts.0 in
          let cause_is = cause_reads.each r.cause r.valid parts.1 in
          let e_is = r.is in
          cc;
    }

-- ---- all ends

-- an end without numbers is an end
IsEnd-plain : (e : End) → IsPlainEnd e → IsEnd e
IsEnd-plain end.Deposited plain = tt
IsEnd-plain end.Committed plain = tt
IsEnd-plain end.Blocked plain = tt
IsEnd-plain (end.Aborted pid f) plain = absurd plain
IsEnd-plain (end.Steps k) plain = absurd plain
IsEnd-plain (end.Refused m cause) plain = absurd plain

plain_found : (unit : ℕ) (text : List ℕ) (answer : Option End) → ReadsAs IsPlainEnd (end_text unit) text answer
    → IfSome answer (λ e. IsEnd e × (text ≡ end_text unit e))
plain_found unit text None reads = tt
plain_found unit text (Some e) reads = (IsEnd-plain e reads.found.0, reads.found.1)

plain_each : (unit : ℕ) (text : List ℕ) (answer : Option End)
    → ((rest : List ℕ) → text ≢ codes "aborted " ++ rest) → ((rest : List ℕ) → text ≢ codes "steps " ++ rest)
    → ((rest : List ℕ) → text ≢ codes "refused at " ++ rest) → ReadsAs IsPlainEnd (end_text unit) text answer
    → (e : End) → IsEnd e → text ≡ end_text unit e → answer ≡ Some e
plain_each unit text answer no_fault no_steps no_refusal reads end.Deposited is same = reads.each end.Deposited tt same
plain_each unit text answer no_fault no_steps no_refusal reads end.Committed is same = reads.each end.Committed tt same
plain_each unit text answer no_fault no_steps no_refusal reads end.Blocked is same = reads.each end.Blocked tt same
plain_each unit text answer no_fault no_steps no_refusal reads (end.Aborted pid f) is same =
    absurd (no_fault ((decimal pid ++ codes " ") ++ fault_text f) same)
plain_each unit text answer no_fault no_steps no_refusal reads (end.Steps k) is same =
    absurd (no_steps (decimal k) same)
plain_each unit text answer no_fault no_steps no_refusal reads (end.Refused m cause) is same =
    absurd (no_refusal ((decimal m ++ codes " ") ++ cause_text unit cause) same)

-- a text that begins with no word behind which something stands is that of an end without numbers, or of none
pub plain_reads : (unit : ℕ) (text : List ℕ) (answer : Option End)
    → ((rest : List ℕ) → text ≢ codes "aborted " ++ rest) → ((rest : List ℕ) → text ≢ codes "steps " ++ rest)
    → ((rest : List ℕ) → text ≢ codes "refused at " ++ rest) → ReadsAs IsPlainEnd (end_text unit) text answer
    → ReadsAs IsEnd (end_text unit) text answer
plain_reads unit text answer no_fault no_steps no_refusal reads =
    record {
      found = plain_found unit text answer reads;
      each = plain_each unit text answer no_fault no_steps no_refusal
          reads;
    }
