-- What is written of a refusal is fixed by the text.
use Rattle.std.proofs.Common.{◌≡◌, ◌≢◌, ℕ, zero, suc, List, [], Option, Some, None, refl, ap, sym, subst, ◌∙◌, arith}
use Rattle.nomos_accept.proofs.AcceptLaws.{one-program}
use Rattle.nomos_accept.proofs.CauseLaws.{one-cause}
use Rattle.nomos_accept.proofs.RowListLaws.{ends-once}
use Rattle.nomos_accept.specs.AcceptedText.{IsCauseOf, IsProgramWith, PivotRunEndsWith}
use Rattle.nomos_accept.specs.Causes.{step_of, offset_of, limit_of, form_of}
use Rattle.nomos_accept.specs.declared.why.Why.{Why}
use Rattle.nomos_accept.specs.declared.why.Why.TheVariants as why
use Rattle.nomos_forms.specs.declared.verdict.Verdict.{Verdict}
use Rattle.nomos_grammar.specs.declared.offence.Which.{Which}
use Rattle.nomos_ir.specs.declared.code_form.CodeForm.{CodeForm}
use Rattle.nomos_ir.specs.declared.lists.ProgramLists.{ProgramLists}
use Rattle.nomos_simplex.specs.declared.solved.Solved.TheVariants as solved
use Rattle.nomos_top.specs.Refusal.{refusal}

-- the weights

-- the weights that a cause names
abbrev verdict_of : Why → Option Verdict
verdict_of (why.NoPotential verdict) = Some verdict
verdict_of _ = None

-- What a step finds of weights: the last one those with which the pivot run on the rows of the program ends, all others
-- nothing.
data FindsVerdict (text : List ℕ) (v : Why) : Type 0 where
  at_end : (verdict : Verdict) → step_of v ≡ 9 → verdict_of v ≡ Some verdict
      → IsProgramWith text (λ lists. PivotRunEndsWith lists (solved.Refuted verdict)) → FindsVerdict text v
  at_none : step_of v ≢ 9 → verdict_of v ≡ None → FindsVerdict text v

-- the weights that the cause names are those that its step finds
finds-verdict : (text : List ℕ) (v : Why) → IsCauseOf text v → FindsVerdict text v
finds-verdict text why.TooLong cause = at_none (λ e. omega (arith, e)) refl
finds-verdict text (why.NotAscii at) cause = at_none (λ e. omega (arith, e)) refl
finds-verdict text (why.Syntax at) cause = at_none (λ e. omega (arith, e)) refl
finds-verdict text (why.Limit which at) cause = at_none (λ e. omega (arith, e)) refl
finds-verdict text (why.Name at) cause = at_none (λ e. omega (arith, e)) refl
finds-verdict text (why.Cost at) cause = at_none (λ e. omega (arith, e)) refl
finds-verdict text (why.Contractive at) cause = at_none (λ e. omega (arith, e)) refl
finds-verdict text (why.Mode at) cause = at_none (λ e. omega (arith, e)) refl
finds-verdict text (why.NotSync at path) cause = at_none (λ e. omega (arith, e)) refl
finds-verdict text (why.TermType at) cause = at_none (λ e. omega (arith, e)) refl
finds-verdict text (why.ProcType at form) cause = at_none (λ e. omega (arith, e)) refl
finds-verdict text (why.NoPotential verdict) (lists, read, refuted) =
    at_end verdict refl refl (lists, read, refuted.ends)

-- the pivot run has one end, so it finds one verdict
end-once : (text : List ℕ) (u v : Verdict) → IsProgramWith text (λ lists. PivotRunEndsWith lists (solved.Refuted u))
    → IsProgramWith text (λ lists. PivotRunEndsWith lists (solved.Refuted v)) → u ≡ v
end-once text u v (lists, read, ends) (other, again, ends_too) =
    let same : other ≡ lists = one-program text other lists again read in
    let here = subst (λ (l : ProgramLists). PivotRunEndsWith l (solved.Refuted v)) same ends_too in
    let one : solved.Refuted u ≡ solved.Refuted v = ends-once lists (solved.Refuted u) (solved.Refuted v) ends here in
    cc

-- the last step finds one verdict
verdict-once : (text : List ℕ) (v w : Why) → step_of v ≡ step_of w → FindsVerdict text v → FindsVerdict text w
    → verdict_of v ≡ verdict_of w
verdict-once text v w step (at_end verdict nine is ends) (at_end other also is_too ends_too) =
    is ∙ (ap Some (end-once text verdict other ends ends_too) ∙ sym is_too)
verdict-once text v w step (at_end verdict nine is ends) (at_none other none) = absurd (other (sym step ∙ nine))
verdict-once text v w step (at_none other none) (at_end verdict nine is ends) = absurd (other (step ∙ nine))
verdict-once text v w step (at_none other none) (at_none another no_verdict) = none ∙ sym no_verdict

-- what is written

-- A cause of this step that names these. Of a type that leads astray no path is written, so it has none.
abbrev cause_of : ℕ → Option ℕ → Option Which → Option CodeForm → Option Verdict → Why
cause_of (suc zero) (Some at) limit form verdict = why.NotAscii at
cause_of (suc (suc zero)) (Some at) None form verdict = why.Syntax at
cause_of (suc (suc zero)) (Some at) (Some which) form verdict = why.Limit which at
cause_of (suc (suc (suc zero))) (Some at) limit form verdict = why.Name at
cause_of (suc (suc (suc (suc zero)))) (Some at) limit form verdict = why.Cost at
cause_of (suc (suc (suc (suc (suc zero))))) (Some at) limit form verdict = why.Contractive at
cause_of (suc (suc (suc (suc (suc (suc zero)))))) (Some at) limit form verdict = why.Mode at
cause_of (suc (suc (suc (suc (suc (suc (suc zero))))))) (Some at) limit form verdict = why.NotSync at []
cause_of (suc (suc (suc (suc (suc (suc (suc (suc zero)))))))) (Some at) limit None verdict = why.TermType at
cause_of (suc (suc (suc (suc (suc (suc (suc (suc zero)))))))) (Some at) limit (Some form) verdict =
    why.ProcType at form
cause_of _ offset limit form (Some verdict) = why.NoPotential verdict
cause_of _ offset limit form None = why.TooLong

-- what is written of a cause is told by its step and by what it names
written-told : (v : Why) → refusal v ≡ refusal (cause_of (step_of v) (offset_of v) (limit_of v) (form_of v)
    (verdict_of v))
written-told why.TooLong = refl
written-told (why.NotAscii at) = refl
written-told (why.Syntax at) = refl
written-told (why.Limit which at) = refl
written-told (why.Name at) = refl
written-told (why.Cost at) = refl
written-told (why.Contractive at) = refl
written-told (why.Mode at) = refl
written-told (why.NotSync at path) = refl
written-told (why.TermType at) = refl
written-told (why.ProcType at form) = refl
written-told (why.NoPotential verdict) = refl

-- Of all causes of refusal of a text the same is written.
pub one-refusal : (text : List ℕ) (v w : Why) → IsCauseOf text v → IsCauseOf text w → refusal v ≡ refusal w
one-refusal text v w a b =
    let same = one-cause text v w a b in
    let verdict = verdict-once text v w same.step (finds-verdict text v a) (finds-verdict text w b) in
    let told : refusal (cause_of (step_of v) (offset_of v) (limit_of v) (form_of v) (verdict_of v))
    ≡ refusal (cause_of (step_of w) (offset_of w) (limit_of w) (form_of w) (verdict_of w)) =
    λ i. refusal (cause_of (same.step i) (same.offset i) (same.limit i) (same.form i) (verdict i)) in
    written-told v ∙ (told ∙ sym (written-told w))
