-- How far the checker comes with a text: to the step that finds a cause, and not past it.
use Rattle.std.proofs.Common.{◌≡◌, ◌<◌, ◌≤◌, ℕ, zero, suc, ◌+◌, ◌-◌, List, length, nat_le, get_or, Some, None, inl, inr, sym, subst, ◌∙◌, refl, arith}
use Rattle.std.proofs.lemmas.Bool.Decides.{leb_tells}
use Rattle.std.proofs.lemmas.List.Quantifiers.{position-Some}
use Rattle.nomos_accept.proofs.AcceptLaws.{one-tree, one-program}
use Rattle.nomos_accept.proofs.RefusalLemmas.{bare-not_contractive, offence-not_obeying}
use Rattle.nomos_accept.specs.AcceptedText.{IsOffence, IsProgramWith, ReadsWith, IsCauseOf}
use Rattle.nomos_accept.specs.TypedText.{IsReadAs}
use Rattle.nomos_accept.specs.Causes.{step_of}
use Rattle.nomos_accept.specs.declared.why.Why.{Why}
use Rattle.nomos_accept.specs.declared.why.Why.TheVariants as why
use Rattle.nomos_elaborate.specs.Elaborated.{ObeysNames}
use Rattle.nomos_elaborate.specs.NameClaim.{first_broken}
use Rattle.nomos_elaborate.specs.FileClaims.{claims_of}
use Rattle.nomos_elaborate.specs.WrittenWork.{written_work}
use Rattle.nomos_grammar.specs.declared.offence.GrammarError.{GrammarError}
use Rattle.nomos_grammar.specs.declared.offence.GrammarError.TheVariants as grammar
use Rattle.nomos_ir.specs.Unfold.{IsContractive}
use Rattle.nomos_ir.specs.declared.lists.ProgramLists.{ProgramLists}
use Rattle.nomos_rows.specs.PartFaults.{LeadsAstray}
use Rattle.nomos_equality.specs.declared.hop.Hop.{Hop}
use Rattle.nomos_reader.proofs.ParsingLaws.{refused-none}
use Rattle.nomos_surface.specs.TreeReading.{ReadsAs}
use Rattle.nomos_surface.specs.Tree.{FileTree}
use Rattle.nomos_equality.proofs.SyncLaws.{offends-not_synchronizing}
use Rattle.nomos_ir.specs.Limits.{text_limit}
use Rattle.nomos_syntax.specs.Reading.{IsPlainText}
use Rattle.nomos_syntax.specs.Spans.{IsFirstNotAscii}
use Rattle.nomos_types.specs.Equality.{no_amounts}
use Rattle.nomos_types.specs.Synchronizing.{IsSynchronizing}
use Rattle.nomos_types.specs.Typed.{IsWellFormed, HasSkeletons}

-- what holds of a text with which the checker comes to a step; no cause is found past the last step
abbrev Past : ℕ → List ℕ → Type 0
Past zero text = Unit {0}
Past (suc zero) text = length text ≤ text_limit
Past (suc (suc zero)) text = IsPlainText text
Past (suc (suc (suc zero))) text = (tree : FileTree) × ReadsAs text tree
Past (suc (suc (suc (suc zero)))) text = ReadsWith text ObeysNames
Past (suc (suc (suc (suc (suc zero))))) text = (lists : ProgramLists) × IsReadAs text lists
Past (suc (suc (suc (suc (suc (suc zero)))))) text = IsProgramWith text IsContractive
Past (suc (suc (suc (suc (suc (suc (suc zero))))))) text = IsProgramWith text IsWellFormed
Past (suc (suc (suc (suc (suc (suc (suc (suc zero)))))))) text =
    IsProgramWith text (λ lists. IsWellFormed lists × IsSynchronizing lists no_amounts)
Past (suc (suc (suc (suc (suc (suc (suc (suc (suc zero))))))))) text = IsProgramWith text HasSkeletons
Past _ text = ⊥

-- who comes to a step came to the one before
step-before : (k : ℕ) (text : List ℕ) → Past (suc k) text → Past k text
step-before zero text past = tt
step-before (suc zero) text past = past.length_limit
step-before (suc (suc zero)) text (tree, reads) = reads.plain
step-before (suc (suc (suc zero))) text (tree, reads, obeys) = (tree, reads)
step-before (suc (suc (suc (suc zero)))) text (lists, read) = (read.tree, read.reads, read.elaborates.names)
step-before (suc (suc (suc (suc (suc zero))))) text (lists, read, contractive) = (lists, read)
step-before (suc (suc (suc (suc (suc (suc zero)))))) text (lists, read, formed) = (lists, read, formed.contractive)
step-before (suc (suc (suc (suc (suc (suc (suc zero))))))) text (lists, read, both) = (lists, read, both.0)
step-before (suc (suc (suc (suc (suc (suc (suc (suc zero)))))))) text (lists, read, skeletons) =
    (lists, read, (skeletons.formed, skeletons.synchronizing))
step-before (suc (suc (suc (suc (suc (suc (suc (suc (suc k))))))))) text past = absurd past

steps-before : (d k j : ℕ) (text : List ℕ) → j ≡ k + d → Past j text → Past k text
steps-before zero k j text e past = let same : j ≡ k = omega (arith, e) in subst (λ n. Past n text) same past
steps-before (suc d) k j text e past =
    let next : j ≡ suc (k + d) = omega (arith, e) in
    steps-before d k (k + d) text refl (step-before (k + d) text (subst (λ n. Past n text) next past))

-- a cause is found at the step that comes to it
comes-to : (text : List ℕ) (v : Why) → IsCauseOf text v → Past (step_of v) text
comes-to text why.TooLong long = tt
comes-to text (why.NotAscii at) first = first.length_limit
comes-to text (why.Syntax at) offence = offence.plain
comes-to text (why.Limit which at) offence = offence.plain
comes-to text (why.Name at) (tree, reads, broken) = (tree, reads)
comes-to text (why.Cost at) (tree, reads, breaks) = (tree, reads, breaks.names)
comes-to text (why.Contractive at) (lists, read, bare) = (lists, read)
comes-to text (why.Mode at) (lists, read, both) = (lists, read, both.0)
comes-to text (why.NotSync at path) (lists, read, both) = (lists, read, both.0)
comes-to text (why.TermType at) (lists, read, both) = (lists, read, (both.0, both.1.0))
comes-to text (why.ProcType at form) (lists, read, both) = (lists, read, (both.0, both.1.0))
comes-to text (why.NoPotential verdict) (lists, read, refuted) = (lists, read, refuted.skeletons)

-- a byte over 127 stands in no plain text
pub not_ascii-not_plain : (text : List ℕ) (at : ℕ) → IsFirstNotAscii text at → ¬ IsPlainText text
not_ascii-not_plain text at first plain =
    let found = position-Some (λ (byte : ℕ). nat_le 128 byte) text at 0 first.first in
    let below : get_or text at 0 < 128 = plain.ascii at 0 found.0 in
    elim (leb_tells 128 (get_or text at 0)) [ inl (test, high) ↦ omega arith | inr (test, low) ↦ absurd cc ]

-- a text that the grammar refuses reads as no tree
offence-unread : (text : List ℕ) (e : GrammarError) → (e ≡ grammar.NoMemory → ⊥) → IsOffence text e →
    ((tree : FileTree) × ReadsAs text tree) → ⊥
offence-unread text e some offence (tree, reads) =
    (refused-none text e some offence.plain offence.refused).none tree reads

astray-not_synchronizing : (lists : ProgramLists) (at : ℕ) (path : List Hop) → LeadsAstray lists at path →
    ¬ IsSynchronizing lists no_amounts
astray-not_synchronizing lists at path astray back =
    offends-not_synchronizing lists no_amounts astray.body astray.shared path astray.offends
    (back astray.shared astray.body astray.is_up)

-- and it does not come past
comes-no_further : (text : List ℕ) (v : Why) → IsCauseOf text v → ¬ Past (suc (step_of v)) text
comes-no_further text why.TooLong long short = omega (arith, long, short)
comes-no_further text (why.NotAscii at) first plain = not_ascii-not_plain text at first plain
comes-no_further text (why.Syntax at) offence read =
    offence-unread text (grammar.Syntax at) (λ same. absurd cc) offence read
comes-no_further text (why.Limit which at) offence read =
    offence-unread text (grammar.Limit which at) (λ same. absurd cc) offence read
comes-no_further text (why.Name at) (tree, reads, broken) (other, read, obeys) =
    let same : other ≡ tree = one-tree text other tree read reads in
    let both : None ≡ Some at = sym (subst (λ (t : FileTree). first_broken (claims_of t) ≡ None) same obeys) ∙ broken in
    absurd cc
comes-no_further text (why.Cost at) (tree, reads, breaks) (lists, read) =
    let same : read.tree ≡ tree = one-tree text read.tree tree read.reads reads in
    let none = subst (λ (t : FileTree). written_work t ≡ None) same read.elaborates.costs in
    let both : None ≡ Some at = sym none ∙ breaks.work in
    absurd cc
comes-no_further text (why.Contractive at) (lists, read, bare) (other, again, contractive) =
    let same : other ≡ lists = one-program text other lists again read in
    bare-not_contractive lists at bare (subst IsContractive same contractive)
comes-no_further text (why.Mode at) (lists, read, both) (other, again, formed) =
    let same : other ≡ lists = one-program text other lists again read in
    offence-not_obeying lists at both.1 (subst IsWellFormed same formed).modes
comes-no_further text (why.NotSync at path) (lists, read, is) (other, again, both) =
    let same : other ≡ lists = one-program text other lists again read in
    astray-not_synchronizing lists at path is.1.0
    (subst (λ (l : ProgramLists). IsSynchronizing l no_amounts) same both.1)
comes-no_further text (why.TermType at) (lists, read, is) (other, again, skeletons) =
    let same : other ≡ lists = one-program text other lists again read in
    let (back, kind, first, never) = is.1 in
    never no_amounts (subst HasSkeletons same skeletons)
comes-no_further text (why.ProcType at form) (lists, read, is) (other, again, skeletons) =
    let same : other ≡ lists = one-program text other lists again read in
    let (back, stuck, first, never) = is.1 in
    never no_amounts (subst HasSkeletons same skeletons)
comes-no_further text (why.NoPotential verdict) cause past = past

-- no step finds a cause before the step of another cause
none-earlier : (text : List ℕ) (v w : Why) → IsCauseOf text v → IsCauseOf text w → step_of v < step_of w → ⊥
none-earlier text v w a b less =
    comes-no_further text v a
    (steps-before (step_of w - suc (step_of v)) (suc (step_of v)) (step_of w) text (omega (arith, less))
    (comes-to text w b))

-- so all causes of a text are found by one step
pub one-step : (text : List ℕ) (v w : Why) → IsCauseOf text v → IsCauseOf text w → step_of v ≡ step_of w
one-step text v w a b =
    elim (leb_tells (step_of v + 1) (step_of w)) [
      | inl (test, low) ↦ absurd (none-earlier text v w a b (omega (arith, low)))
      | inr (test, high) ↦
          elim (leb_tells (step_of w + 1) (step_of v)) [
            | inl (other, low) ↦ absurd (none-earlier text w v b a (omega (arith, low)))
            | inr (other, low) ↦ omega (arith, high, low)
          ]
    ]
