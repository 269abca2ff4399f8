use Rattle.std.proofs.Common.{◌∙◌, ℕ, List, Some, ap, sym, true≢false}
use Rattle.nomos_answers.specs.Outside.{source_state}
use Rattle.nomos_carry.proofs.CallLemmas.{check-alone, check-ends, check-keeps}
use Rattle.nomos_carry.proofs.RefusalLaws.{error-none}
use Rattle.nomos_carry.proofs.carry.end_as_check.Goals as goal

pub nomos_by_one-ended-requires : goal.nomos_by_one-ended-requires
nomos_by_one-ended-requires g c =
    check-alone _ c.args.file.now (rw c.deref.ensures.value c.in-Ok.ensures) c.requires.file

pub returns-clause-ends : goal.returns-clause-ends
returns-clause-ends g c =
    let claims = c.nomos_by_one-ended.ensures.claims in
    check-ends _ claims.texts c.args.file.now c.args.text.items claims.ends (rw c.deref.ensures.value c.in-Ok.ensures)
    c.requires.file (ap (λ (bytes : List ℕ). source_state (Some bytes) 0 0) c.new-contract.ensures)
    (error-none c.args.text.items c.args.error.now c.requires.answers
    (λ none. true≢false (sym (c.is_wanting.ensures.1 none) ∙ c.if-is_wanting.false)))

pub returns-clause-next : goal.returns-clause-next
returns-clause-next g c =
    c.nomos_by_one-ended.ensures.untouched.journal_out
    (check-keeps _ c.args.file.now _ (rw c.deref.ensures.value c.in-Ok.ensures) c.requires.file)
