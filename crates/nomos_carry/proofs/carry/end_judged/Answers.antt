use Rattle.std.proofs.Common.{ℕ, List, Err, subst}
use Rattle.nomos_accept.specs.AcceptedText.{Answers}
use Rattle.nomos_carry.specs.mirror.Errands as errands
use Rattle.nomos_carry.proofs.CallLemmas.{alone-refused, ends-map}
use Rattle.nomos_carry.proofs.carry.end_judged.Goals as goal

pub end_as_check-requires-clause-answers : goal.end_as_check-requires-clause-answers
end_as_check-requires-clause-answers g c =
    subst (λ (text : List ℕ). Answers text (Err c.in-Err.error)) c.deref.ensures.value c.in-Err.ensures

pub returns-in-Ok-clause-ends : goal.returns-in-Ok-clause-ends
returns-in-Ok-clause-ends g c =
    ends-map
    (λ status out next due. errands.behind c.in-Ok.accepted (rw c.deref.ensures.value at c.in-Ok.ensures)
    c.end_accepted.ensures.fits due)
    c.end_accepted.ensures.ends

pub returns-in-Err-clause-ends : goal.returns-in-Err-clause-ends
returns-in-Err-clause-ends g c =
    ends-map (λ status out next due. errands.refused (rw c.contract.ensures at due)) c.end_as_check.ensures.ends

pub returns-in-Err-clause-alone : goal.returns-in-Err-clause-alone
returns-in-Err-clause-alone g c =
    alone-refused _ _ _ _ c.end_as_check.ensures.snapshot c.end_as_check.ensures.script c.end_as_check.ensures.out
    c.end_as_check.ensures.next
