use Rattle.std.proofs.Common.{None, arith, refl}
use Rattle.nomos_answers.proofs.SourceLemmas.{long_text, taken_text}
use Rattle.nomos_ir.specs.Limits.{text_limit}
use Rattle.nomos_carry.specs.mirror.Errands as errands
use Rattle.nomos_carry.proofs.CallLemmas.{alone-line, alone-wanting, fault-asked, judged-ends, long-asked}
use Rattle.nomos_carry.proofs.carry.end_asked.Goals as goal

pub returns-in-Ok-clause-ends : goal.returns-in-Ok-clause-ends
returns-in-Ok-clause-ends g c = λ words asks.
    judged-ends words _ _ _ _ asks c.in-Ok.text.items _ _ _
    (taken_text c.in-Ok.text.items (g.S.Source.left c.args.edges.now.contract) _ c.in-Ok.ensures.whole)
    c.end_judged.ensures.ends

pub returns-in-Err-TooLong-clause-ends : goal.returns-in-Err-TooLong-clause-ends
returns-in-Err-TooLong-clause-ends g c = λ words asks.
    let left = g.S.Source.left c.args.edges.now.contract in
    let t = long_text text_limit left _ (c.in-Err-TooLong.ensures.too_long (cc)) in
    errands.wrote 1 _ None (long-asked words _ _ _ _ asks t.0 t.1 t.2) (c.write_line.ensures.written _ refl)

pub returns-in-Err-TooLong-clause-alone : goal.returns-in-Err-TooLong-clause-alone
returns-in-Err-TooLong-clause-alone g c =
    alone-line _ 1 _ _ _ c.write_line.ensures.status (λ n. omega (arith, n)) refl refl refl

pub returns-in-Err-ReadFault-clause-ends : goal.returns-in-Err-ReadFault-clause-ends
returns-in-Err-ReadFault-clause-ends g c = λ words asks.
    errands.wrote 5 _ None (fault-asked words _ _ _ _ asks (c.in-Err-ReadFault.ensures.fault_rose (cc)))
    (c.write_line-in-Err-ReadFault.ensures.written _ refl)

pub returns-in-Err-ReadFault-clause-alone : goal.returns-in-Err-ReadFault-clause-alone
returns-in-Err-ReadFault-clause-alone g c =
    alone-line _ 5 _ _ _ c.write_line-in-Err-ReadFault.ensures.status (λ n. omega (arith, n)) refl refl refl

pub returns-in-Err-NoMemory-clause-ends : goal.returns-in-Err-NoMemory-clause-ends
returns-in-Err-NoMemory-clause-ends g c = λ words asks. errands.wanted refl refl refl

pub returns-in-Err-NoMemory-clause-alone : goal.returns-in-Err-NoMemory-clause-alone
returns-in-Err-NoMemory-clause-alone g c = alone-wanting _ _ _ (λ unread. refl) (λ unread. refl) refl refl
