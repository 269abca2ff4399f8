-- A text is read line by line.
use Rattle.std.proofs.Common.{◌∷◌, ap, arith, length, rules, subst}
use Rattle.std.proofs.lemmas.List.{length-append}
use Rattle.nomos_ir.specs.Naming.{NamesAreShort}
use Rattle.nomos_ir.specs.declared.lists.ProgramLists.{ProgramLists}
use Rattle.nomos_snapshot.specs.ToldLines.{told}
use Rattle.nomos_snapshot.proofs.TextReadingLemmas.{bad-read, empty-text, line-read, short-read, unended-read, whole-read}
use Rattle.nomos_snapshot.proofs.whole.gather.Goals as goal

pub returns-in-None-clause-told : goal.returns-in-None-clause-told
returns-in-None-clause-told c =
    let none = rw c.in-None.is at c.in_ok-next.ensures in
    bad-read c.args.accepted.now c.args.text.now c.loop-line.left.now c.in-Some.line.now c.in-Some.rest.now
    c.loop-line.at
    c.loop-line.stand
    (subst (λ (p : ProgramLists). NamesAreShort p) c.program-program.ensures.program
    c.know.ensures.program.names)
    c.loop-line.invariant.0 c.in-Some.ensures none

pub loop-line-preserved : goal.loop-line-preserved
loop-line-preserved c =
    let led = rw c.in-Some-2.is at c.in_ok-next.ensures in (
      line-read c.args.accepted.now c.args.text.now c.loop-line.left.now c.in-Some.line.now c.in-Some.rest.now
          c.loop-line.at c.loop-line.stand c.in-Some-2.next c.loop-line.invariant.0 c.in-Some.ensures led,
      omega (
        arith,
        c.loop-line.invariant.1,
        ap length c.in-Some.ensures.joined,
        length-append c.in-Some.line.now (10 ∷ c.in-Some.rest.now),
      ),
    )

pub returns-then-not-is_empty-clause-told : goal.returns-then-not-is_empty-clause-told
returns-then-not-is_empty-clause-told c =
    unended-read c.args.accepted.now c.args.text.now c.loop-line.left.now c.loop-line.at c.loop-line.stand
    c.loop-line.invariant.0 c.in_default.ensures (search rules)

pub returns-in-Some-ended-clause-told : goal.returns-in-Some-ended-clause-told
returns-in-Some-ended-clause-told c =
    whole-read c.args.accepted.now c.args.text.now c.loop-line.left.now c.loop-line.at c.loop-line.stand
    (told c.in-Some-ended.gathering) c.loop-line.invariant.0
    (empty-text c.loop-line.left.now c.is_empty.result c.is_empty.ensures c.if-not-is_empty.false)
    c.in-Some-ended.ensures.ended

pub returns-clause-told : goal.returns-clause-told
returns-clause-told c =
    short-read c.args.accepted.now c.args.text.now c.loop-line.left.now c.loop-line.at c.loop-line.stand
    c.loop-line.invariant.0 c.in_default.ensures c.in-None-ended.ensures.ended
