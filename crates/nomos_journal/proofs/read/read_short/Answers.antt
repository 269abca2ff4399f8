-- The first word says which line it is.
use Rattle.std.proofs.Common.{refl}
use Rattle.std.proofs.lemmas.Bool.{false≢true}
use Rattle.nomos_journal.specs.declared.line.Version.TheVariants as version
use Rattle.nomos_journal.proofs.LineLemmas.{at_none, at_some, steps_none, steps_some, head_reads, other_reads}
use Rattle.nomos_journal.proofs.read.read_short.Goals as goal

pub returns-in_err-read_u32 : goal.returns-in_err-read_u32
returns-in_err-read_u32 c = λ unit.
    rw c.from_residual.ensures
    (at_none unit c.args.text.now c.in-Some.at.now c.in-Some.ensures c.in_err-read_u32.ensures)

pub returns-in-Some : goal.returns-in-Some
returns-in-Some c = λ unit.
    at_some unit c.args.text.now c.in-Some.at.now c.in_ok-read_u32.field-0 c.in-Some.ensures c.in_ok-read_u32.ensures

pub returns-in_err-read_u32-2 : goal.returns-in_err-read_u32-2
returns-in_err-read_u32-2 c = λ unit.
    rw c.from_residual-in_err-read_u32-2.ensures
    (steps_none unit c.args.text.now c.in-Some-behind.steps.now c.in-Some-behind.ensures c.in_err-read_u32-2.ensures)

pub returns-in-Some-behind : goal.returns-in-Some-behind
returns-in-Some-behind c = λ unit.
    steps_some unit c.args.text.now c.in-Some-behind.steps.now c.in_ok-read_u32-2.field-0 c.in-Some-behind.ensures
    c.in_ok-read_u32-2.ensures

pub returns-then-is_word : goal.returns-then-is_word
returns-then-is_word c = λ unit. head_reads unit c.args.text.now version.Two (c.if-is_word.ensures.0 refl)

pub returns-then-is_word-2 : goal.returns-then-is_word-2
returns-then-is_word-2 c = λ unit. head_reads unit c.args.text.now version.One (c.if-is_word-2.ensures.0 refl)

pub returns : goal.returns
returns c = λ unit.
    other_reads unit c.args.text.now c.read_firing.result
    (record {
      at = c.in_default.ensures;
      steps = c.in_default-behind.ensures;
      one = λ same. absurd (false≢true (c.if-is_word-2.ensures.1 same));
      two = λ same. absurd (false≢true (c.if-is_word.ensures.1 same));
    })
    (c.read_firing.ensures unit)
