-- What is read is a script; what is refused does not read, and is refused at its line.
use Rattle.std.proofs.Common.{rules, inl, inr, ap, Err}
use Rattle.nomos_script.proofs.ReadingLaws.{reads_once, syntax_answered, reads_answered, reads_without_syntax}
use Rattle.nomos_script.proofs.ScriptLaws.{reads-script}
use Rattle.nomos_script.proofs.parsing.parse_script.Goals as goal

pub returns-in_err-read_items-clause-readable : goal.returns-in_err-read_items-clause-readable
returns-in_err-read_items-clause-readable c = λ items reads.
    let given = reads_answered c.args.bytes.now items c.in_err-read_items.field-0.0
    (λ e. c.in_err-read_items.ensures.fits (ap Err e)) (λ k e. c.in_err-read_items.ensures.syntax k (ap Err e)) reads in
    search rules

pub returns-in_err-read_items-clause-syntax_refused : goal.returns-in_err-read_items-clause-syntax_refused
returns-in_err-read_items-clause-syntax_refused c = λ k h.
    elim (syntax_answered c.args.bytes.now k c.in_err-read_items.field-0.0
    (λ e. c.in_err-read_items.ensures.fits (ap Err e)) (λ j e. c.in_err-read_items.ensures.syntax j (ap Err e)) h)
    [ inl e ↦ inl (search rules) | inr e ↦ inr (search rules) ]

pub of_items-requires : goal.of_items-requires
of_items-requires c = reads-script c.args.bytes.now c.in_ok-read_items.field-0 c.in_ok-read_items.ensures.read

pub returns-clause-syntax_refused : goal.returns-clause-syntax_refused
returns-clause-syntax_refused c = λ k h.
    absurd (reads_without_syntax c.args.bytes.now k c.in_ok-read_items.field-0 c.in_ok-read_items.ensures.read h)

pub returns-clause-only : goal.returns-clause-only
returns-clause-only c = λ items reads.
    rw c.of_items.ensures (reads_once c.args.bytes.now items c.in_ok-read_items.field-0 reads
    c.in_ok-read_items.ensures.read)
