-- The first word says which cause it is.
use Rattle.std.proofs.Common.{Some, None, refl}
use Rattle.std.proofs.lemmas.Bool.{false≢true}
use Rattle.nomos_legal.specs.declared.refusal.Refusal.TheVariants as refusal
use Rattle.nomos_printing.proofs.CauseLemmas.{lone_reads}
use Rattle.nomos_printing.proofs.cause.read_cause.Goals as goal
use Rattle.nomos_printing.proofs.cause.read_cause.Goals.{then-is_word, else-is_word}

pub returns : goal.returns
returns c = elim c.if-is_word.branch [
  | then-is_word w ↦
      rw w.result-is
      (lone_reads c.args.unit c.args.text.now (Some refusal.TooMuchGas) c.in_default.ensures c.in_default-behind.ensures
      c.in_default-behind-2.ensures c.in_default-behind-3.ensures c.in_default-behind-4.ensures
      (tt, w.if-is_word.ensures.0 refl) (λ same. refl))
  | else-is_word w ↦
      rw w.result-is
      (lone_reads c.args.unit c.args.text.now None c.in_default.ensures c.in_default-behind.ensures
      c.in_default-behind-2.ensures c.in_default-behind-3.ensures c.in_default-behind-4.ensures tt
      (λ same. absurd (false≢true (w.if-is_word.ensures.1 same))))
]
