-- A renumbering is due or not.
use Rattle.std.proofs.Common.{◌∙◌, subst, sym}
use Rattle.std.proofs.lemmas.Bool.{false≢true}
use Rattle.nomos_answers.proofs.SourceLemmas.{if_ok-map}
use Rattle.nomos_carrying.specs.CarryDue.{TellsNumbers, numbers_low}
use Rattle.nomos_carrying.proofs.NoLedgerLemmas.{tells-high}
use Rattle.nomos_carrying.proofs.numbering.numbers_text.Goals as goal

pub returns-then-is_renumbering_due : goal.returns-then-is_renumbering_due
returns-then-is_renumbering_due c =
    if_ok-map c.with_warning.result _ _
    (λ made is. tells-high (c.is_renumbering_due.ensures.0 c.if-is_renumbering_due.true) c.in_ok-text.ensures is)
    c.with_warning.ensures

pub returns : goal.returns
returns c =
    subst (TellsNumbers c.args.object c.args.name) (sym c.in_ok-text.ensures)
    (numbers_low (λ due. false≢true (sym c.if-is_renumbering_due.false ∙ c.is_renumbering_due.ensures.1 due)))
