-- The first text that is the same is the label's.
use Rattle.std.proofs.Common.{sym, ◌∙◌, arith}
use Rattle.nomos_snapshot.proofs.LabelLemmas.{label-found, label-large, label-none}
use Rattle.nomos_snapshot.proofs.label_table.LabelTable.number_of.Goals as goal

pub returns-in_err-number : goal.returns-in_err-number
returns-in_err-number c =
    rw c.from_residual.ensures
    (λ l small. label-none (λ k. k.items) c.args.text.now c.self.inside.texts.keys c.args.self.now c.self.view_is
    (sym c.get_index_of.ensures.index ∙ c.in_err-number.was) l)

pub returns-then-number : goal.returns-then-number
returns-then-number c =
    label-found (λ k. k.items) c.args.text.now c.self.inside.texts.keys c.args.self.now c.in_ok-number.number
    c.self.view_is (sym c.get_index_of.ensures.index ∙ c.in_ok-number.was)

pub returns-else-number : goal.returns-else-number
returns-else-number c = λ l small.
    label-large (λ k. k.items) c.args.text.now c.self.inside.texts.keys c.args.self.now c.in_ok-number.number
    c.self.view_is (sym c.get_index_of.ensures.index ∙ c.in_ok-number.was) (omega (arith, c.if-number.false)) l small
