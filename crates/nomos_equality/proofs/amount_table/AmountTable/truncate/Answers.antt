use Rattle.std.proofs.Common.{ap, sym, ◌∙◌, map, take, List}
use Rattle.std.proofs.lemmas.List.{take-map}
use Rattle.nomos_ir.specs.declared.amount.Amount.{Amount}
use Rattle.nomos_equality.proofs.amount_table.AmountTable.truncate.Goals as goal

pub returns : goal.returns
returns c =
    ap (map (λ e. e.1)) c.truncate.ensures.entries
    ∙ sym (take-map (λ e. e.1) c.args.count c.self.inside.pairs.entries)
    ∙ ap (λ (pairs : List (Amount × Amount)). take c.args.count pairs) c.self.view_is
