-- A value with something behind it is no whole text.
use Rattle.std.proofs.Common.{◌∙◌, ◌==◌, ℕ, List, length, ap}
use Rattle.std.proofs.lemmas.Bool.{false≢true}
use Rattle.nomos_ir.specs.ValueNode.{value_of}
use Rattle.nomos_snapshot.proofs.RowLemmas.{value-behind}
use Rattle.nomos_snapshot.proofs.value_reading.read_node.Goals as goal

pub returns-else-is_empty : goal.returns-else-is_empty
returns-else-is_empty c =
    let begins = rw c.in-Some.is at c.in_ok-node.ensures in
    value-behind c.args.text.now c.in-Some.left.now (value_of c.in-Some.node) begins
    (λ none. false≢true (c.if-is_empty.ensures ∙ ap (λ (l : List ℕ). length l == 0) none))
