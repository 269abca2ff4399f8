-- A value off the front of a text, and the values of a list up to its `]`.
use Rattle.std.proofs.Common.{◌∙◌, ◌∷◌, [], map, ap}
use Rattle.std.proofs.lemmas.List.{map-append}
use Rattle.std.proofs.lemmas.Bool.{false≢true}
use Rattle.nomos_ir.specs.ValueNode.{value_of}
use Rattle.nomos_snapshot.proofs.RowLemmas.{scalar-none, list-deep, list-none, list-unended, nothing-read, comma-read, row-none, row-closed}
use Rattle.nomos_snapshot.proofs.value_reading.+nested.Goals as goal

pub take_items-loop-nodes-init : goal.take_items-loop-nodes-init
take_items-loop-nodes-init t c = rw c.new-nodes.ensures.items (nothing-read c.args.depth c.args.text.now)

pub take_items-loop-nodes-preserved : goal.take_items-loop-nodes-preserved
take_items-loop-nodes-preserved t c =
    let begins = rw c.in-Some-2.is at c.in_ok-node.ensures in
    let items = ap (map value_of) c.in_ok-push.ensures.items
    ∙ map-append value_of c.loop-nodes.nodes.items (c.in-Some-2.node ∷ []) in
    rw items
    (comma-read c.args.depth c.args.text.now c.loop-nodes.left.now c.in-Some-2.rest.now c.in-Some-behind.more.now
    (map value_of c.loop-nodes.nodes.items) (value_of c.in-Some-2.node) c.loop-nodes.invariant begins
    c.in-Some-behind.ensures)

pub take_items-returns-in-None : goal.take_items-returns-in-None
take_items-returns-in-None t c =
    let begins = rw c.in-Some-2.is at c.in_ok-node.ensures in
    let items = ap (map value_of) c.in_ok-push.ensures.items
    ∙ map-append value_of c.loop-nodes.nodes.items (c.in-Some-2.node ∷ []) in
    let closes = rw items at c.close_list.ensures in
    row-closed c.close_list.result (λ r. r.now) c.args.depth c.args.text.now c.loop-nodes.left.now c.in-Some-2.rest.now
    (map value_of c.loop-nodes.nodes.items) (value_of c.in-Some-2.node) c.in_default.ensures c.loop-nodes.invariant
    begins
    c.in-None.ensures closes

pub take_items-returns : goal.take_items-returns
take_items-returns t c =
    let none = rw c.in_default-2.is at c.in_ok-node.ensures in
    row-none c.args.depth c.args.text.now c.loop-nodes.left.now (map value_of c.loop-nodes.nodes.items)
    c.in_default.ensures c.loop-nodes.invariant none

pub take_value-returns-in-None : goal.take_value-returns-in-None
take_value-returns-in-None t c =
    let none = rw c.in-None.is at c.read_scalar.ensures in
    scalar-none c.args.depth c.args.text.now c.split_scalar.result.0.now c.split_scalar.result.1.now
    c.in_default.ensures
    c.split_scalar.ensures none

pub take_value-returns-then-depth-eq0 : goal.take_value-returns-then-depth-eq0
take_value-returns-then-depth-eq0 t c =
    list-deep c.args.depth c.args.text.now c.in-Some.items.now c.in-Some.ensures c.if-depth-eq0.true

pub take_value-returns-in_default-2 : goal.take_value-returns-in_default-2
take_value-returns-in_default-2 t c =
    let none = rw c.in_default-2.is at c.in_ok-values.ensures in
    list-none c.args.depth c.args.text.now c.in-Some.items.now c.in-Some.ensures none

pub take_value-returns-else-ends : goal.take_value-returns-else-ends
take_value-returns-else-ends t c =
    let row = rw c.in-Some-2.is at c.in_ok-values.ensures in
    list-unended c.args.depth c.args.text.now c.in-Some.items.now c.in-Some-2.left.now c.in-Some-2.values
    c.in-Some.ensures row (λ ends. absurd (false≢true (c.if-ends.ensures.1 ends)))
