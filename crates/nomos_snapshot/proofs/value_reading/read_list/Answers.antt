-- A text is a list where its value is one.
use Rattle.nomos_ir.specs.ValueNode.{value_of}
use Rattle.nomos_snapshot.proofs.RowLemmas.{list-none_read, list-reads}
use Rattle.nomos_snapshot.proofs.value_reading.read_list.Goals as goal

pub returns-in-Some : goal.returns-in-Some
returns-in-Some c =
    let told = rw c.in-Some.is at c.in_ok-node.ensures in
    list-reads c.list_of.result c.args.text.now (value_of c.in-Some.node) told.0 told.1 c.list_of.ensures

pub returns-in-None : goal.returns-in-None
returns-in-None c =
    let none = rw c.in-None.is at c.in_ok-node.ensures in
    list-none_read c.args.text.now none
