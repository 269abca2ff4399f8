-- The name stands before the first blank, and the amounts behind it.
use Rattle.nomos_printing.proofs.CauseLemmas.{no_gas_whole, no_gas_amounts, no_gas_name, no_gas_all}
use Rattle.nomos_printing.proofs.cause.read_no_gas.Goals as goal

pub returns-in_default : goal.returns-in_default
returns-in_default c = no_gas_whole c.args.unit c.args.text.now c.in_default.ensures

pub returns-in_default-read_shortage : goal.returns-in_default-read_shortage
returns-in_default-read_shortage c =
    no_gas_amounts c.args.unit c.args.text.now c.in-Some.name.now c.in-Some.rest.now c.in-Some.ensures
    c.in_default-read_shortage.ensures

pub returns-in-Some-2 : goal.returns-in-Some-2
returns-in-Some-2 c =
    let named = rw c.in-Some-2.is at c.in_ok-name.ensures in
    no_gas_all c.args.unit c.args.text.now c.in-Some.name.now c.in-Some.rest.now c.in-Some-2.name
    c.in-Some-read_shortage.field-0.has c.in-Some-read_shortage.field-0.needs c.in-Some.ensures
    c.in-Some-read_shortage.ensures named

pub returns-in-None : goal.returns-in-None
returns-in-None c =
    let named = rw c.in-None.is at c.in_ok-name.ensures in
    no_gas_name c.args.unit c.args.text.now c.in-Some.name.now c.in-Some.rest.now c.in-Some.ensures named
