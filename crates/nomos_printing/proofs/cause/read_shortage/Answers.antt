-- Word by word.
use Rattle.nomos_printing.proofs.CauseLemmas.{shortage_whole, shortage_has, shortage_word, shortage_needs, shortage_both}
use Rattle.nomos_printing.proofs.cause.read_shortage.Goals as goal

pub returns-in_err-has : goal.returns-in_err-has
returns-in_err-has c =
    rw c.from_residual-in_err-has.ensures
    (shortage_whole c.args.unit c.ranges.unit.fits c.args.text.now c.in_ok-behind.field-0.now c.in_ok-behind.ensures
    c.in_err-has.ensures)

pub returns-in_err-has-2 : goal.returns-in_err-has-2
returns-in_err-has-2 c =
    rw c.from_residual-in_err-has-2.ensures
    (shortage_has c.args.unit c.ranges.unit.fits c.args.text.now c.in_ok-behind.field-0.now c.in_ok-has.has.now
    c.in_ok-has.rest.now c.in_ok-behind.ensures c.in_ok-has.ensures c.in_err-has-2.ensures)

pub returns-in_err-behind-2 : goal.returns-in_err-behind-2
returns-in_err-behind-2 c =
    rw c.from_residual-in_err-behind-2.ensures
    (shortage_word c.args.unit c.ranges.unit.fits c.args.text.now c.in_ok-behind.field-0.now c.in_ok-has.has.now
    c.in_ok-has.rest.now c.in_ok-behind.ensures c.in_ok-has.ensures c.in_err-behind-2.ensures)

pub returns-in_err-needs : goal.returns-in_err-needs
returns-in_err-needs c =
    rw c.from_residual-in_err-needs.ensures
    (shortage_needs c.args.unit c.ranges.unit.fits c.args.text.now c.in_ok-behind.field-0.now c.in_ok-has.has.now
    c.in_ok-has.rest.now c.in_ok-behind-2.field-0.now c.in_ok-behind.ensures c.in_ok-has.ensures
    c.in_ok-behind-2.ensures c.in_err-needs.ensures)

pub returns : goal.returns
returns c =
    shortage_both c.args.unit c.ranges.unit.fits c.args.text.now c.in_ok-behind.field-0.now c.in_ok-has.has.now
    c.in_ok-has.rest.now c.in_ok-behind-2.field-0.now c.in_ok-has-2.has c.in_ok-needs.needs c.in_ok-behind.ensures
    c.in_ok-has.ensures c.in_ok-behind-2.ensures c.in_ok-has-2.ensures c.in_ok-needs.ensures
