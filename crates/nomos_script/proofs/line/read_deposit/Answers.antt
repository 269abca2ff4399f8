-- A deposit is what its tokens say.
use Rattle.std.proofs.Common.{rules, ◌≡◌, Err, ap}
use Rattle.nomos_script.specs.declared.stop.LineStop.TheVariants as stop
use Rattle.nomos_script.proofs.FormLemmas.{deposit_read, deposit_none}
use Rattle.nomos_script.proofs.line.read_deposit.Goals as goal

pub returns-in_err-units-clause-none : goal.returns-in_err-units-clause-none
returns-in_err-units-clause-none c = λ e.
    let same : c.in_err-units.field-0.0 ≡ stop.NoForm = search rules in
    let none = c.in_err-units.ensures.none (ap Err same) in
    deposit_none c.in_ok-name.name.now c.args.tokens.now c.name.new.self c.in_ok-name.ensures.name.0 none

pub returns-clause-read : goal.returns-clause-read
returns-clause-read c =
    rw c.in_ok-copied.ensures (deposit_read c.args.number c.in_ok-units.units c.in_ok-name.name.now c.args.tokens.now
    c.name.new.self c.units.new.self c.in_ok-name.ensures.name.0 c.in_ok-name.ensures.name.1
    c.in_ok-units.ensures.units c.in_ok-end.ensures.end)
