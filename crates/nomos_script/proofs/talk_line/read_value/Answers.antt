-- A value that is said is what its tokens say.
use Rattle.std.proofs.Common.{rules, ◌≡◌, Err, ap}
use Rattle.nomos_script.specs.declared.stop.LineStop.TheVariants as stop
use Rattle.nomos_script.proofs.TalkFormLemmas.{value_read, value_none}
use Rattle.nomos_script.proofs.talk_line.read_value.Goals as goal

pub returns-in_err-read_single_value-clause-none : goal.returns-in_err-read_single_value-clause-none
returns-in_err-read_single_value-clause-none c = λ e.
    let same : c.in_err-read_single_value.field-0.0 ≡ stop.NoForm = search rules in
    value_none c.args.tokens.now (c.in_err-read_single_value.ensures.none (ap Err same))

pub returns-clause-read : goal.returns-clause-read
returns-clause-read c =
    value_read c.args.tokens.now c.in_ok-read_single_value.field-0 c.in_ok-read_single_value.ensures.ok
