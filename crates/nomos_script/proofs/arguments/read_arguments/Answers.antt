-- Arguments are what their tokens say.
use Rattle.std.proofs.Common.{rules, ◌≡◌, [], ap, Err}
use Rattle.nomos_script.specs.declared.stop.LineStop.TheVariants as stop
use Rattle.nomos_script.proofs.ArgumentLemmas.{arguments_together, arguments_valueless, arguments_names, arguments_end}
use Rattle.nomos_script.proofs.arguments.read_arguments.Goals as goal

pub returns-in_err-values-clause-none : goal.returns-in_err-values-clause-none
returns-in_err-values-clause-none c = λ e values names.
    let same : c.in_err-values.field-0.0 ≡ stop.NoForm = search rules in
    arguments_valueless c.args.tokens.now c.expect.new.self c.in_ok-expect.ensures.mark
    (c.in_err-values.ensures.none (ap Err same)) values names

pub returns-in_err-names-clause-none : goal.returns-in_err-names-clause-none
returns-in_err-names-clause-none c = λ e values names h.
    let same : c.in_err-names.field-0.0 ≡ stop.NoForm = search rules in
    c.in_err-names.ensures.none (ap Err same) names []
    (arguments_names c.args.tokens.now c.expect.new.self c.read_values.new.tokens c.in_ok-values.values values names
    c.in_ok-expect.ensures.mark c.in_ok-values.ensures.ok h)

pub returns-in_err-end-clause-none : goal.returns-in_err-end-clause-none
returns-in_err-end-clause-none c = λ e values names h.
    let same : c.in_err-end.field-0.0 ≡ stop.NoForm = search rules in
    let named = arguments_names c.args.tokens.now c.expect.new.self c.read_values.new.tokens c.in_ok-values.values
    values names c.in_ok-expect.ensures.mark c.in_ok-values.ensures.ok h in
    c.in_err-end.ensures.none (ap Err same)
    (arguments_end c.read_values.new.tokens c.read_names.new.tokens names c.in_ok-names.names named
    c.in_ok-names.ensures.read)

pub returns-clause-read : goal.returns-clause-read
returns-clause-read c =
    arguments_together c.args.tokens.now c.expect.new.self c.read_values.new.tokens c.read_names.new.tokens
    c.in_ok-values.values c.in_ok-names.names c.in_ok-expect.ensures.mark c.in_ok-values.ensures.ok
    c.in_ok-names.ensures.read c.in_ok-end.ensures.end
