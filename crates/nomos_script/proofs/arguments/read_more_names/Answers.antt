-- A comma with a name, or the end, comes next; or nothing that goes on.
use Rattle.std.proofs.Common.{rules, ◌≡◌, ap, Err}
use Rattle.nomos_script.specs.declared.stop.LineStop.TheVariants as stop
use Rattle.nomos_script.proofs.NamesLemmas.{one_more_name, more_names_follow, other_follows, comma_follows}
use Rattle.nomos_script.proofs.arguments.read_more_names.Goals as goal

pub returns-in_err-takes_comma-clause-none : goal.returns-in_err-takes_comma-clause-none
returns-in_err-takes_comma-clause-none c = λ e more rest named is.
    let same : c.in_err-takes_comma.field-0.0 ≡ stop.NoForm = search rules in
    other_follows c.names.tokens (c.in_err-takes_comma.ensures.none (ap Err same))
    (more_names_follow c.args.tokens.now c.names.tokens rest c.args.names.now.items c.names.names.items more
    c.names.invariant named is)

pub returns-in_err-name-clause-none : goal.returns-in_err-name-clause-none
returns-in_err-name-clause-none c = λ e more rest named is.
    let same : c.in_err-name.field-0.0 ≡ stop.NoForm = search rules in
    comma_follows c.names.tokens c.takes_comma.new.tokens (rw c.if-branch.true at c.in_ok-takes_comma.ensures.read)
    (c.in_err-name.ensures.none (ap Err same))
    (more_names_follow c.args.tokens.now c.names.tokens rest c.args.names.now.items c.names.names.items more
    c.names.invariant named is)

pub names-preserved : goal.names-preserved
names-preserved c =
    rw c.in_ok-push_name.ensures
    (one_more_name c.args.tokens.now c.names.tokens c.takes_comma.new.tokens c.name.new.self c.args.names.now.items
    c.names.names.items c.in_ok-name.field-0.now c.names.invariant
    (rw c.if-branch.true at c.in_ok-takes_comma.ensures.read) c.in_ok-name.ensures.name.0 c.in_ok-name.ensures.name.1)
