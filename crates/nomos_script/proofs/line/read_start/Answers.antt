-- What is started is what the tokens say.
use Rattle.std.proofs.Common.{rules, ◌≡◌, Err, ap}
use Rattle.nomos_script.specs.declared.stop.LineStop.TheVariants as stop
use Rattle.nomos_script.proofs.FormLemmas.{start_read, start_nameless, start_procless, start_bare}
use Rattle.nomos_script.proofs.line.read_start.Goals as goal

pub returns-in_err-sender-clause-none : goal.returns-in_err-sender-clause-none
returns-in_err-sender-clause-none c = λ e.
    let same : c.in_err-sender.field-0.0 ≡ stop.NoForm = search rules in
    start_nameless c.args.tokens.now (c.in_err-sender.ensures.none (ap Err same))

pub returns-in_err-proc-clause-none : goal.returns-in_err-proc-clause-none
returns-in_err-proc-clause-none c = λ e.
    let same : c.in_err-proc.field-0.0 ≡ stop.NoForm = search rules in
    start_procless c.in_ok-sender.sender.now c.args.tokens.now c.name.new.self c.in_ok-sender.ensures.name.0
    (c.in_err-proc.ensures.none (ap Err same))

pub returns-in_err-arguments-clause-none : goal.returns-in_err-arguments-clause-none
returns-in_err-arguments-clause-none c = λ e.
    let same : c.in_err-arguments.field-0.0 ≡ stop.NoForm = search rules in
    start_bare c.in_ok-sender.sender.now c.in_ok-proc.proc.now c.args.tokens.now c.name.new.self c.name-2.new.self
    c.in_ok-sender.ensures.name.0 c.in_ok-proc.ensures.name.0 (c.in_err-arguments.ensures.none (ap Err same))

pub returns-clause-read : goal.returns-clause-read
returns-clause-read c =
    rw (c.in_ok-copied.ensures, c.in_ok-copied-2.ensures)
    (start_read c.args.number c.args.contract c.in_ok-sender.sender.now c.in_ok-proc.proc.now c.args.tokens.now
    c.name.new.self c.name-2.new.self c.in_ok-arguments.arguments.values c.in_ok-arguments.arguments.names
    c.in_ok-sender.ensures.name.0 c.in_ok-sender.ensures.name.1 c.in_ok-proc.ensures.name.0
    c.in_ok-proc.ensures.name.1 c.in_ok-arguments.ensures.read)
