-- A text that begins like a number without leading zeros is parsed as the number that it writes.
use Rattle.nomos_printing.proofs.NumberLemmas.{parsed-found, parsed-each, decimal-text}
use Rattle.nomos_printing.proofs.number.parse_plain.Goals as goal

pub returns-in-Ok-clause-found : goal.returns-in-Ok-clause-found
returns-in-Ok-clause-found c =
    let text = c.in-Ok.ensures.cases.0 in
    let parsed = rw text at c.parse.ensures.value.0 in
    rw c.ok.ensures.value (parsed-found c.args.text.now c.parse.result c.requires parsed)

pub returns-in-Ok-clause-each : goal.returns-in-Ok-clause-each
returns-in-Ok-clause-each c =
    let text = c.in-Ok.ensures.cases.0 in
    let parsed = rw text at c.parse.ensures.value.0 in
    rw c.ok.ensures.value (parsed-each c.args.text.now c.parse.result parsed)

pub returns-in-Err-clause-each : goal.returns-in-Err-clause-each
returns-in-Err-clause-each c =
    λ n small e. absurd (c.in-Err.ensures.cases.0 (decimal-text c.args.text.now n small e))
