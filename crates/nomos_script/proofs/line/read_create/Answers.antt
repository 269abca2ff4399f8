-- A contract that is made is what the tokens say.
use Rattle.nomos_script.proofs.FormLemmas.{create_read}
use Rattle.nomos_script.proofs.line.read_create.Goals as goal

pub returns-clause-read : goal.returns-clause-read
returns-clause-read c =
    create_read c.args.number c.in_ok-contract.contract.now c.args.tokens.now c.name.new.self c.expect.new.self
    c.word.new.self c.in_ok-read_start.field-0 c.in_ok-contract.ensures.name.0 c.in_ok-contract.ensures.name.1
    c.in_ok-expect.ensures.mark c.in_ok-word.ensures.word
    (rw c.in_ok-contract-2.ensures at c.in_ok-read_start.ensures.read)
