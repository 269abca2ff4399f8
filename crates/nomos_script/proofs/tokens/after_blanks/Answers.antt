-- The blanks in front are left out.
use Rattle.std.proofs.lemmas.List.{take_rest}
use Rattle.nomos_script.proofs.ScanLemmas.{tokens_of-blanks, solid_behind}
use Rattle.nomos_script.proofs.tokens.after_blanks.Goals as goal

pub returns-clause-same : goal.returns-clause-same
returns-clause-same c =
    rw (take_rest c.args.line.now c.blanks_length.result, c.blanks_length.ensures.value)
    (tokens_of-blanks c.args.line.now)

pub returns-clause-solid : goal.returns-clause-solid
returns-clause-solid c =
    rw (take_rest c.args.line.now c.blanks_length.result, c.blanks_length.ensures.value) (solid_behind c.args.line.now)
