use Rattle.nomos_accept.proofs.preparing.with_rows.Goals as goal

pub returns-in-Ok : goal.returns-in-Ok
returns-in-Ok c = λ text read. record { read = read; rows = c.in-Ok.ensures.rows }

pub returns-in-Err : goal.returns-in-Err
returns-in-Err c = λ text read. c.in-Err.ensures.refused text read
