use Rattle.nomos_accept.proofs.preparing.rows_of.Goals as goal

pub returns-in-Err-clause-refused : goal.returns-in-Err-clause-refused
returns-in-Err-clause-refused c = λ text read. c.of_form.ensures text c.args.program.now read c.in-Err.ensures.refused

pub returns-in-Ok-program_rows-clause-rows : goal.returns-in-Ok-program_rows-clause-rows
returns-in-Ok-program_rows-clause-rows c = record {
  skeletons = c.in-Ok-program_rows.ensures.skeletons;
  are_rows = record { stars = c.in-Ok-program_rows.ensures.stars; of_program = c.in-Ok-program_rows.ensures.rows };
  law = c.in-Ok-program_rows.ensures.law;
}

pub returns-in-Err-program_rows-clause-refused : goal.returns-in-Err-program_rows-clause-refused
returns-in-Err-program_rows-clause-refused c = λ text read.
    c.of_rows.ensures text c.args.program.now read
    (record {
      program = c.requires.program;
      contractive = c.in-Ok.ensures.formed.0;
      modes = c.in-Ok.ensures.formed.1;
    })
    c.in-Err-program_rows.ensures.cause
