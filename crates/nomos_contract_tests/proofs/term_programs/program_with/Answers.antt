-- The terms are a program with the function and the instructions.
use Rattle.nomos_contract_tests.proofs.TableLemmas.{table-is_program}
use Rattle.nomos_contract_tests.proofs.term_programs.program_with.Goals as goal

pub of_lists-requires : goal.of_lists-requires
of_lists-requires c =
    rw (
      c.of_vec.ensures,
      c.new.ensures.items,
      c.of_vec-2.ensures,
      c.new-2.ensures.items,
      c.of_vec-3.ensures,
      c.of_vec-4.ensures,
      c.new-3.ensures.items,
      c.of_vec-5.ensures,
      c.new-4.ensures.items,
      c.requires.code,
      c.requires.fns,
    )
    (table-is_program c.args.terms.items c.args.body c.requires.table c.requires.body)
