-- The lists are those of a program.
use Rattle.nomos_contract_tests.proofs.TypeProgramLemmas.{types_alone-is_program}
use Rattle.nomos_contract_tests.proofs.type_program.program_of_types.Goals as goal

pub of_lists-requires : goal.of_lists-requires
of_lists-requires c =
    let fit = c.in-Ok-true.ensures c.in-Ok-true.field-0-test in
    rw (
      c.of_vec-3.ensures,
      c.new.ensures.items,
      c.of_vec-4.ensures,
      c.new-2.ensures.items,
      c.of_vec-5.ensures,
      c.new-3.ensures.items,
      c.of_vec-6.ensures,
      c.new-4.ensures.items,
    )
    (types_alone-is_program c.of_vec.result c.of_vec-2.result c.of_vec-7.result
    (rw (
      c.of_vec-3.ensures,
      c.new.ensures.items,
      c.of_vec-4.ensures,
      c.new-2.ensures.items,
      c.of_vec-5.ensures,
      c.new-3.ensures.items,
      c.of_vec-6.ensures,
      c.new-4.ensures.items,
    ) at fit))
