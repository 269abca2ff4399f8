use Rattle.std.proofs.Common.{subst, sym}
use Rattle.nomos_ir.specs.Program.{IsProgram}
use Rattle.nomos_ir.proofs.ExampleLaws.{example-is_program}
use Rattle.nomos_ledger_tests.proofs.programs.example_program.Goals as goal

-- the lists are those of the small program
pub of_lists-requires : goal.of_lists-requires
of_lists-requires c = subst IsProgram (sym c.in_ok-lists.ensures) example-is_program
