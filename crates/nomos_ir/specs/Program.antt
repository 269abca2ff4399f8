-- What holds of the lists of every program.
use Rattle.std.specs.Prelude.{◌≤◌, ◌+◌, length}
use Rattle.nomos_ir.specs.declared.lists.ProgramLists.{ProgramLists}
use Rattle.nomos_ir.specs.Ids.{IdsInRange}
use Rattle.nomos_ir.specs.Order.{PartsAreLower, TypesStandOnce, CodeStandsOnce}
use Rattle.nomos_ir.specs.Kinds.{KindsAreShallow}
use Rattle.nomos_ir.specs.Naming.{NamesAreShort, NamesDiffer, LabelsDiffer, ParametersDiffer}
use Rattle.nomos_ir.specs.Parameters.{TransactionsHavePayers}
use Rattle.nomos_ir.specs.Amounts.{AmountsAreSmall}

-- at most 20,000 code nodes, and 10,000 definitions, functions and process declarations together
pub record IsSmall (lists : ProgramLists) : Type 0 where
  pub code : length lists.code ≤ 20000
  pub declarations : length lists.defs + length lists.fns + length lists.procs ≤ 10000

-- the lists are those of a program
pub record IsProgram (lists : ProgramLists) : Type 0 where
  pub ids : IdsInRange lists
  pub parts : PartsAreLower lists
  pub code : CodeStandsOnce lists
  pub types : TypesStandOnce lists
  pub kinds : KindsAreShallow lists
  pub names : NamesAreShort lists
  pub spaces : NamesDiffer lists
  pub labels : LabelsDiffer lists
  pub parameters : ParametersDiffer lists
  pub payers : TransactionsHavePayers lists
  pub amounts : AmountsAreSmall lists
  pub size : IsSmall lists
