-- What a text reads as is a program.
use Rattle.std.proofs.Common.{ℕ, List, sym, subst}
use Rattle.nomos_accept.specs.TypedText.{IsReadAs}
use Rattle.nomos_elaborate.proofs.ProgramLaws.{is-program}
use Rattle.nomos_ir.specs.Program.{IsProgram}
use Rattle.nomos_ir.specs.declared.lists.ProgramLists.{ProgramLists}
use Rattle.nomos_reader.proofs.LimitLaws.{reads-within}

pub read-is_program : (text : List ℕ) (lists : ProgramLists) → IsReadAs text lists → IsProgram lists
read-is_program text lists read =
    subst IsProgram (sym read.elaborates.program)
    (is-program read.tree (reads-within text read.tree read.reads) read.elaborates.names)
