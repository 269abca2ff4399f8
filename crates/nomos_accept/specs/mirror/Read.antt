-- A mirror of the code: what is answered where a text is read as a program. No promise stands on it.
use Rattle.std.specs.Prelude.{ℕ, List, Result, Ok, Err}
use Rattle.nomos_accept.specs.TypedText.{IsReadAs}
use Rattle.nomos_accept.specs.Preparing.{AnswersRefusal}
use Rattle.nomos_accept.specs.declared.why.AcceptError.{AcceptError}
use Rattle.nomos_ir.specs.declared.lists.ProgramLists.{ProgramLists}

abbrev pub AnswersRead : List ℕ → Result ProgramLists AcceptError → Type 0
AnswersRead text (Ok lists) = IsReadAs text lists
AnswersRead text (Err e) = AnswersRefusal text e
