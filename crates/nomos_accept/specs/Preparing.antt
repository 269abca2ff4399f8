-- Which contract texts are prepared for a solver.
use Rattle.std.specs.Prelude.{ℕ, List, Result, Ok, Err}
use Rattle.nomos_accept.specs.AcceptedText.{AreRowsFor, IsRefused}
use Rattle.nomos_accept.specs.TypedText.{IsReadAs}
use Rattle.nomos_accept.specs.declared.preparing.Prepared.{Prepared}
use Rattle.nomos_accept.specs.declared.why.AcceptError.{AcceptError}
use Rattle.nomos_accept.specs.declared.why.AcceptError.TheVariants as error
use Rattle.nomos_accept.specs.declared.why.Why.{Why}
use Rattle.nomos_accept.specs.declared.why.Why.TheVariants as why
use Rattle.nomos_forms.specs.declared.row_list.RowList.{RowList}
use Rattle.nomos_ir.specs.Amounts.{star_count}
use Rattle.nomos_ir.specs.declared.lists.ProgramLists.{ProgramLists}
use Rattle.nomos_rows.specs.ProgramRows.{IsTypedByRows}
use Rattle.nomos_types.specs.Typed.{HasSkeletons}

-- Each part of the program has a skeleton, and these are its rows: it is typed under exactly the amounts that meet
-- them.
pub record HasRows (lists : ProgramLists) (rows : RowList) : Type 0 where
  pub skeletons : HasSkeletons lists
  pub are_rows : AreRowsFor lists rows
  pub law : IsTypedByRows lists (star_count lists) rows.rows

-- the text reads as the program, and these are its rows
pub record IsPrepared (text : List ℕ) (p : Prepared) : Type 0 where
  pub read : IsReadAs text p.program
  pub rows : HasRows p.program p.rows

-- the cause is found before any rows are solved
abbrev pub IsFoundUnsolved : Why → Type 0
IsFoundUnsolved (why.NoPotential verdict) = ⊥
IsFoundUnsolved _ = Unit {0}

-- what is answered of a text that is refused before its rows are solved
abbrev pub AnswersRefusal : List ℕ → AcceptError → Type 0
AnswersRefusal text (error.Refused why) = IsRefused text why × IsFoundUnsolved why
AnswersRefusal text (error.Unsolved stop) = ⊥
AnswersRefusal text error.NoMemory = Unit {0}

-- what is answered of a text that is prepared
abbrev pub AnswersPrepared : List ℕ → Result Prepared AcceptError → Type 0
AnswersPrepared text (Ok p) = IsPrepared text p
AnswersPrepared text (Err e) = AnswersRefusal text e
