-- Least bounds of contract texts: amounts under which a text is typed, and of which the transactions declare the least.
use Rattle.std.specs.Prelude.{◌≡◌, ◌≤◌, ◌*◌, ℕ, List, Result, Ok, Err}
use Rattle.nomos_accept.specs.AcceptedText.{AreRowsFor, IsProgramWith, IsRefused, found_amounts}
use Rattle.nomos_accept.specs.TypedText.{IsTypedAs}
use Rattle.nomos_accept.specs.declared.why.AcceptError.{AcceptError}
use Rattle.nomos_accept.specs.declared.why.AcceptError.TheVariants as error
use Rattle.nomos_forms.specs.Meeting.{MeetsRows}
use Rattle.nomos_forms.specs.declared.row_list.RowList.{RowList}
use Rattle.nomos_ir.specs.declared.lists.ProgramLists.{ProgramLists}
use Rattle.nomos_least.specs.Goal.{goal_of, all_declared}
use Rattle.nomos_least.specs.declared.least.LeastBounds.{LeastBounds}
use Rattle.nomos_simplex.specs.LeastRun.{LeastRun}
use Rattle.nomos_simplex.specs.ShowsLeast.{ShowsLeast, NoneSmaller}
use Rattle.nomos_simplex.specs.declared.solved.SolvedLeast.{SolvedLeast}
use Rattle.nomos_simplex.specs.declared.solved.SolvedLeast.TheVariants as least
use Rattle.nomos_simplex.specs.declared.solved.Stop.{Stop}
use Rattle.nomos_types.specs.Amount.{Annotations}
use Rattle.nomos_types.specs.Typed.{HasSkeletons}

-- the least run on the rows of the program and its goal ends with this answer
pub record LeastRunEndsWith (lists : ProgramLists) (answer : SolvedLeast) : Type 0 where
  pub rows : RowList
  pub are_rows : AreRowsFor lists rows
  pub run : LeastRun rows (goal_of lists) answer

-- Under no amounts over any unit under which the text is typed as this program do its transactions declare less: so
-- many Dths, of which a unit of gas has `unit`.
abbrev pub NoneDeclareLess : List ℕ → ProgramLists → ℕ → ℕ → Type 0
NoneDeclareLess text lists unit total =
    (x : Annotations) → IsTypedAs text lists x → x.unit * total ≤ unit * all_declared x lists

-- The text is typed under the amounts that the least run finds, and under no others do its transactions declare less.
-- The weights of the proof show it of the rows.
pub record IsLeastAs (text : List ℕ) (b : LeastBounds) : Type 0 where
  pub typed : IsTypedAs text b.accepted.program b.accepted.annotations
  pub are_rows : AreRowsFor b.accepted.program b.rows
  pub goal : b.goal ≡ goal_of b.accepted.program
  pub run : LeastRun b.rows b.goal (least.Found (found_amounts b.accepted.annotations) b.proof)
  pub total : all_declared b.accepted.annotations b.accepted.program ≡ b.proof.total
  pub meets : MeetsRows b.accepted.annotations.stars b.accepted.annotations.unit b.rows.rows
  pub shows : ShowsLeast b.rows.rows b.goal b.accepted.annotations.unit b.proof
  pub none_smaller : NoneSmaller b.rows.rows b.goal b.accepted.annotations.unit b.proof.total
  pub least : NoneDeclareLess text b.accepted.program b.accepted.annotations.unit b.proof.total

-- Each part of the program has a skeleton, and the least run stops without an answer.
pub record IsLeastUnsolved (lists : ProgramLists) (stop : Stop) : Type 0 where
  pub skeletons : HasSkeletons lists
  pub ends : LeastRunEndsWith lists (least.Unsolved stop)

-- What is answered of a text whose least bounds are sought. Where it is refused, it is typed under no amounts at all.
abbrev pub AnswersLeast : List ℕ → Result LeastBounds AcceptError → Type 0
AnswersLeast text (Ok b) = IsLeastAs text b
AnswersLeast text (Err (error.Refused why)) = IsRefused text why
AnswersLeast text (Err (error.Unsolved stop)) = IsProgramWith text (λ lists. IsLeastUnsolved lists stop)
AnswersLeast text (Err error.NoMemory) = Unit {0}
