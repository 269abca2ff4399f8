-- The rows of a program: what the amounts of all its declarations have to meet.
use Rattle.std.specs.Prelude.{◌≡◌, ◌↔◌, ℕ, List, Contains, Some, slice_get, length}
use Rattle.nomos_ir.specs.declared.amount.Amount.{Amount}
use Rattle.nomos_ir.specs.declared.declaration.ProcDecl.{ProcDecl}
use Rattle.nomos_ir.specs.declared.ids.TypeId.{TypeId}
use Rattle.nomos_ir.specs.declared.lists.ProgramLists.{ProgramLists}
use Rattle.nomos_ir.specs.declared.type_node.TypeNode.TheVariants as node
use Rattle.nomos_ir.specs.Nodes.{type_node}
use Rattle.nomos_forms.specs.declared.form.Form.{Form}
use Rattle.nomos_forms.specs.declared.row.Row.{Row}
use Rattle.nomos_forms.specs.Meeting.{MeetsRows}
use Rattle.nomos_forms.specs.RowsOf.{AreRowsOf}
use Rattle.nomos_equality.specs.Continuing.{StandAtDown}
use Rattle.nomos_types.specs.Amount.{Annotations}
use Rattle.nomos_types.specs.Typed.{IsTypedProgram}
use Rattle.nomos_check.specs.Asking.{IsAsked}
use Rattle.nomos_check.specs.Reaching.{outset_of, IsFormOf}

-- the form, over n stars, of an account that some declaration has to afford
pub record IsProgramForm (lists : ProgramLists) (n : ℕ) (form : Form) : Type 0 where
  pub place : ℕ
  pub declaration : ProcDecl
  pub declared : slice_get lists.procs place ≡ Some declaration
  pub is_form : IsFormOf lists n (outset_of lists declaration) form

-- The two amounts have to be worth the same: where a shared type is to lead back to where it began, and where an
-- instruction of a declaration asks for it.
pub data IsProgramPair (lists : ProgramLists) : Amount × Amount → Type 0 where
  leads_back : {pair : Amount × Amount} → (shared body : TypeId) → type_node lists shared.0 ≡ Some (node.Up body)
      → StandAtDown lists body shared pair → IsProgramPair lists pair
  asked : {pair : Amount × Amount} → (place : ℕ) (declaration : ProcDecl)
      → slice_get lists.procs place ≡ Some declaration → IsAsked lists (outset_of lists declaration) pair
      → IsProgramPair lists pair

-- these are the rows of the program, over n stars
pub record AreProgramRows (lists : ProgramLists) (n : ℕ) (rows : List Row) : Type 0 where
  pub forms : List Form
  pub pairs : List (Amount × Amount)
  pub are_forms : (f : Form) → Contains forms f ↔ IsProgramForm lists n f
  pub are_pairs : (p : Amount × Amount) → Contains pairs p ↔ IsProgramPair lists p
  pub are_rows : AreRowsOf n forms pairs rows

-- The law of rows: under each amounts for the n stars, the program is typed exactly where they meet its rows.
abbrev pub IsTypedByRows : ProgramLists → ℕ → List Row → Type 0
IsTypedByRows lists n rows =
    (x : Annotations) → length x.stars ≡ n → IsTypedProgram lists x ↔ MeetsRows x.stars x.unit rows
