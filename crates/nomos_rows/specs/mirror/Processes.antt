-- A mirror of the code: the forms and pairs of the processes below a place. No promise stands on it.
use Rattle.std.specs.Prelude.{◌≡◌, ◌↔◌, ◌⊎◌, ℕ, List, Contains, Some, length, slice_get}
use Rattle.std.specs.declared.result.Result.{Result}
use Rattle.std.specs.declared.result.Result.TheVariants.{Ok, Err}
use Rattle.nomos_ir.specs.declared.amount.Amount.{Amount}
use Rattle.nomos_ir.specs.declared.declaration.ProcDecl.{ProcDecl}
use Rattle.nomos_ir.specs.declared.lists.ProgramLists.{ProgramLists}
use Rattle.nomos_ir.specs.Amounts.{star_count}
use Rattle.nomos_equality.specs.Comparing.{Compared}
use Rattle.nomos_forms.specs.declared.form.Form.{Form}
use Rattle.nomos_forms.specs.declared.row.Row.{Row}
use Rattle.nomos_forms.specs.declared.row_list.RowList.{RowList}
use Rattle.nomos_forms.specs.RowsOf.{AreRowsOf}
use Rattle.nomos_check.specs.Asking.{IsAsked}
use Rattle.nomos_check.specs.Reaching.{outset_of, IsFormOf}
use Rattle.nomos_rows.specs.declared.processes.Gathered.{Gathered}
use Rattle.nomos_rows.specs.declared.first_fault.DeclarationFault.{DeclarationFault}
use Rattle.nomos_rows.specs.mirror.Declarations.{DeclarationsFine, IsFirstOfAll}
use Rattle.nomos_rows.specs.mirror.FirstFault.{SomeBelow}

-- the process at the place has the form, and asks for the pair
abbrev pub HasForm : ProgramLists → Form → ℕ → Type 0
HasForm lists form k =
    (d : ProcDecl) × (slice_get lists.procs k ≡ Some d) × IsFormOf lists (star_count lists) (outset_of lists d) form

abbrev pub AsksFor : ProgramLists → Amount × Amount → ℕ → Type 0
AsksFor lists pair k =
    (d : ProcDecl) × (slice_get lists.procs k ≡ Some d) × IsAsked lists (outset_of lists d) pair

-- the forms are those of the processes below the place, and the pairs those that these ask for, beside what was
-- compared
pub record Gathers (lists : ProgramLists) (place : ℕ) (old new : Compared) (forms : List Form)
    (pairs : List (Amount × Amount)) : Type 0 where
  pub points : (f : Form) → Contains forms f ↔ SomeBelow place (HasForm lists f)
  pub asked : (p : Amount × Amount) → (Contains pairs p ⊎ Contains new.amounts p) ↔
      (Contains old.amounts p ⊎ SomeBelow place (AsksFor lists p))

-- the forms of the process at the place join those that were gathered, and so do the pairs that it asks for
pub record Adds (lists : ProgramLists) (k : ℕ) (old new : Compared) (before after : Gathered) : Type 0 where
  pub points : (f : Form) → Contains after.forms.items f ↔ (Contains before.forms.items f ⊎ HasForm lists f k)
  pub asked : (p : Amount × Amount) → (Contains after.pairs.items p ⊎ Contains new.amounts p) ↔
      ((Contains before.pairs.items p ⊎ Contains old.amounts p) ⊎ AsksFor lists p k)

-- The forms and pairs of a program, of whose shared types these pairs are known, stand in rows.
pub record InRows (lists : ProgramLists) (known : Compared) (rows : List Row) : Type 0 where
  pub fine : DeclarationsFine lists
  pub forms : List Form
  pub pairs : List (Amount × Amount)
  pub points : (f : Form) → Contains forms f ↔ SomeBelow (length lists.procs) (HasForm lists f)
  pub asked : (p : Amount × Amount) → Contains pairs p ↔
      (Contains known.amounts p ⊎ SomeBelow (length lists.procs) (AsksFor lists p))
  pub are_rows : AreRowsOf (star_count lists) forms pairs rows

-- what is found of the declarations of a program: their rows, or the first fault
abbrev pub AnswersDeclarations : ProgramLists → Compared → Result RowList (ℕ × DeclarationFault) → Type 0
AnswersDeclarations lists known (Ok made) = (made.stars ≡ star_count lists) × InRows lists known made.rows
AnswersDeclarations lists known (Err a) = IsFirstOfAll lists a
