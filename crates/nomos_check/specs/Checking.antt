-- What is answered of a process.
use Rattle.std.specs.Prelude.{◌≡◌, ◌↔◌, ℕ, List, Contains, All, pos, ◌≤ℤ◌, length, ◌⊎◌}
use Rattle.std.specs.declared.result.Result.{Result}
use Rattle.std.specs.declared.result.Result.TheVariants.{Ok, Err}
use Rattle.nomos_ir.specs.declared.amount.Amount.{Amount}
use Rattle.nomos_ir.specs.declared.code_form.CodeForm.{CodeForm}
use Rattle.nomos_ir.specs.declared.code_node.CodeNode.{CodeNode}
use Rattle.nomos_ir.specs.declared.declaration.ProcDecl.{ProcDecl}
use Rattle.nomos_ir.specs.declared.lists.ProgramLists.{ProgramLists}
use Rattle.nomos_ir.specs.FirstOffset.{NoneBefore}
use Rattle.nomos_ir.specs.Instruction.{code_offset, code_form}
use Rattle.nomos_equality.specs.Answer.{SameWorth}
use Rattle.nomos_equality.specs.Comparing.{Compared}
use Rattle.nomos_forms.specs.Bounds.{IsForm}
use Rattle.nomos_forms.specs.declared.form.Form.{Form}
use Rattle.nomos_forms.specs.Linear.{form_value}
use Rattle.nomos_types.specs.Amount.{Annotations}
use Rattle.nomos_types.specs.Derivation.{Derives, HasSkeleton, IsStuck}
use Rattle.nomos_types.specs.Judgement.{Judgement, start_of}
use Rattle.nomos_types.specs.TypingRule.{StandsAtCode}
use Rattle.nomos_check.specs.Asking.{IsAsked}
use Rattle.nomos_check.specs.Reaching.{outset_of, IsFormOf}
use Rattle.nomos_check.specs.declared.checking.Checked.{Checked}
use Rattle.nomos_check.specs.declared.checking.ProcError.{ProcError}
use Rattle.nomos_check.specs.declared.checking.ProcError.TheVariants as error

-- an instruction of this offset and form is stuck in the declaration
pub record IsStuckAt (lists : ProgramLists) (d : ProcDecl) (at : ℕ) (f : CodeForm) : Type 0 where
  pub judgement : Judgement
  pub node : CodeNode
  pub stuck : IsStuck lists d judgement
  pub stands : StandsAtCode lists judgement node
  pub offset : code_offset node ≡ at
  pub is_form : code_form node ≡ f

-- It is the first that is stuck: none that is stuck has a lesser offset. So there is no skeleton, and no derivation
-- under any amounts.
pub record IsFirstStuck (lists : ProgramLists) (d : ProcDecl) (at : ℕ) (f : CodeForm) : Type 0 where
  pub stuck : IsStuckAt lists d at f
  pub first : NoneBefore (λ other. (g : CodeForm) × IsStuckAt lists d other g) at
  pub no_skeleton : ¬ (HasSkeleton lists d)
  pub no_derivation : (x : Annotations) → ¬ (Derives lists x (start_of lists x d))

-- The declaration has a skeleton; these are the forms, over n stars, of the accounts that it has to afford, and these
-- the pairs of amounts that its instructions need to be worth the same.
pub record NeedsRows (lists : ProgramLists) (n : ℕ) (d : ProcDecl) (forms : List Form)
    (pairs : List (Amount × Amount)) : Type 0 where
  pub skeleton : HasSkeleton lists d
  pub points : (f : Form) → Contains forms f ↔ IsFormOf lists n (outset_of lists d) f
  pub asked : (p : Amount × Amount) → Contains pairs p ↔ IsAsked lists (outset_of lists d) p

-- each form is 0 or more
abbrev pub AreAfforded : Annotations → List Form → Type 0
AreAfforded x forms = All (λ f. pos 0 ≤ℤ form_value x.stars x.unit f) forms

-- The law of rows: under each amounts for the n stars, the declaration has a derivation exactly where each form is 0 or
-- more and the two amounts of each pair are worth the same.
abbrev pub DerivesByRows : ProgramLists → ℕ → ProcDecl → List Form → List (Amount × Amount) → Type 0
DerivesByRows lists n d forms pairs =
    (x : Annotations) → length x.stars ≡ n
    → Derives lists x (start_of lists x d) ↔ (AreAfforded x forms × SameWorth x pairs)

-- The declaration needs the forms and the pairs, its forms have small numbers, and the law of rows holds of both.
pub record NeedsChecked (lists : ProgramLists) (n : ℕ) (d : ProcDecl) (forms : List Form)
    (pairs : List (Amount × Amount)) : Type 0 where
  pub needs : NeedsRows lists n d forms pairs
  pub small : All (IsForm n) forms
  pub law : DerivesByRows lists n d forms pairs

-- what the check of a process answers
abbrev pub AnswersProcess : ProgramLists → ℕ → ProcDecl → Result Checked ProcError → Type 0
AnswersProcess lists n d (Ok checked) = NeedsChecked lists n d checked.forms checked.pairs
AnswersProcess lists n d (Err (error.ProcType at form)) = IsFirstStuck lists d at form
AnswersProcess lists n d (Err error.NoMemory) = Unit {0}

-- The declaration has a skeleton, and needs the forms; and the pairs that it needs are those that are given and those
-- by which what was compared has grown.
pub record NeedsBeside (lists : ProgramLists) (n : ℕ) (d : ProcDecl) (old new : Compared) (forms : List Form)
    (pairs : List (Amount × Amount)) : Type 0 where
  pub skeleton : HasSkeleton lists d
  pub points : (f : Form) → Contains forms f ↔ IsFormOf lists n (outset_of lists d) f
  pub asked : (p : Amount × Amount) → (Contains pairs p ⊎ Contains new.amounts p)
      ↔ (Contains old.amounts p ⊎ IsAsked lists (outset_of lists d) p)
  pub small : All (IsForm n) forms

-- what it answers beside what was compared before
abbrev pub AnswersProcessBeside : ProgramLists → ℕ → ProcDecl → Compared → Compared → Result Checked ProcError → Type 0
AnswersProcessBeside lists n d old new (Ok checked) = NeedsBeside lists n d old new checked.forms checked.pairs
AnswersProcessBeside lists n d old new (Err (error.ProcType at form)) = IsFirstStuck lists d at form
AnswersProcessBeside lists n d old new (Err error.NoMemory) = Unit {0}
