-- A mirror of the code: all that a process asks for was gathered.
use Rattle.std.specs.Prelude.{◌≡◌, ◌⊎◌, ◌++◌, ℕ, Contains, Some, None, slice_get}
use Rattle.std.specs.declared.result.Result.{Result}
use Rattle.std.specs.declared.result.Result.TheVariants.{Ok, Err}
use Rattle.nomos_ir.specs.declared.amount.Amount.{Amount}
use Rattle.nomos_ir.specs.declared.declaration.ProcDecl.{ProcDecl}
use Rattle.nomos_ir.specs.declared.ids.CodeId.{CodeId}
use Rattle.nomos_ir.specs.declared.ids.ProcId.{ProcId}
use Rattle.nomos_ir.specs.declared.lists.ProgramLists.{ProgramLists}
use Rattle.nomos_ir.specs.Amounts.{star_count}
use Rattle.nomos_equality.specs.Comparing.{Compared}
use Rattle.nomos_forms.specs.declared.form.Form.{Form}
use Rattle.nomos_types.specs.Judgement.{Judgement}
use Rattle.nomos_check.specs.Account.{Account}
use Rattle.nomos_check.specs.Asking.{IsAsked}
use Rattle.nomos_check.specs.InHand.{IsPotentialAt}
use Rattle.nomos_check.specs.Reaching.{Outset, outset_of, GetsTo, IsFormOf}
use Rattle.nomos_check.specs.declared.checking.Checked.{Checked}
use Rattle.nomos_check.specs.declared.checking.ProcError.{ProcError}
use Rattle.nomos_check.specs.declared.checking.ProcError.TheVariants as error
use Rattle.nomos_check.specs.declared.standing.Standing.{Standing}
use Rattle.nomos_check.specs.declared.code_walk.Stuck.{Stuck}
use Rattle.nomos_check.specs.declared.code_walk.CodeWalk.{CodeWalk}
use Rattle.nomos_check.specs.mirror.StandingData.{HasPair}
use Rattle.nomos_check.specs.mirror.Walking.{IsDone, IsReached, StuckOf}

-- what the process asks for from the outset on was gathered, beside what was compared before
pub record IsGathered (lists : ProgramLists) (n : ℕ) (o : Outset) (known : Compared) (w : CodeWalk) : Type 0 where
  pub done : (j : Judgement) (a : Account) → GetsTo lists o j a → IsDone lists n w j a
  pub forms : (f : Form) → Contains w.forms.items f → IsFormOf lists n o f
  pub pairs : w.stuck ≡ None → (pair : Amount × Amount) → HasPair w.asked pair
      → Contains known.amounts pair ⊎ IsAsked lists o pair
  pub keeps : w.stuck ≡ None → (pair : Amount × Amount) → Contains known.amounts pair → HasPair w.asked pair
  pub stuck : (s : Stuck) → w.stuck ≡ Some s → StuckOf lists o s
  pub places : (t : Standing) → Contains w.places.items t → IsReached lists n o t
  pub potentials : (e : CodeId × Form) → Contains w.potentials.items e → IsPotentialAt lists n o e.0 e.1

-- all that the declaration with this number asks for
abbrev pub GathersAll : ProgramLists → ProcId → CodeWalk → CodeWalk → Type 0
GathersAll lists p old new =
    (d : ProcDecl) → slice_get lists.procs p.0 ≡ Some d
    → IsGathered lists (star_count lists) (outset_of lists d) old.asked.equalities new

-- the pairs of what was compared stand before those that were given
abbrev pub JoinsPairs : Compared → Checked → Result Checked ProcError → Type 0
JoinsPairs known checked (Ok all) = (all.forms ≡ checked.forms) × (all.pairs ≡ known.amounts ++ checked.pairs)
JoinsPairs known checked (Err (error.ProcType at form)) = ⊥
JoinsPairs known checked (Err error.NoMemory) = Unit {0}
