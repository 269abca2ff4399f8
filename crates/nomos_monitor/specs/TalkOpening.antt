-- With which declaration a talk is opened, and why one is not.
use Rattle.std.specs.Prelude.{◌≡◌, ◌<◌, ◌≤◌, ℕ, List, length, Option, Some, None, Result, Ok, Err, slice_index}
use Rattle.nomos_ir.specs.declared.declaration.ProcDecl.{ProcDecl}
use Rattle.nomos_ir.specs.declared.ids.ProcId.{ProcId}
use Rattle.nomos_types.specs.Acceptance.{Acceptance}
use Rattle.nomos_types.specs.Amount.{dths}
use Rattle.nomos_machine.specs.Opening.{CanOpen, IsOpenerNamed, OpensTalk}
use Rattle.nomos_machine.specs.State.{State}
use Rattle.nomos_equality.specs.Carriers.{CarriesChannel, CarriesNothing}
use Rattle.nomos_monitor.specs.declared.talk_refusal.TalkRefusal.{TalkRefusal}
use Rattle.nomos_monitor.specs.declared.talk_refusal.TalkRefusal.TheVariants as refusal

-- The account is one, and the declaration of this number has this name, mode R and no parameters.
pub record HasOpener (a : Acceptance) (s : State) (name : List ℕ) (account number : ℕ) (d : ProcDecl) : Type 0 where
  pub its_account : account < length s.balances
  pub opener : IsOpenerNamed a name number d

-- Why a talk is not opened: each row has what the ones before it have not.
pub data IsTalkRefused (a : Acceptance) (s : State) (name : List ℕ) (account : ℕ) : TalkRefusal → Type 0 where
  no_account : length s.balances ≤ account → IsTalkRefused a s name account refusal.NoAccount
  no_process : account < length s.balances → ((number : ℕ) (d : ProcDecl) → ¬ (IsOpenerNamed a name number d))
      → IsTalkRefused a s name account refusal.NoProcess
  carries : (number : ℕ) (d : ProcDecl) → HasOpener a s name account number d → CarriesChannel a.program d.offers
      → IsTalkRefused a s name account refusal.Carries
  no_gas : (number : ℕ) (d : ProcDecl) → HasOpener a s name account number d → CarriesNothing a.program d.offers
      → slice_index s.balances account < dths a.annotations d.amount
      → IsTalkRefused a s name account
      (refusal.NoGas (slice_index s.balances account) (dths a.annotations d.amount))

-- What is found by a name: a declaration that has it, mode R and no parameters, or none where there is none.
abbrev pub IsFoundBy : Acceptance → List ℕ → Option ProcId → Type 0
IsFoundBy a name None = (number : ℕ) (d : ProcDecl) → ¬ (IsOpenerNamed a name number d)
IsFoundBy a name (Some f) = (d : ProcDecl) × IsOpenerNamed a name f.0 d

-- A talk can be opened with the declaration of this number and name, on whose type no channel is ever sent.
pub record CanOpenBy (a : Acceptance) (s : State) (name : List ℕ) (account number : ℕ) : Type 0 where
  pub can : CanOpen a s number account
  pub named : can.declaration.name ≡ name
  pub alone : CarriesNothing a.program can.declaration.offers

-- the declaration of this name with which a talk can be opened, or why a talk is not opened
abbrev pub ChoosesBy : Acceptance → State → List ℕ → ℕ → Result ProcId TalkRefusal → Type 0
ChoosesBy a s name account (Ok id) = CanOpenBy a s name account id.0
ChoosesBy a s name account (Err why) = IsTalkRefused a s name account why

-- A talk is opened with the declaration of this name, on whose type no channel is ever sent.
pub record OpensNamed (a : Acceptance) (s : State) (name : List ℕ) (account : ℕ) (t : State) : Type 0 where
  pub number : ℕ
  pub opens : OpensTalk a s number account t
  pub named : opens.can.declaration.name ≡ name
  pub alone : CarriesNothing a.program opens.can.declaration.offers
