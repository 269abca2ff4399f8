-- Names of contracts are never taken away: they keep their types through every change that fits, and so through every
-- step and every run.
use Rattle.std.proofs.Common.{◌≡◌, ◌∙◌, ◌≤◌, ◌⊎◌, ℕ, List, map, Some, slice_get, subst, ap, arith, append-nil}
use Rattle.std.specs.Option.{option_to_list}
use Rattle.nomos_ir.specs.Value.{Value}
use Rattle.nomos_ir.specs.declared.declaration.ProcDecl.{ProcDecl}
use Rattle.nomos_ir.specs.declared.ids.TypeId.{TypeId}
use Rattle.nomos_ir.specs.declared.ids.VarId.{VarId}
use Rattle.nomos_ir.specs.declared.mode.Mode.TheVariants as mode
use Rattle.nomos_types.specs.Acceptance.{Acceptance, IsAccepted}
use Rattle.nomos_types.specs.Modes.{HasMode}
use Rattle.nomos_machine.specs.Change.{Change, made, changed}
use Rattle.nomos_machine.specs.Objects.{mentioned, times}
use Rattle.nomos_machine.specs.Opening.{opens_talk}
use Rattle.nomos_machine.specs.Run.{run}
use Rattle.nomos_machine.specs.Starting.{CanStart, opened, credited, cleared, starts, started}
use Rattle.nomos_machine.specs.State.{State, NameTypes, type_of}
use Rattle.nomos_machine.specs.Step.{step}
use Rattle.nomos_machine.specs.TypedState.{IsTyped, IsContractName}
use Rattle.nomos_machine.proofs.BirthLaws.{stands-mentioned}
use Rattle.nomos_machine.proofs.FiringLaws.{FiringChange, step-fires, run-by_steps}
use Rattle.nomos_machine.proofs.FitLaws.{Fits, kept-mentioned}
use Rattle.nomos_machine.proofs.NameLaws.{mentioned-sum, type_of-kept}
use Rattle.nomos_machine.proofs.StartingLaws.{starts-fits, opens_talk-fits}

-- each name of mode S has in the second state the type that it has in the first
abbrev pub KeepsContracts : Acceptance → State → State → Type 0
KeepsContracts a s t =
    (name : ℕ) (u : TypeId) → type_of s.types name ≡ Some u → HasMode a.program u mode.S → type_of t.types name ≡ Some u

-- so it is a name of a contract there too
pub contract-kept : {a : Acceptance} {s t : State} → KeepsContracts a s t → (name : ℕ) → IsContractName a s name
    → IsContractName a t name
contract-kept keeps name contract = record {
  own = contract.own;
  found = keeps name contract.own contract.found contract.mode;
  mode = contract.mode;
}

-- a change that fits keeps them: somebody stands for each, so it is mentioned, and stays in the table of types
pub changed-keeps_contracts : {a : Acceptance} {s : State} (c : Change) → IsTyped a s → Fits a s c
    → KeepsContracts a s (changed s c)
changed-keeps_contracts {a} {s} c typed fits name u found at_s =
    let owned = typed.owned name u mode.S found at_s in
    let stands = fits.keeps_shared name u found at_s in
    let there : 1 ≤ times mentioned (made s c).objects name =
    omega (arith, owned.0, stands, stands-mentioned (made s c).objects name, mentioned-sum (made s c).objects name)
    in
    kept-mentioned s c name there
    ∙ type_of-kept s.types (map (λ t. (s.next_name, t)) (option_to_list c.next_type)) name u found

-- ---- steps and runs

pub firing-keeps_contracts : {a : Acceptance} {s t : State} → IsTyped a s → FiringChange a s t → KeepsContracts a s t
firing-keeps_contracts {a} {s} typed firing =
    subst (KeepsContracts a s) firing.after (changed-keeps_contracts firing.c typed firing.fits)

pub step-keeps_contracts : {a : Acceptance} → IsAccepted a → {s : State} → IsTyped a s → (pid : ℕ) (t : State)
    → step a s pid ≡ Some t → KeepsContracts a s t
step-keeps_contracts accepted typed pid t is = firing-keeps_contracts typed (step-fires accepted typed pid t is)

pub run-keeps_contracts : {a : Acceptance} → IsAccepted a → (s t : State) (pids : List ℕ) → IsTyped a s
    → run a s pids ≡ Some t → KeepsContracts a s t
run-keeps_contracts {a} accepted s t pids typed is =
    run-by_steps accepted (λ n s t. KeepsContracts a s t) (λ s name u found at_s. found)
    (λ n s u t typed firing rest name v found at_s.
    rest name v (firing-keeps_contracts typed firing name v found at_s) at_s)
    s t pids typed is

-- ---- starts

module _ {a : Acceptance} (accepted : IsAccepted a) {s : State} (typed : IsTyped a s) (number : ℕ) {d : ProcDecl}
    (declared : slice_get a.program.procs number ≡ Some d) {values : List (VarId × Value)}
    {channels : List (VarId × ℕ)} {payer : ℕ} (can : CanStart a s d values channels payer) where
  pub started-keeps_contracts : (d.mode ≡ mode.S) ⊎ (d.mode ≡ mode.T)
      → KeepsContracts a s (started a s d values channels payer)
  started-keeps_contracts its_mode =
      changed-keeps_contracts (starts a s d values channels payer) typed
      (starts-fits accepted typed number declared can its_mode)

  pub opened_talk-keeps_contracts : d.mode ≡ mode.R
      → KeepsContracts a s (changed s (opens_talk a s d values channels payer))
  opened_talk-keeps_contracts at_r =
      changed-keeps_contracts (opens_talk a s d values channels payer) typed
      (opens_talk-fits accepted typed number declared can at_r)

-- ---- accounts, deposits and results

pub opened-keeps_contracts : (a : Acceptance) (s : State) (gas : ℕ) → KeepsContracts a s (opened s gas)
opened-keeps_contracts a s gas name u found at_s = found

pub credited-keeps_contracts : (a : Acceptance) (s : State) (account gas : ℕ)
    → KeepsContracts a s (credited s account gas)
credited-keeps_contracts a s account gas name u found at_s =
    ap (λ (types : NameTypes). type_of types name) (append-nil s.types) ∙ found

pub cleared-keeps_contracts : (a : Acceptance) (s : State) → KeepsContracts a s (cleared s)
cleared-keeps_contracts a s name u found at_s = found
