-- A name has one type for its whole life: nothing that happens to a state gives another type to a name that was taken.
use Rattle.std.proofs.Common.{◌≡◌, ◌∙◌, ◌<◌, ◌≤◌, ℕ, List, ◌++◌, map, Option, Some, None, sym, subst, ap, arith, append-nil}
use Rattle.std.specs.Option.{option_to_list}
use Rattle.nomos_ir.specs.declared.ids.TypeId.{TypeId}
use Rattle.nomos_types.specs.Acceptance.{Acceptance}
use Rattle.nomos_machine.specs.Change.{Change, changed}
use Rattle.nomos_machine.specs.Run.{run}
use Rattle.nomos_machine.specs.Starting.{opened, credited, cleared}
use Rattle.nomos_machine.specs.State.{State, NameTypes, type_of}
use Rattle.nomos_machine.specs.Step.{step}
use Rattle.nomos_machine.specs.TypedState.{IsTyped}
use Rattle.nomos_machine.proofs.FitLaws.{mentioned-kept}
use Rattle.nomos_machine.proofs.NameLaws.{type_of-below, type_of-other}
use Rattle.nomos_machine.proofs.PlainLaws.{step-made, run-by_any_steps}

-- Each name that was taken in the first state, and has a type in the second one, had this type in the first. So the
-- type of a name may go, and never comes again.
pub record KeepsTypes (s t : State) : Type 0 where
  pub rises : s.next_name ≤ t.next_name
  pub types : (name : ℕ) (own : TypeId) → name < s.next_name → type_of t.types name ≡ Some own
      → type_of s.types name ≡ Some own

-- of a name that has a type in both states, and was numbered in the first, these are one
pub one-type : {a : Acceptance} {s t : State} → IsTyped a s → KeepsTypes s t → (name : ℕ) (first last : TypeId)
    → type_of s.types name ≡ Some first → type_of t.types name ≡ Some last → first ≡ last
one-type {a} {s} {t} typed keeps name first last before after =
    let taken = type_of-below s.types name s.next_name first typed.numbered.names before in
    one (sym before ∙ keeps.types name last taken after)
  where
    one : Some first ≡ Some last → first ≡ last
    one is = cc

pub types-same : (s : State) → KeepsTypes s s
types-same s = record { rises = omega arith; types = λ name own taken found. found }

pub types-through : (s u t : State) → KeepsTypes s u → KeepsTypes u t → KeepsTypes s t
types-through s u t first rest = record {
  rises = omega (arith, first.rises, rest.rises);
  types = λ name own taken found.
      first.types name own taken (rest.types name own (omega (arith, taken, first.rises)) found);
}

-- ---- changes, among them firings and starts

pub changed-keeps_types : (s : State) (c : Change) → KeepsTypes s (changed s c)
changed-keeps_types s c = record {
  rises = omega arith;
  types = λ name own taken found. before name own taken c.next_type (mentioned-kept s c name own found).1;
}
  where
    before : (name : ℕ) (own : TypeId) → name < s.next_name → (next : Option TypeId)
        → type_of (s.types ++ map (λ t. (s.next_name, t)) (option_to_list next)) name ≡ Some own
        → type_of s.types name ≡ Some own
    before name own taken (Some t) found = sym (type_of-other s.types s.next_name name t (omega (arith, taken))) ∙ found
    before name own taken None found =
        ap (λ (types : NameTypes). type_of types name) (sym (append-nil s.types)) ∙ found

pub step-keeps_types : (a : Acceptance) (s t : State) (pid : ℕ) → step a s pid ≡ Some t → KeepsTypes s t
step-keeps_types a s t pid is =
    let firing = step-made a s pid t is in
    subst (KeepsTypes s) firing.after (changed-keeps_types s firing.c)

pub run-keeps_types : (a : Acceptance) (s t : State) (pids : List ℕ) → run a s pids ≡ Some t → KeepsTypes s t
run-keeps_types a s t pids is =
    run-by_any_steps a (λ n s t. KeepsTypes s t) types-same
    (λ n s u t pid steps rest. types-through s u t (step-keeps_types a s u pid steps) rest) s t pids is

-- ---- accounts, deposits and results

pub opened-keeps_types : (s : State) (gas : ℕ) → KeepsTypes s (opened s gas)
opened-keeps_types s gas = record { rises = omega arith; types = λ name own taken found. found }

pub credited-keeps_types : (s : State) (account gas : ℕ) → KeepsTypes s (credited s account gas)
credited-keeps_types s account gas = record {
  rises = omega arith;
  types = λ name own taken found. ap (λ (types : NameTypes). type_of types name) (sym (append-nil s.types)) ∙ found;
}

pub cleared-keeps_types : (s : State) → KeepsTypes s (cleared s)
cleared-keeps_types s = record { rises = omega arith; types = λ name own taken found. found }
