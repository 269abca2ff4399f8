-- Names that are used exactly once, and what a process that goes on with its own channel stands for.
use Rattle.std.proofs.Common.{◌≡◌, ◌≢◌, ◌∙◌, ◌≤◌, inl, inr, ℕ, [], ◌∷◌, ◌++◌, Option, Some, IsSome, refl, sym, subst, ap, arith, ne_eqb}
use Rattle.nomos_ir.specs.Order.{count_of}
use Rattle.nomos_ir.specs.declared.code_node.Chan.{Chan}
use Rattle.nomos_ir.specs.declared.code_node.Chan.TheVariants as chan
use Rattle.nomos_ir.specs.declared.ids.TypeId.{TypeId}
use Rattle.nomos_ir.specs.declared.lists.ProgramLists.{ProgramLists}
use Rattle.nomos_ir.specs.declared.mode.Mode.{Mode}
use Rattle.nomos_ir.specs.declared.mode.Mode.TheVariants as mode
use Rattle.nomos_types.specs.Acceptance.{Acceptance, IsAccepted}
use Rattle.nomos_types.specs.Judgement.{is_shared_mode}
use Rattle.nomos_types.specs.Modes.{HasMode, IsLinearMode}
use Rattle.nomos_types.proofs.ModeLaws.{mode-unique}
use Rattle.nomos_types.proofs.ToldModeLaws.{type-shows_shared}
use Rattle.nomos_types.proofs.OccurrenceLaws.{count-elsewhere}
use Rattle.nomos_machine.specs.Matching.{NameHasType, HasBase, ProcessTyped}
use Rattle.nomos_machine.specs.Objects.{provided, used, shared_names, shared_of, times}
use Rattle.nomos_machine.specs.Revised.{under_name}
use Rattle.nomos_machine.specs.Sight.{present_name, shows_shared, is_shared_name}
use Rattle.nomos_machine.specs.State.{State, NameTypes, type_of}
use Rattle.nomos_machine.specs.TypedState.{IsOwned}
use Rattle.nomos_machine.specs.declared.object.Object.TheVariants as object
use Rattle.nomos_machine.specs.declared.object.Process.{Process}
use Rattle.nomos_machine.proofs.NameLaws.{type_of-kept}

-- a name of other objects is not this one
pub count-other : (n k : ℕ) → n ≢ k → count_of n (k ∷ []) ≡ 0
count-other n k other = count-elsewhere n k [] (ne_eqb k n (λ same. other (sym same)))

-- a name that is provided once, used once and not outside is owned at a mode of channels that are used exactly once
pub owned-once : (m : Mode) (s : State) (name : ℕ) → IsLinearMode m → times provided s.objects name ≡ 1
    → times used s.objects name ≡ 1 → count_of name s.outside ≡ 0 → IsOwned m s name
owned-once mode.R s name linear provides uses outside = (provides, omega (arith, uses, outside))
owned-once mode.L s name linear provides uses outside = (provides, uses, outside)
owned-once mode.T s name (inl is) provides uses outside = absurd cc
owned-once mode.T s name (inr is) provides uses outside = absurd cc
owned-once mode.S s name (inl is) provides uses outside = absurd cc
owned-once mode.S s name (inr is) provides uses outside = absurd cc

-- the mode of a process that goes on with its own channel is one of channels that are used exactly once
abbrev pub IsLinearAt : Chan → Mode → Type 0
IsLinearAt chan.Own m = IsLinearMode m
IsLinearAt (chan.Var v) m = Unit {0}

pub shared_of-linear : (m : Mode) (name other : ℕ) (base : Option ℕ) → IsLinearMode m
    → shared_of m name base ≡ shared_of m other base
shared_of-linear mode.R name other base linear = refl
shared_of-linear mode.L name other base linear = refl
shared_of-linear mode.T name other base (inl is) = absurd cc
shared_of-linear mode.T name other base (inr is) = absurd cc
shared_of-linear mode.S name other base (inl is) = absurd cc
shared_of-linear mode.S name other base (inr is) = absurd cc

-- so it stands for the same shared names under the other name
pub under-shared : (c : Chan) (name : ℕ) (p : Process) → IsLinearAt c p.mode
    → shared_names (object.Process (under_name c name p)) ≡ shared_names (object.Process p)
under-shared chan.Own name p linear = shared_of-linear p.mode name p.offers p.base linear
under-shared (chan.Var v) name p linear = refl

pub linear-at : {a : Acceptance} → IsAccepted a → {types : NameTypes} {accounts : ℕ} {p : Process}
    → ProcessTyped a types accounts p → (c : Chan) (from : ℕ) (own : TypeId) (m : Mode) → present_name p c ≡ Some from
    → type_of types from ≡ Some own → HasMode a.program own m → IsLinearMode m → IsLinearAt c p.mode
linear-at {a} accepted {types} {p = p} t chan.Own from own m here found has linear =
    let same : p.offers ≡ from = cc in
    let offered = t.offered own (subst (λ (n : ℕ). type_of types n ≡ Some own) (sym same) found) in
    subst IsLinearMode (mode-unique accepted.typed.formed.program has offered) linear
linear-at accepted t (chan.Var v) from own m here found has linear = tt

-- a base is there, and shared, as before
pub base-same : {lists : ProgramLists} {types : NameTypes} {p q : Process} → HasBase lists types p → q.mode ≡ p.mode
    → q.base ≡ p.base → HasBase lists types q
base-same has same_mode base = record {
  base = (
    λ some. same_mode ∙ has.base.0 (subst IsSome base some),
    λ at_l. subst IsSome (sym base) (has.base.1 (sym same_mode ∙ at_l)),
  );
  shared = λ b is. has.shared b (sym base ∙ is);
}

-- also where other names have types besides
pub base-again : {lists : ProgramLists} {types : NameTypes} {p q : Process} → (more : NameTypes) → HasBase lists types p
    → q.mode ≡ p.mode → q.base ≡ p.base → HasBase lists (types ++ more) q
base-again {lists} {types} {p} {q} more has same_mode base =
    let here : HasBase lists types q = base-same has same_mode base in
    record {
      base = here.base;
      shared = λ b is.
          let (t, found, at_s) = here.shared b is in
          (t, type_of-kept types more b t found, at_s);
    }

-- such a name is provided once, and used once at most
pub linear-owned : (m : Mode) (s : State) (name : ℕ) → IsLinearMode m → IsOwned m s name
    → (times provided s.objects name ≡ 1) × (times used s.objects name ≤ 1)
linear-owned mode.R s name linear owned = (owned.0, omega (arith, owned.1))
linear-owned mode.L s name linear owned = (owned.0, omega (arith, owned.1))
linear-owned mode.T s name linear owned = (owned.0, omega (arith, owned.1))
linear-owned mode.S s name (inl is) owned = absurd cc
linear-owned mode.S s name (inr is) owned = absurd cc

-- whether a name is a shared one is told by the mode of a type that it has
pub told-shared : {a : Acceptance} → IsAccepted a → {types : NameTypes} (name : ℕ) (t : TypeId) (m : Mode)
    → NameHasType a.program a.annotations types name t → HasMode a.program t m
    → is_shared_name a.program types name ≡ is_shared_mode m
told-shared {a} accepted name t m is has =
    let formed = accepted.typed.formed in
    ap (shows_shared a.program) is.found
    ∙ type-shows_shared formed is.alike.mode is.alike.left_mode
    ∙ ap is_shared_mode (mode-unique formed.program is.alike.right_mode has)
