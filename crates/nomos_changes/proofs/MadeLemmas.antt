-- States that are the same in each of their parts, and states in which a change is made.
use Rattle.std.proofs.Common.{◌≡◌, ◌∙◌, ℕ, ◌+◌, ◌<◌, ◌^◌, List, [], ◌∷◌, ◌++◌, Option, Some, None, sym, ap, refl, arith, append-nil}
use Rattle.nomos_ir.specs.Value.{Value}
use Rattle.nomos_types.specs.Acceptance.{Acceptance}
use Rattle.nomos_deeds.specs.Acting.{CanAct}
use Rattle.nomos_deeds.specs.Acts.{act_change}
use Rattle.nomos_deeds.specs.declared.act.Act.{Act}
use Rattle.nomos_machine.specs.Change.{Change, CanGet, changed, made, put_at}
use Rattle.nomos_machine.specs.Deeds.{alone}
use Rattle.nomos_machine.specs.Optional.{◌>>=◌}
use Rattle.nomos_machine.specs.State.{State, NameTypes, gas_of, process_at}
use Rattle.nomos_machine.specs.declared.object.Object.{Object}
use Rattle.nomos_machine.specs.declared.object.Object.TheVariants as object
use Rattle.nomos_machine.specs.declared.object.Process.{Process}
use Rattle.nomos_machine.proofs.PreservationLaws.{process_at-there}
use Rattle.nomos_changes.specs.Performing.{made_by_act, if_made}
use Rattle.nomos_changes.specs.SmallChanges.{with_process}

abbrev whole : List Object → ℕ → ℕ → NameTypes → List ℕ → ℕ → List (ℕ × Value) → List ℕ → State
whole objects next_object next_name types balances spent results outside = record {
  objects = objects;
  next_object = next_object;
  next_name = next_name;
  types = types;
  balances = balances;
  spent = spent;
  results = results;
  outside = outside;
}

pub same-state : (s t : State) → s.objects ≡ t.objects → s.next_object ≡ t.next_object → s.next_name ≡ t.next_name
    → s.types ≡ t.types → s.balances ≡ t.balances → s.spent ≡ t.spent → s.results ≡ t.results → s.outside ≡ t.outside
    → s ≡ t
same-state s t objects next_object next_name types balances spent results outside =
    let fields : whole s.objects s.next_object s.next_name s.types s.balances s.spent s.results s.outside
    ≡ whole t.objects t.next_object t.next_name t.types t.balances t.spent t.results t.outside = cc in
    fields

-- ---- what an act comes to

pub one-some : {X : Type 0} (x y : X) → Some x ≡ Some y → x ≡ y
one-some x y e = cc

-- the process that acts, and the change that it makes
pub record Acts (a : Acceptance) (s : State) (pid : ℕ) (vs : List Value) (what : Act) : Type 0 where
  pub process : Process
  pub there : process_at s pid ≡ Some process
  pub number : process.pid ≡ pid
  pub change : Change
  pub changes : act_change a s process vs what ≡ Some change
  pub makes : made_by_act a s pid vs what ≡ made s change
  pub gas_after : gas_of (changed s change) < 2 ^ 96
  pub gets : CanGet change.gets s.balances

pub can-acts : (a : Acceptance) (s : State) (pid : ℕ) (vs : List Value) (what : Act) → CanAct a s pid vs what
    → Acts a s pid vs what
can-acts a s pid vs what can = at (process_at s pid) refl can.makes
  where
    at : (o : Option Process) → process_at s pid ≡ o → (o >>= λ p. act_change a s p vs what) ≡ Some can.change
        → Acts a s pid vs what
    at (Some p) there makes = record {
      process = p;
      there = there;
      number = (process_at-there s pid p there).1;
      change = can.change;
      changes = makes;
      makes = ap (if_made s) can.makes;
      gas_after = can.gas_after;
      gets = can.gets;
    }
    at None there makes = absurd cc

-- a change by which one process alone becomes another
pub alone-made : (a : Acceptance) (s : State) (p q : Process) (pid : ℕ) (c : Change) → p.pid ≡ pid → c ≡ alone a s p q
    → with_process pid q s ≡ made s c
alone-made a s p q pid c number is =
    same-state (with_process pid q s) (made s (alone a s p q))
    (ap (λ (n : ℕ). put_at n (Some (object.Process q)) s.objects) (sym number)
    ∙ sym (append-nil (put_at p.pid (Some (object.Process q)) s.objects)))
    (omega arith) (omega arith) (sym (append-nil s.types)) refl (omega arith) (sym (append-nil s.results)) refl
    ∙ ap (made s) (sym is)

-- the same, where gas is spent besides
pub work-made : (a : Acceptance) (s : State) (p q : Process) (pid gas : ℕ) (c : Change) → p.pid ≡ pid
    → c ≡ record (alone a s p q) { burnt = gas }
    → with_process pid q (record s { spent = s.spent + gas }) ≡ made s c
work-made a s p q pid gas c number is =
    same-state (with_process pid q (record s { spent = s.spent + gas }))
    (made s (record (alone a s p q) { burnt = gas }))
    (ap (λ (n : ℕ). put_at n (Some (object.Process q)) s.objects) (sym number)
    ∙ sym (append-nil (put_at p.pid (Some (object.Process q)) s.objects)))
    (omega arith) (omega arith) (sym (append-nil s.types)) refl refl (sym (append-nil s.results)) refl
    ∙ ap (made s) (sym is)

-- and where a value is emitted
pub emit-made : (a : Acceptance) (s : State) (p q : Process) (pid : ℕ) (x : Value) (c : Change) → p.pid ≡ pid
    → c ≡ record (alone a s p q) { emitted = (p.pid, x) ∷ [] }
    → with_process pid q (record s { results = s.results ++ (pid, x) ∷ [] }) ≡ made s c
emit-made a s p q pid x c number is =
    same-state (with_process pid q (record s { results = s.results ++ (pid, x) ∷ [] }))
    (made s (record (alone a s p q) { emitted = (p.pid, x) ∷ [] }))
    (ap (λ (n : ℕ). put_at n (Some (object.Process q)) s.objects) (sym number)
    ∙ sym (append-nil (put_at p.pid (Some (object.Process q)) s.objects)))
    (omega arith) (omega arith) (sym (append-nil s.types)) refl (omega arith)
    (ap (λ (n : ℕ). s.results ++ (n, x) ∷ []) (sym number)) refl
    ∙ ap (made s) (sym is)
