-- What an `acquire` and a `release` come to where the other process stands as it must.
use Rattle.std.proofs.Common.{◌≡◌, ◌∙◌, ◌==◌, ℕ, Bool, true, false, eqb-true, List, Option, Some, None, refl, sym, ap, slice_get, option_and_then}
use Rattle.std.specs.Option.{option_map}
use Rattle.nomos_ir.specs.Bindings.{bound_to}
use Rattle.nomos_ir.specs.Value.{Value}
use Rattle.nomos_ir.specs.declared.code_node.CodeNode.{CodeNode}
use Rattle.nomos_ir.specs.declared.code_node.CodeNode.TheVariants as code
use Rattle.nomos_ir.specs.declared.ids.CodeId.{CodeId}
use Rattle.nomos_ir.specs.declared.ids.TypeId.{TypeId}
use Rattle.nomos_ir.specs.declared.ids.VarId.{VarId}
use Rattle.nomos_ir.specs.declared.type_node.TypeNode.{TypeNode}
use Rattle.nomos_types.specs.Acceptance.{Acceptance}
use Rattle.nomos_machine.specs.Deeds.{changes, deed_at}
use Rattle.nomos_machine.specs.Objects.{process_of}
use Rattle.nomos_machine.specs.Optional.{◌>>=◌}
use Rattle.nomos_machine.specs.Sight.{offering, after_acquire, accept_next, detach_next}
use Rattle.nomos_machine.specs.State.{State, process_at, node_of}
use Rattle.nomos_machine.specs.declared.object.Object.TheVariants as object
use Rattle.nomos_machine.specs.declared.object.Process.{Process}
use Rattle.nomos_machine.proofs.PutLaws.{InOrder, object_at-own}
use Rattle.nomos_machine.proofs.PreservationLaws.{process_at-there}
use Rattle.nomos_machine.proofs.SectionLaws.{offering-found}
use Rattle.nomos_deeds.specs.Acts.{act_change}
use Rattle.nomos_deeds.specs.SeenObjects.{seen_process}
use Rattle.nomos_deeds.specs.declared.act.Act.TheVariants as act
use Rattle.nomos_deeds.specs.declared.sight.SeenProcess.{SeenProcess}

-- the process that offers a name, where one is seen
pub record OtherProcess (s : State) (name : ℕ) (seen : SeenProcess) : Type 0 where
  pub other : Process
  pub offers : offering s.objects name ≡ Some other
  pub is : seen ≡ seen_process other
  pub stands : process_at s seen.pid ≡ Some other

pub other-seen : (s : State) (name : ℕ) (seen : SeenProcess) → InOrder s.objects
    → Some seen ≡ option_map seen_process (offering s.objects name) → OtherProcess s name seen
other-seen s name seen order is = at (offering s.objects name) refl is
  where
    one : (other : Process) → Some seen ≡ Some (seen_process other) → seen ≡ seen_process other
    one other e = cc

    at : (o : Option Process) → offering s.objects name ≡ o → Some seen ≡ option_map seen_process o
        → OtherProcess s name seen
    at (Some other) found e =
        let there = offering-found s.objects name other found in
        record {
          other = other;
          offers = found;
          is = one other e;
          stands = ap (λ (q : SeenProcess). process_at s q.pid) (one other e)
              ∙ ap (option_and_then process_of) (object_at-own (object.Process other) s.objects order there.0);
        }
    at None found e = absurd cc

bind-some : {X Y : Type 0} (o : Option X) (f : X → Option Y) (x : X) → o ≡ Some x → (o >>= f) ≡ f x
bind-some {X = X} o f x is = ap (λ (o : Option X). o >>= f) is

module _ (a : Acceptance) (s : State) (p : Process) (vs : List Value) (at : ℕ) (name : ℕ) (seen : SeenProcess)
    (n : CodeNode) (onward next : CodeId) (order : InOrder s.objects)
    (sees : Some seen ≡ option_map seen_process (offering s.objects name))
    (stands : slice_get a.program.code seen.code.0 ≡ Some n) where
  other-node : (other : Process) → seen ≡ seen_process other → slice_get a.program.code other.code.0 ≡ Some n
  other-node other is = ap (λ (q : SeenProcess). slice_get a.program.code q.code.0) (sym is) ∙ stands

  -- it is another process than the one that stands where it waits for that
  module _ (pid : ℕ) (there : process_at s pid ≡ Some p) (own : CodeNode)
      (own_stands : slice_get a.program.code p.code.0 ≡ Some own) where
    apart : (turns : CodeNode → Option CodeId) → turns own ≡ None → turns n ≡ Some onward → (seen.pid == p.pid) ≡ false
    apart turns own_waits turned = known (seen.pid == p.pid) refl
      where
        one-process : (q : Process) → Some q ≡ Some p → q ≡ p
        one-process q e = cc

        one-node : Some n ≡ Some own → n ≡ own
        one-node e = cc

        never : Some onward ≡ None → ⊥
        never e = cc

        known : (b : Bool) → (seen.pid == p.pid) ≡ b → b ≡ false
        known false told = refl
        known true told =
            let is = other-seen s name seen order sees in
            let same : seen.pid ≡ p.pid = eqb-true seen.pid p.pid told in
            let number = (process_at-there s pid p there).1 in
            let one : is.other ≡ p = one-process is.other (sym is.stands ∙ ap (process_at s) (same ∙ number) ∙ there) in
            let node : n ≡ own =
            one-node (sym (other-node is.other is.is) ∙ ap (λ (q : Process). slice_get a.program.code q.code.0) one
            ∙ own_stands) in
            absurd (never (sym turned ∙ ap turns node ∙ own_waits))

  pub acquired : (pid : ℕ) (r v : VarId) (head : TypeNode) (goes : TypeId) → process_at s pid ≡ Some p
      → slice_get a.program.code p.code.0 ≡ Some (code.Acquire at r v next) → bound_to r.0 p.channels ≡ Some name
      → accept_next n ≡ Some onward → node_of a.program s.types name ≡ Some head → after_acquire head ≡ Some goes
      → option_map changes (act_change a s p vs (act.Acquire (record {
        variable = v;
        shared = name;
        other = seen.pid;
        onward = onward;
        goes = goes;
        next = next;
      })))
      ≡ deed_at a s p vs (code.Acquire at r v next)
  acquired pid r v head goes there own bound accepts unfolds after =
      let is = other-seen s name seen order sees in
      let type : (node_of a.program s.types name >>= after_acquire) ≡ Some goes =
      bind-some (node_of a.program s.types name) after_acquire head unfolds ∙ after
      in
      let others : (is.other.pid == p.pid) ≡ false =
      ap (λ (q : SeenProcess). q.pid == p.pid) (sym is.is)
      ∙ apart pid there (code.Acquire at r v next) own accept_next refl accepts in
      rw (bound, is.offers, other-node is.other is.is, accepts, type, is.stands, others) refl

  pub released : (pid : ℕ) (v r : VarId) (base : ℕ) → process_at s pid ≡ Some p
      → slice_get a.program.code p.code.0 ≡ Some (code.Release at v r next) → bound_to v.0 p.channels ≡ Some name
      → detach_next n ≡ Some onward
      → seen.base ≡ Some base
      → option_map changes (act_change a s p vs (act.Release (record {
        variable = v;
        reference = r;
        shared = base;
        other = seen.pid;
        onward = onward;
        next = next;
      })))
      ≡ deed_at a s p vs (code.Release at v r next)
  released pid v r base there own bound detaches its_base =
      let is = other-seen s name seen order sees in
      let other_base : is.other.base ≡ Some base = ap (λ (q : SeenProcess). q.base) (sym is.is) ∙ its_base in
      let others : (is.other.pid == p.pid) ≡ false =
      ap (λ (q : SeenProcess). q.pid == p.pid) (sym is.is)
      ∙ apart pid there (code.Release at v r next) own detach_next refl detaches in
      rw (bound, is.offers, other-node is.other is.is, detaches, other_base, is.stands, others) refl
