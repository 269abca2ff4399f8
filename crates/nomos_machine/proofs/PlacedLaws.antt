-- One process stands in the place of another that has its number and its names: what is replaced, and where names lead.
use Rattle.std.proofs.Common.{◌≡◌, ◌∙◌, inl, inr, ℕ, List, [], ◌∷◌, Contains, Some, sym, subst, ap, arith, refl}
use Rattle.std.proofs.lemmas.Bool.{cases_eq}
use Rattle.std.proofs.lemmas.List.Elements.{All-nil, All-cons}
use Rattle.nomos_ir.specs.declared.mode.Mode.TheVariants as mode
use Rattle.nomos_types.specs.Acceptance.{Acceptance}
use Rattle.nomos_machine.specs.Change.{put_at}
use Rattle.nomos_machine.specs.Objects.{object_number, object_at}
use Rattle.nomos_machine.specs.State.{State}
use Rattle.nomos_machine.specs.TypedState.{LeadsToBase, at_base, further, IsTyped}
use Rattle.nomos_machine.specs.declared.object.Message.{Message}
use Rattle.nomos_machine.specs.declared.object.Object.{Object}
use Rattle.nomos_machine.specs.declared.object.Object.TheVariants as object
use Rattle.nomos_machine.specs.declared.object.Process.{Process}
use Rattle.nomos_machine.proofs.ChangeLaws.{Replaces, done, further as then}
use Rattle.nomos_machine.proofs.OwnedLaws.{leads-map}
use Rattle.nomos_machine.proofs.PutLaws.{object_at-own, put-new, put-kept}

-- names lead to their base among more objects too
pub leads-more : (objects others : List Object) → ((o : Object) → Contains objects o → Contains others o)
    → (base name : ℕ) → LeadsToBase objects base name → LeadsToBase others base name
leads-more objects others kept base name leads =
    leads-map (λ n. Unit {0}) objects others base
    (λ p there at_l is stay. at_base p (kept (object.Process p) there) at_l is)
    (λ m n onward there provides end stay.
    (tt, λ leads_on. further m n onward (kept (object.Message m) there) provides end leads_on))
    name tt leads

module _ {a : Acceptance} {s : State} (typed : IsTyped a s) {p : Process}
    (there : Contains s.objects (object.Process p)) (q : Process) (pid : q.pid ≡ p.pid) where
  placed-there : object_at s.objects p.pid ≡ Some (object.Process p)
  placed-there = object_at-own (object.Process p) s.objects typed.numbered.ascending there

  pub placed-replaces : Replaces ((p.pid, Some (object.Process q)) ∷ []) s.objects (object.Process p ∷ [])
  placed-replaces =
      let HasIt : Object → Type 0 = λ o. object_number o ≡ p.pid in
      then (object.Process p) (Some (object.Process q)) [] s.objects [] placed-there
      (All-cons HasIt (object.Process q) [] pid (All-nil HasIt))
      (done (put_at p.pid (Some (object.Process q)) s.objects))

  -- where it stays what it was the end of, sections stay
  pub placed-leads : q.mode ≡ p.mode → q.offers ≡ p.offers → q.base ≡ p.base → (base name : ℕ)
      → LeadsToBase s.objects base name → LeadsToBase (put_at p.pid (Some (object.Process q)) s.objects) base name
  placed-leads same_mode offers same_base base name leads =
      leads-map (λ n. Unit {0}) s.objects after base ends
      (λ m n onward inside provides end stay.
      (tt, λ leads_on. further m n onward (kept-message m inside) provides end leads_on))
      name tt leads
    where
      after : List Object
      after = put_at p.pid (Some (object.Process q)) s.objects

      -- an object with the number of the process is the process
      only : (o : Object) → Contains s.objects o → object_number o ≡ p.pid → Some o ≡ Some (object.Process p)
      only o inside number =
          sym (object_at-own o s.objects typed.numbered.ascending inside)
          ∙ ap (object_at s.objects) number ∙ placed-there

      kept-message : (m : Message) → Contains s.objects (object.Message m) → Contains after (object.Message m)
      kept-message m inside =
          put-kept p.pid (Some (object.Process q)) (object.Message m) s.objects
          (λ number. differ (only (object.Message m) inside number)) inside
        where
          differ : Some (object.Message m) ≡ Some (object.Process p) → ⊥
          differ is = cc

      ends : (r : Process) → Contains s.objects (object.Process r) → r.mode ≡ mode.L → r.base ≡ Some base → Unit {0}
          → LeadsToBase after base r.offers
      ends r inside at_l is stay =
          elim (cases_eq r.pid p.pid) [
            | inl number ↦
                let is_p : r ≡ p = process-only (only (object.Process r) inside number) in
                let its_offers : q.offers ≡ r.offers = offers ∙ ap (λ (o : Process). o.offers) (sym is_p) in
                let at_l_too : q.mode ≡ mode.L = same_mode ∙ ap (λ (o : Process). o.mode) (sym is_p) ∙ at_l in
                let based : q.base ≡ Some base = same_base ∙ ap (λ (o : Process). o.base) (sym is_p) ∙ is in
                let placed : Contains after (object.Process q) =
                put-new p.pid (Some (object.Process q)) (object.Process p) (object.Process q) s.objects placed-there
                (0, omega arith, refl)
                in
                subst (LeadsToBase after base) its_offers (at_base q placed at_l_too based)
            | inr other ↦
                at_base r (put-kept p.pid (Some (object.Process q)) (object.Process r) s.objects other inside) at_l is
          ]
        where
          process-only : Some (object.Process r) ≡ Some (object.Process p) → r ≡ p
          process-only is = cc
