-- A process that goes on alone, under the names that it has, leaves a typed state typed.
use Rattle.std.proofs.Common.{◌≡◌, ◌≢◌, ◌∙◌, ◌≤◌, inl, inr, ℕ, List, [], ◌∷◌, length, Contains, Option, Some, refl, sym, subst, ap, arith, append-nil}
use Rattle.std.proofs.lemmas.Bool.{cases_eq}
use Rattle.std.proofs.lemmas.List.Elements.{All-nil, All-cons, Contains-append_left}
use Rattle.nomos_ir.specs.Order.{count_of}
use Rattle.nomos_ir.specs.Value.{Value}
use Rattle.nomos_ir.specs.declared.ids.TypeId.{TypeId}
use Rattle.nomos_ir.specs.declared.mode.Mode.{Mode}
use Rattle.nomos_ir.specs.declared.mode.Mode.TheVariants as mode
use Rattle.nomos_types.specs.Acceptance.{Acceptance}
use Rattle.nomos_types.specs.Modes.{HasMode}
use Rattle.nomos_machine.specs.Change.{Change, put_at, made}
use Rattle.nomos_machine.specs.Deeds.{alone}
use Rattle.nomos_machine.specs.Matching.{ProcessTyped}
use Rattle.nomos_machine.specs.Objects.{object_number, provided, used, shared_names, shared_of, mentioned, times, object_at}
use Rattle.nomos_machine.specs.State.{State, NameTypes, type_of}
use Rattle.nomos_machine.specs.TypedState.{VariablesDiffer, HasVariables, ObjectTyped, LeadsToBase, at_base, further, IsTyped}
use Rattle.nomos_machine.specs.declared.object.Message.{Message}
use Rattle.nomos_machine.specs.declared.object.Object.{Object}
use Rattle.nomos_machine.specs.declared.object.Object.TheVariants as object
use Rattle.nomos_machine.specs.declared.object.Process.{Process}
use Rattle.nomos_machine.proofs.ChangeLaws.{Replaces, done, further as then, made-kept}
use Rattle.nomos_machine.proofs.FitLaws.{Fits}
use Rattle.nomos_machine.proofs.NameLaws.{mentioned-sum}
use Rattle.nomos_machine.proofs.ObjectLaws.{object-kept}
use Rattle.nomos_machine.proofs.OwnedLaws.{made-times, CountsAsBefore, owned-as_before, leads-map}
use Rattle.nomos_machine.proofs.PutLaws.{object_at-own, put-new}

-- what the process is afterwards has the names that it had
pub record SameNames (a : Acceptance) (s : State) (p q : Process) : Type 0 where
  pub pid : q.pid ≡ p.pid
  pub same_mode : q.mode ≡ p.mode
  pub offers : q.offers ≡ p.offers
  pub base : q.base ≡ p.base
  -- how often it uses a shared name does not matter
  pub uses : (name : ℕ) (t : TypeId) (m : Mode) → type_of s.types name ≡ Some t → HasMode a.program t m → m ≢ mode.S
      → count_of name (used (object.Process q)) ≡ count_of name (used (object.Process p))

module _ {a : Acceptance} {s : State} {p : Process} (typed : IsTyped a s)
    (there : Contains s.objects (object.Process p))
    (q : Process) (burnt : ℕ) (emitted : List (ℕ × Value)) (same : SameNames a s p q) where
  -- the change: the process goes on as q, burns gas and emits values
  abbrev pub goes_alone : Change
  goes_alone = record (alone a s p q) { burnt = burnt; emitted = emitted }

  found-there : object_at s.objects p.pid ≡ Some (object.Process p)
  found-there = object_at-own (object.Process p) s.objects typed.numbered.ascending there

  pub alone-replaces : Replaces goes_alone.places s.objects (object.Process p ∷ [])
  alone-replaces =
      let HasIt : Object → Type 0 = λ o. object_number o ≡ p.pid in
      then (object.Process p) (Some (object.Process q)) [] s.objects [] found-there
      (All-cons HasIt (object.Process q) [] same.pid (All-nil HasIt))
      (done (put_at p.pid (Some (object.Process q)) s.objects))

  -- the table of types is as it was
  same-type : (name : ℕ) → type_of (made s goes_alone).types name ≡ type_of s.types name
  same-type name = ap (λ (types : NameTypes). type_of types name) (append-nil s.types)

  alone-times : (does : Object → List ℕ) (name : ℕ)
      → count_of name (does (object.Process q)) ≡ count_of name (does (object.Process p))
      → times does (made s goes_alone).objects name ≡ times does s.objects name
  alone-times does name equal =
      let sum = made-times does name s goes_alone (object.Process p ∷ []) alone-replaces in
      omega (arith, sum)

  counts-same : (name : ℕ) (t : TypeId) (m : Mode) → type_of s.types name ≡ Some t → HasMode a.program t m
      → CountsAsBefore m s (made s goes_alone) name
  counts-same name t m found mode = record {
    provided = λ other. alone-times provided name (ap (λ (n : ℕ). count_of name (n ∷ [])) same.offers);
    used = λ other. alone-times used name (same.uses name t m found mode other);
    shared = λ at_s. alone-times shared_names name
        (ap (λ (m : Mode). count_of name (shared_of m q.offers q.base)) same.same_mode
        ∙ ap (λ (n : ℕ). count_of name (shared_of p.mode n q.base)) same.offers
        ∙ ap (λ (b : Option ℕ). count_of name (shared_of p.mode p.offers b)) same.base);
    outside = refl;
  }

  -- the process is still the end of the sections whose end it was
  alone-leads : (base name : ℕ) → LeadsToBase s.objects base name → LeadsToBase (made s goes_alone).objects base name
  alone-leads base name leads =
      leads-map (λ n. Unit {0}) s.objects (made s goes_alone).objects base ends
      (λ m n onward inside provides end stay. (
        tt,
        λ leads_on. further m n onward (kept-message m inside) provides end
            leads_on,
      ))
      name tt leads
    where
      placed : Contains (made s goes_alone).objects (object.Process q)
      placed =
          Contains-append_left (put_at p.pid (Some (object.Process q)) s.objects) [] (object.Process q)
          (put-new p.pid (Some (object.Process q)) (object.Process p) (object.Process q) s.objects found-there
          (0, omega arith, refl))

      kept : (o : Object) → Contains s.objects o → object_number o ≢ p.pid → Contains (made s goes_alone).objects o
      kept o inside other =
          let Other : ℕ × Option Object → Type 0 = λ e. e.0 ≢ object_number o in
          let apart : Other (p.pid, Some (object.Process q)) = λ is. other (sym is) in
          made-kept s goes_alone o inside (All-cons Other (p.pid, Some (object.Process q)) [] apart (All-nil Other))

      -- an object with the number of the process is the process
      only : (o : Object) → Contains s.objects o → object_number o ≡ p.pid → Some o ≡ Some (object.Process p)
      only o inside number =
          sym (object_at-own o s.objects typed.numbered.ascending inside)
          ∙ ap (object_at s.objects) number ∙ found-there

      kept-message : (m : Message) → Contains s.objects (object.Message m)
          → Contains (made s goes_alone).objects (object.Message m)
      kept-message m inside = kept (object.Message m) inside (λ number. differ (only (object.Message m) inside number))
        where
          differ : Some (object.Message m) ≡ Some (object.Process p) → ⊥
          differ is = cc

      ends : (r : Process) → Contains s.objects (object.Process r) → r.mode ≡ mode.L → r.base ≡ Some base → Unit {0}
          → LeadsToBase (made s goes_alone).objects base r.offers
      ends r inside at_l is stay =
          elim (cases_eq r.pid p.pid) [
            | inl number ↦
                let is_p : r ≡ p = process-only (only (object.Process r) inside number) in
                let offers : q.offers ≡ r.offers = same.offers ∙ ap (λ (o : Process). o.offers) (sym is_p) in
                let at_l_too : q.mode ≡ mode.L = same.same_mode ∙ ap (λ (o : Process). o.mode) (sym is_p) ∙ at_l in
                let based : q.base ≡ Some base = same.base ∙ ap (λ (o : Process). o.base) (sym is_p) ∙ is in
                subst (LeadsToBase (made s goes_alone).objects base) offers (at_base q placed at_l_too based)
            | inr other ↦ at_base r (kept (object.Process r) inside other) at_l is
          ]
        where
          process-only : Some (object.Process r) ≡ Some (object.Process p) → r ≡ p
          process-only is = cc

  pub alone-fits : ProcessTyped a s.types (length s.balances) q → VariablesDiffer q → Fits a s goes_alone
  alone-fits goes_on differ = record {
    olds = object.Process p ∷ [];
    replaces = alone-replaces;
    numbered = All-nil (λ o. object_number o ≡ s.next_object);
    variables = All-cons HasVariables (object.Process q) [] differ (All-nil HasVariables);
    typed = All-cons Here (object.Process q) [] here (All-nil Here);
    owned = λ name t m found mode some.
        let before = sym (same-type name) ∙ found in
        owned-as_before m s (made s goes_alone) name (counts-same name t m before mode)
        (typed.owned name t m before mode);
    keeps_shared = λ name t found at_s. (counts-same name t mode.S found at_s).shared refl;
    outside = λ name some.
        let (t, found, at_r) = typed.outside name some in
        (t, same-type name ∙ found, at_r, provided-mentioned name t found at_r);
    sections = λ name t found at_l some.
        let section = typed.sections name t (sym (same-type name) ∙ found) at_l in
        record {
          base = section.base;
          leads = alone-leads section.base name section.leads;
          shared = section.shared;
          found = same-type section.base ∙ section.found;
          synchronizing = section.synchronizing;
        };
  }
    where
      Here : Object → Type 0
      Here o = ObjectTyped a (made s goes_alone).types (length s.balances) o

      here : Here (object.Process q)
      here = object-kept a s.types (made s goes_alone).types (length s.balances) (object.Process q)
          (λ name t among found. same-type name ∙ found) goes_on

      provided-mentioned : (name : ℕ) (t : TypeId) → type_of s.types name ≡ Some t → HasMode a.program t mode.R
          → 1 ≤ times mentioned (made s goes_alone).objects name
      provided-mentioned name t found at_r =
          let owned = typed.owned name t mode.R found at_r in
          let counts = counts-same name t mode.R found at_r in
          let provides = counts.provided (λ is. absurd cc) in
          omega (arith, mentioned-sum (made s goes_alone).objects name, owned.0)
