-- A state whose processes stand at their places is typed exactly where its other parts are.
use Rattle.std.proofs.Common.{◌≡◌, ◌<◌, ◌↔◌, ℕ, List, length, Contains, Some, subst, arith}
use Rattle.std.proofs.lemmas.List.Elements.{All-contains, All-weaker}
use Rattle.nomos_contents.specs.Data.{IsOrdered, state_of}
use Rattle.nomos_contents.specs.declared.data.StateData.{StateData}
use Rattle.nomos_ir.specs.declared.ids.TypeId.{TypeId}
use Rattle.nomos_machine.specs.Matching.{ProcessTyped}
use Rattle.nomos_machine.specs.State.{NameTypes}
use Rattle.nomos_machine.specs.TypedState.{InSection, IsTyped, LeadsToBase, ObjectTyped, at_base, further}
use Rattle.nomos_machine.specs.declared.object.Object.{Object}
use Rattle.nomos_machine.specs.declared.object.Object.TheVariants as object
use Rattle.nomos_machine.specs.declared.object.Process.{Process}
use Rattle.nomos_types.proofs.ModeLaws.{mode-in_range}
use Rattle.nomos_types.specs.Acceptance.{Acceptance, IsAccepted}
use Rattle.nomos_types.specs.Modes.{HasMode}
use Rattle.nomos_typed.specs.Founded.{IsFounded, ObjectFounded}
use Rattle.nomos_typed.specs.Messages.{IsMessageTyped}
use Rattle.nomos_typed.specs.StateTyped.{AreProcessesPlaced, ArePartsTyped, IsPlaced, ObjectPlaced}

module _ (a : Acceptance) (types : NameTypes) (accounts : ℕ) where
  process-founded : (p : Process) → ProcessTyped a types accounts p → IsFounded a.program types accounts p
  process-founded p typed =
      let offers = typed.matches.offers in
      record {
        offered = record { own = offers.own; found = offers.found; mode = typed.offered offers.own offers.found };
        has_base = typed.has_base;
        payer = typed.payer;
      }

  process-whole : (p : Process) → IsFounded a.program types accounts p → IsPlaced a types p
      → ProcessTyped a types accounts p
  process-whole p founded placed = record {
    place = placed.place;
    is_place = placed.is_place;
    matches = placed.matches;
    covered = placed.covered;
    derives = placed.derives;
    payer = founded.payer;
    offered =
        λ t found.
        let offered = founded.offered in
        let own = offered.found in
        let same : offered.own ≡ t = cc in
        subst (λ (u : TypeId). HasMode a.program u p.mode) same offered.mode;
    has_base = founded.has_base;
  }

  object-founded : (o : Object) → ObjectTyped a types accounts o → ObjectFounded a.program types accounts o
  object-founded (object.Process p) typed = process-founded p typed
  object-founded (object.Message m) typed = tt

  object-message : (o : Object) → ObjectTyped a types accounts o → IsMessageTyped a types o
  object-message (object.Process p) typed = tt
  object-message (object.Message m) typed = typed

  object-whole : (o : Object) → ObjectFounded a.program types accounts o → IsMessageTyped a types o
      → ObjectPlaced a types o → ObjectTyped a types accounts o
  object-whole (object.Process p) founded message placed = process-whole p founded placed
  object-whole (object.Message m) founded message placed = message

-- where one comes to a base there is a process that has it
based-somewhere : (objects : List Object) (base name : ℕ) → LeadsToBase objects base name
    → (p : Process) × Contains objects (object.Process p) × (p.base ≡ Some base)
based-somewhere objects base _ (at_base p there is_l is_base) = (p, there, is_base)
based-somewhere objects base _ (further m name onward there provides ends leads) =
    based-somewhere objects base onward leads

module _ (a : Acceptance) (accepted : IsAccepted a) (d : StateData) (ordered : IsOrdered d) where
  abbrev Whole : Type 0
  Whole = IsTyped a (state_of d)

  -- the type of a base is one of the program's
  base-inside : Whole → (name : ℕ) (t : TypeId) → (section : InSection a (state_of d) name t)
      → section.shared.0 < length a.program.types
  base-inside typed name t section =
      let (p, there, is) = based-somewhere d.objects section.base name section.leads in
      let whole : ProcessTyped a d.types (length d.balances) p =
      All-contains (ObjectTyped a d.types (length d.balances)) d.objects (object.Process p) typed.each there in
      let (u, found, has) = whole.has_base.shared section.base is in
      let own = section.found in
      let same : u ≡ section.shared = cc in
      subst (λ (w : TypeId). w.0 < length a.program.types) same (mode-in_range accepted.is_program has)

  typed-parts : Whole → ArePartsTyped a d
  typed-parts typed = record {
    mentioned = typed.numbered.typed;
    owned = typed.owned;
    founded = record {
      next = typed.numbered.next;
      over = typed.numbered.over;
      founded =
          All-weaker (ObjectTyped a d.types (length d.balances)) (ObjectFounded a.program d.types (length d.balances))
          (object-founded a d.types (length d.balances)) d.objects typed.each;
    };
    messages =
        All-weaker (ObjectTyped a d.types (length d.balances)) (IsMessageTyped a d.types)
        (object-message a d.types (length d.balances)) d.objects typed.each;
    sections =
        λ name t found has.
        let section = typed.sections name t found has in
        record { section = section; within = base-inside typed name t section };
  }

  parts-typed : AreProcessesPlaced a d → ArePartsTyped a d → Whole
  parts-typed placed parts = record {
    numbered = record {
      ascending = ordered.objects;
      over = parts.founded.over;
      below = ordered.below;
      next = parts.founded.next;
      table = ordered.table;
      names = ordered.names;
      typed = parts.mentioned;
      variables = ordered.variables;
    };
    owned = parts.owned;
    outside = λ name some. absurd (omega (arith, some));
    each =
        λ k e inside.
        object-whole a d.types (length d.balances) _ (parts.founded.founded k e inside) (parts.messages k e inside)
        (placed k e inside);
    sections = λ name t found has. (parts.sections name t found has).section;
  }

  pub parts-exact : AreProcessesPlaced a d → ArePartsTyped a d ↔ Whole
  parts-exact placed = (parts-typed placed, typed-parts)
