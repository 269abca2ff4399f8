use Rattle.std.proofs.Common.{rules, ◌≡◌, ◌∙◌, suc, All, None, Some, ap, arith, drop, map, subst, sym, take}
use Rattle.std.proofs.lemmas.List.Elements.{All-append, All-drop, All-take}
use Rattle.std.specs.List.{position}
use Rattle.nomos_plain.specs.Parts.{HasRoom, StandInOrder, has_number, object_in, state_of}
use Rattle.nomos_plain.proofs.PlaceLemmas.{place_removed, put_nowhere}
use Rattle.nomos_plain.proofs.SoundLemmas.{removed_in_order}
use Rattle.nomos_plain.proofs.TakeLemmas.{with_objects}
use Rattle.nomos_plain.proofs.plain_parts.PlainParts.leave.Goals as goal

pub returns-in-Some-clause-state : goal.returns-in-Some-clause-state
returns-in-Some-clause-state c =
    let found : position (has_number c.args.number) c.args.self.now.objects.items ≡ Some c.in-Some.at = search rules in
    ap (λ os. with_objects os (state_of c.args.self.now))
    (ap (map object_in) c.remove-object.ensures.items
    ∙ place_removed c.args.number c.in-Some.at c.args.self.now.objects.items found)

pub returns-in-Some-clause-sound : goal.returns-in-Some-clause-sound
returns-in-Some-clause-sound c =
    let n = c.args.self.now.room in
    let items = c.args.self.now.objects.items in
    let at = c.in-Some.at in
    let found : position (has_number c.args.number) items ≡ Some at = search rules in
    record {
      room = record {
        objects_fit = grind (arith, c.requires.room.objects_fit);
        types_fit = c.requires.room.types_fit;
        each = subst (All (HasRoom n)) (sym c.remove-object.ensures.items)
            (All-append (HasRoom n) (take at items) (drop (suc at) items)
            (All-take (HasRoom n) at items c.requires.room.each)
            (All-drop (HasRoom n) (suc at) items c.requires.room.each));
      };
      order = subst (StandInOrder c.args.self.now.next_object) (sym (ap (map object_in) c.remove-object.ensures.items))
          (removed_in_order c.args.number at c.args.self.now.next_object items found c.requires.order);
    }

pub returns-in_default-clause-state : goal.returns-in_default-clause-state
returns-in_default-clause-state c =
    ap (λ os. with_objects os (state_of c.args.self.now))
    (put_nowhere c.args.number None c.args.self.now.objects.items (search rules))
