use Rattle.std.proofs.Common.{◌≤◌, ◌∙◌, ◌∷◌, ◌-◌, ◌+◌, [], All, ap, arith, map, subst, sym}
use Rattle.std.proofs.lemmas.List.{map-append}
use Rattle.std.proofs.lemmas.List.Elements.{All-append, All-cons, All-nil}
use Rattle.nomos_plain.specs.Parts.{HasRoom, StandInOrder, object_in}
use Rattle.nomos_plain.proofs.SoundLemmas.{come_in_order, each-room-below, room_below}
use Rattle.nomos_plain.proofs.plain_parts.PlainParts.come.Goals as goal

pub returns-clause-sound : goal.returns-clause-sound
returns-clause-sound c =
    let n = c.args.self.now.room in
    let m = n - 1 in
    let less : m ≤ n = omega arith in
    let items = c.args.self.now.objects.items in
    let next = c.args.self.now.next_object in
    let o = c.args.object in
    let left = room_below m n c.args.self.now.objects c.args.self.now.types less c.requires.sound.room in
    record {
      room = record {
        objects_fit = omega (
          arith,
          c.requires.sound.room.objects_fit,
          c.requires.room,
          c.push_reserved.ensures.len,
          c.push_reserved.ensures.capacity,
        );
        types_fit = left.types_fit;
        each = subst (All (HasRoom m)) (sym c.push_reserved.ensures.items)
            (All-append (HasRoom m) items (o ∷ []) left.each
            (All-cons (HasRoom m) o [] (each-room-below m n less o c.requires.channels) (All-nil (HasRoom m))));
      };
      order = subst (StandInOrder (next + 1))
          (sym (ap (map object_in) c.push_reserved.ensures.items ∙ map-append object_in items (o ∷ [])))
          (come_in_order next (object_in o) (map object_in items) c.requires.number c.requires.sound.order);
    }
