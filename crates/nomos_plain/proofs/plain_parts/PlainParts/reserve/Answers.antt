use Rattle.std.proofs.Common.{◌∙◌, All, ap, arith, map, subst, sym}
use Rattle.nomos_plain.specs.Parts.{HasRoom, StandInOrder, object_in}
use Rattle.nomos_plain.proofs.plain_parts.PlainParts.reserve.Goals as goal

pub returns-clause-sound : goal.returns-clause-sound
returns-clause-sound c =
    let n = c.args.self.now.room in
    record {
      room = record {
        objects_fit = grind (arith, c.requires.room.objects_fit);
        types_fit = grind (arith, c.requires.room.types_fit);
        each = c.reserve_channels.ensures.room n
            (subst (All (HasRoom n)) (sym c.reserve.ensures.items) c.requires.room.each);
      };
      order = subst (StandInOrder c.args.self.now.next_object)
          (sym (c.reserve_channels.ensures.objects ∙ ap (map object_in) c.reserve.ensures.items)) c.requires.order;
    }
