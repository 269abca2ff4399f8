use Rattle.std.proofs.Common.{rules, ◌≡◌, Some, arith, refl}
use Rattle.std.proofs.lemmas.List.Elements.{All-set}
use Rattle.std.specs.List.{position}
use Rattle.nomos_plain.specs.Parts.{HasRoom, has_number}
use Rattle.nomos_plain.specs.declared.plain_object.PlainObject.TheVariants as plain
use Rattle.nomos_plain.proofs.SoundLemmas.{placed_in_order}
use Rattle.nomos_plain.proofs.plain_parts.PlainParts.put.Goals as goal

pub returns-in-Some-clause-sound : goal.returns-in-Some-clause-sound
returns-in-Some-clause-sound c =
    let n = c.args.self.now.room in
    let items = c.args.self.now.objects.items in
    let new = plain.Process c.args.process in
    let found : position (has_number c.args.process.pid) items ≡ Some c.in-Some.at = search rules in
    record {
      room = record {
        objects_fit = grind (arith, c.requires.sound.room.objects_fit);
        types_fit = c.requires.sound.room.types_fit;
        each = All-set (HasRoom n) items c.in-Some.at new c.requires.channels c.requires.sound.room.each;
      };
      order = placed_in_order c.args.process.pid c.in-Some.at c.args.self.now.next_object items found
          c.requires.sound.order new new refl;
    }
