use Rattle.std.proofs.Common.{rules, ◌≡◌, ◌∙◌, Some, slice_index_or, slice_set, sym, ap, arith, map, subst}
use Rattle.std.proofs.Math.Seq.{set-set}
use Rattle.std.proofs.lemmas.List.Elements.{All-set}
use Rattle.std.specs.List.{position}
use Rattle.nomos_machine.specs.Objects.{object_number}
use Rattle.nomos_machine.specs.declared.object.Object.TheVariants as object
use Rattle.nomos_plain.specs.Parts.{HasRoom, StandInOrder, has_number, hole, object_in}
use Rattle.nomos_plain.specs.declared.plain_object.PlainObject.{PlainObject}
use Rattle.nomos_plain.specs.declared.plain_object.PlainObject.TheVariants as plain
use Rattle.nomos_plain.proofs.PlaceLemmas.{place_number, process-none, process-there, process-stands, message-there}
use Rattle.nomos_plain.proofs.SoundLemmas.{message_has_room, placed_in_order}
use Rattle.nomos_plain.proofs.plain_parts.PlainParts.take.Goals as goal

pub returns-in-Process-clause-found : goal.returns-in-Process-clause-found
returns-in-Process-clause-found c p there =
    process-there c.args.pid c.in_ok-at.at c.args.self.now.objects.items p (search rules) c.index_mut.result.now
    c.in-Process.process (search rules) there

pub returns-in_err-at-clause-some : goal.returns-in_err-at-clause-some
returns-in_err-at-clause-some c p there =
    absurd (process-none c.args.pid c.args.self.now.objects.items p (search rules) there)

pub returns-in-Process-clause-pid : goal.returns-in-Process-clause-pid
returns-in-Process-clause-pid c =
    let is : slice_index_or c.args.self.now.objects.items c.in_ok-at.at c.index_mut.result.now
    ≡ plain.Process c.in-Process.process = search rules in
    ap (λ (o : PlainObject). object_number (object_in o)) (sym is)
    ∙ place_number c.args.pid c.in_ok-at.at c.args.self.now.objects.items (search rules) c.index_mut.result.now

pub returns-in-Message-clause-some : goal.returns-in-Message-clause-some
returns-in-Message-clause-some c p there =
    absurd (message-there c.args.pid c.in_ok-at.at c.args.self.now.objects.items p (search rules)
    c.index_mut.result.now c.in-Message.message (search rules) there)

pub returns-in-Process-clause-there : goal.returns-in-Process-clause-there
returns-in-Process-clause-there c =
    process-stands c.args.pid c.in_ok-at.at c.args.self.now.objects.items (search rules) c.index_mut.result.now
    c.in-Process.process (search rules)

pub returns-in-Process-clause-sound : goal.returns-in-Process-clause-sound
returns-in-Process-clause-sound c =
    let n = c.args.self.now.room in
    let items = c.args.self.now.objects.items in
    let at = c.in_ok-at.at in
    let new = c.replace.new.dest in
    let found : position (has_number c.args.pid) items ≡ Some at = search rules in
    let is : object_in new ≡ object.Message (hole c.args.pid) = ap object_in c.replace.ensures.after ∙ c.hole.ensures in
    record {
      room = record {
        objects_fit = grind (arith, c.requires.room.objects_fit);
        types_fit = c.requires.room.types_fit;
        each = All-set (HasRoom n) items at new (message_has_room n new (hole c.args.pid) is) c.requires.room.each;
      };
      order = placed_in_order c.args.pid at c.args.self.now.next_object items found c.requires.order new
          c.index_mut.result.now (ap object_number is);
    }

pub returns-in-Message-clause-sound : goal.returns-in-Message-clause-sound
returns-in-Message-clause-sound c =
    let n = c.args.self.now.room in
    let items = c.args.self.now.objects.items in
    let at = c.in_ok-at.at in
    let d = c.index_mut.result.now in
    let taken = c.replace.new.dest in
    let back = plain.Message c.in-Message.message in
    let found : position (has_number c.args.pid) items ≡ Some at = search rules in
    let is : object_in taken ≡ object.Message (hole c.args.pid) = ap object_in c.replace.ensures.after
    ∙ c.hole.ensures in
    let was : slice_index_or items at d ≡ back = search rules in
    let numbered : object_number (object_in back) ≡ c.args.pid =
    ap (λ (o : PlainObject). object_number (object_in o)) (sym was) ∙ place_number c.args.pid at items found d in
    record {
      room = record {
        objects_fit = grind (arith, c.requires.room.objects_fit);
        types_fit = c.requires.room.types_fit;
        each = All-set (HasRoom n) (slice_set items at taken) at back tt
            (All-set (HasRoom n) items at taken (message_has_room n taken (hole c.args.pid) is) c.requires.room.each);
      };
      order = subst (StandInOrder c.args.self.now.next_object) (sym (ap (map object_in) (set-set items at taken back)))
          (placed_in_order c.args.pid at c.args.self.now.next_object items found c.requires.order back d numbered);
    }
