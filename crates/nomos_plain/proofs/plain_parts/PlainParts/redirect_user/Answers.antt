use Rattle.std.proofs.Common.{rules, ◌≡◌, ◌∙◌, None, Some, slice_index_or, ap, subst, sym, arith}
use Rattle.std.proofs.lemmas.List.Elements.{All-set}
use Rattle.std.specs.List.{position}
use Rattle.nomos_machine.specs.Objects.{object_number}
use Rattle.nomos_machine.specs.Revised.{uses_instead}
use Rattle.nomos_plain.specs.Parts.{HasRoom, has_number, object_in, state_of}
use Rattle.nomos_plain.specs.declared.plain_object.PlainObject.{PlainObject}
use Rattle.nomos_plain.proofs.PlaceLemmas.{place_number}
use Rattle.nomos_plain.proofs.RedirectLemmas.{redirected-at, user-placed, uses-numbered}
use Rattle.nomos_plain.proofs.SoundLemmas.{placed_in_order}
use Rattle.nomos_plain.proofs.TakeLemmas.{with_objects}
use Rattle.nomos_plain.proofs.plain_parts.PlainParts.redirect_user.Goals as goal

pub returns-in-Some-place_of-clause-state : goal.returns-in-Some-place_of-clause-state
returns-in-Some-place_of-clause-state c =
    ap (λ os. with_objects os (state_of c.args.self.now))
    (redirected-at c.args.old c.in-Some.number c.args.self.now.objects.items c.requires.order.ascending (search rules)
    c.args.new c.in-Some-place_of.at c.use_instead.new.self c.index_mut.result.now (search rules)
    (c.use_instead.ensures.object
    ∙ ap (λ (o : PlainObject). uses_instead c.args.old c.args.new (object_in o)) c.index_mut.ensures.value))

pub returns-in-Some-place_of-clause-sound : goal.returns-in-Some-place_of-clause-sound
returns-in-Some-place_of-clause-sound c =
    let n = c.args.self.now.room in
    let number = c.in-Some.number in
    let at = c.in-Some-place_of.at in
    let items = c.args.self.now.objects.items in
    let there : HasRoom n c.index_mut.result.now = subst (HasRoom n) (sym c.index_mut.ensures.value)
    (c.requires.room.each at c.index_mut.result.now (search rules)) in
    let found : position (has_number number) items ≡ Some at = search rules in
    let d = c.index_mut.result.now in
    let changed = c.use_instead.ensures.object
    ∙ ap (λ (o : PlainObject). uses_instead c.args.old c.args.new (object_in o)) c.index_mut.ensures.value in
    record {
      room = record {
        objects_fit = grind (arith, c.requires.room.objects_fit);
        types_fit = c.requires.room.types_fit;
        each = All-set (HasRoom n) items at c.use_instead.new.self (c.use_instead.ensures.room n there)
            c.requires.room.each;
      };
      order = placed_in_order number at c.args.self.now.next_object items found c.requires.order
          c.use_instead.new.self d (ap object_number changed ∙ uses-numbered c.args.old c.args.new
          (object_in (slice_index_or items at d))
          ∙ place_number number at items found d);
    }

pub returns-in_default-place_of-clause-state : goal.returns-in_default-place_of-clause-state
returns-in_default-place_of-clause-state c =
    let none : position (has_number c.in-Some.number) c.args.self.now.objects.items ≡ None = search rules in
    absurd (user-placed c.args.old c.in-Some.number c.args.self.now.objects.items c.requires.order.ascending
    (search rules) none)
