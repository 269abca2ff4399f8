use Rattle.std.proofs.Common.{◌++◌, ◌∷◌, ℕ, [], sym, ap, ◌∙◌, arith}
use Rattle.nomos_machine.specs.declared.object.Object.TheVariants as object
use Rattle.nomos_machine.specs.declared.object.Payload.{Payload}
use Rattle.nomos_changes.specs.SmallChanges.{with_object}
use Rattle.nomos_state.specs.Indexed.{Indexed}
use Rattle.nomos_state.specs.Objects.{ListRow}
use Rattle.nomos_state.specs.declared.kept.KeptMessage.{KeptMessage}
use Rattle.nomos_state.proofs.ComingLemmas.{message-indexed, message-state}
use Rattle.nomos_state.proofs.inside.Inside.come_message.Goals as goal

pub invariant_of-self : goal.invariant_of-self
invariant_of-self c =
    let s = c.self.inside in
    let m = c.args.message in
    let k : KeptMessage = record {
      to_client = m.to_client;
      from = m.from;
      next = m.next;
      brings = c.in_ok-brings.brings;
      purse = c.of.result;
    } in
    let next = c.requires.number ∙ sym (ap (λ (i : Indexed). i.state.next_object) c.self.view_is) in
    let list_rows = c.push-3.ensures.now
    ∙ ap (λ (row : ListRow). s.contents.lists.now ++ row ∷ []) c.new.ensures.items in
    message-indexed s c.self.invariant m.number k c.in_ok-brings.row.items c.push.new.self c.push-2.new.self
    c.push-3.new.self c.push.ensures.marked c.push-2.ensures.marked c.push-3.ensures.marked next
    c.in_ok-brings.ensures.row
    c.push.ensures.now c.push-2.ensures.now list_rows
    (record {
      objects = omega (arith, c.push.ensures.room, c.self.invariant.has_room.objects);
      values = omega (arith, c.push-2.ensures.room, c.self.invariant.has_room.values);
      its_lists = omega (arith, c.push-3.ensures.room, c.self.invariant.has_room.its_lists);
      channels = omega (arith, c.self.invariant.has_room.channels);
      names = omega (arith, c.self.invariant.has_room.names);
    })

pub returns-clause-ok : goal.returns-clause-ok
returns-clause-ok c =
    let s = c.self.inside in
    let m = c.args.message in
    let k : KeptMessage = record {
      to_client = m.to_client;
      from = m.from;
      next = m.next;
      brings = c.in_ok-brings.brings;
      purse = c.of.result;
    } in
    let next = c.requires.number ∙ sym (ap (λ (i : Indexed). i.state.next_object) c.self.view_is) in
    let list_rows = c.push-3.ensures.now
    ∙ ap (λ (row : ListRow). s.contents.lists.now ++ row ∷ []) c.new.ensures.items in
    let payload = c.in_ok-brings.ensures.payload in
    message-state s c.self.invariant m.number k c.in_ok-brings.row.items c.push.new.self c.push-2.new.self
    c.push-3.new.self c.push.ensures.marked c.push-2.ensures.marked c.push-3.ensures.marked next
    c.in_ok-brings.ensures.row
    c.push.ensures.now c.push-2.ensures.now list_rows m
    (ap (λ (brought : Payload). object.Message (record m { payload = brought; purse = c.of.result })) payload
    ∙ ap (λ (dths : ℕ). object.Message (record m { purse = dths })) c.of.ensures)
    ∙ ap (λ (i : Indexed). with_object (object.Message m) i.state) c.self.view_is
