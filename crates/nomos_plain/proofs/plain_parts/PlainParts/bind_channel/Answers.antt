use Rattle.std.proofs.Common.{◌∙◌, ◌-◌, refl, arith}
use Rattle.nomos_machine.specs.declared.object.Object.TheVariants as object
use Rattle.nomos_machine.specs.Revised.{with_channel}
use Rattle.nomos_plain.specs.Parts.{process_in, state_of}
use Rattle.nomos_plain.proofs.SoundLemmas.{room_below}
use Rattle.nomos_plain.proofs.TakeLemmas.{becomes-taken}
use Rattle.nomos_plain.proofs.plain_parts.PlainParts.bind_channel.Goals as goal

pub returns-clause-state : goal.returns-clause-state
returns-clause-state c p there =
    let new = c.bind_channel.new.self in
    becomes-taken (state_of c.args.self.now) (state_of c.take.new.self) (state_of c.put.new.self) c.args.pid new.pid
    (object.Process (process_in new)) c.in-Some.ensures.state c.put.ensures.state
    (c.bind_channel.ensures.pid ∙ c.in-Some.ensures.pid) (with_channel c.args.v c.args.name)
    (process_in c.in-Some.process) p (process_in new)
    (c.in-Some.ensures.found p there) c.bind_channel.ensures.state refl

pub bind_channel-requires : goal.bind_channel-requires
bind_channel-requires c =
    omega (arith, c.take.ensures.channels c.in-Some.process c.in-Some.is, c.requires.room)

pub put-requires-clause-sound : goal.put-requires-clause-sound
put-requires-clause-sound c = record {
  room = room_below (c.take.new.self.room - 1) c.take.new.self.room _ _ (omega arith) c.take.ensures.sound.room;
  order = c.take.ensures.sound.order;
}

pub put-requires-clause-channels : goal.put-requires-clause-channels
put-requires-clause-channels c =
    omega (
      arith,
      c.take.ensures.channels c.in-Some.process c.in-Some.is,
      c.take.ensures.room,
      c.bind_channel.ensures.len,
      c.bind_channel.ensures.capacity,
      c.requires.room,
    )
