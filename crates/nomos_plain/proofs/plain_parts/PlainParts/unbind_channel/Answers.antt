use Rattle.std.proofs.Common.{◌∙◌, refl, arith}
use Rattle.nomos_machine.specs.declared.object.Object.TheVariants as object
use Rattle.nomos_machine.specs.Revised.{without_channel}
use Rattle.nomos_plain.specs.Parts.{process_in, state_of}
use Rattle.nomos_plain.proofs.TakeLemmas.{becomes-taken}
use Rattle.nomos_plain.proofs.plain_parts.PlainParts.unbind_channel.Goals as goal

pub returns-clause-state : goal.returns-clause-state
returns-clause-state c p there =
    let new = c.unbind_channel.new.self in
    becomes-taken (state_of c.args.self.now) (state_of c.take.new.self) (state_of c.put.new.self) c.args.pid new.pid
    (object.Process (process_in new)) c.in-Some.ensures.state c.put.ensures.state
    (c.unbind_channel.ensures.pid ∙ c.in-Some.ensures.pid) (without_channel c.args.v) (process_in c.in-Some.process) p
    (process_in new)
    (c.in-Some.ensures.found p there) c.unbind_channel.ensures.state refl

pub put-requires-clause-channels : goal.put-requires-clause-channels
put-requires-clause-channels c =
    omega (
      arith,
      c.take.ensures.channels c.in-Some.process c.in-Some.is,
      c.take.ensures.room,
      c.unbind_channel.ensures.len,
      c.unbind_channel.ensures.capacity,
    )
