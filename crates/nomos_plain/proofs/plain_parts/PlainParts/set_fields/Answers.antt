use Rattle.std.proofs.Common.{◌∙◌, refl}
use Rattle.nomos_machine.specs.declared.object.Object.TheVariants as object
use Rattle.nomos_changes.specs.SmallChanges.{with_fields}
use Rattle.nomos_plain.specs.Parts.{process_in, state_of}
use Rattle.nomos_plain.proofs.TakeLemmas.{becomes-taken}
use Rattle.nomos_plain.proofs.plain_parts.PlainParts.set_fields.Goals as goal

pub returns-clause-state : goal.returns-clause-state
returns-clause-state c p there =
    let new = c.set_fields.new.self in
    becomes-taken (state_of c.args.self.now) (state_of c.take.new.self) (state_of c.put.new.self) c.args.fields.pid
    new.pid
    (object.Process (process_in new)) c.in-Some.ensures.state c.put.ensures.state
    (c.set_fields.ensures.pid ∙ c.in-Some.ensures.pid) (with_fields c.args.fields) (process_in c.in-Some.process) p
    (process_in new)
    (c.in-Some.ensures.found p there) c.set_fields.ensures.state refl

pub put-requires-clause-channels : goal.put-requires-clause-channels
put-requires-clause-channels c =
    rw c.take.ensures.room
    (rw c.set_fields.ensures.channels (c.take.ensures.channels c.in-Some.process c.in-Some.is))
