use Rattle.std.proofs.Common.{refl}
use Rattle.nomos_machine.specs.declared.object.Object.TheVariants as object
use Rattle.nomos_changes.specs.SmallChanges.{with_values}
use Rattle.nomos_plain.specs.Parts.{process_in, state_of}
use Rattle.nomos_plain.proofs.TakeLemmas.{becomes-taken}
use Rattle.nomos_plain.proofs.plain_parts.PlainParts.put_values.Goals as goal

pub returns-clause-state : goal.returns-clause-state
returns-clause-state c p there =
    let k = process_in c.in-Some.process in
    let f = with_values c.args.values.items in
    becomes-taken (state_of c.args.self.now) (state_of c.take.new.self) (state_of c.put.new.self) c.args.pid
    c.in-Some.process.pid (object.Process (f k)) c.in-Some.ensures.state c.put.ensures.state c.in-Some.ensures.pid f k p
    (f k) (c.in-Some.ensures.found p there) refl refl
