use Rattle.std.proofs.Common.{ap, refl}
use Rattle.nomos_machine.specs.declared.object.Object.TheVariants as object
use Rattle.nomos_machine.specs.declared.object.Process.{Process}
use Rattle.nomos_changes.specs.SmallChanges.{with_channels}
use Rattle.nomos_plain.specs.Parts.{process_in, state_of}
use Rattle.nomos_plain.proofs.TakeLemmas.{becomes-taken}
use Rattle.nomos_plain.proofs.plain_parts.PlainParts.replace_channels.Goals as goal

pub returns-clause-ok : goal.returns-clause-ok
returns-clause-ok c p there =
    let k = process_in c.in-Some.process in
    let q : Process = record k { channels = c.in_ok-made.made.items } in
    becomes-taken (state_of c.args.self.now) (state_of c.take.new.self) (state_of c.put.new.self) c.args.pid
    c.in-Some.process.pid (object.Process q) c.in-Some.ensures.state c.put.ensures.state c.in-Some.ensures.pid
    (with_channels c.args.channels.items) k p q (c.in-Some.ensures.found p there)
    (ap (λ channels. record k { channels = channels }) c.in_ok-made.ensures.items) refl
