-- A variable is put behind those of the process.
use Rattle.std.proofs.Common.{refl, rules, sym}
use Rattle.nomos_snapshot.specs.GatheredLines.{with_channel}
use Rattle.nomos_snapshot.proofs.GatheringLemmas.{channel-row, variable-taken}
use Rattle.nomos_snapshot.proofs.gathered.Gathering.take_channel.Goals as goal

pub returns : goal.returns
returns c =
    variable-taken c.args.self.now c.in-Some.process c.take_channel.new.self c.in_ok-take_channel.field-0 c.args.v
    (with_channel c.args.v c.args.name) c.requires (sym c.in-Some.ensures.value) c.in_ok-take_channel.ensures
    (search rules)
    (λ r. refl) (channel-row c.args.v c.args.name)
