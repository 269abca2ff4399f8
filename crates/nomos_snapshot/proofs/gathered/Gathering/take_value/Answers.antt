-- A variable is put behind those of the process.
use Rattle.std.proofs.Common.{refl, rules, sym}
use Rattle.nomos_snapshot.specs.GatheredLines.{with_value}
use Rattle.nomos_snapshot.proofs.GatheringLemmas.{value-row, variable-taken}
use Rattle.nomos_snapshot.proofs.gathered.Gathering.take_value.Goals as goal

pub returns : goal.returns
returns c =
    variable-taken c.args.self.now c.in-Some.process c.take_value.new.self c.in_ok-take_value.field-0 c.args.v
    (with_value c.args.v c.args.value) c.requires (sym c.in-Some.ensures.value) c.in_ok-take_value.ensures
    (search rules)
    (λ r. refl) (value-row c.args.v c.args.value)
