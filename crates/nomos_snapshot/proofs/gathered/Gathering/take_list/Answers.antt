-- A variable is put behind those of the process.
use Rattle.std.proofs.Common.{refl, rules, sym}
use Rattle.nomos_snapshot.specs.GatheredLines.{with_list}
use Rattle.nomos_snapshot.proofs.GatheringLemmas.{list-row, variable-taken}
use Rattle.nomos_snapshot.proofs.gathered.Gathering.take_list.Goals as goal

pub returns : goal.returns
returns c =
    variable-taken c.args.self.now c.in-Some.process c.take_list.new.self c.in_ok-take_list.field-0 c.args.v
    (with_list c.args.v c.args.amount c.args.items) c.requires (sym c.in-Some.ensures.value) c.in_ok-take_list.ensures
    (search rules)
    (λ r. refl) (list-row c.args.v c.args.amount c.args.items)
