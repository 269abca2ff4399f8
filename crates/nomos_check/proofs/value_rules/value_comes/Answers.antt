use Rattle.nomos_check.specs.mirror.StandingData.{shape_of}
use Rattle.nomos_check.proofs.PremiseLemmas.{value-received}
use Rattle.nomos_check.proofs.value_rules.value_comes.Goals as goal

pub returns : goal.returns
returns c =
    value-received c.args.program.now (shape_of c.args.now.now) c.args.c c.args.v _
    (c.is_free.ensures.0 c.if-not-is_free.false) c.receives_value.ensures
