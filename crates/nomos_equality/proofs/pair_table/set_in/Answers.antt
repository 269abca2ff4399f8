use Rattle.nomos_equality.proofs.BitLemmas.{sets-one}
use Rattle.nomos_equality.proofs.pair_table.set_in.Goals as goal

pub returns : goal.returns
returns c = sets-one c.args.row.now c.args.right c.with_bit.result c.requires c.with_bit.ensures
