use Rattle.nomos_equality.proofs.BitLemmas.{has_bit-with}
use Rattle.nomos_equality.proofs.pair_table.with_bit.Goals as goal

pub returns : goal.returns
returns c = λ i below is. has_bit-with c.args.word c.args.at i c.requires is
