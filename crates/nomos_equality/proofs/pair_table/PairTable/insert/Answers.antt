use Rattle.std.proofs.Common.{arith}
use Rattle.nomos_equality.proofs.BitLemmas.{fewer-words, among-more}
use Rattle.nomos_equality.proofs.pair_table.PairTable.insert.Goals as goal

pub set-requires : goal.set-requires
set-requires c =
    fewer-words c.make_room.new.rows.items c.args.left.0 _ c.max-words.result (omega (arith, c.max-words.ensures))
    c.in_ok-make_room.ensures.there

pub invariant_of-self-2 : goal.invariant_of-self-2
invariant_of-self-2 c =
    among-more c.self.inside.rows.items c.make_room.new.rows.items c.set.new.rows.items _ _ c.args.left c.args.right
    c.self.invariant c.make_room.ensures.same c.set.ensures c.then.ensures
