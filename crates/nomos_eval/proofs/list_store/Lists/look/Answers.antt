-- A cell has the parts of its list.
use Rattle.std.proofs.Common.{arith}
use Rattle.nomos_eval.proofs.ListLemmas.{part_at, long}
use Rattle.nomos_eval.proofs.list_store.Lists.look.Goals as goal

pub index-requires : goal.index-requires
index-requires c =
    omega (
      arith,
      long c.self.inside.cells.items c.args.self.now c.self.view_is c.self.invariant,
      c.self.inside.cells.ok.0,
    )

pub returns : goal.returns
returns c =
    part_at c.self.inside.cells.items c.args.self.now c.self.view_is c.self.invariant c.args.place c.index.result.now
    c.requires c.index.ensures
