-- A cell notes the weight of its list.
use Rattle.std.proofs.Common.{sym, ap, arith, ◌∙◌}
use Rattle.nomos_ir.specs.Value.{list}
use Rattle.nomos_eval.specs.mirror.EvalTable.{capped}
use Rattle.nomos_eval.proofs.ListLemmas.{empty_at, given_at, weight_at, long}
use Rattle.nomos_eval.proofs.list_store.Lists.list_weight.Goals as goal

pub index-requires : goal.index-requires
index-requires c =
    omega (
      arith,
      long c.self.inside.cells.items c.args.self.now c.self.view_is c.self.invariant,
      c.self.inside.cells.ok.0,
    )

pub returns-in-Empty : goal.returns-in-Empty
returns-in-Empty c =
    sym (ap (λ vs. capped (list vs))
    (empty_at c.self.inside.cells.items c.args.self.now c.self.view_is c.self.invariant c.args.place
    c.index.result.now c.requires c.index.ensures c.in-Empty.is))

pub returns-in-More : goal.returns-in-More
returns-in-More c =
    weight_at c.self.inside.cells.items c.args.self.now c.self.view_is c.self.invariant c.args.place c.index.result.now
    _ _ _ c.requires c.index.ensures c.in-More.is

pub returns-in-Given : goal.returns-in-Given
returns-in-Given c =
    c.weight.ensures
    ∙ sym (ap (λ vs. capped (list vs))
    (given_at c.self.inside.cells.items c.args.self.now c.self.view_is c.self.invariant c.args.place
    c.index.result.now _ c.requires c.index.ensures c.in-Given.is))
