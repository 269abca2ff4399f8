-- One more cell is one more list.
use Rattle.std.proofs.Common.{◌∙◌}
use Rattle.nomos_eval.specs.declared.list_store.StoredList.TheVariants as cell
use Rattle.nomos_eval.proofs.ListLemmas.{are-more, view-push, long}
use Rattle.nomos_eval.proofs.list_store.Lists.add_more.Goals as goal

pub invariant_of-self-2 : goal.invariant_of-self-2
invariant_of-self-2 c = rw c.in_ok-push.ensures.items
    (are-more c.self.inside.cells.items c.args.self.now c.self.view_is c.self.invariant c.args.head c.args.tail
    c.min.result c.weight.result c.weight-2.result c.requires.head c.requires.tail c.weight.ensures
    c.weight-2.ensures c.min.ensures)

pub returns : goal.returns
returns c = (
  c.len-place.ensures ∙ c.self.inside.cells.ok.0
      ∙ long c.self.inside.cells.items c.args.self.now c.self.view_is c.self.invariant,
  view-push c.self.inside.cells.items c.args.self.now c.self.view_is c.self.invariant c.push.new.self.items
      (cell.More c.args.head c.args.tail c.min.result) c.in_ok-push.ensures.items,
)
