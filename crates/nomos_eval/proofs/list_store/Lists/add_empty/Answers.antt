-- One more cell is one more list.
use Rattle.std.proofs.Common.{◌∙◌}
use Rattle.nomos_eval.specs.declared.list_store.StoredList.TheVariants as cell
use Rattle.nomos_eval.proofs.ListLemmas.{are-pushed, view-push, long}
use Rattle.nomos_eval.proofs.list_store.Lists.add_empty.Goals as goal

pub invariant_of-self-2 : goal.invariant_of-self-2
invariant_of-self-2 c =
    rw c.in_ok-push.ensures.items (are-pushed c.self.inside.cells.items cell.Empty c.self.invariant tt tt)

pub returns : goal.returns
returns c = (
  c.len-place.ensures ∙ c.self.inside.cells.ok.0
      ∙ long c.self.inside.cells.items c.args.self.now c.self.view_is c.self.invariant,
  view-push c.self.inside.cells.items c.args.self.now c.self.view_is c.self.invariant c.push.new.self.items
      cell.Empty c.in_ok-push.ensures.items,
)
