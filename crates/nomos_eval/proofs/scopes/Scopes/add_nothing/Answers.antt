-- One more cell is one more list.
use Rattle.std.proofs.Common.{◌∙◌}
use Rattle.nomos_eval.specs.declared.scopes.Binding.TheVariants as binding
use Rattle.nomos_eval.proofs.ScopeLemmas.{are-pushed, view-push, long}
use Rattle.nomos_eval.proofs.scopes.Scopes.add_nothing.Goals as goal

pub invariant_of-self-2 : goal.invariant_of-self-2
invariant_of-self-2 c =
    rw c.in_ok-push.ensures.items (are-pushed c.self.inside.cells.items binding.Nothing c.self.invariant tt tt)

pub returns : goal.returns
returns c = (
  c.len-place.ensures ∙ c.self.inside.cells.ok.0
      ∙ long c.self.inside.cells.items c.args.self.now c.self.view_is c.self.invariant,
  view-push c.self.inside.cells.items c.args.self.now c.self.view_is c.self.invariant c.push.new.self.items
      binding.Nothing c.in_ok-push.ensures.items,
)
