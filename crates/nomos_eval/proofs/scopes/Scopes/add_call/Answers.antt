-- One more cell is one more list.
use Rattle.std.proofs.Common.{◌++◌, ◌∷◌, [], ◌∙◌, ap}
use Rattle.nomos_eval.specs.declared.scopes.Binding.TheVariants as binding
use Rattle.nomos_eval.proofs.ScopeLemmas.{are-pushed, view-push, long}
use Rattle.nomos_eval.proofs.scopes.Scopes.add_call.Goals as goal

pub invariant_of-self-2 : goal.invariant_of-self-2
invariant_of-self-2 c =
    rw c.in_ok-push.ensures.items
    (are-pushed c.self.inside.cells.items (binding.Call c.in_ok-frame.frame) c.self.invariant tt tt)

pub returns : goal.returns
returns c = (
  c.len-place.ensures ∙ c.self.inside.cells.ok.0
      ∙ long c.self.inside.cells.items c.args.self.now c.self.view_is c.self.invariant,
  view-push c.self.inside.cells.items c.args.self.now c.self.view_is c.self.invariant c.push.new.self.items
      (binding.Call c.in_ok-frame.frame) c.in_ok-push.ensures.items
      ∙ ap (λ f. c.args.self.now ++ f ∷ []) c.in_ok-frame.ensures,
)
