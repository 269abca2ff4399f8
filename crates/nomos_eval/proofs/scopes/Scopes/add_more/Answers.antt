-- One more cell is one more list.
use Rattle.std.proofs.Common.{◌∙◌, List, sym, subst, arith}
use Rattle.nomos_ir.specs.declared.ids.VarId.{VarId}
use Rattle.nomos_eval.specs.declared.datum.Datum.{Datum}
use Rattle.nomos_eval.specs.mirror.EvalScope.{Leads}
use Rattle.nomos_eval.specs.declared.scopes.Binding.TheVariants as binding
use Rattle.nomos_eval.proofs.ScopeLemmas.{are-pushed, view-push, long}
use Rattle.nomos_eval.proofs.scopes.Scopes.add_more.Goals as goal

pub invariant_of-self-2 : goal.invariant_of-self-2
invariant_of-self-2 c =
    rw
    c.in_ok-push.ensures.items
    (are-pushed c.self.inside.cells.items (binding.More c.args.v c.args.value c.args.others c.leap_from-leap.result)
    c.self.invariant
    (omega (arith, long c.self.inside.cells.items c.args.self.now c.self.view_is c.self.invariant, c.requires))
    (let P : List (List (VarId × Datum)) → Type 0 = λ l. Leads l c.args.v c.args.others c.leap_from-leap.result in
    subst P (sym c.self.view_is) c.leap_from-leap.ensures))

pub returns : goal.returns
returns c = (
  c.len-place.ensures ∙ c.self.inside.cells.ok.0
      ∙ long c.self.inside.cells.items c.args.self.now c.self.view_is c.self.invariant,
  view-push c.self.inside.cells.items c.args.self.now c.self.view_is c.self.invariant c.push.new.self.items
      (binding.More c.args.v c.args.value c.args.others c.leap_from-leap.result) c.in_ok-push.ensures.items,
)
