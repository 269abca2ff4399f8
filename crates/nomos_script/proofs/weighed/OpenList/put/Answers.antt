-- One more value weighs one more than the value.
use Rattle.std.proofs.Common.{◌≡◌, ◌∷◌, ◌++◌, [], arith, map, refl}
use Rattle.std.proofs.lemmas.List.{map_push}
use Rattle.nomos_ir.specs.ValueNode.{value_of}
use Rattle.nomos_script.proofs.WeightLemmas.{weight-push}
use Rattle.nomos_script.proofs.weighed.OpenList.put.Goals as goal

pub returns-then-weight-gt-MAX_WEIGHT-clause-none : goal.returns-then-weight-gt-MAX_WEIGHT-clause-none
returns-then-weight-gt-MAX_WEIGHT-clause-none c = λ _. grind (arith, weight-push)

pub invariant_of-self-2 : goal.invariant_of-self-2
invariant_of-self-2 c =
    let grown : map value_of c.put.new.items.items ≡ c.args.self.now ++ c.args.value ∷ [] =
    rw (c.in_ok-put.ensures.put, map_push, c.into_node.ensures, c.self.view_is) refl in
    let sum = weight-push c.args.self.now c.args.value in
    let own = rw c.self.view_is at c.self.invariant.0 in
    let more = rw c.value.view_is at c.value.invariant.0 in
    (rw grown (omega (arith, sum, own, more)), c.if-weight-gt-MAX_WEIGHT.false)

pub returns-clause-light : goal.returns-clause-light
returns-clause-light c = grind (arith, weight-push)
