-- One node more.
use Rattle.std.proofs.Common.{◌≡◌, ◌<◌, ℕ, List, get_or, length, subst, ap, arith, below_more}
use Rattle.std.proofs.lemmas.Option.{slice_get-get_or, get_or_from_slice_get}
use Rattle.nomos_ir.specs.declared.type_node.TypeAt.{TypeAt}
use Rattle.nomos_contract_tests.specs.Fitting.{NodeFits}
use Rattle.nomos_contract_tests.proofs.fitting_nodes.nodes_fit.Goals as goal

-- within a list it does not matter which item stands for those that are not there
same-item : (types : List TypeAt) (i : ℕ) (d e : TypeAt) → i < length types → get_or types i d ≡ get_or types i e
same-item types i d e inside = get_or_from_slice_get types i (get_or types i e) d (slice_get-get_or types i e inside)

pub loop-place-preserved : goal.loop-place-preserved
loop-place-preserved c =
    let lists = c.args.lists.now in
    let types = c.as_slice-types.result.now in
    let place = c.loop-place.place in
    let e = c.index-types-place.result in
    let fits : NodeFits lists place (get_or types place e).node = c.in_ok-node_fits.ensures c.if-not-branch.false in
    let P : TypeAt → Type 0 = λ at. NodeFits lists place at.node in
    let here : (d : TypeAt) → P (get_or types place d) =
    λ d. subst P (same-item types place e d c.loop-place-test.true) fits in
    λ t d inside.
    below_more (λ n. (x : TypeAt) → NodeFits lists n (get_or types n x).node) place
    (λ k before x. c.loop-place.invariant k x before) here t inside d

pub returns : goal.returns
returns c =
    let lists = c.args.lists.now in
    λ yes place d inside.
    let P : List TypeAt → Type 0 = λ types. NodeFits lists place (get_or types place d).node in
    let same : length c.as_slice-types.result.now ≡ length lists.types = ap length c.as_slice-types.ensures in
    subst P c.as_slice-types.ensures (c.loop-place.invariant place d (omega arith))
