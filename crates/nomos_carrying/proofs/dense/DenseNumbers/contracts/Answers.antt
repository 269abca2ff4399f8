-- No two contracts have one name, so each is put at the end.
use Rattle.std.proofs.Common.{◌∙◌, ◌++◌, ◌∷◌, [], ℕ, List, sym}
use Rattle.nomos_legal.specs.Ledger.{shared_name}
use Rattle.nomos_carrying.specs.mirror.Dense.{place_in}
use Rattle.nomos_carrying.proofs.DenseLemmas.{contract-more, contract-new}
use Rattle.nomos_carrying.proofs.dense.DenseNumbers.contracts.Goals as goal

pub add-requires : goal.add-requires
add-requires c =
    let pair : List ℕ × ℕ = (c.in-Some.contract.name.now, c.in-Some.contract.shared) in
    let is = c.of_vec-name.ensures ∙ c.in_ok-from_slice.ensures.items ∙ c.as_bytes.ensures.value in
    (λ i. shared_name (c.loop-place.invariant i) (is i))
    ∙ contract-new (place_in c.args.self.now.names) c.args.contracts.now c.loop-place.place pair c.requires
    c.in-Some.ensures.contract

pub loop-place-preserved : goal.loop-place-preserved
loop-place-preserved c =
    let pair : List ℕ × ℕ = (c.in-Some.contract.name.now, c.in-Some.contract.shared) in
    let is = c.of_vec-name.ensures ∙ c.in_ok-from_slice.ensures.items ∙ c.as_bytes.ensures.value in
    c.in_ok-add.ensures.ok
    ∙ (λ i. c.loop-place.invariant i ++ (is i, c.name-in-loop-place.ensures i) ∷ [])
    ∙ sym (contract-more (place_in c.args.self.now.names) c.args.contracts.now c.loop-place.place pair
    c.in-Some.ensures.contract)
