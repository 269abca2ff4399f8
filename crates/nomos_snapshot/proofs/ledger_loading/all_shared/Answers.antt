-- Contract by contract.
use Rattle.std.proofs.Common.{ℕ, List, arith}
use Rattle.nomos_snapshot.proofs.LoadLemmas.{asked-first, contract-not, never, shared-all, shared-more, shared-none}
use Rattle.nomos_snapshot.proofs.ledger_loading.all_shared.Goals as goal

pub loop-place-init : goal.loop-place-init
loop-place-init g c = shared-none c.args.contracts.now

pub returns-then-not-is_shared : goal.returns-then-not-is_shared
returns-then-not-is_shared g c =
    let pair : List ℕ × ℕ = (c.in-Some.contract.name.now, c.in-Some.contract.shared) in
    never (contract-not c.args.contracts.now c.loop-place.place pair c.in-Some.ensures.contract
    (asked-first c.is_shared.result c.is_shared.ensures c.if-not-is_shared.true))

pub loop-place-preserved : goal.loop-place-preserved
loop-place-preserved g c =
    let pair : List ℕ × ℕ = (c.in-Some.contract.name.now, c.in-Some.contract.shared) in
    shared-more c.args.contracts.now c.loop-place.place pair c.in-Some.ensures.contract
    (c.is_shared.ensures.0 c.if-not-is_shared.false) c.loop-place.invariant

pub returns : goal.returns
returns g c =
    shared-all c.args.contracts.now c.loop-place.place (omega (arith, c.len-place-end.ensures, c.loop-place-test.false))
    c.loop-place.invariant
