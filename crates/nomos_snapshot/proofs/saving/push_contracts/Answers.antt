-- Contract by contract.
use Rattle.std.proofs.Common.{ℕ, ◌+◌, List, [], ◌∷◌, drop, map, refl, ap, subst, sym, arith}
use Rattle.std.proofs.lemmas.Option.{get_or_from_slice_get, slice_get_within}
use Rattle.nomos_legal.specs.Ledger.{Contracts}
use Rattle.nomos_script.specs.ScriptNames.{IsScriptName}
use Rattle.nomos_snapshot.specs.declared.line.SnapshotLine.{SnapshotLine}
use Rattle.nomos_snapshot.specs.declared.line.SnapshotLine.TheVariants as line
use Rattle.nomos_snapshot.proofs.SavingLemmas.{ahead-end, ahead-more, ahead-start, left-found, left-none}
use Rattle.nomos_snapshot.proofs.saving.push_contracts.Goals as goal

abbrev lines : Contracts → List SnapshotLine
lines contracts = map (λ c. line.Contract c.0 c.1) contracts

pub loop-place-init : goal.loop-place-init
loop-place-init g c = λ lists.
    ahead-start c.args.text.now.items (lines c.args.ledger.now.contracts) (lines c.args.ledger.now.contracts) refl

pub push_contract_line-requires : goal.push_contract_line-requires
push_contract_line-requires g c =
    let xs = c.args.ledger.now.contracts in
    let i = c.loop-place.place in
    let pair : List ℕ × ℕ = (c.in-Some.contract.name.now, c.in-Some.contract.shared) in
    let found = sym c.in-Some.ensures.contract in
    subst (λ (e : List ℕ × ℕ). IsScriptName e.0) (get_or_from_slice_get xs i pair pair found)
    (c.in-Some.ensures.names i pair (slice_get_within xs i pair found))

pub loop-place-preserved : goal.loop-place-preserved
loop-place-preserved g c = λ lists.
    let xs = c.args.ledger.now.contracts in
    let i = c.loop-place.place in
    let pair : List ℕ × ℕ = (c.in-Some.contract.name.now, c.in-Some.contract.shared) in
    let pushed = rw c.in_ok-push_contract_line.was at (c.push_contract_line.ensures lists) in
    ahead-more (line.Contract pair.0 pair.1 ∷ []) (lines (drop (i + 1) xs)) (lines (drop i xs))
    (ap lines (left-found xs i pair (sym c.in-Some.ensures.contract))) (c.loop-place.invariant lists) pushed

pub returns : goal.returns
returns g c = λ lists.
    let xs = c.args.ledger.now.contracts in
    let i = c.loop-place.place in
    ahead-end (lines (drop i xs))
    (ap lines (left-none xs i (omega (arith, c.contracts-place-end.ensures, c.loop-place-test.false))))
    (c.loop-place.invariant lists)
