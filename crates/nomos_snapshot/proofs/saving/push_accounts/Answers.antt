-- Account by account.
use Rattle.std.proofs.Common.{ℕ, ◌+◌, List, [], ◌∷◌, drop, get_or, map, zip, refl, ap, sym, ◌∙◌, arith}
use Rattle.nomos_snapshot.specs.declared.line.SnapshotLine.{SnapshotLine}
use Rattle.nomos_snapshot.specs.declared.line.SnapshotLine.TheVariants as line
use Rattle.nomos_snapshot.proofs.SavingLemmas.{accounts-more, ahead-end, ahead-more, ahead-start, left-none, zip-none}
use Rattle.nomos_snapshot.proofs.saving.push_accounts.Goals as goal

abbrev lines : List (List ℕ) → List ℕ → List SnapshotLine
lines names balances = map (λ e. line.Account e.0 e.1) (zip names balances)

pub loop-dths-init : goal.loop-dths-init
loop-dths-init g c = (
  λ lists. ahead-start c.args.text.now.items (lines c.args.ledger.now.accounts c.args.balances.now)
      (lines c.args.ledger.now.accounts c.args.balances.now) refl,
  refl,
)

pub loop-dths-preserved : goal.loop-dths-preserved
loop-dths-preserved g c =
    let names = c.args.ledger.now.accounts in
    let xs = c.args.balances.now in
    let i = c.loop-dths.dths-index in
    let more = accounts-more names xs i c.loop-dths.number c.in-Some.name.now c.loop-dths.invariant.1
    (sym c.in-Some.ensures.account) c.loop-dths-test.true in (
      λ lists.
          let pushed = rw c.in_ok-push_account_line.was at (c.push_account_line.ensures lists) in
          ahead-more (line.Account c.in-Some.name.now (get_or xs i 0) ∷ [])
          (lines (drop (i + 1) names) (drop (i + 1) xs))
          (lines (drop i names) (drop i xs)) more (c.loop-dths.invariant.0 lists) pushed,
      omega (arith, c.loop-dths.invariant.1),
    )

pub returns : goal.returns
returns g c = λ lists.
    let names = c.args.ledger.now.accounts in
    let xs = c.args.balances.now in
    let i = c.loop-dths.dths-index in
    ahead-end (lines (drop i names) (drop i xs))
    (ap (lines (drop i names)) (left-none xs i (omega (arith, c.loop-dths-test.false)))
    ∙ ap (map (λ (e : List ℕ × ℕ). line.Account e.0 e.1)) (zip-none (drop i names)))
    (c.loop-dths.invariant.0 lists)
