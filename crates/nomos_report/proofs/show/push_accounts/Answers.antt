use Rattle.std.proofs.Common.{◌∙◌, ℕ, ◌+◌, ◌-◌, ◌<◌, List, ◌++◌, length, ap, sym, arith}
use Rattle.std.proofs.lemmas.Option.{slice_get_within}
use Rattle.std.specs.List.{zip}
use Rattle.nomos_report.specs.ShownState.{account_line}
use Rattle.nomos_report.proofs.PlaceLemmas.{place-last, place-next, place-past, zip-within}
use Rattle.nomos_report.proofs.show.push_accounts.Goals as goal

pub overflow_add-number : goal.overflow_add-number
overflow_add-number g c =
    let l = c.args.ledger.now in
    let accounts : List (List ℕ × ℕ) = zip l.accounts l.state.balances in
    let inside =
    slice_get_within accounts c.loop-account.number (c.in-Some.account.name.now, c.in-Some.account.dths)
    (sym c.in-Some.ensures.account)
    in
    omega (arith, inside, zip-within l.accounts l.state.balances, c.in-Some.ensures.few)

pub loop-account-smaller : goal.loop-account-smaller
loop-account-smaller g c =
    let l = c.args.ledger.now in
    let accounts : List (List ℕ × ℕ) = zip l.accounts l.state.balances in
    let inside =
    slice_get_within accounts c.loop-account.number (c.in-Some.account.name.now, c.in-Some.account.dths)
    (sym c.in-Some.ensures.account)
    in
    let smaller : length l.accounts - (c.loop-account.number + 1) < length l.accounts - c.loop-account.number =
    omega (arith, inside, zip-within l.accounts l.state.balances)
    in
    smaller

pub loop-account-preserved : goal.loop-account-preserved
loop-account-preserved g c =
    let l = c.args.ledger.now in
    let accounts : List (List ℕ × ℕ) = zip l.accounts l.state.balances in
    let account : List ℕ × ℕ = (c.in-Some.account.name.now, c.in-Some.account.dths) in
    let found = sym c.in-Some.ensures.account in
    let inside = slice_get_within accounts c.loop-account.number account found in (
      c.in_ok-push_account.ensures
          ∙ ap (λ (t : List ℕ). t ++ account_line c.args.unit account) c.loop-account.invariant.0
          ∙ place-next (account_line c.args.unit) c.args.text.now.items accounts c.loop-account.number account found,
      omega (arith, inside, zip-within l.accounts l.state.balances),
    )

pub returns : goal.returns
returns g c =
    let l = c.args.ledger.now in
    let accounts : List (List ℕ × ℕ) = zip l.accounts l.state.balances in
    c.loop-account.invariant.0
    ∙ place-last (account_line c.args.unit) c.args.text.now.items accounts c.loop-account.number
    (place-past accounts c.loop-account.number (sym c.in_default.ensures.account))
