-- Starts take from each payer the bounds of what it pays for, and no passage takes anything else from an account.
use Rattle.std.proofs.Common.{◌≡◌, ℕ, zero, suc, ◌*◌, ◌<◌, List, [], ◌∷◌, map, length, take, Option, Some, None, Ok, slice_get, refl, sym, subst, ap, arith}
use Rattle.nomos_types.specs.Acceptance.{Acceptance, IsAccepted}
use Rattle.nomos_types.specs.Amount.{dths}
use Rattle.nomos_machine.specs.Balances.{HavePaid, NoBalanceFalls}
use Rattle.nomos_machine.specs.Optional.{◌>>=◌}
use Rattle.nomos_machine.specs.Run.{run}
use Rattle.nomos_machine.specs.Starting.{channel_bindings, value_bindings}
use Rattle.nomos_machine.specs.State.{State}
use Rattle.nomos_machine.specs.Step.{step}
use Rattle.nomos_machine.proofs.BalanceLaws.{credited-paid, opened-paid, paid-falls, paid-nothing, paid-through, run-balances, started-paid}
use Rattle.nomos_machine.proofs.StartingLaws as machine
use Rattle.nomos_script.specs.declared.item.ScriptItem.{ScriptItem}
use Rattle.nomos_script.specs.declared.item.Start.{Start}
use Rattle.nomos_legal.specs.Batch.{AllStart, after_start, after_starts}
use Rattle.nomos_legal.specs.Batch as batch
use Rattle.nomos_legal.specs.Debits.{DebitsOnce, NoFiringDebits, declared_dths, lines_started, lines_unless_refused, payment_for}
use Rattle.nomos_legal.specs.Ending.{IsAllowed}
use Rattle.nomos_legal.specs.Ledger.{LedgerState, account_of, deposited, state_with}
use Rattle.nomos_legal.specs.Legal.{firings_in}
use Rattle.nomos_legal.specs.Passage.{Passage, IsPassage, still}
use Rattle.nomos_legal.specs.Passage as passage
use Rattle.nomos_legal.specs.StandsFor.{NamesBalances, IsSettled}
use Rattle.nomos_legal.specs.LineStarts.{Resolves}
use Rattle.nomos_legal.specs.declared.journal.End.{End}
use Rattle.nomos_legal.specs.declared.journal.End.TheVariants as end
use Rattle.nomos_legal.specs.declared.journal.Entry.{Entry}
use Rattle.nomos_legal.specs.declared.resolved.Resolved.{Resolved}
use Rattle.nomos_legal.proofs.ResolveLaws.{counted-can_start}
use Rattle.nomos_legal.proofs.SettledLaws.{account-within}
use Rattle.nomos_legal.proofs.StartLaws.{start-started, started-state}

-- ---- starts

-- a start takes from its payer the bound of what it starts, and from nobody else anything
pub start-paid : {a : Acceptance} {l : LedgerState} {start : Start} {r : Resolved} → IsSettled a l → NamesBalances l
    → Resolves a l start (Ok r) → HavePaid (payment_for a r ∷ []) l.state (after_start a l r).state
start-paid {a} {l} {r = r} settled counted resolves =
    let can = counted-can_start settled counted resolves in
    let next : State = machine.after_start can in
    let paid : HavePaid ((r.payer, dths a.annotations can.declaration.amount) ∷ []) l.state next =
    started-paid a l.state can.declaration (value_bindings can.declaration r.values)
    (channel_bindings can.declaration r.names) r.payer can.can
    in
    let bound : declared_dths a (slice_get a.program.procs r.proc.0) ≡ dths a.annotations can.declaration.amount =
    ap (declared_dths a) can.declared
    in
    subst (HavePaid (payment_for a r ∷ []) l.state) (sym (started-state a l r next (machine.starts-with can)))
    (subst (λ (n : ℕ). HavePaid ((r.payer, n) ∷ []) l.state next) (sym bound) paid)

-- so do the starts of all lines
pub starts-paid : {a : Acceptance} → IsAccepted a → {l : LedgerState} {lines : List Start} {rs : List Resolved}
    → IsSettled a l → NamesBalances l → AllStart a l lines rs
    → HavePaid (map (payment_for a) rs) l.state (after_starts a l rs).state
starts-paid accepted settled counted (batch.none l) = paid-nothing l.state
starts-paid {a} accepted settled counted (batch.line l start r lines rs resolves others) =
    let next : LedgerState = after_start a l r in
    let begun = start-started accepted settled counted resolves in
    paid-through (payment_for a r ∷ []) (map (payment_for a) rs) l.state next.state (after_starts a next rs).state
    (start-paid settled counted resolves) (starts-paid accepted begun.settled begun.counted others)

-- ---- firings

one-state : (s t : State) → Some s ≡ Some t → s ≡ t
one-state s t e = cc

-- no firing of a run lowers a balance
pub fires-no_debit : (a : Acceptance) (start : State) (pids : List ℕ) → NoFiringDebits a start pids
fires-no_debit a start pids zero s t one other =
    subst (λ (u : State). NoBalanceFalls u t) (one-state start s one) (run-balances a start t (take 1 pids) other)
fires-no_debit a start [] (suc k) s t one other =
    subst (λ (u : State). NoBalanceFalls u t) (one-state start s one) (run-balances a start t [] other)
fires-no_debit a start (pid ∷ pids) (suc k) s t one other =
    at (step a start pid) one other (λ u. fires-no_debit a u pids k s t)
  where
    at : (o : Option State) → (o >>= λ next. run a next (take k pids)) ≡ Some s
        → (o >>= λ next. run a next (take (suc k) pids)) ≡ Some t
        → ((u : State) → run a u (take k pids) ≡ Some s → run a u (take (suc k) pids) ≡ Some t → NoBalanceFalls s t)
        → NoBalanceFalls s t
    at (Some u) one other falls = falls u one other
    at None one other falls = absurd cc

-- ---- passages

-- no balance falls where nothing changes, nor in a deposit
falls-nowhere : (s : State) → NoBalanceFalls s s
falls-nowhere s account = omega arith

deposit-raises : (l : LedgerState) → NamesBalances l → (name : List ℕ) (gas : ℕ)
    → NoBalanceFalls l.state (state_with l.state gas (account_of l.accounts name))
deposit-raises l counted name gas = by (account_of l.accounts name) refl
  where
    by : (found : Option ℕ) → account_of l.accounts name ≡ found
        → NoBalanceFalls l.state (state_with l.state gas found)
    by (Some n) is =
        let inside : n < length l.state.balances = omega (arith, account-within l.accounts name n is, counted) in
        paid-falls ((n, gas) ∷ []) l.state (state_with l.state gas (Some n)) (credited-paid l.state n gas inside)
    by None is =
        paid-falls ((length l.state.balances, gas) ∷ []) l.state (state_with l.state gas None)
        (opened-paid l.state gas)

-- an end that is allowed for a state refuses no line
lines-kept : (a : Acceptance) (s : State) (count most : ℕ) (lines : List Start) (answer : End)
    → IsAllowed a s count most answer → lines ≡ lines_unless_refused lines answer
lines-kept a s count most lines end.Deposited allowed = refl
lines-kept a s count most lines end.Committed allowed = refl
lines-kept a s count most lines end.Blocked allowed = refl
lines-kept a s count most lines (end.Aborted pid f) allowed = refl
lines-kept a s count most lines (end.Steps n) allowed = refl
lines-kept a s count most lines (end.Refused line cause) allowed = absurd allowed

module _ {a : Acceptance} where
  -- an item without firings
  still-debits : (item : ScriptItem) (entry : Option Entry) (l after : LedgerState) → lines_started item entry ≡ []
      → NoBalanceFalls l.state after.state → DebitsOnce a (still item entry l after)
  still-debits item entry l after none falls = record {
    starts = [];
    begun = subst (λ (lines : List Start). AllStart a l lines []) (sym none) (batch.none l);
    start = refl;
    paid = paid-nothing l.state;
    firings = fires-no_debit a l.state (firings_in entry);
    after = falls;
  }

  pub passage-debits : IsAccepted a → {most : ℕ} {p : Passage} → IsPassage a most p → IsSettled a p.before
      → NamesBalances p.before → DebitsOnce a p
  passage-debits accepted (passage.deposit l line units name fits) settled counted =
      still-debits _ _ l (deposited a.annotations.unit l name units) refl
      (deposit-raises l counted name (units * a.annotations.unit))
  passage-debits accepted (passage.no_deposit l line units name never) settled counted =
      still-debits _ _ l l refl (falls-nowhere l.state)
  passage-debits accepted (passage.refused l batch line cause refuses) settled counted =
      still-debits _ _ l l refl (falls-nowhere l.state)
  passage-debits accepted (passage.stays l batch starts pids last begun reaches) settled counted = record {
    starts = starts;
    begun = begun;
    start = refl;
    paid = starts-paid accepted settled counted begun;
    firings = fires-no_debit a (after_starts a l starts).state pids;
    after = run-balances a (after_starts a l starts).state last pids reaches.reached;
  }
  passage-debits accepted {most = most} (passage.undone l batch starts pids last answer begun reaches undoes) settled
      counted =
      let paid = starts-paid accepted settled counted begun in
      record {
        starts = starts;
        begun =
            subst (λ (lines : List Start). AllStart a l lines starts)
            (lines-kept a last (length pids) most batch.starts answer reaches.allowed) begun;
        start = refl;
        paid = paid;
        firings = fires-no_debit a (after_starts a l starts).state pids;
        after = paid-falls (map (payment_for a) starts) (after_starts a l starts).state l.state paid;
      }
  passage-debits accepted (passage.shown l line) settled counted =
      still-debits _ _ l l refl (falls-nowhere l.state)
