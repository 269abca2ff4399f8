-- How far the numbers of a ledger have risen behind a script, and batches that may be run there.
use Rattle.std.proofs.Common.{◌≡◌, ◌∙◌, ℕ, ◌+◌, ◌^◌, ◌≤◌, List, length, take, Option, Some, None, sym, ap, subst, arith}
use Rattle.std.proofs.Math.Seq.{take-length}
use Rattle.std.specs.Prelude.{IfSome}
use Rattle.nomos_types.specs.Acceptance.{Acceptance, IsAccepted}
use Rattle.nomos_script.specs.Size.{IsScriptSize}
use Rattle.nomos_script.specs.declared.item.Batch.{Batch}
use Rattle.nomos_script.specs.declared.item.ScriptItem.{ScriptItem}
use Rattle.nomos_script.specs.declared.item.ScriptItem.TheVariants as item
use Rattle.nomos_legal.specs.Ledger.{LedgerState}
use Rattle.nomos_legal.specs.Legal.{Tells}
use Rattle.nomos_legal.specs.NextNumbers.{HasNumbered}
use Rattle.nomos_legal.specs.StandsFor.{WorldStandsFor}
use Rattle.nomos_legal.specs.World.{WorldState}
use Rattle.nomos_legal.proofs.NextNumberLaws.{given-few, last-numbers}
use Rattle.nomos_ledger.specs.Beginning.{HasBegun}
use Rattle.nomos_run.specs.Carried.{IsWholeRun, RunsScript}
use Rattle.nomos_run.specs.declared.orders.Orders.{Orders}
use Rattle.nomos_run.specs.declared.orders.ScriptRun.{ScriptRun}
use Rattle.nomos_run.specs.declared.orders.WholeRun.{WholeRun}
use Rattle.nomos_ledger.specs.Running.{MayRun}
use Rattle.nomos_ledger.proofs.RunningLaws.{begun-may_run}

-- the most numbers that a script gives
abbrev pub most_numbers : ℕ
most_numbers = 2 ^ 20 + 20000000

-- what holds of what is there, from what holds of it
if_some-map : {X : Type 0} (o : Option X) (P Q : X → Type 0) → ((x : X) → P x → Q x) → IfSome o P → IfSome o Q
if_some-map (Some x) P Q f h = f x h
if_some-map None P Q f h = h

-- behind a whole script both next numbers are within that
pub ledger-numbered : {M : Type 0} {a : Acceptance} → IsAccepted a → {items : List ScriptItem} → IsScriptSize items
    → (orders : Orders) (run : ScriptRun M) → RunsScript a items orders run
    → IfSome run.finished (λ f. HasNumbered most_numbers f.ledger.state)
ledger-numbered {M} {a} accepted {items} size orders run runs =
    let last = runs.last in
    if_some-map run.finished
    (λ (f : WholeRun M). (runs.count ≡ length items) × IsWholeRun a orders runs.passages last f)
    (λ (f : WholeRun M). HasNumbered most_numbers f.ledger.state)
    (λ f all.
    let whole : take runs.count items ≡ items = ap (λ n. take n items) all.0 ∙ take-length items in
    let tells = subst (λ (l : List ScriptItem). Tells a l run.journal runs.passages last) whole runs.tells in
    let numbers = last-numbers accepted tells in
    let few = given-few accepted tells size in
    let here : HasNumbered most_numbers last.state =
    record { objects = omega (arith, numbers.objects, few); names = omega (arith, numbers.names, few) }
    in
    subst (λ (l : LedgerState). HasNumbered most_numbers l.state) (sym all.1.ledger) here)
    runs.all

-- a batch that begins there may make a million firings
pub begun-runs : {a : Acceptance} → IsAccepted a → {l : LedgerState} {batch : Batch} {w : WorldState}
    → HasBegun a l batch w → WorldStandsFor a w → HasNumbered most_numbers l.state
    → length batch.starts ≤ 2 ^ 20 → (limit : ℕ) → limit ≤ 1000000 → MayRun a limit w
begun-runs accepted begun stands numbered few limit within =
    begun-may_run accepted begun stands most_numbers limit numbered (omega (arith, few, within))
