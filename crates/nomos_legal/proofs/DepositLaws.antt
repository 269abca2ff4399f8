-- The deposits of each ledger are the sum of those that were accepted before it.
use Rattle.std.proofs.Common.{◌≡◌, ℕ, zero, suc, ◌+◌, List, take, Some, slice_get, sum_by, refl, ap, arith}
use Rattle.std.proofs.lemmas.List.Sums.{sum_by-cons}
use Rattle.nomos_types.specs.Acceptance.{Acceptance}
use Rattle.nomos_script.specs.declared.item.ScriptItem.{ScriptItem}
use Rattle.nomos_legal.specs.Ledger.{LedgerState}
use Rattle.nomos_legal.specs.Legal.{Leads, Tells, TellsFrom}
use Rattle.nomos_legal.specs.Legal as legal
use Rattle.nomos_legal.specs.Passage.{Passage, IsPassage, accepted_units}
use Rattle.nomos_legal.specs.Passage as passage
use Rattle.nomos_legal.specs.declared.journal.Journal.{Journal}
use Rattle.nomos_legal.proofs.StartLaws.{starts-same}

-- an item adds the units that were accepted
passage-deposits : {a : Acceptance} {most : ℕ} {p : Passage} → IsPassage a most p
    → p.after.deposits ≡ p.before.deposits + accepted_units p
passage-deposits (passage.deposit l line units name fits) = refl
passage-deposits (passage.no_deposit l line units name never) = omega arith
passage-deposits (passage.refused l batch line cause refuses) = omega arith
passage-deposits {a} (passage.stays l batch starts pids last begun reaches) = omega (arith, (starts-same a l starts).1)
passage-deposits (passage.undone l batch starts pids last answer begun reaches undoes) = omega arith
passage-deposits (passage.shown l line) = omega arith

leads-deposits : {a : Acceptance} {limit made : ℕ} {l last : LedgerState} {ps : List Passage}
    → Leads a limit made l ps last
    → last.deposits ≡ l.deposits + sum_by accepted_units ps
leads-deposits (legal.done made l) = omega arith
leads-deposits (legal.passes made p ps last is rest) =
    omega (arith, leads-deposits rest, passage-deposits is, sum_by-cons accepted_units p ps)

-- The deposits of the ledger to which a journal leads are those of the first ledger, and the units of its accepted
-- deposits.
pub tells-deposits-from : {a : Acceptance} {first : LedgerState} {items : List ScriptItem} {journal : Journal}
    {ps : List Passage} {last : LedgerState} → TellsFrom a first items journal ps last
    → last.deposits ≡ first.deposits + sum_by accepted_units ps
tells-deposits-from tells = leads-deposits tells.leads

-- from the empty one they are these units alone
pub tells-deposits : {a : Acceptance} {items : List ScriptItem} {journal : Journal} {ps : List Passage}
    {last : LedgerState} → Tells a items journal ps last → last.deposits ≡ sum_by accepted_units ps
tells-deposits tells = let same = leads-deposits tells.leads in omega (arith, same)

-- ---- fronts

leads-fronts : {a : Acceptance} {limit made : ℕ} {l last : LedgerState} {ps : List Passage}
    → Leads a limit made l ps last → (k : ℕ) (p : Passage) → slice_get ps k ≡ Some p
    → p.before.deposits ≡ l.deposits + sum_by accepted_units (take k ps)
leads-fronts (legal.done made l) k p at = absurd cc
leads-fronts (legal.passes made q ps last is rest) zero p at =
    let same : q ≡ p = cc in
    let before : q.before.deposits ≡ p.before.deposits = ap (λ (x : Passage). x.before.deposits) same in
    omega (arith, before)
leads-fronts (legal.passes made q ps last is rest) (suc k) p at =
    omega (arith, leads-fronts rest k p at, passage-deposits is, sum_by-cons accepted_units q (take k ps))

-- The deposits before each passage of a journal are those of the first ledger, and the units of the deposits that were
-- accepted so far.
pub front-deposits-from : {a : Acceptance} {first : LedgerState} {items : List ScriptItem} {journal : Journal}
    {ps : List Passage} {last : LedgerState} → TellsFrom a first items journal ps last
    → (k : ℕ) (p : Passage) → slice_get ps k ≡ Some p
    → p.before.deposits ≡ first.deposits + sum_by accepted_units (take k ps)
front-deposits-from tells = leads-fronts tells.leads

-- from the empty ledger they are these units alone
pub front-deposits : {a : Acceptance} {items : List ScriptItem} {journal : Journal} {ps : List Passage}
    {last : LedgerState} → Tells a items journal ps last → (k : ℕ) (p : Passage) → slice_get ps k ≡ Some p
    → p.before.deposits ≡ sum_by accepted_units (take k ps)
front-deposits tells k p at = let same = leads-fronts tells.leads k p at in omega (arith, same)
