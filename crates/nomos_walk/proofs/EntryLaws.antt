-- How many entries a journal has: one for each deposit and each batch.
use Rattle.std.proofs.Common.{◌≡◌, ℕ, List, [], ◌∷◌, length, map, ap, arith, length-append}
use Rattle.std.specs.Option.{option_to_list}
use Rattle.nomos_types.specs.Acceptance.{Acceptance}
use Rattle.nomos_script.specs.Size.{entry_count}
use Rattle.nomos_script.specs.declared.item.ScriptItem.{ScriptItem}
use Rattle.nomos_legal.specs.Ledger.{LedgerState}
use Rattle.nomos_legal.specs.Legal.{Leads, TellsFrom, entries_of}
use Rattle.nomos_legal.specs.Legal as legal
use Rattle.nomos_legal.specs.Passage.{IsPassage, Passage}
use Rattle.nomos_legal.specs.Passage as passage
use Rattle.nomos_legal.specs.declared.journal.Entry.{Entry}
use Rattle.nomos_legal.specs.declared.journal.Journal.{Journal}
use Rattle.nomos_walk.proofs.RoomLemmas.{first-entries}

passage-entries : {a : Acceptance} {most : ℕ} {p : Passage} → IsPassage a most p
    → length (option_to_list p.entry) ≡ entry_count (p.item ∷ [])
passage-entries (passage.deposit l line units name fits) = omega arith
passage-entries (passage.no_deposit l line units name never) = omega arith
passage-entries (passage.refused l batch line cause refuses) = omega arith
passage-entries (passage.stays l batch starts pids last begun reaches) = omega arith
passage-entries (passage.undone l batch starts pids last answer begun reaches undoes) = omega arith
passage-entries (passage.shown l line) = omega arith

leads-entries : {a : Acceptance} {limit made : ℕ} {l last : LedgerState} {ps : List Passage}
    → Leads a limit made l ps last → length (entries_of ps) ≡ entry_count (map (λ p. p.item) ps)
leads-entries (legal.done made l) = omega arith
leads-entries (legal.passes made p ps last is rest) =
    let first = passage-entries is in
    let others = leads-entries rest in
    let both = length-append (option_to_list p.entry) (entries_of ps) in
    let count = first-entries p.item (map (λ (q : Passage). q.item) ps) in
    omega (arith, first, others, both, count)

-- A legal journal has as many entries as its script has deposits and batches.
pub tells-entries : {a : Acceptance} {first : LedgerState} {items : List ScriptItem} {journal : Journal}
    {ps : List Passage} {last : LedgerState} → TellsFrom a first items journal ps last
    → length journal.entries ≡ entry_count items
tells-entries tells =
    let kept = ap (λ (es : List Entry). length es) tells.entries_are in
    let items = ap entry_count tells.items_are in
    let leads = leads-entries tells.leads in
    omega (arith, kept, items, leads)
