-- A script leaves room for what its items need, from any ledger that is not too far on.
use Rattle.std.proofs.Common.{◌≡◌, ◌∙◌, ℕ, zero, suc, ◌+◌, ◌^◌, ◌<◌, ◌≤◌, List, [], ◌∷◌, ◌++◌, length, map, take, Option, Some, None, sym, ap, subst, arith, length-append}
use Rattle.nomos_types.specs.Acceptance.{Acceptance, IsAccepted}
use Rattle.nomos_script.specs.Size.{IsScriptSize, entry_count, start_count}
use Rattle.nomos_script.specs.declared.item.Batch.{Batch}
use Rattle.nomos_script.specs.declared.item.ScriptItem.{ScriptItem}
use Rattle.nomos_script.specs.declared.item.ScriptItem.TheVariants as item
use Rattle.nomos_legal.proofs.LegalLaws.{tells-within}
use Rattle.nomos_legal.proofs.NextNumberLaws.{last-numbers-from}
use Rattle.nomos_legal.proofs.StartLaws.{starts-same}
use Rattle.nomos_legal.specs.Ledger.{LedgerState, account_of, accounts_with}
use Rattle.nomos_legal.specs.Legal.{Leads, TellsFrom, batch_limit, entries_of, firings_made, max_firings}
use Rattle.nomos_legal.specs.Legal as legal
use Rattle.nomos_legal.specs.NextNumbers.{HasNumbered, numbers_given}
use Rattle.nomos_legal.specs.Passage.{IsPassage, Passage}
use Rattle.nomos_legal.specs.Passage as passage
use Rattle.nomos_legal.specs.StandsFor.{StandsNamed, WorldStandsFor}
use Rattle.nomos_legal.specs.World.{WorldState}
use Rattle.nomos_legal.specs.declared.journal.Entry.{Entry}
use Rattle.nomos_ledger.specs.Beginning.{HasBegun}
use Rattle.nomos_ledger.proofs.RunningLaws.{begun-may_run}
use Rattle.nomos_ledger.specs.Running.{MayRun}
use Rattle.nomos_walk.specs.Coming.{journal_of}
use Rattle.nomos_walk.specs.declared.papers.WantedTexts.{WantedTexts}
use Rattle.nomos_walk.specs.Walks.{HasItemRoom, HasRoomFor, walk_of}

-- ---- accounts

with-accounts : (accounts : List (List ℕ)) (name : List ℕ) (found : Option ℕ)
    → length (accounts_with accounts name found) ≤ length accounts + 1
with-accounts accounts name (Some account) = omega arith
with-accounts accounts name None =
    let long = length-append accounts (name ∷ []) in
    omega (arith, long)

-- an item makes an account at most
passage-accounts : {a : Acceptance} {most : ℕ} {p : Passage} → IsPassage a most p
    → length p.after.accounts ≤ length p.before.accounts + entry_count (p.item ∷ [])
passage-accounts (passage.deposit l line units name fits) =
    let more = with-accounts l.accounts name (account_of l.accounts name) in
    omega (arith, more)
passage-accounts (passage.no_deposit l line units name never) = omega arith
passage-accounts (passage.refused l batch line cause refuses) = omega arith
passage-accounts {a} (passage.stays l batch starts pids last begun reaches) =
    let same = ap (λ (names : List (List ℕ)). length names) (starts-same a l starts).0 in
    omega (arith, same)
passage-accounts (passage.undone l batch starts pids last answer begun reaches undoes) = omega arith
passage-accounts (passage.shown l line) = omega arith

pub first-entries : (i : ScriptItem) (items : List ScriptItem)
    → entry_count (i ∷ items) ≡ entry_count (i ∷ []) + entry_count items
first-entries (item.Deposit line name units) items = omega arith
first-entries (item.Batch batch) items = omega arith
first-entries (item.Show line) items = omega arith

leads-accounts : {a : Acceptance} {limit made : ℕ} {l last : LedgerState} {ps : List Passage}
    → Leads a limit made l ps last
    → length last.accounts ≤ length l.accounts + entry_count (map (λ p. p.item) ps)
leads-accounts (legal.done made l) = omega arith
leads-accounts (legal.passes made p ps last is rest) =
    let first = passage-accounts is in
    let others = leads-accounts rest in
    let count = first-entries p.item (map (λ (q : Passage). q.item) ps) in
    omega (arith, first, others, count)

-- a ledger has an account more for each item with an entry at most
tells-accounts : {a : Acceptance} {first : LedgerState} {items : List ScriptItem} {limit : ℕ} {entries : List Entry}
    {ps : List Passage} {last : LedgerState} → TellsFrom a first items (journal_of limit entries) ps last
    → length last.accounts ≤ length first.accounts + entry_count items
tells-accounts {first = first} {last = last} tells =
    subst (λ (items : List ScriptItem). length last.accounts ≤ length first.accounts + entry_count items)
    tells.items_are
    (leads-accounts tells.leads)

-- ---- fronts of a script

start_count-append : (items others : List ScriptItem)
    → start_count (items ++ others) ≡ start_count items + start_count others
start_count-append [] others = omega arith
start_count-append (item.Deposit line name units ∷ items) others = start_count-append items others
start_count-append (item.Batch batch ∷ items) others =
    let more = start_count-append items others in
    omega (arith, more)
start_count-append (item.Show line ∷ items) others = start_count-append items others

record FrontCounts (n : ℕ) (items : List ScriptItem) : Type 0 where
  starts : start_count (take n items) ≤ start_count items
  entries : entry_count (take n items) ≤ entry_count items

front-counts : (n : ℕ) (items : List ScriptItem) → FrontCounts n items
front-counts zero items = record { starts = omega arith; entries = omega arith }
front-counts (suc n) [] = record { starts = omega arith; entries = omega arith }
front-counts (suc n) (item.Deposit line name units ∷ items) =
    let front = front-counts n items in
    record { starts = front.starts; entries = omega (arith, front.entries) }
front-counts (suc n) (item.Batch batch ∷ items) =
    let front = front-counts n items in
    record { starts = omega (arith, front.starts); entries = omega (arith, front.entries) }
front-counts (suc n) (item.Show line ∷ items) =
    let front = front-counts n items in
    record { starts = front.starts; entries = front.entries }

-- ---- room

-- behind the first items of a script there is room for the next one
pub walk-room : {a : Acceptance} → IsAccepted a → {first : LedgerState} → StandsNamed a first
    → HasNumbered (2 ^ 31) first.state → length first.accounts < 2 ^ 31 → {items : List ScriptItem} {limit : ℕ}
    {entries : List Entry} {ps : List Passage} {l : LedgerState} (wanted : WantedTexts) (n : ℕ) (i : ScriptItem)
    → IsScriptSize items → take (n + 1) items ≡ take n items ++ i ∷ []
    → TellsFrom a first (take n items) (journal_of limit entries) ps l → HasRoomFor (walk_of a limit wanted ps) l i
walk-room {a} accepted {first} standing numbers few {items} {limit} {entries} {ps} {l} wanted n i size next tells =
    let front = front-counts n items in
    let onward = front-counts (n + 1) items in
    let starts : start_count (take (n + 1) items) ≡ start_count (take n items) + start_count (i ∷ []) =
    ap start_count next ∙ start_count-append (take n items) (i ∷ []) in
    let accounts = tells-accounts tells in
    let made : firings_made (entries_of ps) ≡ firings_made entries = ap firings_made tells.entries_are in
    let within = tells-within tells in
    record {
      accounts = omega (arith, few, accounts, front.entries, size.entries);
      given = 2 ^ 31 + numbers_given (take n items) (journal_of limit entries);
      numbered = last-numbers-from accepted tells (2 ^ 31) standing numbers;
      few = omega (arith, starts, onward.starts, size.starts, made, within);
    }

-- the firings so far are at most those of a script
pub walk-made : {a : Acceptance} {first : LedgerState} {items : List ScriptItem} {limit : ℕ} {entries : List Entry}
    {ps : List Passage} {l : LedgerState} → TellsFrom a first items (journal_of limit entries) ps l
    → firings_made (entries_of ps) ≤ max_firings
walk-made {entries = entries} tells =
    subst (λ (es : List Entry). firings_made es ≤ max_firings) (sym tells.entries_are) (tells-within tells)
