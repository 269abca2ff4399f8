-- Legal journals grow passage by passage.
use Rattle.std.proofs.Common.{take, zero, suc, ◌≡◌, ◌∙◌, ℕ, ◌+◌, ◌^◌, ◌<◌, ◌≤◌, List, [], ◌∷◌, ◌++◌, length, map, Option, Some, None, ⊎_elim, refl, sym, subst, ap, arith, append-nil, append_assoc}
use Rattle.std.specs.List.{flat_map}
use Rattle.std.specs.Option.{option_to_list}
use Rattle.std.proofs.lemmas.Bool.{cases_lt}
use Rattle.std.proofs.lemmas.List.{length-map, map-append, take-map}
use Rattle.std.proofs.lemmas.List.Sums.{sum_by-append}
use Rattle.nomos_types.specs.Acceptance.{Acceptance}
use Rattle.nomos_script.specs.declared.item.Batch.{Batch}
use Rattle.nomos_script.specs.declared.item.ScriptItem.{ScriptItem}
use Rattle.nomos_script.specs.declared.item.ScriptItem.TheVariants as item
use Rattle.nomos_legal.specs.Batch.{AllStart}
use Rattle.nomos_legal.specs.Ending.{EndsAs, IsAllowed}
use Rattle.nomos_legal.specs.Ledger.{LedgerState, FitsDeposits, empty_ledger}
use Rattle.nomos_legal.specs.Legal.{Leads, IsLimit, Tells, TellsFrom, batch_limit, entries_of, firings_in, firings_made, max_firings}
use Rattle.nomos_legal.specs.Legal as legal
use Rattle.nomos_legal.specs.Passage.{Passage, IsPassage, RunsTo, Undoes, bare, runs, still}
use Rattle.nomos_legal.specs.Passage as passage
use Rattle.nomos_legal.specs.StandsFor.{Deposits, WorldStandsFor}
use Rattle.nomos_legal.specs.World.{WorldState, committed, pids_of, ledger_begun}
use Rattle.nomos_legal.specs.declared.journal.End.{End}
use Rattle.nomos_legal.specs.declared.journal.End.TheVariants as end
use Rattle.nomos_legal.specs.declared.journal.Entry.{Entry}
use Rattle.nomos_legal.specs.declared.journal.Journal.{Journal}
use Rattle.nomos_legal.proofs.WorldLaws.{committed-is, fires_at-run}

-- ---- firings

-- the firings of entries in a row
pub firings_made-append : (entries others : List Entry)
    → firings_made (entries ++ others) ≡ firings_made entries + firings_made others
firings_made-append entries others = sum_by-append (λ (e : Entry). length e.firings) entries others

one-made : (entry : Option Entry) → firings_made (option_to_list entry) ≡ length (firings_in entry)
one-made (Some entry) = omega arith
one-made None = refl

-- those of passages, the first one apart
pub first-made : (p : Passage) (ps : List Passage)
    → firings_made (entries_of (p ∷ ps)) ≡ length (firings_in p.entry) + firings_made (entries_of ps)
first-made p ps =
    omega (arith, firings_made-append (option_to_list p.entry) (entries_of ps), one-made p.entry)

-- ---- entries and items of passages in a row

pub entries_of-append : (ps qs : List Passage) → entries_of (ps ++ qs) ≡ entries_of ps ++ entries_of qs
entries_of-append [] qs = refl
entries_of-append (p ∷ ps) qs =
    ap (λ (es : List Entry). option_to_list p.entry ++ es) (entries_of-append ps qs)
    ∙ sym (append_assoc (option_to_list p.entry) (entries_of ps) (entries_of qs))

-- ---- passages in a row

-- the same count of firings, written otherwise
at-count : {a : Acceptance} {limit : ℕ} {l last : LedgerState} {ps : List Passage} (n k : ℕ) → n ≡ k
    → Leads a limit n l ps last → Leads a limit k l ps last
at-count {a} {limit} {l} {last} {ps} n k same leads = subst (λ (m : ℕ). Leads a limit m l ps last) same leads

-- passages that lead on from where others end lead all the way with these
pub leads-append : {a : Acceptance} {limit made : ℕ} {l m last : LedgerState} {ps qs : List Passage}
    → Leads a limit made l ps m → Leads a limit (made + firings_made (entries_of ps)) m qs last
    → Leads a limit made l (ps ++ qs) last
leads-append (legal.done made l) rest = at-count (made + 0) made (omega arith) rest
leads-append {qs = qs} (legal.passes made p ps m is on) rest =
    legal.passes made p (ps ++ qs) _ is
    (leads-append on
    (at-count (made + firings_made (entries_of (p ∷ ps)))
    (made + length (firings_in p.entry) + firings_made (entries_of ps)) (omega (arith, first-made p ps)) rest))

-- one passage
pub leads-one : {a : Acceptance} {limit made : ℕ} (p : Passage) → IsPassage a (batch_limit limit made) p
    → Leads a limit made p.before (p ∷ []) p.after
leads-one {made = made} p is =
    legal.passes made p [] p.after is (legal.done (made + length (firings_in p.entry)) p.after)

-- no batch takes the firings of a journal over the most of a script
passage-within : {a : Acceptance} {most : ℕ} {p : Passage} → IsPassage a most p → length (firings_in p.entry) ≤ most
passage-within (passage.deposit l line units name fits) = omega arith
passage-within (passage.no_deposit l line units name never) = omega arith
passage-within (passage.refused l batch line cause refuses) = omega arith
passage-within (passage.stays l batch starts pids last begun reaches) = reaches.within
passage-within (passage.undone l batch starts pids last answer begun reaches undoes) = reaches.within
passage-within (passage.shown l line) = omega arith

leads-within : {a : Acceptance} {limit made : ℕ} {l last : LedgerState} {ps : List Passage}
    → Leads a limit made l ps last
    → made ≤ max_firings → made + firings_made (entries_of ps) ≤ max_firings
leads-within (legal.done made l) few = omega (arith, few)
leads-within {limit = limit} (legal.passes made p ps last is rest) few =
    let within : length (firings_in p.entry) ≤ batch_limit limit made = passage-within is in
    let more : made + length (firings_in p.entry) ≤ max_firings = omega (arith, within, few) in
    omega (arith, leads-within rest more, first-made p ps)

-- the firings of a legal journal are at most those of a script
pub tells-within : {a : Acceptance} {first : LedgerState} {items : List ScriptItem} {journal : Journal}
    {ps : List Passage} {last : LedgerState}
    → TellsFrom a first items journal ps last → firings_made journal.entries ≤ max_firings
tells-within tells =
    subst (λ (es : List Entry). firings_made es ≤ max_firings) tells.entries_are
    (omega (arith, leads-within tells.leads (omega arith)))

-- ---- what may become of one item

module _ {a : Acceptance} {most : ℕ} where
  -- a deposit
  pub deposit-passage : {l after : LedgerState} {line units : ℕ} {name : List ℕ} {answer : End}
      → Deposits a l line name units answer after
      → IsPassage a most (still (item.Deposit line name units) (bare line answer) l after)
  deposit-passage {l} {after} {line} {units} {name} {answer} deposits =
      ⊎_elim
      (λ (fits : l.deposits + units < 2 ^ 64).
      let is = deposits.made fits in
      rw (is.0, is.1) (passage.deposit l line units name fits))
      (λ (too_much : 2 ^ 64 ≤ l.deposits + units).
      let never : ¬ FitsDeposits l units = λ fits. omega (arith, fits, too_much) in
      let is = deposits.refused never in
      rw (is.0, is.1) (passage.no_deposit l line units name never))
      (cases_lt (l.deposits + units) (2 ^ 64))

  -- the firings of a world are a run from its start
  pub world-runs : {w : WorldState} {answer : End} → WorldStandsFor a w → length w.firings ≤ most
      → IsAllowed a w.state (length w.firings) most answer
      → RunsTo a most (ledger_begun a w).state (pids_of w.firings) w.state answer
  world-runs {w} {answer} stands within allowed =
      let same : length (pids_of w.firings) ≡ length w.firings = length-map w.firings (λ f. f.pid) in
      record {
        reached = fires_at-run stands.reached;
        within = omega (arith, same, within);
        allowed = subst (λ (n : ℕ). IsAllowed a w.state n most answer) (sym same) allowed;
      }

  -- a batch that stays
  pub stays-passage : {w : WorldState} (batch : Batch) → AllStart a w.origin batch.starts w.starts → WorldStandsFor a w
      → length w.firings ≤ most → EndsAs a w.state (length w.firings) most end.Committed
      → IsPassage a most
      (runs batch (pids_of w.firings) end.Committed w.origin (ledger_begun a w) w.state (committed w))
  stays-passage {w} batch begun stands within ends =
      subst
      (λ (after : LedgerState). IsPassage a most
      (runs batch (pids_of w.firings) end.Committed w.origin (ledger_begun a w) w.state after))
      (sym (committed-is stands))
      (passage.stays w.origin batch w.starts (pids_of w.firings) w.state begun (world-runs stands within ends))

  -- a batch that is undone
  pub undone-passage : {w : WorldState} {answer : End} (batch : Batch) → AllStart a w.origin batch.starts w.starts
      → WorldStandsFor a w → length w.firings ≤ most → IsAllowed a w.state (length w.firings) most answer
      → Undoes answer
      → IsPassage a most (runs batch (pids_of w.firings) answer w.origin (ledger_begun a w) w.state w.origin)
  undone-passage {w} {answer} batch begun stands within allowed undoes =
      passage.undone w.origin batch w.starts (pids_of w.firings) w.state answer begun (world-runs stands within allowed)
      undoes

-- ---- a journal of one item more

-- the journal with an entry more, if there is one
abbrev pub journal_with : Journal → Option Entry → Journal
journal_with journal entry = record journal { entries = journal.entries ++ option_to_list entry }

-- nothing became of no items
pub tells-none-from : (a : Acceptance) (first : LedgerState) (limit : ℕ) → IsLimit limit
    → TellsFrom a first [] (record { limit = limit; entries = [] }) [] first
tells-none-from a first limit is = record {
  limit = is;
  items_are = refl;
  entries_are = refl;
  leads = legal.done 0 first;
}

pub tells-none : (a : Acceptance) (limit : ℕ) → IsLimit limit
    → Tells a [] (record { limit = limit; entries = [] }) [] empty_ledger
tells-none a limit is = tells-none-from a empty_ledger limit is

module _ {a : Acceptance} {first : LedgerState} {items : List ScriptItem} {journal : Journal} {ps : List Passage}
    {last : LedgerState} (tells : TellsFrom a first items journal ps last) where
  made-same : 0 + firings_made (entries_of ps) ≡ firings_made journal.entries
  made-same = let same = ap firings_made tells.entries_are in omega (arith, same)

  -- where one item more has become of the last ledger what may become of it, the journal with its entry tells that
  pub tells-more : (p : Passage) → p.before ≡ last
      → IsPassage a (batch_limit journal.limit (firings_made journal.entries)) p
      → TellsFrom a first (items ++ p.item ∷ []) (journal_with journal p.entry) (ps ++ p ∷ []) p.after
  tells-more p before is = record {
    limit = tells.limit;
    items_are =
        map-append (λ (x : Passage). x.item) ps (p ∷ [])
        ∙ ap (λ (is : List ScriptItem). is ++ p.item ∷ []) tells.items_are;
    entries_are =
        entries_of-append ps (p ∷ [])
        ∙ (λ i. tells.entries_are i ++ append-nil (option_to_list p.entry) i);
    leads =
        leads-append tells.leads
        (subst (λ (l : LedgerState). Leads a journal.limit (0 + firings_made (entries_of ps)) l (p ∷ []) p.after) before
        (at-count (firings_made journal.entries) (0 + firings_made (entries_of ps)) (sym made-same) (leads-one p is)));
  }

-- ---- fronts

-- the first passages lead as far as they go
pub leads-front : {a : Acceptance} {limit made : ℕ} {l last : LedgerState} {ps : List Passage}
    → Leads a limit made l ps last → (n : ℕ) → (m : LedgerState) × Leads a limit made l (take n ps) m
leads-front (legal.done made l) zero = (l, legal.done made l)
leads-front (legal.done made l) (suc n) = (l, legal.done made l)
leads-front (legal.passes made p ps last is rest) zero = (p.before, legal.done made p.before)
leads-front (legal.passes made p ps last is rest) (suc n) =
    let (m, front) = leads-front rest n in
    (m, legal.passes made p (take n ps) m is front)

-- so the journal of the first items, with the entries of what became of them, is legal
pub tells-front : {a : Acceptance} {first : LedgerState} {items : List ScriptItem} {journal : Journal}
    {ps : List Passage} {last : LedgerState}
    → TellsFrom a first items journal ps last → (n : ℕ)
    → (m : LedgerState)
    × TellsFrom a first (take n items) (record journal { entries = entries_of (take n ps) }) (take n ps) m
tells-front {ps = ps} tells n =
    let (m, front) = leads-front tells.leads n in (
      m,
      record {
        limit = tells.limit;
        items_are =
            sym (take-map (λ (p : Passage). p.item) n ps) ∙ ap (λ (is : List ScriptItem). take n is) tells.items_are;
        entries_are = refl;
        leads = front;
      },
    )

-- ---- lines

-- the line of an item that has an entry
abbrev pub told_line : ScriptItem → List ℕ
told_line (item.Deposit line name units) = line ∷ []
told_line (item.Batch batch) = batch.line ∷ []
told_line (item.Show line) = []

entry-line : {a : Acceptance} {most : ℕ} {p : Passage} → IsPassage a most p
    → map (λ e. e.line) (option_to_list p.entry) ≡ told_line p.item
entry-line (passage.deposit l line units name fits) = refl
entry-line (passage.no_deposit l line units name never) = refl
entry-line (passage.refused l batch line cause refuses) = refl
entry-line (passage.stays l batch starts pids last begun reaches) = refl
entry-line (passage.undone l batch starts pids last answer begun reaches undoes) = refl
entry-line (passage.shown l line) = refl

leads-lines : {a : Acceptance} {limit made : ℕ} {l last : LedgerState} {ps : List Passage}
    → Leads a limit made l ps last
    → map (λ e. e.line) (entries_of ps) ≡ flat_map told_line (map (λ p. p.item) ps)
leads-lines (legal.done made l) = refl
leads-lines (legal.passes made p ps last is rest) =
    map-append (λ (e : Entry). e.line) (option_to_list p.entry) (entries_of ps)
    ∙ (λ i. entry-line is i ++ leads-lines rest i)

-- A legal journal has an entry for each deposit and each batch, in order, at its line.
pub tells-lines : {a : Acceptance} {first : LedgerState} {items : List ScriptItem} {journal : Journal}
    {ps : List Passage} {last : LedgerState}
    → TellsFrom a first items journal ps last → map (λ e. e.line) journal.entries ≡ flat_map told_line items
tells-lines tells =
    ap (λ (es : List Entry). map (λ e. e.line) es) (sym tells.entries_are) ∙ leads-lines tells.leads
    ∙ ap (λ (is : List ScriptItem). flat_map told_line is) tells.items_are
