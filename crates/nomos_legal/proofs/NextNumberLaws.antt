-- Along a legal journal both next numbers rise by the starts and the firings at most.
use Rattle.std.proofs.Common.{◌≡◌, ℕ, ◌+◌, ◌^◌, ◌≤◌, List, [], ◌∷◌, length, map, take, Option, Some, None, slice_get, refl, subst, ap, arith}
use Rattle.std.proofs.lemmas.List.{length-take}
use Rattle.std.proofs.lemmas.List.Elements.{All-nil, All-cons, All-weaker}
use Rattle.nomos_ir.specs.declared.declaration.ProcDecl.{ProcDecl}
use Rattle.nomos_types.specs.Acceptance.{Acceptance, IsAccepted}
use Rattle.nomos_machine.specs.Optional.{◌>>=◌}
use Rattle.nomos_machine.specs.Run.{run}
use Rattle.nomos_machine.specs.Starting.{started, value_bindings, channel_bindings}
use Rattle.nomos_machine.specs.State.{State}
use Rattle.nomos_machine.specs.TypedState.{IsTyped}
use Rattle.nomos_machine.proofs.RunLaws.{run-rises}
use Rattle.nomos_script.specs.Size.{IsScriptSize, start_count}
use Rattle.nomos_script.specs.declared.item.Batch.{Batch}
use Rattle.nomos_script.specs.declared.item.ScriptItem.{ScriptItem}
use Rattle.nomos_script.specs.declared.item.ScriptItem.TheVariants as item
use Rattle.nomos_script.specs.declared.item.Start.{Start}
use Rattle.nomos_legal.specs.Batch.{AllStart, after_start, after_starts, state_or}
use Rattle.nomos_legal.specs.Ledger.{LedgerState, account_of, empty_ledger, state_with}
use Rattle.nomos_legal.specs.Legal.{Leads, Tells, TellsFrom, entries_of, firings_in, firings_made}
use Rattle.nomos_legal.specs.Legal as legal
use Rattle.nomos_legal.specs.NextNumbers.{AllNumbered, HasNumbered, PassageNumbers, numbers_given}
use Rattle.nomos_legal.specs.Passage.{Passage, IsPassage, runs, still}
use Rattle.nomos_legal.specs.Passage as passage
use Rattle.nomos_legal.specs.StandsFor.{StandsNamed, WorldStandsFor}
use Rattle.nomos_legal.specs.World.{WorldState}
use Rattle.nomos_legal.specs.declared.journal.End.{End}
use Rattle.nomos_legal.specs.declared.journal.End.TheVariants as end
use Rattle.nomos_legal.specs.declared.journal.Entry.{Entry}
use Rattle.nomos_legal.specs.declared.journal.Journal.{Journal}
use Rattle.nomos_legal.specs.declared.resolved.Resolved.{Resolved}
use Rattle.nomos_legal.proofs.LegalLaws.{first-made, tells-within}
use Rattle.nomos_legal.proofs.RightLaws.{batch-started, empty-standing, passage-standing}
use Rattle.nomos_legal.proofs.StartLaws.{starts-length}
use Rattle.nomos_legal.proofs.WorldLaws.{world-rises}

-- ---- more of them

pub numbered-more : (n m : ℕ) → n ≤ m → (s : State) → HasNumbered n s → HasNumbered m s
numbered-more n m less s is =
    record { objects = omega (arith, is.objects, less); names = omega (arith, is.names, less) }

passage-more : {a : Acceptance} {p : Passage} (n m : ℕ) → n ≤ m → PassageNumbers a n p → PassageNumbers a m p
passage-more n m less is = record {
  before = numbered-more n m less _ is.before;
  firings = λ k s reached. numbered-more n m less s (is.firings k s reached);
  after = numbered-more n m less _ is.after;
}

-- ---- deposits

pub with-numbered : (n : ℕ) (s : State) (gas : ℕ) (found : Option ℕ) → HasNumbered n s
    → HasNumbered n (state_with s gas found)
with-numbered n s gas (Some account) is =
    record { objects = omega (arith, is.objects); names = omega (arith, is.names) }
with-numbered n s gas None is = record { objects = is.objects; names = is.names }

-- ---- firings

-- after a front of firings from a typed state
front-numbered : {a : Acceptance} → IsAccepted a → (n : ℕ) (start : State) (pids : List ℕ) → IsTyped a start
    → HasNumbered n start → (k : ℕ) (s : State) → run a start (take k pids) ≡ Some s → HasNumbered (n + length pids) s
front-numbered accepted n start pids typed is k s reached =
    let rises = run-rises accepted start s (take k pids) typed reached in
    let few : length (take k pids) ≤ length pids = omega (arith, length-take k pids) in
    record {
      objects = omega (arith, is.objects, rises.objects, few);
      names = omega (arith, is.names, rises.names, few);
    }

-- ---- passages

module _ {a : Acceptance} (accepted : IsAccepted a) where
  -- the start of a batch
  begun-numbered : {n : ℕ} {l : LedgerState} {lines : List Start} {starts : List Resolved} → StandsNamed a l
      → AllStart a l lines starts → HasNumbered n l.state
      → HasNumbered (n + length lines) (after_starts a l starts).state
  begun-numbered standing begun is =
      let start = batch-started accepted standing begun in
      let each = starts-length begun in
      record {
        objects = omega (arith, is.objects, start.counts.objects, each);
        names = omega (arith, is.names, start.counts.names, each);
      }

  -- an item without firings, after which both next numbers are as before
  still-numbered : {n : ℕ} (i : ScriptItem) (entry : Option Entry) {l m : LedgerState} → firings_in entry ≡ []
      → StandsNamed a l → HasNumbered n l.state → HasNumbered n m.state → PassageNumbers a n (still i entry l m)
  still-numbered {n} i entry {l} {m} none standing is after = record {
    before = is;
    firings = λ k s reached.
        let there = front-numbered accepted n l.state (firings_in entry) standing.stands.settled.typed is k s reached in
        let no : length (firings_in entry) ≡ 0 = ap (λ (pids : List ℕ). length pids) none in
        numbered-more (n + length (firings_in entry)) n (omega (arith, no)) s there;
    after = after;
  }

  -- a batch whose lines started
  batch-numbered : {n : ℕ} {l : LedgerState} (batch : Batch) {starts : List Resolved} (pids : List ℕ) (answer : End)
      {t : State} (after : LedgerState) → StandsNamed a l → AllStart a l batch.starts starts
      → HasNumbered n l.state → HasNumbered (n + length batch.starts + length pids) after.state
      → PassageNumbers a (n + length batch.starts + length pids)
      (runs batch pids answer l (after_starts a l starts) t after)
  batch-numbered {n} {l} batch {starts} pids answer {t} after standing begun is last =
      let start = batch-started accepted standing begun in
      record {
        before = numbered-more n (n + length batch.starts + length pids) (omega arith) l.state is;
        firings =
            front-numbered accepted (n + length batch.starts) (after_starts a l starts).state pids start.settled.typed
            (begun-numbered standing begun is);
        after = last;
      }

  -- what becomes of an item raises the numbers by its starts and its firings at most
  passage-numbers : {most n : ℕ} {p : Passage} → IsPassage a most p → StandsNamed a p.before
      → HasNumbered n p.before.state
      → PassageNumbers a (n + start_count (p.item ∷ []) + length (firings_in p.entry)) p
  passage-numbers {n = n} (passage.deposit l line units name fits) standing is =
      passage-more n (n + 0 + 0) (omega arith)
      (still-numbered _ _ refl standing is (with-numbered n l.state _ (account_of l.accounts name) is))
  passage-numbers {n = n} (passage.no_deposit l line units name never) standing is =
      passage-more n (n + 0 + 0) (omega arith) (still-numbered _ _ refl standing is is)
  passage-numbers {n = n} (passage.refused l batch line cause refuses) standing is =
      passage-more n (n + (length batch.starts + 0) + 0) (omega arith) (still-numbered _ _ refl standing is is)
  passage-numbers {n = n} (passage.stays l batch starts pids last begun reaches) standing is =
      let start = batch-started accepted standing begun in
      let rises = run-rises accepted (after_starts a l starts).state last pids start.settled.typed reaches.reached in
      let at_start = begun-numbered standing begun is in
      passage-more (n + length batch.starts + length pids) (n + (length batch.starts + 0) + length pids) (omega arith)
      (batch-numbered batch pids end.Committed _ standing begun is (record {
        objects = omega (arith, at_start.objects, rises.objects);
        names = omega (arith, at_start.names, rises.names);
      }))
  passage-numbers {n = n} (passage.undone l batch starts pids last answer begun reaches undoes) standing is =
      passage-more (n + length batch.starts + length pids) (n + (length batch.starts + 0) + length pids) (omega arith)
      (batch-numbered batch pids answer l standing begun is
      (numbered-more n (n + length batch.starts + length pids) (omega arith) l.state is))
  passage-numbers {n = n} (passage.shown l line) standing is =
      passage-more n (n + 0 + 0) (omega arith) (still-numbered _ _ refl standing is is)

-- ---- journals

-- the starts of the first item, and those of the others
first-starts : (i : ScriptItem) (items : List ScriptItem)
    → start_count (i ∷ items) ≡ start_count (i ∷ []) + start_count items
first-starts (item.Deposit line name units) items = omega arith
first-starts (item.Batch batch) items = omega arith
first-starts (item.Show line) items = omega arith

abbrev items_of : List Passage → List ScriptItem
items_of ps = map (λ p. p.item) ps

-- what is proved of passages in a row, where the first begins with so many numbers given
record Rise (a : Acceptance) (n : ℕ) (ps : List Passage) (last : LedgerState) : Type 0 where
  all : AllNumbered a (n + start_count (items_of ps) + firings_made (entries_of ps)) ps
  after : HasNumbered (n + start_count (items_of ps) + firings_made (entries_of ps)) last.state

leads-numbers : {a : Acceptance} → IsAccepted a → {limit made n : ℕ} {l last : LedgerState} {ps : List Passage}
    → Leads a limit made l ps last → StandsNamed a l → HasNumbered n l.state → Rise a n ps last
leads-numbers {a} accepted {n = n} (legal.done made l) standing is = record {
  all = All-nil (PassageNumbers a (n + 0 + 0));
  after = numbered-more n (n + 0 + 0) (omega arith) l.state is;
}
leads-numbers {a} accepted {n = n} (legal.passes made p ps last passes rest) standing is =
    let here : ℕ = n + start_count (p.item ∷ []) + length (firings_in p.entry) in
    let first : PassageNumbers a here p = passage-numbers accepted passes standing is in
    let others = leads-numbers accepted rest (passage-standing accepted passes standing) first.after in
    let onward : ℕ = here + start_count (items_of ps) + firings_made (entries_of ps) in
    let all : ℕ = n + start_count (items_of (p ∷ ps)) + firings_made (entries_of (p ∷ ps)) in
    let same : onward ≡ all = omega (arith, first-starts p.item (items_of ps), first-made p ps) in
    record {
      all =
          All-cons (PassageNumbers a all) p ps (passage-more here all (omega (arith, same)) first)
          (subst (λ (k : ℕ). AllNumbered a k ps) same others.all);
      after = subst (λ (k : ℕ). HasNumbered k last.state) same others.after;
    }

empty-numbered : HasNumbered 0 empty_ledger.state
empty-numbered = record { objects = omega arith; names = omega arith }

module _ {a : Acceptance} (accepted : IsAccepted a) {first : LedgerState} {items : List ScriptItem} {journal : Journal}
    {ps : List Passage} {last : LedgerState} (tells : TellsFrom a first items journal ps last) where
  given-from : (n : ℕ) → n + start_count (items_of ps) + firings_made (entries_of ps)
      ≡ n + numbers_given items journal
  given-from n =
      let starts = ap start_count tells.items_are in
      let firings = ap firings_made tells.entries_are in
      omega (arith, starts, firings)

  tells-rise-from : (n : ℕ) → StandsNamed a first → HasNumbered n first.state → Rise a n ps last
  tells-rise-from n standing is = leads-numbers accepted tells.leads standing is

  -- At each point of a journal that is legal from a ledger whose next numbers are at most 1 and n, both are at most 1,
  -- n, and its starts and firings.
  pub legal-numbers-from : (n : ℕ) → StandsNamed a first → HasNumbered n first.state
      → AllNumbered a (n + numbers_given items journal) ps
  legal-numbers-from n standing is =
      subst (λ (k : ℕ). AllNumbered a k ps) (given-from n) (tells-rise-from n standing is).all

  -- so they are in the ledger to which it leads
  pub last-numbers-from : (n : ℕ) → StandsNamed a first → HasNumbered n first.state
      → HasNumbered (n + numbers_given items journal) last.state
  last-numbers-from n standing is =
      subst (λ (k : ℕ). HasNumbered k last.state) (given-from n) (tells-rise-from n standing is).after

  -- A journal of the items of a script has at most 2^20 starts and 20,000,000 firings.
  pub given-few : IsScriptSize items → numbers_given items journal ≤ 2 ^ 20 + 20000000
  given-few size = omega (arith, size.starts, tells-within tells)

module _ {a : Acceptance} (accepted : IsAccepted a) {items : List ScriptItem} {journal : Journal} {ps : List Passage}
    {last : LedgerState} (tells : Tells a items journal ps last) where
  nothing-before : 0 + numbers_given items journal ≡ numbers_given items journal
  nothing-before = omega arith

  -- At each point of a legal journal both next numbers are at most 1 and its starts and firings.
  pub legal-numbers : AllNumbered a (numbers_given items journal) ps
  legal-numbers =
      subst (λ (n : ℕ). AllNumbered a n ps) nothing-before
      (legal-numbers-from accepted tells 0 (empty-standing a) empty-numbered)

  -- so they are in the ledger to which it leads
  pub last-numbers : HasNumbered (numbers_given items journal) last.state
  last-numbers =
      subst (λ (n : ℕ). HasNumbered n last.state) nothing-before
      (last-numbers-from accepted tells 0 (empty-standing a) empty-numbered)

  pub script-numbers : IsScriptSize items → AllNumbered a (2 ^ 20 + 20000000) ps
  script-numbers size =
      All-weaker (PassageNumbers a (numbers_given items journal)) (PassageNumbers a (2 ^ 20 + 20000000))
      (λ p is. passage-more (numbers_given items journal) (2 ^ 20 + 20000000) (given-few accepted tells size) is) ps
      legal-numbers

-- ---- worlds

-- a start raises both next numbers by one at most
start-numbered : (a : Acceptance) (n : ℕ) (l : LedgerState) (r : Resolved) → HasNumbered n l.state
    → HasNumbered (n + 1) (after_start a l r).state
start-numbered a n l r is = by (slice_get a.program.procs r.proc.0)
  where
    by : (o : Option ProcDecl) → HasNumbered (n + 1) (state_or l.state (o >>= λ d.
        Some (started a l.state d (value_bindings d r.values) (channel_bindings d r.names) r.payer)))
    by (Some d) = record { objects = omega (arith, is.objects); names = omega (arith, is.names) }
    by None = record { objects = omega (arith, is.objects); names = omega (arith, is.names) }

starts-numbered : (a : Acceptance) (n : ℕ) (l : LedgerState) (rs : List Resolved) → HasNumbered n l.state
    → HasNumbered (n + length rs) (after_starts a l rs).state
starts-numbered a n l [] is = numbered-more n (n + 0) (omega arith) l.state is
starts-numbered a n l (r ∷ rs) is =
    numbered-more (n + 1 + length rs) (n + length (r ∷ rs)) (omega arith) (after_starts a l (r ∷ rs)).state
    (starts-numbered a (n + 1) (after_start a l r) rs (start-numbered a n l r is))

-- In a world both next numbers are at most those of its origin with its starts and its firings.
pub world-numbers : {a : Acceptance} → IsAccepted a → {w : WorldState} → WorldStandsFor a w → (n : ℕ)
    → HasNumbered n w.origin.state → HasNumbered (n + length w.starts + length w.firings) w.state
world-numbers {a} accepted {w} stands n is =
    let at_start = starts-numbered a n w.origin w.starts is in
    let rises = world-rises accepted stands in
    record {
      objects = omega (arith, at_start.objects, rises.objects);
      names = omega (arith, at_start.names, rises.names);
    }
