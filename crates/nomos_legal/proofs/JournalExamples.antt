-- The legal journal of a script of four items, computed, and journals that are nearly it and are not legal.
use Rattle.std.proofs.Common.{◌≡◌, ◌∙◌, ℕ, zero, suc, ◌+◌, Bool, true, cond, List, [], ◌∷◌, map, length, get_or, Option, Some, None, codes, is_some, refl, subst, ap, arith, ne_eqb}
use Rattle.std.proofs.lemmas.Option.{none-some}
use Rattle.nomos_ir.specs.Evaluation.{evaluation, term_evaluation}
use Rattle.nomos_ir.specs.declared.fault.Fault.TheVariants as fault
use Rattle.nomos_machine.specs.Balances.{HavePaid, paid_by}
use Rattle.nomos_machine.specs.RowPrograms.{type_id, var_id}
use Rattle.nomos_machine.specs.Step as machine
use Rattle.nomos_script.specs.declared.item.Batch.{Batch}
use Rattle.nomos_script.specs.declared.item.ScriptItem.{ScriptItem}
use Rattle.nomos_script.specs.declared.item.ScriptItem.TheVariants as item
use Rattle.nomos_legal.specs.Batch.{AllStart, OneRefuses, after_starts}
use Rattle.nomos_legal.specs.Batch as batch
use Rattle.nomos_legal.specs.Debits.{lines_started, payment_for}
use Rattle.nomos_legal.specs.Ledger.{LedgerState, empty_ledger}
use Rattle.nomos_legal.specs.Legal.{IsLegal, Leads, Tells, batch_limit, entries_of, firings_in}
use Rattle.nomos_legal.specs.Legal as legal
use Rattle.nomos_legal.specs.Passage.{Passage, IsPassage, Undoes, bare, runs, still}
use Rattle.nomos_legal.specs.Passage as passage
use Rattle.nomos_legal.specs.LineStarts.{ContractsFit}
use Rattle.nomos_legal.specs.LineStarts as line
use Rattle.nomos_legal.specs.declared.journal.End.{End}
use Rattle.nomos_legal.specs.declared.journal.End.TheVariants as end
use Rattle.nomos_legal.specs.declared.journal.Entry.{Entry}
use Rattle.nomos_legal.specs.declared.journal.Journal.{Journal}
use Rattle.nomos_legal.specs.declared.refusal.Refusal.TheVariants as refusal
use Rattle.nomos_legal.specs.declared.resolved.Resolved.{Resolved}
use Rattle.nomos_legal.proofs.Examples.{after_cheap, cheap-starts, cheap_started, exec, new_cheap, program, resolved, ten_units, visit}
use Rattle.nomos_legal.proofs.LegalLaws.{tells-lines}
use Rattle.nomos_legal.proofs.UniqueLaws.{entry-told, first-entry, has_entry, passage-one, starts-or_refuses}

-- ---- a script
--
-- deposit u 10
-- begin
-- let c = new u cheap(5)
-- exec u faulty()
-- end
-- exec u visit(c)
-- show

abbrev making : Batch
making = record { line = 2; starts = new_cheap ∷ exec 4 (codes "faulty") [] [] ∷ [] }

abbrev visiting : Batch
visiting = record { line = 6; starts = exec 6 (codes "visit") [] (codes "c" ∷ []) ∷ [] }

abbrev script : List ScriptItem
script = item.Deposit 1 (codes "u") 10 ∷ item.Batch making ∷ item.Batch visiting ∷ item.Show 7 ∷ []

-- ---- what becomes of it

-- the units come
abbrev first : Passage
first = still (item.Deposit 1 (codes "u") 10) (bare 1 end.Deposited) empty_ledger ten_units

first-passes : IsPassage program 10 first
first-passes = passage.deposit empty_ledger 1 10 (codes "u") (omega arith)

-- The second process has a fault, so there is no contract c behind the batch, and what it cost is back.
abbrev faulty_started : Resolved
faulty_started = resolved 6 [] [] None

abbrev made : LedgerState
made = after_starts program ten_units (cheap_started ∷ faulty_started ∷ [])

made-contracts : made.contracts ≡ (codes "c", 1) ∷ []
made-contracts = refl

making-starts : AllStart program ten_units making.starts (cheap_started ∷ faulty_started ∷ [])
making-starts =
    batch.line ten_units new_cheap cheap_started _ _ cheap-starts
    (batch.line after_cheap (exec 4 (codes "faulty") [] []) faulty_started [] []
    (line.starts 0 6 _ [] refl (record { first = refl; there = refl })
    (record { values = line.none; names = line.none }) tt (omega arith))
    (batch.none made))

divides : machine.fault program made.state 2 ≡ Some fault.DivideByZero
unfolding term_evaluation evaluation
divides = refl

abbrev second : Passage
second = runs making [] (end.Aborted 2 fault.DivideByZero) ten_units made made.state ten_units

second-passes : IsPassage program 10 second
second-passes =
    passage.undone ten_units making (cheap_started ∷ faulty_started ∷ []) [] made.state
    (end.Aborted 2 fault.DivideByZero) making-starts
    (record { reached = refl; within = omega arith; allowed = (omega arith, divides) }) tt

-- at its starts its sender paid the unit that the contract declares, and nothing for the other process
abbrev payments : List (ℕ × ℕ)
payments = map (payment_for program) (cheap_started ∷ faulty_started ∷ [])

payments-are : payments ≡ (0, 3) ∷ (0, 0) ∷ []
payments-are = refl

all-started : lines_started (item.Batch making) second.entry ≡ making.starts
all-started = refl

other-pays_nothing : (gas account : ℕ) → paid_by (suc account) (0, gas) ≡ 0
other-pays_nothing gas account =
    ap (λ (b : Bool). cond b gas 0) (ne_eqb 0 (suc account) (λ same. omega (arith, same)))

paid : HavePaid payments ten_units.state made.state
paid zero = refl
paid (suc account) = omega (arith, other-pays_nothing 3 account, other-pays_nothing 0 account)

-- not more, and not less
not-more : ¬ (HavePaid ((0, 3) ∷ (0, 1) ∷ []) ten_units.state made.state)
not-more paid = let of_sender = paid 0 in absurd (omega (arith, of_sender))

not-less : ¬ (HavePaid [] ten_units.state made.state)
not-less paid = let of_sender = paid 0 in absurd (omega (arith, of_sender))

-- so no contract fits
visit-refused : OneRefuses program ten_units visiting.starts 6 (refusal.BadArguments (codes "visit"))
visit-refused =
    batch.this ten_units (exec 6 (codes "visit") [] (codes "c" ∷ [])) [] _
    (line.bad_arguments 0 2 visit refl (record { first = refl; there = refl }) (λ shared fits. no fits.names))
  where
    no : {shared : List ℕ} → ContractsFit program ten_units (codes "c" ∷ []) ((var_id 1, type_id 4) ∷ []) shared → ⊥
    no (line.one {shared = shared} fits others) = none-some shared fits.found

abbrev third : Passage
third =
    still (item.Batch visiting) (bare 6 (end.Refused 6 (refusal.BadArguments (codes "visit")))) ten_units ten_units

abbrev fourth : Passage
fourth = still (item.Show 7) None ten_units ten_units

none-started : lines_started (item.Batch visiting) third.entry ≡ []
none-started = refl

-- ---- its journal

-- a journal of three entries, of which the first is at this line and the third has these firings and this end
abbrev journal_like : ℕ → ℕ → List ℕ → End → Journal
journal_like limit line firings answer = record {
  limit = limit;
  entries =
      record { line = line; firings = []; end = end.Deposited }
      ∷ record { line = 2; firings = []; end = end.Aborted 2 fault.DivideByZero }
      ∷ record { line = 6; firings = firings; end = answer }
      ∷ [];
}

abbrev visit_refused : End
visit_refused = end.Refused 6 (refusal.BadArguments (codes "visit"))

told : Tells program script (journal_like 10 1 [] visit_refused) (first ∷ second ∷ third ∷ fourth ∷ []) ten_units
told = record {
  limit = record { some = omega arith; few = omega arith };
  items_are = refl;
  entries_are = refl;
  leads =
      legal.passes 0 first _ _ first-passes
      (legal.passes 0 second _ _ second-passes
      (legal.passes 0 third _ _ (passage.refused ten_units visiting 6 _ visit-refused)
      (legal.passes 0 fourth _ _ (passage.shown ten_units 7) (legal.done 0 ten_units))));
}

is-legal : IsLegal program script (journal_like 10 1 [] visit_refused)
is-legal = record { passages = first ∷ second ∷ third ∷ fourth ∷ []; last = ten_units; tells = told }

-- ---- near misses

-- a wrong line
wrong_line : ¬ (IsLegal program script (journal_like 10 2 [] visit_refused))
wrong_line legal =
    let first : 2 ≡ 1 = ap (λ (lines : List ℕ). get_or lines 0 0) (tells-lines legal.tells) in
    absurd (omega (arith, first))

-- an entry too few
entry_too_few : (limit : ℕ) (one other : Entry)
    → ¬ (IsLegal program script (record { limit = limit; entries = one ∷ other ∷ [] }))
entry_too_few limit one other legal =
    let count : 2 ≡ 3 = ap (λ (lines : List ℕ). length lines) (tells-lines legal.tells) in
    absurd (omega (arith, count))

-- a batch that may make no firing, or one too many
no_limit : ¬ (IsLegal program script (journal_like 0 1 [] visit_refused))
no_limit legal = let some = legal.tells.limit.some in absurd (omega (arith, some))

limit_too_high : ¬ (IsLegal program script (journal_like 10000001 1 [] visit_refused))
limit_too_high legal = let few = legal.tells.limit.few in absurd (omega (arith, few))

-- ---- a contract that an undone batch made is used

-- the first of passages that lead from a ledger, and the others
record Begins (limit made : ℕ) (l : LedgerState) (i : ScriptItem) (items : List ScriptItem) (e : Entry)
    (entries : List Entry) : Type 0 where
  p : Passage
  passes : IsPassage program (batch_limit limit made) p
  its_item : p.item ≡ i
  its_entry : p.entry ≡ Some e
  its_before : p.before ≡ l
  others : List Passage
  last : LedgerState
  rest : Leads program limit (made + length (firings_in p.entry)) p.after others last
  other_items : map (λ x. x.item) others ≡ items
  other_entries : entries_of others ≡ entries

begins : {limit made : ℕ} {l last : LedgerState} {ps : List Passage} {i : ScriptItem} {items : List ScriptItem}
    {e : Entry} {entries : List Entry} → Leads program limit made l ps last → map (λ p. p.item) ps ≡ i ∷ items
    → entries_of ps ≡ e ∷ entries → has_entry i ≡ true → Begins limit made l i items e entries
begins (legal.done made l) items entries has = absurd cc
begins {i = i} {e = e} {entries = es} (legal.passes made p ps last is rest) items entries has =
    let item : p.item ≡ i = cc items in
    let both : is_some p.entry ≡ is_some (Some e) = entry-told is ∙ ap has_entry item ∙ has in
    let (entry, more) = first-entry p.entry (Some e) (entries_of ps) es both entries in
    record {
      p = p;
      passes = is;
      its_item = item;
      its_entry = entry;
      its_before = refl;
      others = ps;
      last = last;
      rest = rest;
      other_items = cc items;
      other_entries = more;
    }

-- the end of an entry
abbrev ending : Option Entry → List End
ending (Some entry) = entry.end ∷ []
ending None = []

ends : {entry : Option Entry} {e : Entry} → entry ≡ Some e → ending entry ≡ e.end ∷ []
ends is = ap ending is

-- a batch that is undone leaves the ledger as it was
undone-leaves : {most : ℕ} {p : Passage} {b : Batch} {e : Entry} → IsPassage program most p → p.item ≡ item.Batch b
    → p.entry ≡ Some e → Undoes e.end → p.after ≡ p.before
undone-leaves (passage.deposit l line units name fits) is entry undoes = absurd cc
undone-leaves (passage.no_deposit l line units name never) is entry undoes = refl
undone-leaves (passage.refused l batch line cause refuses) is entry undoes = refl
undone-leaves {e = e} (passage.stays l batch starts pids last begun reaches) is entry undoes =
    let committed : e.end ≡ end.Committed = cc (ends entry) in absurd (subst Undoes committed undoes)
undone-leaves (passage.undone l batch starts pids last answer begun reaches undone) is entry undoes = refl
undone-leaves (passage.shown l line) is entry undoes = refl

-- the visit never stays, since no contract is there
never-stays : {most : ℕ} {p : Passage} {e : Entry} → IsPassage program most p → p.item ≡ item.Batch visiting
    → p.entry ≡ Some e → e.end ≡ end.Committed → p.before ≡ ten_units → ⊥
never-stays (passage.deposit l line units name fits) is entry committed before = absurd cc
never-stays (passage.no_deposit l line units name never) is entry committed before = absurd cc
never-stays (passage.refused l batch line cause refuses) is entry committed before =
    absurd (let ends = ends entry in cc)
never-stays (passage.stays l batch starts pids last begun reaches) is entry committed before =
    let batches : batch ≡ visiting = cc is in
    let here = subst (λ (m : LedgerState). AllStart program m batch.starts starts) before begun in
    starts-or_refuses (subst (λ (b : Batch). AllStart program ten_units b.starts starts) batches here) visit-refused
never-stays (passage.undone l batch starts pids last answer begun reaches undoes) is entry committed before =
    let same : answer ≡ end.Committed = (let ends = ends entry in cc) in absurd (subst Undoes same undoes)
never-stays (passage.shown l line) is entry committed before = absurd cc

-- A visit to the contract of the batch that was undone is part of no legal journal, whatever fires in it.
contract_used : (firings : List ℕ) → ¬ (IsLegal program script (journal_like 10 1 firings end.Committed))
contract_used firings legal =
    let one = begins legal.tells.leads legal.tells.items_are legal.tells.entries_are refl in
    let deposits : one.p ≡ first = passage-one one.passes first-passes one.its_item one.its_entry one.its_before in
    let two = begins one.rest one.other_items one.other_entries refl in
    let three = begins two.rest two.other_items two.other_entries refl in
    let before : three.p.before ≡ ten_units =
    three.its_before ∙ undone-leaves two.passes two.its_item two.its_entry tt ∙ two.its_before
    ∙ ap (λ (p : Passage). p.after) deposits
    in
    never-stays three.passes three.its_item three.its_entry refl before
