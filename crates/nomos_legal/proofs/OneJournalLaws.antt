-- Where a policy chooses all firings, the journal of a script is determined.
use Rattle.std.proofs.Common.{◌≡◌, ◌∙◌, ◌<◌, ◌≤◌, inl, inr, ℕ, ◌+◌, List, ◌∷◌, length, map, Option, Some, None, IsSome, refl, sym, subst, ap, arith}
use Rattle.std.proofs.lemmas.Bool.{cases_lt}
use Rattle.std.proofs.lemmas.List.Elements.{All-head, All-tail}
use Rattle.std.proofs.lemmas.Option.{same_Some}
use Rattle.nomos_ir.specs.declared.fault.Fault.{Fault}
use Rattle.nomos_types.specs.Acceptance.{Acceptance}
use Rattle.nomos_machine.specs.Deeds.{Deed}
use Rattle.nomos_machine.specs.Optional.{◌>>=◌}
use Rattle.nomos_machine.specs.Policies.{IsChosen, FollowsPolicy, IsRunOf, IsChosenAfter}
use Rattle.nomos_machine.specs.State.{State}
use Rattle.nomos_machine.specs.Step.{deed_of, fault, fault_in, state_after, step, IsReady}
use Rattle.nomos_machine.specs.declared.policy.Policy.{Policy}
use Rattle.nomos_machine.proofs.PolicyLaws.{Continues, chosen-one, follows-further, follows-one}
use Rattle.nomos_machine.proofs.PreservationLaws.{step-or_fault}
use Rattle.nomos_script.specs.declared.item.Batch.{Batch}
use Rattle.nomos_script.specs.declared.item.ScriptItem.{ScriptItem}
use Rattle.nomos_legal.specs.Batch.{AllStart, OneRefuses, after_starts}
use Rattle.nomos_legal.specs.Ending.{EndsAs, IsAllowed}
use Rattle.nomos_legal.specs.Ledger.{LedgerState}
use Rattle.nomos_legal.specs.Legal.{Aborts, FollowPolicy, Leads, PassesBy, TellsFrom, batch_limit, entries_of, firings_in}
use Rattle.nomos_legal.specs.Legal as legal
use Rattle.nomos_legal.specs.Passage.{Passage, IsPassage, RunsTo, bare}
use Rattle.nomos_legal.specs.Passage as passage
use Rattle.nomos_legal.specs.declared.journal.End.{End}
use Rattle.nomos_legal.specs.declared.journal.End.TheVariants as end
use Rattle.nomos_legal.specs.declared.journal.Entry.{Entry}
use Rattle.nomos_legal.specs.declared.journal.Journal.{Journal}
use Rattle.nomos_legal.specs.declared.refusal.Refusal.{Refusal}
use Rattle.nomos_legal.specs.declared.refusal.Refusal.TheVariants as refusal
use Rattle.nomos_legal.specs.declared.resolved.Resolved.{Resolved}
use Rattle.nomos_legal.proofs.FollowLaws.{aborts-weaker}
use Rattle.nomos_legal.proofs.UniqueLaws.{all_start-one, ends-one, passage-one, refuses-one, starts-or_refuses}

-- ---- readiness

-- a process with a step is ready, and so is one with a fault
pub step-ready : (a : Acceptance) (s t : State) (pid : ℕ) → step a s pid ≡ Some t → IsReady a s pid
step-ready a s t pid steps = at (deed_of a s pid) steps
  where
    at : (d : Option Deed) → (d >>= state_after s) ≡ Some t → IsSome d
    at (Some d) is = refl
    at None is = absurd cc

fault-ready : (a : Acceptance) (s : State) (pid : ℕ) (f : Fault) → fault a s pid ≡ Some f → IsReady a s pid
fault-ready a s pid f faults = at (deed_of a s pid) faults
  where
    at : (d : Option Deed) → (d >>= fault_in) ≡ Some f → IsSome d
    at (Some d) is = refl
    at None is = absurd cc

-- ---- ends

module _ (a : Acceptance) (s : State) (count most : ℕ) where
  -- an end is given by the state, or is a fault's
  data Ending : End → Type 0 where
    plain : (e : End) → EndsAs a s count most e → Ending e
    aborted : (pid : ℕ) (f : Fault) → count < most → fault a s pid ≡ Some f → Ending (end.Aborted pid f)

  ending : (e : End) → IsAllowed a s count most e → Ending e
  ending (end.Aborted pid f) allowed = aborted pid f allowed.0 allowed.1
  ending end.Committed allowed = plain end.Committed allowed
  ending end.Blocked allowed = plain end.Blocked allowed
  ending (end.Steps n) allowed = plain (end.Steps n) allowed
  ending end.Deposited allowed = absurd allowed
  ending (end.Refused line cause) allowed = absurd allowed

  -- a state gives no end while a process is ready and firings are left
  never-plain : (e : End) (pid : ℕ) → IsReady a s pid → count < most → EndsAs a s count most e → ⊥
  never-plain end.Committed pid ready left ends = ends.0 pid ready
  never-plain end.Blocked pid ready left ends = ends.0 pid ready
  never-plain (end.Steps n) pid ready left ends = omega (arith, left, ends.1)
  never-plain end.Deposited pid ready left ends = ends
  never-plain (end.Aborted p f) pid ready left ends = ends
  never-plain (end.Refused line cause) pid ready left ends = ends

  module _ (kind : Policy) (last : ℕ) where
    -- the end is one, where a fault is that of the process that the policy chooses
    ending-one : (e f : End) → Ending e → Ending f → Aborts (IsChosen kind a s last) e
        → Aborts (IsChosen kind a s last) f → e ≡ f
    ending-one _ _ (plain e one) (plain f other) chosen chosen_other = ends-one a s count most e f one other
    ending-one _ _ (aborted p f left faults) (aborted q g left_other faults_other) chosen chosen_other =
        let same : q ≡ p = chosen-one kind a s last q p chosen_other chosen in
        let one : f ≡ g = same_Some f g (sym faults ∙ ap (fault a s) (sym same) ∙ faults_other) in
        (λ i. end.Aborted (sym same i) (one i))
    ending-one _ _ (plain e ends) (aborted q g left faults) chosen chosen_other =
        absurd (never-plain e q (fault-ready a s q g faults) left ends)
    ending-one _ _ (aborted p f left faults) (plain e ends) chosen chosen_other =
        absurd (never-plain e p (fault-ready a s p f faults) left ends)

    -- and there is none where the process that it chooses has a step, and firings are left
    never-ends : (e : End) → Continues kind a s last → count < most → Ending e → Aborts (IsChosen kind a s last) e → ⊥
    never-ends _ goes left (plain e ends) chosen =
        never-plain e goes.pid (step-ready a s goes.next goes.pid goes.steps) left ends
    never-ends _ goes left (aborted p f fewer faults) chosen =
        let same : p ≡ goes.pid = chosen-one kind a s last p goes.pid chosen goes.chosen in
        step-or_fault a s goes.pid goes.next f goes.steps (ap (fault a s) (sym same) ∙ faults)

-- ---- firings with an end

-- firings from a state that the policy chooses, with an end that it allows
record RunBy (kind : Policy) (a : Acceptance) (most : ℕ) (start : State) (pids : List ℕ) (t : State) (answer : End)
    : Type 0 where
  last : ℕ
  follows : FollowsPolicy kind a start 0 pids t last
  within : length pids ≤ most
  ends : Ending a t (length pids) most answer
  chosen : Aborts (IsChosen kind a t last) answer

-- what a policy chooses after firings that follow it to their end
chosen-there : {kind : Policy} {a : Acceptance} {start t : State} {pids : List ℕ} {last : ℕ} (e : End)
    → FollowsPolicy kind a start 0 pids t last → Aborts (IsChosenAfter kind a start pids t) e
    → Aborts (IsChosen kind a t last) e
chosen-there {kind} {a} {start} {t} {pids} {last} e follows after =
    aborts-weaker (IsChosenAfter kind a start pids t) (IsChosen kind a t last)
    (λ pid chosen.
    let same = (follows-one chosen.follows follows refl).2 in
    subst (λ (n : ℕ). IsChosen kind a t n pid) same chosen.chosen) e after

run-by : {kind : Policy} {a : Acceptance} {most : ℕ} {start t : State} {pids : List ℕ} {answer : End}
    → RunsTo a most start pids t answer → IsRunOf kind a start pids t
    → Aborts (IsChosenAfter kind a start pids t) answer
    → RunBy kind a most start pids t answer
run-by {a = a} {most = most} {t = t} {pids = pids} {answer = answer} runs is after = record {
  last = is.last;
  follows = is.follows;
  within = runs.within;
  ends = ending a t (length pids) most answer runs.allowed;
  chosen = chosen-there answer is.follows after;
}

record SameRun (pids more : List ℕ) (e f : End) : Type 0 where
  firings : pids ≡ more
  ends : e ≡ f

module _ {kind : Policy} {a : Acceptance} {most : ℕ} {start : State} where
  -- fewer firings do not end where more of them follow the policy
  not-fewer : {pids more : List ℕ} {t u : State} {e f : End} → RunBy kind a most start pids t e
      → RunBy kind a most start more u f → length pids < length more → ⊥
  not-fewer {pids} {more} {t} {u} {e} one other fewer =
      let goes = follows-further one.follows other.follows fewer in
      never-ends a t (length pids) most kind one.last e goes (omega (arith, fewer, other.within)) one.ends one.chosen

  -- as many firings are the same, and so is their end
  as-many : {pids more : List ℕ} {t u : State} {e f : End} → RunBy kind a most start pids t e
      → RunBy kind a most start more u f → length pids ≡ length more → SameRun pids more e f
  as-many {pids} {more} {t} {u} {e} {f} one other same =
      let (firings, state, last) = follows-one one.follows other.follows same in
      let ends : Ending a t (length pids) most f =
      subst (λ (n : ℕ). Ending a t n most f) (sym same)
      (subst (λ (s : State). Ending a s (length more) most f) (sym state) other.ends)
      in
      let chosen : Aborts (IsChosen kind a t one.last) f =
      subst (λ (n : ℕ). Aborts (IsChosen kind a t n) f) (sym last)
      (subst (λ (s : State). Aborts (IsChosen kind a s other.last) f) (sym state) other.chosen)
      in
      record {
        firings = firings;
        ends = ending-one a t (length pids) most kind one.last e f one.ends ends one.chosen chosen;
      }

  run-one : {pids more : List ℕ} {t u : State} {e f : End} → RunBy kind a most start pids t e
      → RunBy kind a most start more u f → SameRun pids more e f
  run-one {pids} {more} one other =
      elim (cases_lt (length pids) (length more)) [
        | inl fewer ↦ absurd (not-fewer one other fewer)
        | inr least ↦ elim (cases_lt (length more) (length pids)) [
          | inl fewer ↦ absurd (not-fewer other one fewer)
          | inr most ↦ as-many one other (omega (arith, least, most))
        ]
      ]

-- ---- passages

-- the entry of a batch
abbrev record_of : Batch → List ℕ → End → Option Entry
record_of batch pids e = Some (record { line = batch.line; firings = pids; end = e })

-- a batch of which a line is refused does not start
pub not-refused : {a : Acceptance} {l k : LedgerState} (batch other : Batch) {starts : List Resolved} {n : ℕ}
    {cause : Refusal}
    → AllStart a l batch.starts starts → OneRefuses a k other.starts n cause → l ≡ k → batch ≡ other → ⊥
not-refused {a} {l} {k} batch other {starts} {n} {cause} begun refuses ledger batches =
    starts-or_refuses begun
    (subst (λ (b : Batch). OneRefuses a l b.starts n cause) (sym batches)
    (subst (λ (m : LedgerState). OneRefuses a m other.starts n cause) (sym ledger) refuses))

-- the entry of a batch that ran is the same where its run is
module _ {kind : Policy} {a : Acceptance} {most : ℕ} where
  batch-entry : {l k : LedgerState} (batch other : Batch) {starts others : List Resolved} {pids more : List ℕ}
      {t u : State} {e f : End} → AllStart a l batch.starts starts → AllStart a k other.starts others → l ≡ k
      → batch ≡ other → RunBy kind a most (after_starts a l starts).state pids t e
      → RunBy kind a most (after_starts a k others).state more u f
      → record_of batch pids e ≡ record_of other more f
  batch-entry {l} {k} batch other {starts} {others} {pids} {more} {t} {u} {e}
      {f} begun begun_other ledger batches run run_other =
      let same : starts ≡ others =
      all_start-one begun
      (subst (λ (b : Batch). AllStart a l b.starts others) (sym batches)
      (subst (λ (m : LedgerState). AllStart a m other.starts others) (sym ledger) begun_other))
      in
      let start : (after_starts a k others).state ≡ (after_starts a l starts).state =
      (λ i. (after_starts a (sym ledger i) (sym same i)).state)
      in
      let one = run-one run (subst (λ (s : State). RunBy kind a most s more u f) start run_other) in
      (λ i. record_of (batches i) (one.firings i) (one.ends i))

module _ (kind : Policy) {a : Acceptance} {most : ℕ} where
  -- what becomes of an item has one entry
  passage-entry : {p q : Passage} → IsPassage a most p → IsPassage a most q → PassesBy kind a p p.entry
      → PassesBy kind a q q.entry → p.item ≡ q.item → p.before ≡ q.before → p.entry ≡ q.entry
  passage-entry (passage.deposit l line units name fits)
      (passage.deposit k line_other units_other name_other fits_other) by by_other item before =
      let lines : line ≡ line_other = cc item in
      (λ i. bare (lines i) end.Deposited)
  passage-entry (passage.deposit l line units name fits)
      (passage.no_deposit k line_other units_other name_other never) by by_other item before =
      let amounts : units ≡ units_other = cc item in
      let deposits = ap (λ (m : LedgerState). m.deposits) before in
      absurd (never (omega (arith, fits, amounts, deposits)))
  passage-entry (passage.deposit l line units name fits) _ by by_other item before = absurd (cc item)
  passage-entry (passage.no_deposit l line units name never)
      (passage.no_deposit k line_other units_other name_other never_other) by by_other item before =
      let lines : line ≡ line_other = cc item in
      (λ i. bare (lines i) (end.Refused (lines i) refusal.TooMuchGas))
  passage-entry (passage.no_deposit l line units name never)
      (passage.deposit k line_other units_other name_other fits) by by_other item before =
      let amounts : units ≡ units_other = cc item in
      let deposits = ap (λ (m : LedgerState). m.deposits) before in
      absurd (never (omega (arith, fits, amounts, deposits)))
  passage-entry (passage.no_deposit l line units name never) _ by by_other item before = absurd (cc item)
  passage-entry {q = q} (passage.refused l batch line cause refuses)
      (passage.refused k other line_other cause_other refuses_other) by by_other item before =
      let batches : batch ≡ other = cc item in
      let (lines, causes) =
      refuses-one refuses
      (subst (λ (b : Batch). OneRefuses a l b.starts line_other cause_other) (sym batches)
      (subst (λ (m : LedgerState). OneRefuses a m other.starts line_other cause_other) (sym before) refuses_other))
      in
      (λ i. bare (batches i).line (end.Refused (lines i) (causes i)))
  passage-entry (passage.refused l batch line cause refuses)
      (passage.stays k other starts pids last begun reaches) by by_other item before =
      let batches : batch ≡ other = cc item in
      absurd (not-refused other batch begun refuses (sym before) (sym batches))
  passage-entry (passage.refused l batch line cause refuses)
      (passage.undone k other starts pids last answer begun reaches undoes) by by_other item before =
      let batches : batch ≡ other = cc item in
      absurd (not-refused other batch begun refuses (sym before) (sym batches))
  passage-entry (passage.refused l batch line cause refuses) _ by by_other item before = absurd (cc item)
  passage-entry (passage.shown l line) (passage.shown k line_other) by by_other item before = refl
  passage-entry (passage.shown l line) _ by by_other item before = absurd (cc item)
  passage-entry (passage.stays l batch starts pids last begun reaches)
      (passage.stays k other others more last_other begun_other reaches_other) by by_other item before =
      let batches : batch ≡ other = cc item in
      batch-entry batch other begun begun_other before batches (run-by reaches by.0 by.1)
      (run-by reaches_other by_other.0 by_other.1)
  passage-entry (passage.stays l batch starts pids last begun reaches)
      (passage.undone k other others more last_other answer begun_other reaches_other undoes) by by_other item before =
      let batches : batch ≡ other = cc item in
      batch-entry batch other begun begun_other before batches (run-by reaches by.0 by.1)
      (run-by reaches_other by_other.0 by_other.1)
  passage-entry (passage.stays l batch starts pids last begun reaches)
      (passage.refused k other line cause refuses) by by_other item before =
      let batches : batch ≡ other = cc item in
      absurd (not-refused batch other begun refuses before batches)
  passage-entry (passage.stays l batch starts pids last begun reaches) _ by by_other item before = absurd (cc item)
  passage-entry (passage.undone l batch starts pids last answer begun reaches undoes)
      (passage.undone k other others more last_other answer_other begun_other reaches_other undoes_other) by by_other
      item before =
      let batches : batch ≡ other = cc item in
      batch-entry batch other begun begun_other before batches (run-by reaches by.0 by.1)
      (run-by reaches_other by_other.0 by_other.1)
  passage-entry (passage.undone l batch starts pids last answer begun reaches undoes)
      (passage.stays k other others more last_other begun_other reaches_other) by by_other item before =
      let batches : batch ≡ other = cc item in
      batch-entry batch other begun begun_other before batches (run-by reaches by.0 by.1)
      (run-by reaches_other by_other.0 by_other.1)
  passage-entry (passage.undone l batch starts pids last answer begun reaches undoes)
      (passage.refused k other line cause refuses) by by_other item before =
      let batches : batch ≡ other = cc item in
      absurd (not-refused batch other begun refuses before batches)
  passage-entry (passage.undone l batch starts pids last answer begun reaches undoes) _ by by_other item before =
      absurd (cc item)

-- ---- journals

leads-by : (kind : Policy) {a : Acceptance} {limit made k : ℕ} {l h last m : LedgerState} {ps qs : List Passage}
    → Leads a limit made l ps last → Leads a limit k h qs m → FollowPolicy kind a ps → FollowPolicy kind a qs
    → made ≡ k → l ≡ h → map (λ p. p.item) ps ≡ map (λ p. p.item) qs → (ps ≡ qs) × (last ≡ m)
leads-by kind (legal.done made l) (legal.done k h) by by_other count ledger items = (refl, ledger)
leads-by kind (legal.done made l) (legal.passes k q qs m is rest) by by_other count ledger items = absurd cc
leads-by kind (legal.passes made p ps last is rest) (legal.done k h) by by_other count ledger items = absurd cc
leads-by kind {a} {limit} (legal.passes made p ps last is rest) (legal.passes k q qs m is_other rest_other) by by_other
    count ledger items =
    let Follows : Passage → Type 0 = λ x. PassesBy kind a x x.entry in
    let item : p.item ≡ q.item = cc items in
    let others : map (λ (x : Passage). x.item) ps ≡ map (λ (x : Passage). x.item) qs = cc items in
    let here : IsPassage a (batch_limit limit made) q =
    subst (λ (n : ℕ). IsPassage a (batch_limit limit n) q) (sym count) is_other
    in
    let entry =
    passage-entry kind is here (All-head Follows p ps by) (All-head Follows q qs by_other) item ledger
    in
    let same : p ≡ q = passage-one is here item entry ledger in
    let (further, end_ledger) =
    leads-by kind rest rest_other (All-tail Follows p ps by) (All-tail Follows q qs by_other)
    (λ i. count i + length (firings_in (entry i))) (ap (λ (x : Passage). x.after) same) others
    in
    ((λ i. same i ∷ further i), end_ledger)

-- Two legal journals of the same items and limit from one ledger that follow one policy are one journal.
pub follows-one_journal : (kind : Policy) {a : Acceptance} {first : LedgerState} {items : List ScriptItem}
    {journal other : Journal} {ps qs : List Passage} {last m : LedgerState}
    → TellsFrom a first items journal ps last → TellsFrom a first items other qs m
    → journal.limit ≡ other.limit → FollowPolicy kind a ps → FollowPolicy kind a qs
    → (journal ≡ other) × (ps ≡ qs) × (last ≡ m)
follows-one_journal kind {a} {first} {journal = journal} {other = other} {qs = qs} {m = m} one two limit by by_other =
    let leads : Leads a journal.limit 0 first qs m =
    subst (λ (n : ℕ). Leads a n 0 first qs m) (sym limit) two.leads
    in
    let (same, ledger) = leads-by kind one.leads leads by by_other refl refl (one.items_are ∙ sym two.items_are) in
    let entries : journal.entries ≡ other.entries = sym one.entries_are ∙ ap entries_of same ∙ two.entries_are in
    ((λ i. record { limit = limit i; entries = entries i }), same, ledger)
