-- A ledger after the starts of a batch.
use Rattle.std.proofs.Common.{◌≡◌, ◌∙◌, ℕ, suc, ◌+◌, List, [], ◌∷◌, ◌++◌, length, All, Contains, Option, Some, None, Ok, Err, slice_get, refl, sym, subst, ap, arith, append-nil}
use Rattle.std.proofs.lemmas.List.Elements.{All-push, Contains-append_right}
use Rattle.nomos_ir.specs.Value.{Value}
use Rattle.nomos_ir.specs.declared.declaration.ProcDecl.{ProcDecl}
use Rattle.nomos_ir.specs.declared.ids.VarId.{VarId}
use Rattle.nomos_ir.specs.declared.mode.Mode.TheVariants as mode
use Rattle.nomos_types.specs.Acceptance.{Acceptance, IsAccepted}
use Rattle.nomos_types.specs.Amount.{dths}
use Rattle.nomos_types.specs.Modes.{HasMode}
use Rattle.nomos_types.proofs.ModeLaws.{offered-has_mode}
use Rattle.nomos_machine.specs.Change.{Change, made}
use Rattle.nomos_machine.specs.Given.{Given, begins}
use Rattle.nomos_machine.specs.Objects.{mentioned}
use Rattle.nomos_machine.specs.Starting.{CanStartWith, starts as starting, started, started_with, value_bindings, channel_bindings}
use Rattle.nomos_machine.specs.State.{State}
use Rattle.nomos_machine.specs.TypedState.{IsTyped, IsContractName}
use Rattle.nomos_machine.specs.declared.object.Object.TheVariants as object
use Rattle.nomos_machine.specs.declared.object.Process.{Process}
use Rattle.nomos_machine.proofs.ContractLaws.{started-keeps_contracts}
use Rattle.nomos_machine.proofs.FitLaws.{kept-mentioned}
use Rattle.nomos_machine.proofs.GasLaws.{paid_out-length}
use Rattle.nomos_machine.proofs.NameLaws.{times-contains, type_of-added}
use Rattle.nomos_machine.proofs.StartingLaws as machine
use Rattle.nomos_script.specs.declared.item.Start.{Start}
use Rattle.nomos_legal.specs.Batch.{AllStart, OneRefuses, after_start, after_starts, named, state_or}
use Rattle.nomos_legal.specs.Batch as batch
use Rattle.nomos_legal.specs.Ledger.{LedgerState, IsLedger}
use Rattle.nomos_legal.specs.LineStarts.{NameIsFree, Resolves}
use Rattle.nomos_legal.specs.StandsFor.{NamesBalances, IsSettled}
use Rattle.nomos_legal.specs.declared.refusal.Refusal.{Refusal}
use Rattle.nomos_legal.specs.declared.resolved.Resolved.{Resolved}
use Rattle.nomos_legal.proofs.NamedLaws.{contract-named}
use Rattle.nomos_legal.proofs.ResolveLaws.{resolved-by, declared-s, counted-can_start}
use Rattle.nomos_legal.proofs.SettledLaws.{contracts-kept}

-- ---- the process that starts

-- where the declaration has mode S, the name that the process offers is one that a contract may have
module _ {a : Acceptance} (accepted : IsAccepted a) {s : State} (typed : IsTyped a s) (number : ℕ) {d : ProcDecl}
    (declared : slice_get a.program.procs number ≡ Some d) (values : List (VarId × Value))
    (channels : List (VarId × ℕ)) (payer : ℕ) where
  abbrev change : Change
  change = starting a s d values channels payer

  abbrev child : Process
  child =
      let g : Given = record { values = values; lists = []; channels = channels } in
      begins d g s.next_object s.next_name (dths a.annotations d.amount) payer

  offered-mentioned : Contains (mentioned (object.Process child)) s.next_name
  offered-mentioned = (0, omega arith, refl)

  child-there : Contains (made s change).objects (object.Process child)
  child-there = Contains-append_right s.objects (object.Process child ∷ []) (object.Process child)
      (0, omega arith, refl)

  pub started-contract : d.mode ≡ mode.S → IsContractName a (started a s d values channels payer) s.next_name
  started-contract at_s = record {
    own = d.offers;
    found =
        kept-mentioned s change s.next_name
        (times-contains mentioned s.next_name (made s change).objects (object.Process child) child-there
        offered-mentioned)
        ∙ type_of-added s.types s.next_name d.offers typed.numbered.names;
    mode = subst (HasMode a.program d.offers) at_s (offered-has_mode a.program number d declared);
  }

-- ---- one start

-- the state after a start is the one that the machine gives
pub started-state : (a : Acceptance) (l : LedgerState) (r : Resolved) (s : State)
    → started_with a l.state r.proc.0 r.values r.names r.payer ≡ Some s → (after_start a l r).state ≡ s
started-state a l r s is = ap (state_or l.state) is

-- So many starts were made: both next numbers rose by one each, and names of accounts and deposits are the same.
pub record HasStarted (n : ℕ) (l m : LedgerState) : Type 0 where
  pub objects : m.state.next_object ≡ l.state.next_object + n
  pub names : m.state.next_name ≡ l.state.next_name + n
  pub accounts : m.accounts ≡ l.accounts
  pub deposits : m.deposits ≡ l.deposits

-- what so many starts leave
pub record Started (a : Acceptance) (n : ℕ) (l m : LedgerState) : Type 0 where
  pub settled : IsSettled a m
  pub counted : NamesBalances m
  pub counts : HasStarted n l m

module _ {a : Acceptance} (accepted : IsAccepted a) {l : LedgerState} (settled : IsSettled a l)
    (counted : NamesBalances l) {start : Start} {r : Resolved} (resolves : Resolves a l start (Ok r)) where
  can : CanStartWith a l.state r.proc.0 r.values r.names r.payer
  can = counted-can_start settled counted resolves

  abbrev next : State
  next = machine.after_start can

  -- the ledger with this state
  abbrev with_state : State → LedgerState
  with_state t = record l { contracts = named l.contracts r.contract l.state.next_name; state = t }

  state-is : (after_start a l r).state ≡ next
  state-is = started-state a l r next (machine.starts-with can)

  -- a start that names a contract is one of a declaration at mode S
  can-s : (name : List ℕ) → r.contract ≡ Some name → can.declaration.mode ≡ mode.S
  can-s name is =
      let by = resolved-by resolves in
      let at : slice_get a.program.procs by.number ≡ Some can.declaration =
      subst (λ (x : Resolved). slice_get a.program.procs x.proc.0 ≡ Some can.declaration) by.is can.declared
      in
      let same : by.declaration ≡ can.declaration = one-some (sym by.declared.there ∙ at) in
      let named : start.contract ≡ Some name =
      subst (λ (x : Resolved). x.contract ≡ Some name) by.is is
      in
      ap (λ (d : ProcDecl). d.mode) (sym same) ∙ declared-s by.declared name named
    where
      one-some : {x y : ProcDecl} → Some x ≡ Some y → x ≡ y
      one-some e = cc

  -- no contract has the name of the start
  is-free : NameIsFree l r.contract
  is-free =
      let by = resolved-by resolves in
      subst (λ (x : Resolved). NameIsFree l x.contract) (sym by.is) by.free

  next-contracts : (name : Option (List ℕ)) → r.contract ≡ name
      → All (λ c. IsContractName a next c.1) (named l.contracts name l.state.next_name)
  next-contracts name is = by name is
    where
      kept : All (λ c. IsContractName a next c.1) l.contracts
      kept =
          contracts-kept
          (started-keeps_contracts accepted settled.typed r.proc.0 can.declared can.can can.its_mode) l.contracts
          settled.contracts

      by : (name : Option (List ℕ)) → r.contract ≡ name
          → All (λ c. IsContractName a next c.1) (named l.contracts name l.state.next_name)
      by (Some name) is =
          All-push (λ (c : List ℕ × ℕ). IsContractName a next c.1) l.contracts (name, l.state.next_name) kept
          (started-contract accepted settled.typed r.proc.0 can.declared
          (value_bindings can.declaration r.values) (channel_bindings can.declaration r.names) r.payer (can-s name is))
      by None is = kept

  next-balances : length next.balances ≡ length l.state.balances
  next-balances = paid_out-length (Some (r.payer, dths a.annotations can.declaration.amount)) l.state.balances

  next-settled : IsSettled a (with_state next)
  next-settled = record {
    typed = machine.started_with-typed can accepted settled.typed;
    outside = settled.outside;
    results = append-nil l.state.results ∙ settled.results;
    few = settled.few;
    gas = machine.gas-started_with can accepted settled.typed ∙ settled.gas;
    contracts = next-contracts r.contract refl;
  }

  next-started : Started a 1 l (with_state next)
  next-started = record {
    settled = next-settled;
    counted = counted ∙ sym next-balances;
    counts = record { objects = omega arith; names = omega arith; accounts = refl; deposits = refl };
  }

  -- after a start of a settled ledger
  pub start-started : Started a 1 l (after_start a l r)
  start-started = subst (λ (t : State). Started a 1 l (with_state t)) (sym state-is) next-started

  started-named : IsLedger l → IsLedger (after_start a l r)
  started-named ledger =
      subst (λ (t : State). IsLedger (with_state t)) (sym state-is)
      (contract-named l r.contract l.state.next_name next.balances is-free next-balances ledger)

module _ {a : Acceptance} (accepted : IsAccepted a) {l : LedgerState} (settled : IsSettled a l) (ledger : IsLedger l)
    {start : Start} {r : Resolved} (resolves : Resolves a l start (Ok r)) where
  pub start-settled : IsSettled a (after_start a l r)
  start-settled = (start-started accepted settled ledger.each_account resolves).settled

  pub start-named : IsLedger (after_start a l r)
  start-named = started-named accepted settled ledger.each_account resolves ledger

  pub start-counts : HasStarted 1 l (after_start a l r)
  start-counts = (start-started accepted settled ledger.each_account resolves).counts

-- ---- starts in order

-- one more start comes after the others
pub after_starts-append : (a : Acceptance) (l : LedgerState) (rs qs : List Resolved)
    → after_starts a l (rs ++ qs) ≡ after_starts a (after_starts a l rs) qs
after_starts-append a l [] qs = refl
after_starts-append a l (r ∷ rs) qs = after_starts-append a (after_start a l r) rs qs

pub after_starts-push : (a : Acceptance) (l : LedgerState) (rs : List Resolved) (r : Resolved)
    → after_starts a l (rs ++ r ∷ []) ≡ after_start a (after_starts a l rs) r
after_starts-push a l rs r = after_starts-append a l rs (r ∷ [])

started-none : {a : Acceptance} {l : LedgerState} → IsSettled a l → NamesBalances l → Started a 0 l l
started-none settled counted = record {
  settled = settled;
  counted = counted;
  counts = record { objects = omega arith; names = omega arith; accounts = refl; deposits = refl };
}

started-more : {a : Acceptance} {n : ℕ} {l m k : LedgerState} → Started a 1 l m → Started a n m k
    → Started a (suc n) l k
started-more first others = record {
  settled = others.settled;
  counted = others.counted;
  counts = record {
    objects = omega (arith, first.counts.objects, others.counts.objects);
    names = omega (arith, first.counts.names, others.counts.names);
    accounts = others.counts.accounts ∙ first.counts.accounts;
    deposits = others.counts.deposits ∙ first.counts.deposits;
  };
}

-- after the starts of a settled ledger
pub starts-started : {a : Acceptance} → IsAccepted a → {l : LedgerState} {starts : List Start} {rs : List Resolved}
    → IsSettled a l → NamesBalances l → AllStart a l starts rs → Started a (length rs) l (after_starts a l rs)
starts-started accepted settled counted (batch.none l) = started-none settled counted
starts-started accepted settled counted (batch.line l start r starts rs resolves others) =
    let first = start-started accepted settled counted resolves in
    started-more first (starts-started accepted first.settled first.counted others)

pub starts-named : {a : Acceptance} → IsAccepted a → {l : LedgerState} {starts : List Start} {rs : List Resolved}
    → IsSettled a l → IsLedger l → AllStart a l starts rs → IsLedger (after_starts a l rs)
starts-named accepted settled ledger (batch.none l) = ledger
starts-named accepted settled ledger (batch.line l start r starts rs resolves others) =
    starts-named accepted (start-settled accepted settled ledger resolves)
    (start-named accepted settled ledger resolves) others

module _ {a : Acceptance} (accepted : IsAccepted a) {l : LedgerState} {starts : List Start} {rs : List Resolved}
    (settled : IsSettled a l) (ledger : IsLedger l) (all : AllStart a l starts rs) where
  pub starts-settled : IsSettled a (after_starts a l rs)
  starts-settled = (starts-started accepted settled ledger.each_account all).settled

  pub starts-counts : HasStarted (length rs) l (after_starts a l rs)
  starts-counts = (starts-started accepted settled ledger.each_account all).counts

-- each line comes to one start
pub starts-length : {a : Acceptance} {l : LedgerState} {starts : List Start} {rs : List Resolved}
    → AllStart a l starts rs
    → length rs ≡ length starts
starts-length (batch.none l) = refl
starts-length (batch.line l start r starts rs resolves others) = ap suc (starts-length others)

-- names of accounts and deposits stay in any starts
pub starts-same : (a : Acceptance) (l : LedgerState) (rs : List Resolved)
    → ((after_starts a l rs).accounts ≡ l.accounts) × ((after_starts a l rs).deposits ≡ l.deposits)
starts-same a l [] = (refl, refl)
starts-same a l (r ∷ rs) = starts-same a (after_start a l r) rs

-- ---- line by line

-- where the first lines start, and the others in the ledger that these leave, all start
pub all_start-append : {a : Acceptance} {l : LedgerState} {starts others : List Start} {rs qs : List Resolved}
    → AllStart a l starts rs → AllStart a (after_starts a l rs) others qs → AllStart a l (starts ++ others) (rs ++ qs)
all_start-append (batch.none l) further = further
all_start-append (batch.line l start r starts rs resolves rest) further =
    batch.line l start r _ _ resolves (all_start-append rest further)

-- one more line starts
pub all_start-push : {a : Acceptance} {l : LedgerState} {starts : List Start} {rs : List Resolved} (start : Start)
    (r : Resolved) → AllStart a l starts rs → Resolves a (after_starts a l rs) start (Ok r)
    → AllStart a l (starts ++ start ∷ []) (rs ++ r ∷ [])
all_start-push {a} {l} {starts} {rs} start r all resolves =
    let here : LedgerState = after_starts a l rs in
    all_start-append all (batch.line here start r [] [] resolves (batch.none (after_start a here r)))

-- where the first lines start, the others refuse what they refuse in the ledger that these leave
pub refuses-later : {a : Acceptance} {l : LedgerState} {starts others : List Start} {rs : List Resolved} {line : ℕ}
    {cause : Refusal} → AllStart a l starts rs → OneRefuses a (after_starts a l rs) others line cause
    → OneRefuses a l (starts ++ others) line cause
refuses-later (batch.none l) refuses = refuses
refuses-later (batch.line l start r starts rs resolves rest) refuses =
    batch.later l start r _ _ _ resolves (refuses-later rest refuses)

-- where the first lines start, and the next one does not, that one refuses
pub next-refuses : {a : Acceptance} {l : LedgerState} {starts : List Start} {rs : List Resolved} {cause : Refusal}
    (start : Start) (others : List Start) → AllStart a l starts rs → Resolves a (after_starts a l rs) start (Err cause)
    → OneRefuses a l (starts ++ start ∷ others) start.line cause
next-refuses {a} {l} {starts} {rs} {cause} start others all resolves =
    refuses-later all (batch.this (after_starts a l rs) start others cause resolves)
