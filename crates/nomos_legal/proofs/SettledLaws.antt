-- Ledgers that are settled or stand for a program stay so in a deposit, and have little gas.
use Rattle.std.proofs.Common.{◌∷◌, ◌≡◌, ◌∙◌, ℕ, ◌+◌, ◌-◌, ◌*◌, ◌^◌, ◌<◌, ◌≤◌, List, [], length, All, Contains, Option, Some, None, IsSome, refl, sym, subst, ap, arith, append-nil, length-append}
use Rattle.std.proofs.lemmas.List.Elements.{All-nil, All-weaker}
use Rattle.std.proofs.lemmas.List.Quantifiers.{position-Some}
use Rattle.std.proofs.lemmas.Nat.{mul-le}
use Rattle.std.specs.Str.{bytes_eq}
use Rattle.nomos_types.specs.Acceptance.{Acceptance, IsAccepted}
use Rattle.nomos_machine.specs.Deeds.{Deed}
use Rattle.nomos_machine.specs.Objects.{object_at, process_of}
use Rattle.nomos_machine.specs.Optional.{◌>>=◌}
use Rattle.nomos_machine.specs.Readiness.{looks_ready}
use Rattle.nomos_machine.specs.Run.{IsQuiet}
use Rattle.nomos_machine.specs.State.{State, gas_of, process_at}
use Rattle.nomos_machine.specs.TypedState.{IsTyped, IsContractName}
use Rattle.nomos_machine.specs.declared.object.Object.{Object}
use Rattle.nomos_machine.specs.declared.object.Object.TheVariants as object
use Rattle.nomos_machine.specs.declared.object.Process.{Process}
use Rattle.nomos_machine.proofs.ContractLaws.{KeepsContracts, contract-kept, credited-keeps_contracts, opened-keeps_contracts}
use Rattle.nomos_machine.proofs.GasLaws.{gas-credited, gas-opened, paid_in-length}
use Rattle.nomos_machine.proofs.PreservationLaws.{ready-told, ready-none}
use Rattle.nomos_machine.proofs.StartingLaws.{credited-typed, opened-typed, empty-typed}
use Rattle.nomos_legal.specs.Ending.{HasTransaction}
use Rattle.nomos_legal.specs.Ledger.{Contracts, LedgerState, IsLedger, FitsDeposits, account_of, accounts_with, deposited, empty_ledger, state_with}
use Rattle.nomos_legal.specs.StandsFor.{IsSettled, NamesBalances, StandsFor}

-- ---- gas

-- all gas of deposits is little
pub little-deposits : (deposits unit : ℕ) → deposits < 2 ^ 64 → unit ≤ 2 ^ 31 → deposits * unit < 2 ^ 95
little-deposits deposits unit few small =
    let most : deposits * unit ≤ (2 ^ 64 - 1) * 2 ^ 31 = mul-le deposits unit (2 ^ 64 - 1) (2 ^ 31)
    (omega arith) small in
    omega arith

-- a settled ledger has little gas
pub settled-gas : {a : Acceptance} → IsAccepted a → {l : LedgerState} → IsSettled a l → gas_of l.state < 2 ^ 95
settled-gas {a} accepted {l} settled =
    subst (λ (g : ℕ). g < 2 ^ 95) (sym settled.gas)
    (little-deposits l.deposits a.annotations.unit settled.few accepted.small_unit)

-- the gas that a deposit brings to it is little
pub deposit-gas : {a : Acceptance} → IsAccepted a → {l : LedgerState} → IsSettled a l → (units : ℕ)
    → FitsDeposits l units
    → gas_of l.state + units * a.annotations.unit < 2 ^ 95
deposit-gas {a} accepted {l} settled units fits =
    let unit : ℕ = a.annotations.unit in
    let all : gas_of l.state + units * unit ≡ (l.deposits + units) * unit = omega (arith, settled.gas) in
    subst (λ (g : ℕ). g < 2 ^ 95) (sym all) (little-deposits (l.deposits + units) unit fits accepted.small_unit)

-- ---- states with the same objects

-- what is seen at one look is seen among the same objects
same-looks : (a : Acceptance) (s t : State) (p : Process) → t.objects ≡ s.objects
    → looks_ready a t p ≡ looks_ready a s p
same-looks a s t p same = ap (λ (objects : List Object). looks_ready a (record s { objects = objects }) p) same

-- so a typed state is quiet that has the objects of a quiet one
pub same-quiet : {a : Acceptance} → IsAccepted a → {s t : State} → IsTyped a s → IsTyped a t → t.objects ≡ s.objects
    → IsQuiet a s → IsQuiet a t
same-quiet {a} accepted {s} {t} typed_s typed_t same quiet q ready = at (process_at t q) refl
  where
    found : (o : Option Process) → process_at t q ≡ o → process_at s q ≡ o
    found o is = sym (ap (λ (objects : List Object). object_at objects q >>= process_of) same) ∙ is

    at : (o : Option Process) → process_at t q ≡ o → ⊥
    at (Some p) is =
        let looks = (ready-told accepted typed_t q p is).0 ready in
        quiet q ((ready-told accepted typed_s q p (found (Some p) is)).1 (sym (same-looks a s t p same) ∙ looks))
    at None is = ready-none accepted typed_t q is ready

pub same-no_transaction : {s t : State} → t.objects ≡ s.objects → ¬ (HasTransaction s) → ¬ (HasTransaction t)
same-no_transaction {s} {t} same none has =
    none (record {
      process = has.process;
      there = subst (λ (objects : List Object). Contains objects (object.Process has.process)) same has.there;
      at_t = has.at_t;
    })

-- ---- the empty ledger

pub empty-settled : (a : Acceptance) → IsSettled a empty_ledger
empty-settled a = record {
  typed = empty-typed a;
  outside = refl;
  results = refl;
  few = omega arith;
  gas = omega arith;
  contracts = All-nil (λ (c : List ℕ × ℕ). IsContractName a empty_ledger.state c.1);
}

pub empty-stands : (a : Acceptance) → StandsFor a empty_ledger
empty-stands a = record {
  settled = empty-settled a;
  quiet = λ q ready. nothing ready;
  no_transaction = λ has. nobody has.there;
}
  where
    nothing : IsSome {T = Deed} None → ⊥
    nothing is = cc

    nobody : {o : Object} → Contains [] o → ⊥
    nobody there = absurd (omega (arith, there.1))

-- ---- deposits

-- contracts are contracts where their names keep their types
pub contracts-kept : {a : Acceptance} {s t : State} → KeepsContracts a s t → (contracts : Contracts)
    → All (λ c. IsContractName a s c.1) contracts → All (λ c. IsContractName a t c.1) contracts
contracts-kept {a} {s} {t} keeps contracts all =
    All-weaker (λ (c : List ℕ × ℕ). IsContractName a s c.1) (λ (c : List ℕ × ℕ). IsContractName a t c.1)
    (λ c contract. contract-kept keeps c.1 contract) contracts all

-- the account of a name is one of them
pub account-within : (accounts : List (List ℕ)) (name : List ℕ) (n : ℕ) → account_of accounts name ≡ Some n
    → n < length accounts
account-within accounts name n e = (position-Some (λ a. bytes_eq a name) accounts n [] e).0

-- the ledger with so much more on the account of this number, or on a new one
abbrev with_more : Acceptance → LedgerState → ℕ → List (List ℕ) → Option ℕ → LedgerState
with_more a l units accounts found = record l {
  accounts = accounts;
  deposits = l.deposits + units;
  state = state_with l.state (units * a.annotations.unit) found;
}

with-settled : {a : Acceptance} → {l : LedgerState} → IsSettled a l → length l.accounts ≡ length l.state.balances
    → (name : List ℕ) (units : ℕ) → FitsDeposits l units → (accounts : List (List ℕ)) (found : Option ℕ)
    → account_of l.accounts name ≡ found → IsSettled a (with_more a l units accounts found)
with-settled {a} {l} settled each name units fits accounts (Some n) is =
    let gas : ℕ = units * a.annotations.unit in
    let inside : n < length l.state.balances = omega (arith, account-within l.accounts name n is, each) in
    record {
      typed = credited-typed settled.typed n gas;
      outside = settled.outside;
      results = append-nil l.state.results ∙ settled.results;
      few = fits;
      gas = omega (arith, gas-credited l.state n gas inside, settled.gas);
      contracts = contracts-kept (credited-keeps_contracts a l.state n gas) l.contracts settled.contracts;
    }
with-settled {a} {l} settled each name units fits accounts None is =
    let gas : ℕ = units * a.annotations.unit in
    record {
      typed = opened-typed settled.typed gas;
      outside = settled.outside;
      results = settled.results;
      few = fits;
      gas = omega (arith, gas-opened l.state gas, settled.gas);
      contracts = contracts-kept (opened-keeps_contracts a l.state gas) l.contracts settled.contracts;
    }

-- a deposit brings no objects
with-objects : (s : State) (gas : ℕ) (found : Option ℕ) → (state_with s gas found).objects ≡ s.objects
with-objects s gas (Some n) = append-nil s.objects
with-objects s gas None = refl

-- and leaves a name for each balance
with-counted : (l : LedgerState) (name : List ℕ) (gas : ℕ) (found : Option ℕ) → NamesBalances l
    → length (accounts_with l.accounts name found) ≡ length (state_with l.state gas found).balances
with-counted l name gas (Some n) counted =
    omega (arith, counted, paid_in-length (Some (n, gas)) l.state.balances)
with-counted l name gas None counted =
    omega (arith, counted, length-append l.accounts (name ∷ []), length-append l.state.balances (gas ∷ []))

-- What a deposit that fits leaves, of a ledger with a name for each balance: it is settled or stands as the one before.
module _ {a : Acceptance} (accepted : IsAccepted a) (l : LedgerState) (counted : NamesBalances l) (name : List ℕ)
    (units : ℕ) (fits : FitsDeposits l units) where
  pub deposited-counted : NamesBalances (deposited a.annotations.unit l name units)
  deposited-counted = with-counted l name (units * a.annotations.unit) (account_of l.accounts name) counted

  counted-settled : IsSettled a l → IsSettled a (deposited a.annotations.unit l name units)
  counted-settled settled =
      let found : Option ℕ = account_of l.accounts name in
      with-settled settled counted name units fits (accounts_with l.accounts name found) found refl

  pub counted-stands : StandsFor a l → StandsFor a (deposited a.annotations.unit l name units)
  counted-stands stands =
      let after : LedgerState = deposited a.annotations.unit l name units in
      let settled : IsSettled a after = counted-settled stands.settled in
      let same : after.state.objects ≡ l.state.objects =
      with-objects l.state (units * a.annotations.unit) (account_of l.accounts name)
      in
      record {
        settled = settled;
        quiet = same-quiet accepted stands.settled.typed settled.typed same stands.quiet;
        no_transaction = same-no_transaction same stands.no_transaction;
      }

module _ {a : Acceptance} (accepted : IsAccepted a) {l : LedgerState} (ledger : IsLedger l) (name : List ℕ) (units : ℕ)
    (fits : FitsDeposits l units) where
  -- a deposit that fits leaves a settled ledger settled
  pub deposited-settled : IsSettled a l → IsSettled a (deposited a.annotations.unit l name units)
  deposited-settled = counted-settled accepted l ledger.each_account name units fits

  -- and one that stands standing
  pub deposited-stands : StandsFor a l → StandsFor a (deposited a.annotations.unit l name units)
  deposited-stands = counted-stands accepted l ledger.each_account name units fits
