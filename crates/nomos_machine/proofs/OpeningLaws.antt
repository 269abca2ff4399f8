-- A talk that can be opened leaves a typed state typed, with one outside name, of the type that the process offers; and
-- by a name one opener at most is meant.
use Rattle.std.proofs.Common.{◌≡◌, ◌∙◌, ◌<◌, inl, inr, ℕ, ◌+◌, List, [], ◌∷◌, ◌++◌, Some, get_or, length, slice_get, refl, sym, subst, ap, arith}
use Rattle.std.proofs.lemmas.Bool.{cases_lt}
use Rattle.std.proofs.lemmas.List.Elements.{All-nil}
use Rattle.std.proofs.lemmas.Option.{slice_get_within, slice_get-get_or}
use Rattle.nomos_ir.specs.CostAll.{IsUnderCostAll}
use Rattle.nomos_ir.specs.Paired.{PairedInOrder, none as no_pairs}
use Rattle.nomos_ir.specs.declared.declaration.Par.{Par}
use Rattle.nomos_ir.specs.declared.declaration.ProcDecl.{ProcDecl}
use Rattle.nomos_ir.specs.declared.ids.TypeId.{TypeId}
use Rattle.nomos_ir.specs.declared.ids.VarId.{VarId}
use Rattle.nomos_types.specs.Acceptance.{Acceptance, IsAccepted}
use Rattle.nomos_types.specs.Amount.{dths}
use Rattle.nomos_machine.specs.Balances.{HavePaid}
use Rattle.nomos_machine.specs.Change.{Change, made}
use Rattle.nomos_machine.specs.Matching.{NameHasType}
use Rattle.nomos_machine.specs.Objects.{mentioned}
use Rattle.nomos_machine.specs.Opening.{CanOpen, IsOpenerNamed, OpensTalk, opened_talk, opens_talk, outside_name}
use Rattle.nomos_machine.specs.Starting.{CanStart, FitValues, none}
use Rattle.nomos_machine.specs.State.{State, type_of, gas_of}
use Rattle.nomos_machine.specs.TypedState.{IsTyped, IsContractName}
use Rattle.nomos_machine.proofs.BalanceLaws.{started-paid}
use Rattle.nomos_machine.proofs.ChangeLaws.{done, made-comes}
use Rattle.nomos_machine.proofs.ContractLaws.{KeepsContracts, opened_talk-keeps_contracts}
use Rattle.nomos_machine.proofs.CostLaws.{RunCosts, opened_talk-costs}
use Rattle.nomos_machine.proofs.FitLaws.{kept-mentioned}
use Rattle.nomos_machine.proofs.GasLaws.{gas-changed, paid_out-length}
use Rattle.nomos_machine.proofs.NameLaws.{times-contains, type_of-added}
use Rattle.nomos_machine.proofs.StartingLaws.{opened_talk-typed, opens_talk-keeps_gas}

-- ---- what is meant

module _ {a : Acceptance} (accepted : IsAccepted a) (name : List ℕ) where
  at-place : (n : ℕ) (d e : ProcDecl) → slice_get a.program.procs n ≡ Some d → get_or a.program.procs n e ≡ d
  at-place n d e found =
      one (sym (slice_get-get_or a.program.procs n e (slice_get_within a.program.procs n d found)) ∙ found)
    where
      one : Some (get_or a.program.procs n e) ≡ Some d → get_or a.program.procs n e ≡ d
      one is = cc

  names-differ : (n k : ℕ) (d e : ProcDecl) → IsOpenerNamed a name n d → IsOpenerNamed a name k e → n < k → ⊥
  names-differ n k d e one two less =
      let within = slice_get_within a.program.procs k e two.opener.declared in
      let differ = accepted.is_program.spaces.procs n k d less within in
      differ (ap (λ (x : ProcDecl). x.name) (at-place n d d one.opener.declared) ∙ one.named
      ∙ sym (ap (λ (x : ProcDecl). x.name) (at-place k e d two.opener.declared) ∙ two.named))

  -- by a name one declaration at most is meant
  pub one-opener : (n k : ℕ) (d e : ProcDecl) → IsOpenerNamed a name n d → IsOpenerNamed a name k e
      → (n ≡ k) × (d ≡ e)
  one-opener n k d e one two =
      elim (cases_lt n k) [
        | inl less ↦ absurd (names-differ n k d e one two less)
        | inr more ↦ elim (cases_lt k n) [
          | inl less ↦ absurd (names-differ k n e d two one less)
          | inr least ↦
              let same : n ≡ k = omega (arith, more, least) in (
                same,
                one-declaration (sym one.opener.declared ∙ ap (slice_get a.program.procs) same
                    ∙ two.opener.declared),
              )
        ]
      ]
    where
      one-declaration : Some d ≡ Some e → d ≡ e
      one-declaration is = cc

-- a talk that is opened leads to one state
pub opens-once : {a : Acceptance} {s t u : State} {number account : ℕ} → OpensTalk a s number account t
    → OpensTalk a s number account u → t ≡ u
opens-once {a} {s} {t} {u} {number} {account} one two =
    let declared_one = one.can.opener.declared in
    let declared_two = two.can.opener.declared in
    let same : one.can.declaration ≡ two.can.declaration = cc in
    one.after ∙ ap (λ (d : ProcDecl). opened_talk a s d account) same ∙ sym two.after

-- ---- what it leads to

module _ {a : Acceptance} (accepted : IsAccepted a) {s : State} (typed : IsTyped a s) (number account : ℕ)
    (can : CanOpen a s number account) where
  abbrev d : ProcDecl
  d = can.declaration

  -- nothing is given, and no parameter wants anything
  starts-so : CanStart a s d [] [] account
  starts-so = record {
    fits = record {
      values = subst (λ (pars : List Par). FitValues a.annotations [] [] pars) (sym can.opener.no_values) none;
      channels = subst
          (λ (pars : List (VarId × TypeId)). PairedInOrder (NameHasType a.program a.annotations s.types) [] pars)
          (sym can.opener.no_channels) no_pairs;
    };
    contracts = All-nil (λ (e : VarId × ℕ). IsContractName a s e.1);
    account = can.its_account;
    has = can.has;
  }

  abbrev after : State
  after = opened_talk a s d account

  abbrev change : Change
  change = opens_talk a s d [] [] account

  pub opens-typed : IsTyped a after
  opens-typed = opened_talk-typed accepted typed number can.opener.declared starts-so can.opener.at_r

  pub opens-gas : gas_of after ≡ gas_of s
  opens-gas =
      gas-changed s change [] (done s.objects)
      (opens_talk-keeps_gas accepted typed number can.opener.declared starts-so)

  -- ---- the name

  -- the name that the process offers is outside, and no other one
  pub opens-outside : after.outside ≡ s.next_name ∷ []
  opens-outside = ap (λ (names : List ℕ). names ++ s.next_name ∷ []) can.nobody

  pub opens-name : outside_name after ≡ Some s.next_name
  opens-name = ap (λ (names : List ℕ). slice_get names 0) opens-outside

  -- its type is the one that the declaration offers
  pub opens-type : type_of after.types s.next_name ≡ Some d.offers
  opens-type =
      let there = times-contains mentioned s.next_name (made s change).objects _
      (made-comes s change _ refl) (0, omega arith, refl)
      in
      kept-mentioned s change s.next_name there ∙ type_of-added s.types s.next_name d.offers typed.numbered.names

  -- ---- what stays

  pub opens-keeps_contracts : KeepsContracts a s after
  opens-keeps_contracts =
      opened_talk-keeps_contracts accepted typed number can.opener.declared starts-so can.opener.at_r

  pub opens-costs : IsUnderCostAll a.program → RunCosts a 0 s after
  opens-costs under = opened_talk-costs a under s number d can.opener.declared [] [] account

  -- one object and one name were numbered
  pub opens-numbers : (after.next_object ≡ s.next_object + 1) × (after.next_name ≡ s.next_name + 1)
  opens-numbers = (refl, refl)

  pub opens-accounts : length after.balances ≡ length s.balances
  opens-accounts = paid_out-length change.gives s.balances

  -- the account gives the declared potential, and no other one gives anything
  pub opens-paid : HavePaid ((account, dths a.annotations d.amount) ∷ []) s after
  opens-paid = started-paid a s d [] [] account starts-so
