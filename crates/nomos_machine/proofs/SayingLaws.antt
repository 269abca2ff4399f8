-- What an outside party says leaves a typed state typed, and its name an outside one.
use Rattle.std.proofs.Common.{◌≡◌, ◌≢◌, ◌∙◌, ◌≤◌, inl, inr, ℕ, ◌+◌, false, List, [], ◌∷◌, ◌++◌, length, map, Some, refl, sym, subst, ap, arith, slice_get}
use Rattle.std.proofs.lemmas.Bool.{cases_eq}
use Rattle.std.proofs.lemmas.List.{length-map}
use Rattle.std.proofs.lemmas.List.Elements.{All-nil, All-cons, Contains-append_left}
use Rattle.nomos_ir.specs.Order.{count_of}
use Rattle.nomos_ir.specs.declared.ids.TypeId.{TypeId}
use Rattle.nomos_ir.specs.declared.mode.Mode.{Mode}
use Rattle.nomos_ir.specs.declared.mode.Mode.TheVariants as mode
use Rattle.nomos_ir.proofs.SumLaws.{count-first}
use Rattle.nomos_types.specs.Acceptance.{Acceptance, IsAccepted}
use Rattle.nomos_types.specs.Modes.{HasMode}
use Rattle.nomos_types.proofs.AlikeLaws.{alike_types-same}
use Rattle.nomos_types.proofs.ModeLaws.{mode-unique}
use Rattle.nomos_types.proofs.OccurrenceLaws.{contains-found, counted}
use Rattle.nomos_machine.specs.Balances.{HavePaid}
use Rattle.nomos_machine.specs.Change.{Change, changed, made, CanGive}
use Rattle.nomos_machine.specs.Objects.{object_number, provided, used, shared_names, mentioned, times}
use Rattle.nomos_machine.specs.Opening.{outside_name}
use Rattle.nomos_machine.specs.Revised.{renamed}
use Rattle.nomos_machine.specs.Saying.{MaySay, Says, brought, says}
use Rattle.nomos_machine.specs.State.{State, type_of, gas_of}
use Rattle.nomos_machine.specs.TypedMessage.{MessageTyped}
use Rattle.nomos_machine.specs.TypedState.{HasVariables, IsOwned, ObjectTyped, IsTyped}
use Rattle.nomos_machine.specs.declared.object.Message.{Message}
use Rattle.nomos_machine.specs.declared.object.Object.{Object}
use Rattle.nomos_machine.specs.declared.object.Object.TheVariants as object
use Rattle.nomos_machine.specs.declared.object.Said.{Said}
use Rattle.nomos_machine.proofs.AwaitLaws.{awaits-brings, brought-carries_none, may_say-once}
use Rattle.nomos_machine.proofs.BalanceLaws.{gives-paid}
use Rattle.nomos_machine.proofs.ChangeLaws.{done, made-weight}
use Rattle.nomos_machine.proofs.ContractLaws.{KeepsContracts, changed-keeps_contracts}
use Rattle.nomos_machine.proofs.CostLaws.{RunCosts, costs-nothing}
use Rattle.nomos_machine.proofs.FitLaws.{Fits, kept-mentioned, changed-typed}
use Rattle.nomos_machine.proofs.GasLaws.{KeepsGas, gas-changed, paid_out-length}
use Rattle.nomos_machine.proofs.IdleLaws.{idle}
use Rattle.nomos_machine.proofs.LinearLaws.{count-other}
use Rattle.nomos_machine.proofs.NameLaws.{mentioned-sum, type_of-below, type_of-kept, type_of-added, type_of-other}
use Rattle.nomos_machine.proofs.NotWrongLaws.{outside-unused}
use Rattle.nomos_machine.proofs.OwnedLaws.{made-times, owned-as_before, unmentioned, next-unmentioned, next-not_outside}
use Rattle.nomos_machine.proofs.PlacedLaws.{leads-more}
use Rattle.nomos_machine.proofs.RenameLaws.{renamed-old, renamed-third, renamed-gone, renamed-new}
use Rattle.nomos_machine.proofs.TalkLaws.{brings-keeps_mode}

-- what is said leads to one state
pub says-once : {a : Acceptance} {s t u : State} {account : ℕ} {what : Said} → Says a s account what t
    → Says a s account what u → t ≡ u
says-once {a} {s} {t} {u} {account} {what} one two =
    let (gas, goes) = may_say-once one.may two.may in
    let outside_one = one.may.outside in
    let outside_two = two.may.outside in
    let name : one.may.name ≡ two.may.name = cc in
    one.after ∙ ap (λ (n : ℕ). changed s (says s n (brought what) one.goes account one.gas)) name
    ∙ ap (λ (v : TypeId). changed s (says s two.may.name (brought what) v account one.gas)) goes
    ∙ ap (λ (n : ℕ). changed s (says s two.may.name (brought what) two.goes account n)) gas ∙ sym two.after

module _ {a : Acceptance} (accepted : IsAccepted a) {s : State} (typed : IsTyped a s) (what : Said) (gas : ℕ)
    (goes : TypeId) (may : MaySay a s what gas goes) (account : ℕ) where
  abbrev name : ℕ
  name = may.name

  abbrev said : Change
  said = says s name (brought what) goes account gas

  abbrev message : Message
  message = record {
    number = s.next_object;
    to_client = false;
    from = name;
    next = Some s.next_name;
    payload = brought what;
    purse = gas;
  }

  -- ---- the name before

  is-outside : 1 ≤ count_of name s.outside
  is-outside = counted name s.outside (contains-found s.outside 0 name may.outside)

  own-mode : HasMode a.program may.on.own mode.R
  own-mode =
      let (t, found, at_r) = typed.outside name is-outside in
      let here = may.on.found in
      let same : t ≡ may.on.own = cc in
      subst (λ (u : TypeId). HasMode a.program u mode.R) same at_r

  own-owned : IsOwned mode.R s name
  own-owned = typed.owned name may.on.own mode.R may.on.found own-mode

  unused : (times used s.objects name ≡ 0) × (count_of name s.outside ≡ 1)
  unused = outside-unused accepted typed name is-outside

  goes-mode : HasMode a.program goes mode.R
  goes-mode = brings-keeps_mode accepted.typed.formed own-mode may.on.unfolds (awaits-brings s.types may.on.awaits)

  not-next : name ≢ s.next_name
  not-next same = omega (arith, type_of-below s.types name s.next_name may.on.own typed.numbered.names may.on.found)

  -- ---- types

  fresh-type : type_of (made s said).types s.next_name ≡ Some goes
  fresh-type = type_of-added s.types s.next_name goes typed.numbered.names

  old-type : (n : ℕ) → n ≢ s.next_name → type_of (made s said).types n ≡ type_of s.types n
  old-type n other = type_of-other s.types s.next_name n goes (λ same. other (sym same))

  type-kept : (n : ℕ) (t : TypeId) → type_of s.types n ≡ Some t → type_of (made s said).types n ≡ Some t
  type-kept n t found = type_of-kept s.types ((s.next_name, goes) ∷ []) n t found

  -- ---- counts

  provides-more : (n : ℕ) → times provided (made s said).objects n
      ≡ times provided s.objects n + count_of n (s.next_name ∷ [])
  provides-more n = omega (arith, made-times provided n s said [] (done s.objects))

  uses-more : (n : ℕ) → times used (made s said).objects n ≡ times used s.objects n + count_of n (name ∷ [])
  uses-more n =
      let ends : count_of n ((name ∷ []) ++ []) ≡ count_of n (used (object.Message message)) =
      ap (λ (ns : List ℕ). count_of n ((name ∷ []) ++ ns)) (sym (brought-carries_none what)) in
      omega (arith, made-times used n s said [] (done s.objects), ends)

  shared-same : (n : ℕ) → times shared_names (made s said).objects n ≡ times shared_names s.objects n
  shared-same n = omega (arith, made-times shared_names n s said [] (done s.objects))

  owned-after : (n : ℕ) (t : TypeId) (m : Mode) → type_of (made s said).types n ≡ Some t → HasMode a.program t m
      → IsOwned m (made s said) n
  owned-after n t m found has =
      elim (cases_eq n s.next_name) [
        | inl same ↦
            let here = subst (λ (k : ℕ). type_of (made s said).types k ≡ Some t) same found in
            let fresh = fresh-type in
            let is : goes ≡ t = cc in
            let at : mode.R ≡ m = mode-unique accepted.typed.formed.program goes-mode
            (subst (λ (u : TypeId). HasMode a.program u m) (sym is) has)
            in
            subst (λ (k : ℕ). IsOwned m (made s said) k) (sym same)
            (subst (λ (k : Mode). IsOwned k (made s said) s.next_name) at next-owned)
        | inr other ↦
            elim (cases_eq n name) [
              | inl same ↦
                  let before = subst (λ (k : ℕ). type_of s.types k ≡ Some t) same (sym (old-type n other) ∙ found) in
                  let here = may.on.found in
                  let is : may.on.own ≡ t = cc in
                  let at : mode.R ≡ m = mode-unique accepted.typed.formed.program own-mode
                  (subst (λ (u : TypeId). HasMode a.program u m) (sym is) has)
                  in
                  subst (λ (k : ℕ). IsOwned m (made s said) k) (sym same)
                  (subst (λ (k : Mode). IsOwned k (made s said) name) at name-owned)
              | inr third ↦
                  let before = sym (old-type n other) ∙ found in
                  let none = count-other n s.next_name other in
                  let neither = count-other n name third in
                  owned-as_before m s (made s said) n
                  (record {
                    provided = λ is. omega (arith, provides-more n, none);
                    used = λ is. omega (arith, uses-more n, neither);
                    shared = λ is. shared-same n;
                    outside = renamed-third name s.next_name n s.outside third other;
                  })
                  (typed.owned n t m before has)
            ]
      ]
    where
      next-owned : IsOwned mode.R (made s said) s.next_name
      next-owned =
          let none = unmentioned typed s.next_name (next-unmentioned typed) in
          let one = count-first s.next_name [] in
          let other = count-other s.next_name name (λ same. not-next (sym same)) in
          let out = renamed-new name s.next_name s.outside (λ same. not-next (sym same)) in (
            omega (arith, provides-more s.next_name, none.0, one),
            omega (arith, uses-more s.next_name, none.1, other, out, next-not_outside typed, unused.1),
          )

      name-owned : IsOwned mode.R (made s said) name
      name-owned =
          let one = count-first name [] in
          let other = count-other name s.next_name not-next in
          let out = renamed-gone name s.next_name s.outside (λ same. not-next (sym same)) in (
            omega (arith, provides-more name, own-owned.0, other),
            omega (arith, uses-more name, unused.0, one, out),
          )

  -- ---- what comes is typed

  message-typed : MessageTyped a (made s said).types message
  message-typed =
      let formed = accepted.typed.formed in record {
        own = may.on.own;
        found = type-kept name may.on.own may.on.found;
        head = may.on.head;
        unfolds = may.on.unfolds;
        goes = Some goes;
        brings = awaits-brings (made s said).types may.on.awaits;
        next = record {
          own = goes;
          found = fresh-type;
          alike = alike_types-same a.annotations formed.program formed.contractive goes-mode;
        };
      }

  -- ---- the whole

  pub says-fits : Fits a s said
  says-fits = record {
    olds = [];
    replaces = done s.objects;
    numbered = All-cons HasNext (object.Message message) [] refl (All-nil HasNext);
    variables = All-cons HasVariables (object.Message message) [] tt (All-nil HasVariables);
    typed = All-cons Typed (object.Message message) [] message-typed (All-nil Typed);
    owned = λ n t m found has some. owned-after n t m found has;
    keeps_shared = λ n t found at_s. shared-same n;
    outside = outside-after;
    sections = λ n t found at_l some.
        let other : n ≢ s.next_name = λ same.
        let here = subst (λ (k : ℕ). type_of (made s said).types k ≡ Some t) same found in
        let fresh = fresh-type in
        let is : t ≡ goes = cc in
        r-is_not_l (mode-unique accepted.typed.formed.program goes-mode
        (subst (λ (u : TypeId). HasMode a.program u mode.L) is at_l))
        in
        let section = typed.sections n t (sym (old-type n other) ∙ found) at_l in
        record {
          base = section.base;
          leads = leads-more s.objects (made s said).objects
              (λ o there. Contains-append_left s.objects (object.Message message ∷ []) o there)
              section.base n section.leads;
          shared = section.shared;
          found = type-kept section.base section.shared section.found;
          synchronizing = section.synchronizing;
        };
  }
    where
      HasNext : Object → Type 0
      HasNext o = object_number o ≡ s.next_object

      Typed : Object → Type 0
      Typed o = ObjectTyped a (made s said).types (length s.balances) o

      r-is_not_l : mode.R ≡ mode.L → ⊥
      r-is_not_l same = cc

      outside-after : (n : ℕ) → 1 ≤ count_of n said.outside
          → (t : TypeId) × (type_of (made s said).types n ≡ Some t) × HasMode a.program t mode.R
          × (1 ≤ times mentioned (made s said).objects n)
      outside-after n some =
          elim (cases_eq n s.next_name) [
            | inl same ↦
                let one = count-first s.next_name [] in
                let there : 1 ≤ times mentioned (made s said).objects s.next_name =
                omega (arith, mentioned-sum (made s said).objects s.next_name, provides-more s.next_name, one)
                in (
                  goes,
                  subst (λ (k : ℕ). type_of (made s said).types k ≡ Some goes) (sym same) fresh-type,
                  goes-mode,
                  subst (λ (k : ℕ). 1 ≤ times mentioned (made s said).objects k) (sym same) there,
                )
            | inr other ↦
                let third : n ≢ name = λ same.
                let gone : count_of n said.outside ≡ 0 =
                ap (λ (k : ℕ). count_of k said.outside) same
                ∙ renamed-gone name s.next_name s.outside (λ is. not-next (sym is))
                in
                omega (arith, some, gone)
                in
                let as_before = renamed-third name s.next_name n s.outside third other in
                let (t, found, at_r) = typed.outside n (omega (arith, some, as_before)) in
                let owned = typed.owned n t mode.R found at_r in (
                  t,
                  type-kept n t found,
                  at_r,
                  omega (arith, mentioned-sum (made s said).objects n, provides-more n, owned.0),
                )
          ]

  -- the account pays what the message carries
  pub says-keeps_gas : CanGive (Some (account, gas)) s.balances → KeepsGas s said []
  says-keeps_gas can = record { gives = can; gets = tt; even = omega arith }

  pub said-typed : IsTyped a (changed s said)
  said-typed = changed-typed a s said typed says-fits

  pub said-gas : CanGive (Some (account, gas)) s.balances → gas_of (changed s said) ≡ gas_of s
  said-gas can = gas-changed s said [] (done s.objects) (says-keeps_gas can)

  -- there are as many outside names as there were
  pub said-outside : length (changed s said).outside ≡ length s.outside
  said-outside = length-map s.outside _

  -- ---- the name afterwards

  -- the outside name is the next one
  pub said-name : outside_name (changed s said) ≡ Some s.next_name
  said-name = first-renamed s.outside may.outside
    where
      first-renamed : (names : List ℕ) → slice_get names 0 ≡ Some name
          → slice_get (map (renamed name s.next_name) names) 0 ≡ Some s.next_name
      first-renamed [] is = absurd cc
      first-renamed (n ∷ names) is =
          let same : n ≡ name = cc in
          ap (λ (k : ℕ). Some k) (ap (renamed name s.next_name) same ∙ renamed-old name s.next_name)

  -- and has the type at which the talk goes on
  pub said-type : type_of (changed s said).types s.next_name ≡ Some goes
  said-type =
      let there : 1 ≤ times mentioned (made s said).objects s.next_name =
      omega (
        arith,
        mentioned-sum (made s said).objects s.next_name,
        provides-more s.next_name,
        count-first s.next_name [],
      )
      in
      kept-mentioned s said s.next_name there ∙ fresh-type

  -- ---- what stays

  pub said-keeps_contracts : KeepsContracts a s (changed s said)
  said-keeps_contracts = changed-keeps_contracts said typed says-fits

  pub said-costs : RunCosts a 0 s (changed s said)
  said-costs =
      costs-nothing a s (changed s said) (omega (arith, made-weight (idle a) s said [] (done s.objects))) (omega arith)

  -- one object and one name were numbered
  pub said-numbers : ((changed s said).next_object ≡ s.next_object + 1)
      × ((changed s said).next_name ≡ s.next_name + 1)
  said-numbers = (refl, refl)

  pub said-accounts : length (changed s said).balances ≡ length s.balances
  said-accounts = paid_out-length said.gives s.balances

  -- the account gives what the message carries, and no other one gives anything
  pub said-paid : CanGive (Some (account, gas)) s.balances → HavePaid ((account, gas) ∷ []) s (changed s said)
  said-paid can = gives-paid s said account gas refl refl can
