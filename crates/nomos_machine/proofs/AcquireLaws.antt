-- A client acquires a shared contract: the contract goes on at mode L under the next name, with its shared name as
-- base, and a typed state stays typed.
use Rattle.std.proofs.Common.{◌≡◌, ◌≢◌, ◌∙◌, ◌≤◌, ◌<◌, ◌⊎◌, inl, inr, ℕ, ◌+◌, [], ◌∷◌, length, Contains, Option, Some, None, refl, sym, subst, ap, arith, ne_eqb}
use Rattle.std.proofs.lemmas.Bool.{cases_eq}
use Rattle.std.proofs.lemmas.List.Elements.{All-nil, All-cons}
use Rattle.std.specs.Option.{option_to_list}
use Rattle.nomos_ir.specs.Bindings.{bound_to, bind}
use Rattle.nomos_ir.specs.Order.{count_of}
use Rattle.nomos_ir.specs.Unfold.{Unfolds}
use Rattle.nomos_ir.specs.declared.ids.CodeId.{CodeId}
use Rattle.nomos_ir.specs.declared.ids.TypeId.{TypeId}
use Rattle.nomos_ir.specs.declared.ids.VarId.{VarId}
use Rattle.nomos_ir.specs.declared.mode.Mode.{Mode}
use Rattle.nomos_ir.specs.declared.mode.Mode.TheVariants as mode
use Rattle.nomos_ir.specs.declared.type_node.TypeNode.TheVariants as node
use Rattle.nomos_ir.proofs.SumLaws.{count-after_bind}
use Rattle.nomos_types.specs.Acceptance.{Acceptance, IsAccepted}
use Rattle.nomos_types.specs.Modes.{HasMode}
use Rattle.nomos_types.proofs.ModeLaws.{mode-unique, part-has_mode}
use Rattle.nomos_types.proofs.OccurrenceLaws.{count-here, count-elsewhere}
use Rattle.nomos_types.proofs.SynchronizingLaws.{synchronizing-unfolded}
use Rattle.nomos_machine.specs.Change.{Change, made}
use Rattle.nomos_machine.specs.Matching.{ProcessTyped}
use Rattle.nomos_machine.specs.Objects.{object_number, provided, used, shared_names, shared_of, mentioned, times}
use Rattle.nomos_machine.specs.State.{State, type_of}
use Rattle.nomos_machine.specs.TypedState.{VariablesDiffer, HasVariables, IsOwned, ObjectTyped, at_base, InSection, IsTyped}
use Rattle.nomos_machine.specs.declared.object.Object.{Object}
use Rattle.nomos_machine.specs.declared.object.Object.TheVariants as object
use Rattle.nomos_machine.specs.declared.object.Process.{Process}
use Rattle.nomos_machine.proofs.FitLaws.{Fits}
use Rattle.nomos_machine.proofs.GoesLaws.{process-typed, process-variables}
use Rattle.nomos_machine.proofs.NameLaws.{mentioned-sum, type_of-below, type_of-added, type_of-other}
use Rattle.nomos_machine.proofs.OwnedLaws.{CountsAsBefore, owned-as_before, unmentioned, next-unmentioned, next-not_outside}
use Rattle.nomos_machine.proofs.SharingLaws.{Meeting, client_after, contract_after, both_go, both-replaces, both-times, both-keep, contract-there, both-lead}

-- how both go on: the client has the next name, of this type, and the contract offers it
abbrev pub acquiring : State → Process → Process → VarId → CodeId → CodeId → TypeId → Meeting
acquiring s p other v next onward body = record {
  client_code = next;
  channels = bind v s.next_name p.channels;
  contract_code = onward;
  contract_mode = mode.L;
  offers = s.next_name;
  base = Some other.offers;
  next_type = Some body;
}

module _ {a : Acceptance} (accepted : IsAccepted a) {s : State} (typed : IsTyped a s) {p other : Process}
    (there : Contains s.objects (object.Process p)) (there_other : Contains s.objects (object.Process other))
    (apart : p.pid ≢ other.pid) (v : VarId) (next onward : CodeId) (body shared : TypeId) (at_s : other.mode ≡ mode.S)
    (found : type_of s.types other.offers ≡ Some shared) (unfolds : Unfolds a.program shared.0 (node.Up body))
    (free : bound_to v.0 p.channels ≡ None) where
  abbrev k : Meeting
  k = acquiring s p other v next onward body

  abbrev acquired : Change
  acquired = both_go a s p other k

  shared-mode : HasMode a.program shared mode.S
  shared-mode = subst (HasMode a.program shared) at_s ((process-typed typed there_other).offered shared found)

  pub body-mode : HasMode a.program body mode.L
  body-mode =
      let formed = accepted.typed.formed in
      part-has_mode {k = mode.L} formed.program formed.contractive formed.modes shared-mode unfolds
      (0, omega arith, refl)

  type-same : {t u : TypeId} → Some t ≡ Some u → t ≡ u
  type-same is = cc

  modes-differ : mode.S ≡ mode.L → ⊥
  modes-differ is = cc

  -- ---- the next name

  pub next-typed : type_of (made s acquired).types s.next_name ≡ Some body
  next-typed = type_of-added s.types s.next_name body typed.numbered.names

  -- each name that has a type is another one
  typed-earlier : (name : ℕ) (t : TypeId) → type_of s.types name ≡ Some t → name ≢ s.next_name
  typed-earlier name t is same =
      let below : name < s.next_name = type_of-below s.types name s.next_name t typed.numbered.names is in
      omega arith

  client-uses : (name : ℕ)
      → count_of name (used (object.Process (client_after p k)))
      ≡ count_of name (used (object.Process p)) + count_of name (s.next_name ∷ [])
  client-uses name =
      let bound = count-after_bind name v s.next_name p.channels (process-variables typed there).channels in
      let nothing : count_of name (option_to_list (bound_to v.0 p.channels)) ≡ 0 =
      ap (λ (o : Option ℕ). count_of name (option_to_list o)) free
      in
      omega arith

  next-owned : IsOwned mode.L (made s acquired) s.next_name
  next-owned =
      let (unprovided, unused, no_base) = unmentioned typed s.next_name (next-unmentioned typed) in
      let itself = count-here s.next_name s.next_name [] refl in
      let elsewhere = count-elsewhere s.next_name other.offers []
      (ne_eqb other.offers s.next_name (typed-earlier other.offers shared found))
      in (
        omega (arith, both-times typed there there_other apart k provided s.next_name),
        omega (arith, both-times typed there there_other apart k used s.next_name, client-uses s.next_name),
        next-not_outside typed,
      )

  next-section : InSection a (made s acquired) s.next_name body
  next-section = record {
    base = other.offers;
    leads = at_base (contract_after other k) (contract-there typed there there_other apart k) refl refl;
    shared = shared;
    found = both-keep typed there there_other apart k other.offers shared found;
    synchronizing = synchronizing-unfolded accepted.typed.formed accepted.typed.synchronizing unfolds;
  }

  -- ---- other names

  earlier-type : (name : ℕ) (t : TypeId) → name ≢ s.next_name → type_of (made s acquired).types name ≡ Some t
      → type_of s.types name ≡ Some t
  earlier-type name t other_name is =
      sym (type_of-other s.types s.next_name name body (λ same. other_name (sym same))) ∙ is

  earlier-counts : (name : ℕ) (t : TypeId) (m : Mode) → type_of s.types name ≡ Some t → HasMode a.program t m
      → CountsAsBefore m s (made s acquired) name
  earlier-counts name t m is at_m =
      let not_next : s.next_name ≢ name = λ same. typed-earlier name t is (sym same) in
      let none = count-elsewhere name s.next_name [] (ne_eqb s.next_name name not_next) in
      record {
        provided = λ not_s. omega (
          arith,
          both-times typed there there_other apart k provided name,
          count-elsewhere name other.offers [] (ne_eqb other.offers name (not_shared not_s)),
        );
        used = λ not_s. omega (arith, both-times typed there there_other apart k used name, client-uses name);
        shared = λ is_s. omega (arith, both-times typed there there_other apart k shared_names name, stood);
        outside = refl;
      }
    where
      not_shared : m ≢ mode.S → other.offers ≢ name
      not_shared not_s same =
          let here : type_of s.types name ≡ Some shared =
          subst (λ (n : ℕ). type_of s.types n ≡ Some shared) same found
          in
          let one : shared ≡ t = cc in
          not_s (mode-unique accepted.typed.formed.program at_m
          (subst (λ (u : TypeId). HasMode a.program u mode.S) one shared-mode))

      stood : count_of name (shared_of other.mode other.offers other.base) ≡ count_of name (other.offers ∷ [])
      stood = ap (λ (o : Mode). count_of name (shared_of o other.offers other.base)) at_s

  -- ---- the whole change

  abbrev client : Object
  client = object.Process (client_after p k)

  abbrev contract : Object
  contract = object.Process (contract_after other k)

  pub acquire-fits : ProcessTyped a (made s acquired).types (length s.balances) (client_after p k)
      → ProcessTyped a (made s acquired).types (length s.balances) (contract_after other k)
      → VariablesDiffer (client_after p k) → Fits a s acquired
  acquire-fits client_typed contract_typed differ = record {
    olds = object.Process p ∷ object.Process other ∷ [];
    replaces = both-replaces typed there there_other apart k;
    numbered = All-nil (λ o. object_number o ≡ s.next_object);
    variables = All-cons HasVariables client (contract ∷ []) differ
        (All-cons HasVariables contract [] contract_differs (All-nil HasVariables));
    typed = All-cons Here client (contract ∷ []) client_typed (All-cons Here contract [] contract_typed (All-nil Here));
    owned = λ name t m is at_m some. owned-by name t m is at_m (cases_eq name s.next_name);
    keeps_shared = λ name t is at_shared. (earlier-counts name t mode.S is at_shared).shared refl;
    outside = λ name some.
        let (t, is, at_r) = typed.outside name some in
        (t, both-keep typed there there_other apart k name t is, at_r, still-mentioned name t is at_r);
    sections = λ name t is at_l some. section-of name t is at_l (cases_eq name s.next_name);
  }
    where
      Here : Object → Type 0
      Here o = ObjectTyped a (made s acquired).types (length s.balances) o

      contract_differs : HasVariables contract
      contract_differs = let variables = process-variables typed there_other in record {
        values = variables.values;
        lists = variables.lists;
        channels = variables.channels;
        apart = variables.apart;
      }

      -- a name that an outside party has is provided as before
      still-mentioned : (name : ℕ) (t : TypeId) → type_of s.types name ≡ Some t → HasMode a.program t mode.R
          → 1 ≤ times mentioned (made s acquired).objects name
      still-mentioned name t is at_r =
          let provides = (earlier-counts name t mode.R is at_r).provided (λ same. cc) in
          let owned = typed.owned name t mode.R is at_r in
          omega (arith, mentioned-sum (made s acquired).objects name, owned.0)

      owned-by : (name : ℕ) (t : TypeId) (m : Mode) → type_of (made s acquired).types name ≡ Some t
          → HasMode a.program t m → (name ≡ s.next_name) ⊎ (name ≢ s.next_name) → IsOwned m (made s acquired) name
      owned-by name t m is at_m (inl same) =
          let here : type_of (made s acquired).types s.next_name ≡ Some t =
          subst (λ (n : ℕ). type_of (made s acquired).types n ≡ Some t) same is
          in
          let one : t ≡ body = type-same (sym here ∙ next-typed) in
          let at_l : mode.L ≡ m = mode-unique accepted.typed.formed.program body-mode
          (subst (λ (u : TypeId). HasMode a.program u m) one at_m)
          in
          subst (λ (o : Mode). IsOwned o (made s acquired) name) at_l
          (subst (λ (n : ℕ). IsOwned mode.L (made s acquired) n) (sym same) next-owned)
      owned-by name t m is at_m (inr earlier) =
          let before = earlier-type name t earlier is in
          owned-as_before m s (made s acquired) name (earlier-counts name t m before at_m)
          (typed.owned name t m before at_m)

      section-of : (name : ℕ) (t : TypeId) → type_of (made s acquired).types name ≡ Some t → HasMode a.program t mode.L
          → (name ≡ s.next_name) ⊎ (name ≢ s.next_name) → InSection a (made s acquired) name t
      section-of name t is at_l (inl same) =
          let here : type_of (made s acquired).types s.next_name ≡ Some t =
          subst (λ (n : ℕ). type_of (made s acquired).types n ≡ Some t) same is
          in
          let one : t ≡ body = type-same (sym here ∙ next-typed) in
          subst (λ (u : TypeId). InSection a (made s acquired) name u) (sym one)
          (subst (λ (n : ℕ). InSection a (made s acquired) n body) (sym same) next-section)
      section-of name t is at_l (inr earlier) =
          let section = typed.sections name t (earlier-type name t earlier is) at_l in
          record {
            base = section.base;
            leads = both-lead typed there there_other apart k (λ n. Unit {0}) section.base
                (λ is_l stay. modes-differ (sym at_s ∙ is_l)) (λ m n inside end. tt) name tt section.leads;
            shared = section.shared;
            found = both-keep typed there there_other apart k section.base section.shared section.found;
            synchronizing = section.synchronizing;
          }
