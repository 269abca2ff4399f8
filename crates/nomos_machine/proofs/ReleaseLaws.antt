-- A client releases an acquired contract: the contract goes on at mode S under its base, to which the client has a
-- reference again, and a typed state stays typed.
--
-- The released name is mentioned no more: the contract alone provided it, the client alone used it, and no name of mode
-- L is a base. The names of mode L that are mentioned afterwards lead to their bases as before: the contract was the
-- end of those ways alone that come to the released name, and none comes there from another name, since a message that
-- leads on to it would use it, and its only user was the client, which is a process.
use Rattle.std.proofs.Common.{◌≡◌, ◌≢◌, ◌∙◌, ◌≤◌, inl, inr, ℕ, ◌+◌, [], ◌∷◌, length, Contains, Option, Some, None, refl, sym, subst, ap, arith, ne_eqb, append-nil}
use Rattle.std.proofs.lemmas.Bool.{cases_eq}
use Rattle.std.proofs.lemmas.List.Elements.{All-nil, All-cons, Contains-append_left}
use Rattle.std.specs.Option.{option_to_list}
use Rattle.nomos_ir.specs.Bindings.{bound_to, bind, unbind}
use Rattle.nomos_ir.specs.Order.{count_of}
use Rattle.nomos_ir.specs.declared.ids.CodeId.{CodeId}
use Rattle.nomos_ir.specs.declared.ids.TypeId.{TypeId}
use Rattle.nomos_ir.specs.declared.ids.VarId.{VarId}
use Rattle.nomos_ir.specs.declared.mode.Mode.{Mode}
use Rattle.nomos_ir.specs.declared.mode.Mode.TheVariants as mode
use Rattle.nomos_ir.proofs.BindingLaws.{unbind-ascending, bound-after_unbind, bound-after_unbind_other}
use Rattle.nomos_ir.proofs.SumLaws.{count-after_bind, count-after_unbind}
use Rattle.nomos_types.specs.Acceptance.{Acceptance, IsAccepted}
use Rattle.nomos_types.specs.Modes.{HasMode}
use Rattle.nomos_types.proofs.ModeLaws.{mode-unique}
use Rattle.nomos_types.proofs.OccurrenceLaws.{count-here, count-elsewhere, counted}
use Rattle.nomos_machine.specs.Change.{Change, made}
use Rattle.nomos_machine.specs.Matching.{ProcessTyped}
use Rattle.nomos_machine.specs.Objects.{object_number, provided, used, based, carried, shared_names, shared_of, mentioned, talk_end, times}
use Rattle.nomos_machine.specs.State.{State, NameTypes, type_of}
use Rattle.nomos_machine.specs.TypedState.{VariablesDiffer, HasVariables, ObjectTyped, IsTyped}
use Rattle.nomos_machine.specs.declared.object.Message.{Message}
use Rattle.nomos_machine.specs.declared.object.Object.{Object}
use Rattle.nomos_machine.specs.declared.object.Object.TheVariants as object
use Rattle.nomos_machine.specs.declared.object.Process.{Process}
use Rattle.nomos_machine.proofs.FitLaws.{Fits}
use Rattle.nomos_machine.proofs.GoesLaws.{process-typed, process-variables}
use Rattle.nomos_machine.proofs.HeldLaws.{based-shared}
use Rattle.nomos_machine.proofs.NameLaws.{mentioned-sum}
use Rattle.nomos_machine.proofs.OwnedLaws.{CountsAsBefore, owned-as_before}
use Rattle.nomos_machine.proofs.ApartLaws.{times-two, numbers-differ}
use Rattle.nomos_machine.proofs.SharingLaws.{Meeting, client_after, contract_after, both_go, both-replaces, both-times, both-lead}

-- how both go on: the client has a reference to the shared name, and the contract offers it
abbrev pub releasing : Process → VarId → VarId → CodeId → CodeId → ℕ → Meeting
releasing p v r next onward shared = record {
  client_code = next;
  channels = bind r shared (unbind v.0 p.channels);
  contract_code = onward;
  contract_mode = mode.S;
  offers = shared;
  base = None;
  next_type = None;
}

module _ {a : Acceptance} (accepted : IsAccepted a) {s : State} (typed : IsTyped a s) {p other : Process}
    (there : Contains s.objects (object.Process p)) (there_other : Contains s.objects (object.Process other))
    (apart : p.pid ≢ other.pid) (v r : VarId) (next onward : CodeId) (shared : ℕ) (own : TypeId)
    (at_l : other.mode ≡ mode.L) (is_base : other.base ≡ Some shared) (found : type_of s.types other.offers ≡ Some own)
    (held : bound_to v.0 p.channels ≡ Some other.offers) (free : bound_to r.0 p.channels ≡ None) where
  abbrev k : Meeting
  k = releasing p v r next onward shared

  abbrev released : Change
  released = both_go a s p other k

  own-mode : HasMode a.program own mode.L
  own-mode = subst (HasMode a.program own) at_l ((process-typed typed there_other).offered own found)

  -- names whose types have different modes differ
  names-apart : (name other_name : ℕ) (t u : TypeId) (m n : Mode) → type_of s.types name ≡ Some t
      → HasMode a.program t m → type_of s.types other_name ≡ Some u → HasMode a.program u n → m ≢ n → name ≢ other_name
  names-apart name other_name t u m n is at_m is_too at_n differ same =
      let here : type_of s.types other_name ≡ Some t =
      subst (λ (i : ℕ). type_of s.types i ≡ Some t) same is
      in
      let one : t ≡ u = cc in
      differ (mode-unique accepted.typed.formed.program (subst (λ (w : TypeId). HasMode a.program w m) one at_m) at_n)

  -- the shared name is no name of another mode than S
  shared-apart : (name : ℕ) (t : TypeId) (m : Mode) → type_of s.types name ≡ Some t → HasMode a.program t m → m ≢ mode.S
      → shared ≢ name
  shared-apart name t m is at_m not_s =
      let (u, found_shared, at_s) = (process-typed typed there_other).has_base.shared shared is_base in
      names-apart shared name u t mode.S m found_shared at_s is at_m (λ same. not_s (sym same))

  -- the client uses a name as often as before, but for the released one and the shared one
  client-uses : (name : ℕ)
      → count_of name (used (object.Process (client_after p k))) + count_of name (other.offers ∷ [])
      ≡ count_of name (used (object.Process p)) + count_of name (shared ∷ [])
  client-uses name =
      let ascending = (process-variables typed there).channels in
      let out = count-after_unbind name v.0 p.channels in
      let gone : count_of name (option_to_list (bound_to v.0 p.channels)) ≡ count_of name (other.offers ∷ []) =
      ap (λ (o : Option ℕ). count_of name (option_to_list o)) held
      in
      let into = count-after_bind name r shared (unbind v.0 p.channels) (unbind-ascending v.0 p.channels ascending) in
      let nothing : count_of name (option_to_list (bound_to r.0 (unbind v.0 p.channels))) ≡ 0 =
      ap (λ (o : Option ℕ). count_of name (option_to_list o)) free-still
      in
      omega arith
    where
      free-still : bound_to r.0 (unbind v.0 p.channels) ≡ None
      free-still =
          elim (cases_eq r.0 v.0) [
            | inl same ↦
                subst (λ (n : ℕ). bound_to n (unbind v.0 p.channels) ≡ None) (sym same)
                (bound-after_unbind v.0 p.channels (process-variables typed there).channels)
            | inr other_variable ↦ bound-after_unbind_other r.0 v.0 p.channels other_variable ∙ free
          ]

  -- ---- the released name

  l-not_s : mode.L ≢ mode.S
  l-not_s is = cc

  pub released-gone : times mentioned (made s released).objects other.offers ≡ 0
  released-gone =
      let owned = typed.owned other.offers own mode.L found own-mode in
      let itself = count-here other.offers other.offers [] refl in
      let elsewhere = count-elsewhere other.offers shared []
      (ne_eqb shared other.offers (shared-apart other.offers own mode.L found own-mode l-not_s))
      in
      let no_base = based-shared accepted typed other.offers own mode.L found own-mode l-not_s in
      let provides = both-times typed there there_other apart k provided other.offers in
      let uses = both-times typed there there_other apart k used other.offers in
      let bases = both-times typed there there_other apart k based other.offers in
      omega (arith, mentioned-sum (made s released).objects other.offers, owned.0, owned.1, client-uses other.offers)

  -- a name that is mentioned afterwards is another one
  not-released : (name : ℕ) → 1 ≤ times mentioned (made s released).objects name → name ≢ other.offers
  not-released name some same =
      let here : 1 ≤ times mentioned (made s released).objects other.offers =
      subst (λ (n : ℕ). 1 ≤ times mentioned (made s released).objects n) same some
      in
      omega (arith, released-gone)

  -- no message goes on from it
  no-message : (m : Message) (onward_name : ℕ) → Contains s.objects (object.Message m)
      → Contains (talk_end m) onward_name → onward_name ≢ other.offers
  no-message m onward_name inside end same =
      let owned = typed.owned other.offers own mode.L found own-mode in
      let among : Contains (used (object.Message m)) other.offers =
      Contains-append_left (talk_end m) (carried m.payload) other.offers
      (subst (λ (n : ℕ). Contains (talk_end m) n) same end)
      in
      let message_uses = counted other.offers (used (object.Message m)) among in
      let itself = count-here other.offers other.offers [] refl in
      let elsewhere = count-elsewhere other.offers shared []
      (ne_eqb shared other.offers (shared-apart other.offers own mode.L found own-mode l-not_s))
      in
      let both = times-two s.objects typed.numbered.ascending used other.offers (object.Process p) (object.Message m)
      there inside (λ is. numbers-differ s.objects typed.numbered.ascending p m there inside (sym is))
      in
      omega (arith, owned.1, client-uses other.offers)

  -- ---- other names

  same-type : (name : ℕ) → type_of (made s released).types name ≡ type_of s.types name
  same-type name = ap (λ (types : NameTypes). type_of types name) (append-nil s.types)

  others-count : (name : ℕ) (t : TypeId) (m : Mode) → type_of s.types name ≡ Some t → HasMode a.program t m
      → name ≢ other.offers → CountsAsBefore m s (made s released) name
  others-count name t m is at_m not_it =
      let none = count-elsewhere name other.offers [] (ne_eqb other.offers name (λ same. not_it (sym same))) in
      record {
        provided = λ not_s. omega (
          arith,
          both-times typed there there_other apart k provided name,
          count-elsewhere name shared [] (ne_eqb shared name (shared-apart name t m is at_m not_s)),
        );
        used = λ not_s. omega (
          arith,
          both-times typed there there_other apart k used name,
          client-uses name,
          count-elsewhere name shared [] (ne_eqb shared name (shared-apart name t m is at_m not_s)),
        );
        shared = λ is_s. omega (arith, both-times typed there there_other apart k shared_names name, stood);
        outside = refl;
      }
    where
      stood : count_of name (shared_of other.mode other.offers other.base) ≡ count_of name (shared ∷ [])
      stood =
          ap (λ (o : Mode). count_of name (shared_of o other.offers other.base)) at_l
          ∙ ap (λ (o : Option ℕ). count_of name (shared_of mode.L other.offers o)) is_base

  -- ---- the whole change

  abbrev client : Object
  client = object.Process (client_after p k)

  abbrev contract : Object
  contract = object.Process (contract_after other k)

  pub release-fits : ProcessTyped a (made s released).types (length s.balances) (client_after p k)
      → ProcessTyped a (made s released).types (length s.balances) (contract_after other k)
      → VariablesDiffer (client_after p k) → Fits a s released
  release-fits client_typed contract_typed differ = record {
    olds = object.Process p ∷ object.Process other ∷ [];
    replaces = both-replaces typed there there_other apart k;
    numbered = All-nil (λ o. object_number o ≡ s.next_object);
    variables = All-cons HasVariables client (contract ∷ []) differ
        (All-cons HasVariables contract [] contract_differs (All-nil HasVariables));
    typed = All-cons Here client (contract ∷ []) client_typed (All-cons Here contract [] contract_typed (All-nil Here));
    owned = λ name t m is at_m some.
        let before = sym (same-type name) ∙ is in
        owned-as_before m s (made s released) name (others-count name t m before at_m (not-released name some))
        (typed.owned name t m before at_m);
    keeps_shared = λ name t is at_s.
        let not_it = names-apart name other.offers t own mode.S mode.L is at_s found own-mode (λ same. cc) in
        (others-count name t mode.S is at_s not_it).shared refl;
    outside = λ name some.
        let (t, is, at_r) = typed.outside name some in
        (t, same-type name ∙ is, at_r, still-mentioned name t is at_r);
    sections = λ name t is at_l_too some.
        let section = typed.sections name t (sym (same-type name) ∙ is) at_l_too in
        record {
          base = section.base;
          leads = both-lead typed there there_other apart k (λ n. n ≢ other.offers) section.base
              (λ was_l stays. stays refl) no-message name (not-released name some) section.leads;
          shared = section.shared;
          found = same-type section.base ∙ section.found;
          synchronizing = section.synchronizing;
        };
  }
    where
      Here : Object → Type 0
      Here o = ObjectTyped a (made s released).types (length s.balances) o

      contract_differs : HasVariables contract
      contract_differs = let variables = process-variables typed there_other in record {
        values = variables.values;
        lists = variables.lists;
        channels = variables.channels;
        apart = variables.apart;
      }

      -- a name that an outside party has is provided as before
      still-mentioned : (name : ℕ) (t : TypeId) → type_of s.types name ≡ Some t → HasMode a.program t mode.R
          → 1 ≤ times mentioned (made s released).objects name
      still-mentioned name t is at_r =
          let not_it = names-apart name other.offers t own mode.R mode.L is at_r found own-mode (λ same. cc) in
          let provides = (others-count name t mode.R is at_r not_it).provided (λ same. cc) in
          let owned = typed.owned name t mode.R is at_r in
          omega (arith, mentioned-sum (made s released).objects name, owned.0)
