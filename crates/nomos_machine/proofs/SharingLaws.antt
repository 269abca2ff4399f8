-- Two processes go on together: a client acquires a shared contract, or releases one; a typed state stays typed.
use Rattle.std.proofs.Common.{◌≡◌, ◌≢◌, ◌∙◌, inl, inr, ℕ, ◌+◌, List, [], ◌∷◌, map, Contains, Option, Some, refl, sym, subst, ap, arith}
use Rattle.std.proofs.lemmas.Bool.{cases_eq}
use Rattle.std.proofs.lemmas.List.Elements.{All-nil, All-cons, Contains-append_left}
use Rattle.std.specs.Option.{option_to_list}
use Rattle.nomos_ir.specs.Order.{count_of}
use Rattle.nomos_ir.specs.declared.ids.CodeId.{CodeId}
use Rattle.nomos_ir.specs.declared.ids.TypeId.{TypeId}
use Rattle.nomos_ir.specs.declared.ids.VarId.{VarId}
use Rattle.nomos_ir.specs.declared.mode.Mode.{Mode}
use Rattle.nomos_ir.specs.declared.mode.Mode.TheVariants as mode
use Rattle.nomos_types.specs.Acceptance.{Acceptance}
use Rattle.nomos_machine.specs.Change.{Change, put_at, made}
use Rattle.nomos_machine.specs.Deeds.{with_other}
use Rattle.nomos_machine.specs.Objects.{object_number, talk_end, times, object_at}
use Rattle.nomos_machine.specs.State.{State, type_of}
use Rattle.nomos_machine.specs.TypedState.{LeadsToBase, at_base, further, IsTyped}
use Rattle.nomos_machine.specs.declared.object.Message.{Message}
use Rattle.nomos_machine.specs.declared.object.Object.{Object}
use Rattle.nomos_machine.specs.declared.object.Object.TheVariants as object
use Rattle.nomos_machine.specs.declared.object.Process.{Process}
use Rattle.nomos_machine.proofs.ChangeLaws.{Replaces, done, further as then, made-kept}
use Rattle.nomos_machine.proofs.NameLaws.{type_of-kept}
use Rattle.nomos_machine.proofs.OwnedLaws.{made-times, leads-map}
use Rattle.nomos_machine.proofs.PutLaws.{object_at-own, object_at-other, put-new, put-kept}
use Rattle.nomos_machine.proofs.ApartLaws.{one-process, numbers-differ}

-- how a client and a contract go on together, and the type of the next name, where that is taken
pub record Meeting : Type 0 where
  pub client_code : CodeId
  pub channels : List (VarId × ℕ)
  pub contract_code : CodeId
  pub contract_mode : Mode
  pub offers : ℕ
  pub base : Option ℕ
  pub next_type : Option TypeId

abbrev pub client_after : Process → Meeting → Process
client_after p k = record p { code = k.client_code; channels = k.channels }

abbrev pub contract_after : Process → Meeting → Process
contract_after other k =
    record other { mode = k.contract_mode; code = k.contract_code; offers = k.offers; base = k.base }

-- the change by which both go on
abbrev pub both_go : Acceptance → State → Process → Process → Meeting → Change
both_go a s p other k =
    record (with_other a s p (client_after p k) (contract_after other k)) { next_type = k.next_type }

module _ {a : Acceptance} {s : State} (typed : IsTyped a s) {p other : Process}
    (there : Contains s.objects (object.Process p)) (there_other : Contains s.objects (object.Process other))
    (apart : p.pid ≢ other.pid) (k : Meeting) where
  abbrev goes : Change
  goes = both_go a s p other k

  abbrev client : Process
  client = client_after p k

  abbrev contract : Process
  contract = contract_after other k

  -- the objects where the client has gone on, and the contract has not
  abbrev midway : List Object
  midway = put_at p.pid (Some (object.Process client)) s.objects

  found-client : object_at s.objects p.pid ≡ Some (object.Process p)
  found-client = object_at-own (object.Process p) s.objects typed.numbered.ascending there

  found-contract : object_at midway other.pid ≡ Some (object.Process other)
  found-contract =
      let HasIt : Object → Type 0 = λ o. object_number o ≡ p.pid in
      object_at-other p.pid other.pid (Some (object.Process client)) s.objects apart
      (All-cons HasIt (object.Process client) [] refl (All-nil HasIt))
      ∙ object_at-own (object.Process other) s.objects typed.numbered.ascending there_other

  pub both-replaces : Replaces goes.places s.objects (object.Process p ∷ object.Process other ∷ [])
  both-replaces =
      let First : Object → Type 0 = λ o. object_number o ≡ p.pid in
      let Second : Object → Type 0 = λ o. object_number o ≡ other.pid in
      then (object.Process p) (Some (object.Process client)) ((other.pid, Some (object.Process contract)) ∷ [])
      s.objects (object.Process other ∷ []) found-client
      (All-cons First (object.Process client) [] refl (All-nil First))
      (then (object.Process other) (Some (object.Process contract)) [] midway [] found-contract
      (All-cons Second (object.Process contract) [] refl (All-nil Second))
      (done (put_at other.pid (Some (object.Process contract)) midway)))

  -- what the two did with a name they do no more, and what they do afterwards comes
  pub both-times : (does : Object → List ℕ) (name : ℕ)
      → times does (made s goes).objects name
      + (count_of name (does (object.Process p)) + count_of name (does (object.Process other)))
      ≡ times does s.objects name
      + (count_of name (does (object.Process client)) + count_of name (does (object.Process contract)))
  both-times does name =
      let sum = made-times does name s goes (object.Process p ∷ object.Process other ∷ []) both-replaces in
      omega (arith, sum)

  -- a name that has a type keeps it
  pub both-keep : (name : ℕ) (t : TypeId) → type_of s.types name ≡ Some t → type_of (made s goes).types name ≡ Some t
  both-keep name t found = type_of-kept s.types (map (λ u. (s.next_name, u)) (option_to_list k.next_type)) name t found

  -- ---- which objects there are

  pub client-there : Contains (made s goes).objects (object.Process client)
  client-there =
      Contains-append_left (put_at other.pid (Some (object.Process contract)) midway) [] (object.Process client)
      (put-kept other.pid (Some (object.Process contract)) (object.Process client) midway apart
      (put-new p.pid (Some (object.Process client)) (object.Process p) (object.Process client) s.objects found-client
      (0, omega arith, refl)))

  pub contract-there : Contains (made s goes).objects (object.Process contract)
  contract-there =
      Contains-append_left (put_at other.pid (Some (object.Process contract)) midway) [] (object.Process contract)
      (put-new other.pid (Some (object.Process contract)) (object.Process other) (object.Process contract) midway
      found-contract (0, omega arith, refl))

  others-kept : (o : Object) → Contains s.objects o → object_number o ≢ p.pid → object_number o ≢ other.pid
      → Contains (made s goes).objects o
  others-kept o inside not_client not_contract =
      let Other : ℕ × Option Object → Type 0 = λ e. e.0 ≢ object_number o in
      let first : Other (p.pid, Some (object.Process client)) = λ is. not_client (sym is) in
      let second : Other (other.pid, Some (object.Process contract)) = λ is. not_contract (sym is) in
      made-kept s goes o inside
      (All-cons Other (p.pid, Some (object.Process client)) ((other.pid, Some (object.Process contract)) ∷ []) first
      (All-cons Other (other.pid, Some (object.Process contract)) [] second (All-nil Other)))

  messages-kept : (m : Message) → Contains s.objects (object.Message m)
      → Contains (made s goes).objects (object.Message m)
  messages-kept m inside =
      others-kept (object.Message m) inside (λ is. numbers-differ s.objects typed.numbered.ascending p m there inside
      (sym is))
      (λ is. numbers-differ s.objects typed.numbered.ascending other m there_other inside (sym is))

  -- ---- where names of mode L lead

  -- Names that stay lead to their base as before, where the contract was not acquired or its name is none of them, and
  -- where each name to which a message leads on stays.
  pub both-lead : (stays : ℕ → Type 0) (base : ℕ) → (other.mode ≡ mode.L → stays other.offers → ⊥)
      → ((m : Message) (onward : ℕ) → Contains s.objects (object.Message m) → Contains (talk_end m) onward
      → stays onward)
      → (name : ℕ) → stays name → LeadsToBase s.objects base name → LeadsToBase (made s goes).objects base name
  both-lead stays base none goes_on name stay leads =
      leads-map stays s.objects (made s goes).objects base ends
      (λ m n onward inside provides end stays_here.
      (goes_on m onward inside end, λ leads_on. further m n onward (messages-kept m inside) provides end leads_on))
      name stay leads
    where
      ends : (r : Process) → Contains s.objects (object.Process r) → r.mode ≡ mode.L → r.base ≡ Some base
          → stays r.offers → LeadsToBase (made s goes).objects base r.offers
      ends r inside at_l is stays_here =
          elim (cases_eq r.pid p.pid) [
            | inl number ↦
                let same : r ≡ p = one-process s.objects typed.numbered.ascending p r there inside number in
                subst (λ (n : ℕ). LeadsToBase (made s goes).objects base n) (ap (λ (q : Process). q.offers) (sym same))
                (at_base client client-there (ap (λ (q : Process). q.mode) (sym same) ∙ at_l)
                (ap (λ (q : Process). q.base) (sym same) ∙ is))
            | inr not_client ↦ elim (cases_eq r.pid other.pid) [
              | inl number ↦
                  let same : r ≡ other =
                  one-process s.objects typed.numbered.ascending other r there_other inside number
                  in
                  absurd (none (ap (λ (q : Process). q.mode) (sym same) ∙ at_l)
                  (subst (λ (q : Process). stays q.offers) same stays_here))
              | inr not_contract ↦ at_base r (others-kept (object.Process r) inside not_client not_contract) at_l is
            ]
          ]
