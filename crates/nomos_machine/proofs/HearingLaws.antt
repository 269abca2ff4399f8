-- What an outside party hears leaves a typed state typed, with the next name as the outside one, or with none.
use Rattle.std.proofs.Common.{◌≡◌, ◌≢◌, ◌∙◌, ◌≤◌, ◌<◌, inl, inr, ℕ, ◌+◌, ◌==◌, not, Bool, true, cond, List, [], ◌∷◌, ◌++◌, filter, length, map, Contains, Option, Some, None, refl, sym, subst, ap, arith, append-nil, eq-eqb, ne_eqb, slice_get}
use Rattle.std.specs.Prelude.{option_and_then}
use Rattle.std.specs.Option.{option_to_list}
use Rattle.std.proofs.lemmas.Bool.{cases_eq}
use Rattle.std.proofs.lemmas.List.{length-map}
use Rattle.std.proofs.lemmas.List.Elements.{All-nil, All-cons, All-contains, Contains-append_left}
use Rattle.nomos_ir.specs.Order.{count_of}
use Rattle.nomos_ir.specs.declared.ids.TypeId.{TypeId}
use Rattle.nomos_ir.specs.declared.mode.Mode.{Mode}
use Rattle.nomos_ir.specs.declared.mode.Mode.TheVariants as mode
use Rattle.nomos_ir.proofs.SumLaws.{count-first}
use Rattle.nomos_types.specs.Acceptance.{Acceptance, IsAccepted}
use Rattle.nomos_types.specs.Modes.{HasMode}
use Rattle.nomos_types.proofs.ModeLaws.{mode-unique}
use Rattle.nomos_types.proofs.OccurrenceLaws.{contains-found, counted, count-here, count-elsewhere}
use Rattle.nomos_machine.specs.Balances.{HavePaid}
use Rattle.nomos_machine.specs.Change.{Change, changed, made, put_at}
use Rattle.nomos_machine.specs.Hearing.{AnswersHearing, Hears, heard_message, heard_of, heard_names, hears}
use Rattle.nomos_machine.specs.Objects.{object_number, provided, used, based, shared_names, mentioned, times, carried, talk_end}
use Rattle.nomos_machine.specs.Opening.{outside_name}
use Rattle.nomos_machine.specs.Revised.{renamed}
use Rattle.nomos_machine.specs.Sight.{message_on}
use Rattle.nomos_machine.specs.State.{State, NameTypes, type_of, gas_of}
use Rattle.nomos_machine.specs.TypedMessage.{Brings, GoesOnAt, MessageTyped}
use Rattle.nomos_machine.specs.TypedState.{HasVariables, IsOwned, ObjectTyped, LeadsToBase, at_base, further, IsTyped}
use Rattle.nomos_machine.specs.declared.object.Heard.{Heard}
use Rattle.nomos_machine.specs.declared.object.Message.{Message}
use Rattle.nomos_machine.specs.declared.object.Object.{Object}
use Rattle.nomos_machine.specs.declared.object.Object.TheVariants as object
use Rattle.nomos_machine.specs.declared.object.Payload.{Payload}
use Rattle.nomos_machine.specs.declared.object.Payload.TheVariants as payload
use Rattle.nomos_machine.proofs.ApartLaws.{one-message, numbers-differ}
use Rattle.nomos_machine.proofs.BalanceLaws.{gets-paid}
use Rattle.nomos_machine.proofs.ChangeLaws.{Replaces, done, further as then, made-kept, made-weight}
use Rattle.nomos_machine.proofs.ContractLaws.{KeepsContracts, changed-keeps_contracts}
use Rattle.nomos_machine.proofs.CostLaws.{RunCosts, costs-nothing}
use Rattle.nomos_machine.proofs.FitLaws.{Fits, changed-typed}
use Rattle.nomos_machine.proofs.GasLaws.{KeepsGas, gas-changed, paid_in-length}
use Rattle.nomos_machine.proofs.HeldLaws.{based-shared}
use Rattle.nomos_machine.proofs.IdleLaws.{idle}
use Rattle.nomos_machine.proofs.LinearLaws.{count-other}
use Rattle.nomos_machine.proofs.MessageLaws.{IsReadOn, message_on-found}
use Rattle.nomos_machine.proofs.NameLaws.{mentioned-sum, times-one, times-contains}
use Rattle.nomos_machine.proofs.NotWrongLaws.{outside-unused}
use Rattle.nomos_machine.proofs.OwnedLaws.{made-times, owned-as_before, leads-map}
use Rattle.nomos_machine.proofs.PutLaws.{object_at-own, contains-one}
use Rattle.nomos_machine.proofs.RenameLaws.{renamed-old, renamed-third, renamed-gone, renamed-new}
use Rattle.nomos_machine.proofs.TalkLaws.{brings-keeps_mode}

-- ---- what is found

-- the outside name, and the message that is read there
pub record IsReadOutside (s : State) (m : Message) : Type 0 where
  pub outside : outside_name s ≡ Some m.from
  pub reads : IsReadOn s.objects true m.from m

pub message-read_outside : (s : State) (m : Message) → heard_message s ≡ Some m → IsReadOutside s m
message-read_outside s m found = by_name (outside_name s) refl found
  where
    by_name : (o : Option ℕ) → outside_name s ≡ o → option_and_then (message_on s.objects true) o ≡ Some m
        → IsReadOutside s m
    by_name (Some name) is there =
        let reads = message_on-found true name m s.objects there in
        let same : m.from ≡ name = reads.read in
        record {
          outside = is ∙ ap (λ (n : ℕ). Some n) (sym same);
          reads = record { waiting = reads.waiting; goes_way = reads.goes_way; read = refl };
        }
    by_name None is there = absurd cc

-- what is heard brings no channel
pub heard-carries_none : (brought : Payload) (gas : ℕ) (what : Heard) → heard_of brought gas ≡ Some what
    → carried brought ≡ []
heard-carries_none (payload.Label l) gas what is = refl
heard-carries_none (payload.Value v) gas what is = refl
heard-carries_none (payload.Channel name) gas what is = absurd cc
heard-carries_none payload.Pay gas what is = refl
heard-carries_none payload.Close gas what is = refl

-- ---- what is answered is determined

pub hears-once : {s t u : State} {account : ℕ} {what other : Heard} → Hears s account what t
    → Hears s account other u → (what ≡ other) × (t ≡ u)
hears-once {s} {t} {u} {account} {what} {other} one two =
    let there_one = one.there in
    let there_two = two.there in
    let same : one.message ≡ two.message = cc in
    let heard : Some what ≡ Some other =
    sym one.is ∙ ap (λ (m : Message). heard_of m.payload m.purse) same ∙ two.is in (
      inside heard,
      one.after ∙ ap (λ (m : Message). changed s (hears s m account)) same ∙ sym two.after,
    )
  where
    inside : Some what ≡ Some other → what ≡ other
    inside is = cc

pub hearing-once : (s t u : State) (account : ℕ) (what other : Option Heard) → AnswersHearing s account what t
    → AnswersHearing s account other u → (what ≡ other) × (t ≡ u)
hearing-once s t u account (Some what) (Some other) one two =
    let (same, state) = hears-once one two in
    (ap (λ (h : Heard). Some h) same, state)
hearing-once s t u account (Some what) None one (none, stays) =
    let there = one.there in
    absurd cc
hearing-once s t u account None (Some other) (none, stays) two =
    let there = two.there in
    absurd cc
hearing-once s t u account None None (none, stays) (again, too) = (refl, stays ∙ sym too)

-- ---- names that go on, or are gone

third-kept : (name k : ℕ) (names : List ℕ) → k ≢ name
    → count_of k (filter (λ n. not (n == name)) names) ≡ count_of k names
third-kept name k [] other = refl
third-kept name k (n ∷ names) other =
    elim (cases_eq n name) [
      | inl same ↦
          let apart : n ≢ k = λ e. other (sym e ∙ same) in
          ap (λ (t : Bool). count_of k (cond (not t) (n ∷ filter (λ n. not (n == name)) names)
          (filter (λ n. not (n == name)) names))) (eq-eqb n name same)
          ∙ third-kept name k names other ∙ sym (count-elsewhere k n names (ne_eqb n k apart))
      | inr differ ↦
          ap (λ (t : Bool). count_of k (cond (not t) (n ∷ filter (λ n. not (n == name)) names)
          (filter (λ n. not (n == name)) names))) (ne_eqb n name differ)
          ∙ again (third-kept name k names other)
    ]
  where
    again : count_of k (filter (λ n. not (n == name)) names) ≡ count_of k names
        → count_of k (n ∷ filter (λ n. not (n == name)) names) ≡ count_of k (n ∷ names)
    again rest =
        elim (cases_eq n k) [
          | inl here ↦
              count-here k n (filter (λ n. not (n == name)) names) here ∙ ap (λ (c : ℕ). 1 + c) rest
              ∙ sym (count-here k n names here)
          | inr there ↦
              count-elsewhere k n (filter (λ n. not (n == name)) names) (ne_eqb n k there) ∙ rest
              ∙ sym (count-elsewhere k n names (ne_eqb n k there))
        ]

gone-from : (name : ℕ) (names : List ℕ) → count_of name (filter (λ n. not (n == name)) names) ≡ 0
gone-from name [] = refl
gone-from name (n ∷ names) =
    elim (cases_eq n name) [
      | inl same ↦
          ap (λ (t : Bool). count_of name (cond (not t) (n ∷ filter (λ n. not (n == name)) names)
          (filter (λ n. not (n == name)) names))) (eq-eqb n name same)
          ∙ gone-from name names
      | inr differ ↦
          ap (λ (t : Bool). count_of name (cond (not t) (n ∷ filter (λ n. not (n == name)) names)
          (filter (λ n. not (n == name)) names))) (ne_eqb n name differ)
          ∙ count-elsewhere name n (filter (λ n. not (n == name)) names) (ne_eqb n name differ) ∙ gone-from name names
    ]

module _ {a : Acceptance} (accepted : IsAccepted a) {s : State} (typed : IsTyped a s) (m : Message)
    (h : IsReadOutside s m) (silent : carried m.payload ≡ []) (account : ℕ) where
  abbrev heard : Change
  heard = hears s m account

  abbrev from : ℕ
  from = m.from

  -- ---- the message, and the name on which it is read

  waiting : Contains s.objects (object.Message m)
  waiting = h.reads.waiting

  pub heard_message-typed : MessageTyped a s.types m
  heard_message-typed =
      All-contains (ObjectTyped a s.types (length s.balances)) s.objects (object.Message m) typed.each waiting

  is-outside : 1 ≤ count_of from s.outside
  is-outside = counted from s.outside (contains-found s.outside 0 from h.outside)

  abbrev its_type : MessageTyped a s.types m
  its_type = heard_message-typed

  own-mode : HasMode a.program its_type.own mode.R
  own-mode =
      let (t, found, at_r) = typed.outside from is-outside in
      let here = its_type.found in
      let same : t ≡ its_type.own = cc in
      subst (λ (u : TypeId). HasMode a.program u mode.R) same at_r

  own-owned : IsOwned mode.R s from
  own-owned = typed.owned from its_type.own mode.R its_type.found own-mode

  unused : (times used s.objects from ≡ 0) × (count_of from s.outside ≡ 1)
  unused = outside-unused accepted typed from is-outside

  gives : provided (object.Message m) ≡ from ∷ []
  gives = ap (λ (b : Bool). cond b (m.from ∷ []) (option_to_list m.next)) h.reads.goes_way

  ends : talk_end m ≡ option_to_list m.next
  ends = ap (λ (b : Bool). cond b (option_to_list m.next) (m.from ∷ [])) h.reads.goes_way

  takes : used (object.Message m) ≡ option_to_list m.next
  takes =
      ap (λ (ns : List ℕ). talk_end m ++ ns) silent ∙ append-nil (talk_end m) ∙ ends

  heard-replaces : Replaces heard.places s.objects (object.Message m ∷ [])
  heard-replaces =
      then (object.Message m) None [] s.objects []
      (object_at-own (object.Message m) s.objects typed.numbered.ascending waiting)
      (All-nil (λ o. object_number o ≡ m.number))
      (done (put_at m.number None s.objects))

  same-type : (n : ℕ) → type_of (made s heard).types n ≡ type_of s.types n
  same-type n = ap (λ (types : NameTypes). type_of types n) (append-nil s.types)

  -- ---- counts

  provides-fewer : (n : ℕ)
      → times provided (made s heard).objects n + count_of n (from ∷ []) ≡ times provided s.objects n
  provides-fewer n =
      omega (arith, made-times provided n s heard (object.Message m ∷ []) heard-replaces, ap (count_of n) gives)

  uses-fewer : (n : ℕ)
      → times used (made s heard).objects n + count_of n (option_to_list m.next) ≡ times used s.objects n
  uses-fewer n =
      omega (arith, made-times used n s heard (object.Message m ∷ []) heard-replaces, ap (count_of n) takes)

  shared-same : (n : ℕ) → times shared_names (made s heard).objects n ≡ times shared_names s.objects n
  shared-same n = omega (arith, made-times shared_names n s heard (object.Message m ∷ []) heard-replaces)

  -- the name on which it was read is not mentioned any more
  gone : times mentioned (made s heard).objects from ≡ 0
  gone =
      let none = based-shared accepted typed from its_type.own mode.R its_type.found own-mode (λ same. absurd cc) in
      let bases = made-times based from s heard (object.Message m ∷ []) heard-replaces in
      omega (
        arith,
        mentioned-sum (made s heard).objects from,
        provides-fewer from,
        uses-fewer from,
        count-first from [],
        bases,
        none,
        own-owned.0,
        unused.0,
      )

  other-name : (n : ℕ) → 1 ≤ times mentioned (made s heard).objects n → n ≢ from
  other-name n some same =
      let here = subst (λ (k : ℕ). 1 ≤ times mentioned (made s heard).objects k) same some in
      omega (arith, here, gone)

  -- ---- the next name

  -- it has mode R, one provider, the message as its user, and is none outside
  record GoesTo (k : ℕ) : Type 0 where
    next_type : TypeId
    typed_so : type_of s.types k ≡ Some next_type
    at_r : HasMode a.program next_type mode.R
    owned_once : IsOwned mode.R s k
    taken : times used s.objects k ≡ 1
    inside : count_of k s.outside ≡ 0
    apart : k ≢ from

  next-goes : (k : ℕ) → m.next ≡ Some k → GoesTo k
  next-goes k is =
      by_type its_type.goes its_type.brings
      (subst (λ (o : Option ℕ). GoesOnAt a.program a.annotations s.types o its_type.goes) is its_type.next)
    where
      by_type : (goes : Option TypeId)
          → Brings a.program a.annotations s.types m.to_client its_type.head m.payload m.purse goes
          → GoesOnAt a.program a.annotations s.types (Some k) goes → GoesTo k
      by_type None brings on = absurd on
      by_type (Some u) brings on =
          let goes_at_r = brings-keeps_mode accepted.typed.formed own-mode its_type.unfolds brings in
          let one = mode-unique accepted.typed.formed.program on.alike.right_mode goes_at_r in
          let own_at_r = subst (λ (j : Mode). HasMode a.program on.own j) one on.alike.left_mode in
          let owned = typed.owned k on.own mode.R on.found own_at_r in
          let uses = times-one used k s.objects (object.Message m) waiting in
          let once : count_of k (used (object.Message m)) ≡ 1 =
          ap (count_of k) takes ∙ ap (λ (o : Option ℕ). count_of k (option_to_list o)) is ∙ count-first k []
          in
          record {
            next_type = on.own;
            typed_so = on.found;
            at_r = own_at_r;
            owned_once = owned;
            taken = omega (arith, uses, once, owned.1);
            inside = omega (arith, uses, once, owned.1);
            apart = λ same.
                let none : times used s.objects k ≡ 0 = ap (times used s.objects) same ∙ unused.0 in
                omega (arith, uses, once, none);
          }

  owned-after : (n : ℕ) (t : TypeId) (k : Mode) → type_of (made s heard).types n ≡ Some t → HasMode a.program t k
      → 1 ≤ times mentioned (made s heard).objects n → IsOwned k (made s heard) n
  owned-after n t k found has some = by_next m.next refl
    where
      before : type_of s.types n ≡ Some t
      before = sym (same-type n) ∙ found

      not-from : n ≢ from
      not-from = other-name n some

      none : count_of n (from ∷ []) ≡ 0
      none = count-other n from not-from

      by_next : (next : Option ℕ) → m.next ≡ next → IsOwned k (made s heard) n
      by_next None is =
          let nothing : count_of n (option_to_list m.next) ≡ 0 =
          ap (λ (o : Option ℕ). count_of n (option_to_list o)) is in
          owned-as_before k s (made s heard) n
          (record {
            provided = λ e. omega (arith, provides-fewer n, none);
            used = λ e. omega (arith, uses-fewer n, nothing);
            shared = λ e. shared-same n;
            outside = ap (λ (o : Option ℕ). count_of n (heard_names from o s.outside)) is
                ∙ third-kept from n s.outside not-from;
          })
          (typed.owned n t k before has)
      by_next (Some next) is =
          let g = next-goes next is in
          let outside : count_of n (made s heard).outside ≡ count_of n (heard_names from (Some next) s.outside) =
          ap (λ (o : Option ℕ). count_of n (heard_names from o s.outside)) is in
          let uses : count_of n (option_to_list m.next) ≡ count_of n (next ∷ []) =
          ap (λ (o : Option ℕ). count_of n (option_to_list o)) is in
          elim (cases_eq n next) [
            | inl same ↦
                let its = g.typed_so in
                let here : type_of s.types next ≡ Some t = subst (λ (j : ℕ). type_of s.types j ≡ Some t) same before in
                let one : g.next_type ≡ t = cc in
                let at : mode.R ≡ k = mode-unique accepted.typed.formed.program
                (subst (λ (u : TypeId). HasMode a.program u mode.R) one g.at_r) has
                in
                subst (λ (j : Mode). IsOwned j (made s heard) n) at (
                  omega (arith, provides-fewer n, none, ap (times provided s.objects) same, g.owned_once.0),
                  omega (
                    arith,
                    uses-fewer n,
                    uses,
                    ap (λ (j : ℕ). count_of j (next ∷ [])) same,
                    count-first next [],
                    ap (times used s.objects) same,
                    g.taken,
                    outside,
                    ap (λ (j : ℕ). count_of j (heard_names from (Some next) s.outside)) same,
                    renamed-new from next s.outside g.apart,
                    g.inside,
                    unused.1,
                  ),
                )
            | inr third ↦
                owned-as_before k s (made s heard) n
                (record {
                  provided = λ e. omega (arith, provides-fewer n, none);
                  used = λ e. omega (arith, uses-fewer n, uses, count-other n next third);
                  shared = λ e. shared-same n;
                  outside = outside ∙ renamed-third from next n s.outside not-from third;
                })
                (typed.owned n t k before has)
          ]

  -- ---- outside names

  still-there : (n : ℕ) (t : TypeId) → type_of s.types n ≡ Some t → HasMode a.program t mode.R → n ≢ from
      → 1 ≤ times mentioned (made s heard).objects n
  still-there n t found at_r other =
      let owned = typed.owned n t mode.R found at_r in
      omega (arith, mentioned-sum (made s heard).objects n, provides-fewer n, count-other n from other, owned.0)

  abbrev IsOut : ℕ → Type 0
  IsOut n = (t : TypeId) × (type_of (made s heard).types n ≡ Some t) × HasMode a.program t mode.R
      × (1 ≤ times mentioned (made s heard).objects n)

  still-out : (n : ℕ) → n ≢ from → 1 ≤ count_of n s.outside → IsOut n
  still-out n other some =
      let (t, found, at_r) = typed.outside n some in
      (t, same-type n ∙ found, at_r, still-there n t found at_r other)

  outside-after : (n : ℕ) → 1 ≤ count_of n heard.outside → IsOut n
  outside-after n some = by_next m.next refl
    where
      not-from : (next : Option ℕ) → m.next ≡ next → count_of from (heard_names from next s.outside) ≡ 0 → n ≢ from
      not-from next is none same =
          let here : count_of n heard.outside ≡ count_of from (heard_names from next s.outside) =
          ap (λ (o : Option ℕ). count_of n (heard_names from o s.outside)) is
          ∙ ap (λ (k : ℕ). count_of k (heard_names from next s.outside)) same
          in
          omega (arith, some, here, none)

      by_next : (next : Option ℕ) → m.next ≡ next → IsOut n
      by_next None is =
          let other = not-from None is (gone-from from s.outside) in
          let as_before = ap (λ (o : Option ℕ). count_of n (heard_names from o s.outside)) is
          ∙ third-kept from n s.outside other
          in
          still-out n other (omega (arith, some, as_before))
      by_next (Some next) is =
          let g = next-goes next is in
          let other = not-from (Some next) is (renamed-gone from next s.outside g.apart) in
          elim (cases_eq n next) [
            | inl same ↦
                let found : type_of s.types n ≡ Some g.next_type = ap (type_of s.types) same ∙ g.typed_so in
                (g.next_type, same-type n ∙ found, g.at_r, still-there n g.next_type found g.at_r other)
            | inr third ↦
                let as_before = ap (λ (o : Option ℕ). count_of n (heard_names from o s.outside)) is
                ∙ renamed-third from next n s.outside other third
                in
                still-out n other (omega (arith, some, as_before))
          ]

  -- ---- sections: none leads over the name, which nobody used

  stays-there : (o : Object) → Contains s.objects o → object_number o ≢ m.number → Contains (made s heard).objects o
  stays-there o inside other =
      let Other : ℕ × Option Object → Type 0 = λ e. e.0 ≢ object_number o in
      let apart : Other (m.number, None) = λ is. other (sym is) in
      made-kept s heard o inside (All-cons Other (m.number, None) [] apart (All-nil Other))

  heard-leads : (base n : ℕ) → n ≢ from → LeadsToBase s.objects base n → LeadsToBase (made s heard).objects base n
  heard-leads base n other leads =
      leads-map (λ k. k ≢ from) s.objects (made s heard).objects base
      (λ p inside at_l is stay. at_base p (stays-there (object.Process p) inside
      (numbers-differ s.objects typed.numbered.ascending p m inside waiting)) at_l is)
      onward n other leads
    where
      Onward : ℕ → ℕ → Type 0
      Onward k l = (l ≢ from)
          × (LeadsToBase (made s heard).objects base l → LeadsToBase (made s heard).objects base k)

      onward : (e : Message) (k l : ℕ) → Contains s.objects (object.Message e)
          → Contains (provided (object.Message e)) k → Contains (talk_end e) l → k ≢ from → Onward k l
      onward e k l inside provides end stay =
          let unused_by : l ≢ from = λ same.
          let among : Contains (used (object.Message e)) from =
          subst (λ (j : ℕ). Contains (used (object.Message e)) j) same
          (Contains-append_left (talk_end e) (carried e.payload) l end)
          in
          omega (arith, times-contains used from s.objects (object.Message e) inside among, unused.0)
          in
          elim (cases_eq e.number m.number) [
            | inl number ↦
                let is_m = one-message s.objects typed.numbered.ascending m e waiting inside number in
                let provides_it = subst (λ (i : Message). Contains (provided (object.Message i)) k) is_m provides in
                let is_from = contains-one from k (subst (λ (ns : List ℕ). Contains ns k) gives provides_it) in
                absurd (stay (sym is_from))
            | inr another ↦ (
              unused_by,
              λ leads_there.
                  further e k l (stays-there (object.Message e) inside another) provides end leads_there,
            )
          ]

  -- ---- the whole

  pub hears-fits : Fits a s heard
  hears-fits = record {
    olds = object.Message m ∷ [];
    replaces = heard-replaces;
    numbered = All-nil (λ o. object_number o ≡ s.next_object);
    variables = All-nil HasVariables;
    typed = All-nil (ObjectTyped a (made s heard).types (length s.balances));
    owned = owned-after;
    keeps_shared = λ n t found at_s. shared-same n;
    outside = outside-after;
    sections = λ n t found at_l some.
        let section = typed.sections n t (sym (same-type n) ∙ found) at_l in
        record {
          base = section.base;
          leads = heard-leads section.base n (other-name n some) section.leads;
          shared = section.shared;
          found = same-type section.base ∙ section.found;
          synchronizing = section.synchronizing;
        };
  }

  -- the account gets what the message carried
  pub hears-keeps_gas : account < length s.balances → KeepsGas s heard (object.Message m ∷ [])
  hears-keeps_gas within = record { gives = tt; gets = within; even = omega arith }

  pub heard-typed : IsTyped a (changed s heard)
  heard-typed = changed-typed a s heard typed hears-fits

  pub heard-gas : account < length s.balances → gas_of (changed s heard) ≡ gas_of s
  heard-gas within = gas-changed s heard (object.Message m ∷ []) heard-replaces (hears-keeps_gas within)

  -- ---- the name afterwards

  -- no name is outside where the talk has ended, if there was one alone
  pub heard-none : length s.outside ≤ 1 → m.next ≡ None → (changed s heard).outside ≡ []
  heard-none few is =
      ap (λ (o : Option ℕ). heard_names from o s.outside) is ∙ none-left s.outside few h.outside
    where
      none-left : (names : List ℕ) → length names ≤ 1 → slice_get names 0 ≡ Some from
          → filter (λ n. not (n == from)) names ≡ []
      none-left [] few is = absurd cc
      none-left (n ∷ []) few is =
          let same : n ≡ from = cc in
          ap (λ (t : Bool). cond (not t) (n ∷ []) []) (eq-eqb n from same)
      none-left (n ∷ k ∷ names) few is = absurd (omega (arith, few))

  -- otherwise it is the next one
  pub heard-name : (k : ℕ) → m.next ≡ Some k → outside_name (changed s heard) ≡ Some k
  heard-name k is =
      ap (λ (o : Option ℕ). outside_of (heard_names from o s.outside)) is ∙ first-renamed s.outside h.outside
    where
      outside_of : List ℕ → Option ℕ
      outside_of names = slice_get names 0

      first-renamed : (names : List ℕ) → slice_get names 0 ≡ Some from
          → slice_get (map (renamed from k) names) 0 ≡ Some k
      first-renamed [] is = absurd cc
      first-renamed (n ∷ names) is =
          let same : n ≡ from = cc in
          ap (λ (j : ℕ). Some j) (ap (renamed from k) same ∙ renamed-old from k)

  -- there are no more outside names than there were
  pub heard-fewer : length s.outside ≤ 1 → length (changed s heard).outside ≤ 1
  heard-fewer few = by_next m.next refl
    where
      by_next : (next : Option ℕ) → m.next ≡ next → length (changed s heard).outside ≤ 1
      by_next None is = omega (arith, ap (λ (ns : List ℕ). length ns) (heard-none few is))
      by_next (Some k) is =
          omega (
            arith,
            ap (λ (o : Option ℕ). length (heard_names from o s.outside)) is,
            length-map s.outside (renamed from k),
            few,
          )

  -- ---- what stays

  pub heard-keeps_contracts : KeepsContracts a s (changed s heard)
  heard-keeps_contracts = changed-keeps_contracts heard typed hears-fits

  pub heard-costs : RunCosts a 0 s (changed s heard)
  heard-costs =
      costs-nothing a s (changed s heard)
      (omega (arith, made-weight (idle a) s heard (object.Message m ∷ []) heard-replaces))
      (omega arith)

  -- nothing was numbered
  pub heard-numbers : ((changed s heard).next_object ≡ s.next_object) × ((changed s heard).next_name ≡ s.next_name)
  heard-numbers = (omega arith, omega arith)

  pub heard-accounts : length (changed s heard).balances ≡ length s.balances
  heard-accounts = paid_in-length heard.gets s.balances

  -- the account gets what the message carried, and no other one gets anything
  pub heard-paid : account < length s.balances → HavePaid ((account, m.purse) ∷ []) (changed s heard) s
  heard-paid within = gets-paid s heard account m.purse refl refl within
