-- What a firing touches: the state after it is the one before but for what the instruction tells.
use Rattle.std.proofs.Common.{◌==◌, if◌then◌else◌, ◌≡◌, ◌∙◌, ◌⊎◌, inl, inr, ℕ, not, Bool, true, false, cond, List, [], ◌∷◌, ◌++◌, map, All, Contains, Option, Some, None, Ok, Err, slice_get, refl, sym, subst, ap, arith}
use Rattle.std.proofs.lemmas.List.Elements.{All-nil, All-cons, All-head, All-contains, Contains-append_cases, Contains-append_left, Contains-append_right}
use Rattle.std.specs.Option.{option_map, option_to_list}
use Rattle.nomos_ir.specs.Bindings.{bound_to}
use Rattle.nomos_ir.specs.CodeParts.{code_terms}
use Rattle.nomos_ir.specs.TermsEvaluation.{TermsResult, terms_evaluation}
use Rattle.nomos_ir.specs.Value.{Value}
use Rattle.nomos_ir.specs.declared.code_node.Chan.{Chan}
use Rattle.nomos_ir.specs.declared.code_node.CodeNode.{CodeNode}
use Rattle.nomos_ir.specs.declared.code_node.CodeNode.TheVariants as code
use Rattle.nomos_ir.specs.declared.ids.CodeId.{CodeId}
use Rattle.nomos_ir.specs.declared.ids.TypeId.{TypeId}
use Rattle.nomos_ir.specs.declared.ids.VarId.{VarId}
use Rattle.nomos_ir.specs.declared.mode.Mode.{Mode}
use Rattle.nomos_ir.specs.declared.mode.Mode.TheVariants as mode
use Rattle.nomos_types.specs.Acceptance.{Acceptance, IsAccepted}
use Rattle.nomos_types.specs.Amount.{dths}
use Rattle.nomos_machine.specs.Change.{Change, put_at, put_all, changed}
use Rattle.nomos_machine.specs.Deeds.{Deed, changes, takes, sends, receives, hears_end, closes, forwards, takes_apart, deed_at, label_in, value_in, channel_in, potential_in, close_in, arm_for, one_of, lengthened, is_light}
use Rattle.nomos_machine.specs.Given.{given}
use Rattle.nomos_machine.specs.Objects.{object_number}
use Rattle.nomos_machine.specs.Optional.{◌>>=◌}
use Rattle.nomos_machine.specs.Revised.{standing_at, under_name, with_channel, with_value, renamed, renamed_payload, uses_instead}
use Rattle.nomos_machine.specs.Sight.{is_own, present_name, message_on, offering, user_of, after_acquire, accept_next, detach_next}
use Rattle.nomos_machine.specs.State.{State, node_of, process_at}
use Rattle.nomos_machine.specs.Step.{deed, deed_by, state_after, step}
use Rattle.nomos_machine.specs.TypedState.{IsTyped}
use Rattle.nomos_machine.specs.declared.object.Message.{Message}
use Rattle.nomos_machine.specs.declared.object.Object.{Object}
use Rattle.nomos_machine.specs.declared.object.Object.TheVariants as object
use Rattle.nomos_machine.specs.declared.object.Payload.{Payload}
use Rattle.nomos_machine.specs.declared.object.PotentialList.{PotentialList}
use Rattle.nomos_machine.specs.declared.object.Process.{Process}
use Rattle.nomos_machine.proofs.ChangeLaws.{Replaces, done, further}
use Rattle.nomos_machine.proofs.EachChangeLaws.{OfChange, OfDeed, change-some, change-bind, change-where, deed-does, deed-some, deed-bind, deed-either, deed-none, deed-fault}
use Rattle.nomos_machine.proofs.DeedLaws.{deed-goes}
use Rattle.nomos_machine.proofs.GoesLaws.{Goes, acts, faulty, waits}
use Rattle.nomos_machine.proofs.PreservationLaws.{process_at-there}
use Rattle.nomos_machine.proofs.ApartLaws.{numbers-differ}
use Rattle.nomos_machine.proofs.MessageLaws.{message_on-found}
use Rattle.nomos_machine.proofs.PutLaws.{InOrder, HasNumber, contains-one, put-kept}
use Rattle.nomos_machine.proofs.UserLaws.{user_of-found}
use Rattle.std.proofs.lemmas.Bool.{cases_eq}
use Rattle.nomos_machine.specs.Readiness.{looks_ready}
use Rattle.nomos_ready.specs.Touching.{IsChanged, IsHeard, meets, says_on, touch_at, touch_by, touch_from, touch_of}
use Rattle.nomos_ready.specs.Woken.{IsSameBut, WasThere}
use Rattle.nomos_ready.specs.declared.touch.Incoming.{Incoming}
use Rattle.nomos_ready.specs.declared.touch.Touch.{Touch}

-- ---- what a change that is told does

module _ (s : State) (p : Process) where
  -- whose place is taken: the process's, the partner's, or that of a message
  abbrev IsTaken : Touch → ℕ → Type 0
  IsTaken touch n =
      (n ≡ p.pid) ⊎ ((touch.partner ≡ Some n)
      ⊎ ((m : Message) × Contains s.objects (object.Message m) × (n ≡ m.number)))

  -- what stands at a place instead: a process only at the process's own number or the partner's, and a message only
  -- where one was, or where one is heard
  record PlaceTold (touch : Touch) (e : ℕ × Option Object) : Type 0 where
    taken : IsTaken touch e.0
    number : (r : Process) → e.1 ≡ Some (object.Process r) → (e.0 ≡ p.pid) ⊎ (touch.partner ≡ Some e.0)
    message : (m : Message) → e.1 ≡ Some (object.Message m) → WasThere s m ⊎ IsHeard touch m.to_client m.from

  -- what comes: a process with the next number, or a message that is heard
  abbrev ComesTold : Touch → Option Object → Type 0
  ComesTold touch (Some (object.Process r)) = r.pid ≡ s.next_object
  ComesTold touch (Some (object.Message m)) = IsHeard touch m.to_client m.from
  ComesTold touch None = Unit {0}

  record ChangeTold (touch : Touch) (c : Change) : Type 0 where
    places : All (PlaceTold touch) c.places
    comes : ComesTold touch c.comes

  -- ---- so the state after it is the same but for these

  put-among : (n : ℕ) (new : Option Object) (objects : List Object) (o : Object) → Contains (put_at n new objects) o
      → Contains objects o ⊎ Contains (option_to_list new) o
  put-among n new [] o there = inl there
  put-among n new (e ∷ objects) o there =
      at (object_number e == n) (put-among n new objects o) there
    where
      at : (b : Bool)
          → (Contains (put_at n new objects) o → Contains objects o ⊎ Contains (option_to_list new) o)
          → Contains (cond b (option_to_list new ++ objects) (e ∷ put_at n new objects)) o
          → Contains (e ∷ objects) o ⊎ Contains (option_to_list new) o
      at true rest there =
          elim (Contains-append_cases (option_to_list new) objects o there) [
            | inl here ↦ inr here
            | inr behind ↦ inl (Contains-append_right (e ∷ []) objects o behind)
          ]
      at false rest there =
          elim (Contains-append_cases (e ∷ []) (put_at n new objects) o there) [
            | inl first ↦ inl (Contains-append_left (e ∷ []) objects o first)
            | inr behind ↦
                elim (rest behind) [
                  | inl was ↦ inl (Contains-append_right (e ∷ []) objects o was)
                  | inr here ↦ inr here
                ]
          ]

  -- who is there after a change at places was there, or came at one of them
  record CameAt (places : List (ℕ × Option Object)) (o : Object) : Type 0 where
    place : ℕ × Option Object
    among : Contains places place
    is : place.1 ≡ Some o
    numbered : object_number o ≡ place.0

  came-further : (e : ℕ × Option Object) (places : List (ℕ × Option Object)) (o : Object) → CameAt places o
      → CameAt (e ∷ places) o
  came-further e places o came = record {
    place = came.place;
    among = Contains-append_right (e ∷ []) places came.place came.among;
    is = came.is;
    numbered = came.numbered;
  }

  came-first : (n : ℕ) (new : Option Object) (places : List (ℕ × Option Object)) (o : Object) → HasNumber n new
      → Contains (option_to_list new) o → CameAt ((n, new) ∷ places) o
  came-first n (Some q) places o numbered there =
      let same : q ≡ o = contains-one q o there in
      let has : object_number q ≡ n = All-head (λ (e : Object). object_number e ≡ n) q [] numbered in
      record {
        place = (n, Some q);
        among = (0, omega arith, refl);
        is = ap (λ (e : Object). Some e) same;
        numbered = ap object_number (sym same) ∙ has;
      }
  came-first n None places o numbered there = absurd (omega (arith, there.1))

  placed-among : (places : List (ℕ × Option Object)) (objects olds : List Object) (o : Object)
      → Replaces places objects olds → Contains (put_all places objects) o → Contains objects o ⊎ CameAt places o
  placed-among _ objects _ o (done _) there = inl there
  placed-among _ objects _ o (further q new places _ olds found numbered rest) there =
      let n : ℕ = object_number q in
      elim (placed-among places (put_at n new objects) olds o rest there) [
        | inl was ↦
            elim (put-among n new objects o was) [
              | inl before ↦ inl before
              | inr here ↦ inr (came-first n new places o numbered here)
            ]
        | inr came ↦ inr (came-further (n, new) places o came)
      ]

  -- who was there is there still, or its place is taken
  record TakenAt (places : List (ℕ × Option Object)) (o : Object) : Type 0 where
    place : ℕ × Option Object
    among : Contains places place
    numbered : place.0 ≡ object_number o

  placed-stays : (places : List (ℕ × Option Object)) (objects : List Object) (o : Object) → Contains objects o
      → Contains (put_all places objects) o ⊎ TakenAt places o
  placed-stays [] objects o there = inl there
  placed-stays (e ∷ places) objects o there =
      elim (cases_eq (object_number o) e.0) [
        | inl same ↦ inr (record { place = e; among = (0, omega arith, refl); numbered = sym same })
        | inr other ↦
            elim (placed-stays places (put_at e.0 e.1 objects) o (put-kept e.0 e.1 o objects other there)) [
              | inl stays ↦ inl stays
              | inr taken ↦
                  inr (record {
                    place = taken.place;
                    among = Contains-append_right (e ∷ []) places taken.place taken.among;
                    numbered = taken.numbered;
                  })
            ]
      ]

  module _ (order : InOrder s.objects) (touch : Touch) (c : Change) (olds : List Object)
      (replaces : Replaces c.places s.objects olds) (told : ChangeTold touch c) where
    abbrev Changed : ℕ → Type 0
    Changed n = IsChanged s p.pid touch n

    place-told : (o : Object) (came : CameAt c.places o) → PlaceTold touch came.place
    place-told o came =
        All-contains (PlaceTold touch) c.places came.place told.places came.among

    came-process : (r : Process) → CameAt c.places (object.Process r) → Changed r.pid
    came-process r came =
        elim ((place-told (object.Process r) came).number r came.is) [
          | inl own ↦ inl (came.numbered ∙ own)
          | inr partner ↦ inr (inr (partner ∙ ap (λ (n : ℕ). Some n) (sym came.numbered)))
        ]

    comes-process : (r : Process) (o : Option Object) → ComesTold touch o
        → Contains (option_to_list o) (object.Process r) → Changed r.pid
    comes-process r (Some (object.Process q)) comes there =
        let same : q ≡ r = process-same (contains-one (object.Process q) (object.Process r) there) in
        inr (inl (ap (λ (e : Process). e.pid) (sym same) ∙ comes))
      where
        process-same : object.Process q ≡ object.Process r → q ≡ r
        process-same is = cc
    comes-process r (Some (object.Message m)) comes there =
        absurd (differ (contains-one (object.Message m) (object.Process r) there))
      where
        differ : object.Message m ≡ object.Process r → ⊥
        differ is = cc
    comes-process r None comes there = absurd (omega (arith, there.1))

    comes-message : (m : Message) (o : Option Object) → ComesTold touch o
        → Contains (option_to_list o) (object.Message m) → IsHeard touch m.to_client m.from
    comes-message m (Some (object.Message q)) comes there =
        let same : q ≡ m = message-same (contains-one (object.Message q) (object.Message m) there) in
        subst (λ (e : Message). IsHeard touch e.to_client e.from) same comes
      where
        message-same : object.Message q ≡ object.Message m → q ≡ m
        message-same is = cc
    comes-message m (Some (object.Process r)) comes there =
        absurd (differ (contains-one (object.Process r) (object.Message m) there))
      where
        differ : object.Process r ≡ object.Message m → ⊥
        differ is = cc
    comes-message m None comes there = absurd (omega (arith, there.1))

    stays-process : (r : Process) → Contains s.objects (object.Process r) → TakenAt c.places (object.Process r)
        → Changed r.pid
    stays-process r there at =
        elim ((All-contains (PlaceTold touch) c.places at.place told.places at.among).taken) [
          | inl own ↦ inl (sym at.numbered ∙ own)
          | inr others ↦
              elim others [
                | inl partner ↦ inr (inr (partner ∙ ap (λ (n : ℕ). Some n) at.numbered))
                | inr message ↦
                    absurd (numbers-differ s.objects order r message.0 there message.1
                    (sym at.numbered ∙ message.2))
              ]
        ]

    told-same_but : IsSameBut Changed (IsHeard touch) s (changed s c)
    told-same_but = record {
      processes = λ r there.
          elim (Contains-append_cases (put_all c.places s.objects) (option_to_list c.comes) (object.Process r) there) [
            | inl placed ↦
                elim (placed-among c.places s.objects olds (object.Process r) replaces placed) [
                  | inl was ↦ inl was
                  | inr came ↦ inr (came-process r came)
                ]
            | inr comes ↦ inr (comes-process r c.comes told.comes comes)
          ];
      stays = λ r there.
          elim (placed-stays c.places s.objects (object.Process r) there) [
            | inl placed ↦
                inl (Contains-append_left (put_all c.places s.objects) (option_to_list c.comes) (object.Process r)
                placed)
            | inr taken ↦ inr (stays-process r there taken)
          ];
      messages = λ m there.
          elim (Contains-append_cases (put_all c.places s.objects) (option_to_list c.comes) (object.Message m) there) [
            | inl placed ↦
                elim (placed-among c.places s.objects olds (object.Message m) replaces placed) [
                  | inl was ↦ inl (record { other = m; there = was; way = refl; name = refl })
                  | inr came ↦ (place-told (object.Message m) came).message m came.is
                ]
            | inr comes ↦ inr (comes-message m c.comes told.comes comes)
          ];
    }

-- ---- what the change of each instruction is told to do

module _ (a : Acceptance) (s : State) (p : Process) (touch : Touch) where
  abbrev IsTold : Change → Type 0
  IsTold c = ChangeTold s p touch c

  -- ---- places

  abbrev EachTold : List (ℕ × Option Object) → Type 0
  EachTold places = All (PlaceTold s p touch) places

  goes-on : (q : Process) → PlaceTold s p touch (p.pid, Some (object.Process q))
  goes-on q = record { taken = inl refl; number = λ r is. inl refl; message = λ m is. absurd cc }

  own-gone : PlaceTold s p touch (p.pid, None)
  own-gone = record { taken = inl refl; number = λ r is. absurd cc; message = λ m is. absurd cc }

  message-gone : (m : Message) → Contains s.objects (object.Message m) → PlaceTold s p touch (m.number, None)
  message-gone m there =
      record { taken = inr (inr (m, there, refl)); number = λ r is. absurd cc; message = λ n is. absurd cc }

  partner-on : (n : ℕ) (q : Process) → touch.partner ≡ Some n → PlaceTold s p touch (n, Some (object.Process q))
  partner-on n q is_partner =
      record { taken = inr (inl is_partner); number = λ r is. inr is_partner; message = λ m is. absurd cc }

  one-place : (e : ℕ × Option Object) → PlaceTold s p touch e → EachTold (e ∷ [])
  one-place e told = All-cons (PlaceTold s p touch) e [] told (All-nil (PlaceTold s p touch))

  two-places : (e d : ℕ × Option Object) → PlaceTold s p touch e → PlaceTold s p touch d → EachTold (e ∷ d ∷ [])
  two-places e d first second =
      All-cons (PlaceTold s p touch) e (d ∷ []) first (one-place d second)

  own-alone : (q : Process) → EachTold ((p.pid, Some (object.Process q)) ∷ [])
  own-alone q = one-place (p.pid, Some (object.Process q)) (goes-on q)

  own-leaves : EachTold ((p.pid, None) ∷ [])
  own-leaves = one-place (p.pid, None) own-gone

  -- ---- the kinds of change

  sends-told : (c : Chan) (brought : Payload) (gas : ℕ) (q : Process) (goes : Option TypeId) (next : CodeId)
      → touch ≡ says_on p c → OfChange IsTold (sends a s p c brought gas q goes next)
  sends-told c brought gas q goes next is_touch =
      change-bind (present_name p c) _ (λ from is.
      change-bind goes _ (λ t is_t. change-some _ (record { places = own-alone _; comes = hears from is })))
    where
      hears : (from : ℕ) → present_name p c ≡ Some from → IsHeard touch (is_own c) from
      hears from is =
          ap (λ (u : Touch). u.heard) is_touch
          ∙ ap (λ (o : Option ℕ). option_map (λ n. let h : Incoming = record { to_client = is_own c; name = n } in h) o)
          is

  takes-told : (m : Message) (q : Process) → Contains s.objects (object.Message m) → IsTold (takes a s p m q)
  takes-told m q there = record {
    places = two-places _ (m.number, None) (goes-on _) (message-gone m there);
    comes = tt;
  }

  receives-told : (c : Chan) (reads : Payload → Process → Option Process) → OfChange IsTold (receives a s p c reads)
  receives-told c reads =
      change-bind (present_name p c) _ (λ from is.
      change-bind (message_on s.objects (not (is_own c)) from) _ (λ m is_m.
      change-bind m.next _ (λ name is_name.
      change-bind (reads m.payload (under_name c name p)) _ (λ q is_q.
      change-some _ (takes-told m q (message_on-found (not (is_own c)) from m s.objects is_m).waiting)))))

  hears-told : (v : VarId) (next : CodeId) → OfChange IsTold (hears_end a s p v next)
  hears-told v next =
      change-bind (bound_to v.0 p.channels) _ (λ from is.
      change-bind (message_on s.objects true from) _ (λ m is_m.
      change-bind (close_in m.payload) _ (λ over is_over.
      change-some _ (takes-told m _ (message_on-found true from m s.objects is_m).waiting))))

  closes-told : (at : ℕ) (m : Mode) → touch ≡ touch_at s p (code.Close at) → IsTold (closes a s p m)
  closes-told at mode.R is_touch =
      record { places = own-leaves; comes = ap (λ (u : Touch). u.heard) is_touch }
  closes-told at mode.S is_touch = record { places = own-leaves; comes = tt }
  closes-told at mode.L is_touch = record { places = own-leaves; comes = tt }
  closes-told at mode.T is_touch = record { places = own-leaves; comes = tt }

  -- whoever used the process's name uses another one
  instead-told : (u : Object) (name : ℕ) → Contains s.objects u → touch.partner ≡ Some (object_number u)
      → IsHeard touch false name
      → PlaceTold s p touch (object_number u, Some (uses_instead p.offers name u))
  instead-told (object.Process q) name there partner hears =
      record { taken = inr (inl partner); number = λ r is. inr partner; message = λ m is. absurd cc }
  instead-told (object.Message n) name there partner hears = record {
    taken = inr (inl partner);
    number = λ r is. absurd cc;
    message = λ m is. by_way n.to_client refl m is;
  }
    where
      instead : Bool → Message
      instead way = record n {
        from = if way then n.from else renamed p.offers name n.from;
        next = if way then option_map (renamed p.offers name) n.next else n.next;
        payload = renamed_payload p.offers name n.payload;
      }

      by_name : (b : Bool) → (n.from == p.offers) ≡ b → n.to_client ≡ false → (m : Message)
          → m.to_client ≡ n.to_client → m.from ≡ cond b name n.from → WasThere s m ⊎ IsHeard touch m.to_client m.from
      by_name true same way m goes from =
          inr (subst (λ (k : ℕ). IsHeard touch m.to_client k) (sym from)
          (subst (λ (w : Bool). IsHeard touch w name) (sym (goes ∙ way)) hears))
      by_name false other way m goes from =
          inl (record { other = n; there = there; way = sym goes; name = sym from })

      by_way : (way : Bool) → n.to_client ≡ way → (m : Message)
          → Some (object.Message (instead n.to_client)) ≡ Some (object.Message m)
          → WasThere s m ⊎ IsHeard touch m.to_client m.from
      by_way true way m is =
          let one : instead n.to_client ≡ m = message-same is in
          inl (record {
            other = n;
            there = there;
            way = ap (λ (e : Message). e.to_client) one;
            name = sym (ap (λ (w : Bool). if w then n.from else renamed p.offers name n.from) way)
                ∙ ap (λ (e : Message). e.from) one;
          })
        where
          message-same : Some (object.Message (instead n.to_client)) ≡ Some (object.Message m)
              → instead n.to_client ≡ m
          message-same is = cc
      by_way false way m is =
          let one : instead n.to_client ≡ m = message-same is in
          by_name (n.from == p.offers) refl way m (ap (λ (e : Message). e.to_client) (sym one))
          (ap (λ (e : Message). e.from) (sym one)
          ∙ ap (λ (w : Bool). if w then n.from else renamed p.offers name n.from) way)
        where
          message-same : Some (object.Message (instead n.to_client)) ≡ Some (object.Message m)
              → instead n.to_client ≡ m
          message-same is = cc

  forwards-told : (at : ℕ) (v : VarId) (name : ℕ) → touch ≡ touch_at s p (code.Fwd at v)
      → bound_to v.0 p.channels ≡ Some name → IsTold (forwards a s p name)
  forwards-told at v name is_touch bound =
      record { places = by_user (user_of s.objects p.offers) refl; comes = tt }
    where
      instead : Object → ℕ × Option Object
      instead o = (object_number o, Some (uses_instead p.offers name o))

      hears : IsHeard touch false name
      hears =
          ap (λ (u : Touch). u.heard) is_touch
          ∙ ap (λ (o : Option ℕ). option_map (λ n. let h : Incoming = record { to_client = false; name = n } in h) o)
          bound

      partner : (u : Object) → user_of s.objects p.offers ≡ Some u → touch.partner ≡ Some (object_number u)
      partner u found =
          ap (λ (t : Touch). t.partner) is_touch ∙ ap (λ (o : Option Object). option_map object_number o) found

      by_user : (user : Option Object) → user_of s.objects p.offers ≡ user
          → EachTold (map instead (option_to_list user) ++ (p.pid, None) ∷ [])
      by_user None found = own-leaves
      by_user (Some u) found =
          two-places (instead u) (p.pid, None)
          (instead-told u name (user_of-found p.offers u s.objects found).0 (partner u found) hears)
          own-gone

  apart-told : (w : VarId) (empty_next : CodeId) (head tail : VarId) (full_next : CodeId) (l : PotentialList)
      (xs : List Value) → IsTold (takes_apart a s p w empty_next head tail full_next l xs)
  apart-told w empty_next head tail full_next l [] = record { places = own-alone _; comes = tt }
  apart-told w empty_next head tail full_next l (x ∷ xs) = record { places = own-alone _; comes = tt }

  meets-partner : (name : Option ℕ) (n : ℕ) (other : Process) → touch ≡ meets s name → name ≡ Some n
      → offering s.objects n ≡ Some other → touch.partner ≡ Some other.pid
  meets-partner name n other is_touch named found =
      ap (λ (u : Touch). u.partner) is_touch
      ∙ ap (λ (o : Option ℕ). option_map (λ (q : Process). q.pid) (o >>= offering s.objects)) named
      ∙ ap (λ (o : Option Process). option_map (λ (q : Process). q.pid) o) found

  both-told : (q other r : Process) → touch.partner ≡ Some other.pid
      → EachTold ((p.pid, Some (object.Process q)) ∷ (other.pid, Some (object.Process r)) ∷ [])
  both-told q other r partner = two-places _ _ (goes-on q) (partner-on other.pid r partner)

  -- ---- one line or some for each instruction

  deed_at-told : (n : CodeNode) (vs : List Value) → touch ≡ touch_at s p n → OfDeed IsTold (deed_at a s p vs n)
  deed_at-told (code.Label at c l next) vs is_touch = deed-does _ (sends-told c _ 0 p _ next is_touch)
  deed_at-told (code.Case at c arms) vs is_touch =
      deed-does _ (receives-told c (λ brought q.
      label_in brought >>= arm_for arms >>= λ next. Some (standing_at next q)))
  deed_at-told (code.Send at c y next) vs is_touch =
      deed-does _ (change-bind (bound_to y.0 p.channels) _ (λ name is. sends-told c _ 0 _ _ next is_touch))
  deed_at-told (code.Recv at c y next) vs is_touch =
      deed-does _ (receives-told c (λ brought q.
      channel_in brought >>= λ name. Some (standing_at next (with_channel y name q))))
  deed_at-told (code.Put at c e next) vs is_touch =
      deed-does _ (change-bind (one_of vs) _ (λ x is. sends-told c _ 0 p _ next is_touch))
  deed_at-told (code.Take at c v next) vs is_touch =
      deed-does _ (receives-told c (λ brought q.
      value_in brought >>= λ x. Some (standing_at next (with_value v x q))))
  deed_at-told (code.Pay at c r next) vs is_touch =
      deed-does _ (change-where p (dths a.annotations r) _ (sends-told c _ _ _ _ next is_touch))
  deed_at-told (code.Get at c r next) vs is_touch =
      deed-does _ (receives-told c (λ brought q. potential_in brought >>= λ _. Some (standing_at next q)))
  deed_at-told (code.Work at r next) vs is_touch =
      deed-does _ (change-where p (dths a.annotations r) _
      (change-some _ (record { places = own-alone _; comes = tt })))
  deed_at-told (code.Wait at v next) vs is_touch = deed-does _ (hears-told v next)
  deed_at-told (code.Accept at next) vs is_touch = deed-none
  deed_at-told (code.Detach at next) vs is_touch = deed-none
  deed_at-told (code.Acquire at r v next) vs is_touch =
      deed-does _ (change-bind (bound_to r.0 p.channels) _ (λ shared is.
      change-bind (offering s.objects shared) _ (λ other is_other.
      change-bind (slice_get a.program.code other.code.0) _ (λ n stands.
      change-bind (accept_next n) _ (λ onward is_onward.
      change-bind (node_of a.program s.types shared >>= after_acquire) _ (λ t is_t.
      change-some _ (record {
        places =
            both-told _ other _ (meets-partner (bound_to r.0 p.channels) shared other is_touch is is_other);
        comes = tt;
      })))))))
  deed_at-told (code.Release at v r next) vs is_touch =
      deed-does _ (change-bind (bound_to v.0 p.channels) _ (λ name is.
      change-bind (offering s.objects name) _ (λ other is_other.
      change-bind (slice_get a.program.code other.code.0) _ (λ n stands.
      change-bind (detach_next n) _ (λ onward is_onward.
      change-bind other.base _ (λ shared is_base.
      change-some _ (record {
        places = both-told _ other _ (meets-partner (bound_to v.0 p.channels) name other is_touch is is_other);
        comes = tt;
      })))))))
  deed_at-told (code.Spawn at v f args next) vs is_touch =
      deed-bind (slice_get a.program.procs f.0) _ (λ d declared.
      deed-bind (given p vs args d) _ (λ g is_given.
      deed-does _ (change-where p (dths a.annotations d.amount) _
      (change-some _ (record { places = own-alone _; comes = refl })))))
  deed_at-told (code.Let at v e next) vs is_touch =
      deed-does _ (change-bind (one_of vs) _ (λ x is. change-some _ (record { places = own-alone _; comes = tt })))
  deed_at-told (code.Emit at e next) vs is_touch =
      deed-does _ (change-bind (one_of vs) _ (λ x is. change-some _ (record { places = own-alone _; comes = tt })))
  deed_at-told (code.If at e then_next else_next) vs is_touch =
      deed-does _ (change-bind (one_of vs) _ (λ x is. change-some _ (record { places = own-alone _; comes = tt })))
  deed_at-told (code.Close at) vs is_touch = deed-some _ (closes-told at p.mode is_touch)
  deed_at-told (code.Fwd at v) vs is_touch =
      deed-does _ (change-bind (bound_to v.0 p.channels) _ (λ name is.
      change-some _ (forwards-told at v name is_touch is)))
  deed_at-told (code.Call at f args) vs is_touch =
      deed-bind (slice_get a.program.procs f.0) _ (λ d declared.
      deed-bind (given p vs args d) _ (λ g is_given.
      deed-does _ (change-where p (dths a.annotations d.amount) _
      (change-some _ (record { places = own-alone _; comes = tt })))))
  deed_at-told (code.Empty at v r kind next) vs is_touch =
      deed-some _ (record { places = own-alone _; comes = tt })
  deed_at-told (code.Add at v e w next) vs is_touch =
      deed-bind (one_of vs) _ (λ x is.
      deed-bind (bound_to w.0 p.lists) _ (λ l is_l.
      deed-either (is_light (lengthened x l)) _ _
      (deed-does _ (change-where p l.amount _ (change-some _ (record { places = own-alone _; comes = tt }))))
      (deed-fault _)))
  deed_at-told (code.Match at w empty_next head tail full_next) vs is_touch =
      deed-does _ (change-bind (bound_to w.0 p.lists) _ (λ l is.
      change-some _ (apart-told w empty_next head tail full_next l l.items)))

  deed_by-told : (n : CodeNode) (values : TermsResult) → touch ≡ touch_at s p n → OfDeed IsTold (deed_by a s p n values)
  deed_by-told n (Ok vs) is_touch = deed_at-told n vs is_touch
  deed_by-told n (Err f) is_touch = deed-fault f

  -- so the change that the process makes is told by the instruction at which it stands
  deed-told : (c : Change) → touch ≡ touch_by s p (slice_get a.program.code p.code.0)
      → deed a s p ≡ Some (changes c) → IsTold c
  deed-told c is_touch is =
      (deed-bind (slice_get a.program.code p.code.0) _ (λ n stands.
      deed_by-told n (terms_evaluation a.program p.values (code_terms n))
      (is_touch ∙ ap (touch_by s p) stands))).of_changes c is

-- ---- the law

-- the state is the same but for what a process touches
abbrev SameBut : State → ℕ → Touch → State → Type 0
SameBut s pid touch t = IsSameBut (IsChanged s pid touch) (IsHeard touch) s t

-- The state after the firing of a process is the one before but for what the firing touches.
pub step-same_but : {a : Acceptance} → IsAccepted a → {s t : State} → IsTyped a s → (pid : ℕ) → step a s pid ≡ Some t
    → IsSameBut (IsChanged s pid (touch_of a s pid)) (IsHeard (touch_of a s pid)) s t
step-same_but {a} accepted {s} {t} typed pid steps = at (process_at s pid) refl steps
  where
    goes-same : (p : Process) (ready : Bool) (d : Option Deed) → deed a s p ≡ d → Goes a s ready d
        → (d >>= state_after s) ≡ Some t → SameBut s p.pid (touch_by s p (slice_get a.program.code p.code.0)) t
    goes-same p _ _ does (acts c olds replaces fits keeps) is =
        let touch : Touch = touch_by s p (slice_get a.program.code p.code.0) in
        subst (SameBut s p.pid touch) (one-state is)
        (told-same_but s p typed.numbered.ascending touch c olds replaces (deed-told a s p touch c refl does))
      where
        one-state : Some (changed s c) ≡ Some t → changed s c ≡ t
        one-state e = cc
    goes-same p _ _ does (faulty f) is = absurd cc
    goes-same p _ _ does waits is = absurd cc

    at : (o : Option Process) → process_at s pid ≡ o → ((o >>= deed a s) >>= state_after s) ≡ Some t
        → SameBut s pid (touch_from a s o) t
    at (Some p) found steps =
        let (there, number) = process_at-there s pid p found in
        subst (λ (n : ℕ). SameBut s n (touch_by s p (slice_get a.program.code p.code.0)) t) number
        (goes-same p (looks_ready a s p) (deed a s p) refl (deed-goes accepted typed there) steps)
    at None found steps = absurd cc
