-- A process that takes a message, and goes on under the message's next name, leaves a typed state typed.
use Rattle.std.proofs.Common.{cond, ◌≡◌, ◌≢◌, ◌∙◌, ◌≤◌, ◌⊎◌, inl, inr, ℕ, ◌+◌, Bool, true, false, List, [], ◌∷◌, length, Contains, Option, Some, None, IsSome, refl, sym, subst, ap, arith, append-nil}
use Rattle.std.specs.Option.{option_to_list}
use Rattle.std.proofs.lemmas.Bool.{cases_eq}
use Rattle.std.proofs.lemmas.List.Elements.{All-nil, All-cons, Contains-append_left}
use Rattle.nomos_ir.specs.Order.{count_of}
use Rattle.nomos_ir.specs.declared.ids.TypeId.{TypeId}
use Rattle.nomos_ir.specs.declared.mode.Mode.{Mode}
use Rattle.nomos_ir.specs.declared.mode.Mode.TheVariants as mode
use Rattle.nomos_ir.proofs.SumLaws.{count-first}
use Rattle.nomos_types.specs.Acceptance.{Acceptance, IsAccepted}
use Rattle.nomos_types.specs.Modes.{HasMode, IsLinearMode}
use Rattle.nomos_types.proofs.OccurrenceLaws.{counted}
use Rattle.nomos_machine.specs.Change.{Change, put_at, made, no_change}
use Rattle.nomos_machine.specs.Matching.{ProcessTyped}
use Rattle.nomos_machine.specs.Objects.{object_number, provided, used, based, shared_names, shared_of, mentioned, carried, times, object_at, talk_end}
use Rattle.nomos_machine.specs.State.{State, NameTypes, type_of}
use Rattle.nomos_machine.specs.TypedState.{VariablesDiffer, HasVariables, IsOwned, ObjectTyped, LeadsToBase, at_base, further, IsTyped}
use Rattle.nomos_machine.specs.declared.object.Message.{Message}
use Rattle.nomos_machine.specs.declared.object.Object.{Object}
use Rattle.nomos_machine.specs.declared.object.Object.TheVariants as object
use Rattle.nomos_machine.specs.declared.object.Process.{Process}
use Rattle.nomos_machine.proofs.ApartLaws.{times-two, one-process, one-message, numbers-differ, leads-own, leads-further}
use Rattle.nomos_machine.proofs.ChangeLaws.{Replaces, done, further as then, made-kept}
use Rattle.nomos_machine.proofs.FitLaws.{Fits}
use Rattle.nomos_machine.proofs.GasLaws.{KeepsGas}
use Rattle.nomos_machine.proofs.GoesLaws.{process-typed}
use Rattle.nomos_machine.proofs.HeldLaws.{based-shared}
use Rattle.nomos_machine.proofs.LinearLaws.{count-other, linear-owned, shared_of-linear}
use Rattle.nomos_machine.proofs.NameLaws.{mentioned-sum}
use Rattle.nomos_machine.proofs.ObjectLaws.{object-kept}
use Rattle.nomos_machine.proofs.OwnedLaws.{made-times, owned-as_before}
use Rattle.nomos_machine.proofs.PutLaws.{object_at-own, object_at-other, put-new, put-kept, contains-one}

-- From which side the process takes the message: as the provider of the name it goes on with the next one, and as the
-- client it still offers what it offered.
pub data Turning (p q : Process) (m : Message) : Type 0 where
  provider : p.offers ≡ m.from → m.to_client ≡ false → m.next ≡ Some q.offers → IsLinearMode p.mode → Turning p q m
  client : q.offers ≡ p.offers → m.to_client ≡ true → 1 ≤ count_of m.from (used (object.Process p)) → Turning p q m

-- What the rule and the message give at a receive: the message is there, on a name that is used exactly once; that
-- name is gone afterwards; and the process goes on as q, which is typed.
pub record Taking (a : Acceptance) (s : State) (p : Process) (m : Message) (q : Process) : Type 0 where
  pub waiting : Contains s.objects (object.Message m)
  pub own : TypeId
  pub found : type_of s.types m.from ≡ Some own
  pub mode : Mode
  pub has_mode : HasMode a.program own mode
  pub is_linear : IsLinearMode mode
  pub turns : Turning p q m
  pub uses : (name : ℕ) → count_of name (used (object.Process q)) + count_of name (m.from ∷ [])
      ≡ count_of name (used (object.Process p)) + count_of name (used (object.Message m))
  pub pid : q.pid ≡ p.pid
  pub same_mode : q.mode ≡ p.mode
  pub base : q.base ≡ p.base
  pub purse : q.purse ≡ p.purse + m.purse
  pub typed : ProcessTyped a s.types (length s.balances) q
  pub differ : VariablesDiffer q

turning-provides : (p q : Process) (m : Message) (name : ℕ) → Turning p q m
    → count_of name (provided (object.Process q)) + count_of name (m.from ∷ [])
    ≡ count_of name (provided (object.Process p)) + count_of name (provided (object.Message m))
turning-provides p q m name (provider offers way next linear) =
    let message : count_of name (provided (object.Message m)) ≡ count_of name (q.offers ∷ []) =
    ap (λ (b : Bool). count_of name (cond b (m.from ∷ []) (option_to_list m.next))) way
    ∙ ap (λ (o : Option ℕ). count_of name (option_to_list o)) next
    in
    let same = ap (λ (n : ℕ). count_of name (n ∷ [])) offers in
    omega (arith, message, same)
turning-provides p q m name (client offers way uses) =
    let message : count_of name (provided (object.Message m)) ≡ count_of name (m.from ∷ []) =
    ap (λ (b : Bool). count_of name (cond b (m.from ∷ []) (option_to_list m.next))) way
    in
    let same = ap (λ (n : ℕ). count_of name (n ∷ [])) offers in
    omega (arith, message, same)

turning-shared : (p q : Process) (m : Message) → Turning p q m → q.mode ≡ p.mode → q.base ≡ p.base
    → shared_names (object.Process q) ≡ shared_names (object.Process p)
turning-shared p q m turns same_mode base =
    ap (λ (k : Mode). shared_of k q.offers q.base) same_mode
    ∙ ap (λ (b : Option ℕ). shared_of p.mode q.offers b) base ∙ stands turns
  where
    stands : Turning p q m → shared_of p.mode q.offers p.base ≡ shared_of p.mode p.offers p.base
    stands (provider offers way next linear) = shared_of-linear p.mode q.offers p.offers p.base linear
    stands (client offers way uses) = ap (λ (n : ℕ). shared_of p.mode n p.base) offers

module _ {a : Acceptance} (accepted : IsAccepted a) {s : State} (typed : IsTyped a s) {p : Process}
    (there : Contains s.objects (object.Process p)) (m : Message) (q : Process) (h : Taking a s p m q) where
  abbrev pub taken : Change
  taken = record (no_change s) { places = (p.pid, Some (object.Process q)) ∷ (m.number, None) ∷ [] }

  abbrev olds : List Object
  olds = object.Process p ∷ object.Message m ∷ []

  found-there : object_at s.objects p.pid ≡ Some (object.Process p)
  found-there = object_at-own (object.Process p) s.objects typed.numbered.ascending there

  apart : p.pid ≢ m.number
  apart = numbers-differ s.objects typed.numbered.ascending p m there h.waiting

  pub receives-replaces : Replaces taken.places s.objects olds
  receives-replaces =
      let HasIt : Object → Type 0 = λ o. object_number o ≡ p.pid in
      let placed : List Object = put_at p.pid (Some (object.Process q)) s.objects in
      let numbered = All-cons HasIt (object.Process q) [] h.pid (All-nil HasIt) in
      let found_message : object_at placed m.number ≡ Some (object.Message m) =
      object_at-other p.pid m.number (Some (object.Process q)) s.objects apart numbered
      ∙ object_at-own (object.Message m) s.objects typed.numbered.ascending h.waiting
      in
      then (object.Process p) (Some (object.Process q)) ((m.number, None) ∷ []) s.objects (object.Message m ∷ [])
      found-there
      numbered
      (then (object.Message m) None [] placed [] found_message (All-nil (λ o. object_number o ≡ m.number))
      (done (put_at m.number None placed)))

  same-type : (name : ℕ) → type_of (made s taken).types name ≡ type_of s.types name
  same-type name = ap (λ (types : NameTypes). type_of types name) (append-nil s.types)

  -- ---- counts

  provides-fewer : (name : ℕ)
      → times provided (made s taken).objects name + count_of name (m.from ∷ []) ≡ times provided s.objects name
  provides-fewer name =
      let sum = made-times provided name s taken olds receives-replaces in
      omega (arith, sum, turning-provides p q m name h.turns)

  uses-fewer : (name : ℕ)
      → times used (made s taken).objects name + count_of name (m.from ∷ []) ≡ times used s.objects name
  uses-fewer name =
      let sum = made-times used name s taken olds receives-replaces in
      omega (arith, sum, h.uses name)

  shared-same : (name : ℕ) → times shared_names (made s taken).objects name ≡ times shared_names s.objects name
  shared-same name =
      let sum = made-times shared_names name s taken olds receives-replaces in
      let same = ap (λ (ns : List ℕ). count_of name ns) (turning-shared p q m h.turns h.same_mode h.base) in
      omega (arith, sum, same)

  owned-before : (times provided s.objects m.from ≡ 1) × (times used s.objects m.from ≤ 1)
  owned-before = linear-owned h.mode s m.from h.is_linear (typed.owned m.from h.own h.mode h.found h.has_mode)

  -- the name on which the message was read is not mentioned any more
  pub gone : times mentioned (made s taken).objects m.from ≡ 0
  gone =
      let owned = owned-before in
      let sum = made-times based m.from s taken olds receives-replaces in
      let same = ap (λ (o : Option ℕ). count_of m.from (option_to_list o)) h.base in
      let none = based-shared accepted typed m.from h.own h.mode h.found h.has_mode (unshared h.mode h.is_linear) in
      omega (
        arith,
        mentioned-sum (made s taken).objects m.from,
        provides-fewer m.from,
        uses-fewer m.from,
        count-first m.from [],
        sum,
        same,
        none,
        owned.0,
        owned.1,
      )
    where
      unshared : (k : Mode) → IsLinearMode k → k ≢ mode.S
      unshared k (inl at_r) at_s = absurd cc
      unshared k (inr at_l) at_s = absurd cc

  other-name : (name : ℕ) → 1 ≤ times mentioned (made s taken).objects name → name ≢ m.from
  other-name name some same =
      let here = subst (λ (n : ℕ). 1 ≤ times mentioned (made s taken).objects n) same some in
      omega (arith, here, gone)

  owned-after : (name : ℕ) (t : TypeId) (k : Mode) → type_of (made s taken).types name ≡ Some t → HasMode a.program t k
      → 1 ≤ times mentioned (made s taken).objects name → IsOwned k (made s taken) name
  owned-after name t k found has some =
      let before = sym (same-type name) ∙ found in
      let none = count-other name m.from (other-name name some) in
      owned-as_before k s (made s taken) name
      (record {
        provided = λ is. omega (arith, provides-fewer name, none);
        used = λ is. omega (arith, uses-fewer name, none);
        shared = λ is. shared-same name;
        outside = refl;
      })
      (typed.owned name t k before has)

  -- ---- sections

  stays-there : (o : Object) → Contains s.objects o → object_number o ≢ p.pid → object_number o ≢ m.number
      → Contains (made s taken).objects o
  stays-there o inside other third =
      let Other : ℕ × Option Object → Type 0 = λ e. e.0 ≢ object_number o in
      let first : Other (p.pid, Some (object.Process q)) = λ is. other (sym is) in
      let second : Other (m.number, None) = λ is. third (sym is) in
      made-kept s taken o inside
      (All-cons Other (p.pid, Some (object.Process q)) ((m.number, None) ∷ []) first
      (All-cons Other (m.number, None) [] second (All-nil Other)))

  q-there : Contains (made s taken).objects (object.Process q)
  q-there =
      let placed : List Object = put_at p.pid (Some (object.Process q)) s.objects in
      let here : Contains placed (object.Process q) =
      put-new p.pid (Some (object.Process q)) (object.Process p) (object.Process q) s.objects found-there
      (0, omega arith, refl)
      in
      Contains-append_left (put_at m.number None placed) [] (object.Process q)
      (put-kept m.number None (object.Process q) placed (λ same. apart (sym h.pid ∙ same)) here)

  at-end : (base : ℕ) → p.mode ≡ mode.L → p.base ≡ Some base → LeadsToBase (made s taken).objects base q.offers
  at-end base at_l is = at_base q q-there (h.same_mode ∙ at_l) (h.base ∙ is)

  -- a message that stays does not use the name, whose one user is the process or the message that is taken
  not-used : (n : Message) (name : ℕ) → Contains s.objects (object.Message n) → n.number ≢ m.number
      → Contains (talk_end n) name → name ≢ m.from
  not-used n name inside other end same =
      let among : Contains (used (object.Message n)) m.from =
      subst (λ (k : ℕ). Contains (used (object.Message n)) k) same
      (Contains-append_left (talk_end n) (carried n.payload) name end)
      in
      by_side h.turns (counted m.from (used (object.Message n)) among)
    where
      by_side : Turning p q m → 1 ≤ count_of m.from (used (object.Message n)) → ⊥
      by_side (provider offers way next linear) one =
          let ends : talk_end m ≡ m.from ∷ [] =
          ap (λ (b : Bool). cond b (option_to_list m.next) (m.from ∷ [])) way
          in
          let uses = counted m.from (used (object.Message m))
          (Contains-append_left (talk_end m) (carried m.payload) m.from
          (subst (λ (ns : List ℕ). Contains ns m.from) (sym ends) (0, omega arith, refl)))
          in
          let two = times-two s.objects typed.numbered.ascending used m.from (object.Message m) (object.Message n)
          h.waiting inside
          other
          in
          omega (arith, two, one, uses, owned-before.1)
      by_side (client offers way uses) one =
          let differ : n.number ≢ p.pid = λ is.
          numbers-differ s.objects typed.numbered.ascending p n there inside (sym is)
          in
          let two = times-two s.objects typed.numbered.ascending used m.from (object.Process p) (object.Message n)
          there inside
          differ
          in
          omega (arith, two, one, uses, owned-before.1)

  -- the process is the end of the sections whose end it was, if the name is another one
  process-ends : (base : ℕ) → p.mode ≡ mode.L → p.base ≡ Some base → p.offers ≢ m.from
      → LeadsToBase (made s taken).objects base p.offers
  process-ends base at_l is other = by_side h.turns
    where
      by_side : Turning p q m → LeadsToBase (made s taken).objects base p.offers
      by_side (provider offers way next linear) = absurd (other offers)
      by_side (client offers way uses) = subst (LeadsToBase (made s taken).objects base) offers (at-end base at_l is)

  -- the name that the message provided leads to the base at once
  message-ends : (base name onward : ℕ) → Contains (provided (object.Message m)) name → Contains (talk_end m) onward
      → name ≢ m.from → LeadsToBase s.objects base onward → LeadsToBase (made s taken).objects base name
  message-ends base name onward provides end other leads = by_side h.turns
    where
      by_side : Turning p q m → LeadsToBase (made s taken).objects base name
      by_side (provider offers way next linear) =
          let gives : provided (object.Message m) ≡ q.offers ∷ [] =
          ap (λ (b : Bool). cond b (m.from ∷ []) (option_to_list m.next)) way
          ∙ ap (λ (o : Option ℕ). option_to_list o) next
          in
          let is_next = contains-one q.offers name (subst (λ (ns : List ℕ). Contains ns name) gives provides) in
          let ends : talk_end m ≡ m.from ∷ [] =
          ap (λ (b : Bool). cond b (option_to_list m.next) (m.from ∷ [])) way
          in
          let is_from = contains-one m.from onward (subst (λ (ns : List ℕ). Contains ns onward) ends end) in
          let leads_own = subst (LeadsToBase s.objects base) (sym (offers ∙ is_from)) leads in
          let once = subst (λ (n : ℕ). times provided s.objects n ≡ 1) (sym offers) owned-before.0 in
          let based = leads-own s.objects typed.numbered.ascending p base there (omega (arith, once)) leads_own in
          let at_l = (process-typed typed there).has_base.base.0 (subst IsSome (sym based) refl) in
          subst (LeadsToBase (made s taken).objects base) is_next (at-end base at_l based)
      by_side (client offers way uses) =
          let gives : provided (object.Message m) ≡ m.from ∷ [] =
          ap (λ (b : Bool). cond b (m.from ∷ []) (option_to_list m.next)) way
          in
          let is_from = contains-one m.from name (subst (λ (ns : List ℕ). Contains ns name) gives provides) in
          absurd (other (sym is_from))

  taken-leads : (base name : ℕ) → name ≢ m.from → LeadsToBase s.objects base name
      → LeadsToBase (made s taken).objects base name
  taken-leads base name other leads =
      leads-further (λ n. n ≢ m.from) s.objects (made s taken).objects base ends onward name other leads
    where
      ends : (r : Process) → Contains s.objects (object.Process r) → r.mode ≡ mode.L → r.base ≡ Some base
          → r.offers ≢ m.from
          → LeadsToBase (made s taken).objects base r.offers
      ends r inside at_l is stay =
          elim (cases_eq r.pid p.pid) [
            | inl number ↦
                let is_p = one-process s.objects typed.numbered.ascending p r there inside number in
                let at_l_too : p.mode ≡ mode.L = ap (λ (o : Process). o.mode) (sym is_p) ∙ at_l in
                let based : p.base ≡ Some base = ap (λ (o : Process). o.base) (sym is_p) ∙ is in
                let stays : p.offers ≢ m.from = subst (λ (o : Process). o.offers ≢ m.from) is_p stay in
                subst (λ (o : Process). LeadsToBase (made s taken).objects base o.offers) (sym is_p)
                (process-ends base at_l_too based stays)
            | inr another ↦
                at_base r
                (stays-there (object.Process r) inside another
                (numbers-differ s.objects typed.numbered.ascending r m inside h.waiting)) at_l is
          ]

      Onward : ℕ → ℕ → Type 0
      Onward k l = (LeadsToBase (made s taken).objects base k)
          ⊎ ((l ≢ m.from) × (LeadsToBase (made s taken).objects base l → LeadsToBase (made s taken).objects base k))

      onward : (n : Message) (k l : ℕ) → Contains s.objects (object.Message n)
          → Contains (provided (object.Message n)) k
          → Contains (talk_end n) l → k ≢ m.from → LeadsToBase s.objects base l → Onward k l
      onward n k l inside provides end stay leads_on =
          elim (cases_eq n.number m.number) [
            | inl number ↦
                let is_m = one-message s.objects typed.numbered.ascending m n h.waiting inside number in
                inl (message-ends base k l
                (subst (λ (o : Message). Contains (provided (object.Message o)) k) is_m provides)
                (subst (λ (o : Message). Contains (talk_end o) l) is_m end) stay leads_on)
            | inr another ↦
                let differ : n.number ≢ p.pid = λ is.
                numbers-differ s.objects typed.numbered.ascending p n there inside (sym is)
                in
                inr (
                  not-used n l inside another end,
                  λ leads_there. further n k l (stays-there (object.Message n) inside differ another) provides end
                      leads_there,
                )
          ]

  -- ---- the whole

  pub receives-fits : Fits a s taken
  receives-fits = record {
    olds = olds;
    replaces = receives-replaces;
    numbered = All-nil (λ o. object_number o ≡ s.next_object);
    variables = All-cons HasVariables (object.Process q) [] h.differ (All-nil HasVariables);
    typed = All-cons Here (object.Process q) [] here (All-nil Here);
    owned = owned-after;
    keeps_shared = λ name t found at_s. shared-same name;
    outside = λ name some.
        let (t, found, at_r) = typed.outside name some in
        (t, same-type name ∙ found, at_r, still-mentioned name t some found at_r);
    sections = λ name t found at_l some.
        let section = typed.sections name t (sym (same-type name) ∙ found) at_l in
        record {
          base = section.base;
          leads = taken-leads section.base name (other-name name some) section.leads;
          shared = section.shared;
          found = same-type section.base ∙ section.found;
          synchronizing = section.synchronizing;
        };
  }
    where
      Here : Object → Type 0
      Here o = ObjectTyped a (made s taken).types (length s.balances) o

      here : Here (object.Process q)
      here = object-kept a s.types (made s taken).types (length s.balances) (object.Process q)
          (λ name t among found. same-type name ∙ found) h.typed

      -- an outside name is used by no object, and so it is another one
      still-mentioned : (name : ℕ) (t : TypeId) → 1 ≤ count_of name s.outside → type_of s.types name ≡ Some t
          → HasMode a.program t mode.R → 1 ≤ times mentioned (made s taken).objects name
      still-mentioned name t some found at_r =
          let owned = typed.owned name t mode.R found at_r in
          omega (
            arith,
            mentioned-sum (made s taken).objects name,
            provides-fewer name,
            uses-fewer name,
            owned.0,
            owned.1,
          )

  pub receives-keep_gas : KeepsGas s taken olds
  receives-keep_gas = record { gives = tt; gets = tt; even = omega (arith, h.purse) }
