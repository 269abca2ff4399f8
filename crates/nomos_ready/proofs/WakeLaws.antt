-- The law of waking: where a state is the one before but for some changes, whoever is ready was ready before, or is
-- woken by a change.
use Rattle.std.proofs.Common.{◌≡◌, ◌∙◌, ◌⊎◌, inl, inr, ℕ, not, Bool, true, false, Contains, Option, Some, None, IsSome, slice_get, option_and_then, is_some, refl, sym, subst, ap}
use Rattle.nomos_ir.specs.Bindings.{bound_to}
use Rattle.nomos_ir.specs.declared.code_node.Chan.{Chan}
use Rattle.nomos_ir.specs.declared.code_node.Chan.TheVariants as chan
use Rattle.nomos_ir.specs.declared.code_node.CodeNode.{CodeNode}
use Rattle.nomos_ir.specs.declared.code_node.CodeNode.TheVariants as code
use Rattle.nomos_ir.specs.declared.ids.CodeId.{CodeId}
use Rattle.nomos_ir.specs.declared.ids.VarId.{VarId}
use Rattle.nomos_ir.specs.declared.mode.Mode.{Mode}
use Rattle.nomos_ir.specs.declared.mode.Mode.TheVariants as mode
use Rattle.nomos_types.specs.Acceptance.{Acceptance, IsAccepted}
use Rattle.nomos_types.specs.Modes.{HasMode}
use Rattle.nomos_machine.specs.Objects.{process_of, used}
use Rattle.nomos_machine.specs.Optional.{◌>>=◌}
use Rattle.nomos_machine.specs.Readiness.{is_met_at, looks_ready, met_or_not}
use Rattle.nomos_machine.specs.Sight.{is_own, present_name, message_on, offering, owner, accept_next, detach_next}
use Rattle.nomos_machine.specs.State.{State, process_at}
use Rattle.nomos_machine.specs.Step.{IsReady}
use Rattle.nomos_machine.specs.TypedState.{IsTyped}
use Rattle.nomos_machine.specs.declared.object.Message.{Message}
use Rattle.nomos_machine.specs.declared.object.Object.TheVariants as object
use Rattle.nomos_machine.specs.declared.object.Process.{Process}
use Rattle.nomos_machine.proofs.GoesLaws.{process-typed}
use Rattle.nomos_machine.proofs.MessageLaws.{IsReadOn, message_on-found}
use Rattle.nomos_machine.proofs.ObjectLaws.{bound-among}
use Rattle.nomos_machine.proofs.PreservationLaws.{process_at-there, ready-told, ready-none}
use Rattle.nomos_machine.proofs.PutLaws.{object_at-own}
use Rattle.nomos_machine.proofs.SectionLaws.{offering-found, offering-own}
use Rattle.nomos_deeds.specs.Readers.{acquires, acquires_at, waits}
use Rattle.nomos_ready.specs.Woken.{IsSameBut, WasThere, Woken, itself, client, provider, releasing, acquiring}
use Rattle.nomos_ready.proofs.SightLaws.{detaching-at_l, message_on-some, message-user, user-alone}

-- a process that is one of the objects is that of its number
pub process_at-own : {a : Acceptance} {s : State} → IsTyped a s → (p : Process) → Contains s.objects (object.Process p)
    → process_at s p.pid ≡ Some p
process_at-own {a} {s} typed p there =
    ap (option_and_then process_of) (object_at-own (object.Process p) s.objects typed.numbered.ascending there)

module _ {a : Acceptance} (accepted : IsAccepted a) {s t : State} (typed_s : IsTyped a s) (typed_t : IsTyped a t)
    (changed : ℕ → Type 0) (heard : Bool → ℕ → Type 0) (same : IsSameBut changed heard s t) where
  abbrev Wakes : ℕ → Type 0
  Wakes q = Woken a changed heard t q

  -- of a process that is in both states
  module _ (p : Process) (after : Contains t.objects (object.Process p)) where
    -- a look came out so before too, or the process is woken
    abbrev Told : Bool → Type 0
    Told before = (before ≡ true) ⊎ Wakes p.pid

    -- ---- what is read

    read-by_channel : (c : Chan) (name : ℕ) (m : Message) → present_name p c ≡ Some name
        → IsReadOn t.objects (not (is_own c)) name m → heard m.to_client m.from → Wakes p.pid
    read-by_channel chan.Own name m named read hears =
        let own : name ≡ p.offers = cc in
        let here : heard false m.from = subst (λ (b : Bool). heard b m.from) read.goes_way hears in
        let there : heard false p.offers = subst (λ (n : ℕ). heard false n) (read.read ∙ own) here in
        provider p.offers p there (offering-own accepted typed_t after)
    read-by_channel (chan.Var v) name m named read hears =
        let from : bound_to v.0 p.channels ≡ Some m.from =
        subst (λ (n : ℕ). bound_to v.0 p.channels ≡ Some n) (sym read.read) named
        in
        let here : heard true m.from = subst (λ (b : Bool). heard b m.from) read.goes_way hears in
        client m.from p.pid here (message-user accepted typed_t p after m read.waiting v.0 from)

    read-named : (c : Chan) (name : ℕ) → present_name p c ≡ Some name
        → is_some (message_on t.objects (not (is_own c)) name) ≡ true
        → Told (is_some (message_on s.objects (not (is_own c)) name))
    read-named c name named is = at (message_on t.objects (not (is_own c)) name) refl is
      where
        way : Bool
        way = not (is_own c)

        was : (m : Message) → IsReadOn t.objects way name m → WasThere s m
            → is_some (message_on s.objects way name) ≡ true
        was m read there =
            let some = message_on-some way name there.other s.objects there.there (there.way ∙ read.goes_way)
            (there.name ∙ read.read)
            in
            ap is_some some.found

        at : (o : Option Message) → message_on t.objects way name ≡ o → is_some o ≡ true
            → Told (is_some (message_on s.objects way name))
        at (Some m) found is =
            let read = message_on-found way name m t.objects found in
            elim (same.messages m read.waiting) [
              | inl there ↦ inl (was m read there)
              | inr hears ↦ inr (read-by_channel c name m named read hears)
            ]
        at None found is = absurd cc

    -- a message that is read on a channel
    read-told : (c : Chan) → is_some (present_name p c >>= message_on t.objects (not (is_own c))) ≡ true
        → Told (is_some (present_name p c >>= message_on s.objects (not (is_own c))))
    read-told c is = at (present_name p c) refl is
      where
        at : (o : Option ℕ) → present_name p c ≡ o → is_some (o >>= message_on t.objects (not (is_own c))) ≡ true
            → Told (is_some (o >>= message_on s.objects (not (is_own c))))
        at (Some name) named is = read-named c name named is
        at None named is = absurd cc

    -- ---- whom it meets

    -- where the provider of a name stands
    abbrev stands_by : State → (CodeNode → Option CodeId) → Option ℕ → Option CodeId
    stands_by u turns name = name >>= λ n. offering u.objects n >>= λ other.
        slice_get a.program.code other.code.0 >>= turns

    -- a provider of whom nothing changed is found as before
    met-before : (turns : CodeNode → Option CodeId) (name : ℕ) (r : Process)
        → offering t.objects name ≡ Some r → Contains s.objects (object.Process r)
        → offering s.objects name ≡ Some r
    met-before turns name r found there =
        let (inside, offers) = offering-found t.objects name r found in
        subst (λ (n : ℕ). offering s.objects n ≡ Some r) offers (offering-own accepted typed_s there)

    met-told : (turns : CodeNode → Option CodeId) (name : Option ℕ)
        → ((n : ℕ) (r : Process) (at : CodeNode) → name ≡ Some n → offering t.objects n ≡ Some r
        → slice_get a.program.code r.code.0 ≡ Some at → IsSome (turns at) → changed r.pid → Wakes p.pid)
        → is_some (stands_by t turns name) ≡ true → Told (is_some (stands_by s turns name))
    met-told turns None wakes is = absurd cc
    met-told turns (Some name) wakes is = by_provider (offering t.objects name) refl is
      where
        some-true : (o : Option CodeId) → is_some o ≡ true → IsSome o
        some-true (Some x) is = refl
        some-true None is = absurd cc

        by_node : (r : Process) (o : Option CodeNode) → offering t.objects name ≡ Some r → changed r.pid
            → slice_get a.program.code r.code.0 ≡ o → is_some (o >>= turns) ≡ true → Wakes p.pid
        by_node r (Some at) found changes stands is =
            wakes name r at refl found stands (some-true (turns at) is) changes
        by_node r None found changes stands is = absurd cc

        by_provider : (o : Option Process) → offering t.objects name ≡ o
            → is_some (o >>= λ other. slice_get a.program.code other.code.0 >>= turns) ≡ true
            → Told (is_some (offering s.objects name >>= λ other. slice_get a.program.code other.code.0 >>= turns))
        by_provider (Some r) found is =
            elim (same.processes r (offering-found t.objects name r found).0) [
              | inl there ↦
                  inl (ap (λ (o : Option Process).
                  is_some (o >>= λ other. slice_get a.program.code other.code.0 >>= turns))
                  (met-before turns name r found there) ∙ is)
              | inr changes ↦
                  inr (by_node r (slice_get a.program.code r.code.0) found changes refl is)
            ]
        by_provider None found is = absurd cc

    acquire-told : (at : ℕ) (r v : VarId) (next : CodeId)
        → slice_get a.program.code p.code.0 ≡ Some (code.Acquire at r v next)
        → is_some (stands_by t accept_next (bound_to r.0 p.channels)) ≡ true
        → Told (is_some (stands_by s accept_next (bound_to r.0 p.channels)))
    acquire-told at r v next own is =
        met-told accept_next (bound_to r.0 p.channels)
        (λ name other n named found stands accepts changes.
        let (there, offers) = offering-found t.objects name other found in
        acquiring other n p.pid changes there stands accepts (waiting name named ∙ ap (λ (k : ℕ). Some k) (sym offers)))
        is
      where
        waiting : (name : ℕ) → bound_to r.0 p.channels ≡ Some name → waits a t.objects p.pid ≡ Some name
        waiting name named =
            ap (λ (o : Option Process). o >>= acquires a) (process_at-own typed_t p after)
            ∙ ap (λ (o : Option CodeNode). o >>= acquires_at p) own
            ∙ named

    release-told : (at : ℕ) (v r : VarId) (next : CodeId)
        → is_some (stands_by t detach_next (bound_to v.0 p.channels)) ≡ true
        → Told (is_some (stands_by s detach_next (bound_to v.0 p.channels)))
    release-told at v r next is =
        met-told detach_next (bound_to v.0 p.channels)
        (λ name other n named found stands detaches changes.
        let (there, offers) = offering-found t.objects name other found in
        releasing other n p.pid changes there stands detaches (owns name other n named there offers stands detaches)) is
      where
        owns : (name : ℕ) (other : Process) (n : CodeNode) → bound_to v.0 p.channels ≡ Some name
            → Contains t.objects (object.Process other) → other.offers ≡ name
            → slice_get a.program.code other.code.0 ≡ Some n → IsSome (detach_next n)
            → owner t other.offers ≡ Some p.pid
        owns name other n named there offers stands detaches =
            let has = (process-typed typed_t there).matches.offers in
            let at_l : other.mode ≡ mode.L = detaching-at_l accepted typed_t other there n stands detaches in
            let its_mode : HasMode a.program has.own mode.L =
            subst (λ (m : Mode). HasMode a.program has.own m) at_l
            ((process-typed typed_t there).offered has.own has.found)
            in
            let uses : Contains (used (object.Process p)) other.offers =
            subst (Contains (used (object.Process p))) (sym offers) (bound-among p.channels v.0 name named)
            in
            user-alone accepted typed_t p after other.offers has.own mode.L has.found its_mode (λ e. absurd cc) uses

    -- ---- at each instruction

    met-at : (n : CodeNode) → slice_get a.program.code p.code.0 ≡ Some n → is_met_at a t p n ≡ true
        → Told (is_met_at a s p n)
    met-at (code.Case at c arms) own is = read-told c is
    met-at (code.Recv at c y next) own is = read-told c is
    met-at (code.Take at c v next) own is = read-told c is
    met-at (code.Get at c r next) own is = read-told c is
    met-at (code.Wait at v next) own is = read-told (chan.Var v) is
    met-at (code.Acquire at r v next) own is = acquire-told at r v next own is
    met-at (code.Release at v r next) own is = release-told at v r next is
    met-at (code.Accept at next) own is = absurd cc
    met-at (code.Detach at next) own is = absurd cc
    met-at n own is = inl is

    looks-told : looks_ready a t p ≡ true → Told (looks_ready a s p)
    looks-told is = at (slice_get a.program.code p.code.0) refl is
      where
        at : (o : Option CodeNode) → slice_get a.program.code p.code.0 ≡ o → met_or_not a t p o ≡ true
            → Told (met_or_not a s p o)
        at (Some n) own is = met-at n own is
        at None own is = absurd cc

  -- ---- the law

  pub ready-or_woken : (q : ℕ) → IsReady a t q → IsReady a s q ⊎ Wakes q
  ready-or_woken q ready = at (process_at t q) refl
    where
      stays : (p : Process) → process_at t q ≡ Some p → Contains t.objects (object.Process p) → p.pid ≡ q
          → Contains s.objects (object.Process p) → IsReady a s q ⊎ Wakes q
      stays p found after number before =
          let at_s : process_at s q ≡ Some p =
          subst (λ (n : ℕ). process_at s n ≡ Some p) number (process_at-own typed_s p before)
          in
          elim (looks-told p after ((ready-told accepted typed_t q p found).0 ready)) [
            | inl looks ↦ inl ((ready-told accepted typed_s q p at_s).1 looks)
            | inr wakes ↦ inr (subst Wakes number wakes)
          ]

      at : (o : Option Process) → process_at t q ≡ o → IsReady a s q ⊎ Wakes q
      at (Some p) found =
          let (after, number) = process_at-there t q p found in
          elim (same.processes p after) [
            | inl before ↦ stays p found after number before
            | inr changes ↦ inr (itself q (subst changed number changes))
          ]
      at None found = absurd (ready-none accepted typed_t q found ready)
