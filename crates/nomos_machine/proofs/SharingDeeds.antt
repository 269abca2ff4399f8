-- The instructions at which a client and a contract meet: `acquire` and `release`, and `accept` and `detach`, which
-- wait for them.
use Rattle.std.proofs.Common.{◌≡◌, ◌≢◌, ◌∙◌, ℕ, Bool, true, List, [], ◌∷◌, Contains, Option, Some, None, IsSome, slice_get, option_and_then, refl, sym, subst, ap, arith}
use Rattle.std.specs.Option.{option_or, is_some}
use Rattle.nomos_ir.specs.Bindings.{bound_to}
use Rattle.nomos_ir.specs.CodeParts.{code_terms}
use Rattle.nomos_ir.specs.Unfold.{Unfolds, unfolded}
use Rattle.nomos_ir.specs.declared.code_node.CodeNode.{CodeNode}
use Rattle.nomos_ir.specs.declared.code_node.CodeNode.TheVariants as code
use Rattle.nomos_ir.specs.declared.ids.CodeId.{CodeId}
use Rattle.nomos_ir.specs.declared.ids.TypeId.{TypeId}
use Rattle.nomos_ir.specs.declared.ids.VarId.{VarId}
use Rattle.nomos_ir.specs.declared.mode.Mode.TheVariants as mode
use Rattle.nomos_ir.specs.declared.type_node.TypeNode.{TypeNode}
use Rattle.nomos_ir.specs.declared.type_node.TypeNode.TheVariants as node
use Rattle.nomos_ir.proofs.PairedLaws.{paired-left, none-left}
use Rattle.nomos_ir.proofs.UnfoldLaws.{unfolds-unfolded}
use Rattle.nomos_types.specs.Acceptance.{Acceptance, IsAccepted}
use Rattle.nomos_types.specs.Alike.{AlikeTypes}
use Rattle.nomos_types.specs.Judgement.{Judgement, IsFree, type_held, at_code, binds_channel}
use Rattle.nomos_types.specs.Modes.{HasMode}
use Rattle.nomos_types.specs.Premises.{Acquires}
use Rattle.nomos_types.specs.TypingRule.{TypingRule, gives_up}
use Rattle.nomos_types.proofs.AlikeLaws.{alike_types-through}
use Rattle.nomos_types.proofs.EqualityLaws.{equal-back}
use Rattle.nomos_types.proofs.HeadLaws.{up-rest, down-rest}
use Rattle.nomos_types.proofs.ModeLaws.{part-has_mode}
use Rattle.nomos_types.proofs.RowLaws.{row-inverted}
use Rattle.nomos_types.proofs.SynchronizingLaws.{synchronizing-down}
use Rattle.nomos_machine.specs.Change.{Change, made}
use Rattle.nomos_machine.specs.Deeds.{with_other, does}
use Rattle.nomos_ir.specs.TermsEvaluation.{terms_evaluation}
use Rattle.nomos_machine.specs.Matching.{NameHasType}
use Rattle.nomos_machine.specs.Optional.{◌>>=◌}
use Rattle.nomos_machine.specs.Readiness.{is_met_at}
use Rattle.nomos_machine.specs.Revised.{standing_at, with_channel, without_channel}
use Rattle.nomos_machine.specs.Sight.{offering, accept_next, detach_next, after_acquire}
use Rattle.nomos_machine.specs.State.{State, NameTypes, node_of}
use Rattle.nomos_machine.specs.Step.{deed_by}
use Rattle.nomos_machine.specs.TypedState.{IsTyped}
use Rattle.nomos_machine.specs.declared.object.Object.TheVariants as object
use Rattle.nomos_machine.specs.declared.object.Process.{Process}
use Rattle.nomos_machine.proofs.AcquireLaws.{acquiring, next-typed, acquire-fits}
use Rattle.nomos_machine.proofs.GoesLaws.{Goes, acts, waits, process-typed, own-row, own-stands, own-is_judgement}
use Rattle.nomos_machine.proofs.MeetingLaws.{up-behind, down-behind, free-held, linear-alone, offers-head, acquires-typed, accepts-typed, releases-typed, detaches-typed}
use Rattle.nomos_machine.proofs.ProcessLaws.{own_judgement}
use Rattle.nomos_machine.proofs.ReleaseLaws.{releasing, release-fits}
use Rattle.nomos_machine.proofs.ApartLaws.{one-process}
use Rattle.nomos_machine.proofs.SectionLaws.{offering-found, goes-back}
use Rattle.nomos_machine.proofs.SharingLaws.{Meeting, both_go, both-replaces, both-keep}

-- ---- the instructions

module _ {a : Acceptance} (accepted : IsAccepted a) {s : State} (typed : IsTyped a s) {p : Process}
    (there : Contains s.objects (object.Process p)) where
  abbrev own : Judgement
  own = own_judgement p (process-typed typed there)

  -- the instruction of the process
  abbrev At : CodeNode → Type 0
  At n = slice_get a.program.code p.code.0 ≡ Some n

  -- what the process does at an instruction
  abbrev GoesAt : CodeNode → Type 0
  GoesAt n = Goes a s (is_met_at a s p n) (deed_by a s p n (terms_evaluation a.program p.values (code_terms n)))

  pub accept-goes : (at : ℕ) (next : CodeId) → At (code.Accept at next) → GoesAt (code.Accept at next)
  accept-goes at next stands = waits

  pub detach-goes : (at : ℕ) (next : CodeId) → At (code.Detach at next) → GoesAt (code.Detach at next)
  detach-goes at next stands = waits

  -- ---- both go on

  -- who stands at another instruction is another process
  others-apart : (other : Process) (m n : CodeNode) → Contains s.objects (object.Process other) → At m
      → slice_get a.program.code other.code.0 ≡ Some n → m ≢ n → p.pid ≢ other.pid
  others-apart other m n there_other stands stands_other differ same =
      let one : other ≡ p = one-process s.objects typed.numbered.ascending p other there there_other (sym same) in
      let here : slice_get a.program.code p.code.0 ≡ Some n =
      subst (λ (q : Process). slice_get a.program.code q.code.0 ≡ Some n) one stands_other
      in
      differ (node-same (sym stands ∙ here))
    where
      node-same : Some m ≡ Some n → m ≡ n
      node-same is = cc

  -- whether the process that was found stands where one goes on so
  abbrev meets : (CodeNode → Option CodeId) → Option Process → Bool
  meets stands_at found = is_some (found >>= λ other. slice_get a.program.code other.code.0 >>= stands_at)

  -- ---- acquire, from what is found on

  abbrev acquires-at : VarId → CodeId → ℕ → Process → CodeId → Option TypeNode → Option Change
  acquires-at v next shared other onward head = do
    t ← head >>= after_acquire
    Some (record (with_other a s p (standing_at next (with_channel v s.next_name p)) (record other {
      mode = mode.L;
      code = onward;
      offers = s.next_name;
      base = Some shared;
    })) { next_type = Some t })

  abbrev acquires-by : VarId → CodeId → ℕ → Process → Option CodeNode → Option Change
  acquires-by v next shared other stood = do
    n ← stood
    onward ← accept_next n
    acquires-at v next shared other onward (node_of a.program s.types shared)

  abbrev acquires-from : VarId → CodeId → ℕ → Option Process → Option Change
  acquires-from v next shared found = do
    other ← found
    acquires-by v next shared other (slice_get a.program.code other.code.0)

  module _ (at : ℕ) (r v : VarId) (next : CodeId) (stands : At (code.Acquire at r v next)) (after : List Judgement)
      (t : TypeId) (acquires : Acquires a.program own r v t) (row : TypingRule a.program a.annotations own after)
      (goes_on : after ≡ binds_channel (at_code own next) v mode.L t ∷ []) where
    -- the contract stands at `accept`
    acquire-meets : (other : Process) → Contains s.objects (object.Process other) → p.pid ≢ other.pid → (at_other : ℕ)
        (onward : CodeId) → slice_get a.program.code other.code.0 ≡ Some (code.Accept at_other onward)
        → NameHasType a.program a.annotations s.types other.offers acquires.own
        → Goes a s true
        (does a s p (acquires-at v next other.offers other onward (node_of a.program s.types other.offers)))
    acquire-meets other there_other apart at_other onward stands_other has =
        let formed = accepted.typed.formed in
        let t_other = process-typed typed there_other in
        let (after_other, row_other) = own-row typed there_other accepted in
        let n_other : CodeNode = code.Accept at_other onward in
        let (u, accepts, goes_on_other) =
        row-inverted n_other (own-stands typed there_other n_other stands_other) row_other
        in
        let at_s : other.mode ≡ mode.S = t_other.matches.mode ∙ accepts.mode in
        let own_mode : HasMode a.program has.own mode.S =
        subst (HasMode a.program has.own) at_s (t_other.offered has.own has.found)
        in
        let (body, lands, client_alike) = up-behind accepted t has.alike acquires.unfolds in
        let contract_alike = up-rest body u
        (offers-head accepted typed there_other has.own (node.Up body) (node.Up u) has.found lands accepts.channel)
        in
        let none = none-left ((process-typed typed there).matches.channels v.0) (free-held own v acquires.free) in
        let k : Meeting = acquiring s p other v next onward body in
        let later : NameTypes = (made s (both_go a s p other k)).types in
        let keep = both-keep typed there there_other apart k in
        let typed_next =
        next-typed accepted typed there there_other apart v next onward body has.own at_s has.found lands none
        in
        let (client, differ) = acquires-typed accepted typed there later keep v next after t body row goes_on
        acquires.free typed_next client_alike
        in
        let contract = accepts-typed accepted typed there_other later keep onward after_other u row_other
        goes_on_other s.next_name body other.offers has.own typed_next contract_alike has.found own_mode
        in
        let head : node_of a.program s.types other.offers ≡ Some (node.Up body) =
        ap (λ (o : Option TypeId). option_and_then (λ (w : TypeId). unfolded a.program w.0) o) has.found
        ∙ unfolds-unfolded a.program has.own.0 (node.Up body) formed.contractive lands
        in
        subst (λ (o : Option TypeNode). Goes a s true (does a s p (acquires-at v next other.offers other onward o)))
        (sym head)
        (acts (both_go a s p other k) (object.Process p ∷ object.Process other ∷ [])
        (both-replaces typed there there_other apart k)
        (acquire-fits accepted typed there there_other apart v next onward body has.own at_s has.found lands none client
        contract differ)
        (record { gives = tt; gets = tt; even = omega arith }))

    -- by what stands where the contract does
    acquire-by_code : (other : Process) → Contains s.objects (object.Process other)
        → NameHasType a.program a.annotations s.types other.offers acquires.own
        → (stood : Option CodeNode) → slice_get a.program.code other.code.0 ≡ stood
        → Goes a s (is_some (stood >>= accept_next)) (does a s p (acquires-by v next other.offers other stood))
    acquire-by_code other there_other has (Some (code.Accept at_other onward)) is =
        let apart = others-apart other (code.Acquire at r v next) (code.Accept at_other onward) there_other stands is
        (λ same. cc)
        in
        acquire-meets other there_other apart at_other onward is has
    acquire-by_code other there_other has (Some n) is = waits
    acquire-by_code other there_other has None is = waits

    -- by who offers the shared name
    acquire-by_offering : (shared : ℕ) → NameHasType a.program a.annotations s.types shared acquires.own
        → (found : Option Process) → offering s.objects shared ≡ found
        → Goes a s (meets accept_next found) (does a s p (acquires-from v next shared found))
    acquire-by_offering shared has None is = waits
    acquire-by_offering shared has (Some other) is =
        let (there_other, same) = offering-found s.objects shared other is in
        let has_too : NameHasType a.program a.annotations s.types other.offers acquires.own =
        subst (λ (n : ℕ). NameHasType a.program a.annotations s.types n acquires.own) (sym same) has
        in
        let stood : Option CodeNode = slice_get a.program.code other.code.0 in
        subst (λ (n : ℕ). Goes a s (is_some (stood >>= accept_next)) (does a s p (acquires-by v next n other stood)))
        same (acquire-by_code other there_other has_too stood refl)

  pub acquire-goes : (at : ℕ) (r v : VarId) (next : CodeId) → At (code.Acquire at r v next)
      → GoesAt (code.Acquire at r v next)
  acquire-goes at r v next stands =
      let n : CodeNode = code.Acquire at r v next in
      let (after, row) = own-row typed there accepted in
      let (t, acquires, goes_on) = row-inverted n (own-stands typed there n stands) row in
      let held : type_held own r.0 ≡ Some acquires.own =
      ap (λ (o : Option TypeId). option_or o (bound_to r.0 own.linear)) acquires.reference
      in
      let (shared, bound, has) = paired-left acquires.own ((process-typed typed there).matches.channels r.0) held in
      subst (λ (o : Option ℕ). Goes a s (is_some (o >>= λ shared.
      offering s.objects shared >>= λ other. slice_get a.program.code other.code.0 >>= accept_next))
      (does a s p (o >>= λ shared. acquires-from v next shared (offering s.objects shared)))) (sym bound)
      (acquire-by_offering at r v next stands after t acquires row goes_on shared has (offering s.objects shared) refl)

  -- ---- release, from what is found on

  abbrev releases-with : VarId → VarId → CodeId → Process → CodeId → Option ℕ → Option Change
  releases-with v r next other onward base = do
    shared ← base
    Some (with_other a s p (standing_at next (with_channel r shared (without_channel v p))) (record other {
      mode = mode.S;
      code = onward;
      offers = shared;
      base = None;
    }))

  abbrev releases-by : VarId → VarId → CodeId → Process → Option CodeNode → Option Change
  releases-by v r next other stood = do
    n ← stood
    onward ← detach_next n
    releases-with v r next other onward other.base

  abbrev releases-from : VarId → VarId → CodeId → Option Process → Option Change
  releases-from v r next found = do
    other ← found
    releases-by v r next other (slice_get a.program.code other.code.0)

  module _ (at : ℕ) (v r : VarId) (next : CodeId) (stands : At (code.Release at v r next)) (after : List Judgement)
      (t : TypeId) (free : IsFree own r) (row : TypingRule a.program a.annotations own after)
      (goes_on : after ≡ binds_channel (at_code (gives_up own v) next) r mode.S t ∷ []) (ends : TypeId)
      (linear : bound_to v.0 own.linear ≡ Some ends) (unfolds : Unfolds a.program ends.0 (node.Down t)) where
    -- the contract stands at `detach`, and has this base
    release-meets : (other : Process) → Contains s.objects (object.Process other) → p.pid ≢ other.pid → (at_other : ℕ)
        (onward : CodeId) → slice_get a.program.code other.code.0 ≡ Some (code.Detach at_other onward)
        → NameHasType a.program a.annotations s.types other.offers ends → bound_to v.0 p.channels ≡ Some other.offers
        → other.mode ≡ mode.L → (shared : ℕ) → other.base ≡ Some shared
        → Goes a s true (does a s p (releases-with v r next other onward (Some shared)))
    release-meets other there_other apart at_other onward stands_other has held at_l shared is_base =
        let formed = accepted.typed.formed in
        let t_other = process-typed typed there_other in
        let (after_other, row_other) = own-row typed there_other accepted in
        let n_other : CodeNode = code.Detach at_other onward in
        let (u, detaches, goes_on_other) =
        row-inverted n_other (own-stands typed there_other n_other stands_other) row_other
        in
        let own_mode : HasMode a.program has.own mode.L =
        subst (HasMode a.program has.own) at_l (t_other.offered has.own has.found)
        in
        let (body, lands, client_alike) = down-behind accepted t has.alike unfolds in
        let contract_alike = down-rest body u
        (offers-head accepted typed there_other has.own (node.Down body) (node.Down u) has.found lands detaches.channel)
        in
        let (w, found_shared, at_s) = t_other.has_base.shared shared is_base in
        let back = goes-back typed there_other at_l has.own has.found shared w is_base found_shared in
        let body_mode : HasMode a.program body mode.S =
        part-has_mode {k = mode.S} formed.program formed.contractive formed.modes own_mode lands (0, omega arith, refl)
        in
        let same : AlikeTypes a.program a.annotations w body = record {
          equal = equal-back a.program a.annotations body w (synchronizing-down a.annotations back lands);
          mode = mode.S;
          left_mode = at_s;
          right_mode = body_mode;
        } in
        let none = none-left ((process-typed typed there).matches.channels r.0) (free-held own r free) in
        let k : Meeting = releasing p v r next onward shared in
        let later : NameTypes = (made s (both_go a s p other k)).types in
        let keep = both-keep typed there there_other apart k in
        let shared_has : (x : TypeId) → AlikeTypes a.program a.annotations body x
        → NameHasType a.program a.annotations later shared x = λ x alike. record {
          own = w;
          found = keep shared w found_shared;
          alike = alike_types-through formed.program same alike;
        } in
        let (client, differ) = releases-typed accepted typed there later keep v r next after t ends row goes_on linear
        shared (shared_has t client_alike)
        in
        let contract = detaches-typed accepted typed there_other later keep onward after_other u row_other goes_on_other
        shared (shared_has u contract_alike)
        in
        acts (both_go a s p other k) (object.Process p ∷ object.Process other ∷ [])
        (both-replaces typed there there_other apart k)
        (release-fits accepted typed there there_other apart v r next onward shared has.own at_l is_base has.found held
        none client contract differ)
        (record { gives = tt; gets = tt; even = omega arith })

    -- by its base, which it has, since it is acquired
    release-by_base : (other : Process) → Contains s.objects (object.Process other) → p.pid ≢ other.pid → (at_other : ℕ)
        (onward : CodeId) → slice_get a.program.code other.code.0 ≡ Some (code.Detach at_other onward)
        → NameHasType a.program a.annotations s.types other.offers ends → bound_to v.0 p.channels ≡ Some other.offers
        → other.mode ≡ mode.L → (base : Option ℕ) → other.base ≡ base
        → Goes a s true (does a s p (releases-with v r next other onward base))
    release-by_base other there_other apart at_other onward stands_other has held at_l (Some shared) is =
        release-meets other there_other apart at_other onward stands_other has held at_l shared is
    release-by_base other there_other apart at_other onward stands_other has held at_l None is =
        absurd (no-base (subst IsSome is ((process-typed typed there_other).has_base.base.1 at_l)))
      where
        no-base : IsSome {T = ℕ} None → ⊥
        no-base some = cc

    -- by what stands where the contract does
    release-by_code : (other : Process) → Contains s.objects (object.Process other)
        → NameHasType a.program a.annotations s.types other.offers ends → bound_to v.0 p.channels ≡ Some other.offers
        → (stood : Option CodeNode) → slice_get a.program.code other.code.0 ≡ stood
        → Goes a s (is_some (stood >>= detach_next)) (does a s p (releases-by v r next other stood))
    release-by_code other there_other has held (Some (code.Detach at_other onward)) is =
        let n_other : CodeNode = code.Detach at_other onward in
        let (after_other, row_other) = own-row typed there_other accepted in
        let (u, detaches, goes_on_other) = row-inverted n_other (own-stands typed there_other n_other is) row_other in
        let at_l : other.mode ≡ mode.L = (process-typed typed there_other).matches.mode ∙ detaches.mode in
        let apart = others-apart other (code.Release at v r next) n_other there_other stands is (λ same. cc) in
        release-by_base other there_other apart at_other onward is has held at_l other.base refl
    release-by_code other there_other has held (Some n) is = waits
    release-by_code other there_other has held None is = waits

    -- by who offers the name
    release-by_offering : (name : ℕ) → NameHasType a.program a.annotations s.types name ends
        → bound_to v.0 p.channels ≡ Some name → (found : Option Process) → offering s.objects name ≡ found
        → Goes a s (meets detach_next found) (does a s p (releases-from v r next found))
    release-by_offering name has held None is = waits
    release-by_offering name has held (Some other) is =
        let (there_other, same) = offering-found s.objects name other is in
        let has_too : NameHasType a.program a.annotations s.types other.offers ends =
        subst (λ (n : ℕ). NameHasType a.program a.annotations s.types n ends) (sym same) has
        in
        release-by_code other there_other has_too (held ∙ ap Some (sym same)) (slice_get a.program.code other.code.0)
        refl

  pub release-goes : (at : ℕ) (v r : VarId) (next : CodeId) → At (code.Release at v r next)
      → GoesAt (code.Release at v r next)
  release-goes at v r next stands =
      let n : CodeNode = code.Release at v r next in
      let (after, row) = own-row typed there accepted in
      let (t, releases, goes_on) = row-inverted n (own-stands typed there n stands) row in
      let (ends, linear, unfolds) = releases.channel in
      let alone = linear-alone (own-is_judgement typed there accepted) v ends linear in
      let held_type : type_held own v.0 ≡ Some ends =
      ap (λ (o : Option TypeId). option_or o (bound_to v.0 own.linear)) alone ∙ linear
      in
      let (name, held, has) = paired-left ends ((process-typed typed there).matches.channels v.0) held_type in
      subst (λ (o : Option ℕ). Goes a s (is_some (o >>= λ name.
      offering s.objects name >>= λ other. slice_get a.program.code other.code.0 >>= detach_next))
      (does a s p (o >>= λ name. releases-from v r next (offering s.objects name)))) (sym held)
      (release-by_offering at v r next stands after t releases.free row goes_on ends linear unfolds name has held
      (offering s.objects name) refl)
