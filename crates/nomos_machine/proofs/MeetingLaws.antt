-- What a client and a contract go on with where they meet, by the rules of typing: each stays typed.
use Rattle.std.proofs.Common.{◌≡◌, ◌∙◌, ℕ, List, [], ◌∷◌, length, Contains, Option, Some, None, IsSome, refl, sym, subst, ap, arith}
use Rattle.std.specs.Option.{option_or}
use Rattle.nomos_ir.specs.Bindings.{bound_to, bind, unbind}
use Rattle.nomos_ir.specs.Unfold.{Unfolds}
use Rattle.nomos_ir.specs.declared.code_node.Chan.TheVariants as chan
use Rattle.nomos_ir.specs.declared.ids.CodeId.{CodeId}
use Rattle.nomos_ir.specs.declared.ids.TypeId.{TypeId}
use Rattle.nomos_ir.specs.declared.ids.VarId.{VarId}
use Rattle.nomos_ir.specs.declared.lists.ProgramLists.{ProgramLists}
use Rattle.nomos_ir.specs.declared.mode.Mode.TheVariants as mode
use Rattle.nomos_ir.specs.declared.type_node.TypeNode.{TypeNode}
use Rattle.nomos_ir.specs.declared.type_node.TypeNode.TheVariants as node
use Rattle.nomos_ir.proofs.BindingLaws.{bind-ascending, unbind-ascending}
use Rattle.nomos_machine.proofs.ChannelLaws.{uncounted}
use Rattle.nomos_types.specs.Acceptance.{Acceptance, IsAccepted}
use Rattle.nomos_types.specs.Alike.{AlikeTypes}
use Rattle.nomos_types.specs.Equality.{SameHead, up, down}
use Rattle.nomos_types.specs.Judgement.{Judgement, IsJudgement, IsFree, count_one, type_held, at_code, binds_channel}
use Rattle.nomos_types.specs.Modes.{HasMode}
use Rattle.nomos_types.specs.Premises.{HasType}
use Rattle.nomos_types.specs.TypingRule.{TypingRule, gives_up}
use Rattle.nomos_types.proofs.AlikeLaws.{alike_types-back, alike_types-unfolded}
use Rattle.nomos_types.proofs.EqualityLaws.{equal-unfolded}
use Rattle.nomos_machine.specs.Matching.{NameHasType, Matches, HasBase, ProcessTyped}
use Rattle.nomos_machine.specs.State.{State, NameTypes, type_of}
use Rattle.nomos_machine.specs.TypedState.{VariablesDiffer, IsTyped}
use Rattle.nomos_machine.specs.declared.object.Object.TheVariants as object
use Rattle.nomos_machine.specs.declared.object.Process.{Process}
use Rattle.nomos_machine.proofs.GoesLaws.{process-typed, process-variables, own-is_judgement, next-is_judgement}
use Rattle.nomos_machine.proofs.MatchLaws.{holds-linear, holds-shared, holds-fewer, matches-differ}
use Rattle.nomos_machine.proofs.ObjectLaws.{matches-kept}
use Rattle.nomos_machine.proofs.ProcessLaws.{own_judgement, process-next}

-- ---- what stands behind an `up` and a `down`

module _ {a : Acceptance} (accepted : IsAccepted a) where
  -- a type that is alike unfolds to the same head, and the parts are alike
  alike-head : {t u : TypeId} → (m : TypeNode) → AlikeTypes a.program a.annotations u t → Unfolds a.program t.0 m
      → (n : TypeNode) × Unfolds a.program u.0 n × SameHead a.annotations (AlikeTypes a.program a.annotations) n m
  alike-head {t} {u} m alike unfolds =
      let formed = accepted.typed.formed in
      let back = alike_types-back alike in
      let (n, lands, head) = equal-unfolded a.program a.annotations t u m back.equal unfolds in
      (n, lands, alike_types-unfolded formed.program formed.contractive formed.modes alike lands unfolds)

  pub up-behind : {t u : TypeId} → (b : TypeId) → AlikeTypes a.program a.annotations u t
      → Unfolds a.program t.0 (node.Up b)
      → (c : TypeId) × Unfolds a.program u.0 (node.Up c) × AlikeTypes a.program a.annotations c b
  up-behind {t} {u} b alike unfolds =
      let (n, lands, head) = alike-head (node.Up b) alike unfolds in
      up-alone n lands head
    where
      up-alone : (n : TypeNode) → Unfolds a.program u.0 n
          → SameHead a.annotations (AlikeTypes a.program a.annotations) n (node.Up b)
          → (c : TypeId) × Unfolds a.program u.0 (node.Up c) × AlikeTypes a.program a.annotations c b
      up-alone _ lands (up c _ alike_rest) = (c, lands, alike_rest)

  pub down-behind : {t u : TypeId} → (b : TypeId) → AlikeTypes a.program a.annotations u t
      → Unfolds a.program t.0 (node.Down b)
      → (c : TypeId) × Unfolds a.program u.0 (node.Down c) × AlikeTypes a.program a.annotations c b
  down-behind {t} {u} b alike unfolds =
      let (n, lands, head) = alike-head (node.Down b) alike unfolds in
      down-alone n lands head
    where
      down-alone : (n : TypeNode) → Unfolds a.program u.0 n
          → SameHead a.annotations (AlikeTypes a.program a.annotations) n (node.Down b)
          → (c : TypeId) × Unfolds a.program u.0 (node.Down c) × AlikeTypes a.program a.annotations c b
      down-alone _ lands (down c _ alike_rest) = (c, lands, alike_rest)

-- ---- variables

-- a free variable is neither a reference nor a channel that is used exactly once
pub free-shared : (j : Judgement) (v : VarId) → IsFree j v → bound_to v.0 j.shared ≡ None
free-shared j v free = uncounted (bound_to v.0 j.shared) (omega (arith, free))

pub free-linear : (j : Judgement) (v : VarId) → IsFree j v → bound_to v.0 j.linear ≡ None
free-linear j v free = uncounted (bound_to v.0 j.linear) (omega (arith, free))

pub free-held : (j : Judgement) (v : VarId) → IsFree j v → type_held j v.0 ≡ None
free-held j v free =
    ap (λ (o : Option TypeId). option_or o (bound_to v.0 j.linear)) (free-shared j v free) ∙ free-linear j v free

-- a channel that is used exactly once is no reference
pub linear-alone : {lists : ProgramLists} {j : Judgement} → IsJudgement lists j → (v : VarId) (t : TypeId)
    → bound_to v.0 j.linear ≡ Some t → bound_to v.0 j.shared ≡ None
linear-alone {lists} {j} h v t is =
    let one : count_one (bound_to v.0 j.linear) ≡ 1 = ap (λ (o : Option TypeId). count_one o) is in
    uncounted (bound_to v.0 j.shared) (omega (arith, h.apart v.0))

-- ---- what each of the two goes on with

module _ {a : Acceptance} (accepted : IsAccepted a) {s : State} (typed : IsTyped a s) {p : Process}
    (there : Contains s.objects (object.Process p)) where
  abbrev own : Judgement
  own = own_judgement p (process-typed typed there)

  -- the head that its judgement offers is that of its name's type, and the parts are alike
  pub offers-head : (w : TypeId) (m n : TypeNode) → type_of s.types p.offers ≡ Some w → Unfolds a.program w.0 m
      → HasType a.program own chan.Own n → SameHead a.annotations (AlikeTypes a.program a.annotations) m n
  offers-head w m n found unfolds (offered, is, lands) =
      let formed = accepted.typed.formed in
      let has = (process-typed typed there).matches.offers in
      let same : has.own ≡ w = cc in
      let one : own.offers ≡ offered = cc in
      let alike : AlikeTypes a.program a.annotations w offered =
      subst (λ (r : TypeId). AlikeTypes a.program a.annotations w r) one
      (subst (λ (r : TypeId). AlikeTypes a.program a.annotations r own.offers) same has.alike)
      in
      alike_types-unfolded formed.program formed.contractive formed.modes alike unfolds lands

  -- in a state with more names
  module _ (later : NameTypes)
      (keep : (name : ℕ) (t : TypeId) → type_of s.types name ≡ Some t → type_of later name ≡ Some t) where
    still-matches : Matches a.program a.annotations later p own
    still-matches =
        let t_own = process-typed typed there in
        let kept = matches-kept a s.types later p t_own.place (λ name t among. keep name t) t_own.matches in
        record {
          mode = kept.mode;
          code = kept.code;
          offers = kept.offers;
          values = kept.values;
          held_lists = kept.held_lists;
          channels = kept.channels;
        }

    -- its base stays
    base-stays : (q : Process) → q.mode ≡ p.mode → q.base ≡ p.base → HasBase a.program later q
    base-stays q same_mode same_base =
        let has = (process-typed typed there).has_base in
        record {
          base = (
            λ some. same_mode ∙ has.base.0 (subst IsSome same_base some),
            λ at_l. subst IsSome (sym same_base) (has.base.1 (sym same_mode ∙ at_l)),
          );
          shared = λ b is.
              let (t, found, at_s) = has.shared b (sym same_base ∙ is) in
              (t, keep b t found, at_s);
        }

    -- it goes on with one channel more, which it has to use
    pub acquires-typed : (v : VarId) (next : CodeId) (after : List Judgement) (t body : TypeId)
        → TypingRule a.program a.annotations own after → after ≡ binds_channel (at_code own next) v mode.L t ∷ []
        → IsFree own v → type_of later s.next_name ≡ Some body → AlikeTypes a.program a.annotations body t
        → ProcessTyped a later (length s.balances) (record p { code = next; channels = bind v s.next_name p.channels })
        × VariablesDiffer (record p { code = next; channels = bind v s.next_name p.channels })
    acquires-typed v next after t body row goes_on free found alike =
        let q : Process = record p { code = next; channels = bind v s.next_name p.channels } in
        let k : Judgement = binds_channel (at_code own next) v mode.L t in
        let among : Contains after k =
        subst (λ (js : List Judgement). Contains js k) (sym goes_on) (0, omega arith, refl)
        in
        let variables = process-variables typed there in
        let on = still-matches in
        let has : NameHasType a.program a.annotations later s.next_name t =
        record { own = body; found = found; alike = alike }
        in
        let matches : Matches a.program a.annotations later q k = record {
          mode = on.mode;
          code = refl;
          offers = on.offers;
          values = on.values;
          held_lists = on.held_lists;
          channels = holds-linear p.channels own.shared own.linear v s.next_name t (free-shared own v free) has
              on.channels;
        } in
        let t_own = process-typed typed there in (
          process-next accepted t_own after k row among matches t_own.covered refl refl (base-stays q refl refl),
          matches-differ (next-is_judgement typed there accepted k row among) matches variables.values variables.lists
              (bind-ascending v s.next_name p.channels variables.channels),
        )

    -- it goes on at mode L under another name, with its own one as base
    pub accepts-typed : (next : CodeId) (after : List Judgement) (t : TypeId)
        → TypingRule a.program a.annotations own after
        → after ≡ record own { mode = mode.L; offers = t; code = next } ∷ [] → (name : ℕ) (body : TypeId) (base : ℕ)
        (shared : TypeId) → type_of later name ≡ Some body → AlikeTypes a.program a.annotations body t
        → type_of s.types base ≡ Some shared → HasMode a.program shared mode.S
        → ProcessTyped a later (length s.balances)
        (record p { mode = mode.L; code = next; offers = name; base = Some base })
    accepts-typed next after t row goes_on name body base shared found alike based at_s =
        let q : Process = record p { mode = mode.L; code = next; offers = name; base = Some base } in
        let k : Judgement = record own { mode = mode.L; offers = t; code = next } in
        let among : Contains after k =
        subst (λ (js : List Judgement). Contains js k) (sym goes_on) (0, omega arith, refl)
        in
        let on = still-matches in
        let matches : Matches a.program a.annotations later q k = record {
          mode = refl;
          code = refl;
          offers = record { own = body; found = found; alike = alike };
          values = on.values;
          held_lists = on.held_lists;
          channels = on.channels;
        } in
        let has_base : HasBase a.program later q = record {
          base = (λ some. refl, λ at_l. refl);
          shared = λ b is.
              let one : base ≡ b = cc in
              (shared, subst (λ (n : ℕ). type_of later n ≡ Some shared) one (keep base shared based), at_s);
        } in
        let t_own = process-typed typed there in
        process-next accepted t_own after k row among matches t_own.covered refl refl has_base

    -- it goes on without a channel that it had to use, and with a reference
    pub releases-typed : (v r : VarId) (next : CodeId) (after : List Judgement) (t held : TypeId)
        → TypingRule a.program a.annotations own after
        → after ≡ binds_channel (at_code (gives_up own v) next) r mode.S t ∷ []
        → bound_to v.0 own.linear ≡ Some held → (shared : ℕ) → NameHasType a.program a.annotations later shared t
        → ProcessTyped a later (length s.balances)
        (record p { code = next; channels = bind r shared (unbind v.0 p.channels) })
        × VariablesDiffer (record p { code = next; channels = bind r shared (unbind v.0 p.channels) })
    releases-typed v r next after t held row goes_on linear shared has =
        let q : Process = record p { code = next; channels = bind r shared (unbind v.0 p.channels) } in
        let k : Judgement = binds_channel (at_code (gives_up own v) next) r mode.S t in
        let among : Contains after k =
        subst (λ (js : List Judgement). Contains js k) (sym goes_on) (0, omega arith, refl)
        in
        let variables = process-variables typed there in
        let h = own-is_judgement typed there accepted in
        let on = still-matches in
        let none = linear-alone h v held linear in
        let fewer =
        holds-fewer p.channels own.shared own.linear v none variables.channels h.linear on.channels
        in
        let matches : Matches a.program a.annotations later q k = record {
          mode = on.mode;
          code = refl;
          offers = on.offers;
          values = on.values;
          held_lists = on.held_lists;
          channels = holds-shared (unbind v.0 p.channels) own.shared (unbind v.0 own.linear) r shared t has fewer;
        } in
        let t_own = process-typed typed there in (
          process-next accepted t_own after k row among matches t_own.covered refl refl (base-stays q refl refl),
          matches-differ (next-is_judgement typed there accepted k row among) matches variables.values variables.lists
              (bind-ascending r shared (unbind v.0 p.channels) (unbind-ascending v.0 p.channels variables.channels)),
        )

    -- it goes on at mode S under another name, and has no base
    pub detaches-typed : (next : CodeId) (after : List Judgement) (t : TypeId)
        → TypingRule a.program a.annotations own after
        → after ≡ record own { mode = mode.S; offers = t; code = next } ∷ [] → (name : ℕ)
        → NameHasType a.program a.annotations later name t
        → ProcessTyped a later (length s.balances)
        (record p { mode = mode.S; code = next; offers = name; base = None })
    detaches-typed next after t row goes_on name has =
        let q : Process = record p { mode = mode.S; code = next; offers = name; base = None } in
        let k : Judgement = record own { mode = mode.S; offers = t; code = next } in
        let among : Contains after k =
        subst (λ (js : List Judgement). Contains js k) (sym goes_on) (0, omega arith, refl)
        in
        let on = still-matches in
        let matches : Matches a.program a.annotations later q k = record {
          mode = refl;
          code = refl;
          offers = has;
          values = on.values;
          held_lists = on.held_lists;
          channels = on.channels;
        } in
        let has_base : HasBase a.program later q = record {
          base = (λ some. absurd cc, λ at_l. absurd cc);
          shared = λ b is. absurd cc;
        } in
        let t_own = process-typed typed there in
        process-next accepted t_own after k row among matches t_own.covered refl refl has_base
