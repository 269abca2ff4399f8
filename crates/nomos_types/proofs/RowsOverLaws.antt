-- Where a row applies to a judgement, one applies to each that covers it.
use Rattle.std.proofs.Common.{◌≡◌, ◌⊎◌, inl, inr, IsTrue, List, [], ◌∷◌, Contains, map, Some, slice_get, refl, sym, subst, ap, ◌∙◌, arith}
use Rattle.nomos_ir.specs.declared.code_node.Chan.TheVariants as chan
use Rattle.nomos_ir.specs.declared.code_node.CodeNode.{CodeNode}
use Rattle.nomos_ir.specs.declared.code_node.CodeNode.TheVariants as code
use Rattle.nomos_ir.specs.declared.ids.CodeId.{CodeId}
use Rattle.nomos_ir.specs.declared.ids.Label.{Label}
use Rattle.nomos_ir.specs.declared.ids.TypeId.{TypeId}
use Rattle.nomos_ir.specs.declared.ids.VarId.{VarId}
use Rattle.nomos_ir.specs.declared.lists.ProgramLists.{ProgramLists}
use Rattle.nomos_ir.specs.declared.mode.Mode.{Mode}
use Rattle.nomos_ir.specs.declared.mode.Mode.TheVariants as mode
use Rattle.nomos_ir.specs.declared.type_node.TypeNode.{TypeNode}
use Rattle.nomos_ir.specs.TermKind.{bool_kind}
use Rattle.nomos_ir.specs.Unfold.{Unfolds}
use Rattle.nomos_types.proofs.AlikeLaws.{alike_types-back, alike_types-through}
use Rattle.nomos_types.proofs.CoveringLaws.{Covers, arguments-cover}
use Rattle.nomos_types.proofs.ModeLaws.{mode-unique}
use Rattle.nomos_types.proofs.RowLaws.{RowAt, row-at}
use Rattle.nomos_types.specs.Alike.{AlikeChannels, channel, AlikeTypes}
use Rattle.nomos_types.specs.Amount.{Annotations}
use Rattle.nomos_types.specs.Branches.{goes_by}
use Rattle.nomos_types.specs.Judgement.{Judgement}
use Rattle.nomos_types.specs.Modes.{HasMode, may_spawn}
use Rattle.nomos_types.specs.TypingRule.{StandsAtCode, TypingRule, label, case, send, recv, put, take, pay, get, work, wait, accept, detach, acquire, release, spawn, «let», emit, choose, close, fwd, call, empty, add, match}
use Rattle.nomos_types.specs.Typed.{IsWellFormed}
use Rattle.nomos_types.proofs.HeadsOverLaws.{both-over, both-under, sent-choice, awaited-choice, sent-channel, received-channel, sent-of_kind, received-of_kind, paid-amount, got-amount, closed-node, shared-node, ended-node}
use Rattle.nomos_types.proofs.PremisesOverLaws.{type-as, reference-over, unfolds-over, node-over, free-over, kind-over, list-over, none-over, modes-over, passing-over, arguments-over, arms-over}

-- a mode that is the same is one of the two
held : {m n a b : Mode} → m ≡ n → (n ≡ a) ⊎ (n ≡ b) → (m ≡ a) ⊎ (m ≡ b)
held same (inl is) = inl (same ∙ is)
held same (inr is) = inr (same ∙ is)

-- a row applies to the judgement
abbrev pub HasRow : ProgramLists → Annotations → Judgement → Type 0
HasRow lists x j = (after : List Judgement) × TypingRule lists x j after

module _ {lists : ProgramLists} {x : Annotations} (formed : IsWellFormed lists) where
  -- the one channel that is held
  only-over : (v : VarId) (own : TypeId) (cs : List (VarId × TypeId)) → AlikeChannels lists x cs ((v, own) ∷ [])
      → (mine : TypeId) × (cs ≡ (v, mine) ∷ []) × AlikeTypes lists x mine own
  only-over v own _ (channel _ a _ _ _ alike AlikeChannels.none) = (a, refl, alike)

  -- what is asked at each instruction
  row-over : {j k : Judgement} (after : List Judgement) (n : CodeNode) → Covers lists x j k
      → StandsAtCode lists j n → RowAt lists x k n after → HasRow lists x j
  row-over {j} {k} after (code.Label at c l next) covers stands (u, h, e) =
      let (p, typed, same) = node-over formed c _ covers h.channel in
      let (bs, is, branches) = sent-choice c p h.branches same in
      let (t, goes, _) = both-over u (branches l) h.goes in
      (_, label stands t (record { branches = bs; channel = type-as j c p _ is typed; goes = goes }))
  row-over {j} {k} after (code.Case at c arms) covers stands h =
      let (p, typed, same) = node-over formed c _ covers h.channel in
      let (bs, is, branches) = awaited-choice c p h.branches same in
      let (mine, go_on) = arms-over formed c bs h.branches arms _ branches h.each_arm in
      let each : (l : Label) (t : TypeId) → goes_by bs l ≡ Some t → Contains (map (λ a. a.label) arms) l =
      λ l t goes.
      let (u, there, _) = both-under t (branches l) goes in
      h.each_label l u there
      in (
        _,
        case stands mine (record {
          branches = bs;
          channel = type-as j c p _ is typed;
          each_label = each;
          each_arm =
              go_on;
        }),
      )
  row-over {j} {k} after (code.Send at c y next) covers stands (right, u, h, e) =
      let (p, typed, same) = node-over formed c _ covers h.channel in
      let (a, b, is, carried, rest) = sent-channel c p h.carried u same in
      let (left, passes) = passing-over formed y a h.carried covers carried h.passes in (
        _,
        send stands left b (record {
          carried = a;
          channel = type-as j c p _ is typed;
          other = h.other;
          passes =
              passes;
        }),
      )
  row-over {j} {k} after (code.Recv at c y next) covers stands (m, d, u, h, e) =
      let (p, typed, same) = node-over formed c _ covers h.channel in
      let (a, b, is, carried, rest) = received-channel c p d u same in
      let its : carried.mode ≡ m = mode-unique formed.program carried.right_mode h.mode in
      let mine : HasMode lists a m = subst (λ (o : Mode). HasMode lists a o) its carried.left_mode in (
        _,
        recv stands m a b (record {
          channel = type-as j c p _ is typed;
          mode = mine;
          free = free-over formed y
              covers h.free;
        }),
      )
  row-over {j} {k} after (code.Put at c e next) covers stands (u, h, eq) =
      let (p, typed, same) = node-over formed c _ covers h.channel in
      let (a, is, rest) = sent-of_kind c p h.kind u same in (
        _,
        put stands a (record {
          kind = h.kind;
          channel = type-as j c p _ is typed;
          value = kind-over formed e h.kind
              covers h.value;
        }),
      )
  row-over {j} {k} after (code.Take at c v next) covers stands (kind, u, h, e) =
      let (p, typed, same) = node-over formed c _ covers h.channel in
      let (a, is, rest) = received-of_kind c p kind u same in
      (_, take stands kind a (record { channel = type-as j c p _ is typed; free = free-over formed v covers h.free }))
  row-over {j} {k} after (code.Pay at c r next) covers stands (u, h, e) =
      let (p, typed, same) = node-over formed c _ covers h.channel in
      let (q, a, is, worth, rest) = paid-amount c p h.amount u same in (
        _,
        pay stands a (record {
          amount = q;
          channel = type-as j c p _ is typed;
          same = h.same ∙ sym worth;
          enough =
              omega (arith, h.enough, covers.q);
        }),
      )
  row-over {j} {k} after (code.Get at c r next) covers stands (u, h, e) =
      let (p, typed, same) = node-over formed c _ covers h.channel in
      let (q, a, is, worth, rest) = got-amount c p h.amount u same in
      (_, get stands a (record { amount = q; channel = type-as j c p _ is typed; same = h.same ∙ sym worth }))
  row-over {j} {k} after (code.Work at r next) covers stands (h, e) = (_, work stands (omega (arith, h, covers.q)))
  row-over {j} {k} after (code.Wait at v next) covers stands (h, e) =
      let (p, typed, same) = node-over formed (chan.Var v) _ covers h in
      (_, wait stands (type-as j (chan.Var v) p _ (closed-node p same) typed))
  row-over {j} {k} after (code.Accept at next) covers stands (u, h, e) =
      let (p, typed, same) = node-over formed chan.Own _ covers h.channel in
      let (a, is, rest) = shared-node p u same in
      (_, accept stands a (record { mode = covers.mode ∙ h.mode; channel = type-as j chan.Own p _ is typed }))
  row-over {j} {k} after (code.Detach at next) covers stands (u, h, e) =
      let (p, typed, same) = node-over formed chan.Own _ covers h.channel in
      let (a, is, rest) = ended-node p u same in (
        _,
        detach stands a (record {
          mode = covers.mode ∙ h.mode;
          channel = type-as j chan.Own p _ is typed;
          nothing_held = modes-over formed mode.R j.linear k.linear covers.linear h.nothing_held;
        }),
      )
  row-over {j} {k} after (code.Acquire at r v next) covers stands (u, h, e) =
      let (own, found, alike) = reference-over formed r h.own covers h.reference in
      let (p, unfolds, same) = unfolds-over formed own h.own _ alike h.unfolds in
      let (a, is, rest) = shared-node p u same in (
        _,
        acquire stands a (record {
          mode = held (covers.mode) h.mode;
          own = own;
          reference = found;
          unfolds = subst
              (λ (n : TypeNode). Unfolds lists own.0 n) is unfolds;
          free = free-over formed v covers h.free;
        }),
      )
  row-over {j} {k} after (code.Release at v r next) covers stands (u, h, e) =
      let (p, typed, same) = node-over formed (chan.Var v) _ covers h.channel in
      let (a, is, rest) = ended-node p u same in (
        _,
        release stands a (record {
          channel = type-as j (chan.Var v) p _ is typed;
          free = free-over formed r covers
              h.free;
        }),
      )
  row-over {j} {k} after (code.Spawn at v f args next) covers stands (d, right, h, e) =
      let (left, arguments) = arguments-over formed f.0 d args h.declared covers h.arguments in (
        _,
        spawn stands d left (record {
          declared = h.declared;
          mode = subst (λ (m : Mode). IsTrue
              (may_spawn m d.mode)) (sym covers.mode) h.mode;
          arguments = arguments;
          enough = omega
              (arith, h.enough, covers.q);
          free = free-over formed v covers h.free;
        }),
      )
  row-over {j} {k} after (code.Let at v e next) covers stands (kind, h, free, eq) =
      (_, «let» stands kind (kind-over formed e kind covers h) (free-over formed v covers free))
  row-over {j} {k} after (code.Emit at e next) covers stands (kind, h, eq) = (
    _,
    emit stands kind
        (kind-over formed e kind covers h),
  )
  row-over {j} {k} after (code.If at e then_next else_next) covers stands (h, eq) = (
    _,
    choose stands
        (kind-over formed e bool_kind covers h),
  )
  row-over {j} {k} after (code.Close at) covers stands (h, e) =
      let (p, typed, same) = node-over formed chan.Own _ covers h.channel in (
        _,
        close stands (record {
          channel = type-as j chan.Own p _
              (closed-node p same) typed;
          mode = held covers.mode h.mode;
          nothing_held = none-over formed covers
              h.nothing_held;
        }),
      )
  row-over {j} {k} after (code.Fwd at v) covers stands (h, e) =
      let (mine, only, alike) = only-over v h.own j.linear (subst (λ (cs : List (VarId
      × TypeId)). AlikeChannels lists x j.linear cs) h.only covers.linear) in (
        _,
        fwd stands (record {
          mode = covers.mode ∙ h.mode;
          own = mine;
          only = only;
          alike = alike_types-through
              formed.program covers.offers (alike_types-through formed.program h.alike (alike_types-back alike));
        }),
      )
  row-over {j} {k} after (code.Call at f args) covers stands (h, e) =
      let (left, arguments) = arguments-over formed f.0 h.d args h.declared covers h.arguments in
      let over = arguments-cover h.d args covers arguments h.arguments in (
        _,
        call stands (record {
          d = h.d;
          declared = h.declared;
          offers = alike_types-through formed.program
              covers.offers h.offers;
          mode = h.mode ∙ sym covers.mode;
          left = left;
          arguments = arguments;
          nothing_held =
              none-over formed over h.nothing_held;
          enough = omega (arith, h.enough, covers.q);
        }),
      )
  row-over {j} {k} after (code.Empty at v r kind next) covers stands (h, e) = (
    _,
    empty stands
        (free-over formed v covers h),
  )
  row-over {j} {k} after (code.Add at v e w next) covers stands (l, h, eq) = (
    _,
    add stands l (record {
      there = list-over formed w.0 l covers h.there;
      element = kind-over formed e l.kind
          covers h.element;
      enough = omega (arith, h.enough, covers.q);
      free = free-over formed v covers h.free;
    }),
  )
  row-over {j} {k} after (code.Match at w empty_next head tail full_next) covers stands (l, h, eq) = (
    _,
    match stands l (record {
      there = list-over formed w.0 l covers h.there;
      differ = h.differ;
      head_free =
          free-over formed head covers h.head_free;
      tail_free = free-over formed tail covers h.tail_free;
    }),
  )

  -- where a row applies to a judgement, one applies to each that covers it
  pub row-covers : {j k : Judgement} {after : List Judgement} → Covers lists x j k → TypingRule lists x k after
      → HasRow lists x j
  row-covers {j} {k} covers row =
      let (n, there, says) = row-at row in
      let stands : StandsAtCode lists j n = ap (λ (c : CodeId). slice_get lists.code c.0) covers.code ∙ there in
      row-over _ n covers stands says
