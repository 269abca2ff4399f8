-- The instructions at which a process sends: `label`, `send`, `put` and `pay`.
use Rattle.std.proofs.Common.{◌≡◌, ◌≢◌, ◌∙◌, ◌≤◌, inl, inr, ℕ, ◌+◌, ◌-◌, Bool, true, false, List, [], ◌∷◌, Contains, Option, Some, Ok, refl, sym, subst, ap, arith, ne_eqb}
use Rattle.std.specs.Prelude.{option_and_then}
use Rattle.std.specs.Option.{option_map, option_or, option_to_list}
use Rattle.std.proofs.lemmas.Bool.{cases_eq}
use Rattle.nomos_ir.specs.Bindings.{bound_to, unbind}
use Rattle.nomos_ir.specs.Evaluation.{Evaluation, ends, faults, term_evaluation}
use Rattle.nomos_ir.specs.Order.{count_of}
use Rattle.nomos_ir.specs.Unfold.{Unfolds, unfolded}
use Rattle.nomos_ir.specs.declared.amount.Amount.{Amount}
use Rattle.nomos_ir.specs.declared.code_node.Chan.{Chan}
use Rattle.nomos_ir.specs.declared.code_node.Chan.TheVariants as chan
use Rattle.nomos_ir.specs.declared.code_node.CodeNode.{CodeNode}
use Rattle.nomos_ir.specs.declared.code_node.CodeNode.TheVariants as code
use Rattle.nomos_ir.specs.declared.ids.CodeId.{CodeId}
use Rattle.nomos_ir.specs.declared.ids.Label.{Label}
use Rattle.nomos_ir.specs.declared.ids.TermId.{TermId}
use Rattle.nomos_ir.specs.declared.ids.TypeId.{TypeId}
use Rattle.nomos_ir.specs.declared.ids.VarId.{VarId}
use Rattle.nomos_ir.specs.declared.mode.Mode.{Mode}
use Rattle.nomos_ir.specs.declared.mode.Mode.TheVariants as mode
use Rattle.nomos_ir.specs.declared.type_node.TypeNode.{TypeNode}
use Rattle.nomos_ir.specs.declared.type_node.TypeNode.TheVariants as node
use Rattle.nomos_ir.proofs.BindingLaws.{bound-after_unbind_other, unbind-ascending, all-bound}
use Rattle.nomos_ir.proofs.PairedLaws.{paired-left}
use Rattle.nomos_ir.proofs.SumLaws.{count-after_unbind}
use Rattle.nomos_ir.proofs.UnfoldLaws.{unfolds-unfolded}
use Rattle.nomos_types.proofs.ToldModeLaws.{linear-unshared}
use Rattle.nomos_types.specs.Acceptance.{Acceptance, IsAccepted}
use Rattle.nomos_types.specs.Amount.{dths}
use Rattle.nomos_types.specs.Arguments.{PassesChannel, shared, linear}
use Rattle.nomos_types.specs.Judgement.{Judgement, IsJudgement, channel_type, goes_on, with_potential, type_held}
use Rattle.nomos_types.specs.Modes.{HasMode, IsLinearMode}
use Rattle.nomos_types.specs.TypingRule.{TypingRule}
use Rattle.nomos_types.specs.Premises.{by_side}
use Rattle.nomos_types.proofs.ModeLaws.{mode-unique}
use Rattle.nomos_types.proofs.OccurrenceLaws.{count-elsewhere}
use Rattle.nomos_types.proofs.RowLaws.{row-inverted}
use Rattle.nomos_machine.specs.Change.{Change}
use Rattle.nomos_machine.specs.Deeds.{does, sends, where_it_has, hands_over, unless_shared}
use Rattle.nomos_ir.specs.TermsEvaluation.{before_others}
use Rattle.nomos_machine.specs.Matching.{NameHasType}
use Rattle.nomos_machine.specs.Objects.{carried, potential_of, free_purse}
use Rattle.nomos_machine.specs.Revised.{poorer, without_channel}
use Rattle.nomos_machine.specs.Sight.{is_own, present_name, head_on, is_shared_name, after_channel, after_potential}
use Rattle.nomos_machine.specs.State.{State, type_of, node_of}
use Rattle.nomos_machine.specs.Step.{deed_by}
use Rattle.nomos_machine.specs.TypedMessage.{Brings}
use Rattle.nomos_machine.specs.TypedState.{VariablesDiffer, IsTyped}
use Rattle.nomos_machine.specs.declared.object.Object.TheVariants as object
use Rattle.nomos_machine.specs.declared.object.Payload.{Payload}
use Rattle.nomos_machine.specs.declared.object.Payload.TheVariants as payload
use Rattle.nomos_machine.specs.declared.object.Process.{Process}
use Rattle.nomos_machine.proofs.AloneDeeds.{At, GoesAt}
use Rattle.nomos_machine.proofs.ChannelLaws.{channel-unshared, goes_on-with_potential}
use Rattle.nomos_machine.proofs.GoesLaws.{Goes, acts, faulty, process-typed, process-variables, own-row, own-stands, own-is_judgement, own-matches, value-has_kind, affords}
use Rattle.nomos_machine.proofs.LinearLaws.{told-shared}
use Rattle.nomos_machine.proofs.MatchLaws.{holds-fewer}
use Rattle.nomos_machine.proofs.ProcessLaws.{own_judgement}
use Rattle.nomos_machine.proofs.SendLaws.{sent, sends-made, sends-replaces, sends-fits, sends-keeps_gas}
use Rattle.nomos_machine.proofs.SendingLaws.{Sending, SendsOn, sends-on}
use Rattle.nomos_machine.proofs.TalkLaws.{after_brought, brings-after, of_type-through, sent-label, sent-channel, sent-one_value, sent-potential}

-- What a process does at a send, by what the rule gives.
module _ {a : Acceptance} (accepted : IsAccepted a) {s : State} (typed : IsTyped a s) {p : Process}
    (there : Contains s.objects (object.Process p)) (c : Chan) (brought : Payload) (gas : ℕ) (q : Process)
    (next : CodeId)
    (h : Sending a s p (process-typed typed there) c brought gas q next) where
  -- the type with which the talk goes on is found at the channel's present name
  goes-found : (g : SendsOn a s p c brought gas h.goes)
      → option_and_then (after_brought brought) (head_on a.program s.types p c) ≡ Some g.goes
  goes-found g =
      let unfolds : unfolded a.program g.own.0 ≡ Some g.head =
      unfolds-unfolded a.program g.own.0 g.head accepted.typed.formed.contractive g.unfolds
      in
      ap (λ (o : Option ℕ). option_and_then (after_brought brought) (option_and_then (node_of a.program s.types) o))
      g.here
      ∙ ap (λ (o : Option TypeId). option_and_then (after_brought brought)
      (option_and_then (λ t. unfolded a.program t.0) o))
      g.found
      ∙ ap (λ (o : Option TypeNode). option_and_then (after_brought brought) o) unfolds ∙ brings-after g.brings

  pub sends-go : Goes a s true
      (does a s p (sends a s p c brought gas q
      (option_and_then (after_brought brought) (head_on a.program s.types p c)) next))
  sends-go =
      let g = sends-on accepted h in
      subst (λ (o : Option Change). Goes a s true (does a s p o))
      (sym (sends-made accepted typed there c brought gas q next h g
      (option_and_then (after_brought brought) (head_on a.program s.types p c)) (goes-found g)))
      (acts (sent accepted typed there c brought gas q next h g) (object.Process p ∷ [])
      (sends-replaces accepted typed there c brought gas q next h g)
      (sends-fits accepted typed there c brought gas q next h g)
      (sends-keeps_gas accepted typed there c brought gas q next h g))

module _ {a : Acceptance} (accepted : IsAccepted a) {s : State} (typed : IsTyped a s) {p : Process}
    (there : Contains s.objects (object.Process p)) where
  abbrev own : Judgement
  own = own_judgement p (process-typed typed there)

  -- a name of a shared type is no other one
  abbrev IsUnsharedName : ℕ → Type 0
  IsUnsharedName name = (t : TypeId) → type_of s.types name ≡ Some t → ¬ (HasMode a.program t mode.S)

  -- It sends what is no channel, or a reference, and keeps all that it has but for gas.
  own-sending : (c : Chan) (brought : Payload) (gas purse : ℕ) (next : CodeId) (held : TypeId) (head : TypeNode)
      (goes : TypeId)
      (after : List Judgement) → TypingRule a.program a.annotations own after
      → Contains after (goes_on (with_potential own (purse - potential_of p)) c goes next)
      → channel_type own c ≡ Some held
      → Unfolds a.program held.0 head
      → Brings a.program a.annotations s.types (is_own c) head brought gas (Some goes)
      → ((name : ℕ) → IsUnsharedName name → count_of name (carried brought) ≡ 0) → potential_of p ≤ purse
      → gas + purse ≡ p.purse
      → Sending a s p (process-typed typed there) c brought gas (record p { purse = purse }) next
  own-sending c brought gas purse next held head goes after row among holds unfolds brings nothing covered pays =
      let variables = process-variables typed there in
      let on = own-matches typed there in
      record {
        left = with_potential own (purse - potential_of p);
        held = held;
        head = head;
        goes = goes;
        after = after;
        row = row;
        among = among;
        unshared = channel-unshared (own-is_judgement typed there accepted) c held holds;
        holds = holds-too c holds;
        unfolds = unfolds;
        brings = brings;
        matches = record {
          mode = on.mode;
          code = on.code;
          offers = on.offers;
          values = on.values;
          held_lists = on.held_lists;
          channels = on.channels;
        };
        here = present-too c;
        pid = refl;
        same_mode = refl;
        offers = refl;
        base = refl;
        payer = refl;
        values = variables.values;
        held_lists = variables.lists;
        channels = variables.channels;
        covered = covered;
        exact = refl;
        pays = pays;
        uses = λ name unshared. omega (arith, nothing name unshared);
      }
    where
      holds-too : (d : Chan) → channel_type own d ≡ Some held
          → channel_type (with_potential own (purse - potential_of p)) d ≡ Some held
      holds-too chan.Own is = is
      holds-too (chan.Var v) is = is

      present-too : (d : Chan) → present_name (record p { purse = purse }) d ≡ present_name p d
      present-too chan.Own = refl
      present-too (chan.Var v) = refl

  pub label-goes : (at : ℕ) (c : Chan) (l : Label) (next : CodeId) → At accepted typed there (code.Label at c l next)
      → GoesAt accepted typed there (code.Label at c l next)
  label-goes at c l next stands =
      let n : CodeNode = code.Label at c l next in
      let (after, row) = own-row typed there accepted in
      let (t, sends_it, goes_on_so) = row-inverted n (own-stands typed there n stands) row in
      let (held, holds, unfolds) = sends_it.channel in
      let among : Contains after (goes_on own c t next) =
      subst (λ (js : List Judgement). Contains js (goes_on own c t next)) (sym goes_on_so) (0, omega arith, refl)
      in
      sends-go accepted typed there c (payload.Label l) 0 p next
      (own-sending c (payload.Label l) 0 p.purse next held _ t after row among holds unfolds
      (sent-label c sends_it.branches l t sends_it.goes) (λ name unshared. refl) (process-typed typed there).covered
      (omega arith))

  pub put-goes : (at : ℕ) (c : Chan) (e : TermId) (next : CodeId) → At accepted typed there (code.Put at c e next)
      → GoesAt accepted typed there (code.Put at c e next)
  put-goes at c e next stands = come (term_evaluation a.program p.values e) refl
    where
      n : CodeNode
      n = code.Put at c e next

      come : (r : Evaluation) → term_evaluation a.program p.values e ≡ r
          → Goes a s true (deed_by a s p n (before_others r (Ok [])))
      come (faults f) is = faulty f
      come (ends x m) is =
          let (after, row) = own-row typed there accepted in
          let (t, sends_it, goes_on_so) = row-inverted n (own-stands typed there n stands) row in
          let (held, holds, unfolds) = sends_it.channel in
          let has = value-has_kind typed there accepted e sends_it.kind x m sends_it.value is in
          let among : Contains after (goes_on own c t next) =
          subst (λ (js : List Judgement). Contains js (goes_on own c t next)) (sym goes_on_so) (0, omega arith, refl)
          in
          sends-go accepted typed there c (payload.Value x) 0 p next
          (own-sending c (payload.Value x) 0 p.purse next held _ t after row among holds unfolds
          (sent-one_value c sends_it.kind t x has) (λ name unshared. refl) (process-typed typed there).covered
          (omega arith))

  pub pay-goes : (at : ℕ) (c : Chan) (r : Amount) (next : CodeId) → At accepted typed there (code.Pay at c r next)
      → GoesAt accepted typed there (code.Pay at c r next)
  pay-goes at c r next stands =
      let n : CodeNode = code.Pay at c r next in
      let (after, row) = own-row typed there accepted in
      let (t, pays_it, goes_on_so) = row-inverted n (own-stands typed there n stands) row in
      let (held, holds, unfolds) = pays_it.channel in
      let gas : ℕ = dths a.annotations r in
      let covered : potential_of p ≤ p.purse = (process-typed typed there).covered in
      let has : gas ≤ free_purse p = pays_it.enough in
      let left : Judgement = with_potential own (own.q - gas) in
      let rest : own.q - gas ≡ p.purse - gas - potential_of p = omega arith in
      let k : Judgement = goes_on left c t next in
      let is_k : after ≡ k ∷ [] =
      goes_on_so ∙ ap (λ j. j ∷ []) (sym (goes_on-with_potential own c t next (own.q - gas)))
      in
      let among : Contains after k = subst (λ (js : List Judgement). Contains js k) (sym is_k) (0, omega arith, refl) in
      let brings = subst
      (λ (g : ℕ). Brings a.program a.annotations s.types (is_own c)
      (by_side c (node.PotOut pays_it.amount t) (node.PotIn pays_it.amount t)) payload.Pay g (Some t))
      (sym pays_it.same)
      (sent-potential c pays_it.amount t)
      in
      let found = option_and_then after_potential (head_on a.program s.types p c) in
      let change : Option Change = sends a s p c payload.Pay gas (poorer gas p) found next in
      let paid : where_it_has gas p change ≡ change = affords gas p change covered has in
      subst (λ (o : Option Change). Goes a s true (does a s p o)) (sym paid)
      (sends-go accepted typed there c payload.Pay gas (poorer gas p) next
      (own-sending c payload.Pay gas (p.purse - gas) next held _ t after row
      (subst (λ (g : ℕ). Contains after (goes_on (with_potential own g) c t next)) rest among) holds unfolds brings
      (λ name unshared. refl) (omega arith) (omega arith)))

  -- ---- a channel is sent

  -- the channel of a variable has a name, whose type is alike to that which the judgement has
  held-name : (y : VarId) (t : TypeId) → type_held own y.0 ≡ Some t
      → (name : ℕ) × (bound_to y.0 p.channels ≡ Some name) × NameHasType a.program a.annotations s.types name t
  held-name y t found = paired-left t ((own-matches typed there).channels y.0) found

  -- so what is handed over of it is told
  hands-over : (y : VarId) (name : ℕ) (b : Bool) → bound_to y.0 p.channels ≡ Some name
      → is_shared_name a.program s.types name ≡ b → hands_over a s p y p ≡ unless_shared a s p y (Some b) p
  hands-over y name b bound is =
      ap (λ (o : Option ℕ). unless_shared a s p y (option_map (is_shared_name a.program s.types) o) p) bound
      ∙ ap (λ (t : Bool). unless_shared a s p y (Some t) p) is

  -- what a process sends as one of these, that is, another one or itself, it does
  channel-goes : (c : Chan) (y : VarId) (next : CodeId) (name : ℕ) (q : Process) → bound_to y.0 p.channels ≡ Some name
      → hands_over a s p y p ≡ q → Sending a s p (process-typed typed there) c (payload.Channel name) 0 q next
      → Goes a s true (does a s p (option_and_then (λ k.
      sends a s p c (payload.Channel k) 0 (hands_over a s p y p)
      (option_and_then after_channel (head_on a.program s.types p c))
      next) (bound_to y.0 p.channels)))
  channel-goes c y next name q bound hands sending =
      let found = option_and_then after_channel (head_on a.program s.types p c) in
      subst (λ (o : Option ℕ). Goes a s true (does a s p (option_and_then (λ k.
      sends a s p c (payload.Channel k) 0 (hands_over a s p y p) found next) o))) (sym bound)
      (subst (λ (r : Process). Goes a s true (does a s p (sends a s p c (payload.Channel name) 0 r found next)))
      (sym hands)
      (sends-go accepted typed there c (payload.Channel name) 0 q next sending))

  -- a name of a shared type is counted where it is the name of no other type
  not-counted : (name k : ℕ) (t : TypeId) → NameHasType a.program a.annotations s.types k t → HasMode a.program t mode.S
      → IsUnsharedName name → count_of name (k ∷ []) ≡ 0
  not-counted name k t is at_s unshared =
      elim (cases_eq k name) [
        | inl same ↦
            let at = mode-unique accepted.typed.formed.program is.alike.right_mode at_s in
            absurd (unshared is.own (subst (λ (n : ℕ). type_of s.types n ≡ Some is.own) same is.found)
            (subst (HasMode a.program is.own) at is.alike.left_mode))
        | inr other ↦ count-elsewhere name k [] (ne_eqb k name other)
      ]

  pub send-goes : (at : ℕ) (c : Chan) (y : VarId) (next : CodeId) → At accepted typed there (code.Send at c y next)
      → GoesAt accepted typed there (code.Send at c y next)
  send-goes at c y next stands =
      let n : CodeNode = code.Send at c y next in
      let (after, row) = own-row typed there accepted in
      let (left, t, sends_it, goes_on_so) = row-inverted n (own-stands typed there n stands) row in
      let among : Contains after (goes_on left c t next) =
      subst (λ (js : List Judgement). Contains js (goes_on left c t next)) (sym goes_on_so) (0, omega arith, refl)
      in
      let (held, holds, unfolds) = sends_it.channel in
      passed after row left t sends_it.carried held among holds unfolds sends_it.other sends_it.passes
    where
      h : IsJudgement a.program own
      h = own-is_judgement typed there accepted

      variables : VariablesDiffer p
      variables = process-variables typed there

      HasLinearMode : TypeId → Type 0
      HasLinearMode u = (m : Mode) × HasMode a.program u m × IsLinearMode m

      apart : c ≢ chan.Var y → (v : VarId) → c ≡ chan.Var v → v.0 ≢ y.0
      apart other v is same = other (is ∙ ap (λ (k : ℕ). chan.Var (record { 0 = k })) same)

      passed : (after : List Judgement) → TypingRule a.program a.annotations own after
          → (left : Judgement) (t sent held : TypeId)
          → Contains after (goes_on left c t next) → channel_type own c ≡ Some held
          → Unfolds a.program held.0 (by_side c (node.Tensor sent t) (node.Lolli sent t)) → c ≢ chan.Var y
          → PassesChannel a.program a.annotations own y sent left
          → GoesAt accepted typed there (code.Send at c y next)
      passed after row _ t sent held among holds unfolds other (shared reference bound alike) =
          let at_s = all-bound (λ u. HasMode a.program u mode.S) y.0 reference own.shared h.shared_modes bound in
          let (name, found, is) =
          held-name y reference (ap (λ (o : Option TypeId). option_or o (bound_to y.0 own.linear)) bound)
          in
          let told = told-shared accepted name reference mode.S is at_s in
          let carries = of_type-through accepted.typed.formed is alike in
          channel-goes c y next name p found (hands-over y name true found told)
          (own-sending c (payload.Channel name) 0 p.purse next held _ t after row among holds unfolds
          (sent-channel c sent t name carries) (λ k unshared. not-counted k name reference is at_s unshared)
          (process-typed typed there).covered (omega arith))
      passed after row _ t sent held among holds unfolds other (linear own_type none bound alike) =
          let (m, has, is_linear) = all-bound HasLinearMode y.0 own_type own.linear h.linear_modes bound in
          let (name, found, is) =
          held-name y own_type (ap (λ (o : Option TypeId). option_or o (bound_to y.0 own.linear)) none ∙ bound)
          in
          let told = told-shared accepted name own_type m is has ∙ sym (linear-unshared m is_linear) in
          let on = own-matches typed there in
          channel-goes c y next name (without_channel y p) found (hands-over y name false found told)
          (record {
            left = record own { linear = unbind y.0 own.linear };
            held = held;
            head = by_side c (node.Tensor sent t) (node.Lolli sent t);
            goes = t;
            after = after;
            row = row;
            among = among;
            unshared = channel-unshared h c held holds;
            holds = holds-too c refl holds;
            unfolds = unfolds;
            brings = sent-channel c sent t name (of_type-through accepted.typed.formed is alike);
            matches = record {
              mode = on.mode;
              code = on.code;
              offers = on.offers;
              values = on.values;
              held_lists = on.held_lists;
              channels = holds-fewer p.channels own.shared own.linear y none variables.channels h.linear on.channels;
            };
            here = present-too c refl;
            pid = refl;
            same_mode = refl;
            offers = refl;
            base = refl;
            payer = refl;
            values = variables.values;
            held_lists = variables.lists;
            channels = unbind-ascending y.0 p.channels variables.channels;
            covered = (process-typed typed there).covered;
            exact = refl;
            pays = omega arith;
            uses = λ k unshared.
                let one = ap (λ (o : Option ℕ). count_of k (option_to_list o)) found in
                omega (arith, count-after_unbind k y.0 p.channels, one);
          })
        where
          holds-too : (d : Chan) → c ≡ d → channel_type own d ≡ Some held
              → channel_type (record own { linear = unbind y.0 own.linear }) d ≡ Some held
          holds-too chan.Own same is = is
          holds-too (chan.Var v) same is = bound-after_unbind_other v.0 y.0 own.linear (apart other v same) ∙ is

          present-too : (d : Chan) → c ≡ d → present_name (without_channel y p) d ≡ present_name p d
          present-too chan.Own same = refl
          present-too (chan.Var v) same = bound-after_unbind_other v.0 y.0 p.channels (apart other v same)
