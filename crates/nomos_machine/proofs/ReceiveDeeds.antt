-- The instructions at which a process takes a message: `case`, `recv`, `take`, `get` and `wait`.
use Rattle.std.proofs.Common.{cond, ◌==◌, ◌≡◌, ◌∙◌, ◌≤◌, inl, inr, ℕ, ◌+◌, Bool, true, false, List, [], ◌∷◌, ◌++◌, map, find, Contains, Option, Some, None, is_some, refl, sym, subst, ap, arith, eqb-true, eq-eqb}
use Rattle.std.specs.Prelude.{option_and_then}
use Rattle.std.specs.Option.{option_map, option_or, option_to_list}
use Rattle.std.proofs.lemmas.List.Elements.{Contains-append_cases, Contains-append_right}
use Rattle.nomos_ir.specs.Bindings.{bound_to, unbind, IsAscending}
use Rattle.nomos_ir.specs.Order.{count_of}
use Rattle.nomos_ir.specs.Value.{Value}
use Rattle.nomos_ir.specs.ValueKind.{ValueHasKind}
use Rattle.nomos_ir.specs.declared.amount.Amount.{Amount}
use Rattle.nomos_ir.specs.declared.code_node.Arm.{Arm}
use Rattle.nomos_ir.specs.declared.code_node.Chan.{Chan}
use Rattle.nomos_ir.specs.declared.code_node.Chan.TheVariants as chan
use Rattle.nomos_ir.specs.declared.code_node.CodeNode.{CodeNode}
use Rattle.nomos_ir.specs.declared.code_node.CodeNode.TheVariants as code
use Rattle.nomos_ir.specs.declared.ids.CodeId.{CodeId}
use Rattle.nomos_ir.specs.declared.ids.Label.{Label}
use Rattle.nomos_ir.specs.declared.ids.TypeId.{TypeId}
use Rattle.nomos_ir.specs.declared.ids.VarId.{VarId}
use Rattle.nomos_ir.specs.declared.kind.Kind.{Kind}
use Rattle.nomos_ir.specs.declared.mode.Mode.{Mode}
use Rattle.nomos_ir.specs.declared.type_node.Branch.{Branch}
use Rattle.nomos_ir.specs.declared.type_node.TypeNode.TheVariants as node
use Rattle.nomos_ir.proofs.BindingLaws.{bind-ascending, unbind-ascending, all-bound}
use Rattle.nomos_ir.proofs.PairedLaws.{paired-bind, none-left}
use Rattle.nomos_ir.proofs.SumLaws.{count-after_bind, count-after_unbind, count-first}
use Rattle.nomos_types.specs.Acceptance.{Acceptance, IsAccepted}
use Rattle.nomos_types.specs.Amount.{dths}
use Rattle.nomos_types.specs.Branches.{goes_by}
use Rattle.nomos_types.specs.Judgement.{Judgement, IsJudgement, channel_type, goes_on, with_potential, binds_value, binds_channel, at_code, type_held, IsFree}
use Rattle.nomos_types.specs.Modes.{HasMode, IsLinearMode}
use Rattle.nomos_types.specs.Premises.{by_side, ArmsGoOn, none, arm}
use Rattle.nomos_types.specs.TypingRule.{TypingRule, gives_up}
use Rattle.nomos_types.proofs.ModeLaws.{mode-unique}
use Rattle.nomos_types.proofs.RowLaws.{row-inverted}
use Rattle.nomos_machine.specs.Change.{Change}
use Rattle.nomos_machine.specs.Deeds.{does, takes, label_in, channel_in, value_in, potential_in, close_in, arm_for}
use Rattle.nomos_machine.specs.Matching.{NameHasType, Matches}
use Rattle.nomos_machine.specs.Objects.{carried, potential_of}
use Rattle.nomos_machine.specs.Revised.{standing_at, under_name, with_channel, without_channel, with_value, richer}
use Rattle.nomos_machine.specs.Sight.{present_name, message_on}
use Rattle.nomos_machine.specs.State.{State}
use Rattle.nomos_machine.specs.TypedMessage.{Brings, GoesOnAt}
use Rattle.nomos_machine.specs.TypedState.{IsTyped}
use Rattle.nomos_machine.specs.declared.object.Message.{Message}
use Rattle.nomos_machine.specs.declared.object.Object.TheVariants as object
use Rattle.nomos_machine.specs.declared.object.Payload.{Payload}
use Rattle.nomos_machine.specs.declared.object.Process.{Process}
use Rattle.nomos_machine.proofs.AloneDeeds.{At, GoesAt}
use Rattle.nomos_machine.proofs.ChannelLaws.{under-keeps, channel-unshared, present-has_type, matches-goes_on, goes_on-potential, goes_on-shared, matches-binds, binds_channel-potential, under-free, uncounted, under-ascending}
use Rattle.nomos_machine.proofs.GoesLaws.{Goes, process-typed, process-variables, own-row, own-stands, own-is_judgement, own-matches, next-is_judgement}
use Rattle.nomos_machine.proofs.LinearLaws.{base-same}
use Rattle.nomos_machine.proofs.MatchLaws.{holds-fewer, matches-differ}
use Rattle.nomos_machine.proofs.MessageLaws.{IsReadOn, next-none, BringsTo, message-brings}
use Rattle.nomos_machine.proofs.ProcessLaws.{own_judgement, process-next}
use Rattle.nomos_machine.proofs.PutLaws.{contains-one}
use Rattle.nomos_machine.proofs.ReceiveLaws.{client}
use Rattle.nomos_machine.proofs.ReceivingLaws.{Takes, looked-goes, Received, receives-by, plain-received}
use Rattle.nomos_machine.proofs.TalkLaws.{received-label, received-channel, received-one_value, received-potential, received-end}

module _ {a : Acceptance} (accepted : IsAccepted a) {s : State} (typed : IsTyped a s) {p : Process}
    (there : Contains s.objects (object.Process p)) where
  abbrev own : Judgement
  own = own_judgement p (process-typed typed there)

  -- ---- a label

  arm-first : (c : Chan) (bs : List Branch) (l : Label) (t u : TypeId) (e : Arm) (arms : List Arm)
      (after : List Judgement)
      (b : Bool) → (e.label.0 == l.0) ≡ b → goes_by bs e.label ≡ Some u → goes_by bs l ≡ Some t
      → Contains (map (λ d. d.label) (e ∷ arms)) l
      → (Contains (map (λ d. d.label) arms) l
      → (next : CodeId) × (arm_for arms l ≡ Some next) × Contains after (goes_on own c t next))
      → (next : CodeId) × (option_map (λ d. d.goes) (cond b (Some e) (find (λ d. d.label.0 == l.0) arms)) ≡ Some next)
      × Contains (goes_on own c u e.goes ∷ after) (goes_on own c t next)
  arm-first c bs l t u e arms after true is goes found among rest =
      let number : e.label.0 ≡ l.0 = eqb-true e.label.0 l.0 is in
      let same : goes_by bs e.label ≡ goes_by bs l =
      ap (λ (n : ℕ). option_map (λ (b : Branch). b.goes) (find (λ (b : Branch). b.label.0 == n) bs)) number
      in
      let types : u ≡ t = cc in
      (e.goes, refl, (0, omega arith, ap (λ (v : TypeId). goes_on own c v e.goes) types))
  arm-first c bs l t u e arms after false is goes found among rest =
      elim (Contains-append_cases (e.label ∷ []) (map (λ (d : Arm). d.label) arms) l among) [
        | inl first ↦
            let same : e.label ≡ l = contains-one e.label l first in
            absurd (differ (sym is ∙ eq-eqb e.label.0 l.0 (ap (λ (k : Label). k.0) same)))
        | inr further ↦
            let (next, there_too, inside) = rest further in
            (next, there_too, Contains-append_right (goes_on own c u e.goes ∷ []) after (goes_on own c t next) inside)
      ]
    where
      differ : false ≡ true → ⊥
      differ same = cc

  -- an arm goes on after each of its labels, at the type of the label
  arm-found : (c : Chan) (bs : List Branch) (l : Label) (t : TypeId) (arms : List Arm) (after : List Judgement)
      → ArmsGoOn own c bs arms after → goes_by bs l ≡ Some t → Contains (map (λ d. d.label) arms) l
      → (next : CodeId) × (arm_for arms l ≡ Some next) × Contains after (goes_on own c t next)
  arm-found c bs l t _ _ none found among = absurd (omega (arith, among.1))
  arm-found c bs l t _ _ (arm {a = e} {arms = arms} {after = after} u goes rest) found among =
      arm-first c bs l t u e arms after (e.label.0 == l.0) refl goes found among
      (λ further. arm-found c bs l t arms after rest found further)

  pub case-goes : (at : ℕ) (c : Chan) (arms : List Arm) → At accepted typed there (code.Case at c arms)
      → GoesAt accepted typed there (code.Case at c arms)
  case-goes at c arms stands =
      let n : CodeNode = code.Case at c arms in
      let (after, row) = own-row typed there accepted in
      let awaits = row-inverted n (own-stands typed there n stands) row in
      let (held, holds, unfolds) = awaits.channel in
      receives-by accepted typed there c held (by_side c (node.With awaits.branches) (node.Plus awaits.branches))
      (λ brought q. option_and_then (λ next. Some (standing_at next q))
      (option_and_then (arm_for arms) (label_in brought)))
      holds unfolds
      (λ m goes brings here.
      let (l, t, is_label, no_gas, goes_so, chosen) = received-label c awaits.branches brings in
      let (next, is_arm, among) = arm-found c awaits.branches l t arms after awaits.each_arm chosen
      (awaits.each_label l t chosen) in (
        t,
        goes_so,
        λ name has. (
          standing_at next (under_name c name p),
          ap (λ (brought : Payload). option_and_then (λ k. Some (standing_at k (under_name c name p)))
              (option_and_then (arm_for arms) (label_in brought))) is_label
              ∙ ap (λ (o : Option CodeId). option_and_then (λ k. Some (standing_at k (under_name c name p))) o) is_arm,
          plain-received accepted typed there c m name held t next after (goes_on own c t next).q row among holds has
              (ap (λ (brought : Payload). carried brought) is_label)
              (omega (arith, goes_on-potential own c t next, no_gas)),
        ),
      ))

  pub get-goes : (at : ℕ) (c : Chan) (r : Amount) (next : CodeId) → At accepted typed there (code.Get at c r next)
      → GoesAt accepted typed there (code.Get at c r next)
  get-goes at c r next stands =
      let n : CodeNode = code.Get at c r next in
      let (after, row) = own-row typed there accepted in
      let (t, gets, goes_on_so) = row-inverted n (own-stands typed there n stands) row in
      let (held, holds, unfolds) = gets.channel in
      let k : Judgement = with_potential (goes_on own c t next) (own.q + dths a.annotations r) in
      let among : Contains after k =
      subst (λ (js : List Judgement). Contains js k) (sym goes_on_so) (0, omega arith, refl)
      in
      receives-by accepted typed there c held (by_side c (node.PotIn gets.amount t) (node.PotOut gets.amount t))
      (λ brought q. option_and_then (λ some. Some (standing_at next q)) (potential_in brought)) holds unfolds
      (λ m goes brings here.
      let (is_pay, is_gas, goes_so) = received-potential c gets.amount t brings in (
        t,
        goes_so,
        λ name has. (
          standing_at next (under_name c name p),
          ap (λ (brought : Payload). option_and_then (λ some. Some (standing_at next (under_name c name p)))
              (potential_in brought))
              is_pay,
          plain-received accepted typed there c m name held t next after (own.q + dths a.annotations r) row among holds
              has
              (ap (λ (brought : Payload). carried brought) is_pay) (omega (arith, is_gas, gets.same)),
        ),
      ))

  pub take-goes : (at : ℕ) (c : Chan) (v : VarId) (next : CodeId) → At accepted typed there (code.Take at c v next)
      → GoesAt accepted typed there (code.Take at c v next)
  take-goes at c v next stands =
      let n : CodeNode = code.Take at c v next in
      let (after, row) = own-row typed there accepted in
      let (kind, t, receives_it, goes_on_so) = row-inverted n (own-stands typed there n stands) row in
      let (held, holds, unfolds) = receives_it.channel in
      let k : Judgement = binds_value (goes_on own c t next) v kind in
      let among : Contains after k =
      subst (λ (js : List Judgement). Contains js k) (sym goes_on_so) (0, omega arith, refl)
      in
      receives-by accepted typed there c held (by_side c (node.ValueIn kind t) (node.ValueOut kind t))
      (λ brought q. option_and_then (λ x. Some (standing_at next (with_value v x q))) (value_in brought)) holds unfolds
      (λ m goes brings here.
      let (x, is_value, no_gas, goes_so, of_kind) = received-one_value c kind t brings in (
        t,
        goes_so,
        λ name has. (
          standing_at next (with_value v x (under_name c name p)),
          ap (λ (brought : Payload). option_and_then
              (λ y. Some (standing_at next (with_value v y (under_name c name p))))
              (value_in brought)) is_value,
          value-received c m name held t next v x kind after row among holds has of_kind
              (ap (λ (brought : Payload). carried brought) is_value) no_gas,
        ),
      ))
    where
      value-received : (d : Chan) (m : Message) (name : ℕ) (held t : TypeId) (goes_to : CodeId) (w : VarId) (x : Value)
          (kind : Kind)
          (after : List Judgement) → TypingRule a.program a.annotations own after
          → Contains after (binds_value (goes_on own d t goes_to) w kind) → channel_type own d ≡ Some held
          → NameHasType a.program a.annotations s.types name t → ValueHasKind x kind → carried m.payload ≡ []
          → m.purse ≡ 0
          → Received accepted typed there d m name
          (richer m.purse (standing_at goes_to (with_value w x (under_name d name p))))
      value-received d m name held t goes_to w x kind after row among holds has of_kind nothing no_gas =
          let unshared = channel-unshared (own-is_judgement typed there accepted) d held holds in
          let on = matches-goes_on (own-matches typed there) d name t goes_to unshared has in
          let values = subst IsAscending (sym (under-keeps d name p).values) (process-variables typed there).values in
          record {
            after = after;
            k = binds_value (goes_on own d t goes_to) w kind;
            row = row;
            among = among;
            matches = record {
              mode = on.mode;
              code = on.code;
              offers = on.offers;
              values = paired-bind w x kind (under_name d name p).values (goes_on own d t goes_to).kinds of_kind
                  on.values;
              held_lists = on.held_lists;
              channels = on.channels;
            };
            pid = refl;
            same_mode = refl;
            base = refl;
            held_lists = refl;
            payer = refl;
            offers = refl;
            uses = λ j. omega (arith, ap (λ (ns : List ℕ). count_of j ns) nothing);
            values = bind-ascending w x (under_name d name p).values values;
            channels = under-ascending d name p (process-variables typed there).channels;
            purse = refl;
            exact = omega (arith, goes_on-potential own d t goes_to, no_gas);
          }

  pub recv-goes : (at : ℕ) (c : Chan) (y : VarId) (next : CodeId) → At accepted typed there (code.Recv at c y next)
      → GoesAt accepted typed there (code.Recv at c y next)
  recv-goes at c y next stands =
      let n : CodeNode = code.Recv at c y next in
      let (after, row) = own-row typed there accepted in
      let (mode, sent, t, receives_it, goes_on_so) = row-inverted n (own-stands typed there n stands) row in
      let (held, holds, unfolds) = receives_it.channel in
      let k : Judgement = binds_channel (goes_on own c t next) y mode sent in
      let among : Contains after k =
      subst (λ (js : List Judgement). Contains js k) (sym goes_on_so) (0, omega arith, refl)
      in
      receives-by accepted typed there c held (by_side c (node.Lolli sent t) (node.Tensor sent t))
      (λ brought q. option_and_then (λ name. Some (standing_at next (with_channel y name q))) (channel_in brought))
      holds unfolds
      (λ m goes brings here.
      let (carries, is_channel, no_gas, goes_so, is_sent) = received-channel c sent t brings in (
        t,
        goes_so,
        λ name has. (
          standing_at next (with_channel y carries (under_name c name p)),
          ap (λ (brought : Payload). option_and_then
              (λ j. Some (standing_at next (with_channel y j (under_name c name p))))
              (channel_in brought)) is_channel,
          channel-received c m name held t next mode sent carries after row among holds has is_sent receives_it.free
              here
              (ap (λ (brought : Payload). carried brought) is_channel) no_gas,
        ),
      ))
    where
      channel-received : (d : Chan) (m : Message) (name : ℕ) (held t : TypeId) (goes_to : CodeId) (mode : Mode)
          (sent : TypeId)
          (carries : ℕ) (after : List Judgement) → TypingRule a.program a.annotations own after
          → Contains after (binds_channel (goes_on own d t goes_to) y mode sent) → channel_type own d ≡ Some held
          → NameHasType a.program a.annotations s.types name t
          → NameHasType a.program a.annotations s.types carries sent
          → IsFree own y → present_name p d ≡ Some m.from → carried m.payload ≡ carries ∷ [] → m.purse ≡ 0
          → Received accepted typed there d m name
          (richer m.purse (standing_at goes_to (with_channel y carries (under_name d name p))))
      channel-received d m name held t goes_to mode sent carries after row among holds has is_sent free here one
          no_gas =
          let unshared = channel-unshared (own-is_judgement typed there accepted) d held holds in
          let on = matches-goes_on (own-matches typed there) d name t goes_to unshared has in
          let no_reference : bound_to y.0 own.shared ≡ None =
          uncounted (bound_to y.0 own.shared) (omega (arith, free))
          in
          let no_channel : bound_to y.0 own.linear ≡ None = uncounted (bound_to y.0 own.linear) (omega (arith, free)) in
          let none =
          ap (λ (cs : List (VarId × TypeId)). bound_to y.0 cs) (goes_on-shared own d t goes_to) ∙ no_reference
          in
          let binds = matches-binds on y carries mode sent none is_sent in
          let not_held : type_held own y.0 ≡ None =
          ap (λ (o : Option TypeId). option_or o (bound_to y.0 own.linear)) no_reference ∙ no_channel
          in
          let not_bound = none-left ((own-matches typed there).channels y.0) not_held in
          let unbound = under-free d name m.from p y.0 here not_bound in
          let channels = under-ascending d name p (process-variables typed there).channels in
          record {
            after = after;
            k = binds_channel (goes_on own d t goes_to) y mode sent;
            row = row;
            among = among;
            matches = record {
              mode = binds.mode;
              code = binds.code;
              offers = binds.offers;
              values = binds.values;
              held_lists = binds.held_lists;
              channels = binds.channels;
            };
            pid = refl;
            same_mode = refl;
            base = refl;
            held_lists = refl;
            payer = refl;
            offers = refl;
            uses = λ j.
                let count = count-after_bind j y carries (under_name d name p).channels channels in
                let nothing = ap (λ (o : Option ℕ). count_of j (option_to_list o)) unbound in
                omega (arith, count, nothing, ap (λ (ns : List ℕ). count_of j ns) one);
            values = subst IsAscending (sym (under-keeps d name p).values) (process-variables typed there).values;
            channels = bind-ascending y carries (under_name d name p).channels channels;
            purse = refl;
            exact = omega (
              arith,
              binds_channel-potential (goes_on own d t goes_to) y mode sent,
              goes_on-potential own d t goes_to,
              no_gas,
            );
          }

  pub wait-goes : (at : ℕ) (v : VarId) (next : CodeId) → At accepted typed there (code.Wait at v next)
      → GoesAt accepted typed there (code.Wait at v next)
  wait-goes at v next stands =
      let n : CodeNode = code.Wait at v next in
      let (after, row) = own-row typed there accepted in
      let (has_type, goes_on_so) = row-inverted n (own-stands typed there n stands) row in
      let (held, holds, unfolds) = has_type in
      let k : Judgement = at_code (gives_up own v) next in
      let among : Contains after k =
      subst (λ (js : List Judgement). Contains js k) (sym goes_on_so) (0, omega arith, refl)
      in
      let unshared = channel-unshared h (chan.Var v) held holds in
      let (from, here, is) = present-has_type (own-matches typed there) (chan.Var v) held unshared holds in
      let at_each : (m : Message) → IsReadOn s.objects true from m → Takes accepted typed there m (makes m) = λ m read.
      let is_read : from ≡ m.from = sym read.read in
      let here_too = here ∙ ap (λ (j : ℕ). Some j) is_read in
      let b = message-brings accepted typed m held node.One read.waiting
      (subst (λ (j : ℕ). NameHasType a.program a.annotations s.types j held) is_read is) unfolds
      in
      ended m held after row among holds unshared here_too read.waiting read.goes_way b
      in
      subst (λ (o : Option ℕ). Goes a s (is_some (option_and_then (message_on s.objects true) o))
      (does a s p (option_and_then (λ j. option_and_then makes (message_on s.objects true j)) o))) (sym here)
      (looked-goes accepted typed there true from makes at_each)
    where
      h : IsJudgement a.program own
      h = own-is_judgement typed there accepted

      HasLinearMode : TypeId → Type 0
      HasLinearMode u = (m : Mode) × HasMode a.program u m × IsLinearMode m

      q : Process
      q = standing_at next (without_channel v p)

      makes : Message → Option Change
      makes m = option_and_then (λ closed. Some (takes a s p m q)) (close_in m.payload)

      ended : (m : Message) (held : TypeId) (after : List Judgement) → TypingRule a.program a.annotations own after
          → Contains after (at_code (gives_up own v) next) → bound_to v.0 own.linear ≡ Some held
          → bound_to v.0 own.shared ≡ None → bound_to v.0 p.channels ≡ Some m.from
          → Contains s.objects (object.Message m) → m.to_client ≡ true → BringsTo a s m held node.One
          → Takes accepted typed there m (makes m)
      ended m held after row among holds unshared here waiting way b =
          let brings = subst
          (λ (w : Bool). Brings a.program a.annotations s.types w node.One m.payload m.purse b.goes) way b.brings
          in
          let (is_close, no_gas, no_goes) = received-end brings in
          let no_next = next-none a.program a.annotations s.types m.next
          (subst (λ (o : Option TypeId). GoesOnAt a.program a.annotations s.types m.next o) no_goes b.next)
          in
          let (linear_mode, has_mode, is_linear) = all-bound HasLinearMode v.0 held own.linear h.linear_modes holds in
          let same_mode = mode-unique accepted.typed.formed.program has_mode b.held_mode in
          let variables = process-variables typed there in
          let t = process-typed typed there in
          let on = own-matches typed there in
          let covered : potential_of p ≤ p.purse = t.covered in
          let channels : IsAscending (unbind v.0 p.channels) = unbind-ascending v.0 p.channels variables.channels in
          let matches : Matches a.program a.annotations s.types (richer m.purse q)
          (at_code (gives_up own v) next) = record {
            mode = on.mode;
            code = refl;
            offers = on.offers;
            values = on.values;
            held_lists = on.held_lists;
            channels = holds-fewer p.channels own.shared own.linear v unshared variables.channels h.linear on.channels;
          } in
          let counts : (name : ℕ) → count_of name (map (λ e. e.1) (unbind v.0 p.channels)) + count_of name (m.from ∷ [])
          ≡ count_of name (map (λ e. e.1) p.channels) = λ name.
          let one = ap (λ (o : Option ℕ). count_of name (option_to_list o)) here in
          omega (arith, count-after_unbind name v.0 p.channels, one)
          in (
            q,
            ap (λ (brought : Payload). option_and_then (λ closed. Some (takes a s p m q)) (close_in brought)) is_close,
            record {
              waiting = waiting;
              own = b.own;
              found = b.found;
              mode = b.mode;
              has_mode = b.has_mode;
              is_linear = subst IsLinearMode same_mode is_linear;
              turns = client refl way (omega (arith, counts m.from, count-first m.from []));
              uses = λ name.
                  let ends =
                  ap (λ (w : Bool). count_of name (cond w (option_to_list m.next) (m.from ∷ []) ++ carried m.payload))
                  way
                  in
                  let none_more =
                  ap (λ (o : Option ℕ). count_of name (option_to_list o ++ carried m.payload)) no_next
                  in
                  let nothing = ap (λ (brought : Payload). count_of name (carried brought)) is_close in
                  omega (arith, counts name, ends, none_more, nothing);
              pid = refl;
              same_mode = refl;
              base = refl;
              purse = refl;
              typed = process-next accepted t after (at_code (gives_up own v) next) row among matches (omega arith)
                  (omega (arith, no_gas)) refl (base-same t.has_base refl refl);
              differ = matches-differ
                  (next-is_judgement typed there accepted (at_code (gives_up own v) next) row among) matches
                  variables.values variables.lists channels;
            },
          )
