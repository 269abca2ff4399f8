-- In a typed state what each element of a list carries fits 64 bits.
use Rattle.std.proofs.Common.{◌≡◌, ◌<◌, ◌≤◌, ◌^◌, ◌-◌, ◌∙◌, ℕ, zero, suc, Less, cond, eq-eqb, List, [], ◌∷◌, ◌++◌, All, Contains, Option, Some, None, get_or, map, slice_get, length, refl, ap, subst, sym, arith}
use Rattle.std.specs.List.{AllByRecursion, flat_map}
use Rattle.std.specs.Map.{keys_of}
use Rattle.std.specs.Option.{option_to_list}
use Rattle.std.proofs.lemmas.Nat.{mul-le}
use Rattle.std.proofs.lemmas.Cmp.{ranked}
use Rattle.std.proofs.lemmas.Map.Keys.{sorted_head, sorted_tail}
use Rattle.std.proofs.lemmas.List.Elements.{All-cons, All-contains, All-nil, Contains-append_left, Contains-append_right}
use Rattle.nomos_ir.specs.Amounts.{IsAmount, amounts_of, par_amounts, proc_amounts}
use Rattle.nomos_ir.specs.Bindings.{IsAscending, bound_to, by_number}
use Rattle.nomos_ir.specs.CodeParts.{code_amounts}
use Rattle.nomos_ir.specs.TypeParts.{type_amounts}
use Rattle.nomos_ir.specs.declared.amount.Amount.{Amount}
use Rattle.nomos_ir.specs.declared.amount.Amount.TheVariants as amount
use Rattle.nomos_ir.specs.declared.code_node.Args.{Args}
use Rattle.nomos_ir.specs.declared.code_node.Arm.{Arm}
use Rattle.nomos_ir.specs.declared.code_node.Chan.{Chan}
use Rattle.nomos_ir.specs.declared.code_node.Chan.TheVariants as chan
use Rattle.nomos_ir.specs.declared.code_node.CodeNode.{CodeNode}
use Rattle.nomos_ir.specs.declared.code_node.CodeNode.TheVariants as code
use Rattle.nomos_ir.specs.declared.code_node.ValueArg.{ValueArg}
use Rattle.nomos_ir.specs.declared.declaration.Par.{Par}
use Rattle.nomos_ir.specs.declared.declaration.ProcDecl.{ProcDecl}
use Rattle.nomos_ir.specs.declared.ids.CodeId.{CodeId}
use Rattle.nomos_ir.specs.declared.ids.TypeId.{TypeId}
use Rattle.nomos_ir.specs.declared.ids.VarId.{VarId}
use Rattle.nomos_ir.specs.declared.kind.Kind.{Kind}
use Rattle.nomos_ir.specs.declared.lists.ProgramLists.{ProgramLists}
use Rattle.nomos_ir.specs.declared.mode.Mode.{Mode}
use Rattle.nomos_ir.specs.declared.mode.Mode.TheVariants as mode
use Rattle.nomos_ir.specs.declared.type_node.Branch.{Branch}
use Rattle.nomos_ir.proofs.BindingLaws.{all-after_bind, all-after_unbind, all-bound, all-in_bindings_of}
use Rattle.nomos_ir.proofs.PairedLaws.{paired-right}
use Rattle.nomos_machine.specs.Matching.{ProcessTyped}
use Rattle.nomos_machine.specs.State.{State}
use Rattle.nomos_machine.specs.TypedState.{HasVariables, IsTyped, ObjectTyped, VariablesDiffer}
use Rattle.nomos_machine.specs.declared.object.Object.{Object}
use Rattle.nomos_machine.specs.declared.object.Object.TheVariants as object
use Rattle.nomos_types.specs.Acceptance.{Acceptance, IsAccepted, IsAmountOf}
use Rattle.nomos_types.specs.Amount.{Annotations, dths}
use Rattle.nomos_types.specs.Arguments.{ArgumentsFit, PassesChannel, PassesChannels, PassesValue, PassesValues}
use Rattle.nomos_types.specs.Arguments as passing
use Rattle.nomos_types.specs.Derivation.{Follows}
use Rattle.nomos_types.specs.Derivation as derivation
use Rattle.nomos_types.specs.Judgement.{Judgement, ListType, binds_channel, goes_on, list_par, start_of}
use Rattle.nomos_types.specs.Places.{IsPlace}
use Rattle.nomos_types.specs.Premises.{ArmsGoOn, SendsChannel}
use Rattle.nomos_types.specs.Premises as premises
use Rattle.nomos_types.specs.TypingRule.{TypingRule}
use Rattle.nomos_types.specs.TypingRule as rule
use Rattle.nomos_types.proofs.AmountLaws.{amounts-are_of}
use Rattle.nomos_types.proofs.OccurrenceLaws.{contains-map, contains-part}
use Rattle.nomos_snapshot.proofs.OrderLaws.{bound-past}
use Rattle.nomos_snapshot.specs.ToldLines.{list_told, object_told, process_told}
use Rattle.nomos_snapshot.specs.mirror.Loaded.{AreWide, HasWide, IsWideObject}
use Rattle.nomos_snapshot.specs.declared.told_lines.ToldList.{ToldList}
use Rattle.nomos_snapshot.specs.declared.told_lines.ToldObject.{ToldObject}
use Rattle.nomos_snapshot.specs.declared.told_lines.ToldObject.TheVariants as told_object
use Rattle.nomos_snapshot.specs.declared.told_lines.ToldProcess.{ToldProcess}

-- the lists carry no more than 64 bits count
abbrev AreSmall : List (VarId × ListType) → Type 0
AreSmall lists = All (λ e. e.1.amount < 2 ^ 64) lists

-- ---- what stands in a map

keys-over : {X : Type 0} (w : VarId) (b : List (VarId × X)) → AllByRecursion (λ u. by_number w u ≡ Less) (keys_of b)
    → All (λ e. w.0 < e.0.0) b
keys-over w [] over = All-nil (λ e. w.0 < e.0.0)
keys-over w (e ∷ b) over =
    All-cons (λ f. w.0 < f.0.0) e b (ranked w.0 e.0.0 Less (sym over.0)) (keys-over w b over.1)

bound-here : {X : Type 0} (e : VarId × X) (b : List (VarId × X)) → bound_to e.0.0 (e ∷ b) ≡ Some e.1
bound-here e b = ap (λ (t : _). cond t (Some e.1) (bound_to e.0.0 b)) (eq-eqb e.0.0 e.0.0 refl)

-- a variable of a map is bound to what stands with it
bound-there : {X : Type 0} (b : List (VarId × X)) (e : VarId × X) (k : ℕ) → IsAscending b → k < length b
    → get_or b k e ≡ e → bound_to e.0.0 b ≡ Some e.1
bound-there [] e k ascending within is = absurd (omega (arith, within))
bound-there {X} (f ∷ b) e zero ascending within is =
    subst (λ (g : VarId × X). bound_to g.0.0 (f ∷ b) ≡ Some g.1) is (bound-here f b)
bound-there {X} (f ∷ b) e (suc k) ascending within is =
    let over : f.0.0 < e.0.0 =
    All-contains (λ (g : VarId × X). f.0.0 < g.0.0) b e
    (keys-over f.0 b (sorted_head by_number f.0 (keys_of b) ascending)) (k, omega (arith, within), is) in
    bound-past e.0.0 f b (omega arith)
    ∙ bound-there b e k (sorted_tail by_number f.0 (keys_of b) ascending) (omega (arith, within)) is

-- ---- what the code finds

pub has-wide : (p : ToldProcess) (xs : List (VarId × ToldList)) (k : ℕ) (e : VarId × ToldList) → xs ≡ p.lists.items
    → k < length xs → e ≡ get_or xs k e → 2 ^ 64 ≤ e.1.amount → HasWide (process_told p)
has-wide p xs k e same within is wide = record {
  entry = (e.0, list_told e.1);
  there =
      contains-map (λ (f : VarId × ToldList). (f.0, list_told f.1)) p.lists.items e (e.0, list_told e.1)
      (subst (λ (ys : List (VarId × ToldList)). Contains ys e) same (k, within, sym is)) refl;
  wide = wide;
}

wide-object : (o : ToldObject) → IsWideObject o → (xs : List Object) → Contains xs (object_told o) → AreWide xs
wide-object (told_object.Process p) wide xs there =
    record { process = process_told p; there = there; wide = wide }
wide-object (told_object.Message m) wide xs there = absurd wide

pub are-wide : (os : List ToldObject) (k : ℕ) (o : ToldObject) → k < length os → o ≡ get_or os k o → IsWideObject o
    → AreWide (map object_told os)
are-wide os k o within is wide =
    wide-object o wide (map object_told os)
    (contains-map object_told os o (object_told o) (k, within, sym is) refl)

-- ---- judgements with the same lists

-- the lists of each of these judgements
abbrev EachSmall : List Judgement → Type 0
EachSmall after = All (λ k. AreSmall k.lists) after

none-after : EachSmall []
none-after = All-nil (λ k. AreSmall k.lists)

one-after : (k : Judgement) → AreSmall k.lists → EachSmall (k ∷ [])
one-after k small = All-cons (λ j. AreSmall j.lists) k [] small none-after

two-after : (k l : Judgement) → AreSmall k.lists → AreSmall l.lists → EachSmall (k ∷ l ∷ [])
two-after k l first second = All-cons (λ j. AreSmall j.lists) k (l ∷ []) first (one-after l second)

goes-lists : (j : Judgement) (c : Chan) (t : TypeId) (next : CodeId) → (goes_on j c t next).lists ≡ j.lists
goes-lists j chan.Own t next = refl
goes-lists j (chan.Var v) t next = refl

channel-lists : (j : Judgement) (v : VarId) (m : Mode) (t : TypeId) → (binds_channel j v m t).lists ≡ j.lists
channel-lists j v mode.R t = refl
channel-lists j v mode.S t = refl
channel-lists j v mode.L t = refl
channel-lists j v mode.T t = refl

goes-small : (j : Judgement) (c : Chan) (t : TypeId) (next : CodeId) → AreSmall j.lists
    → AreSmall (goes_on j c t next).lists
goes-small j c t next small = subst AreSmall (sym (goes-lists j c t next)) small

channel-small : (j : Judgement) (v : VarId) (m : Mode) (t : TypeId) → AreSmall j.lists
    → AreSmall (binds_channel j v m t).lists
channel-small j v m t small = subst AreSmall (sym (channel-lists j v m t)) small

arms-small : {j : Judgement} {c : Chan} {branches : List Branch} {arms : List Arm} {after : List Judgement}
    → ArmsGoOn j c branches arms after → AreSmall j.lists → EachSmall after
arms-small premises.none small = none-after
arms-small {j} {c} (premises.arm {a} {arms} {after} t goes rest) small =
    All-cons (λ k. AreSmall k.lists) (goes_on j c t a.goes) after (goes-small j c t a.goes small)
    (arms-small rest small)

-- ---- what is passed

channel-left : {lists : ProgramLists} {x : Annotations} {j : Judgement} {v : VarId} {t : TypeId} {k : Judgement}
    → PassesChannel lists x j v t k → AreSmall j.lists → AreSmall k.lists
channel-left (passing.shared own found alike) small = small
channel-left (passing.linear own none found alike) small = small

channels-left : {lists : ProgramLists} {x : Annotations} {j : Judgement} {vs : List VarId}
    {pars : List (VarId × TypeId)} {k : Judgement} → PassesChannels lists x j vs pars k → AreSmall j.lists
    → AreSmall k.lists
channels-left passing.none small = small
channels-left (passing.channel one others) small = channels-left others (channel-left one small)

value-left : {lists : ProgramLists} {x : Annotations} {j : Judgement} {a : ValueArg} {par : Par} {k : Judgement}
    → PassesValue lists x j a par k → AreSmall j.lists → AreSmall k.lists
value-left (passing.term none kind) small = small
value-left (passing.list {j} {w} amount is found) small =
    all-after_unbind (λ (l : ListType). l.amount < 2 ^ 64) w.0 j.lists small

values-left : {lists : ProgramLists} {x : Annotations} {j : Judgement} {args : List ValueArg} {pars : List Par}
    {k : Judgement}
    → PassesValues lists x j args pars k → AreSmall j.lists → AreSmall k.lists
values-left passing.none small = small
values-left (passing.value one others) small = values-left others (value-left one small)

arguments-left : {lists : ProgramLists} {x : Annotations} {j k : Judgement} {d : ProcDecl} {args : Args}
    → ArgumentsFit lists x j d args k → AreSmall j.lists → AreSmall k.lists
arguments-left fit small = channels-left fit.channels (values-left fit.values small)

-- ---- accepted programs

module _ {a : Acceptance} (accepted : IsAccepted a) where
  amount-small : (r : Amount) → Contains (amounts_of a.program) r → dths a.annotations r < 2 ^ 64
  amount-small r among =
      by_form r (All-contains IsAmount (amounts_of a.program) r accepted.is_program.amounts among)
      (All-contains (IsAmountOf a.program) (amounts_of a.program) r
      (amounts-are_of a.program accepted.is_program.amounts) among)
    where
      by_form : (q : Amount) → IsAmount q → IsAmountOf a.program q → dths a.annotations q < 2 ^ 64
      by_form (amount.Written units) small of =
          omega (arith, mul-le units a.annotations.unit 1000000000 (2 ^ 31) small accepted.small_unit)
      by_form (amount.Star star) small of =
          let stars = a.annotations.stars in
          let within : star - 1 < length stars = omega (arith, of.0, of.1, accepted.each_star) in
          let below : get_or stars (star - 1) 0 < 2 ^ 62 = accepted.small_stars (star - 1) 0 within in
          omega (arith, below)

  -- the amounts of an instruction, and of a declaration
  code-amount : (at : ℕ) (n : CodeNode) (r : Amount) → slice_get a.program.code at ≡ Some n
      → Contains (code_amounts n) r
      → Contains (amounts_of a.program) r
  code-amount at n r found among =
      let in_types : List Amount = flat_map (λ t. type_amounts t.node) a.program.types in
      let in_code : List Amount = flat_map code_amounts a.program.code in
      let in_procs : List Amount = flat_map proc_amounts a.program.procs in
      let here = contains-part code_amounts a.program.code at n r found among in
      Contains-append_left (in_types ++ in_code) in_procs r (Contains-append_right in_types in_code r here)

  proc-amount : (p : ℕ) (d : ProcDecl) (r : Amount) → slice_get a.program.procs p ≡ Some d → Contains (proc_amounts d) r
      → Contains (amounts_of a.program) r
  proc-amount p d r found among =
      let in_types : List Amount = flat_map (λ t. type_amounts t.node) a.program.types in
      let in_code : List Amount = flat_map code_amounts a.program.code in
      let in_procs : List Amount = flat_map proc_amounts a.program.procs in
      Contains-append_right (in_types ++ in_code) in_procs r
      (contains-part proc_amounts a.program.procs p d r found among)

  -- the lists with which a declaration starts
  pars-small : (pars : List Par) → ((r : Amount) → Contains (flat_map par_amounts pars) r
      → dths a.annotations r < 2 ^ 64)
      → AreSmall (flat_map (λ par. list_par a.annotations par.var par.kind par.amount) pars)
  pars-small [] small = All-nil (λ e. e.1.amount < 2 ^ 64)
  pars-small (par ∷ pars) small =
      one_more par.var par.kind par.amount
      (λ r there. small r (Contains-append_left (option_to_list par.amount) (flat_map par_amounts pars) r there))
      (pars-small pars
      (λ r there. small r (Contains-append_right (option_to_list par.amount) (flat_map par_amounts pars) r there)))
    where
      one_more : (v : VarId) (kind : Kind) (amount : Option Amount)
          → ((r : Amount) → Contains (option_to_list amount) r → dths a.annotations r < 2 ^ 64)
          → AreSmall (flat_map (λ par. list_par a.annotations par.var par.kind par.amount) pars)
          → AreSmall (list_par a.annotations v kind amount
          ++ flat_map (λ par. list_par a.annotations par.var par.kind par.amount) pars)
      one_more v kind None first rest = rest
      one_more v kind (Some r) first rest =
          All-cons (λ e. e.1.amount < 2 ^ 64) (v, record { kind = kind; amount = dths a.annotations r })
          (flat_map (λ par. list_par a.annotations par.var par.kind par.amount) pars)
          (first r (0, omega arith, refl)) rest

  start-small : (p : ℕ) (d : ProcDecl) → slice_get a.program.procs p ≡ Some d
      → AreSmall (start_of a.program a.annotations d).lists
  start-small p d found =
      all-in_bindings_of (λ (l : ListType). l.amount < 2 ^ 64)
      (flat_map (λ par. list_par a.annotations par.var par.kind par.amount) d.values)
      (pars-small d.values (λ r there. amount-small r (proc-amount p d r found
      (Contains-append_left (flat_map par_amounts d.values) (d.amount ∷ []) r there))))

  -- a rule goes on with lists that carry no more
  row-small : {j : Judgement} {after : List Judgement} → TypingRule a.program a.annotations j after → AreSmall j.lists
      → EachSmall after
  row-small {j} (rule.label {c = c} {next = next} at t sends) small =
      one-after (goes_on j c t next) (goes-small j c t next small)
  row-small (rule.case at after awaits) small = arms-small awaits.each_arm small
  row-small {j} (rule.send {c = c} {next = next} at left t sends) small =
      one-after (goes_on left c t next) (goes-small left c t next (channel-left sends.passes small))
  row-small {j} (rule.recv {c = c} {y} {next} at m carried t receives) small =
      one-after (binds_channel (goes_on j c t next) y m carried)
      (channel-small (goes_on j c t next) y m carried (goes-small j c t next small))
  row-small {j} (rule.put {c = c} {next = next} at t sends) small =
      one-after (goes_on j c t next) (goes-small j c t next small)
  row-small {j} (rule.take {c = c} {v} {next} at kind t receives) small =
      one-after _ (goes-small j c t next small)
  row-small {j} (rule.pay {c = c} {next = next} at t pays) small = one-after _ (goes-small j c t next small)
  row-small {j} (rule.get {c = c} {next = next} at t gets) small = one-after _ (goes-small j c t next small)
  row-small (rule.work at enough) small = one-after _ small
  row-small (rule.wait at channel) small = one-after _ small
  row-small (rule.accept at t accepts) small = one-after _ small
  row-small (rule.detach at t detaches) small = one-after _ small
  row-small (rule.acquire {v = v} {next} at t acquires) small = one-after _ small
  row-small (rule.release {a = r} {next} at t releases) small = one-after _ small
  row-small {j} (rule.spawn {v = v} at d left spawns) small =
      one-after _ (channel-small _ v d.mode d.offers (arguments-left spawns.arguments small))
  row-small (rule.«let» at kind has free) small = one-after _ small
  row-small (rule.emit at kind has) small = one-after _ small
  row-small (rule.choose at has) small = two-after _ _ small small
  row-small (rule.close at closes) small = none-after
  row-small (rule.fwd at forwards) small = none-after
  row-small (rule.call at calls) small = none-after
  row-small {j} (rule.empty {at = at} {v} {r} {kind} {next} stands free) small =
      one-after _ (all-after_bind (λ (l : ListType). l.amount < 2 ^ 64) v
      (record { kind = kind; amount = dths a.annotations r }) j.lists small
      (amount-small r (code-amount j.code.0 (code.Empty at v r kind next) r stands (0, omega arith, refl))))
  row-small {j} (rule.add {v = v} {w = w} at list adds) small =
      one-after _ (all-after_bind (λ (l : ListType). l.amount < 2 ^ 64) v list _
      (all-after_unbind (λ (l : ListType). l.amount < 2 ^ 64) w.0 j.lists small)
      (all-bound (λ (l : ListType). l.amount < 2 ^ 64) w.0 list j.lists small adds.there))
  row-small {j} (rule.match {w = w} {tail = tail} at list takes) small =
      let left = all-after_unbind (λ (l : ListType). l.amount < 2 ^ 64) w.0 j.lists small in
      two-after _ _ left (all-after_bind (λ (l : ListType). l.amount < 2 ^ 64) tail list _ left
      (all-bound (λ (l : ListType). l.amount < 2 ^ 64) w.0 list j.lists small takes.there))

  follows-small : {first j : Judgement} → Follows a.program a.annotations first j → AreSmall first.lists
      → AreSmall j.lists
  follows-small derivation.first small = small
  follows-small (derivation.next {k = k} after follows row there) small =
      All-contains (λ j. AreSmall j.lists) after k (row-small row (follows-small follows small)) there

  -- So the lists of a judgement at its place carry no more than 64 bits count.
  place-small : {j : Judgement} → IsPlace a.program a.annotations j → (v : ℕ) (l : ListType)
      → bound_to v j.lists ≡ Some l → l.amount < 2 ^ 64
  place-small {j} is v l found =
      all-bound (λ (m : ListType). m.amount < 2 ^ 64) v l j.lists
      (follows-small is.follows (start-small is.number is.declaration is.declared)) found

  -- And so do the lists of each process of a typed state.
  pub wide-untyped : {s : State} → IsTyped a s → ¬ (AreWide s.objects)
  wide-untyped {s} typed wide =
      let p = wide.process in
      let e = wide.wide.entry in
      let there = wide.wide.there in
      let has : ProcessTyped a s.types (length s.balances) p =
      All-contains (ObjectTyped a s.types (length s.balances)) s.objects (object.Process p) typed.each wide.there in
      let differ : VariablesDiffer p =
      All-contains HasVariables s.objects (object.Process p) typed.numbered.variables wide.there in
      let bound : bound_to e.0.0 p.lists ≡ Some e.1 =
      bound-there p.lists e there.0 differ.lists there.1 there.2 in
      let (t, found, is) = paired-right e.1 (has.matches.held_lists e.0.0) bound in
      let small : t.amount < 2 ^ 64 = place-small has.is_place e.0.0 t found in
      omega (arith, small, is.amount, wide.wide.wide)
