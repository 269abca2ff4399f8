-- Where amounts are ignored: what an instruction's premises give, and that without them no row applies.
use Rattle.std.proofs.Common.{◌≡◌, ◌≤◌, ◌+◌, ◌-◌, ℕ, IsTrue, List, [], ◌∷◌, Some, slice_get, refl, subst, arith}
use Rattle.nomos_ir.specs.declared.amount.Amount.{Amount}
use Rattle.nomos_ir.specs.declared.amount.Amount.TheVariants as amount
use Rattle.nomos_ir.specs.declared.code_node.Args.{Args}
use Rattle.nomos_ir.specs.declared.code_node.Arm.{Arm}
use Rattle.nomos_ir.specs.declared.code_node.Chan.{Chan}
use Rattle.nomos_ir.specs.declared.code_node.Chan.TheVariants as chan
use Rattle.nomos_ir.specs.declared.code_node.CodeNode.TheVariants as code
use Rattle.nomos_ir.specs.declared.declaration.ProcDecl.{ProcDecl}
use Rattle.nomos_ir.specs.declared.ids.CodeId.{CodeId}
use Rattle.nomos_ir.specs.declared.ids.Label.{Label}
use Rattle.nomos_ir.specs.declared.ids.ProcId.{ProcId}
use Rattle.nomos_ir.specs.declared.ids.TermId.{TermId}
use Rattle.nomos_ir.specs.declared.ids.TypeId.{TypeId}
use Rattle.nomos_ir.specs.declared.ids.VarId.{VarId}
use Rattle.nomos_ir.specs.declared.kind.Kind.{Kind}
use Rattle.nomos_ir.specs.declared.lists.ProgramLists.{ProgramLists}
use Rattle.nomos_ir.specs.declared.mode.Mode.{Mode}
use Rattle.nomos_ir.specs.declared.type_node.TypeNode.TheVariants as node
use Rattle.nomos_ir.specs.TermKind.{HasKind, bool_kind}
use Rattle.nomos_types.proofs.EqualityLaws.{no_dths}
use Rattle.nomos_types.specs.Amount.{dths}
use Rattle.nomos_types.specs.Arguments.{ArgumentsFit}
use Rattle.nomos_types.specs.Equality.{no_amounts}
use Rattle.nomos_types.specs.Judgement.{Judgement, ListType, IsFree, at_code, goes_on, with_potential, binds_list, binds_channel}
use Rattle.nomos_types.specs.Modes.{may_spawn}
use Rattle.nomos_types.specs.Premises.{HasType, by_side, SendsLabel, AwaitsLabel, SendsChannel, ReceivesChannel, SendsValue, ReceivesValue, Pays, Gets, Accepts, Detaches, Acquires, Releases, Spawns, Closes, Forwards, Calls, Adds, TakesApart}
use Rattle.nomos_types.specs.TypingRule.{StandsAtCode, without_list, takes_parts, TypingRule}
use Rattle.nomos_types.specs.TypingRule as row
use Rattle.nomos_types.proofs.RowLaws.{row-inverted}
use Rattle.nomos_check.specs.mirror.StandingData.{NoRow}

-- ---- amounts are worth nothing

-- what channels go on at leaves the potential alone
gone-keeps_q : (j : Judgement) (c : Chan) (t : TypeId) (next : CodeId) → (goes_on j c t next).q ≡ j.q
gone-keeps_q j chan.Own t next = refl
gone-keeps_q j (chan.Var v) t next = refl

module _ {lists : ProgramLists} {j : Judgement} where
  -- ---- instructions at channels

  pub label-stuck : {at : ℕ} {c : Chan} {l : Label} {next : CodeId} → StandsAtCode lists j (code.Label at c l next)
      → ((t : TypeId) → ¬ (SendsLabel lists j c l t)) → NoRow lists j
  label-stuck {at} {c} {l} {next} stands none after steps =
      let (t, says, same) = row-inverted (code.Label at c l next) stands steps in none t says

  pub case-stuck : {at : ℕ} {c : Chan} {arms : List Arm} → StandsAtCode lists j (code.Case at c arms)
      → ((after : List Judgement) → ¬ (AwaitsLabel lists j c arms after)) → NoRow lists j
  case-stuck {at} {c} {arms} stands none after steps = none after (row-inverted (code.Case at c arms) stands steps)

  pub send-stuck : {at : ℕ} {c : Chan} {y : VarId} {next : CodeId} → StandsAtCode lists j (code.Send at c y next)
      → ((left : Judgement) (t : TypeId) → ¬ (SendsChannel lists no_amounts j c y left t)) → NoRow lists j
  send-stuck {at} {c} {y} {next} stands none after steps =
      let (left, t, says, same) = row-inverted (code.Send at c y next) stands steps in none left t says

  pub recv-stuck : {at : ℕ} {c : Chan} {y : VarId} {next : CodeId} → StandsAtCode lists j (code.Recv at c y next)
      → ((m : Mode) (carried t : TypeId) → ¬ (ReceivesChannel lists j c y m carried t)) → NoRow lists j
  recv-stuck {at} {c} {y} {next} stands none after steps =
      let (m, carried, t, says, same) = row-inverted (code.Recv at c y next) stands steps in none m carried t says

  pub put-stuck : {at : ℕ} {c : Chan} {e : TermId} {next : CodeId} → StandsAtCode lists j (code.Put at c e next)
      → ((t : TypeId) → ¬ (SendsValue lists j c e t)) → NoRow lists j
  put-stuck {at} {c} {e} {next} stands none after steps =
      let (t, says, same) = row-inverted (code.Put at c e next) stands steps in none t says

  pub take-stuck : {at : ℕ} {c : Chan} {v : VarId} {next : CodeId} → StandsAtCode lists j (code.Take at c v next)
      → ((kind : Kind) (t : TypeId) → ¬ (ReceivesValue lists j c v kind t)) → NoRow lists j
  take-stuck {at} {c} {v} {next} stands none after steps =
      let (kind, t, says, same) = row-inverted (code.Take at c v next) stands steps in none kind t says

  -- ---- potential

  pub pay-steps : {at : ℕ} {c : Chan} {r : Amount} {next : CodeId} → StandsAtCode lists j (code.Pay at c r next)
      → (s : Amount) (t : TypeId) → HasType lists j c (by_side c (node.PotOut s t) (node.PotIn s t))
      → TypingRule lists no_amounts j (goes_on j c t next ∷ [])
  pay-steps {at} {c} {r} {next} stands s t channel =
      let paid = no_dths r in
      let said = no_dths s in
      let kept = gone-keeps_q j c t next in
      let rest : j.q - dths no_amounts r ≡ (goes_on j c t next).q = omega arith in
      let says : Pays lists no_amounts j c r t =
      record { amount = s; channel = channel; same = omega arith; enough = omega arith }
      in
      let After : ℕ → Type 0 = λ q. TypingRule lists no_amounts j (with_potential (goes_on j c t next) q ∷ []) in
      subst After rest (row.pay stands t says)

  pub pay-stuck : {at : ℕ} {c : Chan} {r : Amount} {next : CodeId} → StandsAtCode lists j (code.Pay at c r next)
      → ((s : Amount) (t : TypeId) → ¬ (HasType lists j c (by_side c (node.PotOut s t) (node.PotIn s t))))
      → NoRow lists j
  pay-stuck {at} {c} {r} {next} stands none after steps =
      let (t, says, same) = row-inverted (code.Pay at c r next) stands steps in none says.amount t says.channel

  pub get-steps : {at : ℕ} {c : Chan} {r : Amount} {next : CodeId} → StandsAtCode lists j (code.Get at c r next)
      → (s : Amount) (t : TypeId) → HasType lists j c (by_side c (node.PotIn s t) (node.PotOut s t))
      → TypingRule lists no_amounts j (goes_on j c t next ∷ [])
  get-steps {at} {c} {r} {next} stands s t channel =
      let got = no_dths r in
      let said = no_dths s in
      let kept = gone-keeps_q j c t next in
      let rest : j.q + dths no_amounts r ≡ (goes_on j c t next).q = omega arith in
      let says : Gets lists no_amounts j c r t = record { amount = s; channel = channel; same = omega arith } in
      let After : ℕ → Type 0 = λ q. TypingRule lists no_amounts j (with_potential (goes_on j c t next) q ∷ []) in
      subst After rest (row.get stands t says)

  pub get-stuck : {at : ℕ} {c : Chan} {r : Amount} {next : CodeId} → StandsAtCode lists j (code.Get at c r next)
      → ((s : Amount) (t : TypeId) → ¬ (HasType lists j c (by_side c (node.PotIn s t) (node.PotOut s t))))
      → NoRow lists j
  get-stuck {at} {c} {r} {next} stands none after steps =
      let (t, says, same) = row-inverted (code.Get at c r next) stands steps in none says.amount t says.channel

  pub work-steps : {at : ℕ} {r : Amount} {next : CodeId} → StandsAtCode lists j (code.Work at r next)
      → TypingRule lists no_amounts j (at_code j next ∷ [])
  work-steps {at} {r} {next} stands =
      let spent = no_dths r in
      let rest : j.q - dths no_amounts r ≡ j.q = omega arith in
      let enough : dths no_amounts r ≤ j.q = omega arith in
      let After : ℕ → Type 0 = λ q. TypingRule lists no_amounts j (with_potential (at_code j next) q ∷ []) in
      subst After rest (row.work stands enough)

  -- ---- shared contracts

  pub accept-stuck : {at : ℕ} {next : CodeId} → StandsAtCode lists j (code.Accept at next)
      → ((t : TypeId) → ¬ (Accepts lists j t)) → NoRow lists j
  accept-stuck {at} {next} stands none after steps =
      let (t, says, same) = row-inverted (code.Accept at next) stands steps in none t says

  pub detach-stuck : {at : ℕ} {next : CodeId} → StandsAtCode lists j (code.Detach at next)
      → ((t : TypeId) → ¬ (Detaches lists j t)) → NoRow lists j
  detach-stuck {at} {next} stands none after steps =
      let (t, says, same) = row-inverted (code.Detach at next) stands steps in none t says

  pub acquire-stuck : {at : ℕ} {a v : VarId} {next : CodeId} → StandsAtCode lists j (code.Acquire at a v next)
      → ((t : TypeId) → ¬ (Acquires lists j a v t)) → NoRow lists j
  acquire-stuck {at} {a} {v} {next} stands none after steps =
      let (t, says, same) = row-inverted (code.Acquire at a v next) stands steps in none t says

  pub release-stuck : {at : ℕ} {v a : VarId} {next : CodeId} → StandsAtCode lists j (code.Release at v a next)
      → ((t : TypeId) → ¬ (Releases lists j v a t)) → NoRow lists j
  release-stuck {at} {v} {a} {next} stands none after steps =
      let (t, says, same) = row-inverted (code.Release at v a next) stands steps in none t says

  -- ---- processes

  pub spawn-steps : {at : ℕ} {v : VarId} {f : ProcId} {args : Args} {next : CodeId}
      → StandsAtCode lists j (code.Spawn at v f args next) → (d : ProcDecl) (left : Judgement)
      → slice_get lists.procs f.0 ≡ Some d → IsTrue (may_spawn j.mode d.mode)
      → ArgumentsFit lists no_amounts j d args left → IsFree j v → left.q ≡ j.q
      → TypingRule lists no_amounts j (binds_channel (at_code left next) v d.mode d.offers ∷ [])
  spawn-steps {at} {v} {f} {args} {next} stands d left declared may arguments free kept =
      let spent = no_dths d.amount in
      let rest : j.q - dths no_amounts d.amount ≡ left.q = omega arith in
      let says : Spawns lists no_amounts j v f args d left =
      record { declared = declared; mode = may; arguments = arguments; enough = omega arith; free = free }
      in
      let After : ℕ → Type 0 =
      λ q. TypingRule lists no_amounts j (binds_channel (with_potential (at_code left next) q) v d.mode d.offers ∷ [])
      in
      subst After rest (row.spawn stands d left says)

  pub spawn-stuck : {at : ℕ} {v : VarId} {f : ProcId} {args : Args} {next : CodeId}
      → StandsAtCode lists j (code.Spawn at v f args next)
      → ((d : ProcDecl) (left : Judgement) → ¬ (Spawns lists no_amounts j v f args d left)) → NoRow lists j
  spawn-stuck {at} {v} {f} {args} {next} stands none after steps =
      let (d, left, says, same) = row-inverted (code.Spawn at v f args next) stands steps in none d left says

  pub close-stuck : {at : ℕ} → StandsAtCode lists j (code.Close at) → ¬ (Closes lists j) → NoRow lists j
  close-stuck {at} stands none after steps = none (row-inverted (code.Close at) stands steps).0

  pub fwd-stuck : {at : ℕ} {v : VarId} → StandsAtCode lists j (code.Fwd at v) → ¬ (Forwards lists no_amounts j v)
      → NoRow lists j
  fwd-stuck {at} {v} stands none after steps = none (row-inverted (code.Fwd at v) stands steps).0

  pub call-stuck : {at : ℕ} {f : ProcId} {args : Args} → StandsAtCode lists j (code.Call at f args)
      → ¬ (Calls lists no_amounts j f args) → NoRow lists j
  call-stuck {at} {f} {args} stands none after steps = none (row-inverted (code.Call at f args) stands steps).0

  pub wait-stuck : {at : ℕ} {v : VarId} {next : CodeId} → StandsAtCode lists j (code.Wait at v next)
      → ¬ (HasType lists j (chan.Var v) node.One) → NoRow lists j
  wait-stuck {at} {v} {next} stands none after steps = none (row-inverted (code.Wait at v next) stands steps).0

  -- ---- values

  pub let-stuck : {at : ℕ} {v : VarId} {e : TermId} {next : CodeId} → StandsAtCode lists j (code.Let at v e next)
      → ((kind : Kind) → HasKind lists j.kinds e kind → IsFree j v → ⊥) → NoRow lists j
  let-stuck {at} {v} {e} {next} stands none after steps =
      let (kind, says, free, same) = row-inverted (code.Let at v e next) stands steps in none kind says free

  pub emit-stuck : {at : ℕ} {e : TermId} {next : CodeId} → StandsAtCode lists j (code.Emit at e next)
      → ((kind : Kind) → ¬ (HasKind lists j.kinds e kind)) → NoRow lists j
  emit-stuck {at} {e} {next} stands none after steps =
      let (kind, says, same) = row-inverted (code.Emit at e next) stands steps in none kind says

  pub choose-stuck : {at : ℕ} {e : TermId} {then_next else_next : CodeId}
      → StandsAtCode lists j (code.If at e then_next else_next) → ¬ (HasKind lists j.kinds e bool_kind) → NoRow lists j
  choose-stuck {at} {e} {then_next} {else_next} stands none after steps =
      none (row-inverted (code.If at e then_next else_next) stands steps).0

  -- ---- lists that carry potential

  pub empty-steps : {at : ℕ} {v : VarId} {r : Amount} {kind : Kind} {next : CodeId}
      → StandsAtCode lists j (code.Empty at v r kind next) → IsFree j v
      → TypingRule lists no_amounts j (binds_list (at_code j next) v (record { kind = kind; amount = 0 }) ∷ [])
  empty-steps {at} {v} {r} {kind} {next} stands free =
      let After : ℕ → Type 0 =
      λ q. TypingRule lists no_amounts j (binds_list (at_code j next) v (record { kind = kind; amount = q }) ∷ [])
      in
      subst After (no_dths r) (row.empty stands free)

  pub empty-stuck : {at : ℕ} {v : VarId} {r : Amount} {kind : Kind} {next : CodeId}
      → StandsAtCode lists j (code.Empty at v r kind next) → ¬ (IsFree j v) → NoRow lists j
  empty-stuck {at} {v} {r} {kind} {next} stands none after steps =
      none (row-inverted (code.Empty at v r kind next) stands steps).0

  pub add-steps : {at : ℕ} {v : VarId} {e : TermId} {w : VarId} {next : CodeId}
      → StandsAtCode lists j (code.Add at v e w next) → (list : ListType) → Adds lists j v e w list → list.amount ≡ 0
      → TypingRule lists no_amounts j (binds_list (without_list j w next) v list ∷ [])
  add-steps {at} {v} {e} {w} {next} stands list says nothing =
      let rest : j.q - list.amount ≡ j.q = omega arith in
      let After : ℕ → Type 0 =
      λ q. TypingRule lists no_amounts j (with_potential (binds_list (without_list j w next) v list) q ∷ [])
      in
      subst After rest (row.add stands list says)

  pub add-stuck : {at : ℕ} {v : VarId} {e : TermId} {w : VarId} {next : CodeId}
      → StandsAtCode lists j (code.Add at v e w next) → ((list : ListType) → ¬ (Adds lists j v e w list))
      → NoRow lists j
  add-stuck {at} {v} {e} {w} {next} stands none after steps =
      let (list, says, same) = row-inverted (code.Add at v e w next) stands steps in none list says

  pub match-steps : {at : ℕ} {w head tail : VarId} {empty_next full_next : CodeId}
      → StandsAtCode lists j (code.Match at w empty_next head tail full_next) → (list : ListType)
      → TakesApart j w head tail list → list.amount ≡ 0
      → TypingRule lists no_amounts j (without_list j w empty_next ∷ takes_parts j w head tail list full_next ∷ [])
  match-steps {at} {w} {head} {tail} {empty_next} {full_next} stands list says nothing =
      let rest : j.q + list.amount ≡ j.q = omega arith in
      let full = takes_parts j w head tail list full_next in
      let After : ℕ → Type 0 =
      λ q. TypingRule lists no_amounts j (without_list j w empty_next ∷ with_potential full q ∷ [])
      in
      subst After rest (row.match stands list says)

  pub match-stuck : {at : ℕ} {w head tail : VarId} {empty_next full_next : CodeId}
      → StandsAtCode lists j (code.Match at w empty_next head tail full_next)
      → ((list : ListType) → ¬ (TakesApart j w head tail list)) → NoRow lists j
  match-stuck {at} {w} {head} {tail} {empty_next} {full_next} stands none after steps =
      let (list, says, same) = row-inverted (code.Match at w empty_next head tail full_next) stands steps in
      none list says
