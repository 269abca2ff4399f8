-- What a row goes on with are judgements.
use Rattle.std.proofs.Common.{◌≡◌, ◌≢◌, ◌-◌, ◌<◌, length, inl, inr, ℕ, ◌+◌, IsTrue, List, [], ◌∷◌, All, Contains, Option, Some, slice_get, subst, ap, sym, refl, arith}
use Rattle.std.proofs.lemmas.List.Elements.{All-nil, All-cons, All-contains}
use Rattle.std.proofs.lemmas.Option.{slice_get_within}
use Rattle.nomos_ir.specs.declared.code_node.Arm.{Arm}
use Rattle.nomos_ir.specs.declared.code_node.Chan.{Chan}
use Rattle.nomos_ir.specs.declared.code_node.Chan.TheVariants as chan
use Rattle.nomos_ir.specs.declared.declaration.ProcDecl.{ProcDecl}
use Rattle.nomos_ir.specs.declared.ids.TypeId.{TypeId}
use Rattle.nomos_ir.specs.declared.ids.VarId.{VarId}
use Rattle.nomos_ir.specs.declared.lists.ProgramLists.{ProgramLists}
use Rattle.nomos_ir.specs.declared.mode.Mode.{Mode}
use Rattle.nomos_ir.specs.declared.mode.Mode.TheVariants as mode
use Rattle.nomos_ir.specs.declared.type_node.Branch.{Branch}
use Rattle.nomos_ir.specs.declared.type_node.TypeNode.{TypeNode}
use Rattle.nomos_ir.specs.declared.type_node.TypeNode.TheVariants as node
use Rattle.nomos_ir.specs.Bindings.{bound_to, unbind}
use Rattle.nomos_ir.specs.Unfold.{Unfolds, constructor, name}
use Rattle.nomos_ir.proofs.BindingLaws.{all-bound}
use Rattle.nomos_ir.proofs.NodeLaws.{type_node-at}
use Rattle.nomos_types.specs.Amount.{Annotations, dths}
use Rattle.nomos_types.specs.Derivation.{Follows}
use Rattle.nomos_types.specs.Derivation as derivation
use Rattle.nomos_types.specs.Judgement.{Judgement, start_of, count_one, IsFree, IsJudgement, channel_type, ListType, at_code, goes_on, with_potential, binds_value, binds_list, binds_channel}
use Rattle.nomos_types.specs.Premises.{by_side, HasType, ArmsGoOn, none, arm}
use Rattle.nomos_types.specs.Modes.{HasMode, may_spawn, part_modes, carried_mode}
use Rattle.nomos_types.specs.TypingRule.{gives_up, TypingRule, label, case, send, recv, put, take, pay, get, work, wait, accept, detach, acquire, release, spawn, «let», emit, choose, close, fwd, call, empty, add, match}
use Rattle.nomos_types.specs.Typed.{IsWellFormed}
use Rattle.nomos_types.proofs.AlikeLaws.{IsCarriedMode, carried-is_carried}
use Rattle.nomos_types.proofs.ArgumentsLaws.{passes-channel_left, arguments-left, left-goes_on}
use Rattle.nomos_types.proofs.JudgementParts.{others_with, count-other, count-unbind, IsLinearType, MayCome, placed-elsewhere, taken-over, value-bound, list-bound, channel-bound, linear-unbound, list-unbound, MayGoOn, gone-on, free-gone_on}
use Rattle.nomos_types.proofs.StartLaws.{start-is_judgement}
use Rattle.nomos_types.proofs.ModeLaws.{mode-unique, mode-exists, part-has_mode, branch-among, offered-has_mode}

-- ---- modes

-- what is carried may come
carried-comes : (m : Mode) → IsCarriedMode m → MayCome m
carried-comes m (inl at_s) = subst (λ (k : Mode). MayCome k) (sym at_s) tt
carried-comes m (inr at_r) =
    let may : MayCome mode.R = inl refl in
    subst (λ (k : Mode). MayCome k) (sym at_r) may

-- what is spawned has a mode of what is carried
pub spawned-carried : (holder m : Mode) → IsTrue (may_spawn holder m) → IsCarriedMode m
spawned-carried holder mode.S may = inl refl
spawned-carried holder mode.R may = inr refl
spawned-carried mode.R mode.L may = absurd cc
spawned-carried mode.S mode.L may = absurd cc
spawned-carried mode.L mode.L may = absurd cc
spawned-carried mode.T mode.L may = absurd cc
spawned-carried mode.R mode.T may = absurd cc
spawned-carried mode.S mode.T may = absurd cc
spawned-carried mode.L mode.T may = absurd cc
spawned-carried mode.T mode.T may = absurd cc

-- ---- channels

-- what unfolds is a type node
unfolds-in_range : (lists : ProgramLists) (t : ℕ) (n : TypeNode) → Unfolds lists t n → t < length lists.types
unfolds-in_range lists t n (constructor _ _ there no_name) =
    let at = type_node-at lists t n there in
    slice_get_within lists.types t at.0 at.1
unfolds-in_range lists t n (name _ id def _ there found unfolds) =
    let at = type_node-at lists t (node.Named id) there in
    slice_get_within lists.types t at.0 at.1

module _ {lists : ProgramLists} (formed : IsWellFormed lists) where
  -- a channel that is used exactly once has such a type, and its variable is in no other map
  channel-linear : {j : Judgement} → IsJudgement lists j → (v : VarId) (s : TypeId) → bound_to v.0 j.linear ≡ Some s
      → (others_with j v.0 ≡ 0) × IsLinearType lists s
  channel-linear {j} h v s found =
      let here : count_one (bound_to v.0 j.linear) ≡ 1 = ap (λ (o : Option TypeId). count_one o) found in
      (omega (arith, h.apart v.0), all-bound (IsLinearType lists) v.0 s j.linear h.linear_modes found)

  -- a part of what a channel's type unfolds to has the mode that it has as a part at the channel's mode
  pub part-mode : {t u : TypeId} {m : Mode} {n : TypeNode} → (k : Mode) → HasMode lists t m → Unfolds lists t.0 n
      → Contains (part_modes lists m n) (u, k) → HasMode lists u k
  part-mode k there unfolds among = part-has_mode formed.program formed.contractive formed.modes there unfolds among

  -- a channel goes on at a part that has the channel's mode
  pub onward-has_mode : (j : Judgement) (c : Chan) (own client : TypeNode) (t : TypeId)
      → (channel : HasType lists j c (by_side c own client))
      → ((m : Mode) → Contains (part_modes lists m own) (t, m))
      → ((m : Mode) → Contains (part_modes lists m client) (t, m))
      → (m : Mode) → HasMode lists channel.0 m → HasMode lists t m
  onward-has_mode j chan.Own own client t (s, found, unfolds) own_part client_part m its_mode =
      part-mode m its_mode unfolds (own_part m)
  onward-has_mode j (chan.Var v) own client t (s, found, unfolds) own_part client_part m its_mode =
      part-mode m its_mode unfolds (client_part m)

  -- it may do so
  may-go_on : {j : Judgement} → IsJudgement lists j → (c : Chan) (s t : TypeId) → channel_type j c ≡ Some s
      → ((m : Mode) → HasMode lists s m → HasMode lists t m) → MayGoOn lists j c t
  may-go_on h chan.Own s t found goes = tt
  may-go_on h (chan.Var v) s t found goes =
      let (no_other, (m, its_mode, linear)) = channel-linear h v s found in
      (no_other, (m, goes m its_mode, linear))

  -- what is carried over a channel, for a pair of dual nodes that carry it first, is carried at its mode
  pub carried-over : (j : Judgement) (c : Chan) (own client : TypeNode) (a : TypeId) (k : Mode)
      → HasType lists j c (by_side c own client)
      → ((m : Mode) → Contains (part_modes lists m own) (a, carried_mode lists m a))
      → ((m : Mode) → Contains (part_modes lists m client) (a, carried_mode lists m a)) → HasMode lists a k
      → IsCarriedMode k
  carried-over j chan.Own own client a k (s, found, unfolds) own_part client_part there =
      let (m, its_mode) = mode-exists lists s formed.program (unfolds-in_range lists s.0 own unfolds) in
      let carried = part-mode (carried_mode lists m a) its_mode unfolds (own_part m) in
      subst IsCarriedMode (mode-unique formed.program carried there) (carried-is_carried lists m a)
  carried-over j (chan.Var v) own client a k (s, found, unfolds) own_part client_part there =
      let (m, its_mode) = mode-exists lists s formed.program (unfolds-in_range lists s.0 client unfolds) in
      let carried = part-mode (carried_mode lists m a) its_mode unfolds (client_part m) in
      subst IsCarriedMode (mode-unique formed.program carried there) (carried-is_carried lists m a)

  -- ---- rows

  -- one judgement that is one
  single-judgement : (j : Judgement) → IsJudgement lists j → All (IsJudgement lists) (j ∷ [])
  single-judgement j h = All-cons (IsJudgement lists) j [] h (All-nil (IsJudgement lists))

  -- the arms go on at judgements
  arms-keep : {j : Judgement} → (c : Chan) (branches : List Branch) → IsJudgement lists j
      → HasType lists j c (by_side c (node.With branches) (node.Plus branches))
      → {arms : List Arm} {after : List Judgement} → ArmsGoOn j c branches arms after → All (IsJudgement lists) after
  arms-keep c branches h channel none = All-nil (IsJudgement lists)
  arms-keep {j} c branches h channel (arm {a = a} {after = after} t goes rest) =
      let among = λ (m : Mode). branch-among m branches a.label t goes in
      let may = may-go_on h c channel.0 t channel.1
      (onward-has_mode j c (node.With branches) (node.Plus branches) t channel among among) in
      let others = arms-keep c branches h channel rest in
      All-cons (IsJudgement lists) (goes_on j c t a.goes) after (gone-on h c t a.goes may) others

  -- each judgement with which a row goes on is one
  pub row-keeps_judgement : {x : Annotations} {j : Judgement} {after : List Judgement} → IsJudgement lists j
      → TypingRule lists x j after → All (IsJudgement lists) after
  row-keeps_judgement {j = j} h (label {c = c} {l = l} {next = next} stands t says) =
      let bs = says.branches in
      let among = λ (m : Mode). branch-among m bs l t says.goes in
      let goes = onward-has_mode j c (node.Plus bs) (node.With bs) t says.channel among among in
      let may = may-go_on h c says.channel.0 t says.channel.1 goes in
      single-judgement (goes_on j c t next) (gone-on h c t next may)
  row-keeps_judgement h (case {c = c} stands after says) = arms-keep c says.branches h says.channel says.each_arm
  row-keeps_judgement {j = j} h (send {c = c} {next = next} stands left t says) =
      let own = node.Tensor says.carried t in
      let client = node.Lolli says.carried t in
      let goes =
      onward-has_mode j c own client t says.channel (λ m. (1, omega arith, refl)) (λ m. (1, omega arith, refl))
      in
      let may = may-go_on h c says.channel.0 t says.channel.1 goes in
      let after = passes-channel_left h says.passes in
      single-judgement (goes_on left c t next) (gone-on after.judgement c t next (left-goes_on after c t may))
  row-keeps_judgement {j = j} h (recv {c = c} {y = y} {next = next} stands m carried t says) =
      let own = node.Lolli carried t in
      let client = node.Tensor carried t in
      let goes =
      onward-has_mode j c own client t says.channel (λ m. (1, omega arith, refl)) (λ m. (1, omega arith, refl))
      in
      let may = may-go_on h c says.channel.0 t says.channel.1 goes in
      let carried_at =
      carried-over j c own client carried m says.channel (λ m. (0, omega arith, refl)) (λ m. (0, omega arith, refl))
      says.mode
      in
      let after = goes_on j c t next in
      let free = free-gone_on h c says.channel.0 t next y says.channel.1 says.free in
      let comes = carried-comes m carried_at in
      single-judgement (binds_channel after y m carried)
      (channel-bound (gone-on h c t next may) y m carried free says.mode comes)
  row-keeps_judgement {j = j} h (put {c = c} {next = next} stands t says) =
      let own = node.ValueOut says.kind t in
      let client = node.ValueIn says.kind t in
      let goes =
      onward-has_mode j c own client t says.channel (λ m. (0, omega arith, refl)) (λ m. (0, omega arith, refl))
      in
      let may = may-go_on h c says.channel.0 t says.channel.1 goes in
      single-judgement (goes_on j c t next) (gone-on h c t next may)
  row-keeps_judgement {j = j} h (take {c = c} {v = v} {next = next} stands kind t says) =
      let own = node.ValueIn kind t in
      let client = node.ValueOut kind t in
      let goes =
      onward-has_mode j c own client t says.channel (λ m. (0, omega arith, refl)) (λ m. (0, omega arith, refl))
      in
      let may = may-go_on h c says.channel.0 t says.channel.1 goes in
      let free = free-gone_on h c says.channel.0 t next v says.channel.1 says.free in
      single-judgement (binds_value (goes_on j c t next) v kind) (value-bound (gone-on h c t next may) v kind free)
  row-keeps_judgement {x = x} {j = j} h (pay {c = c} {r = r} {next = next} stands t says) =
      let own = node.PotOut says.amount t in
      let client = node.PotIn says.amount t in
      let goes =
      onward-has_mode j c own client t says.channel (λ m. (0, omega arith, refl)) (λ m. (0, omega arith, refl))
      in
      let may = may-go_on h c says.channel.0 t says.channel.1 goes in
      let after = goes_on j c t next in
      let q = j.q - dths x r in
      single-judgement (with_potential after q) (placed-elsewhere (gone-on h c t next may) q after.code)
  row-keeps_judgement {x = x} {j = j} h (get {c = c} {r = r} {next = next} stands t says) =
      let own = node.PotIn says.amount t in
      let client = node.PotOut says.amount t in
      let goes =
      onward-has_mode j c own client t says.channel (λ m. (0, omega arith, refl)) (λ m. (0, omega arith, refl))
      in
      let may = may-go_on h c says.channel.0 t says.channel.1 goes in
      let after = goes_on j c t next in
      let q = j.q + dths x r in
      single-judgement (with_potential after q) (placed-elsewhere (gone-on h c t next may) q after.code)
  row-keeps_judgement {x = x} {j = j} h (work {r = r} {next = next} stands enough) =
      let q = j.q - dths x r in
      single-judgement (with_potential (at_code j next) q) (placed-elsewhere h q next)
  row-keeps_judgement {j = j} h (wait {v = v} {next = next} stands channel) =
      single-judgement (at_code (gives_up j v) next) (placed-elsewhere (linear-unbound h v.0) j.q next)
  row-keeps_judgement {j = j} h (accept {next = next} stands t says) =
      single-judgement (record j { mode = mode.L; offers = t; code = next })
      (placed-elsewhere (taken-over h mode.L t) j.q next)
  row-keeps_judgement {j = j} h (detach {next = next} stands t says) =
      single-judgement (record j { mode = mode.S; offers = t; code = next })
      (placed-elsewhere (taken-over h mode.S t) j.q next)
  row-keeps_judgement {j = j} h (acquire {a = a} {v = v} {next = next} stands t says) =
      let AtS : TypeId → Type 0 = λ s. HasMode lists s mode.S in
      let shared = all-bound AtS a.0 says.own j.shared h.shared_modes says.reference in
      let its_mode = part-mode mode.L shared says.unfolds (0, omega arith, refl) in
      let bound = channel-bound (placed-elsewhere h j.q next) v mode.L t says.free its_mode (inr refl) in
      single-judgement (binds_channel (at_code j next) v mode.L t) bound
  row-keeps_judgement {j = j} h (release {v = v} {a = a} {next = next} stands t says) =
      let (s, found, unfolds) = says.channel in
      let linear = (channel-linear h v s found).1 in
      let its_mode = part-mode mode.S linear.1 unfolds (0, omega arith, refl) in
      let after = at_code (gives_up j v) next in
      let free : IsFree after a = omega (arith, count-unbind a.0 v.0 j.linear h.linear, says.free) in
      let there : IsJudgement lists after = placed-elsewhere (linear-unbound h v.0) j.q next in
      single-judgement (binds_channel after a mode.S t) (channel-bound there a mode.S t free its_mode tt)
  row-keeps_judgement {x = x} {j = j} h (spawn {v = v} {f = f} {next = next} stands d left says) =
      let rest = arguments-left h says.arguments in
      let q = j.q - dths x d.amount in
      let after = with_potential (at_code left next) q in
      let free : IsFree after v = omega (arith, rest.parts v.0, says.free) in
      let MaySpawn : Mode → Type 0 = λ m. IsTrue (may_spawn m d.mode) in
      let may : MaySpawn left.mode = subst MaySpawn (sym rest.mode) says.mode in
      let its_mode = offered-has_mode lists f.0 d says.declared in
      let comes = carried-comes d.mode (spawned-carried left.mode d.mode may) in
      let there : IsJudgement lists after = placed-elsewhere rest.judgement q next in
      single-judgement (binds_channel after v d.mode d.offers)
      (channel-bound there v d.mode d.offers free its_mode comes)
  row-keeps_judgement {j = j} h («let» {v = v} {next = next} stands kind says free) =
      single-judgement (binds_value (at_code j next) v kind) (value-bound (placed-elsewhere h j.q next) v kind free)
  row-keeps_judgement {j = j} h (emit {next = next} stands kind says) =
      single-judgement (at_code j next) (placed-elsewhere h j.q next)
  row-keeps_judgement {j = j} h (choose {then_next = then_next} {else_next = else_next} stands says) =
      All-cons (IsJudgement lists) (at_code j then_next) (at_code j else_next ∷ []) (placed-elsewhere h j.q then_next)
      (single-judgement (at_code j else_next) (placed-elsewhere h j.q else_next))
  row-keeps_judgement h (close stands says) = All-nil (IsJudgement lists)
  row-keeps_judgement h (fwd stands says) = All-nil (IsJudgement lists)
  row-keeps_judgement h (call stands says) = All-nil (IsJudgement lists)
  row-keeps_judgement {x = x} {j = j} h (empty {v = v} {r = r} {kind = kind} {next = next} stands free) =
      let list : ListType = record { kind = kind; amount = dths x r } in
      single-judgement (binds_list (at_code j next) v list) (list-bound (placed-elsewhere h j.q next) v list free)
  row-keeps_judgement {j = j} h (add {v = v} {w = w} {next = next} stands list says) =
      let after : Judgement = record (at_code j next) { lists = unbind w.0 j.lists } in
      let there : IsJudgement lists after = placed-elsewhere (list-unbound h w.0) j.q next in
      let free : IsFree after v = omega (arith, count-unbind v.0 w.0 j.lists h.lists_ascend, says.free) in
      let q = j.q - list.amount in
      single-judgement (with_potential (binds_list after v list) q)
      (placed-elsewhere (list-bound there v list free) q next)
  row-keeps_judgement {j = j} h (match {w = w} {head = head} {tail = tail} {empty_next = empty_next}
      {full_next = full_next} stands list says) =
      let ended : Judgement = record (at_code j empty_next) { lists = unbind w.0 j.lists } in
      let after : Judgement = record (at_code j full_next) { lists = unbind w.0 j.lists } in
      let there : IsJudgement lists after = placed-elsewhere (list-unbound h w.0) j.q full_next in
      let tail_kept = count-unbind tail.0 w.0 j.lists h.lists_ascend in
      let tail_free : IsFree after tail = omega (arith, says.tail_free) in
      let with_tail : IsJudgement lists (binds_list after tail list) = list-bound there tail list tail_free in
      let other : head.0 ≢ tail.0 = λ same. says.differ (ap (λ (n : ℕ). let v : VarId = record { 0 = n } in v) same) in
      let head_kept = count-unbind head.0 w.0 j.lists h.lists_ascend in
      let head_other = count-other head.0 tail list (unbind w.0 j.lists) other in
      let head_free : IsFree (binds_list after tail list) head = omega (arith, says.head_free) in
      let q = j.q + list.amount in
      let full : Judgement = with_potential (binds_value (binds_list after tail list) head list.kind) q in
      let full_there : IsJudgement lists full = placed-elsewhere (value-bound with_tail head list.kind head_free) q
      full_next in
      All-cons (IsJudgement lists) ended (full ∷ []) (placed-elsewhere (list-unbound h w.0) j.q empty_next)
      (single-judgement full full_there)

  -- each judgement that follows from one is one
  pub follows-from_judgement : {x : Annotations} {i j : Judgement} → IsJudgement lists i → Follows lists x i j
      → IsJudgement lists j
  follows-from_judgement h derivation.first = h
  follows-from_judgement {x} {i} h (derivation.next {k = k} after before row among) =
      All-contains (IsJudgement lists) after k (row-keeps_judgement (follows-from_judgement h before) row) among

-- each judgement that follows from the start of a declaration is one
pub follows-is_judgement : {lists : ProgramLists} {d : ProcDecl} {j : Judgement} → (x : Annotations) (p : ℕ)
    → IsWellFormed lists → slice_get lists.procs p ≡ Some d → Follows lists x (start_of lists x d) j
    → IsJudgement lists j
follows-is_judgement x p formed found follows =
    follows-from_judgement formed (start-is_judgement x p formed found) follows
