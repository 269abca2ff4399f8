-- Where a judgement suits its mode, so do those with which a row goes on.
use Rattle.std.proofs.Common.{◌≡◌, ◌-◌, ◌⊎◌, ℕ, Some, inl, inr, ◌+◌, IsTrue, List, [], ◌∷◌, All, Contains, slice_get, subst, sym, refl, arith}
use Rattle.std.proofs.lemmas.List.Elements.{All-nil, All-cons, All-contains}
use Rattle.nomos_ir.proofs.BindingLaws.{all-bound}
use Rattle.nomos_ir.specs.declared.code_node.Arm.{Arm}
use Rattle.nomos_ir.specs.declared.code_node.Chan.{Chan}
use Rattle.nomos_ir.specs.declared.declaration.ProcDecl.{ProcDecl}
use Rattle.nomos_ir.specs.declared.ids.CodeId.{CodeId}
use Rattle.nomos_ir.specs.declared.ids.TypeId.{TypeId}
use Rattle.nomos_ir.specs.declared.lists.ProgramLists.{ProgramLists}
use Rattle.nomos_ir.specs.declared.mode.Mode.{Mode}
use Rattle.nomos_ir.specs.declared.mode.Mode.TheVariants as mode
use Rattle.nomos_ir.specs.declared.type_node.Branch.{Branch}
use Rattle.nomos_ir.specs.declared.type_node.TypeNode.{TypeNode}
use Rattle.nomos_ir.specs.declared.type_node.TypeNode.TheVariants as node
use Rattle.nomos_types.proofs.AlikeLaws.{IsCarriedMode}
use Rattle.nomos_types.proofs.ArgumentsLaws.{passes-channel_left, arguments-left}
use Rattle.nomos_types.proofs.JudgementLaws.{spawned-carried, part-mode, onward-has_mode, carried-over, follows-from_judgement}
use Rattle.nomos_types.proofs.JudgementParts.{MayBeHeld, MayBeTaken, MayGoAt, suits-channel, suits-unbound, suits-gone_on, may-go_at}
use Rattle.nomos_types.proofs.ModeLaws.{branch-among, offered-has_mode}
use Rattle.nomos_types.proofs.StartLaws.{start-is_judgement, start-suits_mode}
use Rattle.nomos_types.specs.Amount.{Annotations, dths}
use Rattle.nomos_types.specs.Derivation.{Follows}
use Rattle.nomos_types.specs.Derivation as derivation
use Rattle.nomos_types.specs.Judgement.{Judgement, start_of, IsJudgement, SuitsMode, at_code, goes_on, with_potential, binds_value, binds_channel}
use Rattle.nomos_types.specs.Modes.{HasMode, IsLinearMode, may_hold, may_spawn, part_modes}
use Rattle.nomos_types.specs.Premises.{by_side, HasType, ArmsGoOn, none, arm}
use Rattle.nomos_types.specs.TypingRule.{gives_up, without_list, takes_parts, TypingRule, label, case, send, recv, put, take, pay, get, work, wait, accept, detach, acquire, release, spawn, «let», emit, choose, close, fwd, call, empty, add, match}
use Rattle.nomos_types.specs.Typed.{IsWellFormed}

-- ---- modes

-- every process may hold a channel at R
holds-r : (m : Mode) → IsTrue (may_hold m mode.R)
holds-r mode.R = refl
holds-r mode.S = refl
holds-r mode.L = refl
holds-r mode.T = refl

-- a process at L may hold each channel that is used exactly once
l-holds : (m : Mode) → IsLinearMode m → IsTrue (may_hold mode.L m)
l-holds mode.R linear = refl
l-holds mode.S linear = refl
l-holds mode.L linear = refl
l-holds mode.T (inl at_r) = absurd cc
l-holds mode.T (inr at_l) = absurd cc

-- what is carried may be taken
carried-taken : (holder m : Mode) → IsCarriedMode m → MayBeTaken holder m
carried-taken holder m (inl at_s) = subst (λ (k : Mode). MayBeTaken holder k) (sym at_s) tt
carried-taken holder m (inr at_r) = subst (λ (k : Mode). MayBeTaken holder k) (sym at_r) (holds-r holder)

-- a client that may acquire may hold what it acquires
acquired-taken : (holder : Mode) → (holder ≡ mode.L) ⊎ (holder ≡ mode.T) → MayBeTaken holder mode.L
acquired-taken holder (inl at_l) = subst (λ (k : Mode). IsTrue (may_hold k mode.L)) (sym at_l) refl
acquired-taken holder (inr at_t) = subst (λ (k : Mode). IsTrue (may_hold k mode.L)) (sym at_t) refl

-- what is spawned may be taken
spawned-taken : (holder m : Mode) → IsTrue (may_spawn holder m) → MayBeTaken holder m
spawned-taken holder m may = carried-taken holder m (spawned-carried holder m may)

-- ---- rows

module _ {lists : ProgramLists} (formed : IsWellFormed lists) where
  -- one judgement that suits its mode
  single-suits : (j : Judgement) → SuitsMode lists j → All (SuitsMode lists) (j ∷ [])
  single-suits j s = All-cons (SuitsMode lists) j [] s (All-nil (SuitsMode lists))

  -- the arms go on so
  arms-suit : {j : Judgement} → (c : Chan) (branches : List Branch) → SuitsMode lists j
      → HasType lists j c (by_side c (node.With branches) (node.Plus branches))
      → {arms : List Arm} {after : List Judgement} → ArmsGoOn j c branches arms after → All (SuitsMode lists) after
  arms-suit c branches s channel none = All-nil (SuitsMode lists)
  arms-suit {j} c branches s channel (arm {a = a} {after = after} t goes rest) =
      let among = λ (m : Mode). branch-among m branches a.label t goes in
      let may = may-go_at s c channel.0 t channel.1
      (onward-has_mode formed j c (node.With branches) (node.Plus branches) t channel among among) in
      All-cons (SuitsMode lists) (goes_on j c t a.goes) after (suits-gone_on s c t a.goes may)
      (arms-suit c branches s channel rest)

  -- a channel goes on at the part of its node that it is said to
  goes-suits : {j : Judgement} → SuitsMode lists j → (c : Chan) (own client : TypeNode) (t : TypeId) (next : CodeId)
      → HasType lists j c (by_side c own client) → ((m : Mode) → Contains (part_modes lists m own) (t, m))
      → ((m : Mode) → Contains (part_modes lists m client) (t, m)) → SuitsMode lists (goes_on j c t next)
  goes-suits {j} s c own client t next channel own_part client_part =
      suits-gone_on s c t next
      (may-go_at s c channel.0 t channel.1 (onward-has_mode formed j c own client t channel own_part client_part))

  -- each judgement with which a row goes on suits its mode
  pub row-keeps_mode : {x : Annotations} {j : Judgement} {after : List Judgement} → IsJudgement lists j
      → SuitsMode lists j → TypingRule lists x j after → All (SuitsMode lists) after
  row-keeps_mode {j = j} h s (label {c = c} {l = l} {next = next} stands t says) =
      let bs = says.branches in
      let among = λ (m : Mode). branch-among m bs l t says.goes in
      single-suits (goes_on j c t next) (goes-suits s c (node.Plus bs) (node.With bs) t next says.channel among among)
  row-keeps_mode h s (case {c = c} stands after says) = arms-suit c says.branches s says.channel says.each_arm
  row-keeps_mode {j = j} h s (send {c = c} {next = next} stands left t says) =
      let own = node.Tensor says.carried t in
      let client = node.Lolli says.carried t in
      let may = may-go_at s c says.channel.0 t says.channel.1
      (onward-has_mode formed j c own client t says.channel (λ m. (1, omega arith, refl))
      (λ m. (1, omega arith, refl))) in
      let rest = passes-channel_left h says.passes in
      let may_left = subst (λ (m : Mode). MayGoAt lists m c t) (sym rest.mode) may in
      single-suits (goes_on left c t next) (suits-gone_on (rest.suits s) c t next may_left)
  row-keeps_mode {j = j} h s (recv {c = c} {y = y} {next = next} stands m carried t says) =
      let own = node.Lolli carried t in
      let client = node.Tensor carried t in
      let gone = goes-suits s c own client t next says.channel (λ n. (1, omega arith, refl))
      (λ n. (1, omega arith, refl)) in
      let carried_at =
      carried-over formed j c own client carried m says.channel (λ n. (0, omega arith, refl))
      (λ n. (0, omega arith, refl)) says.mode
      in
      let after = goes_on j c t next in
      single-suits (binds_channel after y m carried)
      (suits-channel gone y m carried says.mode (carried-taken after.mode m carried_at))
  row-keeps_mode {j = j} h s (put {c = c} {next = next} stands t says) =
      single-suits (goes_on j c t next)
      (goes-suits s c (node.ValueOut says.kind t) (node.ValueIn says.kind t) t next says.channel
      (λ m. (0, omega arith, refl)) (λ m. (0, omega arith, refl)))
  row-keeps_mode {j = j} h s (take {c = c} {v = v} {next = next} stands kind t says) =
      let gone = goes-suits s c (node.ValueIn kind t) (node.ValueOut kind t) t next says.channel
      (λ m. (0, omega arith, refl)) (λ m. (0, omega arith, refl)) in
      single-suits (binds_value (goes_on j c t next) v kind) (record { held = gone.held; offers = gone.offers })
  row-keeps_mode {x = x} {j = j} h s (pay {c = c} {r = r} {next = next} stands t says) =
      let gone = goes-suits s c (node.PotOut says.amount t) (node.PotIn says.amount t) t next says.channel
      (λ m. (0, omega arith, refl)) (λ m. (0, omega arith, refl)) in
      single-suits (with_potential (goes_on j c t next) (j.q - dths x r))
      (record { held = gone.held; offers = gone.offers })
  row-keeps_mode {x = x} {j = j} h s (get {c = c} {r = r} {next = next} stands t says) =
      let gone = goes-suits s c (node.PotIn says.amount t) (node.PotOut says.amount t) t next says.channel
      (λ m. (0, omega arith, refl)) (λ m. (0, omega arith, refl)) in
      single-suits (with_potential (goes_on j c t next) (j.q + dths x r))
      (record { held = gone.held; offers = gone.offers })
  row-keeps_mode {x = x} {j = j} h s (work {r = r} {next = next} stands enough) =
      single-suits (with_potential (at_code j next) (j.q - dths x r)) (record { held = s.held; offers = s.offers })
  row-keeps_mode {j = j} h s (wait {v = v} {next = next} stands channel) =
      let without = suits-unbound s v.0 in
      single-suits (at_code (gives_up j v) next) (record { held = without.held; offers = without.offers })
  row-keeps_mode {j = j} h s (accept {next = next} stands t says) =
      let (u, found, unfolds) = says.channel in
      let same : j.offers ≡ u = cc in
      let at : HasMode lists u j.mode = subst (λ (r : TypeId). HasMode lists r j.mode) same s.offers in
      let held : All (λ b. MayBeHeld lists mode.L b.1) j.linear =
      λ k d inside. let (m, there, linear) = h.linear_modes k d inside in (m, there, l-holds m linear)
      in
      single-suits (record j { mode = mode.L; offers = t; code = next })
      (record { held = held; offers = part-mode formed mode.L at unfolds (0, omega arith, refl) })
  row-keeps_mode {j = j} h s (detach {next = next} stands t says) =
      let (u, found, unfolds) = says.channel in
      let same : j.offers ≡ u = cc in
      let at : HasMode lists u j.mode = subst (λ (r : TypeId). HasMode lists r j.mode) same s.offers in
      let held : All (λ b. MayBeHeld lists mode.S b.1) j.linear =
      λ k d inside. (mode.R, says.nothing_held k d inside, refl)
      in
      single-suits (record j { mode = mode.S; offers = t; code = next })
      (record { held = held; offers = part-mode formed mode.S at unfolds (0, omega arith, refl) })
  row-keeps_mode {j = j} h s (acquire {a = a} {v = v} {next = next} stands t says) =
      let AtS : TypeId → Type 0 = λ u. HasMode lists u mode.S in
      let shared = all-bound AtS a.0 says.own j.shared h.shared_modes says.reference in
      let its_mode = part-mode formed mode.L shared says.unfolds (0, omega arith, refl) in
      let after : SuitsMode lists (at_code j next) = record { held = s.held; offers = s.offers } in
      single-suits (binds_channel (at_code j next) v mode.L t)
      (suits-channel after v mode.L t its_mode (acquired-taken j.mode says.mode))
  row-keeps_mode {j = j} h s (release {v = v} {a = a} {next = next} stands t says) =
      let without = suits-unbound s v.0 in
      single-suits (binds_channel (at_code (gives_up j v) next) a mode.S t)
      (record { held = without.held; offers = without.offers })
  row-keeps_mode {x = x} {j = j} h s (spawn {v = v} {f = f} {next = next} stands d left says) =
      let rest = arguments-left h says.arguments in
      let left_suits = rest.suits s in
      let after = with_potential (at_code left next) (j.q - dths x d.amount) in
      let after_suits : SuitsMode lists after = record { held = left_suits.held; offers = left_suits.offers } in
      let MaySpawn : Mode → Type 0 = λ m. IsTrue (may_spawn m d.mode) in
      let may : MaySpawn left.mode = subst MaySpawn (sym rest.mode) says.mode in
      single-suits (binds_channel after v d.mode d.offers)
      (suits-channel after_suits v d.mode d.offers (offered-has_mode lists f.0 d says.declared)
      (spawned-taken left.mode d.mode may))
  row-keeps_mode {j = j} h s («let» {v = v} {next = next} stands kind says free) =
      single-suits (binds_value (at_code j next) v kind) (record { held = s.held; offers = s.offers })
  row-keeps_mode {j = j} h s (emit {next = next} stands kind says) =
      single-suits (at_code j next) (record { held = s.held; offers = s.offers })
  row-keeps_mode {j = j} h s (choose {then_next = then_next} {else_next = else_next} stands says) =
      All-cons (SuitsMode lists) (at_code j then_next) (at_code j else_next ∷ [])
      (record { held = s.held; offers = s.offers })
      (single-suits (at_code j else_next) (record { held = s.held; offers = s.offers }))
  row-keeps_mode h s (close stands says) = All-nil (SuitsMode lists)
  row-keeps_mode h s (fwd stands says) = All-nil (SuitsMode lists)
  row-keeps_mode h s (call stands says) = All-nil (SuitsMode lists)
  row-keeps_mode h s (empty stands free) = single-suits _ (record { held = s.held; offers = s.offers })
  row-keeps_mode h s (add stands list says) = single-suits _ (record { held = s.held; offers = s.offers })
  row-keeps_mode {j = j} h s (match {w = w} {head = head} {tail = tail} {empty_next = empty_next}
      {full_next = full_next} stands list says) =
      let full = with_potential (takes_parts j w head tail list full_next) (j.q + list.amount) in
      All-cons (SuitsMode lists) (without_list j w empty_next) (full ∷ []) (record { held = s.held; offers = s.offers })
      (single-suits full (record { held = s.held; offers = s.offers }))

  -- each judgement that follows from one that suits its mode does so
  follows-from_suited : {x : Annotations} {i j : Judgement} → IsJudgement lists i → SuitsMode lists i
      → Follows lists x i j → SuitsMode lists j
  follows-from_suited h s derivation.first = s
  follows-from_suited {x} {i} h s (derivation.next {k = k} after before row among) =
      All-contains (SuitsMode lists) after k
      (row-keeps_mode (follows-from_judgement formed h before) (follows-from_suited h s before) row) among

-- each judgement that follows from the start of a declaration suits its mode
pub follows-suits_mode : {lists : ProgramLists} {d : ProcDecl} {j : Judgement} → (x : Annotations) (p : ℕ)
    → IsWellFormed lists → slice_get lists.procs p ≡ Some d → Follows lists x (start_of lists x d) j
    → SuitsMode lists j
follows-suits_mode x p formed found follows =
    follows-from_suited formed (start-is_judgement x p formed found) (start-suits_mode x p formed found) follows
