-- What keeps a judgement a judgement, and suited to its mode: another instruction or potential, another type offered, a
-- variable bound or unbound in one of its maps.
use Rattle.std.proofs.Common.{◌≡◌, ◌≢◌, ◌≤◌, inl, inr, ℕ, ◌+◌, IsTrue, List, Option, Some, None, subst, ap, sym, arith}
use Rattle.std.proofs.lemmas.Bool.{cases_eq}
use Rattle.nomos_ir.specs.declared.code_node.Chan.{Chan}
use Rattle.nomos_ir.specs.declared.code_node.Chan.TheVariants as chan
use Rattle.nomos_ir.specs.declared.ids.CodeId.{CodeId}
use Rattle.nomos_ir.specs.declared.ids.TypeId.{TypeId}
use Rattle.nomos_ir.specs.declared.ids.VarId.{VarId}
use Rattle.nomos_ir.specs.declared.kind.Kind.{Kind}
use Rattle.nomos_ir.specs.declared.lists.ProgramLists.{ProgramLists}
use Rattle.nomos_ir.specs.declared.mode.Mode.{Mode}
use Rattle.nomos_ir.specs.declared.mode.Mode.TheVariants as mode
use Rattle.nomos_ir.specs.Bindings.{bound_to, bind, unbind, IsAscending}
use Rattle.nomos_ir.proofs.BindingLaws.{bound-after_bind, bound-after_bind_other, bound-after_unbind, bound-after_unbind_other, bind-ascending, unbind-ascending, all-bound, all-after_bind, all-after_unbind, by-variable}
use Rattle.nomos_types.specs.Judgement.{Judgement, ListType, count_one, parts_with, IsFree, IsJudgement, SuitsMode, channel_type, goes_on, binds_value, binds_list, binds_channel}
use Rattle.nomos_types.specs.Modes.{HasMode, IsLinearMode, may_hold}

-- ---- in how many maps a variable is bound

-- in how many of the maps of values, lists and references it is bound
abbrev pub others_with : Judgement → ℕ → ℕ
others_with j v = count_one (bound_to v j.kinds) + count_one (bound_to v j.lists) + count_one (bound_to v j.shared)

count-bound : {X : Type 0} (v : VarId) (x : X) (b : List (VarId × X)) → count_one (bound_to v.0 (bind v x b)) ≡ 1
count-bound {X = X} v x b = ap (λ (o : Option X). count_one o) (bound-after_bind v x b)

pub count-other : {X : Type 0} (w : ℕ) (v : VarId) (x : X) (b : List (VarId × X)) → w ≢ v.0
    → count_one (bound_to w (bind v x b)) ≡ count_one (bound_to w b)
count-other {X = X} w v x b other = ap (λ (o : Option X). count_one o) (bound-after_bind_other w v x b other)

-- an unbound variable is bound in no more maps
pub count-unbind : {X : Type 0} (w v : ℕ) (b : List (VarId × X)) → IsAscending b
    → count_one (bound_to w (unbind v b)) ≤ count_one (bound_to w b)
count-unbind {X = X} w v b ascending =
    elim (cases_eq w v) [
      | inl same ↦
          let IsUnbound : ℕ → Type 0 = λ u. bound_to u (unbind v b) ≡ None in
          let none : IsUnbound w = subst IsUnbound (sym same) (bound-after_unbind v b ascending) in
          omega (arith, ap (λ (o : Option X). count_one o) none)
      | inr other ↦ omega (arith, ap (λ (o : Option X). count_one o) (bound-after_unbind_other w v b other))
    ]

-- ---- modes of channels

-- the type of a channel that is used exactly once
abbrev pub IsLinearType : ProgramLists → TypeId → Type 0
IsLinearType lists t = (m : Mode) × HasMode lists t m × IsLinearMode m

-- a channel of this mode is a reference, or used exactly once
abbrev pub MayCome : Mode → Type 0
MayCome mode.S = Unit {0}
MayCome m = IsLinearMode m

-- a process of this mode may hold a channel of the type
abbrev pub MayBeHeld : ProgramLists → Mode → TypeId → Type 0
MayBeHeld lists holder t = (m : Mode) × HasMode lists t m × IsTrue (may_hold holder m)

-- a channel of this mode is a reference, or may be held by a process
abbrev pub MayBeTaken : Mode → Mode → Type 0
MayBeTaken holder mode.S = Unit {0}
MayBeTaken holder m = IsTrue (may_hold holder m)

module _ {lists : ProgramLists} {j : Judgement} (h : IsJudgement lists j) where
  -- ---- another place, another type offered

  -- at another instruction, with another potential
  pub placed-elsewhere : (q : ℕ) (next : CodeId) → IsJudgement lists (record j { q = q; code = next })
  placed-elsewhere q next =
      record {
        kinds = h.kinds;
        lists_ascend = h.lists_ascend;
        shared = h.shared;
        linear = h.linear;
        apart = h.apart;
        shared_modes = h.shared_modes;
        linear_modes = h.linear_modes;
      }

  -- at another mode, with another type
  pub taken-over : (m : Mode) (t : TypeId) → IsJudgement lists (record j { mode = m; offers = t })
  taken-over m t =
      record {
        kinds = h.kinds;
        lists_ascend = h.lists_ascend;
        shared = h.shared;
        linear = h.linear;
        apart = h.apart;
        shared_modes = h.shared_modes;
        linear_modes = h.linear_modes;
      }

  -- ---- a variable bound

  -- a channel that is used exactly once, at a variable that is in no other map
  pub linear-bound : (v : VarId) (t : TypeId) → others_with j v.0 ≡ 0 → IsLinearType lists t
      → IsJudgement lists (record j { linear = bind v t j.linear })
  linear-bound v t free is_linear =
      let after : Judgement = record j { linear = bind v t j.linear } in
      let here : parts_with after v.0 ≤ 1 = omega (arith, count-bound v t j.linear) in
      let others : (w : ℕ) → w ≢ v.0 → parts_with after w ≤ 1 =
      λ w other. omega (arith, count-other w v t j.linear other, h.apart w)
      in
      record {
        kinds = h.kinds;
        lists_ascend = h.lists_ascend;
        shared = h.shared;
        linear = bind-ascending v t j.linear h.linear;
        apart = by-variable (λ w. parts_with after w ≤ 1) v.0 here others;
        shared_modes = h.shared_modes;
        linear_modes = all-after_bind (IsLinearType lists) v t j.linear h.linear_modes is_linear;
      }

  -- a reference, at a free variable
  pub shared-bound : (v : VarId) (t : TypeId) → IsFree j v → HasMode lists t mode.S
      → IsJudgement lists (record j { shared = bind v t j.shared })
  shared-bound v t free its_mode =
      let after : Judgement = record j { shared = bind v t j.shared } in
      let here : parts_with after v.0 ≤ 1 = omega (arith, count-bound v t j.shared) in
      let others : (w : ℕ) → w ≢ v.0 → parts_with after w ≤ 1 =
      λ w other. omega (arith, count-other w v t j.shared other, h.apart w)
      in
      record {
        kinds = h.kinds;
        lists_ascend = h.lists_ascend;
        shared = bind-ascending v t j.shared h.shared;
        linear = h.linear;
        apart = by-variable (λ w. parts_with after w ≤ 1) v.0 here others;
        shared_modes = all-after_bind (λ (s : TypeId). HasMode lists s mode.S) v t j.shared h.shared_modes its_mode;
        linear_modes = h.linear_modes;
      }

  -- a value, at a free variable
  pub value-bound : (v : VarId) (kind : Kind) → IsFree j v → IsJudgement lists (binds_value j v kind)
  value-bound v kind free =
      let after : Judgement = binds_value j v kind in
      let here : parts_with after v.0 ≤ 1 = omega (arith, count-bound v kind j.kinds) in
      let others : (w : ℕ) → w ≢ v.0 → parts_with after w ≤ 1 =
      λ w other. omega (arith, count-other w v kind j.kinds other, h.apart w)
      in
      record {
        kinds = bind-ascending v kind j.kinds h.kinds;
        lists_ascend = h.lists_ascend;
        shared = h.shared;
        linear = h.linear;
        apart = by-variable (λ w. parts_with after w ≤ 1) v.0 here others;
        shared_modes = h.shared_modes;
        linear_modes = h.linear_modes;
      }

  -- a list, at a free variable
  pub list-bound : (v : VarId) (list : ListType) → IsFree j v → IsJudgement lists (binds_list j v list)
  list-bound v list free =
      let after : Judgement = binds_list j v list in
      let here : parts_with after v.0 ≤ 1 = omega (arith, count-bound v list j.lists) in
      let others : (w : ℕ) → w ≢ v.0 → parts_with after w ≤ 1 =
      λ w other. omega (arith, count-other w v list j.lists other, h.apart w)
      in
      record {
        kinds = h.kinds;
        lists_ascend = bind-ascending v list j.lists h.lists_ascend;
        shared = h.shared;
        linear = h.linear;
        apart = by-variable (λ w. parts_with after w ≤ 1) v.0 here others;
        shared_modes = h.shared_modes;
        linear_modes = h.linear_modes;
      }

  -- a channel of any such mode, at a free variable
  pub channel-bound : (v : VarId) (m : Mode) (t : TypeId) → IsFree j v → HasMode lists t m → MayCome m
      → IsJudgement lists (binds_channel j v m t)
  channel-bound v mode.S t free its_mode may = shared-bound v t free its_mode
  channel-bound v mode.R t free its_mode may = linear-bound v t (omega arith) (mode.R, its_mode, may)
  channel-bound v mode.L t free its_mode may = linear-bound v t (omega arith) (mode.L, its_mode, may)
  channel-bound v mode.T t free its_mode may = linear-bound v t (omega arith) (mode.T, its_mode, may)

  -- ---- a variable unbound

  -- a channel that is used up
  pub linear-unbound : (v : ℕ) → IsJudgement lists (record j { linear = unbind v j.linear })
  linear-unbound v =
      record {
        kinds = h.kinds;
        lists_ascend = h.lists_ascend;
        shared = h.shared;
        linear = unbind-ascending v j.linear h.linear;
        apart = λ w. omega (arith, count-unbind w v j.linear h.linear, h.apart w);
        shared_modes = h.shared_modes;
        linear_modes = all-after_unbind (IsLinearType lists) v j.linear h.linear_modes;
      }

  -- a list that is used up
  pub list-unbound : (v : ℕ) → IsJudgement lists (record j { lists = unbind v j.lists })
  list-unbound v =
      record {
        kinds = h.kinds;
        lists_ascend = unbind-ascending v j.lists h.lists_ascend;
        shared = h.shared;
        linear = h.linear;
        apart = λ w. omega (arith, count-unbind w v j.lists h.lists_ascend, h.apart w);
        shared_modes = h.shared_modes;
        linear_modes = h.linear_modes;
      }

-- ---- a channel that goes on

-- the channel may go on at a type
abbrev pub MayGoOn : ProgramLists → Judgement → Chan → TypeId → Type 0
MayGoOn lists j chan.Own t = Unit {0}
MayGoOn lists j (chan.Var v) t = (others_with j v.0 ≡ 0) × IsLinearType lists t

-- it goes on
pub gone-on : {lists : ProgramLists} {j : Judgement} → IsJudgement lists j → (c : Chan) (t : TypeId) (next : CodeId)
    → MayGoOn lists j c t → IsJudgement lists (goes_on j c t next)
gone-on {j = j} h chan.Own t next may = placed-elsewhere (taken-over h j.mode t) j.q next
gone-on {j = j} h (chan.Var v) t next may = placed-elsewhere (linear-bound h v t may.0 may.1) j.q next

-- a variable that is free stays free when a channel goes on
pub free-gone_on : {lists : ProgramLists} {j : Judgement} → IsJudgement lists j
    → (c : Chan) (s t : TypeId) (next : CodeId) (y : VarId) → channel_type j c ≡ Some s → IsFree j y
    → IsFree (goes_on j c t next) y
free-gone_on h chan.Own s t next y found free = free
free-gone_on {j = j} h (chan.Var v) s t next y found free =
    let here : count_one (bound_to v.0 j.linear) ≡ 1 = ap (λ (o : Option TypeId). count_one o) found in
    let other : y.0 ≢ v.0 = λ same. let there = subst (λ (w : ℕ). parts_with j w ≡ 0) same free in omega arith in
    omega (arith, count-other y.0 v t j.linear other)

-- ---- what suits a mode

-- a channel of a process of this mode may go on at a type
abbrev pub MayGoAt : ProgramLists → Mode → Chan → TypeId → Type 0
MayGoAt lists m chan.Own t = HasMode lists t m
MayGoAt lists m (chan.Var v) t = MayBeHeld lists m t

module _ {lists : ProgramLists} {j : Judgement} (h : SuitsMode lists j) where
  -- with another channel that it may hold
  suits-bound : (v : VarId) (t : TypeId) → MayBeHeld lists j.mode t
      → SuitsMode lists (record j { linear = bind v t j.linear })
  suits-bound v t may =
      record { held = all-after_bind (MayBeHeld lists j.mode) v t j.linear h.held may; offers = h.offers }

  -- with another channel, at a variable
  pub suits-channel : (v : VarId) (m : Mode) (t : TypeId) → HasMode lists t m → MayBeTaken j.mode m
      → SuitsMode lists (binds_channel j v m t)
  suits-channel v mode.S t its_mode may = record { held = h.held; offers = h.offers }
  suits-channel v mode.R t its_mode may = suits-bound v t (mode.R, its_mode, may)
  suits-channel v mode.L t its_mode may = suits-bound v t (mode.L, its_mode, may)
  suits-channel v mode.T t its_mode may = suits-bound v t (mode.T, its_mode, may)

  -- without a channel that is used up
  pub suits-unbound : (v : ℕ) → SuitsMode lists (record j { linear = unbind v j.linear })
  suits-unbound v =
      record { held = all-after_unbind (MayBeHeld lists j.mode) v j.linear h.held; offers = h.offers }

  -- where a channel goes on at a type
  pub suits-gone_on : (c : Chan) (t : TypeId) (next : CodeId) → MayGoAt lists j.mode c t
      → SuitsMode lists (goes_on j c t next)
  suits-gone_on chan.Own t next may = record { held = h.held; offers = may }
  suits-gone_on (chan.Var v) t next may =
      record { held = all-after_bind (MayBeHeld lists j.mode) v t j.linear h.held may; offers = h.offers }

  -- it may do so at one that has the modes of the channel's type
  pub may-go_at : (c : Chan) (s t : TypeId) → channel_type j c ≡ Some s
      → ((m : Mode) → HasMode lists s m → HasMode lists t m) → MayGoAt lists j.mode c t
  may-go_at chan.Own s t found onward =
      let same : j.offers ≡ s = cc in
      onward j.mode (subst (λ (r : TypeId). HasMode lists r j.mode) same h.offers)
  may-go_at (chan.Var v) s t found onward =
      let (m, its_mode, may) = all-bound (MayBeHeld lists j.mode) v.0 s j.linear h.held found in
      (m, onward m its_mode, may)
