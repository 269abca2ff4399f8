-- What covers another judgement meets what an instruction asks of the other.
use Rattle.std.proofs.Common.{◌≡◌, ℕ, List, [], ◌∷◌, Option, Some, None, All, get_or, slice_get, refl, sym, subst, ap, ◌∙◌, arith}
use Rattle.std.proofs.lemmas.List.Elements.{All-head, All-tail, All-cons, Contains-get_or}
use Rattle.nomos_ir.specs.declared.code_node.Args.{Args}
use Rattle.nomos_ir.specs.declared.code_node.Arm.{Arm}
use Rattle.nomos_ir.specs.declared.code_node.Chan.{Chan}
use Rattle.nomos_ir.specs.declared.code_node.Chan.TheVariants as chan
use Rattle.nomos_ir.specs.declared.code_node.ValueArg.{ValueArg}
use Rattle.nomos_ir.specs.declared.declaration.Par.{Par}
use Rattle.nomos_ir.specs.declared.declaration.ProcDecl.{ProcDecl}
use Rattle.nomos_ir.specs.declared.ids.TermId.{TermId}
use Rattle.nomos_ir.specs.declared.ids.TypeId.{TypeId}
use Rattle.nomos_ir.specs.declared.ids.VarId.{VarId}
use Rattle.nomos_ir.specs.declared.kind.Kind.{Kind}
use Rattle.nomos_ir.specs.declared.lists.ProgramLists.{ProgramLists}
use Rattle.nomos_ir.specs.declared.mode.Mode.{Mode}
use Rattle.nomos_ir.specs.declared.type_node.Branch.{Branch}
use Rattle.nomos_ir.specs.declared.type_node.TypeNode.{TypeNode}
use Rattle.nomos_ir.specs.Bindings.{bound_to}
use Rattle.nomos_ir.specs.TermKind.{HasKind}
use Rattle.nomos_ir.specs.Unfold.{Unfolds}
use Rattle.nomos_types.proofs.AlikeLaws.{alike_types-same, alike_types-back, alike_types-through, alike_types-unfolded, alike_channels-back, alike_channels-bound, alike_channels-free, alike_channels-empty}
use Rattle.nomos_types.proofs.CoveringLaws.{Covers, passing-covers, value-passing-covers, values-passing-cover}
use Rattle.nomos_types.proofs.EqualityLaws.{equal-unfolded}
use Rattle.nomos_types.proofs.ModeLaws.{mode-unique, parameter-has_mode}
use Rattle.nomos_types.specs.Alike.{AlikeChannels, none, channel, AlikeTypes}
use Rattle.nomos_types.specs.Amount.{Annotations}
use Rattle.nomos_types.specs.Arguments.{PassesChannel, shared, linear, PassesChannels, PassesValue, term, list, PassesValues, ArgumentsFit}
use Rattle.nomos_types.specs.Equality.{SameBranches, SameHead}
use Rattle.nomos_types.specs.Judgement.{Judgement, ListType, IsFree, count_one, channel_type}
use Rattle.nomos_types.specs.Modes.{HasMode, parameter_mode}
use Rattle.nomos_types.specs.Premises.{HasType, ArmsGoOn}
use Rattle.nomos_types.specs.Typed.{IsWellFormed}
use Rattle.nomos_types.proofs.HeadsOverLaws.{both-over}

-- how many things are there, where one is there exactly where the other is
pub count-same : {X Y : Type 0} (o : Option X) (p : Option Y) → (o ≡ None → p ≡ None) → (p ≡ None → o ≡ None)
    → count_one o ≡ count_one p
count-same None None to back = refl
count-same None (Some y) to back = absurd (let no = to refl in cc)
count-same (Some x) None to back = absurd (let no = back refl in cc)
count-same (Some x) (Some y) to back = refl

-- the node to which a type unfolds is known
pub type-as : {lists : ProgramLists} (j : Judgement) (c : Chan) (p q : TypeNode) → p ≡ q → HasType lists j c p
    → HasType lists j c q
type-as {lists} j c p q same typed = subst (λ (n : TypeNode). HasType lists j c n) same typed

-- the types of channels have modes
abbrev HaveModes : ProgramLists → List (VarId × TypeId) → Type 0
HaveModes lists cs = All (λ b. (m : Mode) × HasMode lists b.1 m) cs

module _ {lists : ProgramLists} {x : Annotations} (formed : IsWellFormed lists) where
  -- the first judgement has a channel where the second one has, of a type that is alike
  pub channel-over : {j k : Judgement} (c : Chan) (u : TypeId) → Covers lists x j k → channel_type k c ≡ Some u
      → (t : TypeId) × (channel_type j c ≡ Some t) × AlikeTypes lists x t u
  channel-over {j} {k} chan.Own u covers there =
      let same : k.offers ≡ u = cc in
      (j.offers, refl, subst (λ (e : TypeId). AlikeTypes lists x j.offers e) same covers.offers)
  channel-over {j} {k} (chan.Var v) u covers there =
      let (t, found, alike) = alike_channels-bound v.0 u (alike_channels-back covers.linear) there in
      (t, found, alike_types-back alike)

  -- so has it a reference
  pub reference-over : {j k : Judgement} (v : VarId) (u : TypeId) → Covers lists x j k
      → bound_to v.0 k.shared ≡ Some u → (t : TypeId) × (bound_to v.0 j.shared ≡ Some t) × AlikeTypes lists x t u
  reference-over {j} {k} v u covers there =
      let (t, found, alike) = alike_channels-bound v.0 u (alike_channels-back covers.shared) there in
      (t, found, alike_types-back alike)

  -- what a type unfolds to that is alike
  pub unfolds-over : (t u : TypeId) (q : TypeNode) → AlikeTypes lists x t u → Unfolds lists u.0 q → (p : TypeNode)
      × Unfolds lists t.0 p × SameHead x (AlikeTypes lists x) p q
  unfolds-over t u q alike right =
      let back = alike_types-back alike in
      let (p, left, _) = equal-unfolded lists x u t q back.equal right in
      (p, left, alike_types-unfolded formed.program formed.contractive formed.modes alike left right)

  -- the node to which the type of a channel unfolds
  pub node-over : {j k : Judgement} (c : Chan) (q : TypeNode) → Covers lists x j k → HasType lists k c q
      → (p : TypeNode) × HasType lists j c p × SameHead x (AlikeTypes lists x) p q
  node-over c q covers (u, there, right) =
      let (t, found, alike) = channel-over c u covers there in
      let (p, left, same) = unfolds-over t u q alike right in
      (p, (t, found, left), same)

  -- a variable is free where it is free in the other judgement
  pub free-over : {j k : Judgement} (v : VarId) → Covers lists x j k → IsFree k v → IsFree j v
  free-over {j} {k} v covers free =
      let kinds = ap (λ (b : List (VarId × Kind)). count_one (bound_to v.0 b)) covers.kinds in
      let lists_too = ap (λ (b : List (VarId × ListType)). count_one (bound_to v.0 b)) covers.same_lists in
      let references = count-same (bound_to v.0 j.shared) (bound_to v.0 k.shared)
      (alike_channels-free v.0 covers.shared) (alike_channels-free v.0 (alike_channels-back covers.shared)) in
      let channels = count-same (bound_to v.0 j.linear) (bound_to v.0 k.linear)
      (alike_channels-free v.0 covers.linear) (alike_channels-free v.0 (alike_channels-back covers.linear)) in
      omega arith

  -- a term has a kind where it has it in the other judgement
  pub kind-over : {j k : Judgement} (e : TermId) (kind : Kind) → Covers lists x j k → HasKind lists k.kinds e kind
      → HasKind lists j.kinds e kind
  kind-over e kind covers has = subst (λ (vars : List (VarId × Kind)). HasKind lists vars e kind) (sym covers.kinds) has

  -- a list is there where it is there in the other judgement
  pub list-over : {j k : Judgement} (w : ℕ) (l : ListType) → Covers lists x j k → bound_to w k.lists ≡ Some l
      → bound_to w j.lists ≡ Some l
  list-over w l covers there = ap (λ (b : List (VarId × ListType)). bound_to w b) covers.same_lists ∙ there

  -- no channel is held where none is held in the other judgement
  pub none-over : {j k : Judgement} → Covers lists x j k → k.linear ≡ [] → j.linear ≡ []
  none-over {j} {k} covers nothing =
      alike_channels-empty (subst (λ (cs : List (VarId × TypeId)). AlikeChannels lists x cs j.linear) nothing
      (alike_channels-back covers.linear))

  -- channels have a mode where those that are like them have it
  pub modes-over : (m : Mode) (cs ds : List (VarId × TypeId)) → AlikeChannels lists x cs ds
      → All (λ b. HasMode lists b.1 m) ds → All (λ b. HasMode lists b.1 m) cs
  modes-over m [] [] none modes = modes
  modes-over m _ _ (channel v a b cs ds alike rest) modes =
      let HasIt : VarId × TypeId → Type 0 = λ e. HasMode lists e.1 m in
      let first : HasMode lists b m = All-head HasIt (v, b) ds modes in
      let same : alike.mode ≡ m = mode-unique formed.program alike.right_mode first in
      All-cons HasIt (v, a) cs (subst (λ (n : Mode). HasMode lists a n) same alike.left_mode)
      (modes-over m cs ds rest (All-tail HasIt (v, b) ds modes))

  -- a channel passes where it passes in the other judgement
  pub passing-over : (v : VarId) (t u : TypeId) {j k r : Judgement} → Covers lists x j k → AlikeTypes lists x t u
      → PassesChannel lists x k v u r → (l : Judgement) × PassesChannel lists x j v t l
  passing-over v t u {j} covers wanted (shared own there alike) =
      let (mine, found, like) = reference-over v own covers there in (
        j,
        shared mine found (alike_types-through formed.program like (alike_types-through formed.program alike
            (alike_types-back wanted))),
      )
  passing-over v t u {j} {k} covers wanted (linear own unshared there alike) =
      let (mine, found, like) = channel-over (chan.Var v) own covers there in
      let free = alike_channels-free v.0 (alike_channels-back covers.shared) unshared in (
        _,
        linear mine free found (alike_types-through formed.program like (alike_types-through formed.program alike
            (alike_types-back wanted))),
      )

  -- so do channels for the same parameters
  pub passings-over : (vs : List VarId) (pars : List (VarId × TypeId)) {j k r : Judgement} → Covers lists x j k
      → HaveModes lists pars → PassesChannels lists x k vs pars r → (l : Judgement) × PassesChannels lists x j vs pars l
  passings-over [] [] {j} covers modes PassesChannels.none = (j, PassesChannels.none)
  passings-over [] (par ∷ pars) covers modes passes = elim passes [ ]
  passings-over (v ∷ vs) [] covers modes passes = elim passes [ ]
  passings-over (v ∷ vs) (par ∷ pars) covers modes (PassesChannels.channel first others) =
      let HasOne : VarId × TypeId → Type 0 = λ b. (m : Mode) × HasMode lists b.1 m in
      let has = All-head HasOne par pars modes in
      let (between, passes) = passing-over v par.1 par.1 covers
      (alike_types-same x formed.program formed.contractive has.1) first in
      let (left, rest) = passings-over vs pars (passing-covers v par.1 par.1 covers passes first)
      (All-tail HasOne par pars modes) others in
      (left, PassesChannels.channel passes rest)

  -- a value or a list passes where it passes in the other judgement
  pub value-passing-over : (a : ValueArg) (par : Par) {j k r : Judgement} → Covers lists x j k
      → PassesValue lists x k a par r → (l : Judgement) × PassesValue lists x j a par l
  value-passing-over _ par {j} covers (term {e = e} no_list kind) = (j, term no_list (kind-over e par.kind covers kind))
  value-passing-over _ par covers (list {w = w} amount its_amount found) =
      (_, list amount its_amount (list-over w.0 _ covers found))

  pub values-passing-over : (args : List ValueArg) (pars : List Par) {j k r : Judgement} → Covers lists x j k
      → PassesValues lists x k args pars r → (l : Judgement) × PassesValues lists x j args pars l
  values-passing-over [] [] {j} covers PassesValues.none = (j, PassesValues.none)
  values-passing-over [] (par ∷ pars) covers passes = elim passes [ ]
  values-passing-over (a ∷ args) [] covers passes = elim passes [ ]
  values-passing-over (a ∷ args) (par ∷ pars) covers (PassesValues.value first others) =
      let (between, passes) = value-passing-over a par covers first in
      let (left, rest) = values-passing-over args pars (value-passing-covers a par covers passes first) others in
      (left, PassesValues.value passes rest)

  -- arguments fit where they fit in the other judgement
  pub arguments-over : {j k r : Judgement} (f : ℕ) (d : ProcDecl) (args : Args) → slice_get lists.procs f ≡ Some d
      → Covers lists x j k → ArgumentsFit lists x k d args r → (l : Judgement) × ArgumentsFit lists x j d args l
  arguments-over f d args declared covers fit =
      let (between, values) = values-passing-over args.values d.values covers fit.values in
      let over = values-passing-cover args.values d.values covers values fit.values in
      let modes : HaveModes lists d.channels =
      λ n e inside.
      let par = get_or d.channels n e in (
        parameter_mode lists par.1,
        parameter-has_mode lists f d par.0 par.1 declared
            (Contains-get_or d.channels n e inside),
      )
      in
      let (left, channels) = passings-over args.channels d.channels over modes fit.channels in
      (left, record { between = between; values = values; channels = channels })

  -- the arms go on where they go on in the other judgement
  pub arms-over : {j k : Judgement} (c : Chan) (bs cs : List Branch) (arms : List Arm) (after : List Judgement)
      → SameBranches (AlikeTypes lists x) bs cs → ArmsGoOn k c cs arms after → (mine : List Judgement)
      × ArmsGoOn j c bs arms mine
  arms-over c bs cs [] [] same ArmsGoOn.none = ([], ArmsGoOn.none)
  arms-over c bs cs [] (k ∷ ks) same goes = elim goes [ ]
  arms-over c bs cs (a ∷ arms) _ same (ArmsGoOn.arm u goes others) =
      let (t, mine, _) = both-over u (same a.label) goes in
      let (rest, go_on) = arms-over c bs cs arms _ same others in
      (_, ArmsGoOn.arm t mine go_on)
