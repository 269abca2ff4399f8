-- A judgement goes on in one way: two rows at it lead to the same judgements.
use Rattle.std.proofs.Common.{◌≡◌, ◌+◌, ◌-◌, List, [], ◌∷◌, Some, refl, subst, sym, ap, ◌∙◌}
use Rattle.nomos_ir.proofs.TermKindLaws.{HasKind-unique}
use Rattle.nomos_ir.proofs.UnfoldLaws.{Unfolds-unique}
use Rattle.nomos_ir.specs.declared.amount.Amount.{Amount}
use Rattle.nomos_ir.specs.declared.code_node.Args.{Args}
use Rattle.nomos_ir.specs.declared.code_node.Arm.{Arm}
use Rattle.nomos_ir.specs.declared.code_node.Chan.{Chan}
use Rattle.nomos_ir.specs.declared.code_node.Chan.TheVariants as chan
use Rattle.nomos_ir.specs.declared.code_node.CodeNode.{CodeNode}
use Rattle.nomos_ir.specs.declared.code_node.CodeNode.TheVariants as code
use Rattle.nomos_ir.specs.declared.code_node.ValueArg.{ValueArg}
use Rattle.nomos_ir.specs.declared.declaration.Par.{Par}
use Rattle.nomos_ir.specs.declared.declaration.ProcDecl.{ProcDecl}
use Rattle.nomos_ir.specs.declared.ids.Label.{Label}
use Rattle.nomos_ir.specs.declared.ids.TypeId.{TypeId}
use Rattle.nomos_ir.specs.declared.ids.VarId.{VarId}
use Rattle.nomos_ir.specs.declared.kind.Kind.{Kind}
use Rattle.nomos_ir.specs.declared.lists.ProgramLists.{ProgramLists}
use Rattle.nomos_ir.specs.declared.mode.Mode.{Mode}
use Rattle.nomos_ir.specs.declared.mode.Mode.TheVariants as mode
use Rattle.nomos_ir.specs.declared.type_node.Branch.{Branch}
use Rattle.nomos_ir.specs.declared.type_node.TypeNode.{TypeNode}
use Rattle.nomos_ir.specs.declared.type_node.TypeNode.TheVariants as node
use Rattle.nomos_ir.specs.Bindings.{unbind}
use Rattle.nomos_ir.specs.Program.{IsProgram}
use Rattle.nomos_ir.specs.Unfold.{Unfolds}
use Rattle.nomos_types.proofs.ModeLaws.{mode-unique}
use Rattle.nomos_types.proofs.RowLaws.{RowAt, row-at, row-inverted}
use Rattle.nomos_types.specs.Amount.{Annotations, dths}
use Rattle.nomos_types.specs.Arguments.{PassesChannel, shared, linear, PassesChannels, PassesValue, term, list, PassesValues, ArgumentsFit}
use Rattle.nomos_types.specs.Branches.{goes_by}
use Rattle.nomos_types.specs.Judgement.{Judgement, ListType, at_code, goes_on, with_potential, binds_value, binds_list, binds_channel}
use Rattle.nomos_types.specs.Premises.{HasType, by_side, ArmsGoOn, Spawns}
use Rattle.nomos_types.specs.Modes.{HasMode}
use Rattle.nomos_types.specs.TypingRule.{TypingRule, gives_up}

-- a channel's type unfolds to one node
pub head-same : (lists : ProgramLists) (j : Judgement) (c : Chan) (p q : TypeNode) → HasType lists j c p
    → HasType lists j c q → p ≡ q
head-same lists j c p q (t, left, left_unfolds) (u, right, right_unfolds) =
    let same : u ≡ t = cc in
    Unfolds-unique lists t.0 p q left_unfolds (subst (λ (s : TypeId). Unfolds lists s.0 q) same right_unfolds)

-- the parts of nodes that are the same, by the side from which a process sees its channel
pub sent-branches-same : (c : Chan) (bs cs : List Branch)
    → by_side c (node.Plus bs) (node.With bs) ≡ by_side c (node.Plus cs) (node.With cs) → bs ≡ cs
sent-branches-same chan.Own bs cs same = cc
sent-branches-same (chan.Var v) bs cs same = cc

pub awaited-branches-same : (c : Chan) (bs cs : List Branch)
    → by_side c (node.With bs) (node.Plus bs) ≡ by_side c (node.With cs) (node.Plus cs) → bs ≡ cs
awaited-branches-same chan.Own bs cs same = cc
awaited-branches-same (chan.Var v) bs cs same = cc

pub sent-same : (c : Chan) (a b d e : TypeId)
    → by_side c (node.Tensor a b) (node.Lolli a b) ≡ by_side c (node.Tensor d e) (node.Lolli d e) → (a ≡ d) × (b ≡ e)
sent-same chan.Own a b d e same = (cc, cc)
sent-same (chan.Var v) a b d e same = (cc, cc)

received-same : (c : Chan) (a b d e : TypeId)
    → by_side c (node.Lolli a b) (node.Tensor a b) ≡ by_side c (node.Lolli d e) (node.Tensor d e) → (a ≡ d) × (b ≡ e)
received-same chan.Own a b d e same = (cc, cc)
received-same (chan.Var v) a b d e same = (cc, cc)

pub sent-value-same : (c : Chan) (k l : Kind) (a b : TypeId)
    → by_side c (node.ValueOut k a) (node.ValueIn k a) ≡ by_side c (node.ValueOut l b) (node.ValueIn l b)
    → (k ≡ l) × (a ≡ b)
sent-value-same chan.Own k l a b same = (cc, cc)
sent-value-same (chan.Var v) k l a b same = (cc, cc)

received-value-same : (c : Chan) (k l : Kind) (a b : TypeId)
    → by_side c (node.ValueIn k a) (node.ValueOut k a) ≡ by_side c (node.ValueIn l b) (node.ValueOut l b)
    → (k ≡ l) × (a ≡ b)
received-value-same chan.Own k l a b same = (cc, cc)
received-value-same (chan.Var v) k l a b same = (cc, cc)

paid-same : (c : Chan) (q r : Amount) (a b : TypeId)
    → by_side c (node.PotOut q a) (node.PotIn q a) ≡ by_side c (node.PotOut r b) (node.PotIn r b) → a ≡ b
paid-same chan.Own q r a b same = cc
paid-same (chan.Var v) q r a b same = cc

got-same : (c : Chan) (q r : Amount) (a b : TypeId)
    → by_side c (node.PotIn q a) (node.PotOut q a) ≡ by_side c (node.PotIn r b) (node.PotOut r b) → a ≡ b
got-same chan.Own q r a b same = cc
got-same (chan.Var v) q r a b same = cc

-- two lists that are the same single judgement
single-same : {after later : List Judgement} (j k : Judgement) → after ≡ j ∷ [] → later ≡ k ∷ [] → j ≡ k → after ≡ later
single-same j k left right same = left ∙ ap (λ (i : Judgement). i ∷ []) same ∙ sym right

module _ {lists : ProgramLists} {x : Annotations} where
  -- passing a channel leaves one judgement
  passing-same : (v : VarId) (t u : TypeId) {j l r : Judgement} → PassesChannel lists x j v t l
      → PassesChannel lists x j v u r → l ≡ r
  passing-same v t u (shared _ _ _) (shared _ _ _) = refl
  passing-same v t u (shared own there _) (linear _ unshared _ _) = absurd cc
  passing-same v t u (linear _ unshared _ _) (shared own there _) = absurd cc
  passing-same v t u (linear _ _ _ _) (linear _ _ _ _) = refl

  passings-same : (vs : List VarId) (pars : List (VarId × TypeId)) {i j l r : Judgement} → i ≡ j
      → PassesChannels lists x i vs pars l → PassesChannels lists x j vs pars r → l ≡ r
  passings-same [] [] same PassesChannels.none PassesChannels.none = same
  passings-same [] (par ∷ pars) same left right = elim left [ ]
  passings-same (v ∷ vs) [] same left right = elim left [ ]
  passings-same (v ∷ vs) (par ∷ pars) {i} {j} same (PassesChannels.channel first others)
      (PassesChannels.channel {k = k} other_first other_others) =
      let here = subst (λ (s : Judgement). PassesChannel lists x s v par.1 k) (sym same) other_first in
      passings-same vs pars (passing-same v par.1 par.1 first here) others other_others

  value-passing-same : (a : ValueArg) (par : Par) {j l r : Judgement} → PassesValue lists x j a par l
      → PassesValue lists x j a par r → l ≡ r
  value-passing-same _ par (term _ _) (term _ _) = refl
  value-passing-same _ par (list _ _ _) (list _ _ _) = refl

  values-passing-same : (args : List ValueArg) (pars : List Par) {i j l r : Judgement} → i ≡ j
      → PassesValues lists x i args pars l → PassesValues lists x j args pars r → l ≡ r
  values-passing-same [] [] same PassesValues.none PassesValues.none = same
  values-passing-same [] (par ∷ pars) same left right = elim left [ ]
  values-passing-same (a ∷ args) [] same left right = elim left [ ]
  values-passing-same (a ∷ args) (par ∷ pars) {i} {j} same (PassesValues.value first others)
      (PassesValues.value {k = k} other_first other_others) =
      let here = subst (λ (s : Judgement). PassesValue lists x s a par k) (sym same) other_first in
      values-passing-same args pars (value-passing-same a par first here) others other_others

  -- so do arguments
  arguments-same : (d : ProcDecl) (args : Args) {j l r : Judgement} → ArgumentsFit lists x j d args l
      → ArgumentsFit lists x j d args r → l ≡ r
  arguments-same d args left right =
      passings-same args.channels d.channels (values-passing-same args.values d.values refl left.values right.values)
      left.channels right.channels

-- a choice goes on in one way after a label
goes-same : (bs cs : List Branch) (l : Label) (t u : TypeId) → bs ≡ cs → goes_by bs l ≡ Some t → goes_by cs l ≡ Some u
    → t ≡ u
goes-same bs cs l t u same left right =
    let there : goes_by cs l ≡ Some t = subst (λ (b : List Branch). goes_by b l ≡ Some t) same left in cc

-- the arms go on in one way
arms-same : (j : Judgement) (c : Chan) (bs cs : List Branch) (arms : List Arm) (after later : List Judgement) → bs ≡ cs
    → ArmsGoOn j c bs arms after → ArmsGoOn j c cs arms later → after ≡ later
arms-same j c bs cs [] [] [] same ArmsGoOn.none ArmsGoOn.none = refl
arms-same j c bs cs [] [] (k ∷ ks) same left right = elim right [ ]
arms-same j c bs cs [] (k ∷ ks) later same left right = elim left [ ]
arms-same j c bs cs (a ∷ arms) _ _ same (ArmsGoOn.arm {after = after} t goes others)
    (ArmsGoOn.arm {after = later} u goes_too others_too) =
    let first : goes_on j c t a.goes ≡ goes_on j c u a.goes = ap (λ (s : TypeId). goes_on j c s a.goes)
    (goes-same bs cs a.label t u same goes goes_too) in
    let rest = arms-same j c bs cs arms after later same others others_too in
    ap (λ (k : Judgement). k ∷ after) first ∙ ap (λ (ks : List Judgement). goes_on j c u a.goes ∷ ks) rest

module _ {lists : ProgramLists} (x : Annotations) (is_program : IsProgram lists) where
  -- the node that stands at a judgement leads to one list of judgements
  pub row_at-unique : (j : Judgement) {after later : List Judgement} (n : CodeNode) → RowAt lists x j n after
      → RowAt lists x j n later → after ≡ later
  row_at-unique j (code.Label at c l next) (t, h, e) (u, i, f) =
      let same = sent-branches-same c h.branches i.branches (head-same lists j c _ _ h.channel i.channel) in
      single-same _ _ e f (ap (λ (s : TypeId). goes_on j c s next)
      (goes-same h.branches i.branches l t u same h.goes i.goes))
  row_at-unique j {after} {later} (code.Case at c arms) h i =
      let same = awaited-branches-same c h.branches i.branches (head-same lists j c _ _ h.channel i.channel) in
      arms-same j c h.branches i.branches arms after later same h.each_arm i.each_arm
  row_at-unique j (code.Send at c y next) (left, t, h, e) (right, u, i, f) =
      let parts = sent-same c h.carried t i.carried u (head-same lists j c _ _ h.channel i.channel) in
      let same : left ≡ right = passing-same y h.carried i.carried h.passes i.passes in
      single-same _ _ e f (ap (λ (s : Judgement). goes_on s c t next) same
      ∙ ap (λ (s : TypeId). goes_on right c s next) parts.1)
  row_at-unique j (code.Recv at c y next) (m, a, t, h, e) (n, b, u, i, f) =
      let parts = received-same c a t b u (head-same lists j c _ _ h.channel i.channel) in
      let modes : m ≡ n = mode-unique is_program h.mode
      (subst (λ (s : TypeId). HasMode lists s n) (sym parts.0) i.mode) in
      single-same _ _ e f
      (ap (λ (s : TypeId). binds_channel (goes_on j c s next) y m a) parts.1
      ∙ ap (λ (s : TypeId). binds_channel (goes_on j c u next) y m s) parts.0
      ∙ ap (λ (s : Mode). binds_channel (goes_on j c u next) y s b) modes)
  row_at-unique j (code.Put at c e next) (t, h, eq) (u, i, f) =
      let parts = sent-value-same c h.kind i.kind t u (head-same lists j c _ _ h.channel i.channel) in
      single-same _ _ eq f (ap (λ (s : TypeId). goes_on j c s next) parts.1)
  row_at-unique j (code.Take at c v next) (kind, t, h, e) (other, u, i, f) =
      let parts = received-value-same c kind other t u (head-same lists j c _ _ h.channel i.channel) in
      single-same _ _ e f
      (ap (λ (s : TypeId). binds_value (goes_on j c s next) v kind) parts.1
      ∙ ap (λ (s : Kind). binds_value (goes_on j c u next) v s) parts.0)
  row_at-unique j (code.Pay at c r next) (t, h, e) (u, i, f) =
      let rest = paid-same c h.amount i.amount t u (head-same lists j c _ _ h.channel i.channel) in
      single-same _ _ e f (ap (λ (s : TypeId). with_potential (goes_on j c s next) (j.q - dths x r)) rest)
  row_at-unique j (code.Get at c r next) (t, h, e) (u, i, f) =
      let rest = got-same c h.amount i.amount t u (head-same lists j c _ _ h.channel i.channel) in
      single-same _ _ e f (ap (λ (s : TypeId). with_potential (goes_on j c s next) (j.q + dths x r)) rest)
  row_at-unique j (code.Work at r next) (h, e) (i, f) = e ∙ sym f
  row_at-unique j (code.Wait at v next) (h, e) (i, f) = e ∙ sym f
  row_at-unique j (code.Accept at next) (t, h, e) (u, i, f) =
      let heads : node.Up t ≡ node.Up u = head-same lists j chan.Own _ _ h.channel i.channel in
      let rest : t ≡ u = cc in
      single-same _ _ e f (ap (λ (s : TypeId). record j { mode = mode.L; offers = s; code = next }) rest)
  row_at-unique j (code.Detach at next) (t, h, e) (u, i, f) =
      let heads : node.Down t ≡ node.Down u = head-same lists j chan.Own _ _ h.channel i.channel in
      let rest : t ≡ u = cc in
      single-same _ _ e f (ap (λ (s : TypeId). record j { mode = mode.S; offers = s; code = next }) rest)
  row_at-unique j (code.Acquire at a v next) (t, h, e) (u, i, f) =
      let first = h.reference in
      let second = i.reference in
      let own : i.own ≡ h.own = cc in
      let heads : node.Up t ≡ node.Up u = Unfolds-unique lists h.own.0 (node.Up t) (node.Up u) h.unfolds
      (subst (λ (s : TypeId). Unfolds lists s.0 (node.Up u)) own i.unfolds) in
      let rest : t ≡ u = cc in
      single-same _ _ e f (ap (λ (s : TypeId). binds_channel (at_code j next) v mode.L s) rest)
  row_at-unique j (code.Release at v a next) (t, h, e) (u, i, f) =
      let heads : node.Down t ≡ node.Down u = head-same lists j (chan.Var v) _ _ h.channel i.channel in
      let rest : t ≡ u = cc in
      single-same _ _ e f (ap (λ (s : TypeId). binds_channel (at_code (gives_up j v) next) a mode.S s) rest)
  row_at-unique j {after} {later} (code.Spawn at v fn args next) (d, left, h, e) (o, right, i, f) =
      let first = h.declared in
      let second = i.declared in
      let same : o ≡ d = cc in
      let spawned : Judgement → ProcDecl
      → Judgement = λ s p. binds_channel (with_potential (at_code s next) (j.q - dths x p.amount)) v p.mode
      p.offers in
      let there : Spawns lists x j v fn args d right = subst (λ (p : ProcDecl). Spawns lists x j v fn args p right) same
      i in
      single-same _ _ e f (ap (λ (s : Judgement). spawned s d) (arguments-same d args h.arguments there.arguments)
      ∙ ap (λ (p : ProcDecl). spawned right p) (sym same))
  row_at-unique j (code.Let at v e next) (kind, h, free, eq) (other, i, free_too, f) =
      single-same _ _ eq f (ap (λ (s : Kind). binds_value (at_code j next) v s)
      (HasKind-unique lists j.kinds e kind other h i))
  row_at-unique j (code.Emit at e next) (kind, h, eq) (other, i, f) = eq ∙ sym f
  row_at-unique j (code.If at e then_next else_next) (h, eq) (i, f) = eq ∙ sym f
  row_at-unique j (code.Close at) (h, e) (i, f) = e ∙ sym f
  row_at-unique j (code.Fwd at v) (h, e) (i, f) = e ∙ sym f
  row_at-unique j (code.Call at fn args) (h, e) (i, f) = e ∙ sym f
  row_at-unique j (code.Empty at v r kind next) (h, e) (i, f) = e ∙ sym f
  row_at-unique j (code.Add at v e w next) (l, h, eq) (m, i, f) =
      let first = h.there in
      let second = i.there in
      let same : l ≡ m = cc in
      single-same _ _ eq f
      (ap (λ (s : ListType). with_potential (binds_list (record (at_code j next) { lists = unbind w.0 j.lists }) v s)
      (j.q - s.amount)) same)
  row_at-unique j {after} {later} (code.Match at w empty_next head tail full_next) (l, h, eq) (m, i, f) =
      let first = h.there in
      let second = i.there in
      let same : l ≡ m = cc in
      eq
      ∙ ap (λ (s : ListType). record (at_code j empty_next) { lists = unbind w.0 j.lists } ∷
      with_potential (binds_value (binds_list (record (at_code j full_next) { lists = unbind w.0 j.lists }) tail s) head
      s.kind) (j.q + s.amount) ∷ []) same
      ∙ sym f

  -- two rows at a judgement lead to the same judgements
  pub row-unique : {j : Judgement} {after later : List Judgement} → TypingRule lists x j after
      → TypingRule lists x j later
      → after ≡ later
  row-unique {j} left right =
      let (n, there, says) = row-at left in
      row_at-unique j n says (row-inverted n there right)
