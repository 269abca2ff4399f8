-- What covers another judgement goes on by the same line to judgements that cover those with which the other goes on.
use Rattle.std.proofs.Common.{◌≡◌, ◌+◌, ◌-◌, ℕ, List, [], ◌∷◌, Some, refl, subst, sym, ap, ◌∙◌, arith}
use Rattle.nomos_ir.proofs.TermKindLaws.{HasKind-unique}
use Rattle.nomos_ir.specs.declared.code_node.Chan.TheVariants as chan
use Rattle.nomos_ir.specs.declared.code_node.CodeNode.{CodeNode}
use Rattle.nomos_ir.specs.declared.code_node.CodeNode.TheVariants as code
use Rattle.nomos_ir.specs.declared.declaration.ProcDecl.{ProcDecl}
use Rattle.nomos_ir.specs.declared.code_node.Args.{Args}
use Rattle.nomos_ir.specs.declared.ids.CodeId.{CodeId}
use Rattle.nomos_ir.specs.declared.ids.ProcId.{ProcId}
use Rattle.nomos_ir.specs.declared.ids.TermId.{TermId}
use Rattle.nomos_ir.specs.declared.ids.TypeId.{TypeId}
use Rattle.nomos_ir.specs.declared.ids.VarId.{VarId}
use Rattle.nomos_ir.specs.declared.kind.Kind.{Kind}
use Rattle.nomos_ir.specs.declared.lists.ProgramLists.{ProgramLists}
use Rattle.nomos_ir.specs.declared.mode.Mode.{Mode}
use Rattle.nomos_ir.specs.declared.mode.Mode.TheVariants as mode
use Rattle.nomos_ir.specs.Bindings.{bound_to, unbind}
use Rattle.nomos_ir.specs.TermKind.{HasKind}
use Rattle.nomos_types.proofs.AlikeLaws.{alike_types-same, alike_types-unfolded, alike_channels-bound}
use Rattle.nomos_types.proofs.CoveringLaws.{Covers, CoversEach, single, pair, nothing, heads, goes_on-covers, at_code-covers, potential-covers, unbound-covers, list-unbound-covers, value-covers, list-covers, channel-covers, passing-covers, arguments-cover, arms-cover}
use Rattle.nomos_types.proofs.HeadLaws.{both-there, sent-branches, awaited-branches, sent-parts, received-parts, sent-value, received-value, paid-rest, got-rest, up-rest, down-rest}
use Rattle.nomos_types.proofs.ModeLaws.{mode-unique, offered-has_mode}
use Rattle.nomos_types.proofs.RowLaws.{RowAt}
use Rattle.nomos_types.specs.Alike.{AlikeTypes}
use Rattle.nomos_types.specs.Amount.{Annotations, dths}
use Rattle.nomos_types.specs.Judgement.{Judgement, ListType, at_code, goes_on, with_potential, binds_value, binds_list, binds_channel}
use Rattle.nomos_types.specs.Premises.{Acquires, Spawns}
use Rattle.nomos_types.specs.Modes.{HasMode}
use Rattle.nomos_types.specs.Typed.{IsWellFormed}

module _ {lists : ProgramLists} {x : Annotations} (formed : IsWellFormed lists) where
  -- a term has the same kind on both sides
  same-kind : {j k : Judgement} (e : TermId) (kind other : Kind) → Covers lists x j k → HasKind lists j.kinds e kind
      → HasKind lists k.kinds e other → other ≡ kind
  same-kind {j} {k} e kind other covers left right =
      HasKind-unique lists k.kinds e other kind right
      (subst (λ (vars : List (VarId × Kind)). HasKind lists vars e kind) covers.kinds left)

  -- a list is the same on both sides
  same-list : {j k : Judgement} (w : ℕ) (l m : ListType) → Covers lists x j k → bound_to w j.lists ≡ Some l
      → bound_to w k.lists ≡ Some m → m ≡ l
  same-list {j} {k} w l m covers left right =
      let found : bound_to w k.lists
      ≡ Some l = sym (ap (λ (b : List (VarId × ListType)). bound_to w b) covers.same_lists) ∙ left in
      cc

  -- a carried channel has the same mode on both sides
  same-mode : (t u : TypeId) (m n : Mode) → AlikeTypes lists x t u → HasMode lists t m → HasMode lists u n → n ≡ m
  same-mode t u m n alike left right =
      mode-unique formed.program right alike.right_mode ∙ mode-unique formed.program alike.left_mode left

  -- what is behind the types of a reference that is acquired
  acquired : {j k : Judgement} (a v : VarId) (t u : TypeId) → Covers lists x j k → Acquires lists j a v t
      → Acquires lists k a v u → AlikeTypes lists x t u
  acquired {j} {k} a v t u covers left right =
      let (b, found, alike) = alike_channels-bound a.0 left.own covers.shared left.reference in
      let same : b ≡ right.own = cc in
      let to_own : AlikeTypes lists x left.own right.own = subst (λ (e : TypeId). AlikeTypes lists x left.own e) same
      alike in
      up-rest t u (alike_types-unfolded formed.program formed.contractive formed.modes to_own left.unfolds
      right.unfolds)

  -- what is spawned is bound on both sides
  spawn-covers : {j k : Judgement} {after other : List Judgement} (v : VarId) (f : ProcId) (args : Args) (next : CodeId)
      (d : ProcDecl) (left right : Judgement) → Covers lists x j k → Spawns lists x j v f args d left
      → after ≡ binds_channel (with_potential (at_code left next) (j.q - dths x d.amount)) v d.mode d.offers ∷ []
      → Spawns lists x k v f args d right
      → other ≡ binds_channel (with_potential (at_code right next) (k.q - dths x d.amount)) v d.mode d.offers ∷ []
      → CoversEach lists x after other
  spawn-covers {j} {k} v f args next d left right covers h e i g =
      let rest = arguments-cover d args covers h.arguments i.arguments in
      let offered = alike_types-same x formed.program formed.contractive (offered-has_mode lists f.0 d h.declared) in
      single _ _ e g
      (channel-covers v d.mode d.offers d.offers
      (potential-covers (j.q - dths x d.amount) (k.q - dths x d.amount) (omega (arith, covers.q))
      (at_code-covers next rest)) offered)

  -- both sides go on alike, by the node at which they stand
  pub rows-cover : {j k : Judgement} {after later : List Judgement} (n : CodeNode) → Covers lists x j k
      → RowAt lists x j n after → RowAt lists x k n later → CoversEach lists x after later
  rows-cover {j} {k} {after} {later} (code.Label at c l next) covers (t, h, e) (u, i, f) =
      let same = sent-branches c h.branches i.branches (heads c _ _ formed covers h.channel i.channel) in
      single _ _ e f (goes_on-covers c t u next covers (both-there t u (same l) h.goes i.goes))
  rows-cover {j} {k} {after} {later} (code.Case at c arms) covers h i =
      let same = awaited-branches c h.branches i.branches (heads c _ _ formed covers h.channel i.channel) in
      arms-cover c h.branches i.branches arms _ _ covers same h.each_arm i.each_arm
  rows-cover {j} {k} {after} {later} (code.Send at c y next) covers (left, t, h, e) (right, u, i, f) =
      let parts = sent-parts c h.carried t i.carried u (heads c _ _ formed covers h.channel i.channel) in
      single _ _ e f (goes_on-covers c t u next (passing-covers y h.carried i.carried covers h.passes i.passes) parts.1)
  rows-cover {j} {k} {after} {later} (code.Recv at c y next) covers (m, a, t, h, e) (n, b, u, i, f) =
      let parts = received-parts c a t b u (heads c _ _ formed covers h.channel i.channel) in
      let same : n ≡ m = same-mode a b m n parts.0 h.mode i.mode in
      let onward = goes_on-covers c t u next covers parts.1 in
      single _ _ e (subst (λ (o : Mode). later ≡ binds_channel (goes_on k c u next) y o b ∷ []) same f)
      (channel-covers y m a b onward parts.0)
  rows-cover {j} {k} {after} {later} (code.Put at c e next) covers (t, h, eq) (u, i, f) =
      let parts = sent-value c h.kind i.kind t u (heads c _ _ formed covers h.channel i.channel) in
      single _ _ eq f (goes_on-covers c t u next covers parts.1)
  rows-cover {j} {k} {after} {later} (code.Take at c v next) covers (kind, t, h, e) (other, u, i, f) =
      let parts = received-value c kind other t u (heads c _ _ formed covers h.channel i.channel) in
      single _ _ e (subst (λ (o : Kind). later ≡ binds_value (goes_on k c u next) v o ∷ []) (sym parts.0) f)
      (value-covers v kind (goes_on-covers c t u next covers parts.1))
  rows-cover {j} {k} {after} {later} (code.Pay at c r next) covers (t, h, e) (u, i, f) =
      let rest = paid-rest c h.amount i.amount t u (heads c _ _ formed covers h.channel i.channel) in
      single _ _ e f (potential-covers (j.q - dths x r) (k.q - dths x r) (omega (arith, covers.q))
      (goes_on-covers c t u next covers rest))
  rows-cover {j} {k} {after} {later} (code.Get at c r next) covers (t, h, e) (u, i, f) =
      let rest = got-rest c h.amount i.amount t u (heads c _ _ formed covers h.channel i.channel) in
      single _ _ e f (potential-covers (j.q + dths x r) (k.q + dths x r) (omega (arith, covers.q))
      (goes_on-covers c t u next covers rest))
  rows-cover {j} {k} {after} {later} (code.Work at r next) covers (h, e) (i, f) =
      single _ _ e f (potential-covers (j.q - dths x r) (k.q - dths x r) (omega (arith, covers.q))
      (at_code-covers next covers))
  rows-cover {j} {k} {after} {later} (code.Wait at v next) covers (h, e) (i, f) =
      single _ _ e f (at_code-covers next (unbound-covers v.0 covers))
  rows-cover {j} {k} {after} {later} (code.Accept at next) covers (t, h, e) (u, i, f) =
      let rest = up-rest t u (heads chan.Own _ _ formed covers h.channel i.channel) in
      single _ _ e f (record {
        mode = refl;
        kinds = covers.kinds;
        same_lists = covers.same_lists;
        shared = covers.shared;
        linear = covers.linear;
        q = covers.q;
        code = refl;
        offers = rest;
      })
  rows-cover {j} {k} {after} {later} (code.Detach at next) covers (t, h, e) (u, i, f) =
      let rest = down-rest t u (heads chan.Own _ _ formed covers h.channel i.channel) in
      single _ _ e f (record {
        mode = refl;
        kinds = covers.kinds;
        same_lists = covers.same_lists;
        shared = covers.shared;
        linear = covers.linear;
        q = covers.q;
        code = refl;
        offers = rest;
      })
  rows-cover {j} {k} {after} {later} (code.Acquire at a v next) covers (t, h, e) (u, i, f) =
      single _ _ e f (channel-covers v mode.L t u (at_code-covers next covers) (acquired a v t u covers h i))
  rows-cover {j} {k} {after} {later} (code.Release at v a next) covers (t, h, e) (u, i, f) =
      let rest = down-rest t u (heads (chan.Var v) _ _ formed covers h.channel i.channel) in
      single _ _ e f (channel-covers a mode.S t u (at_code-covers next (unbound-covers v.0 covers)) rest)
  rows-cover {j} {k} {after} {later} (code.Spawn at v fn args next) covers (d, left, h, e) (o, right, i, f) =
      let same : o ≡ d = cc (h.declared, i.declared) in
      spawn-covers v fn args next d left right covers h e
      (subst (λ (p : ProcDecl). Spawns lists x k v fn args p right) same i)
      (subst (λ (p : ProcDecl). later
      ≡ binds_channel (with_potential (at_code right next) (k.q - dths x p.amount)) v p.mode p.offers ∷ []) same f)
  rows-cover {j} {k} {after} {later} (code.Let at v e next) covers (kind, h, free, eq) (other, i, free_too, f) =
      single _ _ eq (subst (λ (o : Kind). later ≡ binds_value (at_code k next) v o ∷ [])
      (same-kind e kind other covers h i) f) (value-covers v kind (at_code-covers next covers))
  rows-cover {j} {k} {after} {later} (code.Emit at e next) covers (kind, h, eq) (other, i, f) =
      single _ _ eq f (at_code-covers next covers)
  rows-cover {j} {k} {after} {later} (code.If at e then_next else_next) covers (h, eq) (i, f) =
      pair _ _ _ _ eq f (at_code-covers then_next covers) (at_code-covers else_next covers)
  rows-cover {j} {k} {after} {later} (code.Close at) covers (h, e) (i, f) = nothing e f
  rows-cover {j} {k} {after} {later} (code.Fwd at v) covers (h, e) (i, f) = nothing e f
  rows-cover {j} {k} {after} {later} (code.Call at fn args) covers (h, e) (i, f) = nothing e f
  rows-cover {j} {k} {after} {later} (code.Empty at v r kind next) covers (h, e) (i, f) =
      single _ _ e f (list-covers v _ (at_code-covers next covers))
  rows-cover {j} {k} {after} {later} (code.Add at v e w next) covers (l, h, eq) (m, i, f) =
      let same : m ≡ l = same-list w.0 l m covers h.there i.there in
      single _ _ eq
      (subst (λ (o : ListType). later ≡ with_potential
      (binds_list (record (at_code k next) { lists = unbind w.0 k.lists }) v o) (k.q - o.amount) ∷ []) same f)
      (potential-covers (j.q - l.amount) (k.q - l.amount) (omega (arith, covers.q))
      (list-covers v l (list-unbound-covers w.0 (at_code-covers next covers))))
  rows-cover {j} {k} {after} {later} (code.Match at w empty_next head tail full_next) covers (l, h, eq) (m, i, f) =
      let same : m ≡ l = same-list w.0 l m covers h.there i.there in
      pair _ _ _ _ eq
      (subst (λ (o : ListType). later ≡ record (at_code k empty_next) { lists = unbind w.0 k.lists } ∷
      with_potential (binds_value (binds_list (record (at_code k full_next) { lists = unbind w.0 k.lists }) tail o)
      head o.kind) (k.q + o.amount) ∷ []) same f)
      (list-unbound-covers w.0 (at_code-covers empty_next covers))
      (potential-covers (j.q + l.amount) (k.q + l.amount) (omega (arith, covers.q))
      (value-covers head l.kind (list-covers tail l (list-unbound-covers w.0 (at_code-covers full_next covers)))))
