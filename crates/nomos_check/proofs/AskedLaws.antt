-- Where a row stands, the pairs for which its instruction asks are worth the same, and a call affords what it needs.
use Rattle.std.proofs.Common.{◌≡◌, ℕ, List, Some, slice_get, ap, sym, subst, ◌∙◌}
use Rattle.nomos_ir.specs.declared.amount.Amount.{Amount}
use Rattle.nomos_ir.specs.declared.code_node.Args.{Args}
use Rattle.nomos_ir.specs.declared.code_node.Chan.{Chan}
use Rattle.nomos_ir.specs.declared.code_node.Chan.TheVariants as chan
use Rattle.nomos_ir.specs.declared.code_node.CodeNode.{CodeNode}
use Rattle.nomos_ir.specs.declared.code_node.CodeNode.TheVariants as code
use Rattle.nomos_ir.specs.declared.declaration.ProcDecl.{ProcDecl}
use Rattle.nomos_ir.specs.declared.ids.ProcId.{ProcId}
use Rattle.nomos_ir.specs.declared.ids.TypeId.{TypeId}
use Rattle.nomos_ir.specs.declared.lists.ProgramLists.{ProgramLists}
use Rattle.nomos_ir.specs.declared.type_node.TypeNode.{TypeNode}
use Rattle.nomos_ir.specs.declared.type_node.TypeNode.TheVariants as node
use Rattle.nomos_ir.specs.Bindings.{bound_to}
use Rattle.nomos_equality.proofs.PathLaws.{equal-worth}
use Rattle.nomos_types.proofs.UniqueRowLaws.{head-same}
use Rattle.nomos_types.specs.Amount.{Annotations, dths}
use Rattle.nomos_types.specs.Arguments.{ArgumentsFit}
use Rattle.nomos_types.specs.Equality.{EqualTypes}
use Rattle.nomos_types.specs.Judgement.{Judgement, IsJudgement}
use Rattle.nomos_types.specs.Premises.{by_side}
use Rattle.nomos_types.specs.TypingRule.{TypingRule, StandsAtCode}
use Rattle.nomos_types.proofs.RowLaws.{RowAt, row-inverted}
use Rattle.nomos_check.specs.Account.{Account, spends, Affords}
use Rattle.nomos_check.specs.Asking.{IsOfType, Invokes, spawns, calls, ComparesTypes, sent, passed, called, forwarded, AsksPair, paid, got, carried, compared}
use Rattle.nomos_check.proofs.Beside.{Beside, has_type-back, affords}
use Rattle.nomos_check.proofs.BesideArguments.{of_type-unique, passed-type, passed-alike, passed-list, of_type-before_values, linear-ascends_after_values}
use Rattle.nomos_check.proofs.BesideRows.{only-bound}
use Rattle.nomos_check.proofs.ListAmounts.{list_at, found-both}

-- the parts of nodes that are the same, by the side from which a process sees its channel
sent-carried : (c : Chan) (a b d e : TypeId)
    → by_side c (node.Tensor a b) (node.Lolli a b) ≡ by_side c (node.Tensor d e) (node.Lolli d e) → a ≡ d
sent-carried chan.Own a b d e same = cc
sent-carried (chan.Var v) a b d e same = cc

paid-amount : (c : Chan) (q r : Amount) (a b : TypeId)
    → by_side c (node.PotOut q a) (node.PotIn q a) ≡ by_side c (node.PotOut r b) (node.PotIn r b) → q ≡ r
paid-amount chan.Own q r a b same = cc
paid-amount (chan.Var v) q r a b same = cc

got-amount : (c : Chan) (q r : Amount) (a b : TypeId)
    → by_side c (node.PotIn q a) (node.PotOut q a) ≡ by_side c (node.PotIn r b) (node.PotOut r b) → q ≡ r
got-amount chan.Own q r a b same = cc
got-amount (chan.Var v) q r a b same = cc

module _ {lists : ProgramLists} {x y : Annotations} {j k : Judgement} {a : Account} {after : List Judgement}
    (is_judgement : IsJudgement lists j) (beside : Beside x y j k a) (row : TypingRule lists x j after) where
  -- what holds on the second side, of the first one's parts
  back : (P : Judgement → Type 0) → P k → P (record j { lists = k.lists; q = k.q })
  back P holds = subst P beside.same holds

  -- what the row says of the node that stands there
  says : (n : CodeNode) → StandsAtCode lists k n → RowAt lists x j n after
  says n there = row-inverted n (back (λ s. StandsAtCode lists s n) there) row

  -- the arguments of what is spawned or called fit
  invoked-fit : (d : ProcDecl) (args : Args) → Invokes lists k d args
      → (left : Judgement) × ArgumentsFit lists x j d args left
  invoked-fit d args (spawns {at} {v} {f} {next = next} there declared) =
      let (o, left, h, e) = says (code.Spawn at v f args next) there in
      let found = h.declared in
      let same : o ≡ d = cc in
      (left, subst (λ (p : ProcDecl). ArgumentsFit lists x j p args left) same h.arguments)
  invoked-fit d args (calls {at} {f} there declared) =
      let (h, e) = says (code.Call at f args) there in
      let found = h.declared in
      let same : h.d ≡ d = cc in
      (h.left, subst (λ (p : ProcDecl). ArgumentsFit lists x j p args h.left) same h.arguments)

  -- compared types are equal
  compared-equal : (t u : TypeId) → ComparesTypes lists k t u → EqualTypes lists x t u
  compared-equal own wanted (sent {at} {c} {y = v} {next} there of t has) =
      let (left, s, h, e) = says (code.Send at c v next) there in
      let (its, its_of, alike) = passed-type h.passes in
      let same : its ≡ own = of_type-unique v its own is_judgement its_of (back (λ i. IsOfType i v own) of) in
      let heads = head-same lists j c _ _ h.channel (has_type-back c _ beside has) in
      let wanted_same : h.carried ≡ wanted = sent-carried c h.carried s wanted t heads in
      subst (λ (b : TypeId). EqualTypes lists x b wanted) same
      (subst (λ (b : TypeId). EqualTypes lists x its b) wanted_same alike.equal)
  compared-equal own _ (passed {d} {args} {v} {par} invokes among of) =
      let (left, fit) = invoked-fit d args invokes in
      let ascends = linear-ascends_after_values fit.values is_judgement.linear in
      let (its, its_of, alike) = passed-alike v par ascends fit.channels among in
      let before = of_type-before_values v its fit.values its_of in
      let same : its ≡ own = of_type-unique v its own is_judgement before (back (λ i. IsOfType i v own) of) in
      subst (λ (b : TypeId). EqualTypes lists x b par.1) same alike.equal
  compared-equal _ _ (called {at} {f} {args} {d} there declared) =
      let (h, e) = says (code.Call at f args) there in
      let found = h.declared in
      let same : h.d ≡ d = cc in
      let here : EqualTypes lists x j.offers d.offers =
      subst (λ (p : ProcDecl). EqualTypes lists x j.offers p.offers) same h.offers.equal in
      subst (λ (i : Judgement). EqualTypes lists x i.offers d.offers) (sym beside.same) here
  compared-equal _ own (forwarded {at} {v} there found) =
      let (h, e) = says (code.Fwd at v) there in
      let bound = only-bound v h.own j.linear h.only in
      let here : bound_to v.0 j.linear ≡ Some own = back (λ s. bound_to v.0 s.linear ≡ Some own) found in
      let same : h.own ≡ own = cc in
      let equal : EqualTypes lists x j.offers own =
      subst (λ (b : TypeId). EqualTypes lists x j.offers b) same h.alike.equal in
      subst (λ (i : Judgement). EqualTypes lists x i.offers own) (sym beside.same) equal

  -- the two amounts of a pair are worth the same
  pub asked-worth : (p : Amount × Amount) → AsksPair lists k a p → dths x p.0 ≡ dths x p.1
  asked-worth _ (paid {at} {c} {r} {s} {next} there t has) =
      let (u, h, e) = says (code.Pay at c r next) there in
      let heads = head-same lists j c _ _ h.channel (has_type-back c _ beside has) in
      h.same ∙ ap (dths x) (paid-amount c h.amount s u t heads)
  asked-worth _ (got {at} {c} {r} {s} {next} there t has) =
      let (u, h, e) = says (code.Get at c r next) there in
      let heads = head-same lists j c _ _ h.channel (has_type-back c _ beside has) in
      h.same ∙ ap (dths x) (got-amount c h.amount s u t heads)
  asked-worth _ (carried {d} {args} {w} {par} {r} {s} invokes among bound its) =
      let (left, fit) = invoked-fit d args invokes in
      let there = passed-list w par s is_judgement.lists_ascend fit.values among its in
      let found = found-both w.0 (list_at x par.kind s) beside.lists there in
      let its_carried = found.carried in
      let same : found.amount ≡ r = cc in
      ap (dths x) (sym same) ∙ sym found.worth
  asked-worth p (compared {t} {u} compares stand) = equal-worth lists x t u p (compared-equal t u compares) stand

  -- at a call the account affords what the called declaration needs
  pub call-affords : (at : ℕ) (f : ProcId) (args : Args) (d : ProcDecl) → StandsAtCode lists k (code.Call at f args)
      → slice_get lists.procs f.0 ≡ Some d → Affords x (spends d.amount a)
  call-affords at f args d there declared =
      let (h, e) = says (code.Call at f args) there in
      let found = h.declared in
      let same : h.d ≡ d = cc in
      subst (λ (p : ProcDecl). Affords x (spends p.amount a)) same (affords beside h.d.amount h.enough)
