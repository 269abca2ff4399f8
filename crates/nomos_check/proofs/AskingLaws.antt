-- Inversion: at an instruction the node fixes which pairs of amounts it asks for.
use Rattle.std.proofs.Common.{◌≡◌, ◌⊎◌, inl, inr, Contains, Some, slice_get, refl, sym, subst}
use Rattle.std.specs.Prelude.{zip}
use Rattle.nomos_ir.specs.declared.amount.Amount.{Amount}
use Rattle.nomos_ir.specs.declared.code_node.Args.{Args}
use Rattle.nomos_ir.specs.declared.code_node.CodeNode.{CodeNode}
use Rattle.nomos_ir.specs.declared.code_node.CodeNode.TheVariants as code
use Rattle.nomos_ir.specs.declared.code_node.ValueArg.TheVariants as arg
use Rattle.nomos_ir.specs.declared.declaration.Par.{Par}
use Rattle.nomos_ir.specs.declared.declaration.ProcDecl.{ProcDecl}
use Rattle.nomos_ir.specs.declared.ids.TypeId.{TypeId}
use Rattle.nomos_ir.specs.declared.ids.VarId.{VarId}
use Rattle.nomos_ir.specs.declared.lists.ProgramLists.{ProgramLists}
use Rattle.nomos_ir.specs.declared.type_node.TypeNode.TheVariants as node
use Rattle.nomos_ir.specs.Bindings.{bound_to}
use Rattle.nomos_equality.specs.Paths.{StandAtEqualPaths}
use Rattle.nomos_types.specs.Judgement.{Judgement}
use Rattle.nomos_types.specs.Premises.{HasType, by_side}
use Rattle.nomos_types.specs.TypingRule.{StandsAtCode}
use Rattle.nomos_check.specs.Account.{Account}
use Rattle.nomos_check.specs.Asking.{IsOfType, Invokes, spawns, calls, ComparesTypes, sent, passed, called, forwarded, AsksPair, paid, got, carried, compared}

-- a list argument of a declaration carries r, and its parameter says s
pub record CarriesPair (a : Account) (d : ProcDecl) (args : Args) (pair : Amount × Amount) : Type 0 where
  pub w : VarId
  pub par : Par
  pub passes : Contains (zip args.values d.values) (arg.List w, par)
  pub carries : bound_to w.0 a.lists ≡ Some pair.0
  pub says : par.amount ≡ Some pair.1

-- a channel argument of a declaration and its parameter have the pair at equal paths
pub record PassesPair (lists : ProgramLists) (j : Judgement) (d : ProcDecl) (args : Args) (pair : Amount × Amount)
    : Type 0 where
  pub v : VarId
  pub par : VarId × TypeId
  pub own : TypeId
  pub passes : Contains (zip args.channels d.channels) (v, par)
  pub is_of : IsOfType j v own
  pub paths : StandAtEqualPaths lists own par.1 pair

-- the arguments ask for the pair
abbrev pub ArgumentsAsk : ProgramLists → Judgement → Account → ProcDecl → Args → Amount × Amount → Type 0
ArgumentsAsk lists j a d args pair = CarriesPair a d args pair ⊎ PassesPair lists j d args pair

-- what is asked for where this node stands
abbrev pub AsksAt : ProgramLists → Judgement → Account → CodeNode → Amount × Amount → Type 0
AsksAt lists j a (code.Pay at c r next) pair =
    (s : Amount) × (t : TypeId) × HasType lists j c (by_side c (node.PotOut s t) (node.PotIn s t)) × (pair ≡ (r, s))
AsksAt lists j a (code.Get at c r next) pair =
    (s : Amount) × (t : TypeId) × HasType lists j c (by_side c (node.PotIn s t) (node.PotOut s t)) × (pair ≡ (r, s))
AsksAt lists j a (code.Send at c y next) pair =
    (own : TypeId) × (carried : TypeId) × (t : TypeId) × IsOfType j y own
    × HasType lists j c (by_side c (node.Tensor carried t) (node.Lolli carried t))
    × StandAtEqualPaths lists own carried pair
AsksAt lists j a (code.Spawn at v f args next) pair =
    (d : ProcDecl) × (slice_get lists.procs f.0 ≡ Some d) × ArgumentsAsk lists j a d args pair
AsksAt lists j a (code.Call at f args) pair =
    (d : ProcDecl) × (slice_get lists.procs f.0 ≡ Some d)
    × (ArgumentsAsk lists j a d args pair ⊎ StandAtEqualPaths lists j.offers d.offers pair)
AsksAt lists j a (code.Fwd at v) pair =
    (own : TypeId) × (bound_to v.0 j.linear ≡ Some own) × StandAtEqualPaths lists j.offers own pair
AsksAt lists j a _ pair = ⊥

-- the same, with some node that stands there
abbrev AsksSomewhere : ProgramLists → Judgement → Account → Amount × Amount → Type 0
AsksSomewhere lists j a pair = (m : CodeNode) × StandsAtCode lists j m × AsksAt lists j a m pair

module _ {lists : ProgramLists} {j : Judgement} {a : Account} where
  arguments-asked : {d : ProcDecl} {args : Args} (pair : Amount × Amount) → Invokes lists j d args
      → ArgumentsAsk lists j a d args pair → AsksSomewhere lists j a pair
  arguments-asked pair (spawns {d = d} stands found) says = (_, stands, (d, found, says))
  arguments-asked pair (calls {d = d} stands found) says = (_, stands, (d, found, inl says))

  compared-asked : {t u : TypeId} (pair : Amount × Amount) → ComparesTypes lists j t u
      → StandAtEqualPaths lists t u pair
      → AsksSomewhere lists j a pair
  compared-asked pair (sent {own = own} {carried = its} stands is_of t channel) paths =
      (_, stands, (own, its, t, is_of, channel, paths))
  compared-asked pair (passed {v = v} {par = par} {own = own} invokes among is_of) paths =
      arguments-asked pair invokes
      (inr (record { v = v; par = par; own = own; passes = among; is_of = is_of; paths = paths }))
  compared-asked pair (called {d = d} stands found) paths = (_, stands, (d, found, inr paths))
  compared-asked pair (forwarded {own = own} stands found) paths = (_, stands, (own, found, paths))

  asked-somewhere : {pair : Amount × Amount} → AsksPair lists j a pair → AsksSomewhere lists j a pair
  asked-somewhere (paid {s = s} stands t channel) = (_, stands, (s, t, channel, refl))
  asked-somewhere (got {s = s} stands t channel) = (_, stands, (s, t, channel, refl))
  asked-somewhere (carried {w = w} {par = par} {r = r} {s = s} invokes among carries says) =
      arguments-asked (r, s) invokes
      (inl (record { w = w; par = par; passes = among; carries = carries; says = says }))
  asked-somewhere (compared {pair = pair} compares paths) = compared-asked pair compares paths

  -- the node that stands there asks for the pair
  pub asks-at : {pair : Amount × Amount} (n : CodeNode) → StandsAtCode lists j n → AsksPair lists j a pair
      → AsksAt lists j a n pair
  asks-at {pair} n stands asks =
      let (m, there, says) = asked-somewhere asks in
      let same : m ≡ n = cc in
      subst (λ (k : CodeNode). AsksAt lists j a k pair) same says

  invoked-asks : {d : ProcDecl} {args : Args} {pair : Amount × Amount} → Invokes lists j d args
      → ArgumentsAsk lists j a d args pair → AsksPair lists j a pair
  invoked-asks invokes (inl says) = carried invokes says.passes says.carries says.says
  invoked-asks invokes (inr says) = compared (passed invokes says.passes says.is_of) says.paths

  -- what the node asks for that stands there
  pub asked-at : {pair : Amount × Amount} (n : CodeNode) → StandsAtCode lists j n → AsksAt lists j a n pair
      → AsksPair lists j a pair
  asked-at {pair} (code.Pay at c r next) stands (s, t, channel, same) =
      subst (λ (p : Amount × Amount). AsksPair lists j a p) (sym same) (paid stands t channel)
  asked-at {pair} (code.Get at c r next) stands (s, t, channel, same) =
      subst (λ (p : Amount × Amount). AsksPair lists j a p) (sym same) (got stands t channel)
  asked-at (code.Send at c y next) stands (own, its, t, is_of, channel, paths) =
      compared (sent stands is_of t channel) paths
  asked-at (code.Spawn at v f args next) stands (d, found, says) = invoked-asks (spawns stands found) says
  asked-at (code.Call at f args) stands (d, found, inl says) = invoked-asks (calls stands found) says
  asked-at (code.Call at f args) stands (d, found, inr paths) = compared (called stands found) paths
  asked-at (code.Fwd at v) stands (own, found, paths) = compared (forwarded stands found) paths
  asked-at _ stands says = absurd says
