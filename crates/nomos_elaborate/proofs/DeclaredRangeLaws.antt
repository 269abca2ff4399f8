-- The ids in the declarations of a text are in range, where its claims hold.
use Rattle.std.proofs.Common.{ℕ, ◌<◌, ◌≤◌, true, false, List, [], ◌∷◌, ◌++◌, length, get_or, All, Option, Some, None, arith}
use Rattle.std.proofs.lemmas.List.Elements.{All-nil, All-cons, All-push}
use Rattle.nomos_elaborate.proofs.BuiltRangeLaws.{InRange, InRange-nothing, none_below, Made, Made-then, Made-same, aside_made, variable_made, amount_made, type_put}
use Rattle.nomos_elaborate.proofs.NameClaimLaws.{AllHold, rest_hold, left_hold, right_hold}
use Rattle.nomos_elaborate.proofs.CodeRange.{code_made}
use Rattle.nomos_elaborate.proofs.TypeRange.{type_made, term_made}
use Rattle.nomos_elaborate.specs.Built.{Built, with_variable, variable_id, put_type}
use Rattle.nomos_elaborate.specs.NameClaim.{new_among, new_on_way}
use Rattle.nomos_elaborate.specs.CodeBuild.{build_code}
use Rattle.nomos_elaborate.specs.CodeClaims.{Place, code_claims}
use Rattle.nomos_elaborate.specs.FileBuild.{Declared, nothing_declared, build_value_pars, build_process_pars, build_chan_pars, par_amount, declared_amount, with_payer, add_decl, add_decls}
use Rattle.nomos_elaborate.specs.FileClaims.{value_pars_claims, value_pars_scope, chan_pars_claims, process_pars_claims, process_pars_scope, pars_claims, pars_scope, decl_claims, decls_claims}
use Rattle.nomos_elaborate.specs.Scope.{Scope, bind}
use Rattle.nomos_elaborate.specs.Spaces.{declaring}
use Rattle.nomos_elaborate.specs.TermBuild.{build_term}
use Rattle.nomos_elaborate.specs.TermClaims.{term_claims}
use Rattle.nomos_elaborate.specs.TypeBuild.{build_type}
use Rattle.nomos_elaborate.specs.TypeClaims.{type_claims}
use Rattle.nomos_elaborate.specs.declared.sort.Sort.TheVariants as sort
use Rattle.nomos_elaborate.specs.declared.spaces.Spaces.{Spaces}
use Rattle.nomos_ir.specs.declared.declaration.FnDecl.{FnDecl}
use Rattle.nomos_ir.specs.declared.declaration.ProcDecl.{ProcDecl}
use Rattle.nomos_ir.specs.declared.ids.TypeId.{TypeId}
use Rattle.nomos_ir.specs.declared.ids.VarId.{VarId}
use Rattle.nomos_ir.specs.declared.type_node.Def.{Def}
use Rattle.nomos_ir.specs.declared.type_node.TypeNode.TheVariants as node
use Rattle.nomos_surface.specs.declared.declarations.ListPotential.{ListPotential}
use Rattle.nomos_surface.specs.declared.declarations.ProcessPar.{ProcessPar}
use Rattle.nomos_surface.specs.declared.declarations.ValuePar.{ValuePar}
use Rattle.nomos_surface.specs.declared.potential.Potential.{Potential}
use Rattle.nomos_surface.specs.declared.surface.CostModel.{CostModel}
use Rattle.nomos_surface.specs.Tree.{ChanParTree, DeclTree, definition, function, process, transaction}

-- a process beside t type nodes and c code nodes
pub record ProcFits (t c : ℕ) (d : ProcDecl) : Type 0 where
  pub channels : All (λ par. par.1.0 < t) d.channels
  pub offers : d.offers.0 < t
  pub first : d.first.0 < c

-- what was declared has no id out of range
pub record DeclaredInRange (all : Spaces) (d : Declared) : Type 0 where
  pub built : InRange all d.built
  pub defs : All (λ e. e.body.0 < length d.built.types) d.defs
  pub fns : All (λ e. e.body.0 < length d.built.terms) d.fns
  pub procs : All (ProcFits (length d.built.types) (length d.built.code)) d.procs

-- channel parameters, each with its type
record ChansMade (all : Spaces) (s : Built) (built : Built × List (VarId × TypeId)) : Type 0 where
  made : Made all s built.0
  below : All (λ par. par.1.0 < length built.0.types) built.1

-- longer lists change nothing
defs_more : (t u : ℕ) → t ≤ u → (defs : List Def) → All (λ e. e.body.0 < t) defs → All (λ e. e.body.0 < u) defs
defs_more t u more defs h = λ k x within. let below = h k x within in omega arith

fns_more : (t u : ℕ) → t ≤ u → (fns : List FnDecl) → All (λ e. e.body.0 < t) fns → All (λ e. e.body.0 < u) fns
fns_more t u more fns h = λ k x within. let below = h k x within in omega arith

pars_more : (t u : ℕ) → t ≤ u → (pars : List (VarId × TypeId)) → All (λ par. par.1.0 < t) pars
    → All (λ par. par.1.0 < u) pars
pars_more t u more pars h = λ k x within. let below = h k x within in omega arith

ProcFits-more : (t u c d : ℕ) → t ≤ u → c ≤ d → (proc : ProcDecl) → ProcFits t c proc → ProcFits u d proc
ProcFits-more t u c d types codes proc h =
    let offers = h.offers in
    let first = h.first in
    record { channels = pars_more t u types proc.channels h.channels; offers = omega arith; first = omega arith }

procs_more : (t u c d : ℕ) → t ≤ u → c ≤ d → (procs : List ProcDecl) → All (ProcFits t c) procs
    → All (ProcFits u d) procs
procs_more t u c d types codes procs h = λ k x within.
    ProcFits-more t u c d types codes (get_or procs k x) (h k x within)

pub DeclaredInRange-none : (all : Spaces) → DeclaredInRange all nothing_declared
DeclaredInRange-none all = record {
  built = InRange-nothing all;
  defs = All-nil (λ (e : Def). e.body.0 < 0);
  fns = All-nil (λ (e : FnDecl). e.body.0 < 0);
  procs = All-nil (ProcFits 0 0);
}

module _ (all : Spaces) where
  -- parameters
  value_pars_made : (s : Built) (pars : List ValuePar) → InRange all s → Made all s (build_value_pars s pars).0
  value_pars_made s [] r = Made-same all s r
  value_pars_made s (p ∷ pars) r =
      let bound = with_variable s p.name in
      let v = variable_made all s p.name r in
      Made-then all s bound (build_value_pars bound pars).0 v (value_pars_made bound pars v.range)

  par_amount_made : (s : Built) (q : Option ListPotential) → InRange all s → Made all s (par_amount s q).0
  par_amount_made s None r = Made-same all s r
  par_amount_made s (Some q) r = amount_made all s q.potential r

  process_pars_made : (s : Built) (pars : List ProcessPar) → InRange all s → Made all s (build_process_pars s pars).0
  process_pars_made s [] r = Made-same all s r
  process_pars_made s (p ∷ pars) r =
      let bound = with_variable s p.name in
      let paid = (par_amount bound p.list).0 in
      let v = variable_made all s p.name r in
      let q = par_amount_made bound p.list v.range in
      let more = process_pars_made paid pars q.range in
      Made-then all s paid (build_process_pars paid pars).0 (Made-then all s bound paid v q) more

  chan_pars_made : (scope : Scope) (s : Built) (pars : List ChanParTree)
      → AllHold (chan_pars_claims all.types scope pars) → InRange all s
      → ChansMade all s (build_chan_pars all.types s pars)
  chan_pars_made scope s [] hold r =
      record { made = Made-same all s r; below = All-nil (λ (par : VarId × TypeId). par.1.0 < length s.types) }
  chan_pars_made scope s (p ∷ pars) hold r =
      let bound = with_variable s p.name in
      let a = build_type all.types bound p.goes in
      let b = build_chan_pars all.types a.0 pars in
      let inner = bind scope p.name sort.Channel in
      let ones = type_claims all.types p.goes in
      let others = chan_pars_claims all.types inner pars in
      let rest = rest_hold (new_on_way scope p.name) (ones ++ others) hold in
      let v = variable_made all s p.name r in
      let h = type_made all bound p.goes (left_hold ones others rest) v.range in
      let i = chan_pars_made inner a.0 pars (right_hold ones others rest) h.made.range in
      let below : a.1.0 < length b.0.types = let below = h.below in let longer = i.made.longer.types in omega arith in
      record {
        made = Made-then all s a.0 b.0 (Made-then all s bound a.0 v h.made) i.made;
        below =
            All-cons (λ (par : VarId × TypeId). par.1.0 < length b.0.types) (variable_id bound p.name, a.1) b.1 below
            i.below;
      }

  declared_amount_made : (s : Built) (q : Option Potential) → InRange all s → Made all s (declared_amount s q).0
  declared_amount_made s None r = Made-same all s r
  declared_amount_made s (Some q) r = amount_made all s q r

  -- a process more
  proc_declared : (d : Declared) (proc : ProcDecl) (t : Built) → DeclaredInRange all d → Made all d.built t
      → ProcFits (length t.types) (length t.code) proc
      → DeclaredInRange all (record d { procs = d.procs ++ proc ∷ []; built = t })
  proc_declared d proc t r h fits = record {
    built = h.range;
    defs = defs_more (length d.built.types) (length t.types) h.longer.types d.defs r.defs;
    fns = fns_more (length d.built.terms) (length t.terms) h.longer.terms d.fns r.fns;
    procs =
        All-push (ProcFits (length t.types) (length t.code)) d.procs proc
        (procs_more (length d.built.types) (length t.types) (length d.built.code) (length t.code) h.longer.types
        h.longer.code d.procs r.procs)
        fits;
  }

  -- a declaration more
  decl_made : (model : CostModel) (before : Spaces) (d : Declared) (decl : DeclTree)
      → AllHold (decl_claims all before decl) → DeclaredInRange all d
      → DeclaredInRange all (add_decl model all d decl)
  decl_made model before d (definition at m n body) hold r =
      let t = (build_type all.types d.built body).0 in
      let claims = rest_hold (new_among before.types n) (type_claims all.types body) hold in
      let h = type_made all d.built body claims r.built in
      let l = h.made.longer in
      record {
        built = h.made.range;
        defs =
            All-push (λ (e : Def). e.body.0 < length t.types) d.defs _
            (defs_more (length d.built.types) (length t.types) l.types d.defs r.defs) h.below;
        fns = fns_more (length d.built.terms) (length t.terms) l.terms d.fns r.fns;
        procs =
            procs_more (length d.built.types) (length t.types) (length d.built.code) (length t.code) l.types l.code
            d.procs r.procs;
      }
  decl_made model before d (function at n pars gives body) hold r =
      let bound = (build_value_pars d.built pars).0 in
      let t = (build_term all.functions bound body).0 in
      let heads = value_pars_claims [] pars in
      let claims = term_claims all.functions false (value_pars_scope [] pars) body in
      let rest = rest_hold (new_among before.functions n) (heads ++ claims) hold in
      let v = value_pars_made d.built pars r.built in
      let h = term_made all false (value_pars_scope [] pars) bound body (right_hold heads claims rest) v.range in
      let l = (Made-then all d.built bound t v h.made).longer in
      record {
        built = h.made.range;
        defs = defs_more (length d.built.types) (length t.types) l.types d.defs r.defs;
        fns =
            All-push (λ (e : FnDecl). e.body.0 < length t.terms) d.fns _
            (fns_more (length d.built.terms) (length t.terms) l.terms d.fns r.fns) h.below;
        procs =
            procs_more (length d.built.types) (length t.types) (length d.built.code) (length t.code) l.types l.code
            d.procs r.procs;
      }
  decl_made model before d (process at m n pars potential offers body) hold r =
      let values = (build_process_pars d.built pars.values).0 in
      let channels = build_chan_pars all.types values pars.channels in
      let paid = (declared_amount channels.0 potential).0 in
      let offered = build_type all.types paid offers in
      let first = build_code model all (pars_scope pars) offered.0 body in
      let place : Place = record { spaces = all; inside = false } in
      let heads = pars_claims all.types pars in
      let types = type_claims all.types offers in
      let codes = code_claims place (pars_scope pars) body in
      let whole = rest_hold (new_among before.processes n) (heads ++ types ++ codes) hold in
      let front = left_hold (heads ++ types) codes whole in
      let scope = process_pars_scope [] pars.values in
      let first_pars = process_pars_claims [] pars.values in
      let last_pars = chan_pars_claims all.types scope pars.channels in
      let chans = right_hold first_pars last_pars (left_hold heads types front) in
      let v = process_pars_made d.built pars.values r.built in
      let c = chan_pars_made scope values pars.channels chans v.range in
      let q = declared_amount_made channels.0 potential c.made.range in
      let o = type_made all paid offers (right_hold heads types front) q.range in
      let last = right_hold (heads ++ types) codes whole in
      let f = code_made place model (pars_scope pars) offered.0 body last o.made.range in
      let typed = Made-then all channels.0 paid offered.0 q o.made in
      let since = Made-then all channels.0 offered.0 first.0 typed f.made in
      let offers_below : offered.1.0 < length first.0.types =
      let below = o.below in let longer = f.made.longer.types in omega arith in
      proc_declared d _ first.0 r
      (Made-then all d.built channels.0 first.0 (Made-then all d.built values channels.0 v c.made) since)
      (record {
        channels = pars_more (length channels.0.types) (length first.0.types) since.longer.types channels.1 c.below;
        offers = offers_below;
        first = f.below;
      })
  decl_made model before d (transaction at n pars potential body) hold r =
      let payer = with_payer d.built in
      let values = (build_process_pars payer pars.values).0 in
      let channels = build_chan_pars all.types values pars.channels in
      let offered = put_type channels.0 node.One at in
      let paid = (declared_amount offered.0 potential).0 in
      let first = build_code model all (pars_scope pars) paid body in
      let place : Place = record { spaces = all; inside = true } in
      let heads = pars_claims all.types pars in
      let codes = code_claims place (pars_scope pars) body in
      let whole = rest_hold (new_among before.processes n) (heads ++ codes) hold in
      let scope = process_pars_scope [] pars.values in
      let first_pars = process_pars_claims [] pars.values in
      let last_pars = chan_pars_claims all.types scope pars.channels in
      let chans = right_hold first_pars last_pars (left_hold heads codes whole) in
      let p = aside_made all d.built payer.variables d.built.stars r.built in
      let v = process_pars_made payer pars.values p.range in
      let c = chan_pars_made scope values pars.channels chans v.range in
      let o =
      type_put all channels.0 channels.0 node.One at (Made-same all channels.0 c.made.range)
      (record { parts = none_below _; names = none_below _; labels = none_below _ }) in
      let q = declared_amount_made offered.0 potential o.made.range in
      let f = code_made place model (pars_scope pars) paid body (right_hold heads codes whole) q.range in
      let after = Made-then all offered.0 paid first.0 q f.made in
      let since = Made-then all channels.0 offered.0 first.0 o.made after in
      let offers_below : offered.1.0 < length first.0.types =
      let below = o.below in let longer = after.longer.types in omega arith in
      let headed = Made-then all d.built values channels.0 (Made-then all d.built payer values p v) c.made in
      proc_declared d _ first.0 r (Made-then all d.built channels.0 first.0 headed since)
      (record {
        channels = pars_more (length channels.0.types) (length first.0.types) since.longer.types channels.1 c.below;
        offers = offers_below;
        first = f.below;
      })

  -- all declarations
  pub decls_made : (model : CostModel) (before : Spaces) (d : Declared) (decls : List DeclTree)
      → AllHold (decls_claims all before decls) → DeclaredInRange all d
      → DeclaredInRange all (add_decls model all d decls)
  decls_made model before d [] hold r = r
  decls_made model before d (decl ∷ decls) hold r =
      let ones = decl_claims all before decl in
      let others = decls_claims all (declaring before decl) decls in
      decls_made model (declaring before decl) (add_decl model all d decl) decls (right_hold ones others hold)
      (decl_made model before d decl (left_hold ones others hold) r)
