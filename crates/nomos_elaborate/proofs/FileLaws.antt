-- What the code makes of declarations, and where it ends early, is what the definitions say.
use Rattle.std.proofs.Common.{◌≡◌, Bool, true, false, List, [], ◌∷◌, ◌++◌, refl, ap, ◌∙◌}
use Rattle.nomos_elaborate.proofs.CheckedLaws.{demand-then, law-then, law-last, grouped-law, bind-then, now_bound}
use Rattle.nomos_elaborate.proofs.CodeLaws.{code_law}
use Rattle.nomos_elaborate.proofs.TermLaws.{term_law}
use Rattle.nomos_elaborate.proofs.TypeLaws.{type_law}
use Rattle.nomos_elaborate.specs.Built.{kind_of}
use Rattle.nomos_elaborate.specs.NameClaim.{new_among, new_on_way}
use Rattle.nomos_elaborate.specs.CodeBuild.{build_code}
use Rattle.nomos_elaborate.specs.CodeClaims.{code_claims}
use Rattle.nomos_elaborate.specs.CostModel.{model_of}
use Rattle.nomos_elaborate.specs.FileBuild.{Declared, build_value_pars, build_process_pars, build_chan_pars, par_amount, declared_amount, add_decl, add_decls, lists_of, program_of}
use Rattle.nomos_elaborate.specs.FileClaims.{value_pars_claims, value_pars_scope, par_sort, process_pars_claims, process_pars_scope, chan_pars_claims, chan_pars_scope, pars_claims, pars_scope, decl_claims, decls_claims, claims_of}
use Rattle.nomos_elaborate.specs.Scope.{Scope}
use Rattle.nomos_elaborate.specs.Spaces.{declaring, declaring_all, no_names}
use Rattle.nomos_elaborate.specs.TermBuild.{build_term}
use Rattle.nomos_elaborate.specs.TermClaims.{term_claims}
use Rattle.nomos_elaborate.specs.TypeBuild.{build_type}
use Rattle.nomos_elaborate.specs.TypeClaims.{type_claims}
use Rattle.nomos_elaborate.specs.declared.elaborator.Elaborator.{Elaborator}
use Rattle.nomos_elaborate.specs.declared.sort.Sort.TheVariants as sort
use Rattle.nomos_elaborate.specs.mirror.Agrees.{where_all_hold}
use Rattle.nomos_elaborate.specs.mirror.Checked.{found}
use Rattle.nomos_elaborate.specs.mirror.Each.{each}
use Rattle.nomos_elaborate.specs.mirror.FileCheck.{Head, Progress, at_head, begun, check_value_par, check_process_par, check_chan_par, check_pars, check_def, check_fn, check_proc, check_transaction, check_body, check_decls, check_lists, head, named_too, the_def, the_fn, the_proc, the_transaction, ended, all_made}
use Rattle.nomos_elaborate.specs.mirror.Work.{made, payer_seen}
use Rattle.nomos_ir.specs.declared.declaration.Par.{Par}
use Rattle.nomos_ir.specs.declared.ids.TypeId.{TypeId}
use Rattle.nomos_ir.specs.declared.ids.VarId.{VarId}
use Rattle.nomos_ir.specs.declared.kind.Kind.{Kind}
use Rattle.nomos_surface.specs.declared.declarations.ProcessPar.{ProcessPar}
use Rattle.nomos_surface.specs.declared.declarations.ValuePar.{ValuePar}
use Rattle.nomos_surface.specs.Tree.{ChanParTree, ParTrees, DeclTree, definition, function, process, transaction, FileTree}

-- parameters of functions
abbrev value_pars_built : Elaborator → List ValuePar → Elaborator × List (VarId × Kind)
value_pars_built w pars =
    let b = build_value_pars w.built pars in
    (record w { scope = value_pars_scope w.scope pars; built = b.0 }, b.1)

abbrev value_par_built : Elaborator → ValuePar → Elaborator × (VarId × Kind)
value_par_built w p = let v = now_bound w p.name sort.Value in (v.0, (v.1, kind_of p.value))

value_pars_law : (w : Elaborator) (pars : List ValuePar)
    → each check_value_par w pars ≡ where_all_hold (value_pars_claims w.scope pars) (value_pars_built w pars)
unfolding each
value_pars_law w [] = refl
value_pars_law w (p ∷ pars) =
    let v = (value_par_built w p).0 in
    let more = value_pars_claims v.scope pars in
    law-then (value_par_built w p) _ more _ _ (new_on_way w.scope p.name ∷ [])
    (bind-then w p.name sort.Value [] _ _ (λ h. refl))
    (law-last (value_pars_built v pars) _ _ _ more (value_pars_law v pars) refl)

-- parameters of processes that are no channels
abbrev process_par_built : Elaborator → ProcessPar → Elaborator × Par
process_par_built w p =
    let v = now_bound w p.name (par_sort p.list) in
    let paid = par_amount v.0.built p.list in
    (record v.0 { built = paid.0 }, record { var = v.1; kind = kind_of p.value; amount = paid.1 })

abbrev process_pars_built : Elaborator → List ProcessPar → Elaborator × List Par
process_pars_built w pars =
    let b = build_process_pars w.built pars in
    (record w { scope = process_pars_scope w.scope pars; built = b.0 }, b.1)

process_pars_law : (w : Elaborator) (pars : List ProcessPar)
    → each check_process_par w pars ≡ where_all_hold (process_pars_claims w.scope pars) (process_pars_built w pars)
unfolding each
process_pars_law w [] = refl
process_pars_law w (p ∷ pars) =
    let v = (process_par_built w p).0 in
    let more = process_pars_claims v.scope pars in
    law-then (process_par_built w p) _ more _ _ (new_on_way w.scope p.name ∷ [])
    (bind-then w p.name (par_sort p.list) [] _ _ (λ h. refl))
    (law-last (process_pars_built v pars) _ _ _ more (process_pars_law v pars) refl)

-- channel parameters
abbrev chan_par_built : Elaborator → ChanParTree → Elaborator × (VarId × TypeId)
chan_par_built w p =
    let v = now_bound w p.name sort.Channel in
    let b = build_type w.spaces.types v.0.built p.goes in
    (record v.0 { built = b.0 }, (v.1, b.1))

abbrev chan_pars_built : Elaborator → List ChanParTree → Elaborator × List (VarId × TypeId)
chan_pars_built w pars =
    let b = build_chan_pars w.spaces.types w.built pars in
    (record w { scope = chan_pars_scope w.scope pars; built = b.0 }, b.1)

chan_par_law : (w : Elaborator) (p : ChanParTree)
    → check_chan_par w p ≡ where_all_hold (new_on_way w.scope p.name ∷ type_claims w.spaces.types p.goes)
    (chan_par_built w p)
chan_par_law w p =
    let v = (now_bound w p.name sort.Channel).0 in
    let claims = type_claims w.spaces.types p.goes in
    bind-then w p.name sort.Channel claims _ _ (λ h.
    law-last (made v (build_type v.spaces.types v.built p.goes)) _ _ _ claims (type_law v p.goes) refl)

chan_pars_law : (w : Elaborator) (pars : List ChanParTree)
    → each check_chan_par w pars ≡ where_all_hold (chan_pars_claims w.spaces.types w.scope pars)
    (chan_pars_built w pars)
unfolding each
chan_pars_law w [] = refl
chan_pars_law w (p ∷ pars) =
    let v = (chan_par_built w p).0 in
    let more = chan_pars_claims w.spaces.types v.scope pars in
    law-then (chan_par_built w p) _ more _ _ (new_on_way w.scope p.name ∷ type_claims w.spaces.types p.goes)
    (chan_par_law w p)
    (law-last (chan_pars_built v pars) _ _ _ more (chan_pars_law v pars) refl)

-- the parameters of a process, where nothing is bound
abbrev pars_built : Elaborator → ParTrees → Elaborator × Head
pars_built w pars =
    let values = process_pars_built w pars.values in
    let channels = chan_pars_built values.0 pars.channels in
    (channels.0, head values.1 channels.1)

pars_law : (w : Elaborator) (pars : ParTrees) → w.scope ≡ []
    → check_pars w pars ≡ where_all_hold
    (process_pars_claims w.scope pars.values
    ++ chan_pars_claims w.spaces.types (process_pars_scope w.scope pars.values) pars.channels) (pars_built w pars)
pars_law w pars none =
    let v = (process_pars_built w pars.values).0 in
    let channels = chan_pars_claims v.spaces.types v.scope pars.channels in
    law-then (process_pars_built w pars.values) _ channels _ _ (process_pars_claims w.scope pars.values)
    (process_pars_law w pars.values)
    (law-last (chan_pars_built v pars.channels) _ _ _ channels (chan_pars_law v pars.channels) refl)

-- a progress beside what is declared: the walk is somewhere in a declaration that has ended
abbrev declared_in : Progress → Declared
declared_in v = record { defs = v.defs; fns = v.fns; procs = v.procs; built = v.work.built }

-- where the walk is after a declaration
abbrev scope_left : Scope → DeclTree → Scope
scope_left scope (definition at m n body) = scope
scope_left scope (function at n pars gives body) = value_pars_scope [] pars
scope_left scope (process at m n pars potential offers body) = pars_scope pars
scope_left scope (transaction at n pars potential body) = pars_scope pars

abbrev inside_left : Bool → DeclTree → Bool
inside_left inside (definition at m n body) = inside
inside_left inside (function at n pars gives body) = false
inside_left inside (process at m n pars potential offers body) = false
inside_left inside (transaction at n pars potential body) = true

abbrev with_decl : Progress → DeclTree → Progress
with_decl v decl =
    let d = add_decl v.work.model v.work.spaces (declared_in v) decl in
    record {
      defs = d.defs;
      fns = d.fns;
      procs = d.procs;
      before = v.before;
      work =
          record v.work {
            inside = inside_left v.work.inside decl;
            scope = scope_left v.work.scope decl;
            built = d.built;
          };
    }

body_law : (v : Progress) (decl : DeclTree)
    → check_body v decl ≡ where_all_hold (decl_claims v.work.spaces v.before decl) (with_decl v decl)
unfolding check_body check_def check_fn check_proc check_transaction
body_law v (definition at m n body) =
    let w = v.work in
    let t = made w (build_type w.spaces.types w.built body) in
    let claims = type_claims w.spaces.types body in
    demand-then (new_among v.before.types n) claims _ _ (λ h.
    law-last (the_def t n m) _ _ _ claims (law-last t _ _ _ claims (type_law w body) refl) refl)
body_law v (function at n pars gives body) =
    let w = at_head false v.work in
    let p = value_pars_built w pars in
    let b = made p.0 (build_term w.spaces.functions p.0.built body) in
    let heads = value_pars_claims [] pars in
    let claims = term_claims w.spaces.functions false (value_pars_scope [] pars) body in
    demand-then (new_among v.before.functions n) (heads ++ claims) _ _ (λ h.
    law-last (the_fn n p.1 (kind_of gives) b) _ _ _ (heads ++ claims)
    (law-then p _ claims _ _ heads (value_pars_law w pars) (law-last b _ _ _ claims (term_law p.0 body) refl)) refl)
body_law v (process at m n pars potential offers body) =
    let w = at_head false v.work in
    let p = pars_built w pars in
    let q = made p.0 (declared_amount p.0.built potential) in
    let o = made q.0 (build_type w.spaces.types q.0.built offers) in
    let c = made o.0 (build_code w.model w.spaces (pars_scope pars) o.0.built body) in
    let heads = pars_claims w.spaces.types pars in
    let types = type_claims w.spaces.types offers in
    let codes = code_claims (record { spaces = w.spaces; inside = false }) (pars_scope pars) body in
    demand-then (new_among v.before.processes n) (heads ++ (types ++ codes)) _ _ (λ h.
    law-last (the_proc n m p.1 q.1 o.1 c) _ _ _ (heads ++ (types ++ codes))
    (law-then p _ (types ++ codes) _ _ heads (pars_law w pars refl)
    (law-then o _ codes _ _ types (type_law q.0 offers) (law-last c _ _ _ codes (code_law o.0 body) refl))) refl)
    ∙ grouped-law (new_among v.before.processes n ∷ heads) types codes _
body_law v (transaction at n pars potential body) =
    let w = made (at_head true v.work) (payer_seen v.work.built) in
    let p = pars_built w.0 pars in
    let o = ended p.0 at in
    let q = made o.0 (declared_amount o.0.built potential) in
    let c = made q.0 (build_code w.0.model w.0.spaces (pars_scope pars) q.0.built body) in
    let heads = pars_claims w.0.spaces.types pars in
    let codes = code_claims (record { spaces = w.0.spaces; inside = true }) (pars_scope pars) body in
    demand-then (new_among v.before.processes n) (heads ++ codes) _ _ (λ h.
    law-last (the_transaction n w.1 p.1 q.1 o.1 c) _ _ _ (heads ++ codes)
    (law-then p _ codes _ _ heads (pars_law w.0 pars refl) (law-last c _ _ _ codes (code_law q.0 body) refl)) refl)

abbrev with_decls : Progress → List DeclTree → Progress
with_decls v [] = v
with_decls v (d ∷ decls) = with_decls (named_too d (with_decl v d)) decls

decls_law : (v : Progress) (decls : List DeclTree)
    → check_decls v decls ≡ where_all_hold (decls_claims v.work.spaces v.before decls) (with_decls v decls)
decls_law v [] = refl
decls_law v (d ∷ decls) =
    let u = named_too d (with_decl v d) in
    law-then u _ (decls_claims v.work.spaces (declaring v.before d) decls) _ _ (decl_claims v.work.spaces v.before d)
    (law-last (with_decl v d) _ _ _ (decl_claims v.work.spaces v.before d) (body_law v d) refl) (decls_law u decls)

-- what is declared in the end
decls_declared : (v : Progress) (decls : List DeclTree)
    → declared_in (with_decls v decls) ≡ add_decls v.work.model v.work.spaces (declared_in v) decls
decls_declared v [] = refl
decls_declared v (d ∷ decls) = decls_declared (named_too d (with_decl v d)) decls

-- the lists of a tree
pub lists_law : (tree : FileTree) → check_lists tree ≡ where_all_hold (claims_of tree) (program_of tree)
lists_law tree =
    let v = begun (declaring_all no_names tree.decls) (model_of tree.cost) in
    law-last (with_decls v tree.decls) all_made (program_of tree) _ (claims_of tree) (decls_law v tree.decls)
    (ap (λ (d : Declared). found (lists_of d)) (decls_declared v tree.decls))
