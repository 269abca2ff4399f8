-- The names, the labels and the parameters of the program of a tree differ, and exactly its transactions have payers.
use Rattle.std.proofs.Common.{◌≡◌, ◌≢◌, ◌↔◌, ℕ, true, false, List, [], ◌∷◌, ◌++◌, map, All, Option, Some, None, IsSome, refl, sym, ap, subst, ◌∙◌}
use Rattle.std.proofs.lemmas.List.{map-append}
use Rattle.std.proofs.lemmas.List.Elements.{All-nil, All-push}
use Rattle.nomos_elaborate.proofs.NameClaimLaws.{AllHold, rest_hold, left_hold, right_hold}
use Rattle.nomos_elaborate.proofs.CodeLabelLaws.{code-keeps}
use Rattle.nomos_elaborate.proofs.DistinctNameLaws.{AllNamesDiffer, pairs_of, none_differ, no_names_differ, seen-new, seen-differ}
use Rattle.nomos_elaborate.proofs.KeptLabelLaws.{labelled, LabelsHold, KeepsLabels, keeps-none, keeps-then, keeps-same, keeps-put_type, amount-labelled, term-labelled}
use Rattle.nomos_elaborate.proofs.ParameterNameLaws.{value_pars-differ, pars-differ, payer-differs}
use Rattle.nomos_elaborate.proofs.TypeLabelLaws.{new_is_out, type-keeps}
use Rattle.nomos_elaborate.specs.Elaborated.{ObeysNames}
use Rattle.nomos_elaborate.specs.Built.{Built, nothing_built, with_variable, put_type}
use Rattle.nomos_elaborate.specs.NameClaim.{NameClaim, new_among, new_on_way}
use Rattle.nomos_elaborate.specs.CodeClaims.{Place, code_claims}
use Rattle.nomos_elaborate.specs.CostModel.{model_of}
use Rattle.nomos_elaborate.specs.FileBuild.{Declared, nothing_declared, build_value_pars, par_amount, build_process_pars, build_chan_pars, declared_amount, mode_of, with_payer, add_decl, add_decls, program_of}
use Rattle.nomos_elaborate.specs.FileClaims.{value_pars_claims, value_pars_scope, process_pars_claims, process_pars_scope, chan_pars_claims, pars_claims, pars_scope, decl_claims, decls_claims}
use Rattle.nomos_elaborate.specs.Names.{Names, is_among, seen}
use Rattle.nomos_elaborate.specs.Scope.{Scope, bind}
use Rattle.nomos_elaborate.specs.Spaces.{no_names, declaring, declaring_all}
use Rattle.nomos_elaborate.specs.TermBuild.{build_term}
use Rattle.nomos_elaborate.specs.TermClaims.{term_claims}
use Rattle.nomos_elaborate.specs.TypeBuild.{build_type}
use Rattle.nomos_elaborate.specs.TypeClaims.{type_claims}
use Rattle.nomos_elaborate.specs.declared.sort.Sort.TheVariants as sort
use Rattle.nomos_elaborate.specs.declared.spaces.Spaces.{Spaces}
use Rattle.nomos_ir.specs.CodeParts.{code_labels}
use Rattle.nomos_ir.specs.Naming.{NamesDiffer, AllDiffer, LabelsDiffer, ParametersDiffer}
use Rattle.nomos_ir.specs.Parameters.{fn_parameters, proc_parameters, TransactionsHavePayers}
use Rattle.nomos_ir.specs.TypeParts.{type_labels}
use Rattle.nomos_ir.specs.declared.declaration.ProcDecl.{ProcDecl}
use Rattle.nomos_ir.specs.declared.mode.Mode.TheVariants as mode
use Rattle.nomos_ir.specs.declared.type_node.TypeNode.TheVariants as node
use Rattle.nomos_surface.specs.TreeBounds.{KeepsDecl, IsWithinLimits}
use Rattle.nomos_surface.specs.Grammatical.{Each}
use Rattle.nomos_surface.specs.declared.declarations.ListPotential.{ListPotential}
use Rattle.nomos_surface.specs.declared.declarations.OfferedMode.{OfferedMode}
use Rattle.nomos_surface.specs.declared.declarations.OfferedMode.TheVariants as offered
use Rattle.nomos_surface.specs.declared.declarations.ProcessPar.{ProcessPar}
use Rattle.nomos_surface.specs.declared.declarations.ValuePar.{ValuePar}
use Rattle.nomos_surface.specs.declared.potential.Potential.{Potential}
use Rattle.nomos_surface.specs.declared.surface.CostModel.{CostModel}
use Rattle.nomos_surface.specs.Tree.{ChanParTree, ParTrees, DeclTree, definition, function, process, transaction, FileTree}

-- parameters that are no channels have no labels, and neither has a declared potential
value_pars-labelled : (s : Built) (pars : List ValuePar) → labelled (build_value_pars s pars).0 ≡ labelled s
value_pars-labelled s [] = refl
value_pars-labelled s (p ∷ pars) = value_pars-labelled (with_variable s p.name) pars

par-labelled : (s : Built) (q : Option ListPotential) → labelled (par_amount s q).0 ≡ labelled s
par-labelled s None = refl
par-labelled s (Some q) = amount-labelled s q.potential.quantity

process_pars-labelled : (s : Built) (pars : List ProcessPar) → labelled (build_process_pars s pars).0 ≡ labelled s
process_pars-labelled s [] = refl
process_pars-labelled s (p ∷ pars) =
    process_pars-labelled (par_amount (with_variable s p.name) p.list).0 pars
    ∙ par-labelled (with_variable s p.name) p.list

declared-labelled : (s : Built) (q : Option Potential) → labelled (declared_amount s q).0 ≡ labelled s
declared-labelled s None = refl
declared-labelled s (Some q) = amount-labelled s q.quantity

-- channel parameters leave the labels as they are, or add some
chan_pars-keep : (types : Names) (scope : Scope) (s : Built) (pars : List ChanParTree)
    → AllHold (chan_pars_claims types scope pars) → KeepsLabels s (build_chan_pars types s pars).0
chan_pars-keep types scope s [] h = keeps-none s
chan_pars-keep types scope s (p ∷ pars) h =
    let bound = with_variable s p.name in
    let inner = bind scope p.name sort.Channel in
    let first = type_claims types p.goes in
    let more = chan_pars_claims types inner pars in
    let rest = rest_hold (new_on_way scope p.name) (first ++ more) h in
    keeps-then (keeps-then (keeps-same s bound refl) (type-keeps types bound p.goes (left_hold first more rest)))
    (chan_pars-keep types inner (build_type types bound p.goes).0 pars (right_hold first more rest))

pars-keep : (types : Names) (s : Built) (pars : ParTrees) → AllHold (pars_claims types pars)
    → KeepsLabels s (build_chan_pars types (build_process_pars s pars.values).0 pars.channels).0
pars-keep types s pars h =
    let values = (build_process_pars s pars.values).0 in
    let scope = process_pars_scope [] pars.values in
    let hold = right_hold (process_pars_claims [] pars.values) (chan_pars_claims types scope pars.channels) h in
    keeps-then (keeps-same s values (process_pars-labelled s pars.values))
    (chan_pars-keep types scope values pars.channels hold)

-- so does a declaration
decl-keeps : (model : CostModel) (all before : Spaces) (d : Declared) (decl : DeclTree)
    → AllHold (decl_claims all before decl) → KeepsLabels d.built (add_decl model all d decl).built
decl-keeps model all before d (definition at m n body) h =
    type-keeps all.types d.built body (rest_hold (new_among before.types n) (type_claims all.types body) h)
decl-keeps model all before d (function at n pars gives body) h =
    let bound = (build_value_pars d.built pars).0 in
    keeps-same d.built (build_term all.functions bound body).0
    (term-labelled all.functions bound body ∙ value_pars-labelled d.built pars)
decl-keeps model all before d (process at m n pars potential offers body) h =
    let channels = (build_chan_pars all.types (build_process_pars d.built pars.values).0 pars.channels).0 in
    let paid = (declared_amount channels potential).0 in
    let offered = (build_type all.types paid offers).0 in
    let heads = pars_claims all.types pars in
    let types = type_claims all.types offers in
    let inner : Place = record { spaces = all; inside = false } in
    let codes = code_claims inner (pars_scope pars) body in
    let rest = rest_hold (new_among before.processes n) (heads ++ types ++ codes) h in
    let front = left_hold (heads ++ types) codes rest in
    let head = pars-keep all.types d.built pars (left_hold heads types front) in
    let amount = keeps-same channels paid (declared-labelled channels potential) in
    keeps-then
    (keeps-then (keeps-then head amount)
    (type-keeps all.types paid offers (right_hold heads types front)))
    (code-keeps model all inner (pars_scope pars) offered body (right_hold (heads ++ types) codes rest))
decl-keeps model all before d (transaction at n pars potential body) h =
    let payer = with_payer d.built in
    let channels = (build_chan_pars all.types (build_process_pars payer pars.values).0 pars.channels).0 in
    let offered = (put_type channels node.One at).0 in
    let paid = (declared_amount offered potential).0 in
    let heads = pars_claims all.types pars in
    let inner : Place = record { spaces = all; inside = true } in
    let codes = code_claims inner (pars_scope pars) body in
    let rest = rest_hold (new_among before.processes n) (heads ++ codes) h in
    let head = pars-keep all.types payer pars (left_hold heads codes rest) in
    keeps-then
    (keeps-then
    (keeps-then (keeps-then (keeps-same d.built payer refl) head) (keeps-put_type channels node.One at none_differ))
    (keeps-same offered paid (declared-labelled offered potential)))
    (code-keeps model all inner (pars_scope pars) paid body (right_hold heads codes rest))

decls-keep : (model : CostModel) (all before : Spaces) (d : Declared) (decls : List DeclTree)
    → AllHold (decls_claims all before decls) → KeepsLabels d.built (add_decls model all d decls).built
decls-keep model all before d [] h = keeps-none d.built
decls-keep model all before d (decl ∷ decls) h =
    let first = decl_claims all before decl in
    let more = decls_claims all (declaring before decl) decls in
    keeps-then (decl-keeps model all before d decl (left_hold first more h))
    (decls-keep model all (declaring before decl) (add_decl model all d decl) decls (right_hold first more h))

nothing-holds : LabelsHold nothing_built
nothing-holds = record {
  choices = All-nil (λ t. AllDiffer (type_labels t.node));
  cases = All-nil (λ c. AllDiffer (code_labels c));
  labels = no_names_differ;
}

labels-hold : (tree : FileTree) → ObeysNames tree
    → LabelsHold (add_decls (model_of tree.cost) (declaring_all no_names tree.decls) nothing_declared tree.decls).built
labels-hold tree h =
    let all = declaring_all no_names tree.decls in
    (decls-keep (model_of tree.cost) all no_names nothing_declared tree.decls h).holds nothing-holds

-- the labels of each choice and of each `case` of the program differ
pub labels-differ : (tree : FileTree) → ObeysNames tree → LabelsDiffer (program_of tree)
labels-differ tree h = let holds = labels-hold tree h in record { choices = holds.choices; cases = holds.cases }

-- what was declared has the names that were seen, in this order
record NamedAs (names : Spaces) (d : Declared) : Type 0 where
  pub types : map (λ e. e.name) d.defs ≡ names.types
  pub functions : map (λ e. e.name) d.fns ≡ names.functions
  pub processes : map (λ e. e.name) d.procs ≡ names.processes

named-push : {X : Type 0} (name : X → List ℕ) (xs : List X) (x : X) (names : Names) → map name xs ≡ names
    → is_among names (name x) ≡ false → map name (xs ++ x ∷ []) ≡ seen names (name x)
named-push name xs x names e out =
    map-append name xs (x ∷ []) ∙ ap (λ l. l ++ name x ∷ []) e ∙ sym (seen-new names (name x) out)

-- the claims of a declaration behind that of its name
abbrev claims_behind : Spaces → DeclTree → List NameClaim
claims_behind all (definition at m n body) = type_claims all.types body
claims_behind all (function at n pars gives body) =
    value_pars_claims [] pars ++ term_claims all.functions false (value_pars_scope [] pars) body
claims_behind all (process at m n pars potential offers body) =
    pars_claims all.types pars
    ++ type_claims all.types offers
    ++ code_claims (record { spaces = all; inside = false }) (pars_scope pars) body
claims_behind all (transaction at n pars potential body) =
    pars_claims all.types pars ++ code_claims (record { spaces = all; inside = true }) (pars_scope pars) body

decl-named : (model : CostModel) (all before : Spaces) (d : Declared) (decl : DeclTree)
    → AllHold (decl_claims all before decl) → NamedAs before d
    → NamedAs (declaring before decl) (add_decl model all d decl)
decl-named model all before d (definition at m n body) h named = record {
  types = named-push (λ e. e.name) d.defs _ before.types named.types
      (new_is_out before.types n (claims_behind all (definition at m n body)) h);
  functions = named.functions;
  processes = named.processes;
}
decl-named model all before d (function at n pars gives body) h named = record {
  types = named.types;
  functions = named-push (λ e. e.name) d.fns _ before.functions named.functions
      (new_is_out before.functions n (claims_behind all (function at n pars gives body)) h);
  processes = named.processes;
}
decl-named model all before d (process at m n pars potential offers body) h named = record {
  types = named.types;
  functions = named.functions;
  processes = named-push (λ e. e.name) d.procs _ before.processes named.processes
      (new_is_out before.processes n (claims_behind all (process at m n pars potential offers body)) h);
}
decl-named model all before d (transaction at n pars potential body) h named = record {
  types = named.types;
  functions = named.functions;
  processes = named-push (λ e. e.name) d.procs _ before.processes named.processes
      (new_is_out before.processes n (claims_behind all (transaction at n pars potential body)) h);
}

decls-named : (model : CostModel) (all before : Spaces) (d : Declared) (decls : List DeclTree)
    → AllHold (decls_claims all before decls) → NamedAs before d
    → NamedAs (declaring_all before decls) (add_decls model all d decls)
decls-named model all before d [] h named = named
decls-named model all before d (decl ∷ decls) h named =
    let first = decl_claims all before decl in
    let more = decls_claims all (declaring before decl) decls in
    decls-named model all (declaring before decl) (add_decl model all d decl) decls (right_hold first more h)
    (decl-named model all before d decl (left_hold first more h) named)

nothing-named : NamedAs no_names nothing_declared
nothing-named = record { types = refl; functions = refl; processes = refl }

-- the names that are seen differ in each space
record SpacesDiffer (names : Spaces) : Type 0 where
  pub types : AllNamesDiffer names.types
  pub functions : AllNamesDiffer names.functions
  pub processes : AllNamesDiffer names.processes

nothing-differs : SpacesDiffer no_names
nothing-differs = record { types = no_names_differ; functions = no_names_differ; processes = no_names_differ }

declaring-differ : (names : Spaces) (decl : DeclTree) → SpacesDiffer names → SpacesDiffer (declaring names decl)
declaring-differ names (definition at m n body) h =
    record { types = seen-differ names.types n.name h.types; functions = h.functions; processes = h.processes }
declaring-differ names (function at n pars gives body) h =
    record { types = h.types; functions = seen-differ names.functions n.name h.functions; processes = h.processes }
declaring-differ names (process at m n pars potential offers body) h =
    record { types = h.types; functions = h.functions; processes = seen-differ names.processes n.name h.processes }
declaring-differ names (transaction at n pars potential body) h =
    record { types = h.types; functions = h.functions; processes = seen-differ names.processes n.name h.processes }

declaring_all-differ : (names : Spaces) (decls : List DeclTree) → SpacesDiffer names
    → SpacesDiffer (declaring_all names decls)
declaring_all-differ names [] h = h
declaring_all-differ names (decl ∷ decls) h =
    declaring_all-differ (declaring names decl) decls (declaring-differ names decl h)

-- the names of definitions, of functions and of processes differ, and so do the labels
pub names-differ : (tree : FileTree) → ObeysNames tree → NamesDiffer (program_of tree)
names-differ tree h =
    let all = declaring_all no_names tree.decls in
    let d = add_decls (model_of tree.cost) all nothing_declared tree.decls in
    let named = decls-named (model_of tree.cost) all no_names nothing_declared tree.decls h nothing-named in
    let differ = declaring_all-differ no_names tree.decls nothing-differs in
    let apart : List ℕ → List ℕ → Type 0 = λ m n. m ≢ n in
    record {
      defs = pairs_of (λ e. e.name) apart d.defs (subst AllNamesDiffer (sym named.types) differ.types);
      fns = pairs_of (λ e. e.name) apart d.fns (subst AllNamesDiffer (sym named.functions) differ.functions);
      procs = pairs_of (λ e. e.name) apart d.procs (subst AllNamesDiffer (sym named.processes) differ.processes);
      labels = (labels-hold tree h).labels;
    }

-- the parameters of each declaration differ
record DeclaredParametersDiffer (d : Declared) : Type 0 where
  pub fns : All (λ f. AllDiffer (fn_parameters f)) d.fns
  pub procs : All (λ p. AllDiffer (proc_parameters p)) d.procs

decl-parameters : (model : CostModel) (all before : Spaces) (d : Declared) (decl : DeclTree)
    → AllHold (decl_claims all before decl) → KeepsDecl decl → DeclaredParametersDiffer d
    → DeclaredParametersDiffer (add_decl model all d decl)
decl-parameters model all before d (definition at m n body) h keeps differ =
    record { fns = differ.fns; procs = differ.procs }
decl-parameters model all before d (function at n pars gives body) h keeps differ =
    let heads = value_pars_claims [] pars in
    let claims = term_claims all.functions false (value_pars_scope [] pars) body in
    let hold = left_hold heads claims (rest_hold (new_among before.functions n) (heads ++ claims) h) in
    record {
      fns = All-push (λ f. AllDiffer (fn_parameters f)) d.fns _ differ.fns (value_pars-differ d.built pars hold);
      procs = differ.procs;
    }
decl-parameters model all before d (process at m n pars potential offers body) h keeps differ =
    let heads = pars_claims all.types pars in
    let types = type_claims all.types offers in
    let codes = code_claims (record { spaces = all; inside = false }) (pars_scope pars) body in
    let rest = rest_hold (new_among before.processes n) (heads ++ types ++ codes) h in
    let front = left_hold (heads ++ types) codes rest in
    record {
      fns = differ.fns;
      procs = All-push (λ p. AllDiffer (proc_parameters p)) d.procs _ differ.procs
          (pars-differ all.types d.built pars (left_hold heads types front));
    }
decl-parameters model all before d (transaction at n pars potential body) h keeps differ =
    let heads = pars_claims all.types pars in
    let codes = code_claims (record { spaces = all; inside = true }) (pars_scope pars) body in
    let hold = left_hold heads codes (rest_hold (new_among before.processes n) (heads ++ codes) h) in
    record {
      fns = differ.fns;
      procs = All-push (λ p. AllDiffer (proc_parameters p)) d.procs _ differ.procs
          (payer-differs all.types d.built pars hold keeps.1);
    }

no-parameters : DeclaredParametersDiffer nothing_declared
no-parameters =
    record { fns = All-nil (λ f. AllDiffer (fn_parameters f)); procs = All-nil (λ p. AllDiffer (proc_parameters p)) }

decls-parameters : (model : CostModel) (all before : Spaces) (d : Declared) (decls : List DeclTree)
    → AllHold (decls_claims all before decls) → Each KeepsDecl decls → DeclaredParametersDiffer d
    → DeclaredParametersDiffer (add_decls model all d decls)
decls-parameters model all before d [] h keeps differ = differ
decls-parameters model all before d (decl ∷ decls) h keeps differ =
    let first = decl_claims all before decl in
    let more = decls_claims all (declaring before decl) decls in
    decls-parameters model all (declaring before decl) (add_decl model all d decl) decls
    (right_hold first more h) keeps.1
    (decl-parameters model all before d decl (left_hold first more h) keeps.0 differ)

-- the parameters of each function and process of the program differ. The names of a tree within the limits are no
-- reserved words, so no parameter has the name of the payer
pub parameters-differ : (tree : FileTree) → ObeysNames tree → IsWithinLimits tree → ParametersDiffer (program_of tree)
parameters-differ tree h within =
    let all = declaring_all no_names tree.decls in
    let differ =
    decls-parameters (model_of tree.cost) all no_names nothing_declared tree.decls h within.decls no-parameters in
    record { fns = differ.fns; procs = differ.procs }

-- a process has a payer exactly where it is a transaction
abbrev HasItsPayer : ProcDecl → Type 0
HasItsPayer d = IsSome d.me ↔ (d.mode ≡ mode.T)

-- no mode of an offered type is that of a transaction
offered-differs : (m : OfferedMode) → mode_of m ≢ mode.T
offered-differs offered.R same = cc
offered-differs offered.S same = cc
offered-differs offered.L same = cc

decl-payers : (model : CostModel) (all : Spaces) (d : Declared) (decl : DeclTree) → All HasItsPayer d.procs
    → All HasItsPayer (add_decl model all d decl).procs
decl-payers model all d (definition at m n body) h = h
decl-payers model all d (function at n pars gives body) h = h
decl-payers model all d (process at m n pars potential offers body) h =
    All-push HasItsPayer d.procs _ h (λ there. cc, λ same. absurd (offered-differs m same))
decl-payers model all d (transaction at n pars potential body) h =
    All-push HasItsPayer d.procs _ h (λ there. refl, λ same. refl)

decls-payers : (model : CostModel) (all : Spaces) (d : Declared) (decls : List DeclTree) → All HasItsPayer d.procs
    → All HasItsPayer (add_decls model all d decls).procs
decls-payers model all d [] h = h
decls-payers model all d (decl ∷ decls) h =
    decls-payers model all (add_decl model all d decl) decls (decl-payers model all d decl h)

-- exactly the transactions of the program have payers
pub payers : (tree : FileTree) → TransactionsHavePayers (program_of tree)
payers tree =
    decls-payers (model_of tree.cost) (declaring_all no_names tree.decls) nothing_declared tree.decls
    (All-nil HasItsPayer)
