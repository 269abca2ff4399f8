-- Each type node of a program stands after its parts, and in one place.
use Rattle.std.proofs.Common.{◌≡◌, ℕ, ◌+◌, List, [], ◌∷◌, ◌++◌, length, map, flat_map, refl, sym, subst, ◌∙◌, arith}
use Rattle.nomos_elaborate.proofs.KeptNodeLaws.{quantity_kept, process_pars_kept, value_pars_kept, declared_amount_kept, term_puts_terms, code_types}
use Rattle.nomos_elaborate.proofs.StandOnce.{Placed, placed_none, placed_same, placed_front, placed_more, count_of-append, count_of-cons, count_of-map_push, count_of-flat_map_push}
use Rattle.nomos_elaborate.specs.Built.{Built, with_label, with_variable, put_type, amount_of, kind_of}
use Rattle.nomos_elaborate.specs.CostModel.{model_of}
use Rattle.nomos_elaborate.specs.FileBuild.{Declared, nothing_declared, build_value_pars, build_process_pars, build_chan_pars, declared_amount, with_payer, add_decl, add_decls, program_of}
use Rattle.nomos_elaborate.specs.FileClaims.{pars_scope}
use Rattle.nomos_elaborate.specs.Names.{Names}
use Rattle.nomos_elaborate.specs.Spaces.{declaring_all, no_names}
use Rattle.nomos_elaborate.specs.TypeBuild.{build_type, build_branches, choice_node, channel_node, value_node, paying_node}
use Rattle.nomos_elaborate.specs.declared.spaces.Spaces.{Spaces}
use Rattle.nomos_ir.specs.declared.amount.Amount.{Amount}
use Rattle.nomos_ir.specs.declared.declaration.ProcDecl.{ProcDecl}
use Rattle.nomos_ir.specs.declared.ids.TypeId.{TypeId}
use Rattle.nomos_ir.specs.declared.kind.Kind.{Kind}
use Rattle.nomos_ir.specs.declared.lists.ProgramLists.{ProgramLists}
use Rattle.nomos_ir.specs.declared.type_node.Branch.{Branch}
use Rattle.nomos_ir.specs.declared.type_node.Def.{Def}
use Rattle.nomos_ir.specs.declared.type_node.TypeAt.{TypeAt}
use Rattle.nomos_ir.specs.declared.type_node.TypeNode.{TypeNode}
use Rattle.nomos_ir.specs.declared.type_node.TypeNode.TheVariants as node
use Rattle.nomos_ir.specs.Order.{count_of, type_places, TypesStandOnce}
use Rattle.nomos_ir.specs.TypeParts.{type_parts}
use Rattle.nomos_surface.specs.declared.surface.CostModel.{CostModel}
use Rattle.nomos_surface.specs.declared.types.Sender.{Sender}
use Rattle.nomos_surface.specs.declared.types.Sender.TheVariants as side
use Rattle.nomos_surface.specs.Tree.{TypeTree, one, named, choice, channel, valued, paying, going_up, going_down, grouped, BranchTrees, no_branches, branch, ChanParTree, DeclTree, definition, function, process, transaction, FileTree}

-- the parts of a type node that stands at an offset
abbrev pub parts_at : TypeAt → List ℕ
parts_at t = type_parts t.node

-- type nodes that stand after their parts, each in one place but for those that wait
abbrev pub TypesPlaced : List ℕ → List TypeAt → Type 0
TypesPlaced waiting types = Placed TypeAt parts_at waiting types

-- the parts of the forms that have two sides
choice_parts : (sender : Sender) (branches : List Branch)
    → type_parts (choice_node sender branches) ≡ map (λ b. b.goes.0) branches
choice_parts side.Provider branches = refl
choice_parts side.Client branches = refl

channel_parts : (sender : Sender) (a b : TypeId) → type_parts (channel_node sender a b) ≡ a.0 ∷ b.0 ∷ []
channel_parts side.Provider a b = refl
channel_parts side.Client a b = refl

value_parts : (sender : Sender) (kind : Kind) (a : TypeId) → type_parts (value_node sender kind a) ≡ a.0 ∷ []
value_parts side.Provider kind a = refl
value_parts side.Client kind a = refl

paying_parts : (sender : Sender) (amount : Amount) (a : TypeId) → type_parts (paying_node sender amount a) ≡ a.0 ∷ []
paying_parts side.Provider amount a = refl
paying_parts side.Client amount a = refl

-- a type node whose parts waited, and which waits in their place
type_more : (rest : List ℕ) (s : Built) (n : TypeNode) (at : ℕ) (own : List ℕ)
    → type_parts n ≡ own → TypesPlaced (own ++ rest) s.types
    → TypesPlaced (length s.types ∷ rest) (put_type s n at).0.types
type_more rest s n at own are h = placed_more TypeAt parts_at rest s.types (record { node = n; at = at }) own are h

-- the same type nodes
types_kept : {before after : List TypeAt} (waiting : List ℕ)
    → after ≡ before → TypesPlaced waiting before → TypesPlaced waiting after
types_kept waiting kept h = subst (TypesPlaced waiting) (sym kept) h

-- a type is built: its root waits
mutual
  unfolding build_type build_branches

  type_placed : (types : Names) (waiting : List ℕ) (s : Built) (t : TypeTree)
      → TypesPlaced waiting s.types
      → TypesPlaced ((build_type types s t).1.0 ∷ waiting) (build_type types s t).0.types
  type_placed types waiting s (one at) h = type_more waiting s node.One at [] refl h
  type_placed types waiting s (named n) h = type_more waiting s _ n.at [] refl h
  type_placed types waiting s (choice sender at branches) h =
      let built = build_branches types s branches in
      type_more waiting built.0 (choice_node sender built.1) at (map (λ b. b.goes.0) built.1)
      (choice_parts sender built.1)
      (branches_placed types waiting s branches h)
  type_placed types waiting s (channel sender at carried goes) h =
      let a = build_type types s carried in
      let b = build_type types a.0 goes in
      type_more waiting b.0 (channel_node sender a.1 b.1) at (a.1.0 ∷ b.1.0 ∷ [])
      (channel_parts sender a.1 b.1)
      (placed_front TypeAt parts_at a.1.0 (b.1.0 ∷ []) waiting b.0.types
      (type_placed types (a.1.0 ∷ waiting) a.0 goes (type_placed types waiting s carried h)))
  type_placed types waiting s (valued sender at value goes) h =
      let a = build_type types s goes in
      type_more waiting a.0 (value_node sender (kind_of value) a.1) at (a.1.0 ∷ [])
      (value_parts sender (kind_of value) a.1)
      (type_placed types waiting s goes h)
  type_placed types waiting s (paying sender at potential goes) h =
      let paid = amount_of s potential in
      let a = build_type types paid.0 goes in
      type_more waiting a.0 (paying_node sender paid.1 a.1) at (a.1.0 ∷ [])
      (paying_parts sender paid.1 a.1)
      (type_placed types waiting paid.0 goes (types_kept waiting (quantity_kept s potential.quantity).types h))
  type_placed types waiting s (going_up at goes) h =
      let a = build_type types s goes in
      type_more waiting a.0 (node.Up a.1) at (a.1.0 ∷ []) refl (type_placed types waiting s goes h)
  type_placed types waiting s (going_down at goes) h =
      let a = build_type types s goes in
      type_more waiting a.0 (node.Down a.1) at (a.1.0 ∷ []) refl (type_placed types waiting s goes h)
  type_placed types waiting s (grouped inner) h = type_placed types waiting s inner h

  branches_placed : (types : Names) (waiting : List ℕ) (s : Built) (bs : BranchTrees)
      → TypesPlaced waiting s.types
      → TypesPlaced (map (λ b. b.goes.0) (build_branches types s bs).1 ++ waiting) (build_branches types s bs).0.types
  branches_placed types waiting s no_branches h = h
  branches_placed types waiting s (branch l goes branches) h =
      let a = build_type types (with_label s l) goes in
      let b = build_branches types a.0 branches in
      placed_front TypeAt parts_at a.1.0 (map (λ b. b.goes.0) b.1) waiting b.0.types
      (branches_placed types (a.1.0 ∷ waiting) a.0 branches (type_placed types waiting (with_label s l) goes h))

-- the types of channel parameters wait
chan_pars_placed : (types : Names) (waiting : List ℕ) (s : Built) (pars : List ChanParTree)
    → TypesPlaced waiting s.types
    → TypesPlaced (map (λ par. par.1.0) (build_chan_pars types s pars).1 ++ waiting)
    (build_chan_pars types s pars).0.types
chan_pars_placed types waiting s [] h = h
chan_pars_placed types waiting s (p ∷ pars) h =
    let bound = with_variable s p.name in
    let a = build_type types bound p.goes in
    let rest = build_chan_pars types a.0 pars in
    placed_front TypeAt parts_at a.1.0 (map (λ par. par.1.0) rest.1) waiting rest.0.types
    (chan_pars_placed types (a.1.0 ∷ waiting) a.0 pars (type_placed types waiting bound p.goes h))

-- the types of a process's channel parameters
abbrev pub channel_types : ProcDecl → List ℕ
channel_types d = map (λ par. par.1.0) d.channels

-- where type nodes stand in declarations
abbrev pub types_declared : List Def → List ProcDecl → List ℕ
types_declared defs procs = map (λ d. d.body.0) defs ++ flat_map channel_types procs ++ map (λ d. d.offers.0) procs

-- how often a number stands in declarations
types_declared-count : (k : ℕ) (defs : List Def) (procs : List ProcDecl)
    → count_of k (types_declared defs procs)
    ≡ count_of k (map (λ d. d.body.0) defs)
    + count_of k (flat_map channel_types procs)
    + count_of k (map (λ d. d.offers.0) procs)
types_declared-count k defs procs =
    let bodies = map (λ (d : Def). d.body.0) defs in
    let channels = flat_map channel_types procs in
    let last = count_of-append k (bodies ++ channels) (map (λ d. d.offers.0) procs) in
    let first = count_of-append k bodies channels in
    omega arith

-- one definition more
more_defs : (k : ℕ) (defs : List Def) (def : Def) (procs : List ProcDecl)
    → count_of k (types_declared (defs ++ def ∷ []) procs) ≡ count_of k (def.body.0 ∷ types_declared defs procs)
more_defs k defs def procs =
    let after = types_declared-count k (defs ++ def ∷ []) procs in
    let before = types_declared-count k defs procs in
    let pushed = count_of-map_push k (λ (d : Def). d.body.0) defs def in
    let waiting = count_of-cons k def.body.0 (types_declared defs procs) in
    omega arith

-- one process more
more_procs : (k : ℕ) (defs : List Def) (procs : List ProcDecl) (d : ProcDecl)
    → count_of k (types_declared defs (procs ++ d ∷ []))
    ≡ count_of k (d.offers.0 ∷ (channel_types d ++ types_declared defs procs))
more_procs k defs procs d =
    let after = types_declared-count k defs (procs ++ d ∷ []) in
    let before = types_declared-count k defs procs in
    let channels = count_of-flat_map_push k channel_types procs d in
    let offers = count_of-map_push k (λ (e : ProcDecl). e.offers.0) procs d in
    let waiting = count_of-cons k d.offers.0 (channel_types d ++ types_declared defs procs) in
    let apart = count_of-append k (channel_types d) (types_declared defs procs) in
    omega arith

-- the type nodes of declarations
abbrev pub TypesDeclared : Declared → Type 0
TypesDeclared d = TypesPlaced (types_declared d.defs d.procs) d.built.types

-- a process more whose types waited
proc_declared : (defs : List Def) (procs : List ProcDecl) (d : ProcDecl) (types : List TypeAt)
    → TypesPlaced (d.offers.0 ∷ (channel_types d ++ types_declared defs procs)) types
    → TypesPlaced (types_declared defs (procs ++ d ∷ [])) types
proc_declared defs procs d types h =
    placed_same TypeAt parts_at (d.offers.0 ∷ (channel_types d ++ types_declared defs procs))
    (types_declared defs (procs ++ d ∷ [])) types
    (λ k. more_procs k defs procs d) h

-- a declaration more
decl_declared : (model : CostModel) (all : Spaces) (d : Declared) (decl : DeclTree)
    → TypesDeclared d → TypesDeclared (add_decl model all d decl)
decl_declared model all d (definition at m n body) h =
    let built = build_type all.types d.built body in
    placed_same TypeAt parts_at (built.1.0 ∷ types_declared d.defs d.procs) _ built.0.types
    (λ k. more_defs k d.defs _ d.procs)
    (type_placed all.types (types_declared d.defs d.procs) d.built body h)
decl_declared model all d (function at n pars gives body) h =
    let bound = build_value_pars d.built pars in
    types_kept (types_declared d.defs d.procs)
    ((term_puts_terms all.functions bound.0 body).types ∙ (value_pars_kept d.built pars).types)
    h
decl_declared model all d (process at m n pars potential offers body) h =
    let waiting = types_declared d.defs d.procs in
    let values = build_process_pars d.built pars.values in
    let channels = build_chan_pars all.types values.0 pars.channels in
    let paid = declared_amount channels.0 potential in
    let offered = build_type all.types paid.0 offers in
    let with_channels = map (λ par. par.1.0) channels.1 ++ waiting in
    proc_declared d.defs d.procs _ _
    (types_kept (offered.1.0 ∷ with_channels) (code_types model all (pars_scope pars) offered.0 body)
    (type_placed all.types with_channels paid.0 offers
    (types_kept with_channels (declared_amount_kept channels.0 potential).types
    (chan_pars_placed all.types waiting values.0 pars.channels
    (types_kept waiting (process_pars_kept d.built pars.values).types h)))))
decl_declared model all d (transaction at n pars potential body) h =
    let waiting = types_declared d.defs d.procs in
    let payer = with_payer d.built in
    let values = build_process_pars payer pars.values in
    let channels = build_chan_pars all.types values.0 pars.channels in
    let offered = put_type channels.0 node.One at in
    let paid = declared_amount offered.0 potential in
    let with_channels = map (λ par. par.1.0) channels.1 ++ waiting in
    proc_declared d.defs d.procs _ _
    (types_kept (offered.1.0 ∷ with_channels) (code_types model all (pars_scope pars) paid.0 body)
    (types_kept (offered.1.0 ∷ with_channels) (declared_amount_kept offered.0 potential).types
    (type_more with_channels channels.0 node.One at [] refl
    (chan_pars_placed all.types waiting values.0 pars.channels
    (types_kept waiting (process_pars_kept payer pars.values).types h)))))

decls_declared : (model : CostModel) (all : Spaces) (d : Declared) (decls : List DeclTree)
    → TypesDeclared d → TypesDeclared (add_decls model all d decls)
decls_declared model all d [] h = h
decls_declared model all d (decl ∷ decls) h =
    decls_declared model all (add_decl model all d decl) decls (decl_declared model all d decl h)

-- the type nodes of the program of a tree
pub program_types : (tree : FileTree)
    → TypesPlaced (types_declared (program_of tree).defs (program_of tree).procs) (program_of tree).types
program_types tree =
    decls_declared (model_of tree.cost) (declaring_all no_names tree.decls) nothing_declared tree.decls
    (placed_none TypeAt parts_at)

-- how often a number stands among the places of type nodes
type_places-count : (k : ℕ) (lists : ProgramLists)
    → count_of k (type_places lists)
    ≡ count_of k (types_declared lists.defs lists.procs) + count_of k (flat_map parts_at lists.types)
type_places-count k lists =
    let defs = map (λ (e : Def). e.body.0) lists.defs in
    let parts = flat_map parts_at lists.types in
    let channels = flat_map channel_types lists.procs in
    let offers = map (λ (e : ProcDecl). e.offers.0) lists.procs in
    let last = count_of-append k ((defs ++ parts) ++ channels) offers in
    let middle = count_of-append k (defs ++ parts) channels in
    let first = count_of-append k defs parts in
    let declared = types_declared-count k lists.defs lists.procs in
    omega arith

-- each type node stands in one place
pub types-once : (tree : FileTree) → TypesStandOnce (program_of tree)
types-once tree t within = type_places-count t (program_of tree) ∙ (program_types tree).once.below t within
