-- A mirror of how the code goes over declarations. No promise stands on it.
use Rattle.std.specs.Prelude.{ℕ, Bool, true, false, List, [], ◌∷◌, ◌++◌, Option, Some, None}
use Rattle.nomos_elaborate.specs.Built.{Built, nothing_built, kind_of}
use Rattle.nomos_elaborate.specs.NameClaim.{new_among}
use Rattle.nomos_elaborate.specs.CostModel.{model_of}
use Rattle.nomos_elaborate.specs.FileBuild.{mode_of, par_amount, declared_amount}
use Rattle.nomos_elaborate.specs.FileClaims.{par_sort}
use Rattle.nomos_elaborate.specs.Spaces.{no_names, declaring, declaring_all}
use Rattle.nomos_elaborate.specs.declared.elaborator.Elaborator.{Elaborator}
use Rattle.nomos_elaborate.specs.declared.sort.Sort.TheVariants as sort
use Rattle.nomos_elaborate.specs.declared.spaces.Spaces.{Spaces}
use Rattle.nomos_elaborate.specs.mirror.Checked.{Checked, found, demand, ◌>>=◌}
use Rattle.nomos_elaborate.specs.mirror.CodeCheck.{check_code}
use Rattle.nomos_elaborate.specs.mirror.Each.{each}
use Rattle.nomos_elaborate.specs.mirror.TermCheck.{check_term}
use Rattle.nomos_elaborate.specs.mirror.TypeCheck.{check_type, type_made}
use Rattle.nomos_elaborate.specs.mirror.Work.{made, check_bind, payer_seen}
use Rattle.nomos_ir.specs.declared.amount.Amount.{Amount}
use Rattle.nomos_ir.specs.declared.declaration.FnDecl.{FnDecl}
use Rattle.nomos_ir.specs.declared.declaration.Par.{Par}
use Rattle.nomos_ir.specs.declared.declaration.ProcDecl.{ProcDecl}
use Rattle.nomos_ir.specs.declared.ids.CodeId.{CodeId}
use Rattle.nomos_ir.specs.declared.ids.TermId.{TermId}
use Rattle.nomos_ir.specs.declared.ids.TypeId.{TypeId}
use Rattle.nomos_ir.specs.declared.ids.VarId.{VarId}
use Rattle.nomos_ir.specs.declared.kind.Kind.{Kind}
use Rattle.nomos_ir.specs.declared.lists.ProgramLists.{ProgramLists}
use Rattle.nomos_ir.specs.declared.mode.Mode.TheVariants as mode
use Rattle.nomos_ir.specs.declared.type_node.Def.{Def}
use Rattle.nomos_ir.specs.declared.type_node.TypeNode.TheVariants as node
use Rattle.nomos_surface.specs.declared.declarations.OfferedMode.{OfferedMode}
use Rattle.nomos_surface.specs.declared.declarations.ProcessPar.{ProcessPar}
use Rattle.nomos_surface.specs.declared.declarations.ValuePar.{ValuePar}
use Rattle.nomos_surface.specs.declared.name_at.NameAt.{NameAt}
use Rattle.nomos_surface.specs.declared.potential.Potential.{Potential}
use Rattle.nomos_surface.specs.declared.surface.CostModel.{CostModel}
use Rattle.nomos_surface.specs.Tree.{TermTree, TypeTree, CodeTree, ChanParTree, ParTrees, DeclTree, definition, function, process, transaction, FileTree}

-- at the head of a declaration nothing is bound
abbrev pub at_head : Bool → Elaborator → Elaborator
at_head inside w = record w { inside = inside; scope = [] }

-- a parameter of a function
abbrev pub check_value_par : Elaborator → ValuePar → Checked (Elaborator × (VarId × Kind))
check_value_par w p = do
  v ← check_bind w p.name sort.Value
  found (v.0, (v.1, kind_of p.value))

-- a parameter of a process that is no channel
abbrev pub a_par : Elaborator × VarId → Kind → Built × Option Amount → Elaborator × Par
a_par v kind paid = (record v.0 { built = paid.0 }, record { var = v.1; kind = kind; amount = paid.1 })

abbrev pub check_process_par : Elaborator → ProcessPar → Checked (Elaborator × Par)
check_process_par w p = do
  v ← check_bind w p.name (par_sort p.list)
  found (a_par v (kind_of p.value) (par_amount v.0.built p.list))

-- a channel parameter
abbrev pub check_chan_par : Elaborator → ChanParTree → Checked (Elaborator × (VarId × TypeId))
check_chan_par w p = do
  v ← check_bind w p.name sort.Channel
  t ← check_type v.0 p.goes
  found (t.0, (v.1, t.1))

-- the parameters of a process
pub record Head : Type 0 where
  pub values : List Par
  pub channels : List (VarId × TypeId)

abbrev pub head : List Par → List (VarId × TypeId) → Head
head values channels = record { values = values; channels = channels }

abbrev pub check_pars : Elaborator → ParTrees → Checked (Elaborator × Head)
check_pars w pars = do
  values ← each check_process_par w pars.values
  channels ← each check_chan_par values.0 pars.channels
  found (channels.0, head values.1 channels.1)

-- a definition, a function, a process and a transaction
abbrev pub the_def : Elaborator × TypeId → NameAt → OfferedMode → Elaborator × Def
the_def body n m = (body.0, record { name = n.name; mode = mode_of m; body = body.1 })

unfoldable pub check_def : Elaborator → NameAt → OfferedMode → TypeTree → Checked (Elaborator × Def)
check_def w n m body = do
  b ← check_type w body
  found (the_def b n m)

abbrev pub the_fn : NameAt → List (VarId × Kind) → Kind → Elaborator × TermId → Elaborator × FnDecl
the_fn n pars gives body =
    (body.0, record { name = n.name; at = n.at; pars = pars; gives = gives; body = body.1 })

unfoldable pub check_fn : Elaborator → NameAt → List ValuePar → Kind → TermTree → Checked (Elaborator × FnDecl)
check_fn w n pars gives body = do
  p ← each check_value_par (at_head false w) pars
  b ← check_term p.0 body
  found (the_fn n p.1 gives b)

abbrev pub the_proc :
    NameAt → OfferedMode → Head → Amount → TypeId → Elaborator × CodeId → Elaborator × ProcDecl
the_proc n m h amount offers first = (
  first.0,
  record {
    name = n.name;
    mode = mode_of m;
    me = None;
    values = h.values;
    channels = h.channels;
    amount = amount;
    offers = offers;
    first = first.1;
  },
)

unfoldable pub check_proc :
    Elaborator → NameAt → OfferedMode → ParTrees → Option Potential → TypeTree → CodeTree
    → Checked (Elaborator × ProcDecl)
check_proc w n m pars potential offers body = do
  h ← check_pars (at_head false w) pars
  t ← check_type (made h.0 (declared_amount h.0.built potential)).0 offers
  c ← check_code t.0 body
  found (the_proc n m h.1 (declared_amount h.0.built potential).1 t.1 c)

abbrev pub the_transaction : NameAt → VarId → Head → Amount → TypeId → Elaborator × CodeId → Elaborator × ProcDecl
the_transaction n payer h amount offers first = (
  first.0,
  record {
    name = n.name;
    mode = mode.T;
    me = Some payer;
    values = h.values;
    channels = h.channels;
    amount = amount;
    offers = offers;
    first = first.1;
  },
)

-- the node `1` and the potential at the head of a transaction
abbrev pub ended : Elaborator → ℕ → Elaborator × TypeId
ended w at = type_made w node.One at

unfoldable pub check_transaction :
    Elaborator → ℕ → NameAt → ParTrees → Option Potential → CodeTree → Checked (Elaborator × ProcDecl)
check_transaction w at n pars potential body = do
  let p = made (at_head true w) (payer_seen w.built)
  h ← check_pars p.0 pars
  let o = ended h.0 at
  let q = made o.0 (declared_amount o.0.built potential)
  c ← check_code q.0 body
  found (the_transaction n p.1 h.1 q.1 o.1 c)

-- what is declared so far, and the names of that
pub record Progress : Type 0 where
  pub defs : List Def
  pub fns : List FnDecl
  pub procs : List ProcDecl
  pub before : Spaces
  pub work : Elaborator

-- one more definition, function or process
abbrev pub and_def : Progress → Elaborator × Def → Progress
and_def v d = record v { defs = v.defs ++ d.1 ∷ []; work = d.0 }

abbrev pub and_fn : Progress → Elaborator × FnDecl → Progress
and_fn v f = record v { fns = v.fns ++ f.1 ∷ []; work = f.0 }

abbrev pub and_proc : Progress → Elaborator × ProcDecl → Progress
and_proc v p = record v { procs = v.procs ++ p.1 ∷ []; work = p.0 }

-- a declaration without the name that it adds
unfoldable pub check_body : Progress → DeclTree → Checked Progress
check_body v (definition at m n body) = do
  _ ← demand (new_among v.before.types n)
  d ← check_def v.work n m body
  found (and_def v d)
check_body v (function at n pars gives body) = do
  _ ← demand (new_among v.before.functions n)
  f ← check_fn v.work n pars (kind_of gives) body
  found (and_fn v f)
check_body v (process at m n pars potential offers body) = do
  _ ← demand (new_among v.before.processes n)
  p ← check_proc v.work n m pars potential offers body
  found (and_proc v p)
check_body v (transaction at n pars potential body) = do
  _ ← demand (new_among v.before.processes n)
  p ← check_transaction v.work at n pars potential body
  found (and_proc v p)

-- the name of one more declaration
abbrev pub named_too : DeclTree → Progress → Progress
named_too d v = record v { before = declaring v.before d }

abbrev pub check_decl : Progress → DeclTree → Checked Progress
check_decl v d = do
  w ← check_body v d
  found (named_too d w)

abbrev pub check_decls : Progress → List DeclTree → Checked Progress
check_decls v [] = found v
check_decls v (d ∷ decls) = do
  w ← check_decl v d
  check_decls w decls

-- nothing is declared, in a text with these names and this cost model
abbrev pub begun : Spaces → CostModel → Progress
begun all model =
    record {
      defs = [];
      fns = [];
      procs = [];
      before = no_names;
      work = record { spaces = all; model = model; inside = false; scope = []; built = nothing_built };
    }

-- the lists of what was declared
abbrev pub lists_made : Progress → ProgramLists
lists_made v =
    record {
      defs = v.defs;
      types = v.work.built.types;
      terms = v.work.built.terms;
      code = v.work.built.code;
      fns = v.fns;
      procs = v.procs;
      labels = v.work.built.labels;
    }

abbrev pub all_made : Progress → Checked ProgramLists
all_made v = found (lists_made v)

abbrev pub check_lists : FileTree → Checked ProgramLists
check_lists tree = check_decls (begun (declaring_all no_names tree.decls) (model_of tree.cost)) tree.decls >>= all_made
