-- The program of a text.
use Rattle.std.specs.Prelude.{List, [], ◌∷◌, ◌++◌, codes, Option, Some, None}
use Rattle.nomos_elaborate.specs.Built.{Built, nothing_built, with_variable, variable_id, put_type, amount_of, kind_of}
use Rattle.nomos_elaborate.specs.CodeBuild.{build_code}
use Rattle.nomos_elaborate.specs.CostModel.{model_of}
use Rattle.nomos_elaborate.specs.FileClaims.{pars_scope}
use Rattle.nomos_elaborate.specs.Names.{Names, seen}
use Rattle.nomos_elaborate.specs.Spaces.{no_names, declaring_all}
use Rattle.nomos_elaborate.specs.declared.spaces.Spaces.{Spaces}
use Rattle.nomos_elaborate.specs.TermBuild.{build_term, payer_id}
use Rattle.nomos_elaborate.specs.TypeBuild.{build_type}
use Rattle.nomos_ir.specs.declared.amount.Amount.{Amount}
use Rattle.nomos_ir.specs.declared.amount.Amount.TheVariants as amount
use Rattle.nomos_ir.specs.declared.declaration.FnDecl.{FnDecl}
use Rattle.nomos_ir.specs.declared.declaration.Par.{Par}
use Rattle.nomos_ir.specs.declared.declaration.ProcDecl.{ProcDecl}
use Rattle.nomos_ir.specs.declared.ids.TypeId.{TypeId}
use Rattle.nomos_ir.specs.declared.ids.VarId.{VarId}
use Rattle.nomos_ir.specs.declared.kind.Kind.{Kind}
use Rattle.nomos_ir.specs.declared.lists.ProgramLists.{ProgramLists}
use Rattle.nomos_ir.specs.declared.mode.Mode.{Mode}
use Rattle.nomos_ir.specs.declared.mode.Mode.TheVariants as mode
use Rattle.nomos_ir.specs.declared.type_node.Def.{Def}
use Rattle.nomos_ir.specs.declared.type_node.TypeNode.TheVariants as node
use Rattle.nomos_surface.specs.declared.declarations.ListPotential.{ListPotential}
use Rattle.nomos_surface.specs.declared.declarations.OfferedMode.{OfferedMode}
use Rattle.nomos_surface.specs.declared.declarations.OfferedMode.TheVariants as offered
use Rattle.nomos_surface.specs.declared.declarations.ProcessPar.{ProcessPar}
use Rattle.nomos_surface.specs.declared.declarations.ValuePar.{ValuePar}
use Rattle.nomos_surface.specs.declared.potential.Potential.{Potential}
use Rattle.nomos_surface.specs.declared.surface.CostModel.{CostModel}
use Rattle.nomos_surface.specs.Tree.{ChanParTree, DeclTree, definition, function, process, transaction, FileTree}

-- the declarations that were built, and the nodes
pub record Declared : Type 0 where
  pub defs : List Def
  pub fns : List FnDecl
  pub procs : List ProcDecl
  pub built : Built

-- Before the first declaration there are no definitions, no functions, no processes and no nodes.
abbrev pub nothing_declared : Declared
nothing_declared = record { defs = []; fns = []; procs = []; built = nothing_built }

-- one more item at the front
abbrev pub with_item : {A : Type 0} → A → Built × List A → Built × List A
with_item first built = (built.0, first ∷ built.1)

-- the parameters of a function, each with its kind
abbrev pub build_value_pars : Built → List ValuePar → Built × List (VarId × Kind)
build_value_pars s [] = (s, [])
build_value_pars s (p ∷ pars) =
    let bound = with_variable s p.name in
    with_item (variable_id bound p.name, kind_of p.value) (build_value_pars bound pars)

-- the amount that each element of a list parameter carries
abbrev pub some_amount : Built × Amount → Built × Option Amount
some_amount paid = (paid.0, Some paid.1)

-- A list parameter with a written potential has its amount, and a parameter without one has none.
abbrev pub par_amount : Built → Option ListPotential → Built × Option Amount
par_amount s None = (s, None)
par_amount s (Some q) = some_amount (amount_of s q.potential)

-- the parameters of a process that are no channels
abbrev pub build_process_pars : Built → List ProcessPar → Built × List Par
build_process_pars s [] = (s, [])
build_process_pars s (p ∷ pars) =
    let bound = with_variable s p.name in
    let paid = par_amount bound p.list in
    with_item
    (record { var = variable_id bound p.name; kind = kind_of p.value; amount = paid.1 })
    (build_process_pars paid.0 pars)

-- the channel parameters, each with its type
abbrev pub build_chan_pars : Names → Built → List ChanParTree → Built × List (VarId × TypeId)
build_chan_pars types s [] = (s, [])
build_chan_pars types s (p ∷ pars) =
    let bound = with_variable s p.name in
    let built = build_type types bound p.goes in
    with_item (variable_id bound p.name, built.1) (build_chan_pars types built.0 pars)

-- the declared potential, 0 where none is written
abbrev pub declared_amount : Built → Option Potential → Built × Amount
declared_amount s None = (s, amount.Written 0)
declared_amount s (Some q) = amount_of s q

-- the mode of a process that offers a type, or of a definition
abbrev pub mode_of : OfferedMode → Mode
mode_of offered.R = mode.R
mode_of offered.S = mode.S
mode_of offered.L = mode.L

-- the account that pays is seen at the head of a transaction
abbrev pub with_payer : Built → Built
with_payer s = record s { variables = seen s.variables (codes "me") }

-- a declaration, after those before it
abbrev pub add_decl : CostModel → Spaces → Declared → DeclTree → Declared
add_decl model all d (definition at m n body) =
    let built = build_type all.types d.built body in
    record d { defs = d.defs ++ record { name = n.name; mode = mode_of m; body = built.1 } ∷ []; built = built.0 }
add_decl model all d (function at n pars gives body) =
    let bound = build_value_pars d.built pars in
    let built = build_term all.functions bound.0 body in
    record d {
      fns =
          d.fns
          ++ record { name = n.name; at = n.at; pars = bound.1; gives = kind_of gives; body = built.1 } ∷ [];
      built = built.0;
    }
add_decl model all d (process at m n pars potential offers body) =
    let values = build_process_pars d.built pars.values in
    let channels = build_chan_pars all.types values.0 pars.channels in
    let paid = declared_amount channels.0 potential in
    let offered = build_type all.types paid.0 offers in
    let first = build_code model all (pars_scope pars) offered.0 body in
    record d {
      procs =
          d.procs
          ++ record {
            name = n.name;
            mode = mode_of m;
            me = None;
            values = values.1;
            channels = channels.1;
            amount = paid.1;
            offers = offered.1;
            first = first.1;
          }
          ∷ [];
      built = first.0;
    }
add_decl model all d (transaction at n pars potential body) =
    let payer = with_payer d.built in
    let values = build_process_pars payer pars.values in
    let channels = build_chan_pars all.types values.0 pars.channels in
    let offered = put_type channels.0 node.One at in
    let paid = declared_amount offered.0 potential in
    let first = build_code model all (pars_scope pars) paid.0 body in
    record d {
      procs =
          d.procs
          ++ record {
            name = n.name;
            mode = mode.T;
            me = Some (payer_id payer);
            values = values.1;
            channels = channels.1;
            amount = paid.1;
            offers = offered.1;
            first = first.1;
          }
          ∷ [];
      built = first.0;
    }

-- The declarations are added one after the other, in order of text.
abbrev pub add_decls : CostModel → Spaces → Declared → List DeclTree → Declared
add_decls model all d [] = d
add_decls model all d (decl ∷ decls) = add_decls model all (add_decl model all d decl) decls

-- the lists of what was declared
abbrev pub lists_of : Declared → ProgramLists
lists_of d =
    record {
      defs = d.defs;
      types = d.built.types;
      terms = d.built.terms;
      code = d.built.code;
      fns = d.fns;
      procs = d.procs;
      labels = d.built.labels;
    }

-- the program of a tree
abbrev pub program_of : FileTree → ProgramLists
program_of tree =
    lists_of (add_decls (model_of tree.cost) (declaring_all no_names tree.decls) nothing_declared tree.decls)
