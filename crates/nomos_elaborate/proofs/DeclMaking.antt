-- What declarations make counts in their trees.
use Rattle.std.proofs.Common.{ℕ, ◌+◌, ◌≤◌, List, [], ◌∷◌, ◌++◌, length, All, Option, Some, None, codes, refl, arith}
use Rattle.std.specs.List.{flat_map}
use Rattle.std.proofs.lemmas.List.{length_push}
use Rattle.std.proofs.lemmas.List.Elements.{All-nil, All-cons, All-append, All-push}
use Rattle.nomos_elaborate.specs.Built.{Built, with_variable, variable_id, put_type, amount_of, kind_of}
use Rattle.nomos_elaborate.specs.CodeBuild.{build_code}
use Rattle.nomos_elaborate.specs.CostModel.{model_of}
use Rattle.nomos_elaborate.specs.FileBuild.{Declared, nothing_declared, build_value_pars, build_process_pars, build_chan_pars, par_amount, declared_amount, mode_of, with_payer, add_decl, add_decls}
use Rattle.nomos_elaborate.specs.FileClaims.{pars_scope}
use Rattle.nomos_elaborate.specs.Names.{Names, seen}
use Rattle.nomos_elaborate.specs.Spaces.{declaring_all, no_names}
use Rattle.nomos_elaborate.specs.TermBuild.{build_term, payer_id}
use Rattle.nomos_elaborate.specs.TypeBuild.{build_type}
use Rattle.nomos_elaborate.specs.declared.spaces.Spaces.{Spaces}
use Rattle.nomos_elaborate.proofs.Making.{TypeKeeps, TermKeeps, CodeKeeps, BuiltKeeps, Makes, makes-nothing, makes-both, makes-under, makes-within, makes-type, makes-variable, makes-names, makes-amount, amount-small, all-one, plain-type}
use Rattle.nomos_elaborate.proofs.TreeMaking.{type-makes, term-makes, code-makes}
use Rattle.nomos_grammar.specs.Offence.{star_limit}
use Rattle.nomos_ir.specs.Amounts.{IsAmount, par_amounts, proc_amounts}
use Rattle.nomos_ir.specs.Kinds.{IsShallow, FnIsShallow}
use Rattle.nomos_ir.specs.Name.{IsShortName}
use Rattle.nomos_ir.specs.declared.amount.Amount.{Amount}
use Rattle.nomos_ir.specs.declared.declaration.FnDecl.{FnDecl}
use Rattle.nomos_ir.specs.declared.declaration.Par.{Par}
use Rattle.nomos_ir.specs.declared.declaration.ProcDecl.{ProcDecl}
use Rattle.nomos_ir.specs.declared.ids.VarId.{VarId}
use Rattle.nomos_ir.specs.declared.kind.Kind.{Kind}
use Rattle.nomos_ir.specs.declared.mode.Mode.TheVariants as mode
use Rattle.nomos_ir.specs.declared.type_node.Def.{Def}
use Rattle.nomos_ir.specs.declared.type_node.TypeNode.TheVariants as node
use Rattle.nomos_surface.specs.TreeBounds.{IsWithinLimits, KeepsName, KeepsOptional, KeepsListPotential, KeepsValuePar, KeepsPar, KeepsChanPar, KeepsDecl}
use Rattle.nomos_surface.specs.Counts.{Count, in_each, in_optional, in_list_potential, in_value_par, in_par, in_chan_par, in_decl, in_file}
use Rattle.nomos_surface.specs.Grammatical.{Each}
use Rattle.nomos_surface.specs.declared.declarations.ListPotential.{ListPotential}
use Rattle.nomos_surface.specs.declared.declarations.ProcessPar.{ProcessPar}
use Rattle.nomos_surface.specs.declared.declarations.ValuePar.{ValuePar}
use Rattle.nomos_surface.specs.declared.potential.Potential.{Potential}
use Rattle.nomos_surface.specs.declared.surface.CostModel.{CostModel}
use Rattle.nomos_surface.specs.Tree.{ChanParTree, DeclTree, definition, function, process, transaction, FileTree}

-- parameters of functions
value_pars-makes : (s : Built) (pars : List ValuePar)
    → Makes (Each KeepsValuePar pars) s (in_each in_value_par pars) (build_value_pars s pars).0
value_pars-makes s [] = makes-nothing _ s
value_pars-makes s (p ∷ pars) =
    makes-within (omega arith) (omega arith)
    (makes-both (makes-variable (KeepsValuePar p) s p.name) (value_pars-makes (with_variable s p.name) pars))

value_pars-keep : (s : Built) (pars : List ValuePar) → Each KeepsValuePar pars
    → All (λ par. IsShallow par.1) (build_value_pars s pars).1
value_pars-keep s [] k = All-nil (λ (par : VarId × Kind). IsShallow par.1)
value_pars-keep s (p ∷ pars) k =
    let bound = with_variable s p.name in
    All-cons (λ (par : VarId × Kind). IsShallow par.1) (variable_id bound p.name, kind_of p.value)
    (build_value_pars bound pars).1
    k.0.1 (value_pars-keep bound pars k.1)

-- the amount of a list parameter
par_amount-makes : (s : Built) (q : Option ListPotential)
    → Makes (KeepsListPotential q) s (in_list_potential q) (par_amount s q).0
par_amount-makes s None = makes-nothing _ s
par_amount-makes s (Some q) = makes-within (omega arith) (omega arith) (makes-amount s q.potential)

-- parameters of processes that are no channels
process_pars-makes : (s : Built) (pars : List ProcessPar)
    → Makes (Each KeepsPar pars) s (in_each in_par pars) (build_process_pars s pars).0
process_pars-makes s [] = makes-nothing _ s
process_pars-makes s (p ∷ pars) =
    let bound = with_variable s p.name in
    makes-within (omega arith) (omega arith)
    (makes-under (λ k. (k.0.0, (k.0.1, k.1)))
    (makes-both (makes-variable (KeepsName p.name) s p.name)
    (makes-both (par_amount-makes bound p.list) (process_pars-makes (par_amount bound p.list).0 pars))))

process_pars-shallow : (s : Built) (pars : List ProcessPar) → Each KeepsPar pars
    → All (λ par. IsShallow par.kind) (build_process_pars s pars).1
process_pars-shallow s [] k = All-nil (λ (par : Par). IsShallow par.kind)
process_pars-shallow s (p ∷ pars) k =
    let bound = with_variable s p.name in
    let paid = par_amount bound p.list in
    All-cons (λ (par : Par). IsShallow par.kind)
    (record { var = variable_id bound p.name; kind = kind_of p.value; amount = paid.1 })
    (build_process_pars paid.0 pars).1
    k.0.2 (process_pars-shallow paid.0 pars k.1)

par-small : (s : Built) (q : Option ListPotential) (v : VarId) (kind : Kind) → KeepsListPotential q
    → (par_amount s q).0.stars ≤ star_limit
    → All IsAmount (par_amounts (record { var = v; kind = kind; amount = (par_amount s q).1 }))
par-small s None v kind k few = All-nil IsAmount
par-small s (Some q) v kind k few = all-one IsAmount (amount_of s q.potential).1 (amount-small s q.potential k few)

process_pars-small : (s : Built) (pars : List ProcessPar) → Each KeepsPar pars
    → (build_process_pars s pars).0.stars ≤ star_limit
    → All IsAmount (flat_map par_amounts (build_process_pars s pars).1)
process_pars-small s [] k few = All-nil IsAmount
process_pars-small s (p ∷ pars) k few =
    let bound = with_variable s p.name in
    let paid = par_amount bound p.list in
    let rest = process_pars-makes paid.0 pars in
    let first : Par = record { var = variable_id bound p.name; kind = kind_of p.value; amount = paid.1 } in
    All-append IsAmount (par_amounts first) (flat_map par_amounts (build_process_pars paid.0 pars).1)
    (par-small bound p.list (variable_id bound p.name) (kind_of p.value) k.0.1 (omega arith))
    (process_pars-small paid.0 pars k.1 few)

-- channel parameters
chan_pars-makes : (types : Names) (s : Built) (pars : List ChanParTree)
    → Makes (Each KeepsChanPar pars) s (in_each in_chan_par pars) (build_chan_pars types s pars).0
chan_pars-makes types s [] = makes-nothing _ s
chan_pars-makes types s (p ∷ pars) =
    let bound = with_variable s p.name in
    makes-within (omega arith) (omega arith)
    (makes-under (λ k. (k.0.0, (k.0.1, k.1)))
    (makes-both (makes-variable (KeepsName p.name) s p.name)
    (makes-both (type-makes types bound p.goes) (chan_pars-makes types (build_type types bound p.goes).0 pars))))

-- declared potentials
potential-makes : (s : Built) (q : Option Potential) → Makes (KeepsOptional q) s (in_optional q) (declared_amount s q).0
potential-makes s None = makes-nothing _ s
potential-makes s (Some q) = makes-amount s q

potential-small : (s : Built) (q : Option Potential) → KeepsOptional q → (declared_amount s q).0.stars ≤ star_limit
    → IsAmount (declared_amount s q).1
potential-small s None k few = omega arith
potential-small s (Some q) k few = amount-small s q k few

-- functions and processes are within the limits
pub record FnKeeps (f : FnDecl) : Type 0 where
  pub name : IsShortName f.name
  pub kinds : FnIsShallow f

pub record ProcKeeps (p : ProcDecl) : Type 0 where
  pub name : IsShortName p.name
  pub kinds : All (λ par. IsShallow par.kind) p.values
  pub amounts : All IsAmount (proc_amounts p)

pub record DeclaredKeeps (d : Declared) : Type 0 where
  pub defs : All (λ e. IsShortName e.name) d.defs
  pub fns : All FnKeeps d.fns
  pub procs : All ProcKeeps d.procs
  pub built : BuiltKeeps d.built

-- the declarations so far
abbrev pub how_many : Declared → ℕ
how_many d = length d.defs + length d.fns + length d.procs

-- what a declaration makes
pub record Declares (Kept : Type 0) (d : Declared) (c : Count) (e : Declared) : Type 0 where
  pub built : Makes Kept d.built c e.built
  pub many : how_many e ≤ how_many d + c.nodes
  pub keeps : Kept → e.built.stars ≤ star_limit → DeclaredKeeps d → DeclaredKeeps e

-- a process is within the limits
process-keeps : (d : Declared) (p : ProcDecl) (after : Built) → DeclaredKeeps d → ProcKeeps p → BuiltKeeps after
    → DeclaredKeeps (record d { procs = d.procs ++ p ∷ []; built = after })
process-keeps d p after h k built = record {
  defs = h.defs;
  fns = h.fns;
  procs = All-push ProcKeeps d.procs p h.procs k;
  built = built;
}

amounts-keep : (values : List Par) (amount : Amount) → All IsAmount (flat_map par_amounts values) → IsAmount amount
    → All IsAmount (flat_map par_amounts values ++ amount ∷ [])
amounts-keep values amount each own =
    All-append IsAmount (flat_map par_amounts values) (amount ∷ []) each (all-one IsAmount amount own)

decl-declares : (model : CostModel) (all : Spaces) (d : Declared) (decl : DeclTree)
    → Declares (KeepsDecl decl) d (in_decl decl) (add_decl model all d decl)
decl-declares model all d (definition at m n body) =
    let built : Makes (KeepsDecl (definition at m n body)) d.built (in_decl (definition at m n body))
    (build_type all.types d.built body).0 =
    makes-within (omega arith) (omega arith) (makes-under (λ k. k.1) (type-makes all.types d.built body)) in
    let def : Def = record { name = n.name; mode = mode_of m; body = (build_type all.types d.built body).1 } in
    let one = length_push d.defs def in
    record {
      built = built;
      many = omega arith;
      keeps = λ k few h. record {
        defs = All-push (λ (e : Def). IsShortName e.name) d.defs def h.defs k.0;
        fns = h.fns;
        procs = h.procs;
        built = built.keeps k few h.built;
      };
    }
decl-declares model all d (function at n pars gives body) =
    let bound = build_value_pars d.built pars in
    let made = build_term all.functions bound.0 body in
    let built : Makes (KeepsDecl (function at n pars gives body)) d.built (in_decl (function at n pars gives body))
    made.0 =
    makes-within (omega arith) (omega arith)
    (makes-under (λ k. (k.1, k.3))
    (makes-both (value_pars-makes d.built pars) (term-makes all.functions bound.0 body))) in
    let fn : FnDecl = record { name = n.name; at = n.at; pars = bound.1; gives = kind_of gives; body = made.1 } in
    let one = length_push d.fns fn in
    record {
      built = built;
      many = omega arith;
      keeps = λ k few h. record {
        defs = h.defs;
        fns =
            All-push FnKeeps d.fns fn h.fns
            (record { name = k.0; kinds = record { pars = value_pars-keep d.built pars k.1; gives = k.2 } });
        procs = h.procs;
        built = built.keeps k few h.built;
      };
    }
decl-declares model all d (process at m n pars potential offers body) =
    let values = build_process_pars d.built pars.values in
    let channels = build_chan_pars all.types values.0 pars.channels in
    let paid = declared_amount channels.0 potential in
    let offered = build_type all.types paid.0 offers in
    let first = build_code model all (pars_scope pars) offered.0 body in
    let with_channels = chan_pars-makes all.types values.0 pars.channels in
    let with_amount = potential-makes channels.0 potential in
    let with_offers = type-makes all.types paid.0 offers in
    let with_code = code-makes model all (pars_scope pars) offered.0 body in
    let built : Makes (KeepsDecl (process at m n pars potential offers body)) d.built
    (in_decl (process at m n pars potential offers body)) first.0 =
    makes-within (omega arith) (omega arith)
    (makes-under (λ k. (k.1.0, (k.1.1, (k.2, (k.3, k.4)))))
    (makes-both (process_pars-makes d.built pars.values)
    (makes-both with_channels (makes-both with_amount (makes-both with_offers with_code))))) in
    let proc : ProcDecl = record {
      name = n.name;
      mode = mode_of m;
      me = None;
      values = values.1;
      channels = channels.1;
      amount = paid.1;
      offers = offered.1;
      first = first.1;
    } in
    let one = length_push d.procs proc in
    record {
      built = built;
      many = omega arith;
      keeps = λ k few h. process-keeps d proc first.0 h
          (record {
            name = k.0;
            kinds = process_pars-shallow d.built pars.values k.1.0;
            amounts =
                amounts-keep values.1 paid.1 (process_pars-small d.built pars.values k.1.0 (omega arith))
                (potential-small channels.0 potential k.2 (omega arith));
          })
          (built.keeps k few h.built);
    }
decl-declares model all d (transaction at n pars potential body) =
    let payer = with_payer d.built in
    let values = build_process_pars payer pars.values in
    let channels = build_chan_pars all.types values.0 pars.channels in
    let offered = put_type channels.0 node.One at in
    let paid = declared_amount offered.0 potential in
    let first = build_code model all (pars_scope pars) paid.0 body in
    let with_channels = chan_pars-makes all.types values.0 pars.channels in
    let with_amount = potential-makes offered.0 potential in
    let with_code = code-makes model all (pars_scope pars) paid.0 body in
    let with_one : Makes (Unit {0}) channels.0 (record { nodes = 1; stars = 0 }) offered.0 =
    makes-type (omega arith) (omega arith) (makes-nothing _ channels.0) node.One at (λ k few. plain-type _ refl refl) in
    let built : Makes (KeepsDecl (transaction at n pars potential body)) d.built
    (in_decl (transaction at n pars potential body)) first.0 =
    makes-within (omega arith) (omega arith)
    (makes-under (λ k. (tt, (k.1.0, (k.1.1, (tt, (k.2, k.3))))))
    (makes-both (makes-names (Unit {0}) d.built (seen d.built.variables (codes "me")))
    (makes-both (process_pars-makes payer pars.values)
    (makes-both with_channels (makes-both with_one (makes-both with_amount with_code)))))) in
    let proc : ProcDecl = record {
      name = n.name;
      mode = mode.T;
      me = Some (payer_id payer);
      values = values.1;
      channels = channels.1;
      amount = paid.1;
      offers = offered.1;
      first = first.1;
    } in
    let one = length_push d.procs proc in
    record {
      built = built;
      many = omega arith;
      keeps = λ k few h. process-keeps d proc first.0 h
          (record {
            name = k.0;
            kinds = process_pars-shallow payer pars.values k.1.0;
            amounts =
                amounts-keep values.1 paid.1 (process_pars-small payer pars.values k.1.0 (omega arith))
                (potential-small offered.0 potential k.2 (omega arith));
          })
          (built.keeps k few h.built);
    }

decls-declare : (model : CostModel) (all : Spaces) (d : Declared) (decls : List DeclTree)
    → Declares (Each KeepsDecl decls) d (in_each in_decl decls) (add_decls model all d decls)
decls-declare model all d [] = record { built = makes-nothing _ d.built; many = omega arith; keeps = λ k few h. h }
decls-declare model all d (decl ∷ decls) =
    let first = decl-declares model all d decl in
    let rest = decls-declare model all (add_decl model all d decl) decls in
    record {
      built = makes-both first.built rest.built;
      many = omega arith;
      keeps = λ k few h. rest.keeps k.1 few (first.keeps k.0 (omega arith) h);
    }

-- nothing is within the limits
nothing-keeps : DeclaredKeeps nothing_declared
nothing-keeps = record {
  defs = All-nil (λ (e : Def). IsShortName e.name);
  fns = All-nil FnKeeps;
  procs = All-nil ProcKeeps;
  built = record {
    types = All-nil (λ t. TypeKeeps t.node);
    terms = All-nil TermKeeps;
    code = All-nil CodeKeeps;
    labels = All-nil IsShortName;
  };
}

-- what is declared in a tree
abbrev pub declared_in : FileTree → Declared
declared_in tree = add_decls (model_of tree.cost) (declaring_all no_names tree.decls) nothing_declared tree.decls

-- the declarations of a tree make no more than counts in it
pub tree-declares : (tree : FileTree)
    → Declares (Each KeepsDecl tree.decls) nothing_declared (in_file tree) (declared_in tree)
tree-declares tree = decls-declare (model_of tree.cost) (declaring_all no_names tree.decls) nothing_declared tree.decls

-- and keep to the limits where the tree does
pub tree-keeps : (tree : FileTree) → IsWithinLimits tree → DeclaredKeeps (declared_in tree)
tree-keeps tree limits =
    let h = tree-declares tree in
    h.keeps limits.decls (omega arith) nothing-keeps
