-- The ids of the program of a tree whose names obey the rules are in range.
use Rattle.std.proofs.Common.{◌≡◌, ◌+◌, Bool, true, false, not, List, [], ◌∷◌, ◌++◌, length, get_or, refl, sym, subst, arith}
use Rattle.nomos_elaborate.proofs.BuiltRangeLaws.{TypeFits, TermFits, CodeFits, one_more}
use Rattle.nomos_elaborate.proofs.NameClaimLaws.{AllHold, first_holds, left_hold, right_hold}
use Rattle.nomos_elaborate.proofs.DeclaredRangeLaws.{ProcFits, DeclaredInRange, DeclaredInRange-none, decls_made}
use Rattle.nomos_elaborate.specs.Elaborated.{ObeysNames}
use Rattle.nomos_elaborate.specs.NameClaim.{new_among}
use Rattle.nomos_elaborate.specs.CodeClaims.{code_claims}
use Rattle.nomos_elaborate.specs.CostModel.{model_of}
use Rattle.nomos_elaborate.specs.FileBuild.{Declared, nothing_declared, add_decl, add_decls, lists_of, program_of}
use Rattle.nomos_elaborate.specs.FileClaims.{value_pars_claims, value_pars_scope, pars_claims, pars_scope, decl_claims, decls_claims}
use Rattle.nomos_elaborate.specs.Names.{Names, is_among, seen}
use Rattle.nomos_elaborate.specs.Spaces.{no_names, declaring, declaring_all}
use Rattle.nomos_elaborate.specs.TermClaims.{term_claims}
use Rattle.nomos_elaborate.specs.TypeClaims.{type_claims}
use Rattle.nomos_elaborate.specs.declared.spaces.Spaces.{Spaces}
use Rattle.nomos_ir.specs.CodeParts.{code_calls}
use Rattle.nomos_ir.specs.Ids.{AllBelow, TypeInRange, TermInRange, CodeInRange, ProcInRange, IdsInRange}
use Rattle.nomos_ir.specs.TermParts.{term_calls}
use Rattle.nomos_ir.specs.TypeParts.{type_names}
use Rattle.nomos_ir.specs.declared.code_node.CodeNode.{CodeNode}
use Rattle.nomos_ir.specs.declared.declaration.ProcDecl.{ProcDecl}
use Rattle.nomos_ir.specs.declared.term_node.TermNode.{TermNode}
use Rattle.nomos_ir.specs.declared.type_node.TypeNode.{TypeNode}
use Rattle.nomos_surface.specs.declared.name_at.NameAt.{NameAt}
use Rattle.nomos_surface.specs.declared.surface.CostModel.{CostModel}
use Rattle.nomos_surface.specs.Tree.{DeclTree, definition, function, process, transaction, FileTree}

-- as many declarations as names, in each space
record Counted (spaces : Spaces) (d : Declared) : Type 0 where
  defs : length d.defs ≡ length spaces.types
  fns : length d.fns ≡ length spaces.functions
  procs : length d.procs ≡ length spaces.processes

-- a new name is one name more
new_length : (names : Names) (n : NameAt) → (new_among names n).holds ≡ true
    → length (seen names n.name) ≡ length names + 1
new_length names n new = by (is_among names n.name) refl new
  where
    by : (b : Bool) → is_among names n.name ≡ b → not b ≡ true → length (seen names n.name) ≡ length names + 1
    by true e h = cc
    by false e h = rw e (one_more names n.name)

-- one declaration more beside one name more
more_counted : {A : Type 0} (xs : List A) (x : A) (names : Names) (n : NameAt) → (new_among names n).holds ≡ true
    → length xs ≡ length names → length (xs ++ x ∷ []) ≡ length (seen names n.name)
more_counted xs x names n new h = let one = one_more xs x in let other = new_length names n new in omega arith

decl_counted : (model : CostModel) (all before : Spaces) (d : Declared) (decl : DeclTree)
    → AllHold (decl_claims all before decl) → Counted before d
    → Counted (declaring before decl) (add_decl model all d decl)
decl_counted model all before d (definition at m n body) hold c =
    let new = first_holds (new_among before.types n) (type_claims all.types body) hold in
    record { defs = more_counted d.defs _ before.types n new c.defs; fns = c.fns; procs = c.procs }
decl_counted model all before d (function at n pars gives body) hold c =
    let claims = term_claims all.functions false (value_pars_scope [] pars) body in
    let new = first_holds (new_among before.functions n) (value_pars_claims [] pars ++ claims) hold in
    record { defs = c.defs; fns = more_counted d.fns _ before.functions n new c.fns; procs = c.procs }
decl_counted model all before d (process at m n pars potential offers body) hold c =
    let heads = pars_claims all.types pars in
    let codes = code_claims (record { spaces = all; inside = false }) (pars_scope pars) body in
    let new = first_holds (new_among before.processes n) (heads ++ type_claims all.types offers ++ codes) hold in
    record { defs = c.defs; fns = c.fns; procs = more_counted d.procs _ before.processes n new c.procs }
decl_counted model all before d (transaction at n pars potential body) hold c =
    let codes = code_claims (record { spaces = all; inside = true }) (pars_scope pars) body in
    let new = first_holds (new_among before.processes n) (pars_claims all.types pars ++ codes) hold in
    record { defs = c.defs; fns = c.fns; procs = more_counted d.procs _ before.processes n new c.procs }

decls_counted : (model : CostModel) (all before : Spaces) (d : Declared) (decls : List DeclTree)
    → AllHold (decls_claims all before decls) → Counted before d
    → Counted (declaring_all before decls) (add_decls model all d decls)
decls_counted model all before d [] hold c = c
decls_counted model all before d (decl ∷ decls) hold c =
    let ones = decl_claims all before decl in
    let others = decls_claims all (declaring before decl) decls in
    decls_counted model all (declaring before decl) (add_decl model all d decl) decls (right_hold ones others hold)
    (decl_counted model all before d decl (left_hold ones others hold) c)

-- the nodes in the lists of what was declared
module _ (all : Spaces) (d : Declared) (c : Counted all d) where
  type_in_range : (n : TypeNode) → TypeFits (length all.types) (length d.built.types) (length d.built.labels) n
      → TypeInRange (lists_of d) n
  type_in_range n h = record {
    parts = h.parts;
    names = subst (λ k. AllBelow k (type_names n)) (sym c.defs) h.names;
    labels = h.labels;
  }

  term_in_range : (n : TermNode) → TermFits (length all.functions) (length d.built.terms) n → TermInRange (lists_of d) n
  term_in_range n h = record { parts = h.parts; calls = subst (λ k. AllBelow k (term_calls n)) (sym c.fns) h.calls }

  code_in_range : (n : CodeNode)
      → CodeFits (length all.processes) (length d.built.code) (length d.built.terms) (length d.built.labels) n
      → CodeInRange (lists_of d) n
  code_in_range n h = record {
    next = h.next;
    terms = h.terms;
    calls = subst (λ k. AllBelow k (code_calls n)) (sym c.procs) h.calls;
    labels = h.labels;
  }

  proc_in_range : (p : ProcDecl) → ProcFits (length d.built.types) (length d.built.code) p → ProcInRange (lists_of d) p
  proc_in_range p h = record { channels = h.channels; offers = h.offers; first = h.first }

  lists_in_range : DeclaredInRange all d → IdsInRange (lists_of d)
  lists_in_range r = record {
    defs = r.defs;
    types = λ k x within. type_in_range (get_or d.built.types k x).node (r.built.types k x within);
    terms = λ k x within. term_in_range (get_or d.built.terms k x) (r.built.terms k x within);
    code = λ k x within. code_in_range (get_or d.built.code k x) (r.built.code k x within);
    fns = r.fns;
    procs = λ k x within. proc_in_range (get_or d.procs k x) (r.procs k x within);
  }

-- the ids of the program of a tree whose names obey the rules
pub ids-in-range : (tree : FileTree) → ObeysNames tree → IdsInRange (program_of tree)
ids-in-range tree names =
    let all = declaring_all no_names tree.decls in
    let model = model_of tree.cost in
    lists_in_range all (add_decls model all nothing_declared tree.decls)
    (decls_counted model all no_names nothing_declared tree.decls names
    (record { defs = refl; fns = refl; procs = refl }))
    (decls_made all model no_names nothing_declared tree.decls names (DeclaredInRange-none all))
