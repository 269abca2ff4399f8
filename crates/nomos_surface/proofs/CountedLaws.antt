-- In a file that keeps to all rules the tree has no more nodes and stars than the limits, and lists nest no deeper.
use Rattle.std.proofs.Common.{◌≤◌, ◌+◌, ℕ, List, [], ◌∷◌, length, Option, Some, None, arith}
use Rattle.nomos_grammar.specs.declared.part.Nonterminal.TheVariants as the_production
use Rattle.nomos_grammar.specs.declared.part.Part.{Part}
use Rattle.nomos_grammar.specs.CountedPlaces.{Counts, nothing_counted, after_token}
use Rattle.nomos_grammar.specs.Producing.{first, later}
use Rattle.nomos_grammar.specs.Grammar.{the}
use Rattle.nomos_grammar.specs.Offence.{AllKeep, star_limit}
use Rattle.nomos_grammar.proofs.LimitLaws.{IsWithinLimits}
use Rattle.nomos_ir.specs.declared.kind.Base.{Base}
use Rattle.nomos_ir.specs.declared.kind.Base.TheVariants as base
use Rattle.nomos_surface.proofs.CodesWalked.{is_term_walks, code_walks}
use Rattle.nomos_surface.proofs.ListsWalked.{list_walks, each_mapped_walks, each_kept_walks}
use Rattle.nomos_surface.proofs.PrintLaws.{kind_stands, list_potential_stands, par_stands, value_par_stands, chan_par_stands, pars_stand, value_pars_stand, mode_stands, body_stands, decl_stands, decls_stand, model_stands, file_stand, file_yields}
use Rattle.nomos_surface.proofs.TypesWalked.{potential_walks, optional_walks, lists_walk, value_type_walks, type_walks}
use Rattle.nomos_surface.proofs.Walked.{Keeps, file_keeps, total, Adds, none, one_node, joined, Walked, WalksFor}
use Rattle.nomos_surface.proofs.Yields.{Yields}
use Rattle.nomos_surface.specs.Counts.{Count, nothing, nodes, ◌⊕◌, in_each, in_value_par, in_list_potential, in_par, in_chan_par, in_pars, in_value_type, in_code, in_decl, in_file}
use Rattle.nomos_surface.specs.declared.declarations.ListPotential.{ListPotential}
use Rattle.nomos_surface.specs.declared.declarations.OfferedMode.{OfferedMode}
use Rattle.nomos_surface.specs.declared.declarations.OfferedMode.TheVariants as mode
use Rattle.nomos_surface.specs.declared.declarations.ProcessPar.{ProcessPar}
use Rattle.nomos_surface.specs.declared.declarations.ValuePar.{ValuePar}
use Rattle.nomos_surface.specs.declared.surface.CostLine.{CostLine}
use Rattle.nomos_surface.specs.declared.surface.CostModel.{CostModel}
use Rattle.nomos_surface.specs.declared.surface.CostModel.TheVariants as cost
use Rattle.nomos_surface.specs.declared.value_type.ValueType.{ValueType}
use Rattle.nomos_surface.specs.Grammatical.{Each, IsCode, IsChanPar, ArePars, IsDecl, IsGrammatical}
use Rattle.nomos_surface.specs.mirror.Shallow.{ShallowListPotential, ShallowValueType, ShallowValuePar, ShallowPar, ShallowChanPar, ShallowPars, ShallowCode, ShallowDecl}
use Rattle.nomos_surface.specs.Print.{print_value_par, print_par, print_chan_par, print_file}
use Rattle.nomos_surface.specs.Printed.{Shown, Spells}
use Rattle.nomos_surface.specs.Tree.{CodeTree, ChanParTree, ParTrees, DeclTree, definition, function, process, transaction, FileTree}
use Rattle.nomos_syntax.specs.declared.symbol.Symbol.TheVariants as sym
use Rattle.nomos_syntax.specs.Lexeme.{Placed}
use Rattle.nomos_syntax.specs.TextLimits.{nesting_limit, node_limit}

-- parameters

-- what stands behind the `:` of a value parameter, where no potential does
kind_walks : (lists : List ℕ) (at : ℕ) (b : Base) (rest : List Part) (after : List Shown) (y : Yields rest after)
    (c : Counts) →
    Keeps (kind_stands lists at b rest after y) c → Walked (nodes (length lists + 1)) (length lists ≤ nesting_limit) y c
unfolding kind_stands
kind_walks [] at base.Int rest after y c k = record { fact = omega arith; behind = _; keeps = k.1; adds = one_node }
kind_walks [] at base.Bool rest after y c k = record { fact = omega arith; behind = _; keeps = k.1; adds = one_node }
kind_walks (l ∷ lists) at b rest after y c k =
    let r = lists_walk lists at b _ _ _ _ k.1 in
    record {
      fact = omega (arith, r.fact);
      behind = _;
      keeps = r.keeps;
      adds = record { nodes = omega (arith, r.adds.nodes); stars = omega (arith, r.adds.stars) };
    }

list_potential_walks : (l : Option ListPotential) (t : ValueType) →
    WalksFor (list_potential_stands l t) (in_list_potential l ⊕ in_value_type t)
    (ShallowListPotential l × ShallowValueType t)
unfolding list_potential_stands
list_potential_walks None t rest after y c k =
    let r = kind_walks t.lists t.base_at t.base _ _ _ _ k in
    record { fact = (tt, r.fact); behind = _; keeps = r.keeps; adds = joined none r.adds }
list_potential_walks (Some l) t rest after y c k =
    let q = potential_walks l.potential _ _ _ _ k.1 in
    let r = value_type_walks t _ _ _ _ q.keeps in
    record { fact = (q.fact, r.fact); behind = _; keeps = r.keeps; adds = joined (joined one_node q.adds) r.adds }

par_walks : (p : ProcessPar) → WalksFor (par_stands p) (in_par p) (ShallowPar p)
unfolding par_stands
par_walks p rest after y c k =
    let r = list_potential_walks p.«list» p.value _ _ _ _ k.1.1 in
    record { fact = (tt, r.fact.0, r.fact.1); behind = _; keeps = r.keeps; adds = r.adds }

value_par_walks : (p : ValuePar) → WalksFor (value_par_stands p) (in_value_par p) (ShallowValuePar p)
unfolding value_par_stands
value_par_walks p rest after y c k =
    let r = value_type_walks p.value _ _ _ _ k.1.1 in
    record { fact = (tt, r.fact); behind = _; keeps = r.keeps; adds = r.adds }

chan_par_walks : (p : ChanParTree) (is : IsChanPar p) →
    WalksFor (chan_par_stands p is) (in_chan_par p) (ShallowChanPar p)
unfolding chan_par_stands
chan_par_walks p is rest after y c k =
    let r = type_walks is _ _ _ _ k.1.1 in
    record { fact = (tt, r.fact); behind = _; keeps = r.keeps; adds = r.adds }

pars_walk : (p : ParTrees) (are : ArePars p) → WalksFor (pars_stand p are) (in_pars p) (ShallowPars p)
unfolding pars_stand
pars_walk p are rest after y c k =
    let v = list_walks print_par in_par ShallowPar the_production.MoreValueParameters
    (the the_production.ValueParameter)
    sym.Comma first (later first) the_production.ValueParameters first (later first) p.values _
    (each_mapped_walks (the the_production.ValueParameter) print_par in_par ShallowPar par_stands par_walks p.values)
    _ _ _ _ k.1 in
    let n = list_walks print_chan_par in_chan_par ShallowChanPar the_production.MoreChannelParameters
    (the the_production.ChannelParameter) sym.Comma first (later first) the_production.ChannelParameters first
    (later first)
    p.channels _
    (each_kept_walks (the the_production.ChannelParameter) IsChanPar print_chan_par in_chan_par ShallowChanPar
    chan_par_stands chan_par_walks p.channels are) _ _ _ _ v.keeps.1 in
    record { fact = (v.fact, n.fact); behind = _; keeps = n.keeps.1; adds = joined v.adds n.adds }

value_pars_walk : (pars : List ValuePar) →
    WalksFor (value_pars_stand pars) (in_each in_value_par pars) (Each ShallowValuePar pars)
unfolding value_pars_stand
value_pars_walk pars rest after y c k =
    list_walks print_value_par in_value_par ShallowValuePar the_production.MoreFunctionParameters
    (the the_production.FunctionParameter) sym.Comma first (later first) the_production.FunctionParameters first
    (later first)
    pars _
    (each_mapped_walks (the the_production.FunctionParameter) print_value_par in_value_par ShallowValuePar
    value_par_stands
    value_par_walks pars) _ _ _ _ k

-- declarations

mode_keeps : (m : OfferedMode) (rest : List Part) (after : List Shown) (y : Yields rest after) (c : Counts) →
    Keeps (mode_stands m rest after y) c → Keeps y (after_token c)
unfolding mode_stands
mode_keeps mode.R rest after y c k = k.1
mode_keeps mode.S rest after y c k = k.1
mode_keeps mode.L rest after y c k = k.1

-- nodes and stars are within the limits
record AreFew (count : Count) : Type 0 where
  nodes : count.nodes ≤ node_limit
  stars : count.stars ≤ star_limit

few : {c : Counts} → IsWithinLimits c → AreFew (total c)
few w = record { nodes = w.nodes; stars = w.stars }

-- as `Walked`, where a token ends it
record Finished (count : Count) (Fact : Type 0) {parts : List Part} {after : List Shown} (y : Yields parts after)
    (c : Counts) :
    Type 0 where
  walked : Walked count Fact y c
  few_behind : AreFew (total walked.behind)

body_walk : (body : CodeTree) (is : IsCode body) (rest : List Part) (after : List Shown) (y : Yields rest after)
    (c : Counts) →
    Keeps (body_stands body is rest after y) c → Finished (in_code body) (ShallowCode body) y c
unfolding body_stands
body_walk body is rest after y c k =
    let r = code_walks body is _ _ _ _ k.1 in
    record {
      walked = record { fact = r.fact; behind = after_token r.behind; keeps = r.keeps.1; adds = r.adds };
      few_behind = few r.keeps.0;
    }

decl_walks : (d : DeclTree) (is : IsDecl d) (rest : List Part) (after : List Shown) (y : Yields rest after)
    (c : Counts) →
    Keeps (decl_stands d is rest after y) c → Finished (in_decl d) (ShallowDecl d) y c
unfolding decl_stands
decl_walks (definition at m n body) is rest after y c k =
    let r = type_walks is _ _ _ _ (mode_keeps m _ _ _ _ k.1).1.1 in
    record {
      walked = record
          { fact = (tt, r.fact); behind = after_token r.behind; keeps = r.keeps.1; adds = joined one_node r.adds };
      few_behind = few r.keeps.0;
    }
decl_walks (function at n pars gives body) is rest after y c k =
    let p = value_pars_walk pars _ _ _ _ k.1.1.1 in
    let g = value_type_walks gives _ _ _ _ p.keeps.1.1 in
    let r = is_term_walks body is _ _ _ _ g.keeps.1 in
    record {
      walked = record {
        fact = (tt, p.fact, g.fact, r.fact);
        behind = after_token r.behind;
        keeps = r.keeps.1;
        adds = joined one_node (joined p.adds (joined g.adds r.adds));
      };
      few_behind = few r.keeps.0;
    }
decl_walks (process at m n pars q offers body) is rest after y c k =
    let p = pars_walk pars is.0 _ _ _ _ (mode_keeps m _ _ _ _ k.1).1 in
    let o = optional_walks q _ _ _ _ p.keeps in
    let t = type_walks is.1 _ _ _ _ o.keeps.1 in
    let b = body_walk body is.2 _ _ _ _ t.keeps in
    record {
      walked = record {
        fact = (tt, p.fact, o.fact, t.fact, b.walked.fact);
        behind = b.walked.behind;
        keeps = b.walked.keeps;
        adds = joined one_node (joined p.adds (joined o.adds (joined t.adds b.walked.adds)));
      };
      few_behind = b.few_behind;
    }
decl_walks (transaction at n pars q body) is rest after y c k =
    let p = pars_walk pars is.0 _ _ _ _ k.1.1.1 in
    let o = optional_walks q _ _ _ _ p.keeps in
    let b = body_walk body is.1 _ _ _ _ o.keeps in
    record {
      walked = record {
        fact = (tt, p.fact, o.fact, b.walked.fact);
        behind = b.walked.behind;
        keeps = b.walked.keeps;
        adds = joined one_node (joined p.adds (joined o.adds b.walked.adds));
      };
      few_behind = b.few_behind;
    }

decls_walk : (ds : List DeclTree) (are : Each IsDecl ds) (rest : List Part) (after : List Shown) (y : Yields rest after)
    (c : Counts) → AreFew (total c) → Keeps (decls_stand ds are rest after y) c →
    Finished (in_each in_decl ds) (Each ShallowDecl ds) y c
unfolding decls_stand
decls_walk [] are rest after y c before k =
    record { walked = record { fact = tt; behind = c; keeps = k; adds = none }; few_behind = before }
decls_walk (d ∷ ds) are rest after y c before k =
    let r = decl_walks d are.0 _ _ _ _ k in
    let m = decls_walk ds are.1 _ _ _ _ r.few_behind r.walked.keeps in
    record {
      walked = record {
        fact = (r.walked.fact, m.walked.fact);
        behind = m.walked.behind;
        keeps = m.walked.keeps;
        adds = joined r.walked.adds m.walked.adds;
      };
      few_behind = m.few_behind;
    }

-- files

model_keeps : (m : CostModel) (rest : List Part) (after : List Shown) (y : Yields rest after) (c : Counts) →
    Keeps (model_stands m rest after y) c → Keeps y (after_token c)
unfolding model_stands
model_keeps cost.Ticks rest after y c k = k.1
model_keeps cost.Sends rest after y c k = k.1
model_keeps cost.All rest after y c k = k.1

-- what is counted from nothing is few where what counts behind is
counted_few : {count behind : Count} → Adds count nothing behind → AreFew behind → AreFew count
counted_few {count} {behind} a few_there =
    record { nodes = omega (arith, a.nodes, few_there.nodes); stars = omega (arith, a.stars, few_there.stars) }

none_few : AreFew nothing
none_few = record { nodes = omega arith; stars = omega arith }

file_walks : (c : Option CostLine) (ds : List DeclTree) (are : Each IsDecl ds) →
    Keeps (file_stand c ds are) nothing_counted →
    AreFew (in_each in_decl ds) × Each ShallowDecl ds
unfolding file_stand
file_walks None [] are k = (none_few, tt)
file_walks None (d ∷ ds) are k =
    let r = decl_walks d are.0 _ _ _ _ k in
    let m = decls_walk ds are.1 _ _ _ _ r.few_behind r.walked.keeps in
    (counted_few (joined r.walked.adds m.walked.adds) m.few_behind, (r.walked.fact, m.walked.fact))
file_walks (Some c) ds are k =
    let m = decls_walk ds are _ _ _ _ none_few (model_keeps c.model _ _ _ _ k.1).1 in
    (counted_few m.walked.adds m.few_behind, m.walked.fact)

-- In a file that keeps to all rules the tree has no more nodes and stars than are allowed, and lists nest no deeper.
pub counted-within : (tree : FileTree) → IsGrammatical tree → (tokens : List Placed) → Spells (print_file tree) tokens →
    AllKeep [] tokens →
    ((in_file tree).nodes ≤ node_limit) × ((in_file tree).stars ≤ star_limit) × Each ShallowDecl tree.decls
unfolding file_yields
counted-within tree is tokens spelled kept =
    let r = file_walks tree.cost tree.decls is (file_keeps (file_yields tree is) tokens spelled kept) in
    (r.0.nodes, r.0.stars, r.1)
