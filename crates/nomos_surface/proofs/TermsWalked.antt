-- What counts where terms are printed, and that lists in lists are not too deep there.
use Rattle.std.proofs.Common.{ℕ, Bool, true, false, List, ◌++◌}
use Rattle.nomos_grammar.specs.declared.part.Nonterminal.{Nonterminal}
use Rattle.nomos_grammar.specs.declared.part.Nonterminal.TheVariants as the_production
use Rattle.nomos_grammar.specs.declared.part.Part.{Part}
use Rattle.nomos_grammar.specs.CountedPlaces.{Counts}
use Rattle.nomos_grammar.specs.Producing.{first, later}
use Rattle.nomos_grammar.specs.Grammar.{the}
use Rattle.nomos_surface.proofs.PrintLaws.{more_stand, parted_stand, list_stand, behind, truth_stands, heading_stands, arguments_stand, term_stands, each_term}
use Rattle.nomos_surface.proofs.TypesWalked.{value_type_walks}
use Rattle.nomos_surface.proofs.Walked.{Keeps, none, one_node, joined, quiet, Walked, WalksFor}
use Rattle.nomos_surface.proofs.Yields.{Yields}
use Rattle.nomos_surface.specs.Counts.{nothing, nodes, in_term, in_terms}
use Rattle.nomos_surface.specs.declared.name_at.NameAt.{NameAt}
use Rattle.nomos_surface.specs.Grammatical.{IsTerm, is_choosing, is_matching, is_disjunction, is_or, is_conjunction, is_and, is_negation, is_not, is_comparison, is_less, is_equal, is_list_term, is_cons, is_sum, is_add, is_sub, is_product, is_mul, is_div, is_rem, is_primary, is_number, is_truth, is_me, is_variable, is_application, is_no_items, is_parenthesized, AreTerms, are_none, are_more}
use Rattle.nomos_surface.specs.mirror.Shallow.{ShallowTerm, ShallowTerms}
use Rattle.nomos_surface.specs.Print.{print_terms}
use Rattle.nomos_surface.specs.Printed.{Shown}
use Rattle.nomos_surface.specs.Tree.{TermTree, TermTrees}
use Rattle.nomos_syntax.specs.declared.symbol.Symbol.TheVariants as sym

truth_walks : (at : ℕ) (value : Bool) → WalksFor (truth_stands at value) (nodes 1) (Unit {0})
unfolding truth_stands
truth_walks at true rest after y c k = record { fact = tt; behind = _; keeps = k.1; adds = one_node }
truth_walks at false rest after y c k = record { fact = tt; behind = _; keeps = k.1; adds = one_node }

-- a heading adds nothing
pub heading_walks : (head tail : NameAt) (rest : List Part) (after : List Shown) (y : Yields rest after) (c : Counts) →
    Keeps (heading_stands head tail rest after y) c → Walked nothing (Unit {0}) y c
unfolding heading_stands
heading_walks head tail rest after y c k = record { fact = tt; behind = _; keeps = k.1.1.1.1; adds = none }

mutual
  unfolding in_term term_stands each_term arguments_stand list_stand parted_stand more_stand

  pub term_walks : {n : Nonterminal} {t : TermTree} (is : IsTerm n t) (rest : List Part) (after : List Shown)
      (y : Yields (behind n ++ rest) after) (c : Counts) → Keeps (term_stands is rest after y) c →
      Walked (in_term t) (ShallowTerm t) y c
  term_walks (is_choosing test holds fails) rest after y c k =
      let t = term_walks test _ _ _ _ k.1 in
      let h = term_walks holds _ _ _ _ t.keeps.1 in
      let f = term_walks fails _ _ _ _ h.keeps.1 in
      record {
        fact = (t.fact, h.fact, f.fact);
        behind = _;
        keeps = f.keeps;
        adds = joined one_node (joined t.adds (joined h.adds f.adds));
      }
  term_walks (is_matching {head} {tail} matched empty more) rest after y c k =
      let t = term_walks matched _ _ _ _ k.1 in
      let e = term_walks empty _ _ _ _ t.keeps.1.1.1 in
      let h = heading_walks head tail _ _ _ _ e.keeps.1 in
      let m = term_walks more _ _ _ _ h.keeps in
      record {
        fact = (t.fact, e.fact, tt, tt, m.fact);
        behind = _;
        keeps = m.keeps.1;
        adds = joined one_node (joined t.adds (joined e.adds (quiet h.adds m.adds)));
      }
  term_walks (is_disjunction t) rest after y c k =
      let r = term_walks t _ _ _ _ k in
      record { fact = r.fact; behind = _; keeps = r.keeps; adds = r.adds }
  term_walks (is_or left right) rest after y c k =
      let l = term_walks left _ _ _ _ k in
      let r = term_walks right _ _ _ _ l.keeps.1 in
      record { fact = (l.fact, r.fact); behind = _; keeps = r.keeps; adds = joined l.adds (joined one_node r.adds) }
  term_walks (is_conjunction t) rest after y c k =
      let r = term_walks t _ _ _ _ k in
      record { fact = r.fact; behind = _; keeps = r.keeps; adds = r.adds }
  term_walks (is_and left right) rest after y c k =
      let l = term_walks left _ _ _ _ k in
      let r = term_walks right _ _ _ _ l.keeps.1 in
      record { fact = (l.fact, r.fact); behind = _; keeps = r.keeps; adds = joined l.adds (joined one_node r.adds) }
  term_walks (is_negation t) rest after y c k = term_walks t _ _ _ _ k
  term_walks (is_not inner) rest after y c k =
      let r = term_walks inner _ _ _ _ k.1 in
      record { fact = r.fact; behind = _; keeps = r.keeps; adds = joined one_node r.adds }
  term_walks (is_comparison t) rest after y c k =
      let r = term_walks t _ _ _ _ k in
      record { fact = r.fact; behind = _; keeps = r.keeps; adds = r.adds }
  term_walks (is_less left right) rest after y c k =
      let l = term_walks left _ _ _ _ k in
      let r = term_walks right _ _ _ _ l.keeps.1 in
      record { fact = (l.fact, r.fact); behind = _; keeps = r.keeps; adds = joined l.adds (joined one_node r.adds) }
  term_walks (is_equal left right) rest after y c k =
      let l = term_walks left _ _ _ _ k in
      let r = term_walks right _ _ _ _ l.keeps.1 in
      record { fact = (l.fact, r.fact); behind = _; keeps = r.keeps; adds = joined l.adds (joined one_node r.adds) }
  term_walks (is_list_term t) rest after y c k =
      let r = term_walks t _ _ _ _ k in
      record { fact = r.fact; behind = _; keeps = r.keeps; adds = r.adds }
  term_walks (is_cons left right) rest after y c k =
      let l = term_walks left _ _ _ _ k in
      let r = term_walks right _ _ _ _ l.keeps.1 in
      record { fact = (l.fact, r.fact); behind = _; keeps = r.keeps; adds = joined l.adds (joined one_node r.adds) }
  term_walks (is_sum t) rest after y c k =
      let r = term_walks t _ _ _ _ k in
      record { fact = r.fact; behind = _; keeps = r.keeps; adds = r.adds }
  term_walks (is_add left right) rest after y c k =
      let l = term_walks left _ _ _ _ k in
      let r = term_walks right _ _ _ _ l.keeps.1 in
      record { fact = (l.fact, r.fact); behind = _; keeps = r.keeps; adds = joined l.adds (joined one_node r.adds) }
  term_walks (is_sub left right) rest after y c k =
      let l = term_walks left _ _ _ _ k in
      let r = term_walks right _ _ _ _ l.keeps.1 in
      record { fact = (l.fact, r.fact); behind = _; keeps = r.keeps; adds = joined l.adds (joined one_node r.adds) }
  term_walks (is_product t) rest after y c k =
      let r = term_walks t _ _ _ _ k in
      record { fact = r.fact; behind = _; keeps = r.keeps; adds = r.adds }
  term_walks (is_mul left right) rest after y c k =
      let l = term_walks left _ _ _ _ k in
      let r = term_walks right _ _ _ _ l.keeps.1 in
      record { fact = (l.fact, r.fact); behind = _; keeps = r.keeps; adds = joined l.adds (joined one_node r.adds) }
  term_walks (is_div left right) rest after y c k =
      let l = term_walks left _ _ _ _ k in
      let r = term_walks right _ _ _ _ l.keeps.1 in
      record { fact = (l.fact, r.fact); behind = _; keeps = r.keeps; adds = joined l.adds (joined one_node r.adds) }
  term_walks (is_rem left right) rest after y c k =
      let l = term_walks left _ _ _ _ k in
      let r = term_walks right _ _ _ _ l.keeps.1 in
      record { fact = (l.fact, r.fact); behind = _; keeps = r.keeps; adds = joined l.adds (joined one_node r.adds) }
  term_walks (is_primary t) rest after y c k = term_walks t _ _ _ _ k
  term_walks (is_number {at} {value}) rest after y c k = record { fact = tt; behind = _; keeps = k.1; adds = one_node }
  term_walks (is_truth {at} {value}) rest after y c k =
      let r = truth_walks at value _ _ _ _ k in
      record { fact = tt; behind = _; keeps = r.keeps; adds = r.adds }
  term_walks (is_me {at}) rest after y c k = record { fact = tt; behind = _; keeps = k.1; adds = one_node }
  term_walks (is_variable {n}) rest after y c k = record { fact = tt; behind = _; keeps = k.1; adds = one_node }
  term_walks (is_application {f} {arguments} are) rest after y c k =
      let r = arguments_walk are _ _ _ _ k.1.1 in
      record { fact = (tt, r.fact); behind = _; keeps = r.keeps.1; adds = joined one_node r.adds }
  term_walks (is_no_items {at} {element}) rest after y c k =
      let r = value_type_walks element _ _ _ _ k.1 in
      record { fact = r.fact; behind = _; keeps = r.keeps; adds = joined one_node r.adds }
  term_walks (is_parenthesized inner) rest after y c k =
      let r = term_walks inner _ _ _ _ k.1 in
      record { fact = r.fact; behind = _; keeps = r.keeps.1; adds = r.adds }

  arguments_walk : {ts : TermTrees} (are : AreTerms ts) →
      WalksFor (arguments_stand (print_terms ts) (each_term are)) (in_terms ts) (ShallowTerms ts)
  arguments_walk are_none rest after y c k = record { fact = tt; behind = _; keeps = k; adds = none }
  arguments_walk (are_more is more) rest after y c k =
      let r = term_walks is _ _ _ _ k in
      let m = more_arguments_walk more _ _ _ _ r.keeps in
      record { fact = (r.fact, m.fact); behind = _; keeps = m.keeps; adds = joined r.adds m.adds }

  more_arguments_walk : {ts : TermTrees} (are : AreTerms ts) →
      WalksFor (more_stand the_production.MoreValueArguments (the the_production.Term) sym.Comma first (later first)
      (print_terms ts) (each_term are)) (in_terms ts) (ShallowTerms ts)
  more_arguments_walk are_none rest after y c k = record { fact = tt; behind = _; keeps = k; adds = none }
  more_arguments_walk (are_more is more) rest after y c k =
      let r = term_walks is _ _ _ _ k.1 in
      let m = more_arguments_walk more _ _ _ _ r.keeps in
      record { fact = (r.fact, m.fact); behind = _; keeps = m.keeps; adds = joined r.adds m.adds }
