-- What counts where potentials, value types and types are printed, and that lists in lists are not too deep there.
use Rattle.std.proofs.Common.{◌≤◌, ◌+◌, ℕ, List, [], ◌∷◌, length, Option, Some, None, arith}
use Rattle.nomos_grammar.specs.declared.part.Part.{Part}
use Rattle.nomos_grammar.specs.declared.part.Nonterminal.{Nonterminal}
use Rattle.nomos_grammar.specs.declared.part.Nonterminal.TheVariants as the_production
use Rattle.nomos_grammar.specs.CountedPlaces.{Counts}
use Rattle.nomos_grammar.specs.Grammar.{the, CLOSE}
use Rattle.nomos_ir.specs.declared.kind.Base.{Base}
use Rattle.nomos_ir.specs.declared.kind.Base.TheVariants as base
use Rattle.nomos_surface.proofs.PrintLaws.{StandsFor, quantity_stands, potential_stands, optional_stands, lists_stand, value_type_stands, payment_stands, carrying_stands, arrow_stands, choice_stands, labelled_stands, more_stand, more_labels, type_stands, branches_stand, each_branch}
use Rattle.nomos_surface.proofs.Walked.{Keeps, none, one_node, one_star, joined, regrouped, Walked, WalksFor}
use Rattle.nomos_surface.proofs.Yields.{Yields}
use Rattle.nomos_surface.specs.Counts.{Count, nodes, ◌⊕◌, in_quantity, in_potential, in_optional, in_value_type, in_type, in_branches}
use Rattle.nomos_surface.specs.declared.potential.Potential.{Potential}
use Rattle.nomos_surface.specs.declared.potential.Quantity.{Quantity}
use Rattle.nomos_surface.specs.declared.potential.Quantity.TheVariants as quantity
use Rattle.nomos_surface.specs.declared.types.Sender.{Sender}
use Rattle.nomos_surface.specs.declared.types.Sender.TheVariants as sender
use Rattle.nomos_surface.specs.declared.value_type.ValueType.{ValueType}
use Rattle.nomos_surface.specs.Grammatical.{IsType, is_up, is_down, is_paying, is_valued, is_channel, is_atom, is_one, is_named, is_choice, is_grouped, AreBranches, last_branch, more_branches}
use Rattle.nomos_surface.specs.mirror.Shallow.{ShallowQuantity, ShallowPotential, ShallowOptional, ShallowValueType, ShallowType, ShallowBranches}
use Rattle.nomos_surface.specs.Print.{print_branches}
use Rattle.nomos_surface.specs.Printed.{Shown, Printer}
use Rattle.nomos_surface.specs.Tree.{TypeTree, BranchTrees}
use Rattle.nomos_syntax.specs.TextLimits.{nesting_limit}

-- potentials

quantity_walks : (at : ℕ) (q : Quantity) → WalksFor (quantity_stands at q) (in_quantity q) (ShallowQuantity q)
unfolding quantity_stands
quantity_walks at (quantity.Number value) rest after y c k = record { fact = tt; behind = _; keeps = k.1; adds = none }
quantity_walks at quantity.Star rest after y c k = record { fact = tt; behind = _; keeps = k.1; adds = one_star }

pub potential_walks : (q : Potential) → WalksFor (potential_stands q) (in_potential q) (ShallowPotential q)
unfolding potential_stands
potential_walks q rest after y c k =
    let r = quantity_walks q.quantity_at q.quantity _ _ _ _ k.1 in
    record { fact = r.fact; behind = _; keeps = r.keeps.1; adds = r.adds }

pub optional_walks : (q : Option Potential) → WalksFor (optional_stands q) (in_optional q) (ShallowOptional q)
unfolding optional_stands
optional_walks None rest after y c k = record { fact = tt; behind = _; keeps = k; adds = none }
optional_walks (Some q) rest after y c k = potential_walks q _ _ _ _ k

-- the types of values

pub lists_walk : (lists : List ℕ) (at : ℕ) (b : Base) (rest : List Part) (after : List Shown) (y : Yields rest after)
    (c : Counts) → Keeps (lists_stand lists at b rest after y) c →
    Walked (nodes (length lists + 1)) (c.parts + length lists ≤ nesting_limit) y c
unfolding lists_stand
lists_walk [] at base.Int rest after y c k =
    record { fact = omega (arith, k.0.nesting); behind = _; keeps = k.1; adds = one_node }
lists_walk [] at base.Bool rest after y c k =
    record { fact = omega (arith, k.0.nesting); behind = _; keeps = k.1; adds = one_node }
lists_walk (l ∷ lists) at b rest after y c k =
    let r = lists_walk lists at b _ _ _ _ k.1 in
    record {
      fact = omega (arith, r.fact);
      behind = _;
      keeps = r.keeps;
      adds = record { nodes = omega (arith, r.adds.nodes); stars = omega (arith, r.adds.stars) };
    }

pub value_type_walks : (t : ValueType) → WalksFor (value_type_stands t) (in_value_type t) (ShallowValueType t)
unfolding value_type_stands
value_type_walks t rest after y c k =
    let r = lists_walk t.lists t.base_at t.base _ _ _ _ k in
    record { fact = omega (arith, r.fact); behind = r.behind; keeps = r.keeps; adds = r.adds }

-- types

-- `|{q}>` or `<{q}|`
payment_walks : (s : Sender) (at : ℕ) (q : Potential) (rest : List Part) (after : List Shown)
    (y : Yields (the the_production.SessionType ∷ CLOSE ∷ rest) after) (c : Counts) →
    Keeps (payment_stands s at q rest after y) c → Walked (nodes 1 ⊕ in_potential q) (ShallowPotential q) y c
unfolding payment_stands
payment_walks sender.Provider at q rest after y c k =
    let r = potential_walks q _ _ _ _ k.1 in
    record { fact = r.fact; behind = _; keeps = r.keeps.1; adds = joined one_node r.adds }
payment_walks sender.Client at q rest after y c k =
    let r = potential_walks q _ _ _ _ k.1 in
    record { fact = r.fact; behind = _; keeps = r.keeps.1; adds = joined one_node r.adds }

-- `*` or `-o`
carrying_walks : (s : Sender) (at : ℕ) (rest : List Part) (after : List Shown)
    (y : Yields (the the_production.SessionType ∷ rest) after) (c : Counts) →
    Keeps (carrying_stands s at rest after y) c → Walked (nodes 1) (Unit {0}) y c
unfolding carrying_stands
carrying_walks sender.Provider at rest after y c k = record { fact = tt; behind = _; keeps = k.1; adds = one_node }
carrying_walks sender.Client at rest after y c k = record { fact = tt; behind = _; keeps = k.1; adds = one_node }

-- `/\` or `->`
arrow_walks : (s : Sender) (at : ℕ) → WalksFor (arrow_stands s at) (nodes 1) (Unit {0})
unfolding arrow_stands
arrow_walks sender.Provider at rest after y c k = record { fact = tt; behind = _; keeps = k.1; adds = one_node }
arrow_walks sender.Client at rest after y c k = record { fact = tt; behind = _; keeps = k.1; adds = one_node }

-- the branches behind the sign of a choice
choice_walks : (s : Sender) (at : ℕ) (printer : Printer) (labels : StandsFor (the the_production.Labels) printer)
    (count : Count) (Fact : Type 0) → WalksFor labels count Fact →
    WalksFor (choice_stands s at printer labels) (nodes 1 ⊕ count) Fact
unfolding choice_stands
choice_walks sender.Provider at printer labels count Fact walks rest after y c k =
    let r = walks _ _ _ _ k.1.1 in
    record { fact = r.fact; behind = _; keeps = r.keeps.1; adds = joined one_node r.adds }
choice_walks sender.Client at printer labels count Fact walks rest after y c k =
    let r = walks _ _ _ _ k.1.1 in
    record { fact = r.fact; behind = _; keeps = r.keeps.1; adds = joined one_node r.adds }

mutual
  unfolding in_type type_stands branches_stand each_branch labelled_stands more_labels more_stand

  pub type_walks : {n : Nonterminal} {t : TypeTree} (is : IsType n t) →
      WalksFor (type_stands is) (in_type t) (ShallowType t)
  type_walks (is_up goes) rest after y c k =
      let r = type_walks goes _ _ _ _ k.1 in
      record { fact = r.fact; behind = _; keeps = r.keeps; adds = joined one_node r.adds }
  type_walks (is_down goes) rest after y c k =
      let r = type_walks goes _ _ _ _ k.1 in
      record { fact = r.fact; behind = _; keeps = r.keeps; adds = joined one_node r.adds }
  type_walks (is_paying {s} {at} {q} goes) rest after y c k =
      let p = payment_walks s at q _ _ _ _ k in
      let r = type_walks goes _ _ _ _ p.keeps in
      record {
        fact = (p.fact, r.fact);
        behind = _;
        keeps = r.keeps;
        adds = regrouped (nodes 1) (in_potential q) p.adds r.adds;
      }
  type_walks (is_valued {s} {at} {value} goes) rest after y c k =
      let v = value_type_walks value _ _ _ _ k in
      let a = arrow_walks s at _ _ _ _ v.keeps in
      let r = type_walks goes _ _ _ _ a.keeps in
      record { fact = (v.fact, r.fact); behind = _; keeps = r.keeps; adds = joined v.adds (joined a.adds r.adds) }
  type_walks (is_channel {s} {at} carried goes) rest after y c k =
      let v = type_walks carried _ _ _ _ k in
      let a = carrying_walks s at _ _ _ _ v.keeps in
      let r = type_walks goes _ _ _ _ a.keeps in
      record { fact = (v.fact, r.fact); behind = _; keeps = r.keeps; adds = joined v.adds (joined a.adds r.adds) }
  type_walks (is_atom t) rest after y c k =
      let r = type_walks t _ _ _ _ k in
      record { fact = r.fact; behind = _; keeps = r.keeps; adds = r.adds }
  type_walks (is_one {at}) rest after y c k = record { fact = tt; behind = _; keeps = k.1; adds = one_node }
  type_walks (is_named {n}) rest after y c k = record { fact = tt; behind = _; keeps = k.1; adds = one_node }
  type_walks (is_choice {s} {at} {branches = several} are) rest after y c k =
      choice_walks s at _ (branches_stand are) (in_branches several) (ShallowBranches several) (branches_walk are) rest
      after y c k
  type_walks (is_grouped inner) rest after y c k =
      let r = type_walks inner _ _ _ _ k.1 in
      record { fact = r.fact; behind = _; keeps = r.keeps.1; adds = r.adds }

  branches_walk : {several : BranchTrees} (are : AreBranches several) →
      WalksFor (branches_stand are) (in_branches several) (ShallowBranches several)
  branches_walk (last_branch is) rest after y c k =
      let r = type_walks is _ _ _ _ k.1.1 in
      record { fact = (tt, r.fact, tt); behind = _; keeps = r.keeps; adds = joined r.adds none }
  branches_walk (more_branches is more) rest after y c k =
      let r = type_walks is _ _ _ _ k.1.1 in
      let m = more_branches_walk more _ _ _ _ r.keeps in
      record { fact = (tt, r.fact, m.fact); behind = _; keeps = m.keeps; adds = joined r.adds m.adds }

  more_branches_walk : {several : BranchTrees} (are : AreBranches several) →
      WalksFor (more_labels (print_branches several) (each_branch are)) (in_branches several) (ShallowBranches several)
  more_branches_walk (last_branch is) rest after y c k =
      let r = type_walks is _ _ _ _ k.1.1.1 in
      record { fact = (tt, r.fact, tt); behind = _; keeps = r.keeps; adds = joined r.adds none }
  more_branches_walk (more_branches is more) rest after y c k =
      let r = type_walks is _ _ _ _ k.1.1.1 in
      let m = more_branches_walk more _ _ _ _ r.keeps in
      record { fact = (tt, r.fact, m.fact); behind = _; keeps = m.keeps; adds = joined r.adds m.adds }
