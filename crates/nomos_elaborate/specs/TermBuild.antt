-- The term nodes of a term: parts before wholes, in order of text.
use Rattle.std.specs.Prelude.{ℕ, List, [], ◌∷◌, codes}
use Rattle.nomos_elaborate.specs.Built.{Built, with_variable, variable_id, put_term, kind_of}
use Rattle.nomos_elaborate.specs.Names.{Names, number_of}
use Rattle.nomos_ir.specs.declared.ids.TermId.{TermId}
use Rattle.nomos_ir.specs.declared.ids.VarId.{VarId}
use Rattle.nomos_ir.specs.declared.term_node.TermNode.{TermNode}
use Rattle.nomos_ir.specs.declared.term_node.TermNode.TheVariants as node
use Rattle.nomos_surface.specs.declared.terms.Operator.{Operator}
use Rattle.nomos_surface.specs.declared.terms.Operator.TheVariants as op
use Rattle.nomos_surface.specs.Tree.{TermTree, number, truth, me, variable, application, no_items, binary, negation, choosing, matching, parenthesized, TermTrees, no_terms, term}

-- the account that pays, as a variable
abbrev pub payer_id : Built → VarId
payer_id s = record { 0 = number_of s.variables (codes "me") }

-- the node of an operator between two terms
abbrev pub operator_node : Operator → ℕ → TermId → TermId → TermNode
operator_node op.Or at a b = node.Or at a b
operator_node op.And at a b = node.And at a b
operator_node op.Less at a b = node.Less at a b
operator_node op.Equal at a b = node.Equal at a b
operator_node op.Cons at a b = node.Cons at a b
operator_node op.Add at a b = node.Add at a b
operator_node op.Sub at a b = node.Sub at a b
operator_node op.Mul at a b = node.Mul at a b
operator_node op.Div at a b = node.Div at a b
operator_node op.Rem at a b = node.Rem at a b

-- one more term at the front
abbrev pub with_term : TermId → Built × List TermId → Built × List TermId
with_term first built = (built.0, first ∷ built.1)

unfoldable mutual
  pub build_term : Names → Built → TermTree → Built × TermId
  build_term functions s (number at value) = put_term s (node.Number at value)
  build_term functions s (truth at value) = put_term s (node.Truth at value)
  build_term functions s (me at) = put_term s (node.Var at (payer_id s))
  build_term functions s (variable n) = put_term s (node.Var n.at (variable_id s n))
  build_term functions s (application f arguments) =
      let built = build_terms functions s arguments in
      put_term built.0 (node.Call f.at (record { 0 = number_of functions f.name }) built.1)
  build_term functions s (no_items at element) = put_term s (node.Nil at (kind_of element))
  build_term functions s (binary operator at left right) =
      let a = build_term functions s left in
      let b = build_term functions a.0 right in
      put_term b.0 (operator_node operator at a.1 b.1)
  build_term functions s (negation at inner) =
      let a = build_term functions s inner in
      put_term a.0 (node.Not at a.1)
  build_term functions s (choosing at test holds fails) =
      let t = build_term functions s test in
      let a = build_term functions t.0 holds in
      let b = build_term functions a.0 fails in
      put_term b.0 (node.If at t.1 a.1 b.1)
  build_term functions s (matching at matched empty head tail more) =
      let l = build_term functions s matched in
      let a = build_term functions l.0 empty in
      let one = with_variable a.0 head in
      let two = with_variable one tail in
      let b = build_term functions two more in
      put_term b.0 (node.Match at l.1 a.1 (variable_id one head) (variable_id two tail) b.1)
  build_term functions s (parenthesized inner) = build_term functions s inner

  pub build_terms : Names → Built → TermTrees → Built × List TermId
  build_terms functions s no_terms = (s, [])
  build_terms functions s (term first rest) =
      let built = build_term functions s first in
      with_term built.1 (build_terms functions built.0 rest)
