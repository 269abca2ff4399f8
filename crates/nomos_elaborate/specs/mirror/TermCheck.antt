-- A mirror of how the code goes over a term. No promise stands on it.
use Rattle.std.specs.Prelude.{ℕ, List, [], ◌∷◌, length, take}
use Rattle.nomos_elaborate.specs.Built.{variable_id, put_term, kind_of}
use Rattle.nomos_elaborate.specs.NameClaim.{declared, bound_value, within}
use Rattle.nomos_elaborate.specs.Names.{number_of}
use Rattle.nomos_elaborate.specs.TermBuild.{payer_id, operator_node}
use Rattle.nomos_elaborate.specs.declared.elaborator.Elaborator.{Elaborator}
use Rattle.nomos_elaborate.specs.declared.sort.Sort.TheVariants as sort
use Rattle.nomos_elaborate.specs.mirror.Checked.{Checked, found, demand, ◌>>=◌}
use Rattle.nomos_elaborate.specs.mirror.Work.{made, check_bind}
use Rattle.nomos_ir.specs.declared.ids.TermId.{TermId}
use Rattle.nomos_ir.specs.declared.term_node.TermNode.{TermNode}
use Rattle.nomos_ir.specs.declared.term_node.TermNode.TheVariants as node
use Rattle.nomos_surface.specs.Tree.{TermTree, number, truth, me, variable, application, no_items, binary, negation, choosing, matching, parenthesized, TermTrees, no_terms, term}

-- the next term node
abbrev pub node_made : Elaborator → TermNode → Elaborator × TermId
node_made w n = made w (put_term w.built n)

-- with this many names bound, those that were bound first
abbrev pub kept : ℕ → Elaborator → Elaborator
kept count w = record w { scope = take count w.scope }

unfoldable mutual
  pub check_term : Elaborator → TermTree → Checked (Elaborator × TermId)
  check_term w (number at value) = found (node_made w (node.Number at value))
  check_term w (truth at value) = found (node_made w (node.Truth at value))
  check_term w (me at) = do
    _ ← demand (within w.inside at)
    found (node_made w (node.Var at (payer_id w.built)))
  check_term w (variable n) = do
    _ ← demand (bound_value w.scope n)
    found (node_made w (node.Var n.at (variable_id w.built n)))
  check_term w (application f arguments) = do
    _ ← demand (declared w.spaces.functions f)
    a ← check_terms w arguments
    found (node_made a.0 (node.Call f.at (record { 0 = number_of a.0.spaces.functions f.name }) a.1))
  check_term w (no_items at element) = found (node_made w (node.Nil at (kind_of element)))
  check_term w (binary operator at left right) = do
    a ← check_term w left
    b ← check_term a.0 right
    found (node_made b.0 (operator_node operator at a.1 b.1))
  check_term w (negation at inner) = do
    a ← check_term w inner
    found (node_made a.0 (node.Not at a.1))
  check_term w (choosing at test holds fails) = do
    t ← check_term w test
    a ← check_term t.0 holds
    b ← check_term a.0 fails
    found (node_made b.0 (node.If at t.1 a.1 b.1))
  check_term w (matching at matched empty head tail more) = do
    l ← check_term w matched
    a ← check_term l.0 empty
    h ← check_bind a.0 head sort.Value
    t ← check_bind h.0 tail sort.Value
    b ← check_term t.0 more
    found (node_made (kept (length a.0.scope) b.0) (node.Match at l.1 a.1 h.1 t.1 b.1))
  check_term w (parenthesized inner) = check_term w inner

  pub check_terms : Elaborator → TermTrees → Checked (Elaborator × List TermId)
  check_terms w no_terms = found (w, [])
  check_terms w (term first rest) = do
    a ← check_term w first
    b ← check_terms a.0 rest
    found (b.0, a.1 ∷ b.1)
