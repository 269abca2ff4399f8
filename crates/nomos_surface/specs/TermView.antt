-- The tree that a term of the code stands for: where it lies in memory is left out.
use Rattle.std.specs.Prelude.{List, [], ◌∷◌}
use Rattle.nomos_surface.specs.declared.terms.SurfaceTerm.{SurfaceTerm, fold-SurfaceTerm}
use Rattle.nomos_surface.specs.declared.terms.SurfaceTerm.TheOpen.{SurfaceTerm-F}
use Rattle.nomos_surface.specs.Tree.{TermTree, number, truth, me, variable, application, no_items, binary, negation, choosing, matching, parenthesized, TermTrees, no_terms, term}

-- terms in a row
abbrev pub term_trees : List TermTree → TermTrees
term_trees [] = no_terms
term_trees (t ∷ ts) = term t (term_trees ts)

-- one level, with what is inside already seen as trees
abbrev pub term_step : SurfaceTerm-F TermTree → TermTree
term_step (SurfaceTerm-F.Number at value) = number at value
term_step (SurfaceTerm-F.Truth at value) = truth at value
term_step (SurfaceTerm-F.Me at) = me at
term_step (SurfaceTerm-F.Variable n) = variable n
term_step (SurfaceTerm-F.Call f arguments) = application f (term_trees arguments.items)
term_step (SurfaceTerm-F.Nil at element) = no_items at element
term_step (SurfaceTerm-F.Binary op at left right) = binary op at left.value right.value
term_step (SurfaceTerm-F.Not at inner) = negation at inner.value
term_step (SurfaceTerm-F.If at test holds fails) = choosing at test.value holds.value fails.value
term_step (SurfaceTerm-F.Match at matched empty head tail more) =
    matching at matched.value empty.value head tail more.value
term_step (SurfaceTerm-F.Grouped inner) = parenthesized inner.value

-- the tree of a term
abbrev pub term_tree : SurfaceTerm → TermTree
term_tree = fold-SurfaceTerm TermTree term_step
