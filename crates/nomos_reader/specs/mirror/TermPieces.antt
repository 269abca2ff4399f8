-- A mirror of the code: a term before others, as a tree.
use Rattle.std.specs.Prelude.{ℕ}
use Rattle.nomos_surface.specs.declared.terms.SurfaceTerm.{SurfaceTerm}
use Rattle.nomos_surface.specs.TermView.{term_tree}
use Rattle.nomos_surface.specs.Tree.{TermTree}

-- the tree of the term, with the offset of the `::` behind it
abbrev pub head_tree : SurfaceTerm × ℕ → TermTree × ℕ
head_tree h = (term_tree h.0, h.1)
