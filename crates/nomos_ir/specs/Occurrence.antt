-- Which variables occur in a term.
use Rattle.std.specs.Prelude.{◌≡◌, ℕ, Contains, Some, slice_get}
use Rattle.nomos_ir.specs.declared.ids.TermId.{TermId}
use Rattle.nomos_ir.specs.declared.ids.VarId.{VarId}
use Rattle.nomos_ir.specs.declared.lists.ProgramLists.{ProgramLists}
use Rattle.nomos_ir.specs.declared.term_node.TermNode.{TermNode}
use Rattle.nomos_ir.specs.declared.term_node.TermNode.TheVariants as node
use Rattle.nomos_ir.specs.TermParts.{term_parts}

-- the variable with this number occurs in the term
pub data OccursIn (lists : ProgramLists) (v : ℕ) : TermId → Type 0 where
  itself : (t : TermId) (at : ℕ) (w : VarId) → slice_get lists.terms t.0 ≡ Some (node.Var at w) → w.0 ≡ v
      → OccursIn lists v t
  in_part : (t : TermId) (n : TermNode) (p : TermId) → slice_get lists.terms t.0 ≡ Some n → Contains (term_parts n) p.0
      → OccursIn lists v p → OccursIn lists v t
