-- Tests that are decided without memory.
use Rattle.std.specs.Prelude.{◌≡◌, ℕ, Bool, Option, Some, slice_get}
use Rattle.nomos_ir.specs.Evaluation.{Evaluation, ends}
use Rattle.nomos_ir.specs.Value.{Value, truth_in}
use Rattle.nomos_ir.specs.declared.lists.ProgramLists.{ProgramLists}
use Rattle.nomos_ir.specs.declared.term_node.TermNode.{TermNode}
use Rattle.nomos_ir.specs.declared.term_node.TermNode.TheVariants as node

-- a number or a variable
abbrev pub IsSmallPart : Option TermNode → Type 0
IsSmallPart (Some (node.Number at k)) = Unit {0}
IsSmallPart (Some (node.Var at v)) = Unit {0}
IsSmallPart _ = ⊥

-- a variable, or `<` or `=` between numbers and variables
abbrev pub IsSmallNode : ProgramLists → Option TermNode → Type 0
IsSmallNode lists (Some (node.Var at v)) = Unit {0}
IsSmallNode lists (Some (node.Less at a b)) =
    IsSmallPart (slice_get lists.terms a.0) × IsSmallPart (slice_get lists.terms b.0)
IsSmallNode lists (Some (node.Equal at a b)) =
    IsSmallPart (slice_get lists.terms a.0) × IsSmallPart (slice_get lists.terms b.0)
IsSmallNode lists _ = ⊥

abbrev pub IsSmallTest : ProgramLists → ℕ → Type 0
IsSmallTest lists t = IsSmallNode lists (slice_get lists.terms t)

-- an evaluation ends with a value, and this is what a test says that has it
pub record Decides (evaluation : Evaluation) (first : Bool) : Type 0 where
  pub value : Value
  pub nodes : ℕ
  pub ended : evaluation ≡ ends value nodes
  pub taken : first ≡ truth_in value
