-- Which instructions are a declaration's, and which judgement stands at one.
use Rattle.std.specs.Prelude.{◌≡◌, ℕ, Contains, Some, slice_get}
use Rattle.nomos_ir.specs.CodeParts.{code_next}
use Rattle.nomos_ir.specs.declared.code_node.CodeNode.{CodeNode}
use Rattle.nomos_ir.specs.declared.declaration.ProcDecl.{ProcDecl}
use Rattle.nomos_ir.specs.declared.lists.ProgramLists.{ProgramLists}
use Rattle.nomos_types.specs.Amount.{Annotations}
use Rattle.nomos_types.specs.Derivation.{Follows}
use Rattle.nomos_types.specs.Judgement.{Judgement, start_of}

-- The instruction with this number is one of the declaration's: its first one, or one with which one of them goes on.
pub data IsCodeOf (lists : ProgramLists) (d : ProcDecl) : ℕ → Type 0 where
  begins : IsCodeOf lists d d.first.0
  leads : {at next : ℕ} → (n : CodeNode) → IsCodeOf lists d at → slice_get lists.code at ≡ Some n
      → Contains (code_next n) next → IsCodeOf lists d next

-- The judgement stands at its place in the program: it follows from the start of a declaration.
pub record IsPlace (lists : ProgramLists) (x : Annotations) (j : Judgement) : Type 0 where
  pub number : ℕ
  pub declaration : ProcDecl
  pub declared : slice_get lists.procs number ≡ Some declaration
  pub follows : Follows lists x (start_of lists x declaration) j
