-- Programs under `cost all`: a `work` of one unit stands before each instruction that is no `work`.
use Rattle.std.specs.Prelude.{◌≡◌, ℕ, Bool, true, false, IsTrue, IsFalse, All, Some, slice_get}
use Rattle.nomos_ir.specs.CodeParts.{code_next}
use Rattle.nomos_ir.specs.declared.amount.Amount.{Amount}
use Rattle.nomos_ir.specs.declared.amount.Amount.TheVariants as amount
use Rattle.nomos_ir.specs.declared.code_node.CodeNode.{CodeNode}
use Rattle.nomos_ir.specs.declared.code_node.CodeNode.TheVariants as node
use Rattle.nomos_ir.specs.declared.ids.CodeId.{CodeId}
use Rattle.nomos_ir.specs.declared.lists.ProgramLists.{ProgramLists}

-- whether the instruction is a `work`
abbrev pub is_work : CodeNode → Bool
is_work (node.Work at q next) = true
is_work _ = false

-- a `work` has this number
abbrev pub IsWorkAt : ProgramLists → ℕ → Type 0
IsWorkAt lists c = (n : CodeNode) × (slice_get lists.code c ≡ Some n) × IsTrue (is_work n)

-- Each `work` costs one unit. Each declaration begins with a `work`, and so does what stands behind an instruction that
-- is none, in each of its branches.
pub record IsUnderCostAll (lists : ProgramLists) : Type 0 where
  pub one_unit : (c : ℕ) (at : ℕ) (q : Amount) (next : CodeId) → slice_get lists.code c ≡ Some (node.Work at q next)
      → q ≡ amount.Written 1
  pub first : All (λ d. IsWorkAt lists d.first.0) lists.procs
  pub behind : (c : ℕ) (n : CodeNode) → slice_get lists.code c ≡ Some n → IsFalse (is_work n)
      → All (IsWorkAt lists) (code_next n)
