-- The `work {1}` that a cost model puts in, and the next code node.
use Rattle.std.specs.Prelude.{ℕ, Bool, true, false, [], ◌∷◌, ◌++◌, length, Option, Some, None, if◌then◌else◌}
use Rattle.nomos_elaborate.specs.Built.{Built}
use Rattle.nomos_ir.specs.declared.amount.Amount.TheVariants as amount
use Rattle.nomos_ir.specs.declared.code_node.CodeNode.{CodeNode}
use Rattle.nomos_ir.specs.declared.code_node.CodeNode.TheVariants as node
use Rattle.nomos_ir.specs.declared.ids.CodeId.{CodeId}
use Rattle.nomos_ir.specs.Instruction.{code_offset}
use Rattle.nomos_surface.specs.declared.surface.CostLine.{CostLine}
use Rattle.nomos_surface.specs.declared.surface.CostModel.{CostModel}
use Rattle.nomos_surface.specs.declared.surface.CostModel.TheVariants as cost

-- the cost model of a text: `ticks` where none is named
abbrev pub model_of : Option CostLine → CostModel
model_of None = cost.Ticks
model_of (Some line) = line.model

-- label sends, `send`, `put` and `close`
abbrev pub is_sending : CodeNode → Bool
is_sending (node.Label at x l next) = true
is_sending (node.Send at x y next) = true
is_sending (node.Put at x e next) = true
is_sending (node.Close at) = true
is_sending _ = false

-- whether `work {1}` is put before an instruction
abbrev pub is_charged : CostModel → CodeNode → Bool
is_charged cost.Ticks n = false
is_charged cost.Sends n = is_sending n
is_charged cost.All n = true

-- the code whose first node was put last
abbrev pub put_node : Built → CodeNode → Built × CodeId
put_node s n = (record s { code = s.code ++ n ∷ [] }, record { 0 = length s.code })

-- `work {1}` before the code, at an offset
abbrev pub put_work : Built × CodeId → ℕ → Built × CodeId
put_work built at = put_node built.0 (node.Work at (amount.Written 1) built.1)

-- the next code node, and the `work` that stands before it
abbrev pub put_code : CostModel → Built → CodeNode → Built × CodeId
put_code model s n = if is_charged model n then put_work (put_node s n) (code_offset n) else put_node s n
