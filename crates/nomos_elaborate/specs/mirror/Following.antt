-- A mirror of how the code puts steps before the code that follows them. No promise stands on it.
use Rattle.std.specs.Prelude.{List, [], ◌∷◌}
use Rattle.nomos_elaborate.specs.Built.{Built}
use Rattle.nomos_elaborate.specs.CostModel.{put_code}
use Rattle.nomos_ir.specs.declared.code_node.CodeNode.{CodeNode}
use Rattle.nomos_ir.specs.declared.code_node.CodeNode.TheVariants as node
use Rattle.nomos_ir.specs.declared.ids.CodeId.{CodeId}
use Rattle.nomos_surface.specs.declared.surface.CostModel.{CostModel}

-- a step that goes on with this code; another instruction stays as it is
unfoldable pub with_next : CodeNode → CodeId → CodeNode
with_next (node.Label at x l next) goes = node.Label at x l goes
with_next (node.Case at x arms) goes = node.Case at x arms
with_next (node.Send at x y next) goes = node.Send at x y goes
with_next (node.Recv at x y next) goes = node.Recv at x y goes
with_next (node.Put at x e next) goes = node.Put at x e goes
with_next (node.Take at x v next) goes = node.Take at x v goes
with_next (node.Pay at x q next) goes = node.Pay at x q goes
with_next (node.Get at x q next) goes = node.Get at x q goes
with_next (node.Work at q next) goes = node.Work at q goes
with_next (node.Wait at x next) goes = node.Wait at x goes
with_next (node.Accept at next) goes = node.Accept at goes
with_next (node.Detach at next) goes = node.Detach at goes
with_next (node.Acquire at a x next) goes = node.Acquire at a x goes
with_next (node.Release at x a next) goes = node.Release at x a goes
with_next (node.Spawn at x f args next) goes = node.Spawn at x f args goes
with_next (node.Let at v e next) goes = node.Let at v e goes
with_next (node.Emit at e next) goes = node.Emit at e goes
with_next (node.If at e holds fails) goes = node.If at e holds fails
with_next (node.Close at) goes = node.Close at
with_next (node.Fwd at x) goes = node.Fwd at x
with_next (node.Call at f args) goes = node.Call at f args
with_next (node.Empty at v q kind next) goes = node.Empty at v q kind goes
with_next (node.Add at v e w next) goes = node.Add at v e w goes
with_next (node.Match at w empty head tail more) goes = node.Match at w empty head tail more

-- steps, in order of text, before a code that was built
abbrev pub put_before : CostModel → List CodeNode → Built × CodeId → Built × CodeId
put_before model [] built = built
put_before model (n ∷ steps) built =
    let rest = put_before model steps built in
    put_code model rest.0 (with_next n rest.1)
