-- A mirror of the code: with what a node begins, and the kind that it has.
use Rattle.std.specs.Prelude.{Option, Some, None}
use Rattle.nomos_ir.specs.declared.kind.Kind.{Kind}
use Rattle.nomos_ir.specs.declared.type_node.TypeNode.{TypeNode}
use Rattle.nomos_ir.specs.declared.type_node.TypeNode.TheVariants as node
use Rattle.nomos_equality.specs.declared.constructor.Constructor.{Constructor}
use Rattle.nomos_equality.specs.declared.constructor.Constructor.TheVariants as begins

abbrev pub constructor_of : TypeNode → Constructor
constructor_of node.One = begins.One
constructor_of (node.Plus branches) = begins.Plus
constructor_of (node.With branches) = begins.With
constructor_of (node.Tensor a b) = begins.Tensor
constructor_of (node.Lolli a b) = begins.Lolli
constructor_of (node.ValueOut kind a) = begins.ValueOut
constructor_of (node.ValueIn kind a) = begins.ValueIn
constructor_of (node.PotOut amount a) = begins.PotOut
constructor_of (node.PotIn amount a) = begins.PotIn
constructor_of (node.Up a) = begins.Up
constructor_of (node.Down a) = begins.Down
constructor_of (node.Named d) = begins.Named

abbrev pub kind_of : TypeNode → Option Kind
kind_of (node.ValueOut kind a) = Some kind
kind_of (node.ValueIn kind a) = Some kind
kind_of _ = None
