-- What a type node has in it.
use Rattle.std.specs.Prelude.{ℕ, List, [], ◌∷◌, map}
use Rattle.nomos_ir.specs.declared.amount.Amount.{Amount}
use Rattle.nomos_ir.specs.declared.kind.Kind.{Kind}
use Rattle.nomos_ir.specs.declared.type_node.TypeNode.{TypeNode}
use Rattle.nomos_ir.specs.declared.type_node.TypeNode.TheVariants as node

-- the type nodes that are its parts, in order of text
abbrev pub type_parts : TypeNode → List ℕ
type_parts node.One = []
type_parts (node.Plus branches) = map (λ b. b.goes.0) branches
type_parts (node.With branches) = map (λ b. b.goes.0) branches
type_parts (node.Tensor a b) = a.0 ∷ b.0 ∷ []
type_parts (node.Lolli a b) = a.0 ∷ b.0 ∷ []
type_parts (node.ValueOut kind a) = a.0 ∷ []
type_parts (node.ValueIn kind a) = a.0 ∷ []
type_parts (node.PotOut amount a) = a.0 ∷ []
type_parts (node.PotIn amount a) = a.0 ∷ []
type_parts (node.Up a) = a.0 ∷ []
type_parts (node.Down a) = a.0 ∷ []
type_parts (node.Named def) = []

-- the definition that it names
abbrev pub type_names : TypeNode → List ℕ
type_names (node.Named def) = def.0 ∷ []
type_names _ = []

-- the labels of its branches
abbrev pub type_labels : TypeNode → List ℕ
type_labels (node.Plus branches) = map (λ b. b.label.0) branches
type_labels (node.With branches) = map (λ b. b.label.0) branches
type_labels _ = []

-- its kind of values
abbrev pub type_kinds : TypeNode → List Kind
type_kinds (node.ValueOut kind a) = kind ∷ []
type_kinds (node.ValueIn kind a) = kind ∷ []
type_kinds _ = []

-- its amount
abbrev pub type_amounts : TypeNode → List Amount
type_amounts (node.PotOut amount a) = amount ∷ []
type_amounts (node.PotIn amount a) = amount ∷ []
type_amounts _ = []
