-- What is made of a text so far: the nodes in order of their numbers, the labels and the variables as first seen, and
-- how many stars there were.
use Rattle.std.specs.Prelude.{ℕ, ◌+◌, List, [], ◌∷◌, ◌++◌, length}
use Rattle.nomos_elaborate.specs.Names.{Names, seen, number_of}
use Rattle.nomos_ir.specs.declared.amount.Amount.{Amount}
use Rattle.nomos_ir.specs.declared.amount.Amount.TheVariants as amount
use Rattle.nomos_ir.specs.declared.code_node.CodeNode.{CodeNode}
use Rattle.nomos_ir.specs.declared.ids.Label.{Label}
use Rattle.nomos_ir.specs.declared.ids.TermId.{TermId}
use Rattle.nomos_ir.specs.declared.ids.TypeId.{TypeId}
use Rattle.nomos_ir.specs.declared.ids.VarId.{VarId}
use Rattle.nomos_ir.specs.declared.kind.Kind.{Kind}
use Rattle.nomos_ir.specs.declared.term_node.TermNode.{TermNode}
use Rattle.nomos_ir.specs.declared.type_node.TypeAt.{TypeAt}
use Rattle.nomos_ir.specs.declared.type_node.TypeNode.{TypeNode}
use Rattle.nomos_surface.specs.declared.name_at.NameAt.{NameAt}
use Rattle.nomos_surface.specs.declared.potential.Potential.{Potential}
use Rattle.nomos_surface.specs.declared.potential.Quantity.{Quantity}
use Rattle.nomos_surface.specs.declared.potential.Quantity.TheVariants as quantity
use Rattle.nomos_surface.specs.declared.value_type.ValueType.{ValueType}

-- What has been made of a text: nodes of types, terms and codes, labels and variables as first seen, and stars.
pub record Built : Type 0 where
  pub types : List TypeAt
  pub terms : List TermNode
  pub code : List CodeNode
  pub labels : Names
  pub variables : Names
  pub stars : ℕ

-- Before the first token nothing is made, no name is seen and no star is counted.
abbrev pub nothing_built : Built
nothing_built = record { types = []; terms = []; code = []; labels = []; variables = []; stars = 0 }

-- a label, or a variable, was seen
abbrev pub with_label : Built → NameAt → Built
with_label s l = record s { labels = seen s.labels l.name }

-- A variable that is met takes its place behind those seen before, unless it is among them.
abbrev pub with_variable : Built → NameAt → Built
with_variable s v = record s { variables = seen s.variables v.name }

-- the numbers of labels and variables that were seen
abbrev pub label_id : Built → NameAt → Label
label_id s l = record { 0 = number_of s.labels l.name }

-- The number of a variable is its place among the variables that were seen.
abbrev pub variable_id : Built → NameAt → VarId
variable_id s v = record { 0 = number_of s.variables v.name }

-- the next type node, at its offset, and the next term node
abbrev pub put_type : Built → TypeNode → ℕ → Built × TypeId
put_type s node at =
    (record s { types = s.types ++ record { node = node; at = at } ∷ [] }, record { 0 = length s.types })

-- A term node is placed behind the others, and its number is how many stood before it.
abbrev pub put_term : Built → TermNode → Built × TermId
put_term s node = (record s { terms = s.terms ++ node ∷ [] }, record { 0 = length s.terms })

-- an amount: a written number, or the next star
abbrev pub quantity_amount : Built → Quantity → Built × Amount
quantity_amount s (quantity.Number units) = (s, amount.Written units)
quantity_amount s quantity.Star = (record s { stars = s.stars + 1 }, amount.Star (s.stars + 1))

-- The amount of a written potential `{q}` or `{*}` is that of the quantity in its braces.
abbrev pub amount_of : Built → Potential → Built × Amount
amount_of s q = quantity_amount s q.quantity

-- the kind of a type of values
abbrev pub kind_of : ValueType → Kind
kind_of t = record { lists = length t.lists; base = t.base }
