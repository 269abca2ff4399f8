-- Where a term stands in the text.
use Rattle.std.specs.Prelude.{ℕ}
use Rattle.nomos_ir.specs.declared.term_node.TermNode.{TermNode}
use Rattle.nomos_ir.specs.declared.term_node.TermNode.TheVariants as node

-- the offset of a term node
abbrev pub term_offset : TermNode → ℕ
term_offset (node.Number at n) = at
term_offset (node.Truth at b) = at
term_offset (node.Var at v) = at
term_offset (node.Call at f values) = at
term_offset (node.Nil at kind) = at
term_offset (node.Add at a b) = at
term_offset (node.Sub at a b) = at
term_offset (node.Mul at a b) = at
term_offset (node.Div at a b) = at
term_offset (node.Rem at a b) = at
term_offset (node.Less at a b) = at
term_offset (node.Equal at a b) = at
term_offset (node.And at a b) = at
term_offset (node.Or at a b) = at
term_offset (node.Cons at a b) = at
term_offset (node.Not at a) = at
term_offset (node.If at test a b) = at
term_offset (node.Match at taken empty head tail full) = at
