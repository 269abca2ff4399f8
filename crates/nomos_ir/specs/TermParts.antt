-- What a term node has in it.
use Rattle.std.specs.Prelude.{ℕ, List, [], ◌∷◌, map}
use Rattle.nomos_ir.specs.declared.kind.Kind.{Kind}
use Rattle.nomos_ir.specs.declared.term_node.TermNode.{TermNode}
use Rattle.nomos_ir.specs.declared.term_node.TermNode.TheVariants as node

-- the term nodes that are its parts, in order of text
abbrev pub term_parts : TermNode → List ℕ
term_parts (node.Number at n) = []
term_parts (node.Truth at b) = []
term_parts (node.Var at v) = []
term_parts (node.Call at f values) = map (λ e. e.0) values
term_parts (node.Nil at kind) = []
term_parts (node.Add at a b) = a.0 ∷ b.0 ∷ []
term_parts (node.Sub at a b) = a.0 ∷ b.0 ∷ []
term_parts (node.Mul at a b) = a.0 ∷ b.0 ∷ []
term_parts (node.Div at a b) = a.0 ∷ b.0 ∷ []
term_parts (node.Rem at a b) = a.0 ∷ b.0 ∷ []
term_parts (node.Less at a b) = a.0 ∷ b.0 ∷ []
term_parts (node.Equal at a b) = a.0 ∷ b.0 ∷ []
term_parts (node.And at a b) = a.0 ∷ b.0 ∷ []
term_parts (node.Or at a b) = a.0 ∷ b.0 ∷ []
term_parts (node.Cons at a b) = a.0 ∷ b.0 ∷ []
term_parts (node.Not at a) = a.0 ∷ []
term_parts (node.If at test a b) = test.0 ∷ a.0 ∷ b.0 ∷ []
term_parts (node.Match at list empty head tail full) = list.0 ∷ empty.0 ∷ full.0 ∷ []

-- the function that it calls
abbrev pub term_calls : TermNode → List ℕ
term_calls (node.Call at f values) = f.0 ∷ []
term_calls _ = []

-- the kind that it names
abbrev pub term_kinds : TermNode → List Kind
term_kinds (node.Nil at kind) = kind ∷ []
term_kinds _ = []
