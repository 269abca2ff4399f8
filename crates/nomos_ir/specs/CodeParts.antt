-- What a code node has in it.
use Rattle.std.specs.Prelude.{ℕ, List, [], ◌∷◌, map}
use Rattle.std.specs.List.{flat_map}
use Rattle.nomos_ir.specs.declared.amount.Amount.{Amount}
use Rattle.nomos_ir.specs.declared.code_node.CodeNode.{CodeNode}
use Rattle.nomos_ir.specs.declared.code_node.CodeNode.TheVariants as node
use Rattle.nomos_ir.specs.declared.code_node.ValueArg.{ValueArg}
use Rattle.nomos_ir.specs.declared.code_node.ValueArg.TheVariants as arg
use Rattle.nomos_ir.specs.declared.kind.Kind.{Kind}

-- the code nodes with which it goes on, in order of text
abbrev pub code_next : CodeNode → List ℕ
code_next (node.Label at x label next) = next.0 ∷ []
code_next (node.Case at x arms) = map (λ a. a.goes.0) arms
code_next (node.Send at x y next) = next.0 ∷ []
code_next (node.Recv at x y next) = next.0 ∷ []
code_next (node.Put at x e next) = next.0 ∷ []
code_next (node.Take at x v next) = next.0 ∷ []
code_next (node.Pay at x amount next) = next.0 ∷ []
code_next (node.Get at x amount next) = next.0 ∷ []
code_next (node.Work at amount next) = next.0 ∷ []
code_next (node.Wait at x next) = next.0 ∷ []
code_next (node.Accept at next) = next.0 ∷ []
code_next (node.Detach at next) = next.0 ∷ []
code_next (node.Acquire at a x next) = next.0 ∷ []
code_next (node.Release at x a next) = next.0 ∷ []
code_next (node.Spawn at x f args next) = next.0 ∷ []
code_next (node.Let at v e next) = next.0 ∷ []
code_next (node.Emit at e next) = next.0 ∷ []
code_next (node.If at e then_next else_next) = then_next.0 ∷ else_next.0 ∷ []
code_next (node.Close at) = []
code_next (node.Fwd at x) = []
code_next (node.Call at f args) = []
code_next (node.Empty at v amount kind next) = next.0 ∷ []
code_next (node.Add at v e w next) = next.0 ∷ []
code_next (node.Match at w empty_next head tail full_next) = empty_next.0 ∷ full_next.0 ∷ []

-- the term of an argument that is one
abbrev pub arg_terms : ValueArg → List ℕ
arg_terms (arg.Term e) = e.0 ∷ []
arg_terms (arg.List w) = []

-- the terms in it, in order of text
abbrev pub code_terms : CodeNode → List ℕ
code_terms (node.Put at x e next) = e.0 ∷ []
code_terms (node.Spawn at x f args next) = flat_map arg_terms args.values
code_terms (node.Let at v e next) = e.0 ∷ []
code_terms (node.Emit at e next) = e.0 ∷ []
code_terms (node.If at e then_next else_next) = e.0 ∷ []
code_terms (node.Call at f args) = flat_map arg_terms args.values
code_terms (node.Add at v e w next) = e.0 ∷ []
code_terms _ = []

-- the process declaration that it spawns or calls
abbrev pub code_calls : CodeNode → List ℕ
code_calls (node.Spawn at x f args next) = f.0 ∷ []
code_calls (node.Call at f args) = f.0 ∷ []
code_calls _ = []

-- the label that it sends, or the labels of its branches
abbrev pub code_labels : CodeNode → List ℕ
code_labels (node.Label at x label next) = label.0 ∷ []
code_labels (node.Case at x arms) = map (λ a. a.label.0) arms
code_labels _ = []

-- its amount
abbrev pub code_amounts : CodeNode → List Amount
code_amounts (node.Pay at x amount next) = amount ∷ []
code_amounts (node.Get at x amount next) = amount ∷ []
code_amounts (node.Work at amount next) = amount ∷ []
code_amounts (node.Empty at v amount kind next) = amount ∷ []
code_amounts _ = []

-- the kind that it names
abbrev pub code_kinds : CodeNode → List Kind
code_kinds (node.Empty at v amount kind next) = kind ∷ []
code_kinds _ = []
