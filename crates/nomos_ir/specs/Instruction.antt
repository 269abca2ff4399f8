-- Where an instruction stands in the text, and its form.
use Rattle.std.specs.Prelude.{ℕ}
use Rattle.nomos_ir.specs.declared.code_form.CodeForm.{CodeForm}
use Rattle.nomos_ir.specs.declared.code_form.CodeForm.TheVariants as form
use Rattle.nomos_ir.specs.declared.code_node.CodeNode.{CodeNode}
use Rattle.nomos_ir.specs.declared.code_node.CodeNode.TheVariants as code

-- the offset of its first token, in bytes
abbrev pub code_offset : CodeNode → ℕ
code_offset (code.Label at c l next) = at
code_offset (code.Case at c arms) = at
code_offset (code.Send at c y next) = at
code_offset (code.Recv at c y next) = at
code_offset (code.Put at c e next) = at
code_offset (code.Take at c v next) = at
code_offset (code.Pay at c r next) = at
code_offset (code.Get at c r next) = at
code_offset (code.Work at r next) = at
code_offset (code.Wait at v next) = at
code_offset (code.Accept at next) = at
code_offset (code.Detach at next) = at
code_offset (code.Acquire at a v next) = at
code_offset (code.Release at v a next) = at
code_offset (code.Spawn at v f args next) = at
code_offset (code.Let at v e next) = at
code_offset (code.Emit at e next) = at
code_offset (code.If at e then_next else_next) = at
code_offset (code.Close at) = at
code_offset (code.Fwd at v) = at
code_offset (code.Call at f args) = at
code_offset (code.Empty at v r kind next) = at
code_offset (code.Add at v e w next) = at
code_offset (code.Match at w empty_next head tail full_next) = at

-- the word by which a refusal calls it
abbrev pub code_form : CodeNode → CodeForm
code_form (code.Label at c l next) = form.Label
code_form (code.Case at c arms) = form.Case
code_form (code.Send at c y next) = form.Send
code_form (code.Recv at c y next) = form.Recv
code_form (code.Put at c e next) = form.Put
code_form (code.Take at c v next) = form.Take
code_form (code.Pay at c r next) = form.Pay
code_form (code.Get at c r next) = form.Get
code_form (code.Work at r next) = form.Work
code_form (code.Wait at v next) = form.Wait
code_form (code.Accept at next) = form.Accept
code_form (code.Detach at next) = form.Detach
code_form (code.Acquire at a v next) = form.Acquire
code_form (code.Release at v a next) = form.Release
code_form (code.Spawn at v f args next) = form.Spawn
code_form (code.Let at v e next) = form.Let
code_form (code.Emit at e next) = form.Emit
code_form (code.If at e then_next else_next) = form.If
code_form (code.Close at) = form.Close
code_form (code.Fwd at v) = form.Fwd
code_form (code.Call at f args) = form.Call
code_form (code.Empty at v r kind next) = form.Empty
code_form (code.Add at v e w next) = form.Add
code_form (code.Match at w empty_next head tail full_next) = form.Match
