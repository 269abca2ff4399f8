-- The forms of instructions.
use Rattle.std.specs.Prelude.{ℕ, List, codes}
use Rattle.nomos_ir.specs.declared.code_form.CodeForm.{CodeForm}
use Rattle.nomos_ir.specs.declared.code_form.CodeForm.TheVariants as form

-- the name of a form, as refusals print it
abbrev pub form_name : CodeForm → List ℕ
form_name form.Label = codes "label"
form_name form.Case = codes "case"
form_name form.Send = codes "send"
form_name form.Recv = codes "recv"
form_name form.Put = codes "put"
form_name form.Take = codes "take"
form_name form.Pay = codes "pay"
form_name form.Get = codes "get"
form_name form.Work = codes "work"
form_name form.Wait = codes "wait"
form_name form.Accept = codes "accept"
form_name form.Detach = codes "detach"
form_name form.Acquire = codes "acquire"
form_name form.Release = codes "release"
form_name form.Spawn = codes "spawn"
form_name form.Let = codes "let"
form_name form.Emit = codes "emit"
form_name form.If = codes "if"
form_name form.Close = codes "close"
form_name form.Fwd = codes "fwd"
form_name form.Call = codes "call"
form_name form.Empty = codes "empty"
form_name form.Add = codes "add"
form_name form.Match = codes "match"
