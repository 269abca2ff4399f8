-- A mirror: how the code finds the form of a name.
use Rattle.std.specs.Prelude.{ℕ, List, [], ◌∷◌, Option, find}
use Rattle.std.specs.Str.{bytes_eq}
use Rattle.nomos_ir.specs.CodeForm.{form_name}
use Rattle.nomos_ir.specs.declared.code_form.CodeForm.{CodeForm}
use Rattle.nomos_ir.specs.declared.code_form.CodeForm.TheVariants as form

-- every form
abbrev pub all_forms : List CodeForm
all_forms =
    form.Label ∷ form.Case ∷ form.Send ∷ form.Recv ∷ form.Put ∷ form.Take ∷ form.Pay ∷ form.Get ∷ form.Work ∷
    form.Wait ∷ form.Accept ∷ form.Detach ∷ form.Acquire ∷ form.Release ∷ form.Spawn ∷ form.Let ∷ form.Emit ∷
    form.If ∷ form.Close ∷ form.Fwd ∷ form.Call ∷ form.Empty ∷ form.Add ∷ form.Match ∷ []

-- the first form with this name
unfoldable pub form_named : List ℕ → Option CodeForm
form_named text = find (λ f. bytes_eq (form_name f) text) all_forms
