-- A mirror of the code: potentials that are noted one after another in a table.
use Rattle.std.specs.Prelude.{ℕ, List, [], ◌∷◌, slice_set, unsigned_abs}
use Rattle.nomos_forms.specs.Linear.{form_value}
use Rattle.nomos_forms.specs.declared.form.Form.{Form}
use Rattle.nomos_forms.specs.declared.found.Found.{Found}
use Rattle.nomos_ir.specs.declared.ids.CodeId.{CodeId}

-- what a form comes to that is 0 or more
abbrev pub potential_in : Found → Form → ℕ
potential_in amounts form = unsigned_abs (form_value amounts.stars amounts.unit form)

-- the table where these are noted
abbrev pub noted : Found → List (CodeId × Form) → List ℕ → List ℕ
noted amounts [] potentials = potentials
noted amounts (e ∷ es) potentials = noted amounts es (slice_set potentials e.0.0 (potential_in amounts e.1))
