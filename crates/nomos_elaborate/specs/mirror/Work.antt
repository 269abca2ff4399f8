-- A mirror of what the code does with names and nodes. No promise stands on it.
use Rattle.nomos_elaborate.specs.Built.{Built, with_variable, variable_id, label_id, with_label}
use Rattle.nomos_elaborate.specs.NameClaim.{new_on_way}
use Rattle.nomos_elaborate.specs.Scope.{bind}
use Rattle.nomos_elaborate.specs.FileBuild.{with_payer}
use Rattle.nomos_elaborate.specs.TermBuild.{payer_id}
use Rattle.nomos_elaborate.specs.declared.elaborator.Elaborator.{Elaborator}
use Rattle.nomos_elaborate.specs.declared.sort.Sort.{Sort}
use Rattle.nomos_elaborate.specs.mirror.Checked.{Checked, found, demand, ◌>>=◌}
use Rattle.nomos_ir.specs.declared.ids.Label.{Label}
use Rattle.nomos_ir.specs.declared.ids.VarId.{VarId}
use Rattle.nomos_surface.specs.declared.name_at.NameAt.{NameAt}

-- something that was built
abbrev pub made : {A : Type 0} → Elaborator → Built × A → Elaborator × A
made w built = (record w { built = built.0 }, built.1)

-- a variable that was seen, and a label
abbrev pub variable_seen : Built → NameAt → Built × VarId
variable_seen s v = (with_variable s v, variable_id (with_variable s v) v)

abbrev pub payer_seen : Built → Built × VarId
payer_seen s = (with_payer s, payer_id (with_payer s))

abbrev pub label_seen : Built → NameAt → Built × Label
label_seen s l = (with_label s l, label_id (with_label s l) l)

-- the variable of a binder
abbrev pub check_new : Elaborator → NameAt → Checked (Elaborator × VarId)
check_new w n = do
  _ ← demand (new_on_way w.scope n)
  found (made w (variable_seen w.built n))

-- one more name is bound
abbrev pub bound : Elaborator → NameAt → Sort → Elaborator
bound w n s = record w { scope = bind w.scope n s }

-- a binder whose name is bound at once
abbrev pub check_bind : Elaborator → NameAt → Sort → Checked (Elaborator × VarId)
check_bind w n s = do
  v ← check_new w n
  found (bound v.0 n s, v.1)
