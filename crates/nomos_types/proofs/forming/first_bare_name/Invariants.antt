use Rattle.std.proofs.Common.{ℕ, ◌<◌, get_or}
use Rattle.nomos_ir.specs.declared.type_node.Def.{Def}
use Rattle.nomos_types.specs.Forming.{BeginsWell}
use Rattle.nomos_types.proofs.forming.first_bare_name.Given as goal

-- the definitions so far begin with constructors
abbrev pub invariant-loop-def : goal.invariant-loop-def
invariant-loop-def l = (k : ℕ) (d : Def) → k < l.def-index → BeginsWell l.program (get_or l.def-items k d)
