-- A mirror of the code: the variables around a term, and the place of one of them.
use Rattle.std.specs.Prelude.{◌≡◌, ◌≤◌, List, ◌++◌, length, unwrap_or}
use Rattle.nomos_ir.specs.Bindings.{bound_to}
use Rattle.nomos_ir.specs.Evaluation.{nought}
use Rattle.nomos_ir.specs.Value.{ValueList}
use Rattle.nomos_ir.specs.declared.ids.VarId.{VarId}
use Rattle.nomos_eval.specs.declared.around.Around.{Around}
use Rattle.nomos_eval.specs.declared.datum.Datum.{Datum}
use Rattle.nomos_eval.specs.mirror.Ascending.{Rises}
use Rattle.nomos_eval.specs.mirror.EvalTable.{datum_value, reach}

-- a variable was looked up
pub record IsLookedUp (old : Around) (before : List ValueList) (v : VarId) (new : Around) (after : List ValueList)
    (d : Datum) : Type 0 where
  pub env : new.env.now ≡ old.env.now
  pub grown : (more : List ValueList) × (after ≡ before ++ more)
  pub rises : Rises new.env.now new.known
  pub there : reach d ≤ length after
  pub same : datum_value after d ≡ unwrap_or (bound_to v.0 old.env.now) nought
