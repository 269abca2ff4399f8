-- Parameters that ascend do so with their arguments.
use Rattle.std.proofs.Common.{List, length, subst, sym}
use Rattle.nomos_ir.specs.declared.ids.VarId.{VarId}
use Rattle.nomos_eval.specs.declared.datum.Datum.{Datum}
use Rattle.nomos_eval.specs.mirror.Ascending.{Rises}
use Rattle.nomos_eval.proofs.CallLemmas.{rises-zip}
use Rattle.nomos_eval.proofs.frame.Frame.of_call.Goals as goal

pub invariant_of-result : goal.invariant_of-result
invariant_of-result c =
    let P : List (VarId × Datum) → Type 0 = λ l. Rises l (length l) in
    subst P (sym c.in_ok-pairs.ensures) (rises-zip c.args.pars.now c.args.arguments.now c.requires)
