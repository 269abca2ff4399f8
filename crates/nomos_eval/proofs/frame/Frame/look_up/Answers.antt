-- What stands at the place of the variable is what it is bound to.
use Rattle.std.proofs.Common.{pos, sym, ap, ◌∙◌}
use Rattle.nomos_ir.specs.Bindings.{bound_to}
use Rattle.nomos_eval.specs.declared.datum.Datum.TheVariants as datum
use Rattle.nomos_eval.proofs.AscendingLemmas.{first-bound, none-bound}
use Rattle.nomos_eval.proofs.frame.Frame.look_up.Goals as goal

pub returns-in-Some : goal.returns-in-Some
returns-in-Some c =
    sym (ap (bound_to c.args.v.0) (sym (c.as_slice-pairs.ensures.value ∙ c.self.view_is))
    ∙ first-bound c.as_slice-pairs.result.now c.args.v c.in-Some.place (record { 0 = 0 }, datum.Int (pos 0))
    c.in-Some.ensures)

pub returns-in-None : goal.returns-in-None
returns-in-None c =
    sym (ap (bound_to c.args.v.0) (sym (c.as_slice-pairs.ensures.value ∙ c.self.view_is))
    ∙ none-bound c.as_slice-pairs.result.now c.args.v c.in-None.ensures)
