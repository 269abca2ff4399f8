-- The table of forms has each of them.
use Rattle.std.proofs.Common.{◌∙◌, Some, sym, ap}
use Rattle.nomos_journal.proofs.FormLemmas.{no_form, work_alone, other_form}
use Rattle.nomos_journal.proofs.form_names.read_gasless.Goals as goal

pub returns-in_err-form : goal.returns-in_err-form
returns-in_err-form c =
    rw c.from_residual.ensures (no_form c.args.text.now (sym c.form_named.ensures ∙ c.in_err-form.was))

pub returns-in-Work : goal.returns-in-Work
returns-in-Work c =
    work_alone c.args.text.now (sym c.form_named.ensures ∙ c.in_ok-form.was ∙ ap (λ f. Some f) c.in-Work.is)

pub returns-in_default : goal.returns-in_default
returns-in_default c =
    other_form c.args.text.now c.in_ok-form.form (sym c.form_named.ensures ∙ c.in_ok-form.was) c.in_default.not-Work
