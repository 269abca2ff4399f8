-- When an amount can be added to a form and taken from it.
use Rattle.std.specs.Prelude.{◌≤◌, length}
use Rattle.nomos_ir.specs.declared.amount.Amount.{Amount}
use Rattle.nomos_ir.specs.Amounts.{IsAmount, star_of}
use Rattle.nomos_forms.specs.declared.form.Form.{Form}
use Rattle.nomos_forms.specs.Bounds.{IsForm}

-- the numbers of the form are small, and it has a coefficient for the amount's star
pub record HasRoom (f : Form) (r : Amount) : Type 0 where
  pub form : IsForm (length f.coefs) f
  pub small : IsAmount r
  pub star : star_of r ≤ length f.coefs
