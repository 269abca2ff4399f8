-- Sums of coefficients times amounts, in whole numbers without a bound.
use Rattle.std.specs.Prelude.{ℕ, ◌*◌, ◌-◌, slice_index, ℤ, pos, List, [], ◌∷◌, ◌+ℤ◌, ◌*ℤ◌}
use Rattle.nomos_ir.specs.declared.amount.Amount.{Amount}
use Rattle.nomos_ir.specs.declared.amount.Amount.TheVariants as amount
use Rattle.nomos_forms.specs.declared.form.Form.{Form}

-- x1*c1 + .. + xn*cn
abbrev pub dot : List ℤ → List ℕ → ℤ
dot [] amounts = pos 0
dot (c ∷ cs) [] = pos 0
dot (c ∷ cs) (x ∷ xs) = pos x *ℤ c +ℤ dot cs xs

-- the value of a form under amounts, both counted in parts of which a unit of gas has `unit`
abbrev pub form_value : List ℕ → ℕ → Form → ℤ
form_value amounts unit form = dot form.coefs amounts +ℤ pos unit *ℤ form.plus

-- what an amount is worth under amounts found for the stars
abbrev pub worth : List ℕ → ℕ → Amount → ℕ
worth amounts unit (amount.Written units) = units * unit
worth amounts unit (amount.Star star) = slice_index amounts (star - 1)
