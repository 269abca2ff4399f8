use Rattle.std.proofs.Common.{◌≡◌, ◌++◌, take}
use Rattle.std.specs.Fmt.{signed_decimal}
use Rattle.std.specs.List.{flat_map}
use Rattle.std.specs.Prelude.{codes}
use Rattle.nomos_top.proofs.refusal_lines.push_coefs.Given as goal

-- the coefficients so far
abbrev pub invariant-loop-coef : goal.invariant-loop-coef
invariant-loop-coef l =
    l.text.items ≡ l.fn.text.items ++ flat_map (λ c. signed_decimal c ++ codes " ") (take l.coef-index l.coefs)
