use Rattle.std.proofs.Common.{◌≡◌, ◌∙◌, ℕ, pos, replicate, ap}
use Rattle.nomos_check.proofs.FormLemmas.{none-form}
use Rattle.nomos_check.proofs.potential_form.PotentialForm.none.Goals as goal

pub returns : goal.returns
returns c =
    let zeros : c.in_ok-coefs.coefs.items ≡ replicate c.from.result (pos 0) =
    c.in_ok-coefs.ensures.items_if_clones_equal (λ y h. h)
    in
    let same : c.from.result ≡ c.args.stars = c.from.ensures in
    none-form c.args.stars c.in_ok-coefs.coefs.items (zeros ∙ ap (λ (n : ℕ). replicate n (pos 0)) same)
