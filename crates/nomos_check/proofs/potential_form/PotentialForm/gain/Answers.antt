use Rattle.std.proofs.Common.{◌≡◌, ◌≤◌, ◌-◌, ℕ, List, set, get_or, length, ℤ, pos, ◌+ℤ◌, ap, ap₂, sym, subst, refl, ◌∙◌, arith}
use Rattle.std.proofs.lemmas.List.Elements.{All-get_or}
use Rattle.std.proofs.lemmas.List.FromFn.{length-map-range_with_len}
use Rattle.nomos_ir.specs.declared.amount.Amount.{Amount}
use Rattle.nomos_ir.specs.Amounts.{IsAmount, star_of}
use Rattle.nomos_forms.specs.declared.form.Form.{Form}
use Rattle.nomos_forms.specs.Bounds.{IsForm, IsSmall}
use Rattle.nomos_check.specs.Account.{gains, form_of}
use Rattle.nomos_check.proofs.FormLemmas.{gained-written, gained-star, sum-in_machine, more-in_machine, coef_of, units_of}
use Rattle.nomos_check.proofs.potential_form.PotentialForm.gain.Goals as goal

abbrev Made : List ℤ → ℤ → Form
Made coefs plus = record { coefs = coefs; plus = plus }

pub returns-in-Written : goal.returns-in-Written
returns-in-Written c = λ n a is.
    let inside = c.self.inside in
    let u = c.in-Written.units in
    let whole = c.self.view_is ∙ is in
    let coefs : inside.coefs.items ≡ (form_of n a).coefs = ap (λ (f : Form). f.coefs) whole in
    let plus : inside.plus ≡ units_of a = ap (λ (f : Form). f.plus) whole in
    let few : u ≤ 1000000000 = subst (λ (r : Amount). IsAmount r) c.in-Written.is c.requires.small in
    let small : IsSmall inside.plus = subst (λ (f : Form). IsSmall f.plus) (sym c.self.view_is) c.requires.form.plus in
    let sum = sum-in_machine inside.plus c.from.result u c.from.ensures small few ∙ ap (λ (z : ℤ). z +ℤ pos u) plus in
    ap₂ Made coefs sum
    ∙ gained-written n a u (units_of a +ℤ pos u) refl
    ∙ ap (λ (r : Amount). form_of n (gains r a)) (sym c.in-Written.is)

pub returns-in-Star : goal.returns-in-Star
returns-in-Star c = λ n a is.
    let inside = c.self.inside in
    let s = c.in-Star.star in
    let at = c.from-in-Star.result - 1 in
    let here = c.index_mut.result.now in
    let whole = c.self.view_is ∙ is in
    let coefs : inside.coefs.items ≡ (form_of n a).coefs = ap (λ (f : Form). f.coefs) whole in
    let plus : inside.plus ≡ units_of a = ap (λ (f : Form). f.plus) whole in
    let least : 1 ≤ s = (subst (λ (r : Amount). IsAmount r) c.in-Star.is c.requires.small).0 in
    let width : length inside.coefs.items ≡ n = ap length coefs ∙ length-map-range_with_len (coef_of a) 1 n in
    let wide : s ≤ length inside.coefs.items =
    subst (λ (f : Form). s ≤ length f.coefs) (sym c.self.view_is) (subst (λ
    (r : Amount). star_of r ≤ length c.args.self.now.coefs) c.in-Star.is c.requires.star)
    in
    let place : at ≡ s - 1 = ap (λ (k : ℕ). k - 1) c.from-in-Star.ensures in
    let read : here ≡ get_or inside.coefs.items at here = c.index_mut.ensures.value in
    let all : IsForm (length inside.coefs.items) (Made inside.coefs.items inside.plus) =
    subst (λ (f : Form). IsForm (length f.coefs) f) (sym c.self.view_is) c.requires.form
    in
    let small : IsSmall here = subst IsSmall (sym read) (All-get_or IsSmall inside.coefs.items at here (omega
    (arith, place)) all.coefs) in
    let sum = more-in_machine here small in
    let there : here ≡ get_or (form_of n a).coefs (s - 1) here = read ∙ ap₂ (λ (l : List ℤ)
    (k : ℕ). get_or l k here) coefs place in
    let z = here +ℤ pos 1 in
    ap₂ Made (ap (set inside.coefs.items at) sum ∙ ap₂ (λ (l : List ℤ) (k : ℕ). set l k z) coefs place) plus
    ∙ gained-star n a s z here least (omega arith) (ap (λ (y : ℤ). y +ℤ pos 1) there)
    ∙ ap (λ (r : Amount). form_of n (gains r a)) (sym c.in-Star.is)
