use Rattle.std.proofs.Common.{◌∙◌, refl, ap, sym}
use Rattle.std.specs.Cmp.Lexicographic.{lists_ties}
use Rattle.std.specs.Ordering.{int_cmp, is_eq}
use Rattle.nomos_forms.proofs.shared_coefs.SharedCoefs.is_same.Goals as goal

-- they are the same exactly where their order ties
pub returns : goal.returns
returns c =
    c.is_eq.ensures ∙ ap is_eq c.order.ensures
    ∙ sym (lists_ties int_cmp (λ a b. refl) c.args.self.now c.args.other.now)
