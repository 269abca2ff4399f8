use Rattle.std.proofs.Common.{◌≡◌, ◌∙◌, ◌-◌, ◌≤◌, length, take, drop, ap, sym, min, max, arith}
use Rattle.std.specs.Cmp.Lexicographic.{slice_cmp}
use Rattle.std.specs.Ordering.{int_cmp}
use Rattle.nomos_forms.proofs.ZeroLemmas.{cmp-between}
use Rattle.nomos_forms.proofs.shared_coefs.SharedCoefs.order.Goals as goal

pub returns : goal.returns
returns c =
    let own = c.self.inside in
    let its = c.other.inside in
    let first = c.min-first.result in
    let end = c.max-end.result in
    let left : c.as_slice-coefs.result.now ≡ own.coefs = c.as_slice-coefs.ensures in
    let right : c.as_slice-others.result.now ≡ its.coefs = c.as_slice-others.ensures in
    let least : first ≡ min own.first its.first = c.min-first.ensures in
    let most : end ≡ max own.end its.end = c.max-end.ensures in
    let before : first ≤ own.first × first ≤ its.first = (omega (arith, least), omega (arith, least)) in
    let behind : own.end ≤ end × its.end ≤ end = (omega (arith, most), omega (arith, most)) in
    let ordered : first ≤ end = omega (arith, before.0, behind.0, c.self.invariant.ordered) in
    let long : length own.coefs ≡ length its.coefs =
    omega (arith, c.if-coefs-others.false, ap length left, ap length right) in
    c.cmp-2.ensures
    ∙ (λ p. slice_cmp int_cmp (take (end - first) (drop first (left p))) (take (end - first) (drop first (right p))))
    ∙ sym (cmp-between first (end - first) own.coefs its.coefs long
    (λ k below. c.self.invariant.before k (omega (arith, below, before.0)))
    (λ k below. c.other.invariant.before k (omega (arith, below, before.1)))
    (λ k over. c.self.invariant.behind k (omega (arith, over, behind.0, ordered)))
    (λ k over. c.other.invariant.behind k (omega (arith, over, behind.1, ordered))))
    ∙ (λ p. slice_cmp int_cmp (c.self.view_is p) (c.other.view_is p))
