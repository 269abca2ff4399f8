use Rattle.std.proofs.Common.{◌+◌, ◌≤ℤ◌, ◌*ℤ◌, ℤ, pos, All, take, get_or, FitsSigned, rules, arith, refl, sym, subst}
use Rattle.std.specs.Int.{w64, w128}
use Rattle.std.proofs.lemmas.Int.{to_z-of_z, fits_signed_from_abs}
use Rattle.std.proofs.lemmas.List.{take_all}
use Rattle.std.proofs.lemmas.List.Elements.{All-more}
use Rattle.nomos_forms.proofs.meeting.reaches_each.Goals as goal

pub loop-least-preserved : goal.loop-least-preserved
loop-least-preserved c =
    let Reached : ℤ → ℤ → Type 0 = λ sum least. (pos c.args.unit *ℤ least) ≤ℤ sum in
    let i = c.loop-least.least-index in
    let ls = c.args.leasts.now in
    let fits : FitsSigned w128 c.args.sum = search rules in
    let same = to_z-of_z w128 c.args.sum fits in
    let small = c.requires i (pos 0) c.loop-least-test.true in
    let least = to_z-of_z w64 (get_or ls i (pos 0))
    (fits_signed_from_abs w64 (get_or ls i (pos 0)) (omega (arith, small))) in
    subst (λ sum. All (Reached sum) (take (i + 1) ls)) (sym same)
    (All-more (Reached c.args.sum) ls i (pos 0) c.loop-least-test.true
    (subst (λ sum. All (Reached sum) (take i ls)) same c.loop-least.invariant)
    (subst (λ sum. Reached sum (get_or ls i (pos 0))) same
    (subst (Reached _) least (c.reaches.ensures.0 c.if-not-reaches.false))))

pub returns : goal.returns
returns c =
    let Reached : ℤ → ℤ → Type 0 = λ sum least. (pos c.args.unit *ℤ least) ≤ℤ sum in
    let fits : FitsSigned w128 c.args.sum = search rules in
    let same = to_z-of_z w128 c.args.sum fits in (
      λ _. subst (λ sum. All (Reached sum) c.args.leasts.now) same
          (subst (All (Reached _)) (take_all c.loop-least.least-index c.args.leasts.now c.loop-least-test.false)
          c.loop-least.invariant),
      λ _. refl,
    )
