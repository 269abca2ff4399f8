use Rattle.std.proofs.Common.{◌<◌, refl, sym, subst, take}
use Rattle.std.proofs.lemmas.List.{take_all}
use Rattle.std.proofs.lemmas.List.Elements.{All-more, All-same}
use Rattle.nomos_forms.specs.Refuting.{IsOneOf}
use Rattle.nomos_forms.specs.declared.verdict.Weight.{Weight}
use Rattle.nomos_forms.proofs.refuting.are_all_there.Goals as goal

pub loop-weight-preserved : goal.loop-weight-preserved
loop-weight-preserved c =
    let P : Weight → Type 0 = λ w. IsOneOf c.args.rows.now.stars c.args.rows.now.rows w.of × (0 < w.times) in
    let it = c.weight-item.result in
    All-more P c.args.weights.now c.loop-weight.weight-index it c.loop-weight-test.true c.loop-weight.invariant
    (subst P c.weight-item.is (c.is_there.ensures.0 c.if-not-is_there.false))

pub returns : goal.returns
returns c =
    let P : Weight → Type 0 = λ w. IsOneOf c.args.rows.now.stars c.args.rows.now.rows w.of × (0 < w.times) in
    let ws = c.args.weights.now in (
      λ _. All-same P ws (take c.loop-weight.weight-index ws) (sym (take_all c.loop-weight.weight-index ws
          c.loop-weight-test.false)) c.loop-weight.invariant,
      λ _. refl,
    )
