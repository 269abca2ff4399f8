use Rattle.std.proofs.Common.{◌≡◌, ◌<◌, ◌∙◌, ◌++◌, ◌∷◌, [], inl, inr, length, get_or, ap, arith}
use Rattle.std.proofs.lemmas.List.{get_or_default}
use Rattle.nomos_typed.specs.declared.leading.Led.{Led}
use Rattle.nomos_typed.specs.declared.leading.Onward.{Onward}
use Rattle.nomos_typed.proofs.LeadingLemmas.{not-true, pushed-more, pushes-front}
use Rattle.nomos_typed.proofs.TellLemmas.{all-more}
use Rattle.nomos_typed.proofs.leading.push_later.Goals as goal

pub loop-onward-preserved : goal.loop-onward-preserved
loop-onward-preserved c =
    let later = c.args.later.now in
    let i = c.loop-onward.onward-index in
    let inside : i < length later = c.loop-onward-test.true in
    let none : Onward = record { end = 0; name = 0 } in
    let o : Onward = get_or later i none in
    let is : o ≡ get_or later i o = get_or_default later i none o inside in
    let Here : Onward → Type 0 = λ p. p.end ≡ c.args.from.name in
    record {
      here =
          (all-more Here later i o inside is).0
          (c.loop-onward.invariant.here, c.ends_at.ensures.0 c.if-not-ends_at.false);
      pushed =
          pushed-more c.args.from c.args.led.now.items c.loop-onward.led.items _ later i o inside is
          c.loop-onward.invariant.pushed
          (c.in_ok-push.ensures.items ∙ ap (λ (l : Led). c.loop-onward.led.items ++ l ∷ []) c.led_from.ensures);
    }

pub returns-then-not-ends_at : goal.returns-then-not-ends_at
returns-then-not-ends_at c =
    let later = c.args.later.now in
    let i = c.loop-onward.onward-index in
    let inside : i < length later = c.loop-onward-test.true in
    let none : Onward = record { end = 0; name = 0 } in
    let o : Onward = get_or later i none in
    let is : o ≡ get_or later i o = get_or_default later i none o inside in
    pushes-front later c.args.from c.requires.sorted c.requires.late c.args.led.now.items
    c.loop-onward.led.items i (omega (arith, inside)) c.loop-onward.invariant.here
    c.loop-onward.invariant.pushed
    (inr (o, is, not-true c.ends_at.result c.if-not-ends_at.true c.ends_at.ensures))

pub returns : goal.returns
returns c =
    pushes-front c.args.later.now c.args.from c.requires.sorted c.requires.late c.args.led.now.items
    c.loop-onward.led.items c.loop-onward.onward-index (omega arith) c.loop-onward.invariant.here
    c.loop-onward.invariant.pushed (inl (omega arith))
