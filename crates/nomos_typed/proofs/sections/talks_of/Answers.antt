use Rattle.std.proofs.Common.{◌≡◌, ◌<◌, List, length, get_or, subst, arith}
use Rattle.std.proofs.lemmas.List.{get_or_default, take_all}
use Rattle.nomos_typed.specs.declared.leading.Led.{Led}
use Rattle.nomos_typed.specs.mirror.TypedTalks.{AreTalks}
use Rattle.nomos_typed.proofs.TalkLemmas.{gather-more, talks-none}
use Rattle.nomos_typed.proofs.sections.talks_of.Goals as goal

pub loop-one-init : goal.loop-one-init
loop-one-init c = talks-none c.args.told.now c.new-made.result.items c.new-made.ensures.items

pub loop-one-preserved : goal.loop-one-preserved
loop-one-preserved c =
    let led = c.args.led.now in
    let i = c.loop-one.one-index in
    let inside : i < length led = c.loop-one-test.true in
    let none : Led = record { name = 0; base = 0 } in
    let l : Led = get_or led i none in
    let is : l ≡ get_or led i l = get_or_default led i none l inside in
    gather-more c.args.told.now led i l inside is c.loop-one.made.items c.push_talk.new.talks.items c.talk_of.result
    c.loop-one.invariant c.talk_of.ensures c.in_ok-push_talk.ensures

pub returns : goal.returns
returns c =
    subst (λ (ls : List Led). AreTalks c.args.told.now ls c.loop-one.made.items)
    (take_all c.loop-one.one-index c.args.led.now (omega arith)) c.loop-one.invariant
