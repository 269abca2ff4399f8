use Rattle.std.proofs.Common.{arith}
use Rattle.nomos_typed.proofs.LeadingLemmas.{leading-all, leading-more, leading-none}
use Rattle.nomos_typed.proofs.leading.all_led.Goals as goal

pub loop-next-init : goal.loop-next-init
loop-next-init c = leading-none c.args.first.items c.args.onwards.now

pub loop-next-preserved : goal.loop-next-preserved
loop-next-preserved c =
    leading-more c.args.first.items c.args.onwards.now c.loop-next.led.items c.push_onward.new.led.items
    c.loop-next.next c.index-from.result.now (omega arith) c.index-from.ensures c.loop-next.invariant
    c.in_ok-push_onward.ensures

pub returns : goal.returns
returns c =
    leading-all c.args.first.items c.args.onwards.now c.loop-next.led.items c.loop-next.next (omega arith)
    c.loop-next.invariant
