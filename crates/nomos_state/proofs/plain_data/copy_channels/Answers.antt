use Rattle.std.proofs.Common.{◌+◌, ◌∙◌, [], Option, sym, subst, arith}
use Rattle.nomos_slots.specs.Cells.{name_in}
use Rattle.nomos_state.specs.Copying.{AreChannelsBelow}
use Rattle.nomos_state.specs.Spanning.{HasVariable}
use Rattle.nomos_state.specs.declared.span.Span.{Span}
use Rattle.nomos_state.proofs.CopyLemmas.{channels-all, channels-none, channels-skip}
use Rattle.nomos_state.proofs.SpanLemmas.{none-by}
use Rattle.nomos_state.proofs.plain_data.copy_channels.Goals as goal

pub returns-in_default : goal.returns-in_default
returns-in_default c =
    let cells = c.args.contents.now.channels.now in
    c.new-made.ensures.items
    ∙ channels-all cells c.args.pid 0 [] (channels-none cells c.args.pid 0 (λ v some. omega arith))
    (λ v some. absurd (subst (λ (s : Option Span). HasVariable s v) c.in_default.is (c.requires v some)))

pub loop-variable-init : goal.loop-variable-init
loop-variable-init c =
    let cells = c.args.contents.now.channels.now in
    let low = c.in-Some.within.low in
    subst (AreChannelsBelow cells c.args.pid low) (sym c.new-made.ensures.items)
    (channels-none cells c.args.pid low
    (λ v some. (subst (λ (s : Option Span). HasVariable s v) c.in-Some.is (c.requires v some)).0))

pub loop-variable-preserved : goal.loop-variable-preserved
loop-variable-preserved c =
    let cells = c.args.contents.now.channels.now in
    channels-skip cells c.args.pid (c.loop-variable.variable + 1) c.push_channel.new.made.items
    c.in_ok-push_channel.ensures c.next_in-variable.result c.next_in-variable.ensures.over
    (λ u over below.
    none-by (name_in cells c.args.pid u)
    (λ some.
    c.next_in-variable.ensures.none u over below
    (subst (λ (s : Option Span). HasVariable s u) c.in-Some.is (c.requires u some))))

pub returns : goal.returns
returns c =
    let cells = c.args.contents.now.channels.now in
    channels-all cells c.args.pid (c.loop-variable.variable + 1) c.push_channel-2.new.made.items
    c.in_ok-push_channel-2.ensures
    (λ v some.
    let within = subst (λ (s : Option Span). HasVariable s v) c.in-Some.is (c.requires v some) in
    omega (arith, within.1, c.loop-variable-test.false))
