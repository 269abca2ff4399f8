use Rattle.std.proofs.Common.{◌∙◌, sym}
use Rattle.nomos_changes.proofs.HearingLemmas.{close-heard, label-heard, no-channel, pay-heard, some-value, value-heard}
use Rattle.nomos_changes.proofs.talking.heard_of.Goals as goal

pub returns-in-Label : goal.returns-in-Label
returns-in-Label g c = label-heard c.requires c.in-Label.label c.in-Label.is

pub returns-in-Some : goal.returns-in-Some
returns-in-Some g c =
    value-heard c.requires c.in-Some.value c.in-Value.is (sym c.in-Some.is ∙ c.in_ok-value-in-Value.ensures)

pub returns-in-Pay : goal.returns-in-Pay
returns-in-Pay g c =
    pay-heard c.requires c.message_purse.result c.in-Pay.is
    (c.message_purse.ensures c.requires.message c.requires.found)

pub returns-in-Close : goal.returns-in-Close
returns-in-Close g c = close-heard c.requires c.in-Close.is

pub unreachable-requires : goal.unreachable-requires
unreachable-requires g c =
    some-value c.requires c.in-Value.is (sym c.in-None.is ∙ c.in_ok-value-in-Value.ensures)

pub unreachable-requires-in-Channel : goal.unreachable-requires-in-Channel
unreachable-requires-in-Channel g c = no-channel c.requires _ c.in-Channel.is
