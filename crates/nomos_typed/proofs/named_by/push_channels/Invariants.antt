use Rattle.std.proofs.Common.{◌≡◌, ◌++◌, map, take}
use Rattle.nomos_typed.proofs.named_by.push_channels.Given as goal

-- those so far are pushed
abbrev pub invariant-loop-channel : goal.invariant-loop-channel
invariant-loop-channel l = l.names.items ≡ l.fn.names.items ++ map (λ e. e.1) (take l.channel-index l.channels)
