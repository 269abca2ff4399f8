use Rattle.std.proofs.Common.{◌≡◌, ◌≤◌, vec_len, ◌-◌}
use Rattle.nomos_base.specs.Source.{with_front}
use Rattle.nomos_base.proofs.reading.read_all.Given as goal

abbrev pub invariant-loop-bytes : goal.invariant-loop-bytes
invariant-loop-bytes g l = record {
  within : vec_len l.bytes ≤ l.limit;
  taken : g.S.Source.left l.initial.source ≡ with_front l.bytes.items (g.S.Source.left l.source);
  never_falls : g.S.Source.faults l.initial.source ≤ g.S.Source.faults l.source;
}

abbrev pub decreases-loop-bytes : goal.decreases-loop-bytes
decreases-loop-bytes g l = l.limit - vec_len l.bytes
