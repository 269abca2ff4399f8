use Rattle.std.proofs.Common.{arith}
use Rattle.nomos_base.proofs.ToldLaws.{WrittenTo-next}
use Rattle.nomos_base.proofs.writing.write_all.Goals as goal

pub loop-done-preserved : goal.loop-done-preserved
loop-done-preserved g c =
    let start = c.loop-done.invariant in
    let next = WrittenTo-next c.args.bytes.now c.loop-done.done c.in-Wrote.count (g.K.Sink.written c.args.sink.now)
    (g.K.Sink.written c.loop-done.sink) (g.K.Sink.written c.write.new.self)
    (record { in_range = start.in_range; written = start.written }) c.in-Wrote.ensures.answer in
    record {
      in_range = next.in_range;
      written = next.written;
      never_falls = omega (arith, start.never_falls, c.in-Wrote.ensures.never_falls);
    }
