use Rattle.std.proofs.Common.{◌≡◌, ◌<◌, ◌≤◌, ◌-◌, ◌++◌, ℕ, List, length, take, arith}
use Rattle.std.proofs.lemmas.Grind.{common_steps}
use Rattle.nomos_base.proofs.ToldLaws.{Appends-copied}
use Rattle.nomos_base.proofs.memory_sink.MemorySinkSink.write.Goals as goal

pub returns-clause-answer : goal.returns-clause-answer
returns-clause-answer c =
    let bytes : List ℕ = c.args.from.now in
    let count : ℕ = c.min-count.result in
    let spare : 0 < c.self.inside.room - c.len.result = grind (arith, common_steps, c.if-call_fails.ensures.fails) in
    let some : 0 < count = omega arith in
    let fits : count ≤ length bytes = omega arith in
    let appended : c.extend_from_slice.new.self.items
    ≡ c.self.inside.bytes.items ++ take count bytes = grind
    (arith, common_steps, c.unwrap.ensures, c.extend_from_slice.ensures.items) in
    rw (← c.self.view_is) (Appends-copied bytes c.self.inside.bytes.items c.extend_from_slice.new.self.items count some
    fits appended)
