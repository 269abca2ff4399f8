use Rattle.std.proofs.Common.{◌≡◌, ◌≤◌, ◌+◌, ◌++◌, ℕ, length}
use Rattle.std.specs.Vec.Iter.{into_iter_items, into_iter_len}
use Rattle.nomos_ir.specs.declared.ids.TypeId.{TypeId}
use Rattle.nomos_restore.specs.Numbering.{AreNext}
use Rattle.nomos_restore.proofs.BuiltLemmas.{HasNames}
use Rattle.nomos_restore.proofs.names.come_names.Given as goal

-- the names so far have come, and the others are next
abbrev pub invariant-loop-name : goal.invariant-loop-name
invariant-loop-name g l = record {
  state : HasNames (g.P.Sight.state l.fn.parts) l.yielded (g.P.Sight.state l.parts);
  next : AreNext (λ (t : ℕ × TypeId). t.0) (g.P.Sight.state l.parts).next_name l.next_name
      (into_iter_items l.name-iterator);
  within : (g.P.Sight.state l.parts).next_name ≤ l.next_name;
  rest : l.yielded ++ into_iter_items l.name-iterator ≡ l.fn.types.items;
  long : into_iter_len l.name-iterator ≡ length (into_iter_items l.name-iterator);
  room : g.P.Parts.room l.fn.parts + length (into_iter_items l.name-iterator)
      ≤ g.P.Parts.room l.parts + length l.fn.types.items;
  marked : g.P.Parts.marked l.parts ≡ g.P.Parts.marked l.fn.parts;
}
