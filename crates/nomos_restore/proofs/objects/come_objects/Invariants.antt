use Rattle.std.proofs.Common.{◌≡◌, ◌≤◌, ◌++◌, All, length}
use Rattle.std.specs.Vec.Iter.{into_iter_items, into_iter_len}
use Rattle.nomos_machine.specs.Objects.{object_number}
use Rattle.nomos_machine.specs.TypedState.{HasVariables}
use Rattle.nomos_restore.specs.Numbering.{AreNext}
use Rattle.nomos_restore.proofs.BuiltLemmas.{HasObjects}
use Rattle.nomos_restore.proofs.objects.come_objects.Given as goal

-- the objects so far have come, and the others are next
abbrev pub invariant-loop-o : goal.invariant-loop-o
invariant-loop-o g l = record {
  state : HasObjects (g.P.Sight.state l.fn.parts) l.yielded (g.P.Sight.state l.parts);
  next : AreNext object_number (g.P.Sight.state l.parts).next_object l.next_object (into_iter_items l.o-iterator);
  variables : All HasVariables (into_iter_items l.o-iterator);
  within : (g.P.Sight.state l.parts).next_object ≤ l.next_object;
  rest : l.yielded ++ into_iter_items l.o-iterator ≡ l.fn.objects.items;
  long : into_iter_len l.o-iterator ≡ length (into_iter_items l.o-iterator);
  room : length (into_iter_items l.o-iterator) ≤ g.P.Parts.room l.parts;
  marked : g.P.Parts.marked l.parts ≡ g.P.Parts.marked l.fn.parts;
}
