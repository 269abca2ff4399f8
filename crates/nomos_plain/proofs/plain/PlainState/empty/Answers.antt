use Rattle.std.proofs.Common.{All, ap, arith, map, subst, sym}
use Rattle.std.proofs.lemmas.List.Elements.{All-nil}
use Rattle.nomos_plain.specs.Parts.{HasRoom, StandInOrder, object_in}
use Rattle.nomos_plain.proofs.SoundLemmas.{none_in_order}
use Rattle.nomos_plain.proofs.plain.PlainState.empty.Goals as goal

pub invariant_of-result : goal.invariant_of-result
invariant_of-result c = record {
  room = record {
    objects_fit = grind arith;
    types_fit = grind arith;
    each = subst (All (HasRoom 0)) (sym c.new.ensures.items) (All-nil (HasRoom 0));
  };
  order = subst (StandInOrder 1) (sym (ap (map object_in) c.new.ensures.items)) (none_in_order 1);
}
