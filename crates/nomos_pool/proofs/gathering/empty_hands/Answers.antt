use Rattle.std.proofs.Common.{◌∙◌, [], ◌∷◌, ◌++◌, sym, ap, append_assoc}
use Rattle.std.specs.Vec.Iter.{into_iter_items}
use Rattle.nomos_pool.proofs.HandLemmas.{more-empty}
use Rattle.nomos_pool.proofs.gathering.empty_hands.Goals as goal

pub loop-sender-preserved : goal.loop-sender-preserved
loop-sender-preserved g c =
    let at = c.loop-sender in
    record {
      rest = append_assoc at.yielded (c.in-Some.sender ∷ []) (into_iter_items c.next.new.self)
          ∙ (ap (λ l. at.yielded ++ l) (sym c.in-Some.ensures.steps.0) ∙ at.invariant.rest);
      hands = more-empty at.yielded at.hands.items c.push.new.self.items
          (record { sender = c.in-Some.sender; items = c.new.result }) at.invariant.hands c.new.ensures.items
          c.in_ok-push.ensures.items;
    }
