use Rattle.std.proofs.Common.{◌≡◌, ◌∙◌, ◌∷◌, ◌++◌, length, sym, ap, arith, length-append}
use Rattle.std.specs.Vec.Iter.{into_iter_items}
use Rattle.nomos_pool.proofs.gathering.senders_of.Goals as goal

pub push_reserved-requires : goal.push_reserved-requires
push_reserved-requires g c =
    let at = c.loop-hand in
    let after = into_iter_items c.next.new.self in
    let items : at.yielded ++ c.in-Some.hand ∷ after ≡ c.args.hands.items = ap (λ l. at.yielded ++ l)
    (sym c.in-Some.ensures.steps.0) ∙ at.invariant.rest in
    let many : length (at.yielded ++ c.in-Some.hand ∷ after) ≡ length c.args.hands.items = ap length items in
    omega (arith, many, length-append at.yielded (c.in-Some.hand ∷ after), at.invariant.many, at.invariant.free)
