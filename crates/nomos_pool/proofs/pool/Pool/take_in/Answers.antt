use Rattle.std.proofs.Common.{◌≡◌, ◌∙◌, ◌∷◌, ◌++◌, length, slice_get, Some, sym, ap, subst}
use Rattle.std.proofs.lemmas.List.{length-map}
use Rattle.std.specs.Vec.Iter.{into_iter_items}
use Rattle.nomos_pool.specs.PoolPass.{submitted_by}
use Rattle.nomos_pool.proofs.PoolMoves.{takes_in}
use Rattle.nomos_pool.proofs.SenderLemmas.{seam}
use Rattle.nomos_pool.proofs.pool.Pool.take_in.Goals as goal

pub absorb-requires-clause-rule : goal.absorb-requires-clause-rule
absorb-requires-clause-rule g c =
    let at = c.loop-sender in
    let after = into_iter_items c.next.new.self in
    let sender = c.in-Some.sender in
    let items : at.yielded ++ sender ∷ after ≡ c.args.senders.items = ap (λ l. at.yielded ++ l)
    (sym c.in-Some.ensures.steps.0) ∙ at.invariant.rest in
    let own = c.requires.senders (length at.yielded) sender
    (subst (λ l. slice_get l (length at.yielded) ≡ Some sender) items (seam at.yielded sender after)) in
    takes_in _ _ _ _ at.invariant.alone.takes at.invariant.alone.quiet own.0.sends
    (own.0.number ∙ (own.1 ∙ sym (ap length at.invariant.known ∙ length-map at.yielded submitted_by)))
