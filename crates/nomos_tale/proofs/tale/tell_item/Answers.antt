use Rattle.std.proofs.Common.{◌∷◌, ℕ, subst, sym, []}
use Rattle.nomos_types.specs.Acceptance.{IsAccepted}
use Rattle.nomos_script.specs.Size.{start_count}
use Rattle.nomos_script.specs.declared.item.ScriptItem.{ScriptItem}
use Rattle.nomos_script.specs.declared.item.ScriptItem.TheVariants as item
use Rattle.nomos_legal.specs.Legal.{batch_limit}
use Rattle.nomos_ledger.specs.Running.{MayRun}
use Rattle.nomos_walk.proofs.ComeLaws.{begun-room}
use Rattle.nomos_walk.specs.WalkState.{WalkState}
use Rattle.nomos_walk.specs.Walks.{HasBegunBatch, HasItemRoom, StartsAs}
use Rattle.nomos_tale.proofs.tale.tell_item.Goals as goal

pub tell_batch-requires-clause-may : goal.tell_batch-requires-clause-may
tell_batch-requires-clause-may g c =
    let before : WalkState = c.args.walk.now in
    let most : ℕ = batch_limit before.limit before.made in
    let u = c.in-UnderWay.under in
    let under : HasBegunBatch before c.args.ledger c.args.item.now u.outset.line u.outset.spent u.world
    c.start.new.self =
    subst (λ s. StartsAs before c.args.ledger c.args.item.now s c.start.new.self) c.in-UnderWay.is
    c.in_ok-passed.ensures
    in
    let accepted : IsAccepted before.accepted =
    subst IsAccepted c.accepted.ensures c.know.ensures.accepted
    in
    let room : HasItemRoom c.args.ledger (start_count (item.Batch under.batch ∷ [])) most =
    subst (λ (i : ScriptItem). HasItemRoom c.args.ledger (start_count (i ∷ [])) most) under.item c.requires.room
    in
    let may : MayRun before.accepted most u.world = begun-room accepted room under.begun under.stands in
    subst (λ (x : WalkState). MayRun x.accepted (batch_limit x.limit x.made) u.world) (sym under.walk) may
