use Rattle.std.proofs.Common.{subst}
use Rattle.std.proofs.lemmas.Result.{err_from_is_err_and}
use Rattle.nomos_walk.specs.Walks.{HasBegunBatch, PassesStill, StartsAs}
use Rattle.nomos_replay.proofs.OnwardLemmas.{begun-answer, begun-item_room, still-answer}
use Rattle.nomos_replay.proofs.told_item.replay_item.Goals as goal

pub returns-in_err-read_line_of-clause-tells : goal.returns-in_err-read_line_of-clause-tells
returns-in_err-read_line_of-clause-tells g c = λ told same limit.
    let p = err_from_is_err_and c.from_residual.result c.from_residual.ensures.1 in
    rw (p.1, p.2) (λ first all items. c.in_err-read_line_of.ensures.err told first all items)

pub replay_batch-requires-clause-room : goal.replay_batch-requires-clause-room
replay_batch-requires-clause-room g c =
    let u = c.in-UnderWay.under in
    let under : HasBegunBatch c.args.walk.now c.args.ledger c.args.item.now u.outset.line u.outset.spent u.world
    c.start.new.self =
    subst (λ s. StartsAs c.args.walk.now c.args.ledger c.args.item.now s c.start.new.self) c.in-UnderWay.is
    c.in_ok-passed.ensures
    in
    begun-item_room under c.requires.room

pub returns-in-Passed-clause-tells : goal.returns-in-Passed-clause-tells
returns-in-Passed-clause-tells g c = λ told same limit.
    let passes : PassesStill c.args.walk.now c.args.ledger c.args.item.now c.in-Passed.passed c.start.new.self =
    subst (λ s. StartsAs c.args.walk.now c.args.ledger c.args.item.now s c.start.new.self) c.in-Passed.is
    c.in_ok-passed.ensures
    in
    still-answer c.args.trial.now.accepted.now c.args.trial.now.version told c.requires.program same passes
    c.args.source.now c.read_line_of.new.source c.in_ok-read_line_of.ensures.ok c.replay_still.result
    c.replay_still.new.source c.replay_still.ensures.ok c.replay_still.ensures.err

pub returns-in-UnderWay-clause-tells : goal.returns-in-UnderWay-clause-tells
returns-in-UnderWay-clause-tells g c = λ told same limit.
    let u = c.in-UnderWay.under in
    let under : HasBegunBatch c.args.walk.now c.args.ledger c.args.item.now u.outset.line u.outset.spent u.world
    c.start.new.self =
    subst (λ s. StartsAs c.args.walk.now c.args.ledger c.args.item.now s c.start.new.self) c.in-UnderWay.is
    c.in_ok-passed.ensures
    in
    begun-answer c.args.trial.now.accepted.now c.args.trial.now.version c.replay_batch.result told
    c.replay_batch.new.walk c.requires.program same limit under c.args.source.now c.read_line_of.new.source
    c.replay_batch.new.source c.in_ok-read_line_of.ensures.ok c.replay_batch.ensures.tells
