use Rattle.std.proofs.Common.{sym, ◌∙◌}
use Rattle.nomos_ready.proofs.CoverLaws.{followed-covers}
use Rattle.nomos_ready.proofs.waking.follow_acquired.Goals as goal

pub returns-in-Some : goal.returns-in-Some
returns-in-Some g c =
    let clauses = c.follow.ensures in
    followed-covers c.know.ensures.accepted c.requires.typed c.args.pid c.in-Some.name c.args.awake.now
    c.follow.new.self c.requires.ready (sym c.requires.awaited ∙ c.in-Some.is) c.requires.covers clauses.ready
    clauses.same
    clauses.followed clauses.sought
