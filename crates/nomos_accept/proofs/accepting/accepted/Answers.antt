use Rattle.nomos_accept.proofs.JudgingLaws.{found-is_accepted}
use Rattle.nomos_accept.proofs.accepting.accepted.Goals as goal

pub of_typed-requires : goal.of_typed-requires
of_typed-requires c =
    found-is_accepted c.args.program c.args.rows.now c.args.found c.requires.rows c.requires.found
    c.requires.unit (c.put_back.ensures.0 c.if-not-put_back.false)
