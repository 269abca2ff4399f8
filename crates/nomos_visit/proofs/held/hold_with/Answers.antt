-- A talk that is not opened is told so.
use Rattle.nomos_visit.proofs.ToldLemmas.{refused-told}
use Rattle.nomos_visit.proofs.held.hold_with.Goals as goal

pub returns-in-Refused : goal.returns-in-Refused
returns-in-Refused g c =
    refused-told c.args.accepted.now c.args.visit.party.proc.now c.args.visit.limit c.args.visit.lines.now
    c.args.text.items c.in-Refused.why c.in-Refused.ensures.answers.2 c.refused.result c.refused.ensures
