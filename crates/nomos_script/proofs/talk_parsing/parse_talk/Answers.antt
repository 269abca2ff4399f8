-- A text has one answer.
use Rattle.nomos_script.proofs.TalkLaws.{answers_once}
use Rattle.nomos_script.proofs.talk_parsing.parse_talk.Goals as goal

pub returns-clause-only : goal.returns-clause-only
returns-clause-only c = λ other h. answers_once c.args.bytes.now other c.read_talk.result h c.read_talk.ensures
