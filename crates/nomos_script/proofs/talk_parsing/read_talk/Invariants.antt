-- The lines before the rest were read.
use Rattle.std.proofs.Common.{length}
use Rattle.nomos_script.proofs.TalkLoopLemmas.{SaidSoFar}
use Rattle.nomos_script.proofs.talk_parsing.read_talk.Given as goal

abbrev pub invariant-loop-rest : goal.invariant-loop-rest
invariant-loop-rest l = SaidSoFar l.text l.rest l.number l.talk.items

abbrev pub decreases-loop-rest : goal.decreases-loop-rest
decreases-loop-rest l = length l.rest
