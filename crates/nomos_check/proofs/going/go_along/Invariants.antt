use Rattle.nomos_ir.specs.Amounts.{star_count}
use Rattle.nomos_check.specs.mirror.StandingData.{IsReady, KeepsCompared}
use Rattle.nomos_check.specs.mirror.Walking.{Going, IsOnWay}
use Rattle.nomos_check.proofs.going.go_along.Given as goal

-- the code has led here
abbrev pub invariant-loop-at : goal.invariant-loop-at
invariant-loop-at l =
    record {
      ready : IsReady l.program l.walk.asked;
      kept : KeepsCompared l.fn.walk.asked l.walk.asked;
      on_way : IsOnWay l.program (star_count l.program) l.at;
      going : Going l.program (star_count l.program) l.fn.now l.at l.fn.walk l.walk;
    }

abbrev pub decreases-loop-at : goal.decreases-loop-at
decreases-loop-at l = l.at.code.0
