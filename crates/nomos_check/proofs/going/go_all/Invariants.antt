use Rattle.nomos_ir.specs.Amounts.{star_count}
use Rattle.nomos_check.specs.mirror.StandingData.{IsReady, KeepsCompared}
use Rattle.nomos_check.specs.mirror.Walking.{IsWalk, WalksOn, width, work}
use Rattle.nomos_check.proofs.going.go_all.Given as goal

-- what was a walk still is one
abbrev pub invariant-loop-forks : goal.invariant-loop-forks
invariant-loop-forks l =
    record {
      ready : IsReady l.program l.walk.asked;
      kept : KeepsCompared l.fn.walk.asked l.walk.asked;
      walk : IsWalk l.program (star_count l.program) l.walk.todo l.walk;
      walks : WalksOn l.program (star_count l.program) l.fn.walk.todo l.fn.walk l.walk.todo l.walk;
    }

abbrev pub decreases-loop-forks : goal.decreases-loop-forks
decreases-loop-forks l = work (width l.program) l.walk.todo
