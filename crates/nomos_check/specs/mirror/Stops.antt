-- A mirror of the code: which instruction is stuck first.
use Rattle.std.specs.Prelude.{Option, Some, None, nat_lt, if◌then◌else◌}
use Rattle.nomos_check.specs.declared.code_walk.Stuck.{Stuck}

-- the one of the two that is stuck first
abbrev pub first_stuck : Option Stuck → Stuck → Option Stuck
first_stuck None s = Some s
first_stuck (Some t) s = if nat_lt s.at t.at then Some s else Some t
