use Rattle.std.proofs.Common.{ℕ, ◌<◌, get_or}
use Rattle.nomos_ir.specs.declared.ids.TypeId.{TypeId}
use Rattle.nomos_ir.specs.declared.ids.VarId.{VarId}
use Rattle.nomos_ir.specs.declared.mode.Mode.TheVariants as mode
use Rattle.nomos_types.specs.Modes.{HasMode}
use Rattle.nomos_check.proofs.sharing.all_at_r.Given as goal

-- the channels so far have mode R
abbrev pub invariant-loop-held : goal.invariant-loop-held
invariant-loop-held l =
    (k : ℕ) (d : VarId × TypeId) → k < l.held-index → HasMode l.program (get_or l.channels k d).1 mode.R
