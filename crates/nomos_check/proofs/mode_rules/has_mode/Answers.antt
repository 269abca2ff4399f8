use Rattle.std.proofs.Common.{subst}
use Rattle.nomos_ir.specs.declared.mode.Mode.{Mode}
use Rattle.nomos_types.specs.Modes.{HasMode}
use Rattle.nomos_types.proofs.ModeLaws.{mode-unique}
use Rattle.nomos_check.proofs.mode_rules.has_mode.Goals as goal

pub returns : goal.returns
returns c = (
  λ yes. subst (λ (m : Mode). HasMode c.args.program.now c.args.t m) (c.is_mode.ensures.0 yes) c.mode_of.ensures,
  λ has. c.is_mode.ensures.1 (mode-unique c.know.ensures.program c.mode_of.ensures has),
)
