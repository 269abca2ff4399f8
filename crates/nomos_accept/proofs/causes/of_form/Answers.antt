use Rattle.std.proofs.Common.{subst}
use Rattle.nomos_accept.proofs.AcceptLaws.{never-typed}
use Rattle.nomos_accept.proofs.RefusalLemmas.{bare-never, offence-never}
use Rattle.nomos_accept.proofs.causes.of_form.Goals as goal
use Rattle.nomos_types.specs.Forming.{IsFormFault}

pub returns-in-Contractive : goal.returns-in-Contractive
returns-in-Contractive c = λ text lists read fault.
    let bare = subst (IsFormFault lists) c.in-Contractive.is fault in (
      record {
        cause = (lists, read, bare);
        never = never-typed text lists read (bare-never lists c.in-Contractive.at bare);
      },
      tt,
    )

pub returns-in-Mode : goal.returns-in-Mode
returns-in-Mode c = λ text lists read fault.
    let both = subst (IsFormFault lists) c.in-Mode.is fault in (
      record {
        cause = (lists, read, both);
        never = never-typed text lists read (offence-never lists c.in-Mode.at both.1);
      },
      tt,
    )
