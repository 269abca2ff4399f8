use Rattle.std.proofs.Common.{subst}
use Rattle.nomos_accept.proofs.AcceptLaws.{never-typed}
use Rattle.nomos_accept.proofs.causes.of_rows.Goals as goal
use Rattle.nomos_rows.specs.PartFaults.{IsCause}

pub returns-in-NotSync : goal.returns-in-NotSync
returns-in-NotSync c = λ text lists read formed cause.
    let found = subst (IsCause lists) c.in-NotSync.is cause in
    let (astray, first, never) = found in
    (record { cause = (lists, read, (formed, found)); never = never-typed text lists read never }, tt)

pub returns-in-TermType : goal.returns-in-TermType
returns-in-TermType c = λ text lists read formed cause.
    let found = subst (IsCause lists) c.in-TermType.is cause in
    let (back, other, first, never) = found in
    (record { cause = (lists, read, (formed, found)); never = never-typed text lists read never }, tt)

pub returns-in-ProcType : goal.returns-in-ProcType
returns-in-ProcType c = λ text lists read formed cause.
    let found = subst (IsCause lists) c.in-ProcType.is cause in
    let (back, stuck, first, never) = found in
    (record { cause = (lists, read, (formed, found)); never = never-typed text lists read never }, tt)
