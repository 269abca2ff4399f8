-- A blank stands between the line and the cause.
use Rattle.nomos_printing.proofs.EndLemmas.{refused_whole, refused_line, refused_cause, refused_both}
use Rattle.nomos_printing.proofs.end.read_refused.Goals as goal

pub returns-in_default : goal.returns-in_default
returns-in_default c = refused_whole c.args.unit c.args.text.now c.in_default.ensures

pub returns-in_default-read_u32 : goal.returns-in_default-read_u32
returns-in_default-read_u32 c =
    refused_line c.args.unit c.args.text.now c.in-Some.line.now c.in-Some.cause.now c.in-Some.ensures
    c.in_default-read_u32.ensures

pub returns-in-Some-2 : goal.returns-in-Some-2
returns-in-Some-2 c =
    let told = rw c.in-Some-2.is at c.in_ok-cause.ensures in
    refused_both c.args.unit c.args.text.now c.in-Some.line.now c.in-Some.cause.now c.in-Some-read_u32.line
    c.in-Some-2.cause c.in-Some.ensures c.in-Some-read_u32.ensures told

pub returns-in-None : goal.returns-in-None
returns-in-None c =
    let told = rw c.in-None.is at c.in_ok-cause.ensures in
    refused_cause c.args.unit c.args.text.now c.in-Some.line.now c.in-Some.cause.now c.in-Some.ensures told
