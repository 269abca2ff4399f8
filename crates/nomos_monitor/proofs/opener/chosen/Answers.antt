use Rattle.std.proofs.Common.{◌∙◌, ◌<◌, length, sym, subst}
use Rattle.std.proofs.lemmas.Option.{slice_get_within}
use Rattle.nomos_ir.specs.declared.lists.ProgramLists.{ProgramLists}
use Rattle.nomos_equality.specs.Carriers.{CarriesChannel}
use Rattle.nomos_monitor.proofs.ChoosingLaws.{bound-is, can-by, it-carries, no-account, no-process, nothing-carried, read-opener, too-little, type-in_range}
use Rattle.nomos_monitor.proofs.opener.chosen.Goals as goal

pub returns-in_default : goal.returns-in_default
returns-in_default g c = no-account (sym c.balance.ensures ∙ c.in_default.is)

pub returns-in_default-opener : goal.returns-in_default-opener
returns-in_default-opener g c =
    no-process c.in-Some.has (sym c.balance.ensures ∙ c.in-Some.is) c.in_default-opener.ensures

pub proc-declared-requires : goal.proc-declared-requires
proc-declared-requires g c =
    let found = c.in-Some-opener.ensures in
    subst (λ (l : ProgramLists). c.in-Some-opener.declaration.0 < length l.procs)
    (sym c.program-program.ensures.program)
    (slice_get_within c.args.accepted.now.program.procs c.in-Some-opener.declaration.0 found.0
    found.1.opener.declared)

pub carries-requires-clause-start : goal.carries-requires-clause-start
carries-requires-clause-start g c =
    let is = read-opener c.program-program.ensures.program c.in-Some-opener.ensures c.proc-declared.ensures in
    subst (λ (l : ProgramLists). c.proc-declared.result.now.offers.0 < length l.types)
    (sym c.program-program.ensures.program) (type-in_range c.program-program.ensures.accepted is)

pub returns-then-branch : goal.returns-then-branch
returns-then-branch g c =
    let d = c.proc-declared.result.now in
    let is = read-opener c.program-program.ensures.program c.in-Some-opener.ensures c.proc-declared.ensures in
    it-carries c.in-Some.has (sym c.balance.ensures ∙ c.in-Some.is) c.in-Some-opener.declaration.0 d is
    (subst (λ (l : ProgramLists). CarriesChannel l d.offers) c.program-program.ensures.program
    (c.in_ok-carries.ensures.0 c.if-branch.true))

pub bound-requires : goal.bound-requires
bound-requires g c =
    let found = c.in-Some-opener.ensures in
    slice_get_within c.args.accepted.now.program.procs c.in-Some-opener.declaration.0 found.0
    found.1.opener.declared

pub returns-then-has-needs : goal.returns-then-has-needs
returns-then-has-needs g c =
    let d = c.proc-declared.result.now in
    let is = read-opener c.program-program.ensures.program c.in-Some-opener.ensures c.proc-declared.ensures in
    let alone = nothing-carried c.args.accepted.now c.program-program.ensures.program d.offers c.in_ok-carries.field-0
    c.in_ok-carries.ensures c.if-branch.false in
    too-little c.in-Some.has (sym c.balance.ensures ∙ c.in-Some.is) c.in-Some-opener.declaration.0 d is alone
    c.from-needs.result (c.from-needs.ensures ∙ bound-is is c.bound.result c.bound.ensures) c.if-has-needs.true

pub returns : goal.returns
returns g c =
    let d = c.proc-declared.result.now in
    let is = read-opener c.program-program.ensures.program c.in-Some-opener.ensures c.proc-declared.ensures in
    let alone = nothing-carried c.args.accepted.now c.program-program.ensures.program d.offers c.in_ok-carries.field-0
    c.in_ok-carries.ensures c.if-branch.false in
    can-by c.in-Some.has (sym c.balance.ensures ∙ c.in-Some.is) c.in-Some-opener.declaration.0 d is alone
    c.from-needs.result (c.from-needs.ensures ∙ bound-is is c.bound.result c.bound.ensures) c.if-has-needs.false
    c.requires.nobody
