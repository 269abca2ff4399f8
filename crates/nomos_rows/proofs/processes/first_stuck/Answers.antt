use Rattle.std.proofs.Common.{◌≡◌, ℕ, length, ap, subst, arith}
use Rattle.nomos_ir.specs.declared.lists.ProgramLists.{ProgramLists}
use Rattle.nomos_rows.proofs.ProcessLemmas.{skeleton-no_fault, gathers-more}
use Rattle.nomos_rows.proofs.TellingLemmas.{tells-more}
use Rattle.nomos_rows.proofs.processes.first_stuck.Goals as goal
use Rattle.nomos_rows.specs.mirror.Declarations.{ProcessFault, ProcessFine}
use Rattle.nomos_rows.specs.mirror.Processes.{Gathers}
use Rattle.nomos_rows.specs.mirror.FirstFault.{TellsBelow}
use Rattle.nomos_rows.specs.mirror.Ups.{IfNone}

-- one process more
pub loop-p-preserved : goal.loop-p-preserved
loop-p-preserved c =
    let lists = c.args.program.now in
    let k = c.loop-p.p in
    let found = c.in_ok-found.found in
    let tells = tells-more (ProcessFault lists) (ProcessFine lists)
    (skeleton-no_fault lists c.requires.formed) k c.loop-p.first found c.loop-p.invariant.1
    c.in_ok-found.ensures.tells in
    let gathers = gathers-more lists k c.args.equalities.now c.loop-p.equalities c.process_fault.new.equalities
    c.loop-p.gathered c.process_fault.new.gathered c.loop-p.first found c.loop-p.invariant.2
    c.in_ok-found.ensures.adds in
    rw c.earliest-first.ensures (c.process_fault.ensures.compared, tells, gathers, c.in_ok-found.ensures.small)

pub returns-clause-tell : goal.returns-clause-tell
returns-clause-tell c =
    let lists = c.args.program.now in
    let same = ap (λ (l : ProgramLists). length l.procs) c.lists.ensures.lists in
    let all : c.loop-p.p ≡ length lists.procs = omega arith in
    subst (λ (n : ℕ). TellsBelow (ProcessFault lists) (ProcessFine lists) n c.loop-p.first) all c.loop-p.invariant.1

pub returns-clause-gathers : goal.returns-clause-gathers
returns-clause-gathers c =
    let lists = c.args.program.now in
    let same = ap (λ (l : ProgramLists). length l.procs) c.lists.ensures.lists in
    let all : c.loop-p.p ≡ length lists.procs = omega arith in
    subst (λ (n : ℕ). IfNone (Gathers lists n c.args.equalities.now c.loop-p.equalities c.loop-p.gathered.forms.items
    c.loop-p.gathered.pairs.items) c.loop-p.first) all c.loop-p.invariant.2
