use Rattle.std.proofs.Common.{length, sym, subst}
use Rattle.nomos_rows.proofs.DeclarationLemmas.{declarations-told, gathered-first}
use Rattle.nomos_rows.proofs.FunctionLemmas.{fine-no_fault}
use Rattle.nomos_rows.proofs.ProcessLemmas.{skeleton-no_fault}
use Rattle.nomos_rows.proofs.declaration_rows.first_fault.Goals as goal
use Rattle.nomos_rows.specs.mirror.Declarations.{DeclarationsTell}
use Rattle.nomos_rows.specs.mirror.Processes.{Gathers}
use Rattle.nomos_rows.specs.mirror.Ups.{IfNone}

pub returns-clause-tell : goal.returns-clause-tell
returns-clause-tell c =
    let lists = c.args.program.now in
    let tells = declarations-told lists (fine-no_fault lists)
    (skeleton-no_fault lists c.requires.formed) c.in_ok-functions.functions c.in_ok-processes.processes
    c.in_ok-functions.ensures c.in_ok-processes.ensures.tell in
    subst (DeclarationsTell lists) (sym c.earliest.ensures) tells

pub returns-clause-gathers : goal.returns-clause-gathers
returns-clause-gathers c =
    let lists = c.args.program.now in
    let gathered = c.first_stuck.new.gathered in
    let Gathered : Type 0 = Gathers lists (length lists.procs) c.args.equalities.now c.first_stuck.new.equalities
    gathered.forms.items gathered.pairs.items in
    subst (IfNone Gathered) (sym c.earliest.ensures)
    (gathered-first lists Gathered c.in_ok-functions.functions c.in_ok-processes.processes
    c.in_ok-processes.ensures.gathers)
