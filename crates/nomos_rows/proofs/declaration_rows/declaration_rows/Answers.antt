use Rattle.std.proofs.Common.{ℕ, ◌++◌, length, subst, ◌∙◌, arith}
use Rattle.nomos_forms.specs.RowsOf.{AreRowsOf}
use Rattle.nomos_rows.proofs.DeclarationLemmas.{program-few_stars, gathered-in_rows}
use Rattle.nomos_rows.proofs.declaration_rows.declaration_rows.Goals as goal
use Rattle.nomos_rows.specs.mirror.Declarations.{DeclarationsTell}
use Rattle.nomos_rows.specs.mirror.Processes.{Gathers}
use Rattle.nomos_rows.specs.mirror.Ups.{IfNone}

pub gathered_rows-requires-clause-stars : goal.gathered_rows-requires-clause-stars
gathered_rows-requires-clause-stars c =
    let few = program-few_stars c.args.program.now c.requires.formed.program in
    omega (arith, c.stars.ensures)

pub returns-in_ok-gathered_rows-in-Ok-None : goal.returns-in_ok-gathered_rows-in-Ok-None
returns-in_ok-gathered_rows-in-Ok-None c =
    let lists = c.args.program.now in
    let new = c.first_fault.new.equalities in
    let gathered = c.first_fault.new.gathered in
    let Gathered : Type 0 = Gathers lists (length lists.procs) c.args.equalities new gathered.forms.items
    gathered.pairs.items in
    let fine = subst (DeclarationsTell lists) c.in-Ok-None.field-0-is c.in-Ok-None.ensures.tell in
    let gathers = subst (IfNone Gathered) c.in-Ok-None.field-0-is c.in-Ok-None.ensures.gathers in
    let rows = c.in_ok-gathered_rows-in-Ok-None.field-0.rows in
    let are = subst (λ (n : ℕ). AreRowsOf n gathered.forms.items
    (gathered.pairs.items ++ new.amounts) rows) c.stars.ensures c.in_ok-gathered_rows-in-Ok-None.ensures.rows in (
      c.in_ok-gathered_rows-in-Ok-None.ensures.stars ∙ c.stars.ensures,
      gathered-in_rows lists c.args.equalities new gathered.forms.items gathered.pairs.items rows fine gathers are,
    )
