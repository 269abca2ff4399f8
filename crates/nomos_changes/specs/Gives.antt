-- What is given to a declaration, as it is kept, and what a call makes of it.
use Rattle.std.specs.Prelude.{◌+◌, ◌*◌, ℕ, List, [], ◌∷◌, length}
use Rattle.nomos_ir.specs.declared.declaration.ProcDecl.{ProcDecl}
use Rattle.nomos_ir.specs.declared.ids.VarId.{VarId}
use Rattle.nomos_machine.specs.Given.{Given, begins}
use Rattle.nomos_machine.specs.declared.object.PotentialList.{PotentialList}
use Rattle.nomos_machine.specs.declared.object.Process.{Process}
use Rattle.nomos_changes.specs.declared.given.Given.{Given as Kept}

-- what is given, of what is kept
abbrev pub given_in : Kept → Given
given_in k = record { values = k.values.items; lists = k.lists.items; channels = k.channels.items }

-- the process goes on at the start of a declaration, with the parameters alone
abbrev pub called : ProcDecl → Given → Process → Process
called d g p =
    let fresh : Process = begins d g p.pid p.offers 0 p.payer in
    record p { code = d.first; values = fresh.values; lists = fresh.lists; channels = fresh.channels }

-- the potential of lists, one after the other
abbrev pub potential_in : List (VarId × PotentialList) → ℕ
potential_in [] = 0
potential_in (e ∷ lists) = e.1.amount * length e.1.items + potential_in lists
