-- What a walk in order of number looks for, names apart from processes.
use Rattle.std.specs.Prelude.{◌&&◌, nat_lt, ℕ, Bool, Option, Some, None}
use Rattle.nomos_ir.specs.declared.ids.TypeId.{TypeId}
use Rattle.nomos_ir.specs.declared.lists.ProgramLists.{ProgramLists}
use Rattle.nomos_machine.specs.Objects.{purse_of}
use Rattle.nomos_machine.specs.declared.object.Object.{Object}
use Rattle.nomos_deeds.specs.Readers.{looks_linear}

-- whether a name with a type is over a number and used exactly once
abbrev pub is_owned_over : ProgramLists → ℕ → ℕ × TypeId → Bool
is_owned_over lists after t = nat_lt after t.0 && looks_linear lists t.1

-- what an object carries that may be there, in Dths
abbrev pub purse_in : Option Object → ℕ
purse_in None = 0
purse_in (Some o) = purse_of o
