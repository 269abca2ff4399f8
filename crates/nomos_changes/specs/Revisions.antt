-- What a process by itself becomes.
use Rattle.std.specs.Prelude.{◌≡◌, List, [], ◌∷◌, Option, Some, None}
use Rattle.nomos_ir.specs.Bindings.{bound_to}
use Rattle.nomos_ir.specs.Value.{Value}
use Rattle.nomos_ir.specs.ValueNode.{value_of}
use Rattle.nomos_ir.specs.declared.ids.VarId.{VarId}
use Rattle.nomos_ir.specs.declared.ids.CodeId.{CodeId}
use Rattle.nomos_types.specs.Acceptance.{Acceptance}
use Rattle.nomos_deeds.specs.declared.act.Act.{Act}
use Rattle.nomos_deeds.specs.declared.act.Act.TheVariants as act
use Rattle.nomos_machine.specs.Change.{Change}
use Rattle.nomos_machine.specs.State.{State}
use Rattle.nomos_machine.specs.Deeds.{alone, empty_list, lengthened}
use Rattle.nomos_machine.specs.Optional.{◌>>=◌}
use Rattle.nomos_machine.specs.Revised.{standing_at, with_value, with_list, list_used_up, poorer}
use Rattle.nomos_machine.specs.declared.object.PotentialList.{PotentialList}
use Rattle.nomos_machine.specs.declared.object.Process.{Process}
use Rattle.nomos_changes.specs.declared.revision.Revision.{Revision}
use Rattle.nomos_changes.specs.declared.revision.Revision.TheVariants as revision

-- the head and the rest of a list are bound, if it has a head
abbrev pub with_parts : VarId → VarId → PotentialList → List Value → Process → Option Process
with_parts head tail l [] q = None
with_parts head tail l (x ∷ xs) q = Some (with_value head x (with_list tail (record l { items = xs }) q))

abbrev pub revised : Revision → Process → Option Process
revised revision.Stands p = Some p
revised (revision.Spends gas) p = Some (poorer gas p)
revised (revision.Binds v x) p = Some (with_value v x p)
revised (revision.Empty v amount) p = Some (with_list v (empty_list amount) p)
revised (revision.Longer v w first) p = bound_to w.0 p.lists >>= λ l.
    Some (with_list v (lengthened (value_of first) l) (list_used_up w p))
revised (revision.UsedUp w) p = Some (list_used_up w p)
revised (revision.Parted w head tail) p =
    bound_to w.0 p.lists >>= λ l. with_parts head tail l l.items (list_used_up w p)

-- those that need no memory
abbrev pub IsPlainRevision : Revision → Type 0
IsPlainRevision revision.Stands = Unit {0}
IsPlainRevision (revision.Spends gas) = Unit {0}
IsPlainRevision _ = ⊥

-- ---- acts of a process by itself

-- by which nothing else changes
abbrev pub IsRevisionAct : Act → Type 0
IsRevisionAct (act.Choose next) = Unit {0}
IsRevisionAct (act.Let v next) = Unit {0}
IsRevisionAct (act.Empty v amount next) = Unit {0}
IsRevisionAct (act.Add v w next) = Unit {0}
IsRevisionAct (act.End w next) = Unit {0}
IsRevisionAct (act.TakeApart w head tail next) = Unit {0}
IsRevisionAct _ = ⊥

-- the change is that the process becomes what is revised, and goes on
pub record Revises (a : Acceptance) (s : State) (p : Process) (r : Revision) (next : CodeId) (c : Change) : Type 0 where
  pub becomes : Process
  pub revises : revised r p ≡ Some becomes
  pub alone_is : c ≡ alone a s p (standing_at next becomes)
