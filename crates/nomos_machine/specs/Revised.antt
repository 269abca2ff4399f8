-- A process, and any object, with one thing about it changed.
use Rattle.std.specs.Prelude.{ℕ, ◌==◌, ◌+◌, ◌-◌, map, if◌then◌else◌}
use Rattle.std.specs.Option.{option_map}
use Rattle.nomos_ir.specs.Bindings.{bind, unbind}
use Rattle.nomos_ir.specs.Value.{Value}
use Rattle.nomos_ir.specs.declared.code_node.Chan.{Chan}
use Rattle.nomos_ir.specs.declared.code_node.Chan.TheVariants as chan
use Rattle.nomos_ir.specs.declared.ids.CodeId.{CodeId}
use Rattle.nomos_ir.specs.declared.ids.VarId.{VarId}
use Rattle.nomos_machine.specs.declared.object.PotentialList.{PotentialList}
use Rattle.nomos_machine.specs.declared.object.Object.{Object}
use Rattle.nomos_machine.specs.declared.object.Object.TheVariants as object
use Rattle.nomos_machine.specs.declared.object.Payload.{Payload}
use Rattle.nomos_machine.specs.declared.object.Payload.TheVariants as payload
use Rattle.nomos_machine.specs.declared.object.Process.{Process}

-- it stands at another instruction
abbrev pub standing_at : CodeId → Process → Process
standing_at next p = record p { code = next }

-- its channel goes on under another name
abbrev pub under_name : Chan → ℕ → Process → Process
under_name chan.Own name p = record p { offers = name }
under_name (chan.Var v) name p = record p { channels = bind v name p.channels }

-- a channel is bound
abbrev pub with_channel : VarId → ℕ → Process → Process
with_channel v name p = record p { channels = bind v name p.channels }

-- a channel is gone
abbrev pub without_channel : VarId → Process → Process
without_channel v p = record p { channels = unbind v.0 p.channels }

-- a value is bound
abbrev pub with_value : VarId → Value → Process → Process
with_value v x p = record p { values = bind v x p.values }

-- a list is bound
abbrev pub with_list : VarId → PotentialList → Process → Process
with_list v l p = record p { lists = bind v l p.lists }

-- a list is used up
abbrev pub list_used_up : VarId → Process → Process
list_used_up w p = record p { lists = unbind w.0 p.lists }

-- its purse has so many Dths more
abbrev pub richer : ℕ → Process → Process
richer gas p = record p { purse = p.purse + gas }

-- its purse has so many Dths less
abbrev pub poorer : ℕ → Process → Process
poorer gas p = record p { purse = p.purse - gas }

-- ---- one name instead of another

-- the name, or the new one where it is the old one
abbrev pub renamed : ℕ → ℕ → ℕ → ℕ
renamed old new name = if name == old then new else name

-- what a message brings, with the new name where it brings the old one
abbrev pub renamed_payload : ℕ → ℕ → Payload → Payload
renamed_payload old new (payload.Channel name) = payload.Channel (renamed old new name)
renamed_payload old new brought = brought

-- the object, which uses the new name wherever it used the old one; what it provides stays
abbrev pub uses_instead : ℕ → ℕ → Object → Object
uses_instead old new (object.Process p) =
    object.Process (record p { channels = map (λ e. (e.0, renamed old new e.1)) p.channels })
uses_instead old new (object.Message m) = object.Message (record m {
  from = if m.to_client then m.from else renamed old new m.from;
  next = if m.to_client then option_map (renamed old new) m.next else m.next;
  payload = renamed_payload old new m.payload;
})
