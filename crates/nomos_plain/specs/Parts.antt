-- The state that a plain state keeps, and the room that it has.
use Rattle.std.specs.Prelude.{◌≤◌, ◌<◌, ◌==◌, ℕ, Bool, ◌+◌, List, map, All, None, false}
use Rattle.std.specs.List.{list_any}
use Rattle.std.specs.List.Sorted.{IsStrictlySortedBy}
use Rattle.std.specs.Ordering.{nat_cmp}
use Rattle.std.specs.Global.{Vec}
use Rattle.std.specs.Vec.{vec_len, vec_capacity}
use Rattle.nomos_ir.specs.declared.ids.TypeId.{TypeId}
use Rattle.nomos_machine.specs.Objects.{object_number, mentioned}
use Rattle.nomos_machine.specs.State.{State}
use Rattle.nomos_machine.specs.declared.object.Message.{Message}
use Rattle.nomos_machine.specs.declared.object.Object.{Object}
use Rattle.nomos_machine.specs.declared.object.Object.TheVariants as object
use Rattle.nomos_machine.specs.declared.object.Payload.TheVariants as payload
use Rattle.nomos_machine.specs.declared.object.Process.{Process}
use Rattle.nomos_plain.specs.declared.plain_object.PlainObject.{PlainObject}
use Rattle.nomos_plain.specs.declared.plain_object.PlainObject.TheVariants as plain
use Rattle.nomos_plain.specs.declared.plain_object.PlainProcess.{PlainProcess}
use Rattle.nomos_plain.specs.declared.plain_parts.PlainParts.{PlainParts}

-- the process that is kept
abbrev pub process_in : PlainProcess → Process
process_in k = record {
  pid = k.pid;
  mode = k.mode;
  code = k.code;
  values = k.values.items;
  lists = k.lists.items;
  channels = k.channels.items;
  offers = k.offers;
  base = k.base;
  purse = k.purse;
  payer = k.payer;
}

-- the object that is kept
abbrev pub object_in : PlainObject → Object
object_in (plain.Process k) = object.Process (process_in k)
object_in (plain.Message m) = object.Message m

-- the state that is kept
abbrev pub state_of : PlainParts → State
state_of s = record {
  objects = map object_in s.objects.items;
  next_object = s.next_object;
  next_name = s.next_name;
  types = s.types.items;
  balances = s.balances.items;
  spent = s.spent;
  results = s.results.items;
  outside = s.outside.items;
}

-- whether the object that is kept has this number
abbrev pub has_number : ℕ → PlainObject → Bool
has_number number o = object_number (object_in o) == number

-- whether one of the objects that are kept provides the name, uses it or has it as base
abbrev pub any_mentions : List PlainObject → ℕ → Bool
any_mentions objects name = list_any (λ o. list_any (λ n. n == name) (mentioned (object_in o))) objects

-- what stands for a while where a process or a message is taken out
abbrev pub hole : ℕ → Message
hole number = record {
  number = number;
  to_client = false;
  from = 0;
  next = None;
  payload = payload.Close;
  purse = 0;
}

-- ---- room, and order

-- the channels of a process have room for so many more
abbrev pub HasRoom : ℕ → PlainObject → Type 0
HasRoom n (plain.Process k) = vec_len k.channels + n ≤ vec_capacity k.channels
HasRoom n (plain.Message m) = Unit {0}

-- vectors of objects and of the types of names have room for so many small changes
pub record HaveRoom (n : ℕ) (objects : Vec PlainObject) (types : Vec (ℕ × TypeId)) : Type 0 where
  pub objects_fit : vec_len objects + n ≤ vec_capacity objects
  pub types_fit : vec_len types + n ≤ vec_capacity types
  pub each : All (HasRoom n) objects.items

-- there is room for so many small changes
abbrev pub HasSpare : ℕ → PlainParts → Type 0
HasSpare n s = HaveRoom n s.objects s.types

-- objects stand in order of number, each number once, all below the next one
pub record StandInOrder (next : ℕ) (objects : List Object) : Type 0 where
  pub ascending : IsStrictlySortedBy nat_cmp (map object_number objects)
  pub below : All (λ o. object_number o < next) objects

-- The objects stand in order, and the room that is counted is there.
pub record Sound (count next : ℕ) (objects : Vec PlainObject) (types : Vec (ℕ × TypeId)) : Type 0 where
  pub room : HaveRoom count objects types
  pub order : StandInOrder next (map object_in objects.items)

abbrev pub IsSound : PlainParts → Type 0
IsSound s = Sound s.room s.next_object s.objects s.types
