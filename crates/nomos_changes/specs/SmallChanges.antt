-- The small changes of a state that acts are made of.
use Rattle.std.specs.Prelude.{◌≡◌, ◌+◌, ◌++◌, ◌∷◌, ℕ, List, [], map, Option, Some, None}
use Rattle.std.specs.Option.{option_to_list}
use Rattle.nomos_ir.specs.Bindings.{bind, bindings_of, unbind}
use Rattle.nomos_ir.specs.Value.{Value}
use Rattle.nomos_ir.specs.declared.ids.TypeId.{TypeId}
use Rattle.nomos_ir.specs.declared.ids.VarId.{VarId}
use Rattle.nomos_deeds.specs.declared.sight.SeenProcess.{SeenProcess}
use Rattle.nomos_machine.specs.Change.{put_at, put_all}
use Rattle.nomos_deeds.specs.Acts.{message_at}
use Rattle.nomos_machine.specs.Deeds.{value_in}
use Rattle.nomos_machine.specs.Optional.{◌>>=◌}
use Rattle.nomos_machine.specs.Revised.{uses_instead}
use Rattle.nomos_machine.specs.Sight.{user_of}
use Rattle.nomos_machine.specs.Objects.{object_number}
use Rattle.nomos_machine.specs.State.{State, process_at}
use Rattle.nomos_machine.specs.declared.object.Object.{Object}
use Rattle.nomos_machine.specs.declared.object.Object.TheVariants as object
use Rattle.nomos_machine.specs.declared.object.Payload.{Payload}
use Rattle.nomos_machine.specs.declared.object.Payload.TheVariants as payload
use Rattle.nomos_machine.specs.declared.object.PotentialList.{PotentialList}
use Rattle.nomos_machine.specs.declared.object.Process.{Process}
use Rattle.nomos_changes.specs.declared.list_change.ListChange.{ListChange}
use Rattle.nomos_changes.specs.declared.newborn.Newborn.{Newborn}

-- another process stands at the number
abbrev pub with_process : ℕ → Process → State → State
with_process pid q s = record s { objects = put_at pid (Some (object.Process q)) s.objects }

-- the second state is the first one in which the process of the number became another one, if there is one
abbrev pub Becomes : State → ℕ → (Process → Process) → State → Type 0
Becomes before pid f after = (p : Process) → process_at before pid ≡ Some p → after ≡ with_process pid (f p) before

-- the process with other plain fields
abbrev pub with_fields : SeenProcess → Process → Process
with_fields x p = record p {
  mode = x.mode;
  code = x.code;
  offers = x.offers;
  base = x.base;
  purse = x.purse;
  payer = x.payer;
}

-- with other values, other lists, and other channels
abbrev pub with_values : List (VarId × Value) → Process → Process
with_values values p = record p { values = values }

abbrev pub with_lists : List (VarId × PotentialList) → Process → Process
with_lists lists p = record p { lists = lists }

abbrev pub with_channels : List (VarId × ℕ) → Process → Process
with_channels channels p = record p { channels = bindings_of channels }

-- pairs in which a variable is bound no more, and pairs in which one is bound, if there is one
abbrev pub unbound_if : {X : Type 0} → Option VarId → List (VarId × X) → List (VarId × X)
unbound_if None pairs = pairs
unbound_if (Some w) pairs = unbind w.0 pairs

abbrev pub bound_if : {X : Type 0} → Option (VarId × X) → List (VarId × X) → List (VarId × X)
bound_if None pairs = pairs
bound_if (Some b) pairs = bind b.0 b.1 pairs

-- a list is used up, then one is bound, and a value is, each if it is to be
abbrev pub with_list_change : ListChange → Process → Process
with_list_change c p = record p {
  values = bound_if c.value p.values;
  lists = bound_if c.bound (unbound_if c.used_up p.lists);
}

-- the process that is to come
abbrev pub process_born : Newborn → Process
process_born born = record {
  pid = born.fields.pid;
  mode = born.fields.mode;
  code = born.fields.code;
  values = born.values.items;
  lists = born.lists.items;
  channels = bindings_of born.channels.items;
  offers = born.fields.offers;
  base = born.fields.base;
  purse = born.fields.purse;
  payer = born.fields.payer;
}

-- an object comes last, with the next number
abbrev pub with_object : Object → State → State
with_object o s = record s { objects = s.objects ++ o ∷ []; next_object = s.next_object + 1 }

-- the object of the number leaves
abbrev pub without_object : ℕ → State → State
without_object number s = record s { objects = put_at number None s.objects }

-- the next name comes, with this type
abbrev pub with_name : TypeId → State → State
with_name t s = record s { types = s.types ++ (s.next_name, t) ∷ []; next_name = s.next_name + 1 }

-- whoever uses the old name first uses the new one instead
abbrev pub redirected : ℕ → ℕ → List Object → List Object
redirected old new objects =
    put_all (map (λ o. (object_number o, Some (uses_instead old new o))) (option_to_list (user_of objects old))) objects

-- the value that the message of a number brings
abbrev pub value_brought : List Object → ℕ → Option Value
value_brought objects number = message_at objects number >>= λ m. value_in m.payload

-- what brings no value
abbrev pub BringsNoValue : Payload → Type 0
BringsNoValue (payload.Value x) = ⊥
BringsNoValue _ = Unit {0}
