-- What a firing finds, by scanning the objects.
use Rattle.std.specs.Prelude.{◌≡◌, ◌≤◌, ℕ, ◌==◌, ◌&&◌, not, Bool, true, false, List, Contains, find, Option, Some, None}
use Rattle.std.specs.Option.{option_map}
use Rattle.std.specs.List.{list_any}
use Rattle.nomos_ir.specs.Bindings.{bound_to}
use Rattle.nomos_ir.specs.Order.{count_of}
use Rattle.nomos_ir.specs.declared.code_node.Chan.{Chan}
use Rattle.nomos_ir.specs.declared.code_node.Chan.TheVariants as chan
use Rattle.nomos_ir.specs.declared.code_node.CodeNode.{CodeNode}
use Rattle.nomos_ir.specs.declared.code_node.CodeNode.TheVariants as code
use Rattle.nomos_ir.specs.declared.ids.CodeId.{CodeId}
use Rattle.nomos_ir.specs.declared.ids.Label.{Label}
use Rattle.nomos_ir.specs.declared.ids.TypeId.{TypeId}
use Rattle.nomos_ir.specs.declared.lists.ProgramLists.{ProgramLists}
use Rattle.nomos_ir.specs.declared.type_node.TypeNode.{TypeNode}
use Rattle.nomos_ir.specs.declared.type_node.TypeNode.TheVariants as node
use Rattle.nomos_types.specs.Branches.{goes_by}
use Rattle.nomos_types.specs.Judgement.{is_shared_mode}
use Rattle.nomos_types.specs.Modes.{parameter_mode}
use Rattle.nomos_machine.specs.Objects.{object_number, process_of, message_of, used}
use Rattle.nomos_machine.specs.Optional.{◌>>=◌}
use Rattle.nomos_machine.specs.State.{State, NameTypes, type_of, node_of}
use Rattle.nomos_machine.specs.declared.object.Message.{Message}
use Rattle.nomos_machine.specs.declared.object.Object.{Object}
use Rattle.nomos_machine.specs.declared.object.Object.TheVariants as object
use Rattle.nomos_machine.specs.declared.object.Process.{Process}

-- whether the process provides the channel, so that what it sends there goes to the client
abbrev pub is_own : Chan → Bool
is_own chan.Own = true
is_own (chan.Var v) = false

-- the present name of a channel of the process
abbrev pub present_name : Process → Chan → Option ℕ
present_name p chan.Own = Some p.offers
present_name p (chan.Var v) = bound_to v.0 p.channels

-- whether two ways are one
abbrev pub same_way : Bool → Bool → Bool
same_way true way = way
same_way false way = not way

-- whether it is a message that is read on this name and goes this way
abbrev pub is_read_on : Bool → ℕ → Object → Bool
is_read_on to_client name (object.Process p) = false
is_read_on to_client name (object.Message m) = same_way to_client m.to_client && m.from == name

-- the first message that is read on this name and goes this way
abbrev pub message_on : List Object → Bool → ℕ → Option Message
message_on objects to_client name = find (is_read_on to_client name) objects >>= message_of

-- whether an object is a process that offers this name
abbrev pub is_offered : ℕ → Object → Bool
is_offered name (object.Process p) = p.offers == name
is_offered name (object.Message m) = false

-- the first process that offers a name
abbrev pub offering : List Object → ℕ → Option Process
offering objects name = find (is_offered name) objects >>= process_of

-- the first object that uses a name
abbrev pub user_of : List Object → ℕ → Option Object
user_of objects name = find (λ o. list_any (λ n. n == name) (used o)) objects

-- The owner of a name: the number of the object that uses it.
abbrev pub owner : State → ℕ → Option ℕ
owner s name = option_map object_number (user_of s.objects name)

-- One object owns the name: it is found, it uses the name once, and no other object uses it.
pub record HasOneOwner (s : State) (name : ℕ) : Type 0 where
  pub object : Object
  pub there : Contains s.objects object
  pub found : owner s name ≡ Some (object_number object)
  pub uses : count_of name (used object) ≡ 1
  pub alone : (o : Object) → Contains s.objects o → 1 ≤ count_of name (used o) → o ≡ object

-- the node to which the type of a channel's present name unfolds
abbrev pub head_on : ProgramLists → NameTypes → Process → Chan → Option TypeNode
head_on lists types p c = present_name p c >>= node_of lists types

-- Whether a name is a shared one: the head of its type shows it.
abbrev pub shows_shared : ProgramLists → Option TypeId → Bool
shows_shared lists (Some t) = is_shared_mode (parameter_mode lists t)
shows_shared lists None = false

-- whether a name is a shared one, by the type that the table has for it
abbrev pub is_shared_name : ProgramLists → NameTypes → ℕ → Bool
is_shared_name lists types name = shows_shared lists (type_of types name)

-- ---- the type with which a channel goes on after a label, a channel, a value, and potential

-- after a label, which the type has to offer
abbrev pub after_label : Label → TypeNode → Option TypeId
after_label l (node.Plus branches) = goes_by branches l
after_label l (node.With branches) = goes_by branches l
after_label l _ = None

-- after a channel, whoever sends it
abbrev pub after_channel : TypeNode → Option TypeId
after_channel (node.Tensor a b) = Some b
after_channel (node.Lolli a b) = Some b
after_channel _ = None

-- after a value, whoever sends it
abbrev pub after_value : TypeNode → Option TypeId
after_value (node.ValueOut kind t) = Some t
after_value (node.ValueIn kind t) = Some t
after_value _ = None

-- after potential, whoever pays it
abbrev pub after_potential : TypeNode → Option TypeId
after_potential (node.PotOut r t) = Some t
after_potential (node.PotIn r t) = Some t
after_potential _ = None

-- what an acquired contract offers
abbrev pub after_acquire : TypeNode → Option TypeId
after_acquire (node.Up t) = Some t
after_acquire _ = None

-- where a process goes on that stands at `accept`
abbrev pub accept_next : CodeNode → Option CodeId
accept_next (code.Accept at next) = Some next
accept_next _ = None

-- where a process goes on that stands at `detach`
abbrev pub detach_next : CodeNode → Option CodeId
detach_next (code.Detach at next) = Some next
detach_next _ = None
