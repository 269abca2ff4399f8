-- The change that an act stands for, in the words of the machine's table.
use Rattle.std.specs.Prelude.{◌≡◌, ℕ, ◌==◌, Bool, false, not, List, [], ◌∷◌, Option, Some, None, slice_get, if◌then◌else◌}
use Rattle.std.specs.Option.{option_map}
use Rattle.nomos_ir.specs.Bindings.{bound_to}
use Rattle.nomos_ir.specs.Value.{Value}
use Rattle.nomos_ir.specs.declared.code_node.Args.{Args}
use Rattle.nomos_ir.specs.declared.code_node.Chan.{Chan}
use Rattle.nomos_ir.specs.declared.code_node.CodeNode.{CodeNode}
use Rattle.nomos_ir.specs.declared.code_node.CodeNode.TheVariants as code
use Rattle.nomos_ir.specs.declared.ids.CodeId.{CodeId}
use Rattle.nomos_ir.specs.declared.ids.TypeId.{TypeId}
use Rattle.nomos_ir.specs.declared.ids.VarId.{VarId}
use Rattle.nomos_ir.specs.declared.mode.Mode.TheVariants as mode
use Rattle.nomos_types.specs.Acceptance.{Acceptance}
use Rattle.nomos_machine.specs.Change.{Change}
use Rattle.nomos_machine.specs.Deeds.{Deed, changes, has_fault, value_in, channel_in, one_of, empty_list, lengthened, alone, sends, takes, closes, forwards, with_other, unless_shared, spawns, calls, deed_at}
use Rattle.nomos_machine.specs.Given.{given}
use Rattle.nomos_machine.specs.Objects.{object_at, message_of}
use Rattle.nomos_machine.specs.Optional.{◌>>=◌}
use Rattle.nomos_machine.specs.Readiness.{looks_ready}
use Rattle.nomos_machine.specs.Revised.{standing_at, under_name, with_channel, without_channel, with_value, with_list, list_used_up, poorer}
use Rattle.nomos_machine.specs.Sight.{is_own, present_name, message_on, offering}
use Rattle.nomos_machine.specs.State.{State, process_at}
use Rattle.nomos_machine.specs.declared.object.Message.{Message}
use Rattle.nomos_machine.specs.declared.object.Object.{Object}
use Rattle.nomos_machine.specs.declared.object.Payload.{Payload}
use Rattle.nomos_machine.specs.declared.object.Payload.TheVariants as payload
use Rattle.nomos_machine.specs.declared.object.PotentialList.{PotentialList}
use Rattle.nomos_machine.specs.declared.object.Process.{Process}
use Rattle.nomos_deeds.specs.declared.act.Act.{Act}
use Rattle.nomos_deeds.specs.declared.act.Act.TheVariants as act
use Rattle.nomos_deeds.specs.declared.act.Doing.{Doing}
use Rattle.nomos_deeds.specs.declared.act.Doing.TheVariants as doing
use Rattle.nomos_deeds.specs.declared.act.Into.{Into}
use Rattle.nomos_deeds.specs.declared.act.Into.TheVariants as into
use Rattle.nomos_deeds.specs.declared.act.Sending.{Sending}
use Rattle.nomos_deeds.specs.declared.act.Sending.TheVariants as sending

-- the message of a number
abbrev pub message_at : List Object → ℕ → Option Message
message_at objects number = object_at objects number >>= message_of

-- the arguments of an instruction that has some
abbrev pub args_of : CodeNode → Option Args
args_of (code.Spawn at v f args next) = Some args
args_of (code.Call at f args) = Some args
args_of _ = None

-- what a message brings is taken in
abbrev pub taken : Into → Payload → Process → Option Process
taken into.Nothing brought q = Some q
taken (into.Channel v) brought q = channel_in brought >>= λ name. Some (with_channel v name q)
taken (into.Value v) brought q = value_in brought >>= λ x. Some (with_value v x q)

-- a process of another number
abbrev pub another : Process → Process → Option Process
another p q = if q.pid == p.pid then None else Some q

-- Of a process p in a state s, at an instruction whose terms have these values.
module _ (a : Acceptance) (s : State) (p : Process) (vs : List Value) where
  -- a send on a channel that goes on at a type, where it has one
  abbrev pub sending_change : Chan → Sending → Option TypeId → CodeId → Option Change
  sending_change c (sending.Label l) goes next = sends a s p c (payload.Label l) 0 p goes next
  sending_change c (sending.Channel y name is_reference) goes next =
      sends a s p c (payload.Channel name) 0 (unless_shared a s p y (Some is_reference) p) goes next
  sending_change c sending.Value goes next = one_of vs >>= λ x. sends a s p c (payload.Value x) 0 p goes next
  sending_change c (sending.Potential gas) goes next = sends a s p c payload.Pay gas (poorer gas p) goes next

  -- it receives a message, takes in what that brings, and goes on
  abbrev pub received_change : Message → Chan → Into → CodeId → Option Change
  received_change m c where_to next = do
    name ← m.next
    q ← taken where_to m.payload (under_name c name p)
    Some (takes a s p m (standing_at next q))

  -- a list that has elements is used up
  abbrev pub parted : VarId → VarId → VarId → CodeId → PotentialList → List Value → Option Change
  parted w head tail next l [] = None
  parted w head tail next l (x ∷ xs) =
      Some (alone a s p (standing_at next
      (with_value head x (with_list tail (record l { items = xs }) (list_used_up w p)))))

  abbrev pub act_change : Act → Option Change
  act_change (act.Send send) = sending_change send.channel send.sending (Some send.goes) send.next
  act_change (act.Receive receive) =
      message_at s.objects receive.message >>= λ m. received_change m receive.channel receive.into receive.next
  act_change (act.Wait v number next) =
      message_at s.objects number >>= λ m. Some (takes a s p m (standing_at next (without_channel v p)))
  act_change (act.Acquire acquire) = process_at s acquire.other >>= another p >>= λ q.
      let own = with_channel acquire.variable s.next_name p in
      Some (record (with_other a s p (standing_at acquire.next own) (record q {
        mode = mode.L;
        code = acquire.onward;
        offers = s.next_name;
        base = Some acquire.shared;
      })) { next_type = Some acquire.goes })
  act_change (act.Release release) = process_at s release.other >>= another p >>= λ q.
      let own = with_channel release.reference release.shared (without_channel release.variable p) in
      Some (with_other a s p (standing_at release.next own) (record q {
        mode = mode.S;
        code = release.onward;
        offers = release.shared;
        base = None;
      }))
  act_change (act.Spawn v f next) = do
    d ← slice_get a.program.procs f.0
    args ← slice_get a.program.code p.code.0 >>= args_of
    g ← given p vs args d
    Some (spawns a s p v d args g next)
  act_change (act.Call f) = do
    d ← slice_get a.program.procs f.0
    args ← slice_get a.program.code p.code.0 >>= args_of
    g ← given p vs args d
    Some (calls a s p d g)
  act_change (act.Work gas next) = Some (record (alone a s p (standing_at next (poorer gas p))) { burnt = gas })
  act_change (act.Let v next) = one_of vs >>= λ x. Some (alone a s p (standing_at next (with_value v x p)))
  act_change (act.Emit next) = one_of vs >>= λ x.
      Some (record (alone a s p (standing_at next p)) { emitted = (p.pid, x) ∷ [] })
  act_change (act.Choose next) = Some (alone a s p (standing_at next p))
  act_change (act.Empty v amount next) = Some (alone a s p (standing_at next (with_list v (empty_list amount) p)))
  act_change (act.Add v w next) = do
    x ← one_of vs
    l ← bound_to w.0 p.lists
    Some (alone a s p (standing_at next (with_list v (lengthened x l) (list_used_up w p))))
  act_change (act.End w next) = Some (alone a s p (standing_at next (list_used_up w p)))
  act_change (act.TakeApart w head tail next) = bound_to w.0 p.lists >>= λ l. parted w head tail next l l.items
  act_change act.Close = Some (closes a s p p.mode)
  act_change (act.Forward name) = Some (forwards a s p name)

  -- what is done, as a deed; nothing, where nothing is
  abbrev pub doing_deed : Option Doing → Option Deed
  doing_deed (Some (doing.Acts what)) = option_map changes (act_change what)
  doing_deed (Some (doing.Faults f)) = Some (has_fault f)
  doing_deed None = None

-- what a process reads on a channel
abbrev pub read_by : State → Process → Chan → Option Message
read_by s p c = present_name p c >>= message_on s.objects (not (is_own c))

-- where the process that offers the channel of a variable stands
abbrev pub provider_node : Acceptance → State → Process → VarId → Option CodeNode
provider_node a s p v = bound_to v.0 p.channels >>= λ name.
    offering s.objects name >>= λ other. slice_get a.program.code other.code.0

-- the process of a number is ready, by one look
abbrev pub if_some_ready : Acceptance → State → Option Process → Bool
if_some_ready a s (Some p) = looks_ready a s p
if_some_ready a s None = false

abbrev pub looks_ready_at : Acceptance → State → ℕ → Bool
looks_ready_at a s pid = if_some_ready a s (process_at s pid)

-- What is answered is the deed of the process of this number, which stands at this instruction, whose terms have these
-- values.
abbrev pub DecidesWith : Acceptance → State → ℕ → List Value → CodeNode → Option Doing → Type 0
DecidesWith a s pid vs n answer =
    (p : Process) → process_at s pid ≡ Some p → slice_get a.program.code p.code.0 ≡ Some n
    → doing_deed a s p vs answer ≡ deed_at a s p vs n

-- the same, whatever values the terms have
abbrev pub Decides : Acceptance → State → ℕ → CodeNode → Option Doing → Type 0
Decides a s pid n answer = (vs : List Value) → DecidesWith a s pid vs n answer
