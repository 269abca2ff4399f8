-- What a process does where it stands: some kinds of change, and one equation for each instruction.
use Rattle.std.specs.Prelude.{ℕ, ◌+◌, nat_le, not, Bool, true, List, [], ◌∷◌, ◌++◌, map, find, Option, Some, None, slice_get, if◌then◌else◌, ◌==◌}
use Rattle.std.specs.Option.{option_map, option_to_list}
use Rattle.nomos_ir.specs.Bindings.{bound_to}
use Rattle.nomos_ir.specs.Value.{Value, truth_in, value_list}
use Rattle.nomos_ir.specs.Weight.{list_weight, max_weight}
use Rattle.nomos_ir.specs.declared.code_node.Args.{Args}
use Rattle.nomos_ir.specs.declared.code_node.Arm.{Arm}
use Rattle.nomos_ir.specs.declared.code_node.Chan.{Chan}
use Rattle.nomos_ir.specs.declared.code_node.CodeNode.{CodeNode}
use Rattle.nomos_ir.specs.declared.code_node.CodeNode.TheVariants as code
use Rattle.nomos_ir.specs.declared.code_node.ValueArg.{ValueArg}
use Rattle.nomos_ir.specs.declared.code_node.ValueArg.TheVariants as arg
use Rattle.nomos_ir.specs.declared.declaration.ProcDecl.{ProcDecl}
use Rattle.nomos_ir.specs.declared.fault.Fault.{Fault}
use Rattle.nomos_ir.specs.declared.fault.Fault.TheVariants as fault
use Rattle.nomos_ir.specs.declared.ids.CodeId.{CodeId}
use Rattle.nomos_ir.specs.declared.ids.Label.{Label}
use Rattle.nomos_ir.specs.declared.ids.TypeId.{TypeId}
use Rattle.nomos_ir.specs.declared.ids.VarId.{VarId}
use Rattle.nomos_ir.specs.declared.mode.Mode.{Mode}
use Rattle.nomos_ir.specs.declared.mode.Mode.TheVariants as mode
use Rattle.nomos_types.specs.Acceptance.{Acceptance}
use Rattle.nomos_types.specs.Amount.{dths}
use Rattle.nomos_machine.specs.Optional.{◌>>=◌}
use Rattle.nomos_machine.specs.Change.{Change, no_change}
use Rattle.nomos_machine.specs.Given.{Given, given, begins}
use Rattle.nomos_machine.specs.Objects.{object_number, potential_of}
use Rattle.nomos_machine.specs.Revised.{standing_at, under_name, with_channel, without_channel, with_value, with_list, list_used_up, richer, poorer, renamed, uses_instead}
use Rattle.nomos_machine.specs.Sight.{is_shared_name, is_own, present_name, head_on, message_on, offering, user_of, after_label, after_channel, after_value, after_potential, after_acquire, accept_next, detach_next}
use Rattle.nomos_machine.specs.State.{State, node_of}
use Rattle.nomos_machine.specs.declared.object.PotentialList.{PotentialList}
use Rattle.nomos_machine.specs.declared.object.Message.{Message}
use Rattle.nomos_machine.specs.declared.object.Object.TheVariants as object
use Rattle.nomos_machine.specs.declared.object.Payload.{Payload}
use Rattle.nomos_machine.specs.declared.object.Payload.TheVariants as payload
use Rattle.nomos_machine.specs.declared.object.Process.{Process}

-- What a process does that is ready: it changes the state, or its instruction has a fault.
pub data Deed : Type 0 where
  changes : Change → Deed
  has_fault : Fault → Deed

-- ---- what a message brings

-- the label that it brings
abbrev pub label_in : Payload → Option Label
label_in (payload.Label l) = Some l
label_in _ = None

-- the value that it brings
abbrev pub value_in : Payload → Option Value
value_in (payload.Value x) = Some x
value_in _ = None

-- the name of the channel that it brings
abbrev pub channel_in : Payload → Option ℕ
channel_in (payload.Channel name) = Some name
channel_in _ = None

-- that it brings potential; how much of it, the type says
abbrev pub potential_in : Payload → Option (Unit {0})
potential_in payload.Pay = Some tt
potential_in _ = None

-- that the talk is closed with it
abbrev pub close_in : Payload → Option (Unit {0})
close_in payload.Close = Some tt
close_in _ = None

-- the code with which a `case` goes on after a label
abbrev pub arm_for : List Arm → Label → Option CodeId
arm_for arms l = option_map (λ arm. arm.goes) (find (λ arm. arm.label.0 == l.0) arms)

-- ---- the values of terms, and lists that carry potential

-- the value of the one term that an instruction has
abbrev pub one_of : List Value → Option Value
one_of (x ∷ []) = Some x
one_of _ = None

-- a list without elements, of which each would carry this amount
abbrev pub empty_list : ℕ → PotentialList
empty_list amount = record { amount = amount; items = [] }

-- a list with one more element in front
abbrev pub lengthened : Value → PotentialList → PotentialList
lengthened x l = record l { items = x ∷ l.items }

-- whether it is no heavier than any list may be
abbrev pub is_light : PotentialList → Bool
is_light l = nat_le (list_weight (value_list l.items)) max_weight

-- The change, where the free purse has so much: the purse is at least that and the potential of the lists together.
abbrev pub where_it_has : ℕ → Process → Option Change → Option Change
where_it_has gas p change = if nat_le (gas + potential_of p) p.purse then change else None

-- ---- the kinds of change, of a process p in a state s

module _ (a : Acceptance) (s : State) (p : Process) where
  -- the process goes on as another, and nothing else changes
  abbrev pub alone : Process → Change
  alone q = record (no_change s) { places = (p.pid, Some (object.Process q)) ∷ [] }

  -- It sends, and goes on from q: the message is read on the channel's present name, and the channel goes on under the
  -- next name, which has this type.
  abbrev pub sends : Chan → Payload → ℕ → Process → Option TypeId → CodeId → Option Change
  sends c brought gas q goes next = do
    from ← present_name p c
    t ← goes
    Some (record (alone (standing_at next (under_name c s.next_name q))) {
      comes = Some (object.Message (record {
        number = s.next_object;
        to_client = is_own c;
        from = from;
        next = Some s.next_name;
        payload = brought;
        purse = gas;
      }));
      next_type = Some t;
    })

  -- the message leaves, and the process goes on as q with the message's purse
  abbrev pub takes : Message → Process → Change
  takes m q = record (no_change s) {
    places = (p.pid, Some (object.Process (richer m.purse q))) ∷ (m.number, None) ∷ [];
  }

  -- It receives: the channel goes on under the message's next name, and what is brought is taken as `reads` says.
  abbrev pub receives : Chan → (Payload → Process → Option Process) → Option Change
  receives c reads = do
    from ← present_name p c
    m ← message_on s.objects (not (is_own c)) from
    name ← m.next
    q ← reads m.payload (under_name c name p)
    Some (takes m q)

  -- it hears that a talk has ended, and the channel is gone
  abbrev pub hears_end : VarId → CodeId → Option Change
  hears_end v next = do
    from ← bound_to v.0 p.channels
    m ← message_on s.objects true from
    close_in m.payload >>= λ _. Some (takes m (standing_at next (without_channel v p)))

  -- it leaves, and its purse goes to its payer's account
  abbrev pub leaves : Change
  leaves = record (no_change s) { places = (p.pid, None) ∷ []; gets = Some (p.payer, p.purse) }

  -- it ends; at mode R its client is told
  abbrev pub closes : Mode → Change
  closes mode.R = record leaves {
    comes = Some (object.Message (record {
      number = s.next_object;
      to_client = true;
      from = p.offers;
      next = None;
      payload = payload.Close;
      purse = 0;
    }));
  }
  closes _ = leaves

  -- it leaves, and whoever used its name uses this one instead, an outside party too
  abbrev pub forwards : ℕ → Change
  forwards name = record leaves {
    places =
        map (λ o. (object_number o, Some (uses_instead p.offers name o)))
        (option_to_list (user_of s.objects p.offers)) ++
        (p.pid, None) ∷ [];
    outside = map (renamed p.offers name) s.outside;
  }

  -- it goes on as q, and beside it another process goes on
  abbrev pub with_other : Process → Process → Change
  with_other q other = record (no_change s) {
    places = (p.pid, Some (object.Process q)) ∷ (other.pid, Some (object.Process other)) ∷ [];
  }

  -- It acquires what r refers to, which stands at `accept`: that process goes on at mode L under the next name, with
  -- the shared name as base.
  abbrev pub acquires : VarId → VarId → CodeId → Option Change
  acquires r v next = do
    shared ← bound_to r.0 p.channels
    other ← offering s.objects shared
    n ← slice_get a.program.code other.code.0
    onward ← accept_next n
    t ← node_of a.program s.types shared >>= after_acquire
    Some (record (with_other (standing_at next (with_channel v s.next_name p)) (record other {
      mode = mode.L;
      code = onward;
      offers = s.next_name;
      base = Some shared;
    })) { next_type = Some t })

  -- It releases v, whose provider stands at `detach`: that process goes on at mode S under its base, to which r refers.
  abbrev pub releases : VarId → VarId → CodeId → Option Change
  releases v r next = do
    name ← bound_to v.0 p.channels
    other ← offering s.objects name
    n ← slice_get a.program.code other.code.0
    onward ← detach_next n
    shared ← other.base
    Some (with_other (standing_at next (with_channel r shared (without_channel v p))) (record other {
      mode = mode.S;
      code = onward;
      offers = shared;
      base = None;
    }))

  -- ---- what is handed over

  abbrev pub unless_shared : VarId → Option Bool → Process → Process
  unless_shared v (Some true) q = q
  unless_shared v _ q = without_channel v q

  -- a channel goes out of its hands; a reference stays
  abbrev pub hands_over : VarId → Process → Process
  hands_over v q = unless_shared v (option_map (is_shared_name a.program s.types) (bound_to v.0 q.channels)) q

  abbrev pub hands_over_all : List VarId → Process → Process
  hands_over_all [] q = q
  hands_over_all (v ∷ vs) q = hands_over_all vs (hands_over v q)

  -- a list goes out of its hands
  abbrev pub hands_over_lists : List ValueArg → Process → Process
  hands_over_lists [] q = q
  hands_over_lists (arg.Term e ∷ args) q = hands_over_lists args q
  hands_over_lists (arg.List w ∷ args) q = hands_over_lists args (list_used_up w q)

  -- It spawns a process of the declaration, which offers the next name. What that has in its purse it has from its
  -- parent: the declared potential, and that of the lists that are handed over.
  abbrev pub spawns : VarId → ProcDecl → Args → Given → CodeId → Change
  spawns v d args g next =
      let child : Process = begins d g s.next_object s.next_name (dths a.annotations d.amount) p.payer in
      let rest : Process = hands_over_all args.channels (hands_over_lists args.values p) in
      record (alone (standing_at next (with_channel v s.next_name (poorer child.purse rest)))) {
        comes = Some (object.Process child);
        next_type = Some d.offers;
      }

  -- It goes on at the start of the declaration, with the parameters alone, `me` among them, and with its own name and
  -- purse.
  abbrev pub calls : ProcDecl → Given → Change
  calls d g =
      let fresh : Process = begins d g p.pid p.offers 0 p.payer in
      alone (record p { code = d.first; values = fresh.values; lists = fresh.lists; channels = fresh.channels })

  -- ---- lists that carry potential

  -- a list with one more element, for which the process pays; one that would be too heavy is a fault
  abbrev pub adds : VarId → VarId → CodeId → Value → Option Deed
  adds v w next x = do
    l ← bound_to w.0 p.lists
    if is_light (lengthened x l) then
        option_map changes (where_it_has l.amount p (Some (alone
        (standing_at next (with_list v (lengthened x l) (list_used_up w p)))))) else
        Some (has_fault fault.ListLength)

  -- the list is used up: the first code where it is empty, and otherwise the second, with its head and its rest
  abbrev pub takes_apart : VarId → CodeId → VarId → VarId → CodeId → PotentialList → List Value → Change
  takes_apart w empty_next head tail full_next l [] = alone (standing_at empty_next (list_used_up w p))
  takes_apart w empty_next head tail full_next l (x ∷ xs) =
      alone (standing_at full_next
      (with_value head x (with_list tail (record l { items = xs }) (list_used_up w p))))

  -- ---- the table

  abbrev pub does : Option Change → Option Deed
  does change = option_map changes change

  -- What an instruction comes to whose terms have these values.
  abbrev pub deed_at : List Value → CodeNode → Option Deed
  deed_at vs (code.Label _ c l next) =
      does (sends c (payload.Label l) 0 p (head_on a.program s.types p c >>= after_label l) next)
  deed_at vs (code.Case _ c arms) =
      does (receives c (λ brought q. label_in brought >>= arm_for arms >>= λ next. Some (standing_at next q)))
  deed_at vs (code.Send _ c y next) = does (bound_to y.0 p.channels >>= λ name.
      sends c (payload.Channel name) 0 (hands_over y p) (head_on a.program s.types p c >>= after_channel) next)
  deed_at vs (code.Recv _ c y next) =
      does (receives c (λ brought q. channel_in brought >>= λ name. Some (standing_at next (with_channel y name q))))
  deed_at vs (code.Put _ c e next) = does (one_of vs >>= λ x.
      sends c (payload.Value x) 0 p (head_on a.program s.types p c >>= after_value) next)
  deed_at vs (code.Take _ c v next) =
      does (receives c (λ brought q. value_in brought >>= λ x. Some (standing_at next (with_value v x q))))
  deed_at vs (code.Pay _ c r next) =
      let gas : ℕ = dths a.annotations r in
      does (where_it_has gas p
      (sends c payload.Pay gas (poorer gas p) (head_on a.program s.types p c >>= after_potential) next))
  deed_at vs (code.Get _ c r next) =
      does (receives c (λ brought q. potential_in brought >>= λ _. Some (standing_at next q)))
  deed_at vs (code.Work _ r next) =
      let gas : ℕ = dths a.annotations r in
      does (where_it_has gas p (Some (record (alone (standing_at next (poorer gas p))) { burnt = gas })))
  deed_at vs (code.Wait _ v next) = does (hears_end v next)
  deed_at vs (code.Accept _ next) = None
  deed_at vs (code.Detach _ next) = None
  deed_at vs (code.Acquire _ r v next) = does (acquires r v next)
  deed_at vs (code.Release _ v r next) = does (releases v r next)
  deed_at vs (code.Spawn _ v f args next) = do
    d ← slice_get a.program.procs f.0
    g ← given p vs args d
    does (where_it_has (dths a.annotations d.amount) p (Some (spawns v d args g next)))
  deed_at vs (code.Let _ v e next) = does (one_of vs >>= λ x. Some (alone (standing_at next (with_value v x p))))
  deed_at vs (code.Emit _ e next) =
      does (one_of vs >>= λ x. Some (record (alone (standing_at next p)) { emitted = (p.pid, x) ∷ [] }))
  deed_at vs (code.If _ e then_next else_next) =
      does (one_of vs >>= λ x. Some (alone (standing_at (if truth_in x then then_next else else_next) p)))
  deed_at vs (code.Close _) = Some (changes (closes p.mode))
  deed_at vs (code.Fwd _ v) = does (bound_to v.0 p.channels >>= λ name. Some (forwards name))
  deed_at vs (code.Call _ f args) = do
    d ← slice_get a.program.procs f.0
    g ← given p vs args d
    does (where_it_has (dths a.annotations d.amount) p (Some (calls d g)))
  deed_at vs (code.Empty _ v r kind next) =
      Some (changes (alone (standing_at next (with_list v (empty_list (dths a.annotations r)) p))))
  deed_at vs (code.Add _ v e w next) = one_of vs >>= adds v w next
  deed_at vs (code.Match _ w empty_next head tail full_next) = does (bound_to w.0 p.lists >>= λ l.
      Some (takes_apart w empty_next head tail full_next l l.items))
