-- Talks of an outside party: it opens one, says something, pays, and hears what is said to it; and what it may not say,
-- and does not hear.
use Rattle.std.proofs.Common.{◌≡◌, ℕ, true, false, [], ◌∷◌, Some, None, pos, refl, ap, arith}
use Rattle.nomos_ir.specs.TermKind.{int_kind, bool_kind}
use Rattle.nomos_ir.specs.Unfold.{constructor}
use Rattle.nomos_ir.specs.Value.{int, truth}
use Rattle.nomos_ir.specs.declared.amount.Amount.TheVariants.{Written}
use Rattle.nomos_ir.specs.declared.declaration.ProcDecl.{ProcDecl}
use Rattle.nomos_ir.specs.declared.ids.TypeId.{TypeId}
use Rattle.nomos_ir.specs.declared.kind.Kind.{Kind}
use Rattle.nomos_ir.specs.declared.mode.Mode.TheVariants as mode
use Rattle.nomos_ir.specs.declared.type_node.Branch.{Branch}
use Rattle.nomos_ir.specs.declared.type_node.TypeNode.{TypeNode}
use Rattle.nomos_ir.specs.declared.type_node.TypeNode.TheVariants as node
use Rattle.nomos_machine.specs.Change.{changed}
use Rattle.nomos_machine.specs.Hearing.{Hears, IsHearable, heard_message}
use Rattle.nomos_machine.specs.Opening.{CanOpen, IsOpener, OpensTalk, opens_talk}
use Rattle.nomos_machine.specs.OutsideTalk.{TalksTo}
use Rattle.nomos_machine.specs.OutsideTalk as then
use Rattle.nomos_machine.specs.RowPrograms.{type_id, label_id, every_row, forwarding, hearer, speaker, listener}
use Rattle.nomos_machine.specs.RowStates.{stands_at, for_client, for_provider, closing, small_state, small_state_after, one_name}
use Rattle.nomos_machine.specs.Run.{run}
use Rattle.nomos_machine.specs.Saying.{Awaits, CanSay, MaySay, MayNotSay, Says, label, value, pay}
use Rattle.nomos_machine.specs.Starting.{opened}
use Rattle.nomos_machine.specs.State.{State, empty}
use Rattle.nomos_machine.specs.Step.{step}
use Rattle.nomos_machine.specs.declared.object.Heard.TheVariants as heard
use Rattle.nomos_machine.specs.declared.object.Object.{Object}
use Rattle.nomos_machine.specs.declared.object.Object.TheVariants as object
use Rattle.nomos_machine.specs.declared.object.Payload.TheVariants as payload
use Rattle.nomos_machine.specs.declared.object.Said.{Said}
use Rattle.nomos_machine.specs.declared.object.Said.TheVariants as said
use Rattle.nomos_machine.proofs.AwaitLaws.{may_say-awaits}
use Rattle.nomos_machine.proofs.OutsideTalkLaws.{run-talks}
use Rattle.nomos_machine.proofs.RunExamples.{run_state}

-- the process of the talk at an instruction, with what it offers
abbrev other_side : ℕ → ℕ → Object
other_side n offers = object.Process (record (stands_at n) { offers = offers; payer = 0 })

-- ---- a talk is opened

abbrev listening : State
listening = record (run_state 2 2 ((1, type_id 10) ∷ []) (other_side 12 1 ∷ [])) { outside = 1 ∷ [] }

listener_opens : IsOpener forwarding 3 listener
listener_opens = record { declared = refl; at_r = refl; no_values = refl; no_channels = refl }

can_open : CanOpen forwarding (opened empty 10) 3 0
can_open = record {
  declaration = listener;
  opener = listener_opens;
  nobody = refl;
  its_account = omega arith;
  has = omega arith;
}

opens : OpensTalk forwarding (opened empty 10) 3 0 listening
unfolding can_open
opens = record { can = can_open; after = refl }

-- none with a transaction, and none where somebody is outside
transaction_opens_none : (d : ProcDecl) → ¬ (IsOpener forwarding 2 d)
transaction_opens_none d opener =
    let declared : Some hearer ≡ Some d = opener.declared in
    let at_r = opener.at_r in
    let is : hearer.mode ≡ mode.R = cc in
    absurd cc

one_talk_at_once : ¬ (CanOpen forwarding listening 3 0)
one_talk_at_once can =
    let nobody = can.nobody in
    absurd cc

-- ---- labels are said

abbrev first_said : Said
first_said = said.Label (label_id 1)

abbrev last_said : Said
last_said = said.Label (label_id 0)

abbrev first_awaited : TypeNode
first_awaited =
    let b : Branch = record { label = label_id 1; goes = type_id 9 } in
    node.With (b ∷ [])

may_say_first : MaySay forwarding listening first_said 0 (type_id 9)
may_say_first = record {
  name = 1;
  outside = refl;
  on = record {
    own = type_id 10;
    found = refl;
    head = first_awaited;
    unfolds = constructor 10 first_awaited refl tt;
    awaits = label _ (label_id 1) (type_id 9) refl;
  };
}

-- the talk goes on under the next name, which is the outside one now
abbrev told_first : State
told_first =
    record (run_state
    3
    3
    ((1, type_id 10) ∷ (2, type_id 9) ∷ [])
    (other_side 12 1 ∷ object.Message (for_provider 2 1 2 (payload.Label (label_id 1))) ∷ [])) {
      outside = 2 ∷ [];
    }

says_first : Says forwarding listening 0 first_said told_first
unfolding may_say_first
says_first = record {
  gas = 0;
  goes = type_id 9;
  may = may_say_first;
  has = (omega arith, omega arith);
  after = refl;
}

-- the other label is not awaited yet, and nobody says anything where nobody is outside
last_too_early : MayNotSay forwarding listening last_said
last_too_early gas (goes, may) =
    none (may_say-awaits first_awaited may refl refl (constructor 10 first_awaited refl tt))
  where
    none : {gas : ℕ} {goes : TypeId} → ¬ (Awaits forwarding first_awaited last_said gas goes)
    none (label _ _ t is) = absurd cc

nobody_says : MayNotSay forwarding (opened empty 10) first_said
nobody_says gas (goes, may) =
    let is = may.outside in
    absurd cc

-- it need not wait until that is read
abbrev told_last : State
told_last =
    record (run_state
    4
    4
    ((1, type_id 10) ∷ (2, type_id 9) ∷ (3, type_id 8) ∷ [])
    (other_side 12 1
    ∷ object.Message (for_provider 2 1 2 (payload.Label (label_id 1)))
    ∷ object.Message (for_provider 3 2 3 (payload.Label (label_id 0)))
    ∷ [])) {
      outside = 3 ∷ [];
    }

says_last : Says forwarding told_first 0 last_said told_last
says_last = record {
  gas = 0;
  goes = type_id 8;
  may = record {
    name = 2;
    outside = refl;
    on = record {
      own = type_id 9;
      found = refl;
      head = node.With _;
      unfolds = constructor 9 (node.With _) refl tt;
      awaits = label _ (label_id 0) (type_id 8) refl;
    };
  };
  has = (omega arith, omega arith);
  after = refl;
}

-- ---- the end is heard

-- the process reads both and ends
abbrev ended : State
ended = record (run_state 5 4 ((3, type_id 8) ∷ []) (object.Message (closing 4 3) ∷ [])) { outside = 3 ∷ [] }

listener_ends : run forwarding told_last (1 ∷ 1 ∷ 1 ∷ []) ≡ Some ended
listener_ends = refl

-- what it said itself is not heard, nor is an end on another name
nothing_yet : heard_message told_last ≡ None
nothing_yet = refl

elsewhere : heard_message (record ended { outside = 2 ∷ [] }) ≡ None
elsewhere = refl

hears_end : Hears ended 0 heard.Closed (run_state 5 4 [] [])
hears_end = record { message = closing 4 3; there = refl; is = refl; after = refl }

-- the talk in one, from its opening to its end
whole_talk : TalksTo forwarding 0 true listening (run_state 5 4 [] [])
whole_talk =
    then.says
    true
    listening
    told_first
    (run_state 5 4 [] [])
    first_said
    says_first
    (then.says
    true
    told_first
    told_last
    (run_state 5 4 [] [])
    last_said
    says_last
    (run-talks 0 true told_last ended (run_state 5 4 [] []) (1 ∷ 1 ∷ 1 ∷ []) listener_ends
    (then.hears false ended (run_state 5 4 [] []) (run_state 5 4 [] []) heard.Closed hears_end (then.done _))))

-- ---- a process that speaks

abbrev spoken : State
spoken =
    record (run_state
    3
    3
    ((1, type_id 1) ∷ (2, type_id 0) ∷ [])
    (other_side 0 2 ∷ object.Message (for_client 2 1 2 (payload.Label (label_id 0))) ∷ [])) {
      outside = 1 ∷ [];
    }

speaks : step forwarding (changed (opened empty 10) (opens_talk forwarding (opened empty 10) speaker [] [] 0)) 1
    ≡ Some spoken
speaks = refl

hears_last : Hears
    spoken
    0
    (heard.Label (label_id 0))
    (record (run_state 3 3 ((2, type_id 0) ∷ []) (other_side 0 2 ∷ [])) { outside = 2 ∷ [] })
hears_last = record {
  message = for_client 2 1 2 (payload.Label (label_id 0));
  there = refl;
  is = refl;
  after = refl;
}

-- a channel that is sent to it is not heard
abbrev channel_for_it : State
channel_for_it =
    record (small_state
    ((1, type_id 7) ∷ (4, type_id 9) ∷ (5, type_id 8) ∷ [])
    (object.Message (for_client 3 1 4 (payload.Channel 5)) ∷ [])) {
      outside = 1 ∷ [];
    }

channel_unheard : ¬ (IsHearable channel_for_it)
channel_unheard hearable =
    let some = hearable (for_client 3 1 4 (payload.Channel 5)) refl in
    absurd cc

-- ---- a value is said

abbrev awaits_value : State
awaits_value = record (small_state (one_name 15) (object.Process (stands_at 10) ∷ [])) { outside = 1 ∷ [] }

abbrev value_awaited : TypeNode
value_awaited = node.ValueIn int_kind (type_id 16)

says_nine : Says every_row awaits_value 0 (said.Value (int (pos 9)))
    (record (small_state_after
    ((1, type_id 15) ∷ (20, type_id 16) ∷ [])
    (object.Process (stands_at 10) ∷ object.Message (for_provider 10 1 20 (payload.Value (int (pos 9)))) ∷ [])) {
      outside = 20 ∷ [];
    })
says_nine = record {
  gas = 0;
  goes = type_id 16;
  may = record {
    name = 1;
    outside = refl;
    on = record {
      own = type_id 15;
      found = refl;
      head = value_awaited;
      unfolds = constructor 15 value_awaited refl tt;
      awaits = value int_kind (type_id 16) (int (pos 9)) refl;
    };
  };
  has = (omega arith, omega arith);
  after = refl;
}

-- one of another kind is not
truth_not_said : MayNotSay every_row awaits_value (said.Value (truth true))
truth_not_said gas (goes, may) =
    none (may_say-awaits value_awaited may refl refl (constructor 15 value_awaited refl tt))
  where
    none : {gas : ℕ} {goes : TypeId} → ¬ (Awaits every_row value_awaited (said.Value (truth true)) gas goes)
    none (value _ _ _ has) =
        let same : int_kind ≡ bool_kind = has in
        let bases = ap (λ (k : Kind). k.base) same in
        absurd cc

-- ---- gas that is paid to a process, and gas that one pays

abbrev awaits_gas : State
awaits_gas = record (small_state (one_name 19) (object.Process (stands_at 12) ∷ [])) { outside = 1 ∷ [] }

abbrev pay_awaited : TypeNode
pay_awaited = node.PotIn (Written 3) (type_id 20)

may_pay : MaySay every_row awaits_gas said.Pay 3 (type_id 20)
may_pay = record {
  name = 1;
  outside = refl;
  on = record {
    own = type_id 19;
    found = refl;
    head = pay_awaited;
    unfolds = constructor 19 pay_awaited refl tt;
    awaits = pay (Written 3) (type_id 20);
  };
}

pays : Says every_row awaits_gas 1 said.Pay
    (record (small_state_after
    ((1, type_id 19) ∷ (20, type_id 20) ∷ [])
    (object.Process (stands_at 12) ∷ object.Message (record (for_provider 10 1 20 payload.Pay) { purse = 3 }) ∷ [])) {
      balances = 50 ∷ 57 ∷ [];
      outside = 20 ∷ [];
    })
unfolding may_pay
pays = record { gas = 3; goes = type_id 20; may = may_pay; has = (omega arith, omega arith); after = refl }

-- an account that has less does not pay, nor does one that is none
cannot_pay : ¬ (CanSay every_row (record awaits_gas { balances = 50 ∷ 2 ∷ [] }) 1 said.Pay)
cannot_pay can =
    let three = wants (may_say-awaits pay_awaited can.may.1 refl refl (constructor 19 pay_awaited refl tt)) in
    omega (arith, can.has, three)
  where
    wants : {gas : ℕ} {goes : TypeId} → Awaits every_row pay_awaited said.Pay gas goes → gas ≡ 3
    wants (pay _ _) = refl

no_account_pays : ¬ (CanSay every_row awaits_gas 2 said.Pay)
no_account_pays can = omega (arith, can.has)

abbrev gas_on_its_way : State
gas_on_its_way =
    record (small_state
    ((1, type_id 17) ∷ (4, type_id 18) ∷ [])
    (object.Process (record (stands_at 0) { offers = 4 })
    ∷ object.Message (record (for_client 3 1 4 payload.Pay) { purse = 3 })
    ∷ [])) {
      outside = 1 ∷ [];
    }

is_paid : Hears
    gas_on_its_way
    0
    (heard.Paid 3)
    (record (small_state ((4, type_id 18) ∷ []) (object.Process (record (stands_at 0) { offers = 4 }) ∷ [])) {
      balances = 53 ∷ 60 ∷ [];
      outside = 4 ∷ [];
    })
is_paid = record {
  message = record (for_client 3 1 4 payload.Pay) { purse = 3 };
  there = refl;
  is = refl;
  after = refl;
}
