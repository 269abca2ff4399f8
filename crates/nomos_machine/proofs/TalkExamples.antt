-- Each instruction that sends, receives or waits, on a small state in which it fires, and on one in which it does not.
use Rattle.std.proofs.Common.{◌≡◌, [], ◌∷◌, Some, None, pos, refl}
use Rattle.nomos_ir.specs.Value.{int}
use Rattle.nomos_ir.specs.Evaluation.{evaluation, term_evaluation}
use Rattle.nomos_ir.specs.declared.fault.Fault.TheVariants as fault
use Rattle.nomos_machine.specs.RowPrograms.{type_id, var_id, label_id, every_row}
use Rattle.nomos_machine.specs.RowStates.{stands_at, having, using_one, using_two, given_number, five, given_list, for_client, for_provider, closing, small_state, small_state_after, two_names, by_itself}
use Rattle.nomos_machine.specs.Step.{step, fault as fault_at}
use Rattle.nomos_machine.specs.declared.object.Object.TheVariants as object
use Rattle.nomos_machine.specs.declared.object.Payload.TheVariants as payload

-- ---- sends

label_to_client : step every_row (by_itself 1 (stands_at 2)) 1
    ≡ Some (small_state_after
    ((1, type_id 1) ∷ (20, type_id 3) ∷ [])
    (object.Process (record (stands_at 0) { offers = 20 })
    ∷ object.Message (for_client 10 1 20 (payload.Label (label_id 1)))
    ∷ []))
label_to_client = refl

label_to_provider : step every_row (small_state (two_names 0 4) (object.Process (using_one (stands_at 3)) ∷ [])) 1
    ≡ Some (small_state_after
    ((1, type_id 0) ∷ (2, type_id 4) ∷ (20, type_id 6) ∷ [])
    (object.Process (record (stands_at 0) { channels = (var_id 1, 20) ∷ [] })
    ∷ object.Message (for_provider 10 2 20 (payload.Label (label_id 1)))
    ∷ []))
label_to_provider = refl

-- a channel that is sent leaves the process, and a reference stays
channel_sent : step every_row
    (small_state
    ((1, type_id 7) ∷ (2, type_id 0) ∷ (3, type_id 8) ∷ [])
    (object.Process (using_two (stands_at 6)) ∷ []))
    1
    ≡ Some (small_state_after
    ((1, type_id 7) ∷ (2, type_id 0) ∷ (3, type_id 8) ∷ (20, type_id 9) ∷ [])
    (object.Process (record (using_one (stands_at 0)) { offers = 20 })
    ∷ object.Message (for_client 10 1 20 (payload.Channel 3))
    ∷ []))
channel_sent = refl

reference_sent : step every_row
    (small_state
    ((1, type_id 0) ∷ (2, type_id 10) ∷ (3, type_id 24) ∷ [])
    (object.Process (using_two (stands_at 7)) ∷ []))
    1
    ≡ Some (small_state_after
    ((1, type_id 0) ∷ (2, type_id 10) ∷ (3, type_id 24) ∷ (20, type_id 12) ∷ [])
    (object.Process (record (stands_at 0) { channels = (var_id 1, 20) ∷ (var_id 2, 3) ∷ [] })
    ∷ object.Message (for_provider 10 2 20 (payload.Channel 3))
    ∷ []))
reference_sent = refl

value_put : step every_row (by_itself 13 (given_number 7 (stands_at 9))) 1
    ≡ Some (small_state_after
    ((1, type_id 13) ∷ (20, type_id 14) ∷ [])
    (object.Process (record (given_number 7 (stands_at 0)) { offers = 20 })
    ∷ object.Message (for_client 10 1 20 (payload.Value (int (pos 1))))
    ∷ []))
unfolding term_evaluation evaluation
value_put = refl

no_value_put : step every_row (by_itself 13 (given_number 0 (stands_at 9))) 1 ≡ None
unfolding term_evaluation evaluation
no_value_put = refl

fault_at_put : fault_at every_row (by_itself 13 (given_number 0 (stands_at 9))) 1 ≡ Some fault.DivideByZero
unfolding term_evaluation evaluation
fault_at_put = refl

-- what is paid goes with the message; the potential of lists is not there for it
paid : step every_row (by_itself 17 (given_list 4 five (having 5 (stands_at 11)))) 1
    ≡ Some (small_state_after
    ((1, type_id 17) ∷ (20, type_id 18) ∷ [])
    (object.Process (record (given_list 4 five (having 2 (stands_at 0))) { offers = 20 })
    ∷ object.Message (record (for_client 10 1 20 payload.Pay) { purse = 3 })
    ∷ []))
paid = refl

not_paid : step every_row (by_itself 17 (given_list 4 five (having 4 (stands_at 11)))) 1 ≡ None
not_paid = refl

-- ---- receives

-- the message on another name is not taken, and what a message carries goes into the purse
case_taken : step every_row
    (small_state
    ((1, type_id 0) ∷ (2, type_id 1) ∷ (4, type_id 2) ∷ (5, type_id 1) ∷ (6, type_id 2) ∷ [])
    (object.Process (having 1 (using_one (stands_at 4)))
    ∷ object.Message (for_client 3 5 6 (payload.Label (label_id 0)))
    ∷ object.Message (record (for_client 7 2 4 (payload.Label (label_id 1))) { purse = 2 })
    ∷ []))
    1
    ≡ Some (small_state
    ((1, type_id 0) ∷ (4, type_id 2) ∷ (5, type_id 1) ∷ (6, type_id 2) ∷ [])
    (object.Process (having 3 (record (stands_at 1) { channels = (var_id 1, 4) ∷ [] }))
    ∷ object.Message (for_client 3 5 6 (payload.Label (label_id 0)))
    ∷ []))
case_taken = refl

case_of_client_taken : step every_row
    (small_state
    ((1, type_id 4) ∷ (4, type_id 5) ∷ [])
    (object.Process (stands_at 5) ∷ object.Message (for_provider 3 1 4 (payload.Label (label_id 0))) ∷ []))
    1
    ≡ Some (small_state ((4, type_id 5) ∷ []) (object.Process (record (stands_at 0) { offers = 4 }) ∷ []))
case_of_client_taken = refl

-- nothing is there; what is there goes the other way, or is read on another name
no_label : step every_row (small_state (two_names 0 1) (object.Process (using_one (stands_at 4)) ∷ [])) 1 ≡ None
no_label = refl

own_label_waits : step every_row
    (small_state
    ((1, type_id 1) ∷ (4, type_id 2) ∷ [])
    (object.Process (stands_at 5) ∷ object.Message (for_client 3 1 4 (payload.Label (label_id 0))) ∷ []))
    1
    ≡ None
own_label_waits = refl

label_elsewhere : step every_row
    (small_state
    ((1, type_id 0) ∷ (2, type_id 1) ∷ (5, type_id 1) ∷ (6, type_id 2) ∷ [])
    (object.Process (using_one (stands_at 4)) ∷ object.Message (for_client 3 5 6 (payload.Label (label_id 0))) ∷ []))
    1
    ≡ None
label_elsewhere = refl

channel_received : step every_row
    (small_state
    ((1, type_id 0) ∷ (2, type_id 7) ∷ (4, type_id 9) ∷ (5, type_id 8) ∷ [])
    (object.Process (using_one (stands_at 8)) ∷ object.Message (for_client 3 2 4 (payload.Channel 5)) ∷ []))
    1
    ≡ Some (small_state
    ((1, type_id 0) ∷ (4, type_id 9) ∷ (5, type_id 8) ∷ [])
    (object.Process (record (stands_at 0) { channels = (var_id 1, 4) ∷ (var_id 3, 5) ∷ [] }) ∷ []))
channel_received = refl

no_channel : step every_row (small_state (two_names 0 7) (object.Process (using_one (stands_at 8)) ∷ [])) 1 ≡ None
no_channel = refl

value_taken : step every_row
    (small_state
    ((1, type_id 15) ∷ (4, type_id 16) ∷ [])
    (object.Process (given_number 7 (stands_at 10))
    ∷ object.Message (for_provider 3 1 4 (payload.Value (int (pos 9))))
    ∷ []))
    1
    ≡ Some (small_state
    ((4, type_id 16) ∷ [])
    (object.Process (record (stands_at 0) {
      offers = 4;
      values = (var_id 0, int (pos 7)) ∷ (var_id 6, int (pos 9)) ∷ [];
    })
    ∷ []))
value_taken = refl

no_value : step every_row (by_itself 15 (given_number 7 (stands_at 10))) 1 ≡ None
no_value = refl

potential_got : step every_row
    (small_state
    ((1, type_id 0) ∷ (2, type_id 17) ∷ (4, type_id 18) ∷ [])
    (object.Process (using_one (having 1 (stands_at 12)))
    ∷ object.Message (record (for_client 3 2 4 payload.Pay) { purse = 3 })
    ∷ []))
    1
    ≡ Some (small_state
    ((1, type_id 0) ∷ (4, type_id 18) ∷ [])
    (object.Process (record (having 4 (stands_at 0)) { channels = (var_id 1, 4) ∷ [] }) ∷ []))
potential_got = refl

no_potential : step every_row (small_state (two_names 0 17) (object.Process (using_one (stands_at 12)) ∷ [])) 1 ≡ None
no_potential = refl

close_heard : step every_row
    (small_state (two_names 0 0) (object.Process (using_one (stands_at 14)) ∷ object.Message (closing 3 2) ∷ []))
    1
    ≡ Some (by_itself 0 (stands_at 0))
close_heard = refl

no_close : step every_row (small_state (two_names 0 0) (object.Process (using_one (stands_at 14)) ∷ [])) 1 ≡ None
no_close = refl

-- What is there does not fit: there is no branch for a label, a value is no label, a label no end, an end no channel.
label_unknown : step every_row
    (small_state
    ((1, type_id 0) ∷ (2, type_id 1) ∷ (4, type_id 2) ∷ [])
    (object.Process (using_one (stands_at 4)) ∷ object.Message (for_client 3 2 4 (payload.Label (label_id 2))) ∷ []))
    1
    ≡ None
label_unknown = refl

value_for_label : step every_row
    (small_state
    ((1, type_id 0) ∷ (2, type_id 13) ∷ (4, type_id 14) ∷ [])
    (object.Process (using_one (stands_at 4)) ∷ object.Message (for_client 3 2 4 (payload.Value (int (pos 0)))) ∷ []))
    1
    ≡ None
value_for_label = refl

label_for_close : step every_row
    (small_state
    ((1, type_id 0) ∷ (2, type_id 1) ∷ (4, type_id 2) ∷ [])
    (object.Process (using_one (stands_at 14)) ∷ object.Message (for_client 3 2 4 (payload.Label (label_id 0))) ∷ []))
    1
    ≡ None
label_for_close = refl

close_for_channel : step every_row
    (small_state (two_names 0 0) (object.Process (using_one (stands_at 8)) ∷ object.Message (closing 3 2) ∷ []))
    1
    ≡ None
close_for_channel = refl
