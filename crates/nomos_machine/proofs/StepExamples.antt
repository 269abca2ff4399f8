-- All other instructions, each on a small state in which it fires, and on one in which it does not.
use Rattle.std.proofs.Common.{◌≡◌, ℕ, [], ◌∷◌, replicate, Some, None, pos, refl}
use Rattle.nomos_ir.specs.Value.{int}
use Rattle.nomos_ir.specs.Evaluation.{evaluation, term_evaluation}
use Rattle.nomos_ir.specs.declared.fault.Fault.TheVariants as fault
use Rattle.nomos_ir.specs.declared.mode.Mode.TheVariants as mode
use Rattle.nomos_machine.specs.RowPrograms.{type_id, var_id, every_row}
use Rattle.nomos_machine.specs.RowStates.{stands_at, having, using_one, given_number, five, before_five, given_list, for_client, closing, small_state, small_state_after, one_name, two_names, by_itself}
use Rattle.nomos_machine.specs.State.{State}
use Rattle.nomos_machine.specs.Step.{step, fault as fault_at}
use Rattle.nomos_machine.specs.declared.object.Object.TheVariants as object
use Rattle.nomos_machine.specs.declared.object.Payload.TheVariants as payload
use Rattle.nomos_machine.specs.declared.object.PotentialList.{PotentialList}
use Rattle.nomos_machine.specs.declared.object.Process.{Process}

-- ---- work, and the ends of processes

-- it is the free purse that pays
worked : step every_row (by_itself 0 (given_list 4 five (having 5 (stands_at 13)))) 1
    ≡ Some (record (by_itself 0 (given_list 4 five (having 2 (stands_at 0)))) { spent = 3 })
worked = refl

not_worked : step every_row (by_itself 0 (given_list 4 five (having 4 (stands_at 13)))) 1 ≡ None
not_worked = refl

-- at mode R the client is told, and at mode T there is none; both leave their purses, lists and all, to their payers
closed : step every_row (by_itself 0 (given_list 4 five (having 5 (stands_at 0)))) 1
    ≡ Some (record (small_state (one_name 0) (object.Message (closing 10 1) ∷ [])) {
      next_object = 11;
      balances = 50 ∷ 65 ∷ [];
    })
closed = refl

closed_transaction : step every_row (by_itself 0 (having 5 (record (stands_at 0) { mode = mode.T }))) 1
    ≡ Some (record (small_state [] []) { balances = 50 ∷ 65 ∷ [] })
closed_transaction = refl

-- the client uses the name that the process had; an outside party does too
forwarded : step every_row
    (small_state
    (two_names 0 0)
    (object.Process (having 5 (using_one (stands_at 1)))
    ∷ object.Process (record (stands_at 14) { pid = 4; offers = 3; channels = (var_id 1, 1) ∷ [] })
    ∷ []))
    1
    ≡ Some (record (small_state
    ((2, type_id 0) ∷ [])
    (object.Process (record (stands_at 14) { pid = 4; offers = 3; channels = (var_id 1, 2) ∷ [] }) ∷ [])) {
      balances = 50 ∷ 65 ∷ [];
    })
forwarded = refl

forwarded_outside : step every_row
    (record (small_state
    (two_names 0 0)
    (object.Process (using_one (stands_at 1)) ∷ object.Message (closing 3 2) ∷ [])) {
      outside = 7 ∷ 1 ∷ [];
    })
    1
    ≡ Some (record (small_state ((2, type_id 0) ∷ []) (object.Message (closing 3 2) ∷ [])) { outside = 7 ∷ 2 ∷ [] })
forwarded_outside = refl

-- who uses the name may be a message that brings it, or the process itself
forwarded_in_message : step every_row
    (small_state
    ((1, type_id 0) ∷ (2, type_id 0) ∷ (5, type_id 7) ∷ (6, type_id 9) ∷ [])
    (object.Process (using_one (stands_at 1)) ∷ object.Message (for_client 3 5 6 (payload.Channel 1)) ∷ []))
    1
    ≡ Some (small_state
    ((2, type_id 0) ∷ (5, type_id 7) ∷ (6, type_id 9) ∷ [])
    (object.Message (for_client 3 5 6 (payload.Channel 2)) ∷ []))
forwarded_in_message = refl

forwarded_to_itself : step every_row
    (by_itself 0 (having 5 (record (stands_at 1) { channels = (var_id 1, 1) ∷ [] })))
    1
    ≡ Some (record (small_state [] []) { balances = 50 ∷ 65 ∷ [] })
forwarded_to_itself = refl

-- ---- shared channels

-- a contract at an instruction: it stands for name 2, and while it is acquired it offers name 3
abbrev contract : ℕ → Process
contract n = record (stands_at n) { pid = 4; mode = mode.S; offers = 2; payer = 0 }

abbrev acquired_contract : ℕ → Process
acquired_contract n = record (contract n) { mode = mode.L; offers = 3; base = Some 2 }

-- `accept` and `detach` fire nothing by themselves
accept_alone : step every_row (small_state ((2, type_id 23) ∷ []) (object.Process (contract 15) ∷ [])) 4 ≡ None
accept_alone = refl

detach_alone : step every_row
    (small_state ((2, type_id 23) ∷ (3, type_id 22) ∷ []) (object.Process (acquired_contract 16) ∷ []))
    4
    ≡ None
detach_alone = refl

no_fault_alone : fault_at every_row (small_state ((2, type_id 23) ∷ []) (object.Process (contract 15) ∷ [])) 4 ≡ None
no_fault_alone = refl

acquired : step every_row
    (small_state (two_names 0 23) (object.Process (using_one (stands_at 17)) ∷ object.Process (contract 15) ∷ []))
    1
    ≡ Some (record (small_state
    ((1, type_id 0) ∷ (2, type_id 23) ∷ (20, type_id 22) ∷ [])
    (object.Process (record (stands_at 0) { channels = (var_id 1, 2) ∷ (var_id 3, 20) ∷ [] })
    ∷ object.Process (record (acquired_contract 0) { offers = 20 })
    ∷ [])) { next_name = 21 })
acquired = refl

-- the contract is not at `accept`; it is acquired by another
not_at_accept : step every_row
    (small_state (two_names 0 23) (object.Process (using_one (stands_at 17)) ∷ object.Process (contract 13) ∷ []))
    1
    ≡ None
not_at_accept = refl

acquired_already : step every_row
    (small_state
    ((1, type_id 0) ∷ (2, type_id 23) ∷ (3, type_id 22) ∷ [])
    (object.Process (using_one (stands_at 17)) ∷ object.Process (acquired_contract 15) ∷ []))
    1
    ≡ None
acquired_already = refl

abbrev at_release : Process
at_release = record (stands_at 18) { channels = (var_id 1, 3) ∷ [] }

released : step every_row
    (small_state
    ((1, type_id 0) ∷ (2, type_id 23) ∷ (3, type_id 22) ∷ [])
    (object.Process at_release ∷ object.Process (acquired_contract 16) ∷ []))
    1
    ≡ Some (small_state
    (two_names 0 23)
    (object.Process (record (stands_at 0) { channels = (var_id 3, 2) ∷ [] }) ∷ object.Process (contract 0) ∷ []))
released = refl

not_at_detach : step every_row
    (small_state
    ((1, type_id 0) ∷ (2, type_id 23) ∷ (3, type_id 22) ∷ [])
    (object.Process at_release ∷ object.Process (acquired_contract 13) ∷ []))
    1
    ≡ None
not_at_detach = refl

-- ---- other processes

-- a caller with a number, a list and a channel for the helper
abbrev with_all : ℕ → ℕ → ℕ → State
with_all n gas number =
    let p : Process = given_number number (given_list 4 five (using_one (stands_at n))) in
    small_state (two_names 0 0) (object.Process (having gas p) ∷ [])

-- the helper has the number, the list and the channel, and the potential of both; the caller keeps the number alone
abbrev helping : Process
helping = record (stands_at 0) {
  values = (var_id 0, int (pos 1)) ∷ [];
  lists = (var_id 1, five) ∷ [];
  channels = (var_id 2, 2) ∷ [];
}

spawned : step every_row (with_all 19 4 7) 1
    ≡ Some (small_state_after
    ((1, type_id 0) ∷ (2, type_id 0) ∷ (20, type_id 0) ∷ [])
    (object.Process (having 1 (given_number 7 (record (stands_at 0) { channels = (var_id 3, 20) ∷ [] })))
    ∷ object.Process (having 3 (record helping { pid = 10; offers = 20 }))
    ∷ []))
unfolding term_evaluation evaluation
spawned = refl

-- a purse of 2 has nothing beside its list; the fault of a term comes before that
not_spawned : step every_row (with_all 19 2 7) 1 ≡ None
unfolding term_evaluation evaluation
not_spawned = refl

no_fault_of_purse : fault_at every_row (with_all 19 2 7) 1 ≡ None
unfolding term_evaluation evaluation
no_fault_of_purse = refl

fault_at_spawn : fault_at every_row (with_all 19 2 0) 1 ≡ Some fault.DivideByZero
unfolding term_evaluation evaluation
fault_at_spawn = refl

-- a reference that is passed stays
spawned_with_reference : step every_row
    (small_state (two_names 0 23) (object.Process (record (using_one (stands_at 20)) { mode = mode.T }) ∷ []))
    1
    ≡ Some (small_state_after
    ((1, type_id 0) ∷ (2, type_id 23) ∷ (20, type_id 23) ∷ [])
    (object.Process (record (stands_at 0) { mode = mode.T; channels = (var_id 1, 2) ∷ (var_id 3, 20) ∷ [] })
    ∷ object.Process (record (stands_at 0) { pid = 10; mode = mode.S; offers = 20; channels = (var_id 2, 2) ∷ [] })
    ∷ []))
spawned_with_reference = refl

-- the parameters alone are there, and the whole purse; at mode T `me` is, which is the payer's number
called : step every_row (with_all 24 4 7) 1
    ≡ Some (small_state (two_names 0 0) (object.Process (having 4 helping) ∷ []))
unfolding term_evaluation evaluation
called = refl

not_called : step every_row (with_all 24 2 7) 1 ≡ None
unfolding term_evaluation evaluation
not_called = refl

fault_at_call : fault_at every_row (with_all 24 4 0) 1 ≡ Some fault.DivideByZero
unfolding term_evaluation evaluation
fault_at_call = refl

called_by_transaction : step every_row (by_itself 0 (given_number 7 (record (stands_at 25) { mode = mode.T }))) 1
    ≡ Some (by_itself 0 (record (stands_at 0) { mode = mode.T; values = (var_id 9, int (pos 1)) ∷ [] }))
called_by_transaction = refl

-- of two terms that have a fault, the first one's is the fault
abbrev with_numbers : ℕ → ℕ → State
with_numbers n m =
    by_itself 0 (record (stands_at 29) { values = (var_id 0, int (pos n)) ∷ (var_id 6, int (pos m)) ∷ [] })

first_fault : fault_at every_row (with_numbers 0 9223372036854775807) 1 ≡ Some fault.Overflow
unfolding term_evaluation evaluation
first_fault = refl

second_fault : fault_at every_row (with_numbers 0 1) 1 ≡ Some fault.DivideByZero
unfolding term_evaluation evaluation
second_fault = refl

no_fault : step every_row (with_numbers 7 1) 1
    ≡ Some (by_itself 0 (record (stands_at 0) { values = (var_id 0, int (pos 8)) ∷ (var_id 1, int (pos 1)) ∷ [] }))
unfolding term_evaluation evaluation
no_fault = refl

-- ---- values

bound : step every_row (by_itself 0 (given_number 7 (stands_at 21))) 1
    ≡ Some (by_itself 0 (record (stands_at 0) { values = (var_id 0, int (pos 7)) ∷ (var_id 6, int (pos 1)) ∷ [] }))
unfolding term_evaluation evaluation
bound = refl

not_bound : step every_row (by_itself 0 (given_number 0 (stands_at 21))) 1 ≡ None
unfolding term_evaluation evaluation
not_bound = refl

fault_at_let : fault_at every_row (by_itself 0 (given_number 0 (stands_at 21))) 1 ≡ Some fault.DivideByZero
unfolding term_evaluation evaluation
fault_at_let = refl

emitted : step every_row (record (by_itself 0 (given_number 7 (stands_at 22))) { results = (8, int (pos 3)) ∷ [] }) 1
    ≡ Some (record (by_itself 0 (given_number 7 (stands_at 0))) { results = (8, int (pos 3)) ∷ (1, int (pos 1)) ∷ [] })
unfolding term_evaluation evaluation
emitted = refl

not_emitted : step every_row (by_itself 0 (given_number 0 (stands_at 22))) 1 ≡ None
unfolding term_evaluation evaluation
not_emitted = refl

fault_at_emit : fault_at every_row (by_itself 0 (given_number 0 (stands_at 22))) 1 ≡ Some fault.DivideByZero
unfolding term_evaluation evaluation
fault_at_emit = refl

-- 7 divided by 7 is less than 7, and 7 divided by 1 is not
where_true : step every_row (by_itself 0 (given_number 7 (stands_at 23))) 1
    ≡ Some (by_itself 0 (given_number 7 (stands_at 0)))
unfolding term_evaluation evaluation
where_true = refl

where_false : step every_row (by_itself 0 (given_number 1 (stands_at 23))) 1
    ≡ Some (by_itself 0 (given_number 1 (stands_at 1)))
unfolding term_evaluation evaluation
where_false = refl

no_branch : step every_row (by_itself 0 (given_number 0 (stands_at 23))) 1 ≡ None
unfolding term_evaluation evaluation
no_branch = refl

fault_at_if : fault_at every_row (by_itself 0 (given_number 0 (stands_at 23))) 1 ≡ Some fault.DivideByZero
unfolding term_evaluation evaluation
fault_at_if = refl

-- ---- lists

empty_list : step every_row (by_itself 0 (stands_at 26)) 1
    ≡ Some (by_itself 0 (given_list 5 (record { amount = 2; items = [] }) (stands_at 0)))
empty_list = refl

-- a process that adds a number to a list, and has so many Dths
abbrev adding : ℕ → PotentialList → ℕ → State
adding n l gas = by_itself 0 (given_number n (given_list 4 l (having gas (stands_at 27))))

-- the purse stays, and more of it is the potential of the list
added : step every_row (adding 7 five 4) 1
    ≡ Some (by_itself 0 (given_number 7 (given_list 5 (before_five 1) (having 4 (stands_at 0)))))
unfolding term_evaluation evaluation
added = refl

not_added : step every_row (adding 7 five 3) 1 ≡ None
unfolding term_evaluation evaluation
not_added = refl

fault_at_add : fault_at every_row (adding 0 five 3) 1 ≡ Some fault.DivideByZero
unfolding term_evaluation evaluation
fault_at_add = refl

-- a list of so many numbers; after 10,000 there is no room for one more, which is a fault whatever is free in the purse
abbrev fives : ℕ → PotentialList
fives n = record { amount = 2; items = replicate n (int (pos 5)) }

too_heavy : fault_at every_row (adding 7 (fives 10000) 20000) 1 ≡ Some fault.ListLength
unfolding term_evaluation evaluation
too_heavy = refl

too_heavy_stays : step every_row (adding 7 (fives 10000) 20002) 1 ≡ None
unfolding term_evaluation evaluation
too_heavy_stays = refl

just_light : step every_row (adding 7 (fives 9999) 20000) 1
    ≡ Some (by_itself
    0
    (given_number
    7
    (given_list 5 (record (fives 9999) { items = int (pos 1) ∷ (fives 9999).items }) (having 20000 (stands_at 0)))))
unfolding term_evaluation evaluation
just_light = refl

matched_empty : step every_row
    (by_itself 0 (given_list 4 (record { amount = 2; items = [] }) (having 3 (stands_at 28))))
    1
    ≡ Some (by_itself 0 (having 3 (stands_at 0)))
matched_empty = refl

-- the head is a value again, and what it carried is free
matched : step every_row (by_itself 0 (given_list 4 (before_five 9) (having 4 (stands_at 28)))) 1
    ≡ Some (by_itself
    0
    (record (given_list 5 five (having 4 (stands_at 1))) { values = (var_id 6, int (pos 9)) ∷ [] }))
matched = refl

-- a process that is not there does nothing, nor does a message
nobody : step every_row
    (small_state (two_names 0 0) (object.Process (using_one (stands_at 14)) ∷ object.Message (closing 3 2) ∷ []))
    2
    ≡ None
nobody = refl

no_step_of_message : step every_row
    (small_state (two_names 0 0) (object.Process (using_one (stands_at 14)) ∷ object.Message (closing 3 2) ∷ []))
    3
    ≡ None
no_step_of_message = refl
