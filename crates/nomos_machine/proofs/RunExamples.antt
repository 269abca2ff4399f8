-- Runs, state by state: forwards while messages wait on both of their channels, and a list that is paid through.
use Rattle.std.proofs.Common.{◌≡◌, ℕ, zero, suc, List, [], ◌∷◌, map, replicate, Option, Some, None, option_map, pos, refl}
use Rattle.nomos_ir.specs.Evaluation.{evaluation, term_evaluation}
use Rattle.nomos_ir.specs.Value.{Value, int}
use Rattle.nomos_ir.specs.declared.ids.VarId.{VarId}
use Rattle.nomos_ir.specs.declared.mode.Mode.TheVariants as mode
use Rattle.nomos_machine.specs.Objects.{free_purse}
use Rattle.nomos_machine.specs.Optional.{◌>>=◌}
use Rattle.nomos_machine.specs.RowPrograms.{type_id, var_id, label_id, forwarding, hearer, teller, payments, pays_three}
use Rattle.nomos_machine.specs.RowStates.{stands_at, for_client, for_provider, closing}
use Rattle.nomos_machine.specs.Run.{run}
use Rattle.nomos_machine.specs.Starting.{opened, started}
use Rattle.nomos_machine.specs.State.{State, NameTypes, empty, process_at}
use Rattle.nomos_machine.specs.Step.{step}
use Rattle.nomos_machine.specs.declared.object.Object.{Object}
use Rattle.nomos_machine.specs.declared.object.Object.TheVariants as object
use Rattle.nomos_machine.specs.declared.object.Payload.TheVariants as payload
use Rattle.nomos_machine.specs.declared.object.PotentialList.{PotentialList}

-- ---- the states

-- the transaction, with the process number 1, at an instruction, with these channels
abbrev talking : ℕ → List (VarId × ℕ) → Object
talking n channels = object.Process (record (stands_at n) {
  mode = mode.T;
  values = (var_id 9, int (pos 0)) ∷ [];
  channels = channels;
  payer = 0;
})

-- the first process that it spawns, with what that offers
abbrev first_spawned : ℕ → ℕ → Object
first_spawned n offers = object.Process (record (stands_at n) { pid = 2; offers = offers; payer = 0 })

-- the second one, which has a channel besides
abbrev second_spawned : ℕ → ℕ → ℕ → Object
second_spawned n offers channel =
    object.Process (record (stands_at n) { pid = 3; offers = offers; channels = (var_id 0, channel) ∷ []; payer = 0 })

-- a state of one account, by the next numbers of objects and names, the types of names, and the objects
abbrev pub run_state : ℕ → ℕ → NameTypes → List Object → State
run_state next_object next_name types objects = record {
  objects = objects;
  next_object = next_object;
  next_name = next_name;
  types = types;
  balances = 10 ∷ [];
  spent = 0;
  results = [];
  outside = [];
}

-- ---- what two processes say to a client comes in their order, though the first one has gone and neither was heard

hears_0 : started forwarding (opened empty 10) hearer [] [] 0
    ≡ run_state 2 2 ((1, type_id 7) ∷ []) (talking 9 [] ∷ [])
hears_0 = refl

abbrev hears_1 : State
hears_1 =
    run_state
    3
    3
    ((1, type_id 7) ∷ (2, type_id 1) ∷ [])
    (talking 8 ((var_id 1, 2) ∷ []) ∷ first_spawned 1 2 ∷ [])

speaker_spawned : step forwarding (started forwarding (opened empty 10) hearer [] [] 0) 1 ≡ Some hears_1
speaker_spawned = refl

-- here the first process waits, and the two others are ready
abbrev pub hears_2 : State
hears_2 =
    run_state
    4
    4
    ((1, type_id 7) ∷ (2, type_id 1) ∷ (3, type_id 6) ∷ [])
    (talking 7 ((var_id 2, 3) ∷ []) ∷ first_spawned 1 2 ∷ second_spawned 3 3 2 ∷ [])

front_spawned : step forwarding hears_1 1 ≡ Some hears_2
front_spawned = refl

abbrev pub hears_3 : State
hears_3 =
    run_state
    5
    5
    ((1, type_id 7) ∷ (2, type_id 1) ∷ (3, type_id 6) ∷ (4, type_id 0) ∷ [])
    (talking 7 ((var_id 2, 3) ∷ [])
    ∷ first_spawned 0 4
    ∷ second_spawned 3 3 2
    ∷ object.Message (for_client 4 2 4 (payload.Label (label_id 0)))
    ∷ [])

pub last_said : step forwarding hears_2 2 ≡ Some hears_3
last_said = refl

-- both messages wait: that on name 2 for the forward, and that on name 3 for the client
abbrev pub hears_4 : State
hears_4 =
    run_state
    6
    6
    ((1, type_id 7) ∷ (2, type_id 1) ∷ (3, type_id 6) ∷ (4, type_id 0) ∷ (5, type_id 5) ∷ [])
    (talking 7 ((var_id 2, 3) ∷ [])
    ∷ first_spawned 0 4
    ∷ second_spawned 2 5 2
    ∷ object.Message (for_client 4 2 4 (payload.Label (label_id 0)))
    ∷ object.Message (for_client 5 3 5 (payload.Label (label_id 1)))
    ∷ [])

pub first_said : step forwarding hears_3 3 ≡ Some hears_4
first_said = refl

-- the message on name 3 goes on under name 2
abbrev hears_5 : State
hears_5 =
    run_state
    6
    6
    ((1, type_id 7) ∷ (2, type_id 1) ∷ (3, type_id 6) ∷ (4, type_id 0) ∷ [])
    (talking 7 ((var_id 2, 3) ∷ [])
    ∷ first_spawned 0 4
    ∷ object.Message (for_client 4 2 4 (payload.Label (label_id 0)))
    ∷ object.Message (for_client 5 3 2 (payload.Label (label_id 1)))
    ∷ [])

forwarded_to_client : step forwarding hears_4 3 ≡ Some hears_5
forwarded_to_client = refl

abbrev hears_6 : State
hears_6 =
    run_state
    6
    6
    ((1, type_id 7) ∷ (2, type_id 1) ∷ (4, type_id 0) ∷ [])
    (talking 6 ((var_id 2, 2) ∷ [])
    ∷ first_spawned 0 4
    ∷ object.Message (for_client 4 2 4 (payload.Label (label_id 0)))
    ∷ [])

first_heard : step forwarding hears_5 1 ≡ Some hears_6
first_heard = refl

abbrev hears_7 : State
hears_7 =
    run_state
    6
    6
    ((1, type_id 7) ∷ (4, type_id 0) ∷ [])
    (talking 5 ((var_id 2, 4) ∷ []) ∷ first_spawned 0 4 ∷ [])

last_heard : step forwarding hears_6 1 ≡ Some hears_7
last_heard = refl

-- ---- what a client says to one process, and that one to another, comes in their order too

abbrev tells_0 : State
tells_0 = run_state 2 2 ((1, type_id 16) ∷ []) (talking 19 [] ∷ [])

tells_starts : started forwarding (opened empty 10) teller [] [] 0 ≡ tells_0
tells_starts = refl

abbrev tells_2 : State
tells_2 =
    run_state
    4
    4
    ((1, type_id 16) ∷ (2, type_id 10) ∷ (3, type_id 15) ∷ [])
    (talking 17 ((var_id 2, 3) ∷ []) ∷ first_spawned 12 2 ∷ second_spawned 14 3 2 ∷ [])

listener_and_back_spawned : run forwarding tells_0 (1 ∷ 1 ∷ []) ≡ Some tells_2
listener_and_back_spawned = refl

abbrev tells_3 : State
tells_3 =
    run_state
    5
    5
    ((1, type_id 16) ∷ (2, type_id 10) ∷ (3, type_id 15) ∷ (4, type_id 9) ∷ [])
    (talking 17 ((var_id 2, 3) ∷ [])
    ∷ first_spawned 12 2
    ∷ second_spawned 13 3 4
    ∷ object.Message (for_provider 4 2 4 (payload.Label (label_id 1)))
    ∷ [])

first_told : step forwarding tells_2 3 ≡ Some tells_3
first_told = refl

-- both messages wait: that on name 2 for the first process, and that on name 3 for the forward
abbrev tells_4 : State
tells_4 =
    run_state
    6
    6
    ((1, type_id 16) ∷ (2, type_id 10) ∷ (3, type_id 15) ∷ (4, type_id 9) ∷ (5, type_id 14) ∷ [])
    (talking 16 ((var_id 2, 5) ∷ [])
    ∷ first_spawned 12 2
    ∷ second_spawned 13 3 4
    ∷ object.Message (for_provider 4 2 4 (payload.Label (label_id 1)))
    ∷ object.Message (for_provider 5 3 5 (payload.Label (label_id 0)))
    ∷ [])

last_told : step forwarding tells_3 1 ≡ Some tells_4
last_told = refl

-- what was to be read on name 3 is now read on name 4
abbrev tells_5 : State
tells_5 =
    run_state
    6
    6
    ((1, type_id 16) ∷ (2, type_id 10) ∷ (4, type_id 9) ∷ (5, type_id 14) ∷ [])
    (talking 16 ((var_id 2, 5) ∷ [])
    ∷ first_spawned 12 2
    ∷ object.Message (for_provider 4 2 4 (payload.Label (label_id 1)))
    ∷ object.Message (for_provider 5 4 5 (payload.Label (label_id 0)))
    ∷ [])

forwarded_to_provider : step forwarding tells_4 3 ≡ Some tells_5
forwarded_to_provider = refl

abbrev tells_6 : State
tells_6 =
    run_state
    6
    6
    ((1, type_id 16) ∷ (4, type_id 9) ∷ (5, type_id 14) ∷ [])
    (talking 16 ((var_id 2, 5) ∷ [])
    ∷ first_spawned 11 4
    ∷ object.Message (for_provider 5 4 5 (payload.Label (label_id 0)))
    ∷ [])

first_read : step forwarding tells_5 2 ≡ Some tells_6
first_read = refl

abbrev tells_7 : State
tells_7 =
    run_state
    6
    6
    ((1, type_id 16) ∷ (5, type_id 14) ∷ [])
    (talking 16 ((var_id 2, 5) ∷ []) ∷ first_spawned 10 5 ∷ [])

last_read : step forwarding tells_6 2 ≡ Some tells_7
last_read = refl

-- ---- the ends of both

abbrev tells_8 : State
tells_8 =
    run_state
    7
    6
    ((1, type_id 16) ∷ (5, type_id 14) ∷ [])
    (talking 16 ((var_id 2, 5) ∷ []) ∷ object.Message (closing 6 5) ∷ [])

listener_closed : step forwarding tells_7 2 ≡ Some tells_8
listener_closed = refl

close_read : step forwarding tells_8 1 ≡ Some (run_state 7 6 ((1, type_id 16) ∷ []) (talking 15 [] ∷ []))
close_read = refl

tells_ends : run forwarding tells_0 (1 ∷ 1 ∷ 3 ∷ 1 ∷ 3 ∷ 2 ∷ 2 ∷ 2 ∷ 1 ∷ 1 ∷ []) ≡ Some (run_state 7 6 [] [])
tells_ends = refl

-- other orders of firings lead to the same ends
tells_ends_so : run forwarding tells_0 (1 ∷ 1 ∷ 1 ∷ 3 ∷ 2 ∷ 3 ∷ 2 ∷ 2 ∷ 1 ∷ 1 ∷ []) ≡ Some (run_state 7 6 [] [])
tells_ends_so = refl

hears_ends : run forwarding hears_1 (1 ∷ 2 ∷ 2 ∷ 3 ∷ 1 ∷ 3 ∷ 1 ∷ 1 ∷ 1 ∷ []) ≡ Some (run_state 7 6 [] [])
hears_ends = refl

hears_ends_so : run forwarding hears_7 (2 ∷ 1 ∷ 1 ∷ []) ≡ Some (run_state 7 6 [] [])
hears_ends_so = refl

-- ---- a list of three elements, each of which pays for its turn

-- the process at an instruction, with these values, these lists and so many Dths
abbrev paying : ℕ → List (VarId × Value) → List (VarId × PotentialList) → ℕ → Object
paying n values lists gas =
    object.Process (record (stands_at n) { mode = mode.T; values = values; lists = lists; purse = gas; payer = 0 })

abbrev payers_number : List (VarId × Value)
payers_number = (var_id 9, int (pos 0)) ∷ []

abbrev two_each : List ℕ → PotentialList
two_each numbers = record { amount = 2; items = map (λ n. int (pos n)) numbers }

-- of the 10 of the account the process has 6
abbrev with_six : List Object → State
with_six objects = record (run_state 2 2 ((1, type_id 1) ∷ []) objects) { balances = 4 ∷ [] }

abbrev three_0 : State
three_0 = with_six (paying 9 payers_number [] 6 ∷ [])

three_starts : started payments (opened empty 10) pays_three [] [] 0 ≡ three_0
three_starts = refl

abbrev times : ℕ → List ℕ
times n = replicate n 1

three_added : run payments three_0 (times 4)
    ≡ Some (with_six (paying 5 payers_number ((var_id 6, two_each (9 ∷ 7 ∷ 5 ∷ [])) ∷ []) 6 ∷ []))
unfolding term_evaluation evaluation
three_added = refl

handed_on : run payments three_0 (times 5)
    ≡ Some (with_six (paying 4 payers_number ((var_id 0, two_each (9 ∷ 7 ∷ 5 ∷ [])) ∷ []) 6 ∷ []))
unfolding term_evaluation evaluation
handed_on = refl

one_taken : run payments three_0 (times 6)
    ≡ Some (with_six (paying
    3
    ((var_id 1, int (pos 9)) ∷ payers_number)
    ((var_id 2, two_each (7 ∷ 5 ∷ [])) ∷ [])
    6
    ∷ []))
unfolding term_evaluation evaluation
one_taken = refl

-- after three turns there is an empty list
three_taken : run payments three_0 (times 17)
    ≡ Some (record (with_six (paying 4 payers_number ((var_id 0, two_each []) ∷ []) 0 ∷ [])) {
      spent = 6;
      results = (1, int (pos 9)) ∷ (1, int (pos 7)) ∷ (1, int (pos 5)) ∷ [];
    })
unfolding term_evaluation evaluation
three_taken = refl

three_ends : run payments three_0 (times 19)
    ≡ Some (record (with_six []) {
      types = [];
      spent = 6;
      results = (1, int (pos 9)) ∷ (1, int (pos 7)) ∷ (1, int (pos 5)) ∷ [];
    })
unfolding term_evaluation evaluation
three_ends = refl

-- what the process has beside its lists, at first and after each of so many firings of it
abbrev free_purses : ℕ → Option State → List (Option ℕ)
free_purses zero found = (found >>= λ s. option_map free_purse (process_at s 1)) ∷ []
free_purses (suc firings) found =
    (found >>= λ s. option_map free_purse (process_at s 1)) ∷ free_purses firings (found >>= λ s. step payments s 1)

-- An element takes 2 of what is free when it is added, and gives them back when it is taken.
free_at_each_step : free_purses 19 (Some three_0)
    ≡ Some 6 ∷ Some 6 ∷ Some 4 ∷ Some 2 ∷ Some 0 ∷ Some 0
    ∷ Some 2 ∷ Some 0 ∷ Some 0 ∷ Some 0
    ∷ Some 2 ∷ Some 0 ∷ Some 0 ∷ Some 0
    ∷ Some 2 ∷ Some 0 ∷ Some 0 ∷ Some 0
    ∷ Some 0 ∷ None ∷ []
unfolding term_evaluation evaluation
free_at_each_step = refl
