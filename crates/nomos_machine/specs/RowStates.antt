-- Examples, which nobody need believe: small states by which each instruction is tried, a process alone, or with a
-- message or another process.
use Rattle.std.specs.Prelude.{ℕ, List, [], ◌∷◌, Some, None, pos, true, false}
use Rattle.nomos_ir.specs.Value.{int}
use Rattle.nomos_ir.specs.declared.mode.Mode.TheVariants as mode
use Rattle.nomos_machine.specs.RowPrograms.{type_id, var_id, code_id}
use Rattle.nomos_machine.specs.State.{State, NameTypes}
use Rattle.nomos_machine.specs.declared.object.Message.{Message}
use Rattle.nomos_machine.specs.declared.object.Object.{Object}
use Rattle.nomos_machine.specs.declared.object.Object.TheVariants as object
use Rattle.nomos_machine.specs.declared.object.Payload.{Payload}
use Rattle.nomos_machine.specs.declared.object.Payload.TheVariants as payload
use Rattle.nomos_machine.specs.declared.object.PotentialList.{PotentialList}
use Rattle.nomos_machine.specs.declared.object.Process.{Process}

-- a process with the number 1 at an instruction, which offers name 1 and has nothing; the second account is its payer
abbrev pub stands_at : ℕ → Process
stands_at n = record {
  pid = 1;
  mode = mode.R;
  code = code_id n;
  values = [];
  lists = [];
  channels = [];
  offers = 1;
  base = None;
  purse = 0;
  payer = 1;
}

-- with so many Dths
abbrev pub having : ℕ → Process → Process
having gas p = record p { purse = gas }

-- with name 2 as its channel, and with name 3 as a second one
abbrev pub using_one : Process → Process
using_one p = record p { channels = (var_id 1, 2) ∷ [] }

abbrev pub using_two : Process → Process
using_two p = record p { channels = (var_id 1, 2) ∷ (var_id 2, 3) ∷ [] }

-- with a number
abbrev pub given_number : ℕ → Process → Process
given_number n p = record p { values = (var_id 0, int (pos n)) ∷ [] }

-- the list of 5, and one with a number in front of that; each element carries 2
abbrev pub five : PotentialList
five = record { amount = 2; items = int (pos 5) ∷ [] }

abbrev pub before_five : ℕ → PotentialList
before_five n = record { amount = 2; items = int (pos n) ∷ int (pos 5) ∷ [] }

-- with a list as this variable
abbrev pub given_list : ℕ → PotentialList → Process → Process
given_list v l p = record p { lists = (var_id v, l) ∷ [] }

-- a message with this number, which is read on one name, goes on under the next, and brings something
abbrev pub for_client : ℕ → ℕ → ℕ → Payload → Message
for_client number from next brought =
    record { number = number; to_client = true; from = from; next = Some next; payload = brought; purse = 0 }

abbrev pub for_provider : ℕ → ℕ → ℕ → Payload → Message
for_provider number from next brought = record (for_client number from next brought) { to_client = false }

abbrev pub closing : ℕ → ℕ → Message
closing number from = record (for_client number from 0 payload.Close) { next = None }

-- a state of two accounts, in which the next object has the number 10, and the next name the number 20
abbrev pub small_state : NameTypes → List Object → State
small_state types objects = record {
  objects = objects;
  next_object = 10;
  next_name = 20;
  types = types;
  balances = 50 ∷ 60 ∷ [];
  spent = 0;
  results = [];
  outside = [];
}

-- one in which one more object and one more name were numbered
abbrev pub small_state_after : NameTypes → List Object → State
small_state_after types objects = record (small_state types objects) { next_object = 11; next_name = 21 }

-- name 1 with its type; with name 2 besides
abbrev pub one_name : ℕ → NameTypes
one_name t = (1, type_id t) ∷ []

abbrev pub two_names : ℕ → ℕ → NameTypes
two_names t u = (1, type_id t) ∷ (2, type_id u) ∷ []

-- the process alone, with the type of its name
abbrev pub by_itself : ℕ → Process → State
by_itself t p = small_state (one_name t) (object.Process p ∷ [])
