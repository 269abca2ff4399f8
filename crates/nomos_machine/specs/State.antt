-- The states of the machine.
use Rattle.std.specs.Prelude.{ℕ, ◌==◌, ◌+◌, List, [], find, Option, option_and_then, sum, sum_by}
use Rattle.std.specs.Option.{option_map}
use Rattle.nomos_ir.specs.Unfold.{unfolded}
use Rattle.nomos_ir.specs.Value.{Value}
use Rattle.nomos_ir.specs.declared.ids.TypeId.{TypeId}
use Rattle.nomos_ir.specs.declared.lists.ProgramLists.{ProgramLists}
use Rattle.nomos_ir.specs.declared.type_node.TypeNode.{TypeNode}
use Rattle.nomos_machine.specs.Objects.{purse_of, process_of, object_at}
use Rattle.nomos_machine.specs.declared.object.Object.{Object}
use Rattle.nomos_machine.specs.declared.object.Process.{Process}

-- names with their types
abbrev pub NameTypes : Type 0
NameTypes = List (ℕ × TypeId)

-- A state of the machine: processes and messages, the names on which they talk, accounts, and what was spent and
-- emitted.
pub record State : Type 0 where
  -- in order of number
  pub objects : List Object
  -- the numbers that the next object and the next name will have
  pub next_object : ℕ
  pub next_name : ℕ
  -- the type of each name that an object provides, uses or has as base
  pub types : NameTypes
  -- what each account has, in Dths
  pub balances : List ℕ
  -- the gas spent, in Dths
  pub spent : ℕ
  -- what processes emitted, each with the number of its process
  pub results : List (ℕ × Value)
  -- names of which an outside party has the client's end
  pub outside : List ℕ

-- all gas, in Dths: what the accounts have, what the objects carry, and what is spent
abbrev pub gas_of : State → ℕ
gas_of s = sum s.balances + sum_by purse_of s.objects + s.spent

-- the state with nothing in it
abbrev pub empty : State
empty = record {
  objects = [];
  next_object = 1;
  next_name = 1;
  types = [];
  balances = [];
  spent = 0;
  results = [];
  outside = [];
}

-- the process of a number
abbrev pub process_at : State → ℕ → Option Process
process_at s pid = option_and_then process_of (object_at s.objects pid)

-- the type of a name
abbrev pub type_of : NameTypes → ℕ → Option TypeId
type_of types name = option_map (λ t. t.1) (find (λ t. t.0 == name) types)

-- the node to which the type of a name unfolds
abbrev pub node_of : ProgramLists → NameTypes → ℕ → Option TypeNode
node_of lists types name = option_and_then (λ t. unfolded lists t.0) (type_of types name)
