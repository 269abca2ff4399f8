-- Objects, and what they do with names.
use Rattle.std.specs.Prelude.{ℕ, ◌==◌, ◌*◌, ◌-◌, List, [], ◌∷◌, ◌++◌, map, find, length, Option, Some, None, if◌then◌else◌, sum_by}
use Rattle.std.specs.Option.{option_to_list}
use Rattle.nomos_ir.specs.Order.{count_of}
use Rattle.nomos_ir.specs.declared.mode.Mode.{Mode}
use Rattle.nomos_ir.specs.declared.mode.Mode.TheVariants as mode
use Rattle.nomos_machine.specs.declared.object.Message.{Message}
use Rattle.nomos_machine.specs.declared.object.Object.{Object}
use Rattle.nomos_machine.specs.declared.object.Object.TheVariants as object
use Rattle.nomos_machine.specs.declared.object.Payload.{Payload}
use Rattle.nomos_machine.specs.declared.object.Payload.TheVariants as payload
use Rattle.nomos_machine.specs.declared.object.Process.{Process}

-- the number of an object
abbrev pub object_number : Object → ℕ
object_number (object.Process p) = p.pid
object_number (object.Message m) = m.number

-- what it carries, in Dths
abbrev pub purse_of : Object → ℕ
purse_of (object.Process p) = p.purse
purse_of (object.Message m) = m.purse

-- the potential of a process's lists: of each its amount, for each of its elements
abbrev pub potential_of : Process → ℕ
potential_of p = sum_by (λ e. e.1.amount * length e.1.items) p.lists

-- what is left of its purse beside that; it is said only of processes whose purse covers their lists
abbrev pub free_purse : Process → ℕ
free_purse p = p.purse - potential_of p

-- the process, where the object is one
abbrev pub process_of : Object → Option Process
process_of (object.Process p) = Some p
process_of (object.Message m) = None

-- the message, where the object is one
abbrev pub message_of : Object → Option Message
message_of (object.Process p) = None
message_of (object.Message m) = Some m

-- The name that an object provides. A process provides what it offers; a message to the client provides the name on
-- which it is read, one to the provider the name under which the talk goes on.
abbrev pub provided : Object → List ℕ
provided (object.Process p) = p.offers ∷ []
provided (object.Message m) = if m.to_client then m.from ∷ [] else option_to_list m.next

-- the other end of its talk, which a message uses
abbrev pub talk_end : Message → List ℕ
talk_end m = if m.to_client then option_to_list m.next else m.from ∷ []

-- the channel that a message brings
abbrev pub carried : Payload → List ℕ
carried (payload.Channel name) = name ∷ []
carried _ = []

-- The names that an object uses, each as often as it does: a process its channels, references among them; a message the
-- other end of its talk and the channel that it brings.
abbrev pub used : Object → List ℕ
used (object.Process p) = map (λ e. e.1) p.channels
used (object.Message m) = talk_end m ++ carried m.payload

-- the name that it has as base
abbrev pub based : Object → List ℕ
based (object.Process p) = option_to_list p.base
based (object.Message m) = []

-- The shared name for which a process of this mode stands: what it offers at mode S, and at mode L, while it is
-- acquired, its base.
abbrev pub shared_of : Mode → ℕ → Option ℕ → List ℕ
shared_of mode.S offers base = offers ∷ []
shared_of mode.L offers base = option_to_list base
shared_of _ offers base = []

-- the shared name for which an object stands; a message stands for none
abbrev pub shared_names : Object → List ℕ
shared_names (object.Process p) = shared_of p.mode p.offers p.base
shared_names (object.Message m) = []

-- all names that it provides, uses or has as base
abbrev pub mentioned : Object → List ℕ
mentioned o = provided o ++ used o ++ based o

-- How often the objects do this with the name: the one way in which names are counted.
abbrev pub times : (Object → List ℕ) → List Object → ℕ → ℕ
times does objects name = sum_by (λ o. count_of name (does o)) objects

-- the object of a number
abbrev pub object_at : List Object → ℕ → Option Object
object_at objects n = find (λ o. object_number o == n) objects
