-- A message that a process finds is what its judgement asks for: there is no wrong message.
use Rattle.std.proofs.Common.{cond, ◌≡◌, ◌∙◌, ◌==◌, ◌&&◌, ℕ, Bool, true, false, List, [], ◌∷◌, length, find, Contains, Option, Some, None, refl, sym, subst, ap, arith, eqb-true}
use Rattle.std.specs.Prelude.{option_and_then}
use Rattle.std.proofs.lemmas.List.Elements.{Contains-append_left, Contains-append_right}
use Rattle.nomos_ir.specs.Paired.{Paired, both, neither}
use Rattle.nomos_ir.specs.Unfold.{Unfolds}
use Rattle.nomos_ir.specs.declared.ids.TypeId.{TypeId}
use Rattle.nomos_ir.specs.declared.type_node.TypeNode.{TypeNode}
use Rattle.nomos_ir.specs.declared.lists.ProgramLists.{ProgramLists}
use Rattle.nomos_ir.specs.declared.mode.Mode.{Mode}
use Rattle.nomos_types.specs.Acceptance.{Acceptance, IsAccepted}
use Rattle.nomos_types.specs.Alike.{AlikeTypes}
use Rattle.nomos_types.specs.Amount.{Annotations}
use Rattle.nomos_types.specs.Modes.{HasMode}
use Rattle.nomos_types.specs.Typed.{IsWellFormed}
use Rattle.nomos_machine.specs.Matching.{NameHasType}
use Rattle.nomos_machine.specs.Objects.{message_of}
use Rattle.nomos_machine.specs.Sight.{same_way, is_read_on, message_on}
use Rattle.nomos_machine.specs.State.{State, NameTypes, type_of}
use Rattle.nomos_machine.specs.TypedMessage.{Brings, GoesOnAt, MessageTyped}
use Rattle.nomos_machine.specs.TypedState.{ObjectTyped, IsTyped}
use Rattle.nomos_machine.specs.declared.object.Message.{Message}
use Rattle.nomos_machine.specs.declared.object.Object.{Object}
use Rattle.nomos_machine.specs.declared.object.Object.TheVariants as object
use Rattle.std.proofs.lemmas.List.Elements.{All-contains}
use Rattle.nomos_machine.proofs.TalkLaws.{of_type-through, goes-alike}

-- ---- what is found

-- it is there, goes this way, and is read on this name
pub record IsReadOn (objects : List Object) (way : Bool) (name : ℕ) (m : Message) : Type 0 where
  pub waiting : Contains objects (object.Message m)
  pub goes_way : m.to_client ≡ way
  pub read : m.from ≡ name

read-told : (way goes : Bool) (from name : ℕ) → (same_way way goes && from == name) ≡ true
    → (goes ≡ way) × (from ≡ name)
read-told true true from name is = (refl, eqb-true from name is)
read-told true false from name is = absurd cc
read-told false true from name is = absurd cc
read-told false false from name is = (refl, eqb-true from name is)

first-read : (way : Bool) (name : ℕ) (m : Message) (e : Object) (objects : List Object) (t : Bool)
    → is_read_on way name e ≡ t
    → option_and_then message_of (cond t (Some e) (find (is_read_on way name) objects)) ≡ Some m
    → (message_on objects way name ≡ Some m → IsReadOn objects way name m) → IsReadOn (e ∷ objects) way name m
first-read way name m (object.Process p) objects true is found rest = absurd cc
first-read way name m (object.Message n) objects true is found rest =
    let same : n ≡ m = cc in
    let (goes, on) = read-told way n.to_client n.from name is in
    record {
      waiting = Contains-append_left (object.Message n ∷ []) objects (object.Message m)
          (0, omega arith, ap (λ (o : Message). object.Message o) same);
      goes_way = ap (λ (o : Message). o.to_client) (sym same) ∙ goes;
      read = ap (λ (o : Message). o.from) (sym same) ∙ on;
    }
first-read way name m e objects false is found rest =
    let further = rest found in
    record {
      waiting = Contains-append_right (e ∷ []) objects (object.Message m) further.waiting;
      goes_way = further.goes_way;
      read = further.read;
    }

pub message_on-found : (way : Bool) (name : ℕ) (m : Message) (objects : List Object)
    → message_on objects way name ≡ Some m → IsReadOn objects way name m
message_on-found way name m [] found = absurd cc
message_on-found way name m (e ∷ objects) found =
    first-read way name m e objects (is_read_on way name e) refl found (message_on-found way name m objects)

-- ---- what it brings

-- the next name has each type that is alike to its own
goes_on-through : {lists : ProgramLists} (x : Annotations) (types : NameTypes) {goes u : Option TypeId}
    → IsWellFormed lists → (next : Option ℕ) → GoesOnAt lists x types next goes → Paired (AlikeTypes lists x) goes u
    → GoesOnAt lists x types next u
goes_on-through x types formed (Some name) is (both alike) = of_type-through formed is alike
goes_on-through x types formed (Some name) is neither = absurd is
goes_on-through x types formed None is (both alike) = absurd is
goes_on-through x types formed None is neither = tt

pub next-there : (lists : ProgramLists) (x : Annotations) (types : NameTypes) (next : Option ℕ) (t : TypeId)
    → GoesOnAt lists x types next (Some t) → (name : ℕ) × (next ≡ Some name) × NameHasType lists x types name t
next-there lists x types (Some name) t is = (name, refl, is)
next-there lists x types None t is = absurd is

pub next-none : (lists : ProgramLists) (x : Annotations) (types : NameTypes) (next : Option ℕ)
    → GoesOnAt lists x types next None → next ≡ None
next-none lists x types (Some name) is = absurd is
next-none lists x types None is = refl

-- The message brings what the node asks for to which the type unfolds that the name has for the process, and goes on as
-- that does.
pub record BringsTo (a : Acceptance) (s : State) (m : Message) (held : TypeId) (n : TypeNode) : Type 0 where
  pub own : TypeId
  pub found : type_of s.types m.from ≡ Some own
  pub mode : Mode
  pub has_mode : HasMode a.program own mode
  pub held_mode : HasMode a.program held mode
  pub goes : Option TypeId
  pub brings : Brings a.program a.annotations s.types m.to_client n m.payload m.purse goes
  pub next : GoesOnAt a.program a.annotations s.types m.next goes

pub message-brings : {a : Acceptance} → IsAccepted a → {s : State} → IsTyped a s
    → (m : Message) (held : TypeId) (n : TypeNode)
    → Contains s.objects (object.Message m) → NameHasType a.program a.annotations s.types m.from held
    → Unfolds a.program held.0 n → BringsTo a s m held n
message-brings {a} accepted {s} typed m held n waiting is unfolds =
    let formed = accepted.typed.formed in
    let message : MessageTyped a s.types m =
    All-contains (ObjectTyped a s.types (length s.balances)) s.objects (object.Message m) typed.each waiting
    in
    let found = message.found in
    let is_found = is.found in
    let same : is.own ≡ message.own = cc in
    let alike = subst (λ (t : TypeId). AlikeTypes a.program a.annotations t held) same is.alike in
    let (goes, brings, paired) = goes-alike formed alike message.unfolds unfolds message.brings in
    record {
      own = message.own;
      found = found;
      mode = alike.mode;
      has_mode = alike.left_mode;
      held_mode = alike.right_mode;
      goes = goes;
      brings = brings;
      next = goes_on-through a.annotations s.types formed m.next message.next paired;
    }
