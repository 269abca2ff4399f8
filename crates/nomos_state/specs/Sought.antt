-- What is looked for among objects, and what is found first.
use Rattle.std.specs.Prelude.{◌≡◌, ◌==◌, ◌||◌, ◌<◌, min, ℕ, Bool, true, false, List, Option, Some, None, MatchOption, slice_get}
use Rattle.std.specs.List.{list_any}
use Rattle.std.specs.Option.{option_map}
use Rattle.nomos_ir.specs.declared.ids.TypeId.{TypeId}
use Rattle.nomos_machine.specs.Objects.{mentioned, used}
use Rattle.nomos_machine.specs.Optional.{◌>>=◌}
use Rattle.nomos_machine.specs.Sight.{is_offered, is_read_on}
use Rattle.nomos_machine.specs.declared.object.Object.{Object}
use Rattle.nomos_machine.specs.declared.object.Object.TheVariants as object
use Rattle.nomos_deeds.specs.Readers.{stands_for}
use Rattle.nomos_slots.specs.declared.numbered.Slot.{Slot}
use Rattle.nomos_state.specs.Indexed.{Holding, standing_at}
use Rattle.nomos_deeds.specs.ProcessWalks.{is_over, is_transaction}
use Rattle.nomos_state.specs.declared.sought.Sought.{Sought}
use Rattle.nomos_state.specs.declared.sought.Sought.TheVariants as sought

-- whether an option has something that passes a test
abbrev pub some_passes : {X : Type 0} → (X → Bool) → Option X → Bool
some_passes test None = false
some_passes test (Some x) = test x

-- whether it is a message that uses a name
abbrev pub is_message_using : ℕ → Object → Bool
is_message_using name (object.Process p) = false
is_message_using name (object.Message m) = list_any (λ k. k == name) (used (object.Message m))

-- whether it mentions a name, channels aside
abbrev pub mentions_plainly : ℕ → Object → Bool
mentions_plainly name (object.Process p) = p.offers == name || some_passes (λ k. k == name) p.base
mentions_plainly name (object.Message m) = list_any (λ k. k == name) (mentioned (object.Message m))

-- whether an object is what is looked for
abbrev pub is_sought : Sought → Object → Bool
is_sought (sought.Message to_client name) o = is_read_on to_client name o
is_sought (sought.Provider name) o = is_offered name o
is_sought (sought.MessageUsing name) o = is_message_using name o
is_sought (sought.Keeper name) o = stands_for name o
is_sought (sought.Mention name) o = mentions_plainly name o
is_sought (sought.TransactionOver after) o = is_over after is_transaction o

-- whether the object at a place passes a test
abbrev pub passes_at : (Object → Bool) → Holding → ℕ → Bool
passes_at test h place = some_passes test (standing_at h place)

-- no object before a place passes a test
abbrev pub StandsNotBefore : (Object → Bool) → Holding → ℕ → Type 0
StandsNotBefore test h start = (before : ℕ) → before < start → passes_at test h before ≡ false

-- the first place at which an object passes a test, and none where none passes
abbrev pub IsFirstPlace : (Object → Bool) → Holding → Option ℕ → Type 0
IsFirstPlace test h result =
    MatchOption
    result
    ((place : ℕ) → passes_at test h place ≡ false)
    (λ place. (passes_at test h place ≡ true) × ((before : ℕ) → before < place → passes_at test h before ≡ false))

-- the name at a place with its type, where it has one
abbrev pub typed_in : Slot TypeId → Option (ℕ × TypeId)
typed_in s = option_map (λ t. (s.number, t)) s.item

abbrev pub typed_at : List (Slot TypeId) → ℕ → Option (ℕ × TypeId)
typed_at names place = slice_get names place >>= typed_in

-- the first place of a name that passes a test, and none where none passes
abbrev pub IsFirstName : (ℕ × TypeId → Bool) → List (Slot TypeId) → Option ℕ → Type 0
IsFirstName test names result =
    MatchOption
    result
    ((place : ℕ) → some_passes test (typed_at names place) ≡ false)
    (λ place. (some_passes test (typed_at names place) ≡ true)
    × ((before : ℕ) → before < place → some_passes test (typed_at names before) ≡ false))

-- the lower one of two numbers that are there
abbrev pub lower_of : Option ℕ → Option ℕ → Option ℕ
lower_of (Some one) (Some other) = Some (min one other)
lower_of (Some one) None = Some one
lower_of None other = other
