-- What is found among objects is what is found among what they keep.
use Rattle.std.proofs.Common.{◌≡◌, ◌==◌, ◌||◌, ℕ, Bool, true, false, cond, List, [], ◌∷◌, map, filter, find, Option, Some, None, option_and_then, refl, sym, ap, ◌∙◌}
use Rattle.std.specs.List.{list_any}
use Rattle.std.specs.Option.{option_map}
use Rattle.nomos_deeds.specs.Acts.{message_at}
use Rattle.nomos_machine.specs.Change.{is_mentioned}
use Rattle.nomos_machine.specs.Objects.{object_number, object_at, process_of, message_of, mentioned, used}
use Rattle.nomos_machine.specs.Sight.{is_read_on, message_on, is_offered, offering, user_of}
use Rattle.nomos_machine.specs.State.{NameTypes}
use Rattle.nomos_machine.specs.declared.object.Message.{Message}
use Rattle.nomos_machine.specs.declared.object.Object.{Object}
use Rattle.nomos_machine.specs.declared.object.Process.{Process}
use Rattle.nomos_plain.specs.Parts.{any_mentions, object_in}
use Rattle.nomos_plain.specs.declared.plain_object.PlainObject.{PlainObject}

pub find_mapped : {X Y : Type 0} (f : X → Y) (p : Y → Bool) (xs : List X)
    → option_map f (find (λ x. p (f x)) xs) ≡ find p (map f xs)
find_mapped f p [] = refl
find_mapped {X = X} {Y = Y} f p (x ∷ xs) = at (p (f x)) (find_mapped f p xs)
  where
    at : (b : Bool) → option_map f (find (λ (x : X). p (f x)) xs) ≡ find p (map f xs)
        → option_map f (cond b (Some x) (find (λ (x : X). p (f x)) xs)) ≡ cond b (Some (f x)) (find p (map f xs))
    at true others = refl
    at false others = others

pub any_mapped : {X Y : Type 0} (f : X → Y) (p : Y → Bool) (xs : List X)
    → list_any (λ x. p (f x)) xs ≡ list_any p (map f xs)
any_mapped f p [] = refl
any_mapped f p (x ∷ xs) = ap (λ b. p (f x) || b) (any_mapped f p xs)

-- ---- what is kept of an object

abbrev pub process_kept : PlainObject → Option Process
process_kept o = process_of (object_in o)

abbrev pub message_kept : PlainObject → Option Message
message_kept o = message_of (object_in o)

abbrev pub number_kept : PlainObject → ℕ
number_kept o = object_number (object_in o)

kept-mapped : (o : Option PlainObject) → option_and_then process_of (option_map object_in o) ≡ option_and_then
    process_kept o
kept-mapped (Some o) = refl
kept-mapped None = refl

message-mapped : (o : Option PlainObject) → option_and_then message_of (option_map object_in o) ≡ option_and_then
    message_kept o
message-mapped (Some o) = refl
message-mapped None = refl

number-mapped : (o : Option PlainObject) → option_map object_number (option_map object_in o) ≡ option_map number_kept o
number-mapped (Some o) = refl
number-mapped None = refl

-- ---- the same of what is found by number, by what is read and by what is offered

pub process_found : (objects : List PlainObject) (number : ℕ)
    → option_and_then process_of (object_at (map object_in objects) number)
    ≡ option_and_then process_kept (find (λ o. object_number (object_in o) == number) objects)
process_found objects number =
    ap (option_and_then process_of) (sym (find_mapped object_in (λ (o : Object). object_number o == number) objects))
    ∙ kept-mapped (find (λ (o : PlainObject). object_number (object_in o) == number) objects)

pub message_numbered : (objects : List PlainObject) (number : ℕ)
    → message_at (map object_in objects) number
    ≡ option_and_then message_kept (find (λ o. object_number (object_in o) == number) objects)
message_numbered objects number =
    ap (option_and_then message_of) (sym (find_mapped object_in (λ (o : Object). object_number o == number) objects))
    ∙ message-mapped (find (λ (o : PlainObject). object_number (object_in o) == number) objects)

pub offering_found : (objects : List PlainObject) (name : ℕ)
    → offering (map object_in objects) name
    ≡ option_and_then process_kept (find (λ o. is_offered name (object_in o)) objects)
offering_found objects name =
    ap (option_and_then process_of) (sym (find_mapped object_in (λ (o : Object). is_offered name o) objects))
    ∙ kept-mapped (find (λ (o : PlainObject). is_offered name (object_in o)) objects)

pub message_found : (objects : List PlainObject) (to_client : Bool) (name : ℕ)
    → message_on (map object_in objects) to_client name
    ≡ option_and_then message_kept (find (λ o. is_read_on to_client name (object_in o)) objects)
message_found objects to_client name =
    ap (option_and_then message_of) (sym (find_mapped object_in (λ (o : Object). is_read_on to_client name o) objects))
    ∙ message-mapped (find (λ (o : PlainObject). is_read_on to_client name (object_in o)) objects)

pub user_found : (objects : List PlainObject) (name : ℕ)
    → option_map object_number (user_of (map object_in objects) name)
    ≡ option_map number_kept (find (λ o. list_any (λ k. k == name) (used (object_in o))) objects)
user_found objects name =
    ap (option_map object_number)
    (sym (find_mapped object_in (λ (o : Object). list_any (λ k. k == name) (used o)) objects))
    ∙ number-mapped (find (λ (o : PlainObject). list_any (λ k. k == name) (used (object_in o))) objects)

-- ---- whether a name is mentioned

mentioned-kept : (objects : List PlainObject) (name : ℕ)
    → any_mentions objects name ≡ is_mentioned (map object_in objects) name
mentioned-kept objects name =
    any_mapped object_in (λ (o : Object). list_any (λ n. n == name) (mentioned o)) objects

pub mentioned_names : (objects : List PlainObject) (types : NameTypes)
    → filter (λ t. any_mentions objects t.0) types ≡ filter (λ t. is_mentioned (map object_in objects) t.0) types
mentioned_names objects [] = refl
mentioned_names objects (t ∷ types) =
    ap (λ b. cond b (t ∷ filter (λ t. any_mentions objects t.0) types) (filter (λ t. any_mentions objects t.0) types))
    (mentioned-kept objects t.0)
    ∙ ap (λ ts. cond (is_mentioned (map object_in objects) t.0) (t ∷ ts) ts) (mentioned_names objects types)
