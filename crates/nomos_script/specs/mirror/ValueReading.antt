-- How values are read, token by token: a mirror of the code, on which no promise stands.
use Rattle.std.specs.Prelude.{ℕ, Bool, true, false, ◌&&◌, ◌==◌, nat_lt, nat_le, List, [], ◌∷◌, ◌++◌, length, Option, Some, None, codes, if◌then◌else◌}
use Rattle.std.specs.Str.{bytes_eq}
use Rattle.std.specs.Str.Parse.{digits_value}
use Rattle.nomos_ir.specs.Value.{Value, int, truth, list, value_list}
use Rattle.nomos_ir.specs.Weight.{list_weight, max_weight}
use Rattle.nomos_script.specs.declared.value_reader.Awaited.{Awaited}
use Rattle.nomos_script.specs.declared.value_reader.Awaited.TheVariants as awaited
use Rattle.nomos_script.specs.ScriptScan.{Token, word, number, mark}
use Rattle.nomos_script.specs.ValueTree.{signed, largest, max_nesting}

-- The values that were read to their end, the values so far of each list that is open, the innermost one first, and
-- what may come next.
pub record ReadValues : Type 0 where
  pub values : List Value
  pub open_lists : List (List Value)
  pub next : Awaited

-- nothing was read yet
abbrev pub nothing_read : ReadValues
nothing_read = record { values = []; open_lists = []; next = awaited.FirstValue }

-- a value may begin here
abbrev pub awaits_value : Awaited → Bool
awaits_value awaited.FirstValue = true
awaits_value awaited.NextValue = true
awaits_value awaited.Digits = false
awaits_value awaited.Separator = false

-- the values, or a list, may end here
abbrev pub may_end : Awaited → Bool
may_end awaited.FirstValue = true
may_end awaited.NextValue = false
may_end awaited.Digits = false
may_end awaited.Separator = true

-- this, where the test holds
abbrev pub only_if : {X : Type 0} → Bool → Option X → Option X
only_if true x = x
only_if false x = None

abbrev pub and_then : {X Y : Type 0} → Option X → (X → Option Y) → Option Y
and_then None f = None
and_then (Some x) f = f x

-- One more value, at the end of the innermost open list or behind the values. No list gets too heavy.
abbrev pub put_into : Value → List Value → List (List Value) → Option ReadValues
put_into v values [] = Some (record { values = values ++ v ∷ []; open_lists = []; next = awaited.Separator })
put_into v values (inner ∷ outer) =
    only_if
    (nat_le (list_weight (value_list (inner ++ v ∷ []))) max_weight)
    (Some (record { values = values; open_lists = (inner ++ v ∷ []) ∷ outer; next = awaited.Separator }))

abbrev pub put : Value → ReadValues → Option ReadValues
put v r = put_into v r.values r.open_lists

-- the innermost list ends, and is one more value of the one round it
abbrev pub close_list : List Value → List (List Value) → Option ReadValues
close_list values [] = None
close_list values (inner ∷ outer) = put_into (list (value_list inner)) values outer

-- a number, with `-` before it or without it
abbrev pub put_number : Bool → List ℕ → ReadValues → Option ReadValues
put_number minus digits r =
    only_if (nat_le (digits_value 10 digits) (largest minus)) (put (int (signed minus (digits_value 10 digits))) r)

abbrev pub take_digits : Awaited → List ℕ → ReadValues → Option ReadValues
take_digits awaited.FirstValue digits r = put_number false digits r
take_digits awaited.NextValue digits r = put_number false digits r
take_digits awaited.Digits digits r = put_number true digits r
take_digits awaited.Separator digits r = None

abbrev pub take_word : List ℕ → ReadValues → Option ReadValues
take_word text r =
    if bytes_eq text (codes "true") then put (truth true) r
    else (if bytes_eq text (codes "false") then put (truth false) r
    else None)

abbrev pub open_list : ReadValues → Option ReadValues
open_list r =
    only_if
    (nat_lt (length r.open_lists) max_nesting)
    (Some (record r { open_lists = [] ∷ r.open_lists; next = awaited.FirstValue }))

abbrev pub take_comma : Awaited → ReadValues → Option ReadValues
take_comma awaited.Separator r = Some (record r { next = awaited.NextValue })
take_comma _ r = None

-- `[`, `-`, `]`, `,` and any other byte
abbrev pub take_mark : ℕ → ReadValues → Option ReadValues
take_mark b r =
    if b == 91 then only_if (awaits_value r.next) (open_list r)
    else (if b == 45 then only_if (awaits_value r.next) (Some (record r { next = awaited.Digits }))
    else (if b == 93 then only_if (may_end r.next) (close_list r.values r.open_lists)
    else (if b == 44 then take_comma r.next r
    else None)))

-- what was read with one more token, if it may come
abbrev pub take_token : Token → ReadValues → Option ReadValues
take_token (word text) r = only_if (awaits_value r.next) (take_word text r)
take_token (number digits) r = take_digits r.next digits r
take_token (mark []) r = None
take_token (mark (b ∷ [])) r = take_mark b r
take_token (mark (b ∷ c ∷ bytes)) r = None

-- `;` ends the values where no list is open
abbrev pub is_closed : List (List Value) → Bool
is_closed [] = true
is_closed (inner ∷ outer) = false

abbrev pub is_semicolon : Token → Bool
is_semicolon (mark text) = bytes_eq text (codes ";")
is_semicolon _ = false

abbrev pub ends_values : Token → ReadValues → Bool
ends_values token r = is_semicolon token && (is_closed r.open_lists && may_end r.next)

-- the values up to `;`, and the tokens behind it
abbrev pub read_values : ReadValues → List Token → Option (List Value × List Token)
read_values r [] = None
read_values r (token ∷ tokens) =
    if ends_values token r then Some (r.values, tokens)
    else and_then (take_token token r) (λ next. read_values next tokens)
