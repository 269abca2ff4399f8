-- A mirror of the code: tables of pairs.
use Rattle.std.specs.Prelude.{◌≡◌, ◌==◌, ◌≤◌, ◌⊎◌, ◌/◌, ◌%◌, ℕ, Bool, true, false, List, [], ◌∷◌, ◌++◌, All, Contains, MatchBool, length, Option, Some, None, slice_get, slice_index}
use Rattle.std.specs.Global.{Vec}
use Rattle.std.specs.Int.{bit_at}
use Rattle.nomos_ir.specs.declared.amount.Amount.{Amount}
use Rattle.nomos_ir.specs.declared.amount.Amount.TheVariants as amount
use Rattle.nomos_ir.specs.declared.ids.TypeId.{TypeId}

-- ---- bits of pairs of types

-- whether a word has a bit
abbrev pub has_bit : ℕ → ℕ → Bool
has_bit word i = bit_at word i == 1

-- whether a row has a bit
abbrev pub bit_in : List ℕ → ℕ → Bool
bit_in row r = has_bit (slice_index row (r / 64)) (r % 64)

-- the words of a row, none where there is no row
abbrev pub words_of : Option (Vec ℕ) → List ℕ
words_of None = []
words_of (Some row) = row.items

-- whether the bit of a pair is set
abbrev pub bit_of : List (Vec ℕ) → ℕ → ℕ → Bool
bit_of rows l r = bit_in (words_of (slice_get rows l)) r

-- each pair whose bit is set is one of the list
abbrev pub AreAmong : List (Vec ℕ) → List (TypeId × TypeId) → Type 0
AreAmong rows pairs =
    (l r : ℕ) → bit_of rows l r ≡ true → Contains pairs (record { 0 = l }, record { 0 = r })

-- the same bits are set
abbrev pub HasSameBits : List (Vec ℕ) → List (Vec ℕ) → Type 0
HasSameBits old new = (l r : ℕ) → bit_of new l r ≡ bit_of old l r

-- the row has so many words, or more
abbrev pub HasWords : List (Vec ℕ) → ℕ → ℕ → Type 0
HasWords rows l count = (row : Vec ℕ) × (slice_get rows l ≡ Some row) × (count ≤ length row.items)

-- no bit of a pair is set that was not, but this one
abbrev pub SetsPair : ℕ → ℕ → List (Vec ℕ) → List (Vec ℕ) → Type 0
SetsPair left right old new =
    (l r : ℕ) → bit_of new l r ≡ true → (bit_of old l r ≡ true) ⊎ ((l ≡ left) × (r ≡ right))

-- no bit is set that was not, but this one
abbrev pub SetsOne : ℕ → List ℕ → List ℕ → Type 0
SetsOne place old new = (r : ℕ) → bit_in new r ≡ true → (bit_in old r ≡ true) ⊎ (r ≡ place)

-- the pair is put at the end, or it was there and nothing changes
abbrev pub Puts : List (TypeId × TypeId) → TypeId × TypeId → List (TypeId × TypeId) → Bool → Type 0
Puts old x new added = MatchBool added (new ≡ old ++ x ∷ []) (Contains old x × (new ≡ old))

-- ---- pairs of amounts

-- by what an amount is found
abbrev pub amount_key : Amount → Bool × ℕ
amount_key (amount.Written units) = (false, units)
amount_key (amount.Star star) = (true, star)

-- by what a pair of amounts is found
abbrev pub pair_key : Amount × Amount → (Bool × ℕ) × (Bool × ℕ)
pair_key p = (amount_key p.0, amount_key p.1)

-- each pair of amounts stands beside its key
abbrev pub HasKeys : List (((Bool × ℕ) × (Bool × ℕ)) × (Amount × Amount)) → Type 0
HasKeys entries = All (λ e. e.0 ≡ pair_key e.1) entries

-- the item is put at the end where it was not there, and nothing changes where it was
abbrev pub PutsOnce : {X : Type 0} → List X → X → List X → Bool → Type 0
PutsOnce old x new added = MatchBool added ((¬ (Contains old x)) × (new ≡ old ++ x ∷ [])) (Contains old x × (new ≡ old))
