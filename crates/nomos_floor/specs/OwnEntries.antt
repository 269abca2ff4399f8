-- The entries of one pass in a history, and numbers that stand in lists.
use Rattle.std.specs.Prelude.{◌≡◌, ℕ, zero, suc, List, [], ◌∷◌, if◌then◌else◌, ◌==◌, length, nat_lt, sum_by}

-- the entries with this number, in their order
abbrev pub mine : {E : Type 0} → ℕ → List (ℕ × E) → List E
mine number [] = []
mine number (pair ∷ history) = if pair.0 == number then pair.1 ∷ mine number history else mine number history

-- the entries that are kept beside this number, or none
abbrev pub kept_of : {E : Type 0} → ℕ → List (ℕ × List E) → List E
kept_of number [] = []
kept_of number (pair ∷ kept) = if pair.0 == number then pair.1 else kept_of number kept

-- the list without the first place of this number
abbrev pub without_number : ℕ → List ℕ → List ℕ
without_number number [] = []
without_number number (n ∷ numbers) = if n == number then numbers else n ∷ without_number number numbers

-- the longer of two histories
abbrev pub longer : {E : Type 0} → List (ℕ × E) → List (ℕ × E) → List (ℕ × E)
longer seen told = if nat_lt (length seen) (length told) then told else seen

abbrev pub numbers_below : ℕ → List ℕ
numbers_below zero = []
numbers_below (suc n) = n ∷ numbers_below n

-- The same numbers stand in both lists, each as often: however they are weighed, they weigh the same
abbrev pub SameNumbers : List ℕ → List ℕ → Type 0
SameNumbers xs ys = (weight : ℕ → ℕ) → sum_by weight xs ≡ sum_by weight ys
