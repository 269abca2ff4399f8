-- How often each star stands in one amount more than in another, by the star in each amount: 0 stands for none.
use Rattle.std.specs.Prelude.{◌==◌, ℕ, ◌+◌, ℤ, pos, ◌-ℤ◌, List, map, if◌then◌else◌}
use Rattle.std.specs.List.{range_with_len, flat_map}

-- how often a star stands in an amount in which this one stands
abbrev pub count_in : ℕ → ℕ → ℤ
count_in own star = if own == star then pos 1 else pos 0

-- how often each of n stars stands in one amount more than in another
abbrev pub counts : ℕ → ℕ → ℕ → List ℤ
counts n more less = map (λ star. count_in more star -ℤ count_in less star) (range_with_len 1 n)

-- these for one star in the first amount, and for all of them
abbrev pub counts_with : ℕ → ℕ → List (List ℤ)
counts_with n more = map (counts n more) (range_with_len 0 (n + 1))

abbrev pub all_counts : ℕ → List (List ℤ)
all_counts n = flat_map (counts_with n) (range_with_len 0 (n + 1))
