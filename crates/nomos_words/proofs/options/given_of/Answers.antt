-- Options that are gathered are what the words are, and where one is not taken, the words are none.
use Rattle.std.proofs.Common.{◌≡◌, ◌≢◌, ◌-◌, ℕ, List, length, take, drop, map, string_bytes, Some, None, sym, subst, rules}
use Rattle.std.specs.declared.string.String.{String}
use Rattle.nomos_words.specs.mirror.GivenOptions.{option_values, with_option}
use Rattle.nomos_words.proofs.FindsOneLaws.{FindsOne-none}
use Rattle.nomos_words.proofs.GivenOptionLemmas.{HasGathered, HasGathered-next, HasGathered-stops, HasGathered-odd, HasGathered-all}
use Rattle.nomos_words.proofs.OptionLemmas.{two_words, no_words, one_word}
use Rattle.nomos_words.proofs.options.given_of.Goals as goal

-- the next two words, and the words behind them
abbrev rest_of : {Z : Type 0} → List (String Z) → List (List ℕ)
rest_of words = map string_bytes (take (length words - 2) (drop 2 words))

pub returns-in_err-given : goal.returns-in_err-given
returns-in_err-given c =
    let words = map string_bytes c.args.words.now in
    let left = c.loop-left.left.now in
    let name = c.name-item.result in
    let value = c.value-item.result in
    let given = option_values c.loop-left.given in
    let two = two_words left name value c.in-len2-up.len_at_least c.name-item.is c.value-item.is in
    let gathers = subst (λ ws. HasGathered words ws given) two c.loop-left.invariant in
    let stops : with_option given (string_bytes name) (string_bytes value) ≡ None =
    simp (c.as_str.ensures.value, c.as_str-in-len2-up.ensures.value) at (sym c.in_err-given.ensures) in
    rw c.from_residual.ensures
    (FindsOne-none
    (HasGathered-stops words (rest_of left) (string_bytes name) (string_bytes value) given gathers stops))

pub loop-left-preserved : goal.loop-left-preserved
loop-left-preserved c =
    let words = map string_bytes c.args.words.now in
    let left = c.loop-left.left.now in
    let name = c.name-item.result in
    let value = c.value-item.result in
    let given = option_values c.loop-left.given in
    let next = option_values c.in_ok-given.given in
    let two = two_words left name value c.in-len2-up.len_at_least c.name-item.is c.value-item.is in
    let gathers = subst (λ ws. HasGathered words ws given) two c.loop-left.invariant in
    let more : with_option given (string_bytes name) (string_bytes value) ≡ Some next =
    simp (c.as_str.ensures.value, c.as_str-in-len2-up.ensures.value) at (sym c.in_ok-given.ensures) in
    HasGathered-next words (rest_of left) (string_bytes name) (string_bytes value) given next gathers more

pub returns-then-is_empty : goal.returns-then-is_empty
returns-then-is_empty c =
    let words = map string_bytes c.args.words.now in
    let left = c.loop-left.left.now in
    let given = option_values c.loop-left.given in
    let none : length left ≡ 0 = search rules in
    let gathers = subst (λ ws. HasGathered words ws given) (no_words left none) c.loop-left.invariant in
    HasGathered-all words given gathers

pub returns-else-is_empty : goal.returns-else-is_empty
returns-else-is_empty c =
    let words = map string_bytes c.args.words.now in
    let left = c.loop-left.left.now in
    let given = option_values c.loop-left.given in
    let some : length left ≢ 0 = search rules in
    let one = one_word left some c.in_default.len_below in
    let gathers = subst (λ ws. HasGathered words ws given) one.1 c.loop-left.invariant in
    FindsOne-none (HasGathered-odd words one.0 given gathers)
