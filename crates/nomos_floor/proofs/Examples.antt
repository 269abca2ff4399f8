-- Small histories and floors, and what the definitions say of them.
use Rattle.std.proofs.Common.{◌≡◌, ℕ, Option, List, [], ◌∷◌, refl, arith}
use mathlib.Core.Option as home
use Rattle.nomos_floor.specs.OwnEntries.{mine, kept_of, longer, without_number, numbers_below, SameNumbers}
use Rattle.nomos_floor.specs.FloorView.{IsLive, opening_view, ended_view, live_numbers}
use Rattle.nomos_floor.specs.FloorSteps.{adding, split_off, newcomer, joined, learned}
use Rattle.nomos_floor.specs.FloorInvariant.{Slot, Numbers}
use Rattle.nomos_floor.specs.declared.view.PassView.{PassView}
use Rattle.nomos_floor.specs.declared.view.Stage.TheVariants.{Serving}
use Rattle.nomos_floor.proofs.NumberParts.{live_apart}

abbrev log : List (ℕ × ℕ)
log = (1, 10) ∷ (0, 20) ∷ (1, 30) ∷ []

-- the entries of pass 1, and of a pass that has none
of_one : mine 1 log ≡ 10 ∷ 30 ∷ []
of_one = refl

of_two : mine 2 log ≡ []
of_two = refl

-- the lists kept of two ended passes
abbrev kept : List (ℕ × List ℕ)
kept = (1, 10 ∷ []) ∷ (2, 20 ∷ []) ∷ []

kept_two : kept_of 2 kept ≡ 20 ∷ []
kept_two = refl

kept_three : kept_of 3 kept ≡ []
kept_three = refl

without_two : without_number 2 (1 ∷ 2 ∷ 3 ∷ 2 ∷ []) ≡ 1 ∷ 3 ∷ 2 ∷ []
without_two = refl

longer_is : longer ((1, 10) ∷ []) log ≡ log
longer_is = refl

three_numbers : SameNumbers (0 ∷ 1 ∷ 2 ∷ []) (numbers_below 3)
three_numbers weight = omega arith

-- The opening pass of a floor over the number 7, once it split off a pass, which added 30; and once it took it in again
abbrev opened : PassView ℕ ℕ
opened = split_off (opening_view 7)

abbrev other : PassView ℕ ℕ
other = adding 30 (newcomer (opening_view 7))

abbrev after : PassView ℕ ℕ
after = learned (joined opened other)

numbers_out : opened.out ≡ 1 ∷ []
numbers_out = refl

next_number : opened.next ≡ 2
next_number = refl

both_live : live_numbers (opened ∷ other ∷ []) ≡ 0 ∷ 1 ∷ []
both_live = refl

one_live : live_numbers (after ∷ ended_view ∷ []) ≡ 0 ∷ []
one_live = refl

seen_after : after.seen ≡ (1, 30) ∷ []
seen_after = refl

none_out : after.out ≡ []
none_out = refl

kept_after : after.ended ≡ (1, 30 ∷ []) ∷ []
kept_after = refl

-- two live passes of one number are no floor's
not_twice : (v : PassView ℕ ℕ) (next : ℕ) (out gone : List ℕ) → Numbers log next out gone (v ∷ v ∷ []) → IsLive v.stage
    → ⊥
not_twice v next out gone numbers live = live_apart numbers 0 1 v v refl refl live live (λ e. omega arith) refl

-- nor is a slot that is there while a pass has its turn
not_both : (v : PassView ℕ ℕ) (t : ℕ) (there : Option ℕ) → v.stage ≡ Serving t
    → Slot 0 log (home.some there ∷ []) (v ∷ [])
    → ⊥
not_both v t there turn slot = let k = slot.turn 0 t v refl turn in home.some-ne-none there (cc (k.0))
