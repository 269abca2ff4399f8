use Rattle.std.proofs.Common.{◌≡◌, ◌≢◌, ◌<◌, ℕ, List, [], ◌∷◌, All, None, subst, arith}
use Rattle.std.proofs.lemmas.List.Elements.{All-cons, All-head, All-nil, All-tail}
use Rattle.nomos_machine.specs.Objects.{object_at}
use Rattle.nomos_state.specs.Indexed.{Indexed, held_now}
use Rattle.nomos_state.proofs.LookLemmas.{number-missed}
use Rattle.nomos_state.proofs.inside.Inside.free_number.Goals as goal

-- what is below a number is not that number
apart-below : (ns : List ℕ) (n : ℕ) → All (λ m. m < n) ns → All (λ m. m ≢ n) ns
apart-below [] n below = All-nil (λ m. m ≢ n)
apart-below (e ∷ ns) n below =
    let first : e < n = All-head (λ m. m < n) e ns below in
    All-cons (λ m. m ≢ n) e ns (λ same. omega arith) (apart-below ns n (All-tail (λ m. m < n) e ns below))

pub returns-clause-free : goal.returns-clause-free
returns-clause-free c =
    let contents = c.self.inside.contents in
    let h = held_now contents in
    subst (λ (i : Indexed). object_at i.state.objects contents.numbers.next_object ≡ None) c.self.view_is
    (number-missed h contents.numbers.next_object (apart-below _ contents.numbers.next_object
    c.self.invariant.now.below))
