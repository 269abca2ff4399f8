-- What is known where claims hold.
use Rattle.std.proofs.Common.{◌≡◌, Bool, true, false, List, [], ◌∷◌, ◌++◌, Some, None, refl, ap, ◌∙◌}
use Rattle.std.specs.Prelude.{if◌then◌else◌}
use Rattle.nomos_elaborate.specs.NameClaim.{NameClaim, first_broken}
use Rattle.nomos_elaborate.specs.mirror.Agrees.{unless_broken, where_all_hold}
use Rattle.nomos_elaborate.specs.mirror.Checked.{Checked, ◌>>=◌}

-- no claim is broken
abbrev pub AllHold : List NameClaim → Type 0
AllHold claims = first_broken claims ≡ None

pub first_holds : (c : NameClaim) (more : List NameClaim) → AllHold (c ∷ more) → c.holds ≡ true
first_holds c more h = by c.holds h
  where
    by : (b : Bool) → (if b then first_broken more else Some c.at) ≡ None → b ≡ true
    by true e = refl
    by false e = cc

pub rest_hold : (c : NameClaim) (more : List NameClaim) → AllHold (c ∷ more) → AllHold more
rest_hold c more h = by c.holds h
  where
    by : (b : Bool) → (if b then first_broken more else Some c.at) ≡ None → AllHold more
    by true e = e
    by false e = cc

pub left_hold : (a b : List NameClaim) → AllHold (a ++ b) → AllHold a
left_hold [] b h = refl
left_hold (c ∷ a) b h = by c.holds h (left_hold a b)
  where
    by : (t : Bool) → (if t then first_broken (a ++ b) else Some c.at) ≡ None → (AllHold (a ++ b) → AllHold a)
        → (if t then first_broken a else Some c.at) ≡ None
    by true e ih = ih e
    by false e ih = cc

pub right_hold : (a b : List NameClaim) → AllHold (a ++ b) → AllHold b
right_hold [] b h = h
right_hold (c ∷ a) b h = right_hold a b (rest_hold c (a ++ b) h)

-- what goes on may rest on the claims before it
module _ {A B : Type 0} (x : A) (f : A → Checked B) (more : List NameClaim) (y : B) where
  held-knowing : (claims : List NameClaim) → (AllHold claims → f x ≡ where_all_hold more y)
      → (where_all_hold claims x >>= f) ≡ where_all_hold (claims ++ more) y
  held-knowing [] h = h refl
  held-knowing (c ∷ claims) h = by c.holds h (held-knowing claims)
    where
      by : (b : Bool) → ((if b then first_broken claims else Some c.at) ≡ None → f x ≡ where_all_hold more y)
          → ((AllHold claims → f x ≡ where_all_hold more y)
          → (where_all_hold claims x >>= f) ≡ where_all_hold (claims ++ more) y)
          → (unless_broken (if b then first_broken claims else Some c.at) x >>= f)
          ≡ unless_broken (if b then first_broken (claims ++ more) else Some c.at) y
      by true k ih = ih k
      by false k ih = refl

  pub law-knowing : (c : Checked A) (claims : List NameClaim) → c ≡ where_all_hold claims x
      → (AllHold claims → f x ≡ where_all_hold more y) → (c >>= f) ≡ where_all_hold (claims ++ more) y
  law-knowing c claims e h = ap (λ d. d >>= f) e ∙ held-knowing claims h
