-- How what is gathered grows.
use Rattle.std.proofs.Common.{◌≡◌, ◌≤◌, ◌<◌, ◌⊎◌, ◌∙◌, inl, inr, ⊎_elim, ℕ, List, Bool, true, false, cond, ltb, length, Option, Some, None, refl, subst, arith}
use Rattle.nomos_ir.specs.declared.lists.ProgramLists.{ProgramLists}
use Rattle.nomos_types.specs.Judgement.{Judgement}
use Rattle.nomos_check.specs.Account.{Account}
use Rattle.nomos_check.specs.Reaching.{Outset}
use Rattle.nomos_check.specs.declared.code_walk.Stuck.{Stuck}
use Rattle.nomos_check.specs.declared.code_walk.CodeWalk.{CodeWalk}
use Rattle.nomos_check.specs.mirror.Stops.{first_stuck}
use Rattle.nomos_check.specs.mirror.Walking.{IsDone, Grows, Gathers, IsStuckBy}
use Rattle.nomos_check.specs.InHand.{IsWanted}

-- nothing changes
pub grows-same : {w : CodeWalk} → Grows w w
grows-same = record {
  forms = λ f among. among;
  pairs = λ free pair has. has;
  stuck = λ at by. by;
  none = λ free. free;
  places = record { wanted = refl; kept = λ t among. among; noted = λ e among. among };
}

-- one growth after another
pub grows-through : {old between new : CodeWalk} → Grows old between → Grows between new → Grows old new
grows-through first second = record {
  forms = λ f among. second.forms f (first.forms f among);
  pairs = λ free pair has. second.pairs free pair (first.pairs (second.none free) pair has);
  stuck = λ at by. second.stuck at (first.stuck at by);
  none = λ free. first.none (second.none free);
  places = record {
    wanted = second.places.wanted ∙ first.places.wanted;
    kept = λ t among. second.places.kept t (first.places.kept t among);
    noted = λ e among. second.places.noted e (first.places.noted e among);
  };
}

-- what is done stays done
pub done-grows : {lists : ProgramLists} {n : ℕ} {old new : CodeWalk} {j : Judgement} {a : Account} → Grows old new
    → IsDone lists n old j a → IsDone lists n new j a
done-grows {j = j} grows done = record {
  forms = λ f point. grows.forms f (done.forms f point);
  pairs = λ free pair asks. grows.pairs free pair (done.pairs (grows.none free) pair asks);
  row = λ free. done.row (grows.none free);
  stuck = λ none n stands. grows.stuck _ (done.stuck none n stands);
  placed = λ wanted.
      let place = done.placed
      (subst (λ (w : List Bool). IsWanted w j.code.0) grows.places.wanted wanted) in
      record {
        standing = place.standing;
        among = grows.places.kept place.standing place.among;
        shape = place.shape;
        has = place.has;
      };
  noted = λ below. grows.places.noted _
      (done.noted (subst (λ (w : List Bool). j.code.0 < length w) grows.places.wanted below));
}

-- nothing is gathered
pub gathers-none : {lists : ProgramLists} {n : ℕ} {o : Outset} {w : CodeWalk} → Gathers lists n o w w
gathers-none = record {
  forms = λ f among. inl among;
  pairs = λ free pair has. inl has;
  stuck = λ s is. inl is;
  places = λ t among. inl among;
  potentials = λ e among. inl among;
}

module _ {lists : ProgramLists} {n : ℕ} {o : Outset} where
  -- what is gathered in two stretches
  pub gathers-through : {old between new : CodeWalk} → Gathers lists n o old between → Grows between new
      → Gathers lists n o between new → Gathers lists n o old new
  gathers-through {old} {between} {new} first grows second = record {
    forms = λ f among. ⊎_elim (λ before. first.forms f before) (λ here. inr here) (second.forms f among);
    pairs =
        λ free pair has.
        ⊎_elim (λ before. first.pairs (grows.none free) pair before) (λ here. inr here) (second.pairs free pair has);
    stuck = λ s is. ⊎_elim (λ before. first.stuck s before) (λ here. inr here) (second.stuck s is);
    places = λ t among. ⊎_elim (λ before. first.places t before) (λ here. inr here) (second.places t among);
    potentials =
        λ e among. ⊎_elim (λ before. first.potentials e before) (λ here. inr here) (second.potentials e among);
  }

-- ---- what is stuck first

-- the one found first stays, or the new one comes before it, by the test
first-by : (t s : Stuck) (test : Bool) (at : ℕ) → ltb s.at t.at ≡ test → t.at ≤ at
    → IsStuckBy (cond test (Some s) (Some t)) at
first-by t s true at lower by = let below : s.at < t.at = grind (arith, lower) in omega arith
first-by t s false at lower by = by

-- what was stuck by an offset is so with another one too
pub first-keeps : (old : Option Stuck) (s : Stuck) (at : ℕ) → IsStuckBy old at → IsStuckBy (first_stuck old s) at
first-keeps None s at by = absurd by
first-keeps (Some t) s at by = first-by t s (ltb s.at t.at) at refl by

here-by : (t s : Stuck) (test : Bool) → ltb s.at t.at ≡ test → IsStuckBy (cond test (Some s) (Some t)) s.at
here-by t s true lower = omega arith
here-by t s false lower = grind (arith, lower)

-- the new one is stuck by its offset
pub first-here : (old : Option Stuck) (s : Stuck) → IsStuckBy (first_stuck old s) s.at
first-here None s = omega arith
first-here (Some t) s = here-by t s (ltb s.at t.at) refl

some-by : (t s : Stuck) (test : Bool) → cond test (Some s) (Some t) ≡ None → ⊥
some-by t s true is = cc
some-by t s false is = cc

-- something is stuck then
pub first-some : (old : Option Stuck) (s : Stuck) → first_stuck old s ≡ None → ⊥
first-some None s is = cc
first-some (Some t) s is = some-by t s (ltb s.at t.at) is

one-by : (t s r : Stuck) (test : Bool) → cond test (Some s) (Some t) ≡ Some r → (Some t ≡ Some r) ⊎ (s ≡ r)
one-by t s r true is = inr cc
one-by t s r false is = inl is

-- the first that is stuck is the old one or the new one
pub first-one : (old : Option Stuck) (s r : Stuck) → first_stuck old s ≡ Some r → (old ≡ Some r) ⊎ (s ≡ r)
first-one None s r is = inr cc
first-one (Some t) s r is = one-by t s r (ltb s.at t.at) is
