-- Sets of processes that may be ready, told one after another.
use Rattle.std.proofs.Common.{◌∙◌, ◌<◌, ◌≤◌, ◌+◌, inl, inr, ℕ, refl, sym, subst, arith, IsTrue, ⊎_elim}
use Rattle.std.proofs.lemmas.Bool.{cases_eq, cases_lt}
use Rattle.std.specs.BTreeSet.{BTreeSet, contains}
use Rattle.nomos_ready.specs.Covering.{HasProxy, IsNoted, MayBeReady, by_both}
use Rattle.nomos_ready.specs.declared.awake.Awake.{Awake}
use Rattle.nomos_ready.specs.mirror.ToldSets.{IsToldOver, Tells}

pub tells-same : (w : Awake) → Tells w w
tells-same w = record { ready = λ q may. may; waiting = refl; followed = λ n is. is; sought = refl }

pub tells-twice : (u v w : Awake) → Tells u v → Tells v w → Tells u w
tells-twice u v w one two = record {
  ready = λ q may. two.ready q (one.ready q may);
  waiting = two.waiting ∙ one.waiting;
  followed = λ n is. one.followed n (two.followed n is);
  sought = two.sought ∙ one.sought;
}

module _ (v w : Awake) (tells : Tells v w) where
  -- who is noted stays so
  pub noted-on : (n q : ℕ) → IsNoted v n q → IsNoted w n q
  noted-on n q noted = subst (λ (u : BTreeSet (ℕ × ℕ)). IsTrue (contains by_both u (n, q))) (sym tells.waiting) noted

  pub noted-back : (n q : ℕ) → IsNoted w n q → IsNoted v n q
  noted-back n q noted = subst (λ (u : BTreeSet (ℕ × ℕ)). IsTrue (contains by_both u (n, q))) tells.waiting noted

  -- who is told in place of another is so still
  pub proxy-on : (n q : ℕ) → HasProxy v n q → HasProxy w n q
  proxy-on n q has = record {
    noted = noted-on n q has.noted;
    proxy = has.proxy;
    noted_too = noted-on n has.proxy has.noted_too;
    told = tells.ready has.proxy has.told;
    low = has.low;
    over = λ less.
        subst (λ (k : ℕ). k < has.proxy) (sym tells.sought)
        (has.over (subst (λ (k : ℕ). k < q) tells.sought less));
  }

-- Where of those that are noted one is told over 0, and one over the number that is sought, each has one in its place.
pub offered : (v m w : Awake) (name : ℕ) → Tells v m → Tells m w
    → ((q : ℕ) → 0 < q → IsNoted v name q → IsToldOver m name 0 q)
    → ((q : ℕ) → m.sought < q → IsNoted m name q → IsToldOver w name m.sought q)
    → (q : ℕ) → 0 < q → IsNoted v name q → HasProxy w name q
offered v m w name one two all behind q over noted =
    ⊎_elim
    (λ (less : m.sought < q). second (behind q less (noted-on v m one name q noted)))
    (λ (up_to : q ≤ m.sought). first up_to (all q over noted))
    (cases_lt m.sought q)
  where
    here : IsNoted w name q
    here = noted-on m w two name q (noted-on v m one name q noted)

    second : IsToldOver w name m.sought q → HasProxy w name q
    second told = record {
      noted = here;
      proxy = told.proxy;
      noted_too = told.noted;
      told = told.told;
      low = told.low;
      over = λ less. omega (arith, told.over, two.sought);
    }

    first : q ≤ m.sought → IsToldOver m name 0 q → HasProxy w name q
    first up_to told = record {
      noted = here;
      proxy = told.proxy;
      noted_too = noted-on m w two name told.proxy told.noted;
      told = two.ready told.proxy told.told;
      low = told.low;
      over = λ less. absurd (omega (arith, less, up_to, two.sought));
    }

-- one more may be ready of those from a number on
pub more-woken : (v w : Awake) (first pid : ℕ) → ((q : ℕ) → first ≤ q → q < pid → MayBeReady v q) → MayBeReady w pid
    → Tells v w → (q : ℕ) → first ≤ q → q < pid + 1 → MayBeReady w q
more-woken v w first pid told own tells q from under =
    elim (cases_eq q pid) [
      | inl same ↦ subst (MayBeReady w) (sym same) own
      | inr other ↦ tells.ready q (told q from (omega (arith, under, other)))
    ]
