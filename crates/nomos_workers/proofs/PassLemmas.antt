-- Under which numbers several workers have fired: each under that of a pass of its own.
use Rattle.std.proofs.Common.{◌≡◌, ◌≢◌, ◌∙◌, ℕ, zero, suc, ◌+◌, ◌<◌, ◌≤◌, List, [], ◌∷◌, map, length, All, refl, sym, ap, subst, arith, ⊎_elim}
use Rattle.std.specs.List.{range_with_len}
use Rattle.std.proofs.lemmas.Bool.{cases_lt}
use Rattle.std.proofs.lemmas.List.Elements.{All-nil, All-cons, All-head, All-tail}
use Rattle.nomos_legal.specs.declared.journal.Firing.{Firing}
use Rattle.nomos_floor.specs.OwnEntries.{mine, kept_of}
use Rattle.nomos_floor.specs.FloorPass.{entries_of, ended_of, own_of, pass_number}
use Rattle.nomos_floor.specs.declared.floor.Pass.{Pass}
use Rattle.nomos_floor.proofs.HistoryLaws.{by_equal}
use Rattle.nomos_workers.specs.Crews.{IsOfWorker}

-- ---- numbers of which nothing is kept

-- a number outside of a row of numbers is none of them
outside-range : (n from count : ℕ) → ¬ ((from ≤ n) × (n < from + count))
    → All (λ (m : ℕ). m ≢ n) (range_with_len from count)
outside-range n from zero out = All-nil (λ (m : ℕ). m ≢ n)
outside-range n from (suc count) out =
    All-cons (λ (m : ℕ). m ≢ n) from (range_with_len (from + 1) count)
    (λ same. out (omega (arith, same), omega (arith, same)))
    (outside-range n (from + 1) count (λ is. out (omega (arith, is.0), omega (arith, is.1))))

module _ {W S E : Type 0} where
  -- the passes, each with its own entries
  abbrev kept_of_each : List (Pass W S E) → List (ℕ × List E)
  kept_of_each passes = map (λ (p : Pass W S E). (pass_number p, own_of p)) passes

  kept-absent : (n : ℕ) (passes : List (Pass W S E)) → All (λ (m : ℕ). m ≢ n) (map pass_number passes)
      → kept_of n (kept_of_each passes) ≡ []
  kept-absent n [] absent = refl
  kept-absent n (p ∷ passes) absent =
      by_equal (λ (l : List E). l ≡ []) (pass_number p) n (own_of p) (kept_of n (kept_of_each passes))
      (λ same. absurd (All-head (λ (m : ℕ). m ≢ n) (pass_number p) (map pass_number passes) absent same))
      (λ apart. kept-absent n passes
      (All-tail (λ (m : ℕ). m ≢ n) (pass_number p) (map pass_number passes) absent))

  -- the opening pass has nothing for a number that is no worker's
  pub entries-none : (n workers : ℕ) (first : Pass W S E) (passes : List (Pass W S E)) → own_of first ≡ []
      → ended_of first ≡ map (λ (p : Pass W S E). (pass_number p, own_of p)) passes
      → map pass_number passes ≡ range_with_len 1 workers → ¬ ((1 ≤ n) × (n ≤ workers)) → entries_of first n ≡ []
  entries-none n workers first passes own ended numbers out =
      let absent = outside-range n 1 workers (λ is. out (is.0, omega (arith, is.1))) in
      by_equal (λ (l : List E). l ≡ []) n 0 (own_of first) (kept_of n (ended_of first)) (λ same. own)
      (λ apart. ap (kept_of n) ended
      ∙ kept-absent n passes (subst (All (λ (m : ℕ). m ≢ n)) (sym numbers) absent))

-- ---- who fired

-- no number but those of the workers has an entry
abbrev pub NoOther : ℕ → List (ℕ × ℕ) → Type 0
NoOther workers history = (n : ℕ) → ¬ ((1 ≤ n) × (n ≤ workers)) → mine n history ≡ []

module _ (workers : ℕ) where
  first-fired : (f : Firing) (history : List (ℕ × ℕ)) → NoOther workers ((f.pass, f.pid) ∷ history)
      → IsOfWorker workers f
  first-fired f history none =
      ⊎_elim
      (λ (low : f.pass < 1). absurd (never (λ is. omega (arith, low, is.0))))
      (λ (some : 1 ≤ f.pass).
      ⊎_elim
      (λ (high : workers < f.pass). absurd (never (λ is. omega (arith, high, is.1))))
      (λ (few : f.pass ≤ workers). (some, few))
      (cases_lt workers f.pass))
      (cases_lt f.pass 1)
    where
      never : ¬ ((1 ≤ f.pass) × (f.pass ≤ workers)) → ⊥
      never out =
          by_equal (λ (l : List ℕ). l ≡ [] → ⊥) f.pass f.pass (f.pid ∷ mine f.pass history) (mine f.pass history)
          (λ same is. cc) (λ apart is. apart refl) (none f.pass out)

  others-fired : (f : Firing) (history : List (ℕ × ℕ)) → NoOther workers ((f.pass, f.pid) ∷ history)
      → NoOther workers history
  others-fired f history none n out =
      by_equal (λ (l : List ℕ). l ≡ [] → mine n history ≡ []) f.pass n (f.pid ∷ mine n history) (mine n history)
      (λ same is. absurd cc) (λ apart is. is) (none n out)

  -- so each firing is a worker's
  pub workers-fired : (firings : List Firing) → NoOther workers (map (λ (f : Firing). (f.pass, f.pid)) firings)
      → All (IsOfWorker workers) firings
  workers-fired [] none = All-nil (IsOfWorker workers)
  workers-fired (f ∷ firings) none =
      let history = map (λ (f : Firing). (f.pass, f.pid)) firings in
      All-cons (IsOfWorker workers) f firings (first-fired f history none)
      (workers-fired firings (others-fired f history none))

-- where there is no entry nobody fired
pub unfired : (firings : List Firing) → map {B = ℕ × ℕ} (λ (f : Firing). (f.pass, f.pid)) firings ≡ []
    → length firings ≡ 0
unfired [] none = refl
unfired (f ∷ firings) none = absurd cc
