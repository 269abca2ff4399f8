-- Beginnings of a history, and the entries of one number in it.
use Rattle.std.proofs.Common.{◌≡◌, ◌≢◌, ℕ, ◌<◌, ◌≤◌, Bool, true, false, cond, eqb, List, [], ◌∷◌, ◌++◌, map, length, sum_by, refl, ap, sym, ◌∙◌, subst, arith, append_assoc, append-nil, eq-eqb, ne_eqb, lt-ltb, le-ltb, lt_of_not-le}
use Rattle.std.proofs.lemmas.List.Sums.{sum_by-cons}
use mathlib.Core.List.{IsPrefix}
use mathlib.Core.Logic.{dite}
use native.Mathlib.Decide.{dec_le, ℕ_discrete}
use Rattle.nomos_floor.specs.OwnEntries.{mine, kept_of, longer}

-- a choice by a test of two numbers
pub by_equal : {A : Type 0} (P : A → Type 0) (m n : ℕ) (x y : A) → (m ≡ n → P x) → (m ≢ n → P y)
    → P (cond (eqb m n) x y)
by_equal P m n x y same apart =
    dite (ℕ_discrete m n) (λ e. subst (λ b. P (cond b x y)) (sym (eq-eqb m n e)) (same e))
    (λ ne. subst (λ b. P (cond b x y)) (sym (ne_eqb m n ne)) (apart ne))

module _ {A : Type 0} where
  pub prefix_self : (xs : List A) → IsPrefix xs xs
  prefix_self xs = ([], append-nil xs)

  pub prefix_trans : (xs ys zs : List A) → IsPrefix xs ys → IsPrefix ys zs → IsPrefix xs zs
  prefix_trans xs ys zs p q = (p.0 ++ q.0, sym (append_assoc xs p.0 q.0) ∙ (ap (λ w. w ++ q.0) p.1 ∙ q.1))

  pub prefix_push : (xs ys zs : List A) → IsPrefix xs ys → IsPrefix xs (ys ++ zs)
  prefix_push xs ys zs p = (p.0 ++ zs, sym (append_assoc xs p.0 zs) ∙ ap (λ w. w ++ zs) p.1)

  -- of two beginnings of one list the shorter begins the longer
  pub prefix_shorter : (xs ys zs : List A) → IsPrefix xs zs → IsPrefix ys zs → length xs ≤ length ys → IsPrefix xs ys
  prefix_shorter [] ys zs p q le = (ys, refl)
  prefix_shorter (x ∷ xs) [] zs p q le = absurd (omega arith)
  prefix_shorter (x ∷ xs) (y ∷ ys) [] p q le = absurd (cc (p.1))
  prefix_shorter (x ∷ xs) (y ∷ ys) (z ∷ zs) p q le =
      let heads : x ≡ y = cc (p.1, q.1) in
      let rest = prefix_shorter xs ys zs (p.0, cc (p.1)) (q.0, cc (q.1)) (omega arith) in
      (rest.0, cc (heads, rest.1))

  cond_append : (b : Bool) (x : A) (xs ys zs : List A) → xs ≡ ys ++ zs → cond b (x ∷ xs) xs ≡ cond b (x ∷ ys) ys ++ zs
  cond_append true x xs ys zs e = ap (λ l. x ∷ l) e
  cond_append false x xs ys zs e = e

abbrev Log : Type 0 → Type 0
Log E = List (ℕ × E)

module _ {E : Type 0} where
  by_longer : (P : Log E → Type 0) (seen told : Log E) → (length seen < length told → P told)
      → (length told ≤ length seen → P seen) → P (longer seen told)
  by_longer P seen told second first = dite (dec_le (length told) (length seen))
      (λ le. subst (λ b. P (cond b told seen)) (sym (le-ltb (length seen) (length told) le)) (first le))
      (λ no. let lt = lt_of_not-le no in subst (λ b. P (cond b told seen)) (sym (lt-ltb (length seen) (length told) lt))
      (second lt))

  -- the longer of two beginnings of one history begins with both, and begins the history
  pub longer_begins : (seen told log : Log E) → IsPrefix seen log → IsPrefix told log
      → IsPrefix seen (longer seen told) × IsPrefix told (longer seen told) × IsPrefix (longer seen told) log
  longer_begins seen told log p q = by_longer (λ h. IsPrefix seen h × IsPrefix told h × IsPrefix h log) seen told
      (λ lt. (prefix_shorter seen told log p q (omega arith), prefix_self told, q))
      (λ le. (prefix_self seen, prefix_shorter told seen log q p le, p))

  pub mine-append : (n : ℕ) (xs ys : Log E) → mine n (xs ++ ys) ≡ mine n xs ++ mine n ys
  mine-append n [] ys = refl
  mine-append n (x ∷ xs) ys =
      cond_append (eqb x.0 n) x.1 (mine n (xs ++ ys)) (mine n xs) (mine n ys) (mine-append n xs ys)

  pub mine_push_own : (n : ℕ) (log : Log E) (e : E) → mine n (log ++ (n, e) ∷ []) ≡ mine n log ++ e ∷ []
  mine_push_own n log e = mine-append n log ((n, e) ∷ []) ∙ ap (λ b. mine n log ++ cond b (e ∷ []) []) (eq-eqb n n refl)

  pub mine_push_other : (n m : ℕ) (log : Log E) (e : E) → m ≢ n → mine n (log ++ (m, e) ∷ []) ≡ mine n log
  mine_push_other n m log e apart =
      mine-append n log ((m, e) ∷ [])
      ∙ (ap (λ b. mine n log ++ cond b (e ∷ []) []) (ne_eqb m n apart) ∙ append-nil (mine n log))

-- 1 at this number, else 0
abbrev pub one_at : ℕ → ℕ → ℕ
one_at n m = cond (eqb m n) 1 0

pub one_at_same : (n : ℕ) → one_at n n ≡ 1
one_at_same n = ap (λ b. cond b 1 0) (eq-eqb n n refl)

pub one_at_other : (n m : ℕ) → m ≢ n → one_at n m ≡ 0
one_at_other n m ne = ap (λ b. cond b 1 0) (ne_eqb m n ne)

module _ {E : Type 0} where
  -- the lists kept of some numbers, each that of its number in the history
  abbrev pub own_lists : List (ℕ × E) → List ℕ → List (ℕ × List E)
  own_lists log numbers = map (λ n. (n, mine n log)) numbers

  pub kept_of-own_lists : (n : ℕ) (log : List (ℕ × E)) (numbers : List ℕ) → 0 < sum_by (one_at n) numbers
      → kept_of n (own_lists log numbers) ≡ mine n log
  kept_of-own_lists n log [] some = absurd (omega arith)
  kept_of-own_lists n log (m ∷ numbers) some =
      by_equal (λ l. l ≡ mine n log) m n (mine m log) (kept_of n (own_lists log numbers))
      (λ same. ap (λ k. mine k log) same)
      (λ apart. kept_of-own_lists n log numbers
      (omega (arith, sum_by-cons (one_at n) m numbers, one_at_other n m apart)))

  pub kept_of_none : (n : ℕ) (log : List (ℕ × E)) (numbers : List ℕ) → sum_by (one_at n) numbers ≡ 0
      → kept_of n (own_lists log numbers) ≡ []
  kept_of_none n log [] none = refl
  kept_of_none n log (m ∷ numbers) none = by_equal (λ l. l ≡ []) m n (mine m log) (kept_of n (own_lists log numbers))
      (λ same. absurd (omega (arith, sum_by-cons (one_at n) m numbers, ap (one_at n) same, one_at_same n)))
      (λ apart. kept_of_none n log numbers (omega (arith, sum_by-cons (one_at n) m numbers, one_at_other n m apart)))

  -- an entry of another number changes none of them
  pub own_lists_push : (m : ℕ) (e : E) (log : List (ℕ × E)) (numbers : List ℕ) → sum_by (one_at m) numbers ≡ 0
      → own_lists (log ++ (m, e) ∷ []) numbers ≡ own_lists log numbers
  own_lists_push m e log [] none = refl
  own_lists_push m e log (n ∷ numbers) none =
      let apart : m ≢ n = λ same. omega
      (arith, sum_by-cons (one_at m) n numbers, ap (one_at m) (sym same), one_at_same m) in
      let rest : sum_by (one_at m) numbers ≡ 0 = omega (arith, sum_by-cons (one_at m) n numbers) in
      λ i. (n, mine_push_other n m log e apart i) ∷ own_lists_push m e log numbers rest i
