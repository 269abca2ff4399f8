-- Pairs in order of the first, and then of the second.
use Rattle.std.proofs.Common.{cond, ◌≢◌, List, [], ◌∷◌, slice_get, Option, Some, None, Result, Ok, Err, OnOk, OnErr, IfSome, ◌≡◌, ◌∙◌, ◌≤◌, ◌<◌, ◌⊎◌, inl, inr, ℕ, true, false, Less, Equal, Greater, IsTrue, refl, sym, subst, ap, arith}
use Rattle.std.proofs.lemmas.Cmp.{ranked}
use Rattle.std.proofs.lemmas.Map.Lookups.{exact_pairs, exact_unsigned}
use Rattle.std.specs.BTreeMap.{is_at}
use Rattle.std.specs.BTreeMap.Range.{IsLeBy, IsLtBy}
use Rattle.std.specs.BTreeSet.{BTreeSet, IsUnchanged, Updates, contains}
use Rattle.std.specs.Cmp.{nat_cmp_is}
use Rattle.std.specs.List.{list_any}
use Rattle.std.specs.Ordering.{MatchOrdering, is_eq, is_gt, nat_cmp, ordering_then}
use Rattle.std.specs.declared.cmp.Ordering.{Ordering}
use Rattle.nomos_deeds.specs.Lowest.{LowestOver, NoneOver}
use Rattle.nomos_ready.specs.Covering.{by_both}

-- a pair is not over another one exactly where its first part is less, or is the same and its second is not over
pub le-first : (x y : ℕ × ℕ) → IsLeBy by_both x y → x.0 ≤ y.0
le-first x y le = at (nat_cmp x.0 y.0) (ranked x.0 y.0 (nat_cmp x.0 y.0) refl) le
  where
    at : (o : Ordering) → MatchOrdering o (x.0 < y.0) (x.0 ≡ y.0) (y.0 < x.0)
        → is_gt (ordering_then o (nat_cmp x.1 y.1)) ≡ false → x.0 ≤ y.0
    at Less is le = omega (arith, is)
    at Equal is le = omega (arith, is)
    at Greater is le = absurd cc

pub lt-second : (n x y : ℕ) → x < y → IsLtBy by_both (n, x) (n, y)
lt-second n x y lt =
    ap (λ (o : Ordering). ordering_then o (nat_cmp x y)) (sym (nat_cmp_is n n Equal refl))
    ∙ sym (nat_cmp_is x y Less lt)

lt-first : (x y : ℕ × ℕ) → IsLtBy by_both x y → x.0 ≤ y.0
lt-first x y lt = at (nat_cmp x.0 y.0) (ranked x.0 y.0 (nat_cmp x.0 y.0) refl) lt
  where
    at : (o : Ordering) → MatchOrdering o (x.0 < y.0) (x.0 ≡ y.0) (y.0 < x.0)
        → ordering_then o (nat_cmp x.1 y.1) ≡ Less → x.0 ≤ y.0
    at Less is lt = omega (arith, is)
    at Equal is lt = omega (arith, is)
    at Greater is lt = absurd cc

-- pairs of one first part are in order of the second
lt-same : (n x y : ℕ) → IsLtBy by_both (n, x) (n, y) → x < y
lt-same n x y lt =
    let second : nat_cmp x y ≡ Less =
    ap (λ (o : Ordering). ordering_then o (nat_cmp x y)) (nat_cmp_is n n Equal refl) ∙ lt
    in
    ranked x y Less (sym second)

le-same : (n x y : ℕ) → IsLeBy by_both (n, x) (n, y) → x ≤ y
le-same n x y le =
    let second : is_gt (nat_cmp x y) ≡ false =
    ap (λ (o : Ordering). is_gt (ordering_then o (nat_cmp x y))) (nat_cmp_is n n Equal refl) ∙ le
    in
    at (nat_cmp x y) (ranked x y (nat_cmp x y) refl) second
  where
    at : (o : Ordering) → MatchOrdering o (x < y) (x ≡ y) (y < x) → is_gt o ≡ false → x ≤ y
    at Less is le = omega (arith, is)
    at Equal is le = omega (arith, is)
    at Greater is le = absurd cc

-- without a pair the others are there
pub others-there : (v w : BTreeSet (ℕ × ℕ)) (k e : ℕ × ℕ) → Updates by_both v w k false → IsTrue (contains by_both v e)
    → (k ≡ e) ⊎ IsTrue (contains by_both w e)
others-there v w k e updates there = at (by_both k e) refl
  where
    at : (o : Ordering) → by_both k e ≡ o → (k ≡ e) ⊎ IsTrue (contains by_both w e)
    at Equal is = inl (exact_pairs nat_cmp nat_cmp exact_unsigned exact_unsigned k e is)
    at Less is = inr (updates.2 e (ap (λ (o : Ordering). is_eq o) is) ∙ there)
    at Greater is = inr (updates.2 e (ap (λ (o : Ordering). is_eq o) is) ∙ there)

-- and beside one that is put there, or could not be, too
pub kept-beside : {X E : Type 0} (r : Result X E) (v w : BTreeSet (ℕ × ℕ)) (k e : ℕ × ℕ)
    → OnOk r (Updates by_both v w k true) → OnErr r (IsUnchanged v w) → IsTrue (contains by_both v e)
    → IsTrue (contains by_both w e)
kept-beside (Ok x) v w k e updates same there = at (by_both k e) refl
  where
    at : (o : Ordering) → by_both k e ≡ o → IsTrue (contains by_both w e)
    at Equal is =
        updates.0 e ∙ ap (λ (o : Ordering). cond (is_eq o) true (contains by_both v e)) is
    at Less is = updates.2 e (ap (λ (o : Ordering). is_eq o) is) ∙ there
    at Greater is = updates.2 e (ap (λ (o : Ordering). is_eq o) is) ∙ there
kept-beside (Err x) v w k e updates same there =
    ap (λ (keys : List (ℕ × ℕ)). list_any (is_at (by_both e)) keys) same ∙ there

-- what is there beside one that is put there was there, or is that one
pub put-back : {X E : Type 0} (r : Result X E) (v w : BTreeSet (ℕ × ℕ)) (k e : ℕ × ℕ)
    → OnOk r (Updates by_both v w k true) → OnErr r (IsUnchanged v w) → IsTrue (contains by_both w e)
    → IsTrue (contains by_both v e) ⊎ (k ≡ e)
put-back (Ok x) v w k e updates same there = at (by_both k e) refl
  where
    at : (o : Ordering) → by_both k e ≡ o → IsTrue (contains by_both v e) ⊎ (k ≡ e)
    at Equal is = inr (exact_pairs nat_cmp nat_cmp exact_unsigned exact_unsigned k e is)
    at Less is = inl (sym (updates.2 e (ap (λ (o : Ordering). is_eq o) is)) ∙ there)
    at Greater is = inl (sym (updates.2 e (ap (λ (o : Ordering). is_eq o) is)) ∙ there)
put-back (Err x) v w k e updates same there =
    inl (sym (ap (λ (keys : List (ℕ × ℕ)). list_any (is_at (by_both e)) keys) same) ∙ there)

-- what is there without one was there, and is another one
pub gone-back : (v w : BTreeSet (ℕ × ℕ)) (k e : ℕ × ℕ) → Updates by_both v w k false → IsTrue (contains by_both w e)
    → IsTrue (contains by_both v e)
gone-back v w k e updates there = at (by_both k e) refl
  where
    at : (o : Ordering) → by_both k e ≡ o → IsTrue (contains by_both v e)
    at Equal is =
        let gone : contains by_both w e ≡ false =
        updates.0 e ∙ ap (λ (o : Ordering). cond (is_eq o) false (contains by_both v e)) is
        in
        absurd (differ (sym gone ∙ there))
      where
        differ : false ≡ true → ⊥
        differ is = cc
    at Less is = sym (updates.2 e (ap (λ (o : Ordering). is_eq o) is)) ∙ there
    at Greater is = sym (updates.2 e (ap (λ (o : Ordering). is_eq o) is)) ∙ there

-- ---- the first pair over one, among pairs

-- one of the pairs, and over another one
abbrev IsPairOver : BTreeSet (ℕ × ℕ) → ℕ × ℕ → ℕ × ℕ → Type 0
IsPairOver s e k = (IsLtBy by_both e k × Unit {0}) × IsTrue (contains by_both s k)

module _ (s : BTreeSet (ℕ × ℕ)) (over : List (ℕ × ℕ)) (name after : ℕ)
    (inside : IfSome (slice_get over 0) (IsPairOver s (name, after)))
    (least : (q : ℕ × ℕ) → IsLtBy by_both (name, after) q × Unit {0} → IsTrue (contains by_both s q)
    → IfSome (slice_get over 0) (λ k. IsLeBy by_both k q))
    (empty : over ≡ [] → (q : ℕ × ℕ) → IsLtBy by_both (name, after) q × Unit {0} → contains by_both s q ≡ false) where
  if-some : (P : ℕ × ℕ → Type 0) (o : Option (ℕ × ℕ)) (e : ℕ × ℕ) → o ≡ Some e → IfSome o P → P e
  if-some P (Some k) e is holds = subst P (same is) holds
    where
      same : Some k ≡ Some e → k ≡ e
      same is = cc
  if-some P None e is holds = absurd cc

  -- where it has this name, it has the lowest number over the other
  pub same-lowest : (pid : ℕ) → slice_get over 0 ≡ Some (name, pid)
      → LowestOver (λ q. IsTrue (contains by_both s (name, q))) after pid
  same-lowest pid is =
      let its = if-some (IsPairOver s (name, after)) (slice_get over 0) (name, pid) is inside in
      record {
        over = lt-same name after pid its.0.0;
        holds = its.1;
        lowest = λ q higher below has.
            let le =
            if-some (λ k. IsLeBy by_both k (name, q)) (slice_get over 0) (name, pid) is
            (least (name, q) (lt-second name after q higher, tt) has)
            in
            omega (arith, le-same name pid q le, below);
      }

  -- where it has another name, none has this one
  pub other-none : (found pid : ℕ) → slice_get over 0 ≡ Some (found, pid) → found ≢ name
      → NoneOver (λ q. IsTrue (contains by_both s (name, q))) after
  other-none found pid is other q higher has =
      let its = if-some (IsPairOver s (name, after)) (slice_get over 0) (found, pid) is inside in
      let le =
      if-some (λ k. IsLeBy by_both k (name, q)) (slice_get over 0) (found, pid) is
      (least (name, q) (lt-second name after q higher, tt) has)
      in
      let low : name ≤ found = lt-first (name, after) (found, pid) its.0.0 in
      let high : found ≤ name = le-first (found, pid) (name, q) le in
      other (omega (arith, low, high))

  -- where there is none, none has this name
  pub nothing-none : slice_get over 0 ≡ None → NoneOver (λ q. IsTrue (contains by_both s (name, q))) after
  nothing-none is q higher has = at over is empty
    where
      at : (l : List (ℕ × ℕ)) → slice_get l 0 ≡ None
          → (l ≡ [] → (k : ℕ × ℕ) → IsLtBy by_both (name, after) k × Unit {0} → contains by_both s k ≡ false) → ⊥
      at [] is none =
          let both = sym (none refl (name, q) (lt-second name after q higher, tt)) ∙ has in
          absurd cc
      at (k ∷ l) is none = absurd cc
