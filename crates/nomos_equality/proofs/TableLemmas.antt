-- Tables of items under keys.
use Rattle.std.proofs.Common.{◌≡◌, ℕ, Bool, true, false, cond, ◌&&◌, nat_eq, zero, suc, ◌<◌, List, [], ◌∷◌, ◌++◌, map, length, All, Contains, Some, is_some, refl, true≢false, sym, ap, subst, ◌∙◌, eq-eqb, eqb-true, get_or, arith}
use Rattle.std.specs.Map.{lookup}
use Rattle.std.specs.Bool.{beq}
use Rattle.std.proofs.lemmas.Bool.{and_from, and_parts}
use Rattle.std.proofs.lemmas.List.Elements.{All-head, All-tail, Contains-get_or, Contains-append_right}
use Rattle.indexmap.specs.IndexMap.{insert_entry}
use Rattle.nomos_ir.specs.declared.amount.Amount.{Amount}
use Rattle.nomos_ir.specs.declared.amount.Amount.TheVariants as amount
use Rattle.nomos_equality.specs.mirror.PairTables.{amount_key, pair_key}

-- ---- maps from the key of an item to the item

module _ {K X : Type 0} (eq : K → K → Bool) (exact : (x y : K) → eq x y ≡ true → x ≡ y) (same : (k : K) → eq k k ≡ true)
    (key : X → K) (apart : (x y : X) → key x ≡ key y → x ≡ y) (x : X) where
  -- an item whose key is found is there
  pub found-item : (es : List (K × X)) → All (λ e. e.0 ≡ key e.1) es → is_some (lookup (eq (key x)) es) ≡ true
      → Contains (map (λ e. e.1) es) x
  found-item [] keyed found = absurd (true≢false (sym found))
  found-item (e ∷ es) keyed found =
      by (eq (key x) e.0) refl (found-item es (All-tail (λ d. d.0 ≡ key d.1) e es keyed)) found
    where
      by : (b : Bool) → eq (key x) e.0 ≡ b → (is_some (lookup (eq (key x)) es) ≡ true → Contains (map (λ e. e.1) es) x)
          → is_some (cond b (Some e.1) (lookup (eq (key x)) es)) ≡ true → Contains (map (λ e. e.1) (e ∷ es)) x
      by true found rest h =
          let item : x ≡ e.1 = apart x e.1 (exact (key x) e.0 found ∙ All-head (λ d. d.0 ≡ key d.1) e es keyed) in
          subst (Contains (map (λ e. e.1) (e ∷ es))) (sym item)
          (Contains-get_or (map (λ e. e.1) (e ∷ es)) 0 e.1 (omega arith))
      by false found rest h = Contains-append_right (e.1 ∷ []) (map (λ e. e.1) es) x (rest h)

  -- the key of an item that is there is found
  item-found : (es : List (K × X)) (i : ℕ) → All (λ e. e.0 ≡ key e.1) es → i < length (map (λ e. e.1) es)
      → get_or (map (λ e. e.1) es) i x ≡ x → is_some (lookup (eq (key x)) es) ≡ true
  item-found [] i keyed inside is = absurd (omega arith)
  item-found (e ∷ es) zero keyed inside is =
      let k : e.0 ≡ key x = All-head (λ d. d.0 ≡ key d.1) e es keyed ∙ ap key is in
      rw (k, same (key x)) refl
  item-found (e ∷ es) (suc i) keyed inside is =
      by (eq (key x) e.0) (item-found es i (All-tail (λ d. d.0 ≡ key d.1) e es keyed) (omega arith) is)
    where
      by : (b : Bool) → is_some (lookup (eq (key x)) es) ≡ true
          → is_some (cond b (Some e.1) (lookup (eq (key x)) es)) ≡ true
      by true h = refl
      by false h = h

  pub absent-item : (es : List (K × X)) → All (λ e. e.0 ≡ key e.1) es → is_some (lookup (eq (key x)) es) ≡ false
      → ¬ (Contains (map (λ e. e.1) es) x)
  absent-item es keyed absent among = true≢false (sym (item-found es among.0 keyed among.1 among.2) ∙ absent)

  -- a new item goes to the end
  pub put-last : (es : List (K × X)) → is_some (lookup (eq (key x)) es) ≡ false
      → insert_entry eq es (key x) x ≡ es ++ (key x, x) ∷ []
  put-last [] absent = refl
  put-last (e ∷ es) absent = by (eq (key x) e.0) refl (put-last es)
    where
      by : (b : Bool) → eq (key x) e.0 ≡ b
          → (is_some (lookup (eq (key x)) es) ≡ false → insert_entry eq es (key x) x ≡ es ++ (key x, x) ∷ [])
          → insert_entry eq (e ∷ es) (key x) x ≡ (e ∷ es) ++ (key x, x) ∷ []
      by true found ih = let h = rw found at absent in cc
      by false found ih = rw found (ap (λ xs. e ∷ xs) (ih (rw found at absent)))

-- ---- pairs of amounts

abbrev star_eq : Bool × ℕ → Bool × ℕ → Bool
star_eq x y = beq x.0 y.0 && nat_eq x.1 y.1

abbrev pub keys_eq : (Bool × ℕ) × (Bool × ℕ) → (Bool × ℕ) × (Bool × ℕ) → Bool
keys_eq x y = star_eq x.0 y.0 && star_eq x.1 y.1

beq-exact : (a b : Bool) → beq a b ≡ true → a ≡ b
beq-exact true true h = refl
beq-exact true false h = absurd cc
beq-exact false true h = absurd cc
beq-exact false false h = refl

beq-same : (a : Bool) → beq a a ≡ true
beq-same true = refl
beq-same false = refl

star-exact : (x y : Bool × ℕ) → star_eq x y ≡ true → x ≡ y
star-exact x y h =
    let p = and_parts (beq x.0 y.0) (nat_eq x.1 y.1) h in
    let first : x.0 ≡ y.0 = beq-exact x.0 y.0 p.0 in
    let second : x.1 ≡ y.1 = eqb-true x.1 y.1 p.1 in
    λ i. (first i, second i)

star-same : (k : Bool × ℕ) → star_eq k k ≡ true
star-same k = and_from (beq k.0 k.0) (nat_eq k.1 k.1) (beq-same k.0) (eq-eqb k.1 k.1 refl)

pub keys-exact : (x y : (Bool × ℕ) × (Bool × ℕ)) → keys_eq x y ≡ true → x ≡ y
keys-exact x y h =
    let p = and_parts (star_eq x.0 y.0) (star_eq x.1 y.1) h in
    let first : x.0 ≡ y.0 = star-exact x.0 y.0 p.0 in
    let second : x.1 ≡ y.1 = star-exact x.1 y.1 p.1 in
    λ i. (first i, second i)

pub keys-same : (k : (Bool × ℕ) × (Bool × ℕ)) → keys_eq k k ≡ true
keys-same k = and_from (star_eq k.0 k.0) (star_eq k.1 k.1) (star-same k.0) (star-same k.1)

key-apart : (a b : Amount) → amount_key a ≡ amount_key b → a ≡ b
key-apart (amount.Written n) (amount.Written m) h =
    let e : n ≡ m = ap (λ (k : Bool × ℕ). k.1) h in ap (λ (k : ℕ). amount.Written k) e
key-apart (amount.Written n) (amount.Star m) h = absurd (true≢false (sym (ap (λ (k : Bool × ℕ). k.0) h)))
key-apart (amount.Star n) (amount.Written m) h = absurd (true≢false (ap (λ (k : Bool × ℕ). k.0) h))
key-apart (amount.Star n) (amount.Star m) h =
    let e : n ≡ m = ap (λ (k : Bool × ℕ). k.1) h in ap (λ (k : ℕ). amount.Star k) e

pub pairs-apart : (p q : Amount × Amount) → pair_key p ≡ pair_key q → p ≡ q
pairs-apart p q h =
    let first : p.0 ≡ q.0 = key-apart p.0 q.0 (ap (λ (k : (Bool × ℕ) × (Bool × ℕ)). k.0) h) in
    let second : p.1 ≡ q.1 = key-apart p.1 q.1 (ap (λ (k : (Bool × ℕ) × (Bool × ℕ)). k.1) h) in
    λ i. (first i, second i)
