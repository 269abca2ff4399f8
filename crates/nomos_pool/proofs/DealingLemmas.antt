-- Names of accounts beside the texts that are kept, and what an account sends among what is gathered.
use Rattle.std.proofs.Common.{◌≡◌, ◌∙◌, ℕ, ◌<◌, ◌≤◌, Bool, true, false, not, ltb, cond, List, [], ◌∷◌, ◌++◌, All, length, map, unwrap_or, slice_index_or, refl, sym, ap, arith}
use Rattle.std.specs.List.{list_any, position, position_or_len}
use Rattle.std.specs.Str.{bytes_eq}
use Rattle.std.proofs.lemmas.Bool.Decides.{nat_tests}
use Rattle.std.proofs.lemmas.Cmp.{nat_list_eq_equiv}
use Rattle.std.proofs.lemmas.List.{map-append}
use Rattle.std.proofs.lemmas.List.Elements.{All-map}
use Rattle.std.proofs.lemmas.List.Sums.{prefix_len-le-length}
use Rattle.std.proofs.Math.Nat.{mod-lt}
use Rattle.std.proofs.lemmas.Slice.Eq.{bytes_eq-Decides}
use Rattle.nomos_script.specs.declared.item.Batch.{Batch}
use Rattle.nomos_pool.specs.Dealing.{IsFairGathering, account_name, account_names, sent_by_account, thread_of, threads_of, with_accounts, with_name}
use Rattle.nomos_pool.specs.declared.pool.Submission.{Submission}
use Rattle.nomos_pool.proofs.GatheringLaws.{gathered-kept}

-- the place of the first item that passes, or the number of items
pub place_or_len : {X : Type 0} (p : X → Bool) (xs : List X)
    → unwrap_or (position p xs) (length xs) ≡ position_or_len p xs
place_or_len p xs = go (ltb (position_or_len p xs) (length xs)) refl
  where
    go : (b : Bool) → ltb (position_or_len p xs) (length xs) ≡ b
        → unwrap_or (position p xs) (length xs) ≡ position_or_len p xs
    go true e = rw e refl
    go false e =
        let le : position_or_len p xs ≤ length xs = prefix_len-le-length (λ x. not (p x)) xs in
        let same : length xs ≡ position_or_len p xs = grind (arith, nat_tests) in
        rw e same

module _ {X : Type 0} (text : X → List ℕ) (name : List ℕ) where
  among-texts : (xs : List X) → list_any (λ x. bytes_eq name (text x)) xs
      ≡ list_any (λ n. bytes_eq name n) (map text xs)
  among-texts [] = refl
  among-texts (x ∷ xs) = rw (among-texts xs) refl

  -- the place of a name is that of the first item whose text it is
  pub place-of_text : (xs : List X) → position_or_len (λ x. bytes_eq name (text x)) xs
      ≡ position_or_len (λ m. bytes_eq m name) (map text xs)
  place-of_text [] = refl
  place-of_text (x ∷ xs) = rw (nat_list_eq_equiv.symm name (text x), place-of_text xs) refl

-- a name that is put behind the others, unless it is among them
pub puts-name : {X : Type 0} (text : X → List ℕ) (xs ys : List X) (x : X)
    → ys ≡ cond (list_any (λ y. bytes_eq (text x) (text y)) xs) xs (xs ++ x ∷ [])
    → map text ys ≡ with_name (map text xs) (text x)
puts-name text xs ys x is = ap (map text) is ∙ (go (list_any (λ y. bytes_eq (text x) (text y)) xs) refl)
  where
    go : (b : Bool) → list_any (λ y. bytes_eq (text x) (text y)) xs ≡ b
        → map text (cond (list_any (λ y. bytes_eq (text x) (text y)) xs) xs (xs ++ x ∷ []))
        ≡ with_name (map text xs) (text x)
    go true e = rw (e, sym (among-texts text (text x) xs) ∙ e) refl
    go false e = rw (e, sym (among-texts text (text x) xs) ∙ e) (map-append text xs (x ∷ []))

-- one batch more
pub with-one : (names : List (List ℕ)) (batches : List Batch) (batch : Batch)
    → with_accounts names (batches ++ batch ∷ []) ≡ with_name (with_accounts names batches) (account_name batch)
with-one names [] batch = refl
with-one names (b ∷ batches) batch = with-one (with_name names (account_name b)) batches batch

-- the threads of batches are below their number
pub threads-below : (n : ℕ) (batches : List Batch) → 0 < n → All (λ j. j < n) (threads_of n batches)
threads-below n batches some =
    let names = account_names batches in
    All-map (λ j. j < n) (λ b. thread_of n names (account_name b)) batches
    (λ k d low. mod-lt (position_or_len (λ m. bytes_eq m (account_name (slice_index_or batches k d))) names) some)

-- what an account sends stands in the order of the script
pub gathered-of_account : (n : ℕ) (batches : List Batch) (gathered : List (Submission Batch)) (name : List ℕ) → 0 < n
    → IsFairGathering n batches gathered
    → sent_by_account name (map (λ s. s.item) gathered) ≡ sent_by_account name batches
gathered-of_account n batches gathered name some fair =
    let names = account_names batches in
    gathered-kept n (λ batch. thread_of n names (account_name batch)) batches gathered
    (λ batch. bytes_eq (account_name batch) name) (thread_of n names name) (omega (arith, some))
    (λ batch same. ap (thread_of n names) ((bytes_eq-Decides (account_name batch) name).0 same)) fair
