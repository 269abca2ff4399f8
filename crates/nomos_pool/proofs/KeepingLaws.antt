-- What holds of each item that is dealt holds of each that is gathered.
use Rattle.std.proofs.Common.{◌≡◌, ℕ, ◌<◌, Bool, true, false, cond, eqb, List, [], ◌∷◌, All, map, refl, sym, subst, eq-eqb}
use Rattle.std.proofs.lemmas.List.Elements.{All-cons, All-head, All-nil, All-tail}
use Rattle.nomos_pool.specs.Gathering.{IsGathering, dealt_to}
use Rattle.nomos_pool.specs.PoolRule.{sent_by}
use Rattle.nomos_pool.specs.declared.pool.Submission.{Submission}

module _ {T : Type 0} (P : T → Type 0) where
  with-first : (b : Bool) (x : T) (xs : List T) → P x → All P xs → All P (cond b (x ∷ xs) xs)
  with-first true x xs first rest = All-cons P x xs first rest
  with-first false x xs first rest = rest

  behind-first : (b : Bool) (x : T) (xs : List T) → All P (cond b (x ∷ xs) xs) → All P xs
  behind-first true x xs all = All-tail P x xs all
  behind-first false x xs all = all

  the-first : (b : Bool) (x : T) (xs : List T) → b ≡ true → All P (cond b (x ∷ xs) xs) → P x
  the-first b x xs is all = All-head P x xs (subst (λ (b : Bool). All P (cond b (x ∷ xs) xs)) is all)

  dealt-kept : (j : ℕ) (threads : List ℕ) (items : List T) → All P items → All P (dealt_to j threads items)
  dealt-kept j [] items all = All-nil P
  dealt-kept j (t ∷ threads) [] all = All-nil P
  dealt-kept j (t ∷ threads) (x ∷ items) all =
      with-first (eqb t j) x (dealt_to j threads items) (All-head P x items all)
      (dealt-kept j threads items (All-tail P x items all))

  sent-kept : (n : ℕ) (gathered : List (Submission T)) → All (λ s. s.sender < n) gathered
      → ((j : ℕ) → j < n → All P (sent_by j gathered)) → All P (map (λ s. s.item) gathered)
  sent-kept n [] low all = All-nil P
  sent-kept n (s ∷ gathered) low all =
      All-cons P s.item (map (λ s. s.item) gathered)
      (the-first (eqb s.sender s.sender) s.item (sent_by s.sender gathered) (eq-eqb s.sender s.sender refl)
      (all s.sender (All-head (λ (y : Submission T). y.sender < n) s gathered low)))
      (sent-kept n gathered (All-tail (λ (y : Submission T). y.sender < n) s gathered low)
      (λ j below. behind-first (eqb s.sender j) s.item (sent_by j gathered) (all j below)))

  -- what holds of each item that is dealt holds of each that is gathered
  pub gathered-kept : (n : ℕ) (threads : List ℕ) (items : List T) (gathered : List (Submission T))
      → IsGathering n threads items gathered → All P items → All P (map (λ s. s.item) gathered)
  gathered-kept n threads items gathered g all =
      sent-kept n gathered g.others
      (λ j below. subst (All P) (sym (g.each j below)) (dealt-kept j threads items all))
