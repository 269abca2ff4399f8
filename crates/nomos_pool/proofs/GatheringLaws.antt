-- What holds of items that are gathered: those that one thread has keep their order, and all weigh the same.
use Rattle.std.proofs.Common.{◌≡◌, ◌≢◌, ◌∙◌, ℕ, ◌<◌, Bool, true, false, true≢false, cond, eqb, List, [], ◌∷◌, All, filter, map, refl, sym, ap, subst, eq-eqb, ne_eqb}
use Rattle.std.proofs.lemmas.List.Elements.{All-cons, All-head, All-nil, All-tail}
use mathlib.Core.Logic.{dite}
use native.Mathlib.Decide.{ℕ_discrete}
use Rattle.nomos_pool.specs.Gathering.{IsGathering, dealt_to}
use Rattle.nomos_pool.specs.PoolRule.{sent_by}
use Rattle.nomos_pool.specs.declared.pool.Submission.{Submission}

module _ {T : Type 0} where
  -- what a test keeps of what a thread has, where it passes nothing of another thread
  keeps : (test : T → Bool) (x : T) (thread j : ℕ) (rest kept : List T) → (test x ≡ true → thread ≡ j)
      → filter test rest ≡ kept
      → filter test (cond (eqb thread j) (x ∷ rest) rest) ≡ cond (test x) (x ∷ kept) kept
  keeps test x thread j rest kept agree ih = go (eqb thread j) refl (test x) refl
    where
      go : (b : Bool) → eqb thread j ≡ b → (t : Bool) → test x ≡ t
          → filter test (cond b (x ∷ rest) rest) ≡ cond (test x) (x ∷ kept) kept
      go true e t is = ap (λ l. cond (test x) (x ∷ l) l) ih
      go false e true is = absurd (true≢false (sym (eq-eqb thread j (agree is)) ∙ e))
      go false e false is = ih ∙ ap (λ b. cond b (x ∷ kept) kept) (sym is)

  kept-dealt : (thread : T → ℕ) (test : T → Bool) (j : ℕ) → ((x : T) → test x ≡ true → thread x ≡ j) → (items : List T)
      → filter test (dealt_to j (map thread items) items) ≡ filter test items
  kept-dealt thread test j agree [] = refl
  kept-dealt thread test j agree (x ∷ items) =
      keeps test x (thread x) j (dealt_to j (map thread items) items) (filter test items) (agree x)
      (kept-dealt thread test j agree items)

  all-dealt : (thread : T → ℕ) (j : ℕ) (items : List T)
      → All (λ x. thread x ≡ j) (dealt_to j (map thread items) items)
  all-dealt thread j [] = All-nil (λ (x : T). thread x ≡ j)
  all-dealt thread j (x ∷ items) =
      let rest = dealt_to j (map thread items) items in
      let ih = all-dealt thread j items in
      dite (ℕ_discrete (thread x) j)
      (λ (e : thread x ≡ j). subst (λ (b : Bool). All (λ y. thread y ≡ j) (cond b (x ∷ rest) rest))
      (sym (eq-eqb (thread x) j e)) (All-cons (λ y. thread y ≡ j) x rest e ih))
      (λ (ne : thread x ≢ j). subst (λ (b : Bool). All (λ y. thread y ≡ j) (cond b (x ∷ rest) rest))
      (sym (ne_eqb (thread x) j ne)) ih)

  rest-all : (P : T → Type 0) (b : Bool) (x : T) (xs : List T) → All P (cond b (x ∷ xs) xs) → All P xs
  rest-all P true x xs all = All-tail P x xs all
  rest-all P false x xs all = all

  own : (thread : T → ℕ) (n : ℕ) (gathered : List (Submission T)) → All (λ s. s.sender < n) gathered
      → ((j : ℕ) → j < n → All (λ x. thread x ≡ j) (sent_by j gathered))
      → All (λ s. thread s.item ≡ s.sender) gathered
  own thread n [] others each = All-nil (λ (s : Submission T). thread s.item ≡ s.sender)
  own thread n (s ∷ gathered) others each =
      let low : s.sender < n = All-head (λ (y : Submission T). y.sender < n) s gathered others in
      let rest = sent_by s.sender gathered in
      let mine = subst (λ (b : Bool). All (λ y. thread y ≡ s.sender) (cond b (s.item ∷ rest) rest))
      (eq-eqb s.sender s.sender refl) (each s.sender low) in
      All-cons (λ (y : Submission T). thread y.item ≡ y.sender) s gathered
      (All-head (λ y. thread y ≡ s.sender) s.item rest mine)
      (own thread n gathered (All-tail (λ (y : Submission T). y.sender < n) s gathered others)
      (λ j below. rest-all (λ y. thread y ≡ j) (eqb s.sender j) s.item (sent_by j gathered) (each j below)))

  kept-sent : (thread : T → ℕ) (test : T → Bool) (j : ℕ) → ((x : T) → test x ≡ true → thread x ≡ j)
      → (gathered : List (Submission T)) → All (λ s. thread s.item ≡ s.sender) gathered
      → filter test (sent_by j gathered) ≡ filter test (map (λ s. s.item) gathered)
  kept-sent thread test j agree [] all = refl
  kept-sent thread test j agree (s ∷ gathered) all =
      keeps test s.item s.sender j (sent_by j gathered) (filter test (map (λ y. y.item) gathered))
      (λ passes. sym (All-head (λ (y : Submission T). thread y.item ≡ y.sender) s gathered all) ∙ agree s.item passes)
      (kept-sent thread test j agree gathered
      (All-tail (λ (y : Submission T). thread y.item ≡ y.sender) s gathered all))

  -- what a test passes stands in its order, where it passes nothing but of one thread
  pub gathered-kept : (n : ℕ) (thread : T → ℕ) (items : List T) (gathered : List (Submission T)) (test : T → Bool)
      (j : ℕ) → j < n → ((x : T) → test x ≡ true → thread x ≡ j) → IsGathering n (map thread items) items gathered
      → filter test (map (λ s. s.item) gathered) ≡ filter test items
  gathered-kept n thread items gathered test j low agree g =
      let all = own thread n gathered g.others
      (λ k below. subst (All (λ x. thread x ≡ k)) (sym (g.each k below)) (all-dealt thread k items)) in
      sym (kept-sent thread test j agree gathered all)
      ∙ (ap (filter test) (g.each j low) ∙ kept-dealt thread test j agree items)
