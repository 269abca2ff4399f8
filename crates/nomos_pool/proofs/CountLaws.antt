-- Items of which each sender has as many in both are as many in both.
use Rattle.std.proofs.Common.{◌≡◌, ◌≢◌, ℕ, suc, cond, eqb, List, [], ◌∷◌, ◌++◌, length, slice_index_or, sym, refl, ap, ◌∙◌, subst, arith, append-nil, length-append, eq-eqb, ne_eqb}
use mathlib.Core.Logic.{dite}
use native.Mathlib.Decide.{ℕ_discrete}
use Rattle.nomos_pool.specs.PoolRule.{none_left, sent_by}
use Rattle.nomos_pool.specs.declared.pool_rule.PoolView.{PoolView}
use Rattle.nomos_pool.specs.declared.pool.Submission.{Submission}

nothing : {X : Type 0} (xs : List X) → length xs ≡ 0 → xs ≡ []
nothing [] is = refl
nothing (x ∷ xs) is = absurd (omega arith)

module _ {T : Type 0} where
  pub sent-own : (n : ℕ) (x : Submission T) (xs : List (Submission T)) → x.sender ≡ n
      → sent_by n (x ∷ xs) ≡ x.item ∷ sent_by n xs
  sent-own n x xs is = ap (λ b. cond b (x.item ∷ sent_by n xs) (sent_by n xs)) (eq-eqb x.sender n is)

  pub sent-other : (n : ℕ) (x : Submission T) (xs : List (Submission T)) → x.sender ≢ n
      → sent_by n (x ∷ xs) ≡ sent_by n xs
  sent-other n x xs ne = ap (λ b. cond b (x.item ∷ sent_by n xs) (sent_by n xs)) (ne_eqb x.sender n ne)

  -- the items without the first one of a sender
  record Without (n : ℕ) (ys : List (Submission T)) (bs : List T) : Type 0 where
    left : List (Submission T)
    one : length ys ≡ suc (length left)
    others : (m : ℕ) → m ≢ n → sent_by m left ≡ sent_by m ys
    own : sent_by n left ≡ bs

  without : (n : ℕ) (ys : List (Submission T)) (a : T) (bs : List T) → sent_by n ys ≡ a ∷ bs → Without n ys bs
  without n [] a bs is = absurd (cc is)
  without n (y ∷ ys) a bs is = dite (ℕ_discrete y.sender n)
      (λ (e : y.sender ≡ n). record {
        left = ys;
        one = refl;
        others = λ m ne. sym (sent-other m y ys (λ same. ne (sym same ∙ e)));
        own = let all : y.item ∷ sent_by n ys ≡ a ∷ bs = sym (sent-own n y ys e) ∙ is in cc all;
      })
      (λ (ne : y.sender ≢ n).
      let r = without n ys a bs (sym (sent-other n y ys ne) ∙ is) in
      record {
        left = y ∷ r.left;
        one = ap suc r.one;
        others = λ m other. ap (λ l. cond (eqb y.sender m) (y.item ∷ l) l) (r.others m other);
        own = sent-other n y r.left ne ∙ r.own;
      })

  pub same-length : (xs ys : List (Submission T)) → ((n : ℕ) → sent_by n xs ≡ sent_by n ys) → length xs ≡ length ys
  same-length [] [] same = refl
  same-length [] (y ∷ ys) same =
      absurd (let is : [] ≡ y.item ∷ sent_by y.sender ys = same y.sender ∙ sent-own y.sender y ys refl in cc is)
  same-length (x ∷ xs) ys same =
      let r = without x.sender ys x.item (sent_by x.sender xs) (sym (same x.sender) ∙ sent-own x.sender x xs refl) in
      ap suc (same-length xs r.left (λ m. dite (ℕ_discrete m x.sender)
      (λ e. subst (λ (k : ℕ). sent_by k xs ≡ sent_by k r.left) (sym e) (sym r.own))
      (λ ne. sym (sent-other m x xs (λ e. ne (sym e))) ∙ (same m ∙ sym (r.others m ne)))))
      ∙ sym r.one

  -- where nothing is left, all is there
  pub rest-there : (a b : PoolView T) (room items : List (Submission T)) → a.taken ≡ b.taken ++ room → a.known ≡ b.known
      → length items ≡ 0 → none_left a items → none_left b room
  rest-there a b room items taken known empty left n =
      ap (sent_by n) (sym taken ∙ sym (append-nil a.taken) ∙ ap (λ l. a.taken ++ l) (sym (nothing items empty)))
      ∙ (left n ∙ ap (λ l. slice_index_or l n []) known)

  -- where as many were taken as were left, nothing is left
  pub all-gone : (a b : PoolView T) (room first items : List (Submission T)) → a.taken ≡ b.taken ++ room
      → a.known ≡ b.known
      → none_left b first → length first ≡ length room → none_left a items → length items ≡ 0
  all-gone a b room first items taken known before as_many left =
      let same : (n : ℕ) → sent_by n (b.taken ++ first) ≡ sent_by n (a.taken ++ items) =
      λ n. before n ∙ (ap (λ l. slice_index_or l n []) (sym known) ∙ sym (left n)) in
      let long : length (b.taken ++ first) ≡ length (a.taken ++ items) =
      same-length (b.taken ++ first) (a.taken ++ items) same in
      let whole : length a.taken ≡ length (b.taken ++ room) = ap length taken in
      let before = length-append b.taken first in
      let after = length-append a.taken items in
      omega (arith, long, whole, as_many, before, after, length-append b.taken room)
