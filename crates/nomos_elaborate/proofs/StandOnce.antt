-- Nodes that stand after their parts, each in one place or still waiting for one.
use Rattle.std.proofs.Common.{◌≡◌, ◌<◌, ◌≤◌, ◌==◌, inl, inr, ℕ, ◌+◌, cond, List, [], ◌∷◌, ◌++◌, length, get_or, map, slice_get, Some, flat_map, refl, sym, ap, subst, ◌∙◌, append-nil, arith}
use Rattle.std.proofs.lemmas.Bool.{cases_lt, cases_eq}
use Rattle.std.proofs.lemmas.Bool.Decides.{nat_tests}
use Rattle.std.proofs.lemmas.List.{get_or_append_left, get_or_at, length_push, map_push}
use Rattle.std.proofs.lemmas.List.Concat.{flat_map-append}
use Rattle.std.proofs.lemmas.List.Elements.{All-cons, All-nil}
use Rattle.std.proofs.lemmas.List.Sums.{sum_by-cons, sum_by-append}
use Rattle.std.proofs.lemmas.Option.{get_or_from_slice_get, slice_get_within}
use Rattle.nomos_ir.specs.Ids.{AllBelow}
use Rattle.nomos_ir.specs.Order.{count_of}

-- how often a number stands in two lists
pub count_of-append : (k : ℕ) (xs ys : List ℕ) → count_of k (xs ++ ys) ≡ count_of k xs + count_of k ys
count_of-append k xs ys = sum_by-append (λ x. cond (x == k) 1 0) xs ys

-- 1 for the number k, and 0 for another
abbrev pub one_if : ℕ → ℕ → ℕ
one_if k x = cond (x == k) 1 0

-- and in a list with one more at the front
pub count_of-cons : (k x : ℕ) (xs : List ℕ) → count_of k (x ∷ xs) ≡ one_if k x + count_of k xs
count_of-cons k x xs = sum_by-cons (λ y. cond (y == k) 1 0) x xs

-- a number is itself
one_same : (k : ℕ) → one_if k k ≡ 1
one_same k = grind (arith, nat_tests)

-- and no other
one_other : (k x : ℕ) → (x ≡ k → ⊥) → one_if k x ≡ 0
one_other k x other = grind (arith, nat_tests)

-- one number stands as often before others as among them
count_of-swap : (k x : ℕ) (xs ys : List ℕ) → count_of k (x ∷ (xs ++ ys)) ≡ count_of k (xs ++ (x ∷ ys))
count_of-swap k x xs ys =
    let first = count_of-cons k x (xs ++ ys) in
    let apart = count_of-append k xs ys in
    let among = count_of-append k xs (x ∷ ys) in
    let inner = count_of-cons k x ys in
    omega arith

-- the parts of one node more
flat_map_push : {X : Type 0} (parts : X → List ℕ) (nodes : List X) (node : X)
    → flat_map parts (nodes ++ node ∷ []) ≡ flat_map parts nodes ++ parts node
flat_map_push parts nodes node =
    flat_map-append parts nodes (node ∷ []) ∙ ap (λ l. flat_map parts nodes ++ l) (append-nil (parts node))

-- how often a number stands among those of one item more
pub count_of-map_push : {X : Type 0} (k : ℕ) (f : X → ℕ) (xs : List X) (x : X)
    → count_of k (map f (xs ++ x ∷ [])) ≡ count_of k (map f xs) + one_if k (f x)
count_of-map_push k f xs x =
    let pushed : count_of k (map f (xs ++ x ∷ [])) ≡ count_of k (map f xs ++ f x ∷ []) =
    ap (count_of k) (map_push f xs x) in
    let apart = count_of-append k (map f xs) (f x ∷ []) in
    let last : count_of k (f x ∷ []) ≡ one_if k (f x) + 0 = count_of-cons k (f x) [] in
    omega arith

-- and so where each item has several
pub count_of-flat_map_push : {X : Type 0} (k : ℕ) (f : X → List ℕ) (xs : List X) (x : X)
    → count_of k (flat_map f (xs ++ x ∷ [])) ≡ count_of k (flat_map f xs) + count_of k (f x)
count_of-flat_map_push k f xs x = ap (count_of k) (flat_map_push f xs x) ∙ count_of-append k (flat_map f xs) (f x)

-- the numbers below n stand once, either among those that wait or among those in their places; no other stands
pub record Once (n : ℕ) (waiting placed : List ℕ) : Type 0 where
  pub below : (k : ℕ) → k < n → count_of k waiting + count_of k placed ≡ 1
  pub past : (k : ℕ) → n ≤ k → count_of k waiting + count_of k placed ≡ 0

-- numbers that do not stand from n on are below n
below_if_none : (n : ℕ) (xs : List ℕ) → ((k : ℕ) → n ≤ k → count_of k xs ≡ 0) → AllBelow n xs
below_if_none n [] none = All-nil (λ k. k < n)
below_if_none n (x ∷ xs) none = All-cons (λ k. k < n) x xs head (below_if_none n xs tail)
  where
    head : x < n
    head = elim (cases_lt x n) [ inl within ↦ within | inr le ↦ absurd (wrong le) ]
      where
        wrong : n ≤ x → ⊥
        wrong le =
            let none_there = none x le in
            let more = count_of-cons x x xs in
            let one = one_same x in
            omega arith

    tail : (k : ℕ) → n ≤ k → count_of k xs ≡ 0
    tail k le = let none_there = none k le in let more = count_of-cons k x xs in omega arith

-- the first of those that wait are below n
first_below : (n : ℕ) (parts rest placed : List ℕ) → Once n (parts ++ rest) placed → AllBelow n parts
first_below n parts rest placed once =
    below_if_none n parts (λ k le. let none = once.past k le in let both = count_of-append k parts rest in omega arith)

-- a node takes the place of its parts among those that wait
once_more : (n m : ℕ) (parts rest placed : List ℕ)
    → m ≡ n + 1 → Once n (parts ++ rest) placed → Once m (n ∷ rest) (placed ++ parts)
once_more n m parts rest placed next once = record { below = below_m; past = past_m }
  where
    at_n : (k : ℕ) → k ≡ n → one_if k n ≡ 1
    at_n k same = rw same (one_same n)

    below_m : (k : ℕ) → k < m → count_of k (n ∷ rest) + count_of k (placed ++ parts) ≡ 1
    below_m k within = elim (cases_eq k n) [
      | inl same ↦
          let none = once.past k (omega arith) in
          let before = count_of-append k parts rest in
          let after = count_of-append k placed parts in
          let more = count_of-cons k n rest in
          let one = at_n k same in
          omega arith
      | inr other ↦
          let within_n : k < n = grind arith in
          let one_there = once.below k within_n in
          let before = count_of-append k parts rest in
          let after = count_of-append k placed parts in
          let more = count_of-cons k n rest in
          let none = one_other k n (λ same. other (sym same)) in
          omega arith
    ]

    past_m : (k : ℕ) → m ≤ k → count_of k (n ∷ rest) + count_of k (placed ++ parts) ≡ 0
    past_m k le =
        let none_there = once.past k (omega arith) in
        let before = count_of-append k parts rest in
        let after = count_of-append k placed parts in
        let more = count_of-cons k n rest in
        let none = one_other k n (λ same. omega arith) in
        omega arith

-- the parts of each node have lower numbers than the node
pub record Lower (X : Type 0) (parts : X → List ℕ) (nodes : List X) : Type 0 where
  pub at : (k : ℕ) (d : X) → k < length nodes → AllBelow k (parts (get_or nodes k d))

-- there are no nodes at the start
pub lower_none : (X : Type 0) (parts : X → List ℕ) → Lower X parts []
lower_none X parts = record { at = λ k d within. absurd (omega arith) }

-- one node more, whose parts are lower
pub lower_more : (X : Type 0) (parts : X → List ℕ) (nodes : List X) (node : X)
    → AllBelow (length nodes) (parts node) → Lower X parts nodes → Lower X parts (nodes ++ node ∷ [])
lower_more X parts nodes node new lower = record {
  at = λ k d within. elim (cases_lt k (length nodes)) [
    | inl before ↦
        subst (λ x. AllBelow k (parts x)) (sym (get_or_append_left nodes (node ∷ []) d k before)) (lower.at k d before)
    | inr le ↦
        let last : k ≡ length nodes = omega (arith, length_push nodes node) in
        subst (λ x. AllBelow k (parts x)) (sym (get_or_at nodes node [] d k (sym last)))
        (subst (λ m. AllBelow m (parts node)) (sym last) new)
  ];
}

-- so it is of each node that is found
pub lower_found : (X : Type 0) (parts : X → List ℕ) (nodes : List X)
    → Lower X parts nodes → (k : ℕ) (node : X) → slice_get nodes k ≡ Some node → AllBelow k (parts node)
lower_found X parts nodes lower k node found =
    subst (λ x. AllBelow k (parts x)) (get_or_from_slice_get nodes k node node found)
    (lower.at k node (slice_get_within nodes k node found))

-- the nodes stand after their parts, and each stands in one place: among those that wait, or as a part
pub record Placed (X : Type 0) (parts : X → List ℕ) (waiting : List ℕ) (nodes : List X) : Type 0 where
  pub once : Once (length nodes) waiting (flat_map parts nodes)
  pub lower : Lower X parts nodes

-- there are no nodes at the start
pub placed_none : (X : Type 0) (parts : X → List ℕ) → Placed X parts [] []
placed_none X parts = record {
  once = record { below = λ k within. absurd (omega arith); past = λ k le. refl };
  lower = lower_none X parts;
}

-- only how often numbers wait counts
pub placed_same : (X : Type 0) (parts : X → List ℕ) (waiting others : List ℕ) (nodes : List X)
    → ((k : ℕ) → count_of k others ≡ count_of k waiting) → Placed X parts waiting nodes
    → Placed X parts others nodes
placed_same X parts waiting others nodes same h = record {
  once = record {
    below = λ k within. let e = same k in let f = h.once.below k within in omega arith;
    past = λ k le. let e = same k in let f = h.once.past k le in omega arith;
  };
  lower = h.lower;
}

-- a number that waits, before the others that wait
pub placed_front : (X : Type 0) (parts : X → List ℕ) (x : ℕ) (xs ys : List ℕ) (nodes : List X)
    → Placed X parts (xs ++ (x ∷ ys)) nodes → Placed X parts (x ∷ (xs ++ ys)) nodes
placed_front X parts x xs ys nodes h =
    placed_same X parts (xs ++ (x ∷ ys)) (x ∷ (xs ++ ys)) nodes (λ k. count_of-swap k x xs ys) h

-- a node whose parts waited, and which waits in their place
pub placed_more : (X : Type 0) (parts : X → List ℕ) (rest : List ℕ) (nodes : List X) (node : X) (own : List ℕ)
    → parts node ≡ own → Placed X parts (own ++ rest) nodes
    → Placed X parts (length nodes ∷ rest) (nodes ++ node ∷ [])
placed_more X parts rest nodes node own are h = record {
  once =
      subst (Once (length (nodes ++ node ∷ [])) (length nodes ∷ rest)) (sym (flat_map_push parts nodes node))
      (subst (λ l. Once (length (nodes ++ node ∷ [])) (length nodes ∷ rest) (flat_map parts nodes ++ l)) (sym are)
      (once_more (length nodes) (length (nodes ++ node ∷ [])) own rest (flat_map parts nodes)
      (length_push nodes node) h.once));
  lower =
      lower_more X parts nodes node
      (subst (AllBelow (length nodes)) (sym are) (first_below (length nodes) own rest (flat_map parts nodes) h.once))
      h.lower;
}
