-- Two ascending maps are paired exactly where they are so pair by pair, in order.
use Rattle.std.proofs.Common.{◌≡◌, ◌≢◌, ◌≤◌, ◌<◌, ◌+◌, ◌↔◌, ◌∙◌, inl, inr, ℕ, zero, suc, Bool, cond, List, [], ◌∷◌, length, get_or, Some, None, Less, refl, ap, subst, sym, arith, eq-eqb, ne_eqb}
use Rattle.std.proofs.lemmas.Bool.{cases_eq, cases_lt}
use Rattle.std.proofs.lemmas.Cmp.{ranked}
use Rattle.std.proofs.lemmas.List.{get_or_default}
use Rattle.std.proofs.lemmas.Map.Keys.{sorted_head, sorted_tail}
use Rattle.std.specs.List.{AllByRecursion}
use Rattle.std.specs.Map.{keys_of}
use Rattle.nomos_ir.proofs.PairedLaws.{none-left, paired-as, paired-in_order, paired-left, paired-right}
use Rattle.nomos_ir.specs.Bindings.{IsAscending, bound_to, by_number}
use Rattle.nomos_ir.specs.Paired.{ArePaired, PairedInOrder, neither, none, pair}
use Rattle.nomos_ir.specs.declared.ids.VarId.{VarId}

-- ---- what a map binds

module _ {X : Type 0} where
  first-bound : (e : VarId × X) (b : List (VarId × X)) → bound_to e.0.0 (e ∷ b) ≡ Some e.1
  first-bound e b = ap (λ (t : Bool). cond t (Some e.1) (bound_to e.0.0 b)) (eq-eqb e.0.0 e.0.0 refl)

  later-bound : (v : ℕ) (e : VarId × X) (b : List (VarId × X)) → e.0.0 ≢ v → bound_to v (e ∷ b) ≡ bound_to v b
  later-bound v e b other = ap (λ (t : Bool). cond t (Some e.1) (bound_to v b)) (ne_eqb e.0.0 v other)

  -- a variable at or below one that is below all is not bound
  above-none : (v : ℕ) (w : VarId) (b : List (VarId × X)) → v ≤ w.0
      → AllByRecursion (λ u. by_number w u ≡ Less) (keys_of b) → bound_to v b ≡ None
  above-none v w [] low above = refl
  above-none v w (e ∷ b) low above =
      let less : w.0 < e.0.0 = ranked w.0 e.0.0 Less (sym above.0) in
      later-bound v e b (λ same. omega (arith, same, less, low)) ∙ above-none v w b low above.1

  below-none : (v : ℕ) (e : VarId × X) (b : List (VarId × X)) → IsAscending (e ∷ b) → v < e.0.0
      → bound_to v (e ∷ b) ≡ None
  below-none v e b up low =
      later-bound v e b (λ same. omega (arith, same, low))
      ∙ above-none v e.0 b (omega (arith, low)) (sorted_head by_number e.0 (keys_of b) up)

  rest-none : (e : VarId × X) (b : List (VarId × X)) → IsAscending (e ∷ b) → bound_to e.0.0 b ≡ None
  rest-none e b up = above-none e.0.0 e.0 b (omega arith) (sorted_head by_number e.0 (keys_of b) up)

-- ---- pair by pair

module _ {X Y : Type 0} (R : X → Y → Type 0) where
  same-variable : (e : VarId × X) (f : VarId × Y) (b : List (VarId × X)) (c : List (VarId × Y)) → IsAscending (e ∷ b)
      → IsAscending (f ∷ c) → ArePaired R (e ∷ b) (f ∷ c) → e.0.0 ≡ f.0.0
  same-variable e f b c b_up c_up pairs = elim (cases_lt e.0.0 f.0.0) [
    | inl less ↦
        let nothing = none-left (pairs e.0.0) (below-none e.0.0 f c c_up less) in
        let here = first-bound e b in
        absurd cc
    | inr least ↦ elim (cases_lt f.0.0 e.0.0) [
      | inl less ↦
          let (x, there, related) = paired-left f.1 (pairs f.0.0) (first-bound f c) in
          let nothing = below-none f.0.0 e b b_up less in
          absurd cc
      | inr most ↦ omega (arith, least, most)
    ]
  ]

  pub paired-walk : (b : List (VarId × X)) (c : List (VarId × Y)) → IsAscending b → IsAscending c → ArePaired R b c
      → PairedInOrder R b c
  paired-walk [] [] b_up c_up pairs = none
  paired-walk [] (f ∷ c) b_up c_up pairs =
      let (x, there, related) = paired-left f.1 (pairs f.0.0) (first-bound f c) in
      absurd cc
  paired-walk (e ∷ b) [] b_up c_up pairs =
      let (y, there, related) = paired-right e.1 (pairs e.0.0) (first-bound e b) in
      absurd cc
  paired-walk (e ∷ b) (f ∷ c) b_up c_up pairs =
      let same : e.0.0 ≡ f.0.0 = same-variable e f b c b_up c_up pairs in
      let (y, there, related) = paired-right e.1 (pairs e.0.0) (first-bound e b) in
      let here : bound_to e.0.0 (f ∷ c) ≡ Some f.1 =
      subst (λ (v : ℕ). bound_to v (f ∷ c) ≡ Some f.1) (sym same) (first-bound f c) in
      let value : y ≡ f.1 = cc in
      let own : R e.1 f.1 = subst (λ (z : Y). R e.1 z) value related in
      let rest : ArePaired R b c = λ v. elim (cases_eq e.0.0 v) [
        | inl is ↦
            let left : bound_to v b ≡ None = subst (λ (w : ℕ). bound_to w b ≡ None) is (rest-none e b b_up) in
            let right : bound_to v c ≡ None =
            subst (λ (w : ℕ). bound_to w c ≡ None) (sym same ∙ is) (rest-none f c c_up) in
            paired-as left right neither
        | inr other ↦
            paired-as (sym (later-bound v e b other))
            (sym (later-bound v f c (λ at. other (same ∙ at)))) (pairs v)
      ] in
      let variable : e.0 ≡ f.0 = ap (λ (n : ℕ). record { 0 = n }) same in
      subst (λ (w : VarId). PairedInOrder R (e ∷ b) ((w, f.1) ∷ c)) variable
      (pair e.0 own (paired-walk b c (sorted_tail by_number e.0 (keys_of b) b_up)
      (sorted_tail by_number f.0 (keys_of c) c_up) rest))

  -- ---- place by place

  abbrev pub SideBySide : List (VarId × X) → List (VarId × Y) → ℕ → Type 0
  SideBySide b c n = (k : ℕ) (d : VarId × X) (e : VarId × Y) → k < n
      → ((get_or b k d).0 ≡ (get_or c k e).0) × R (get_or b k d).1 (get_or c k e).1

  pub side-order : (b : List (VarId × X)) (c : List (VarId × Y)) → length b ≡ length c → SideBySide b c (length b)
      → PairedInOrder R b c
  side-order [] [] long side = none
  side-order [] (f ∷ c) long side = absurd (omega (arith, long))
  side-order (e ∷ b) [] long side = absurd (omega (arith, long))
  side-order (e ∷ b) (f ∷ c) long side =
      let here = side 0 e f (omega arith) in
      subst (λ (w : VarId). PairedInOrder R (e ∷ b) ((w, f.1) ∷ c)) here.0
      (pair e.0 here.1 (side-order b c (omega (arith, long)) (λ k d g low. side (suc k) d g (omega (arith, low)))))

  pub order-long : (b : List (VarId × X)) (c : List (VarId × Y)) → PairedInOrder R b c → length b ≡ length c
  order-long _ _ none = refl
  order-long _ _ (pair {ps = ps} {qs = qs} v related rest) = omega (arith, order-long ps qs rest)

  pub order-side : (b : List (VarId × X)) (c : List (VarId × Y)) → PairedInOrder R b c → SideBySide b c (length b)
  order-side _ _ none k d e low = absurd (omega (arith, low))
  order-side _ _ (pair {ps = ps} {qs = qs} v related rest) zero d e low = (refl, related)
  order-side _ _ (pair {ps = ps} {qs = qs} v related rest) (suc k) d e low =
      order-side ps qs rest k d e (omega (arith, low))

  pub side-none : (b : List (VarId × X)) (c : List (VarId × Y)) → SideBySide b c 0
  side-none b c k d e low = absurd (omega (arith, low))

  -- one more pair
  pub side-more : (b : List (VarId × X)) (c : List (VarId × Y)) (n : ℕ) → SideBySide b c n
      → ((d : VarId × X) (e : VarId × Y) → ((get_or b n d).0 ≡ (get_or c n e).0) × R (get_or b n d).1 (get_or c n e).1)
      → SideBySide b c (n + 1)
  side-more b c n side here k d e low = elim (cases_lt k n) [
    | inl less ↦ side k d e less
    | inr least ↦
        let last : n ≡ k = omega (arith, low, least) in
        subst (λ (m : ℕ). ((get_or b m d).0 ≡ (get_or c m e).0) × R (get_or b m d).1 (get_or c m e).1) last (here d e)
  ]

  -- ---- where the walk stands

  module _ (b : List (VarId × X)) (c : List (VarId × Y)) (n : ℕ) (x : VarId × X) (f : VarId × Y) (inside : n < length b)
      (is : x ≡ get_or b n x) where
    abbrev Beside : VarId × X → VarId × Y → Type 0
    Beside d e = (d.0 ≡ e.0) × R d.1 e.1

    -- the pair there, whatever stands for what is not there
    pub beside-any : n < length c → Beside x (get_or c n f) → (d : VarId × X) (e : VarId × Y)
        → ((get_or b n d).0 ≡ (get_or c n e).0) × R (get_or b n d).1 (get_or c n e).1
    beside-any within beside d e =
        let left : x ≡ get_or b n d = is ∙ get_or_default b n x d inside in
        let right : get_or c n f ≡ get_or c n e = get_or_default c n f e within in
        subst (λ (y : VarId × X). Beside y (get_or c n e)) left
        (subst (λ (g : VarId × Y). Beside x g) right beside)

    pub beside-there : IsAscending b → IsAscending c → ArePaired R b c → Beside x (get_or c n f)
    beside-there b_up c_up pairs =
        subst (λ (y : VarId × X). Beside y (get_or c n f)) (sym is)
        (order-side b c (paired-walk b c b_up c_up pairs) n x f inside)

  -- ---- up to a place, and to the end

  pub side-next : (b : List (VarId × X)) (c : List (VarId × Y)) (n : ℕ) (x : VarId × X) (f : VarId × Y) → n < length b
      → n < length c
      → (SideBySide b c n × (((get_or b n x).0 ≡ (get_or c n f).0) × R (get_or b n x).1 (get_or c n f).1))
      ↔ SideBySide b c (n + 1)
  side-next b c n x f inside within = (
    λ both.
        side-more b c n both.0
        (beside-any b c n (get_or b n x) f inside (get_or_default b n x (get_or b n x) inside) within both.1),
    λ side. (λ k d e low. side k d e (omega (arith, low)), side n x f (omega arith)),
  )

  pub side-paired : (b : List (VarId × X)) (c : List (VarId × Y)) (n : ℕ) → n ≡ length b → length b ≡ length c
      → IsAscending b → IsAscending c → SideBySide b c n ↔ ArePaired R b c
  side-paired b c n whole long b_up c_up = (
    λ side. paired-in_order (side-order b c long (subst (SideBySide b c) whole side)),
    λ pairs. subst (SideBySide b c) (sym whole) (order-side b c (paired-walk b c b_up c_up pairs)),
  )
