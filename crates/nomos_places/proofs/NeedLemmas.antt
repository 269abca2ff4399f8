-- The table of what instructions can do without has what their judgements can, so the other one has what they need.
use Rattle.std.proofs.Common.{◌≡◌, ◌≤◌, ◌<◌, ◌+◌, ◌-◌, ◌⊎◌, inl, inr, ℕ, zero, suc, min, List, [], ◌∷◌, ◌++◌, map, take, get_or, Contains, Option, Some, None, IfSome, IsSome, length, slice_get, refl, sym, ap, subst, ◌∙◌, arith}
use Rattle.std.proofs.lemmas.Bool.{cases_lt}
use Rattle.std.proofs.lemmas.List.{length-append, map_more}
use Rattle.nomos_ir.specs.CodeParts.{code_next}
use Rattle.nomos_ir.specs.declared.code_node.Args.{Args}
use Rattle.nomos_ir.specs.declared.code_node.Arm.{Arm}
use Rattle.nomos_ir.specs.declared.code_node.CodeNode.{CodeNode}
use Rattle.nomos_ir.specs.declared.code_node.CodeNode.TheVariants as code
use Rattle.nomos_ir.specs.declared.declaration.ProcDecl.{ProcDecl}
use Rattle.nomos_ir.specs.declared.ids.ProcId.{ProcId}
use Rattle.nomos_types.proofs.FollowingLaws.{place, row-places}
use Rattle.nomos_types.proofs.InversionLaws.{derives-row, row-descends}
use Rattle.nomos_types.proofs.JudgementLaws.{follows-is_judgement}
use Rattle.nomos_types.proofs.OccurrenceLaws.{contains-cases, contains-head, contains-map, contains-tail, contains-unmap}
use Rattle.nomos_types.proofs.RowLaws.{RowAt, row-at}
use Rattle.nomos_types.specs.Acceptance.{Acceptance, IsAccepted}
use Rattle.nomos_types.specs.Amount.{dths}
use Rattle.nomos_types.specs.Derivation.{Follows}
use Rattle.nomos_types.specs.Judgement.{Judgement, IsJudgement}
use Rattle.nomos_types.specs.TypingRule.{StandsAtCode, TypingRule}
use Rattle.nomos_places.proofs.InsideLaws.{place-derives, place-inside}
use Rattle.nomos_places.proofs.ShiftLaws.{Affords, row-affords}
use Rattle.nomos_places.proofs.SpareLaws.{call-afforded, can-spare, spare-needs}
use Rattle.nomos_places.specs.LeastPotential.{CallNeeds, CanSpare, IsLowest}
use Rattle.nomos_places.specs.LeastPotential as needing
use Rattle.nomos_places.specs.WantedPlaces.{StandsIn}
use Rattle.nomos_places.specs.mirror.Needing.{ArePotentialsAt, HasLeast, called, lesser_of, lower, lowest, needed, spare_at}

-- ---- the lowest of several numbers

lesser-at_most : (o : Option ℕ) (most : ℕ) → lesser_of most o ≤ most
lesser-at_most None most = omega arith
lesser-at_most (Some s) most = omega arith

lesser-found : (o : Option ℕ) (most s : ℕ) → o ≡ Some s → lesser_of most o ≤ s
lesser-found None most s is = absurd cc
lesser-found (Some r) most s is =
    let same : r ≡ s = cc in
    omega (arith, same)

-- it is one of them
lesser-one : (o : Option ℕ) (most : ℕ)
    → (lesser_of most o ≡ most) ⊎ ((s : ℕ) × (o ≡ Some s) × (lesser_of most o ≡ s))
lesser-one None most = inl refl
lesser-one (Some s) most =
    elim (cases_lt most s) as
    (λ (_ : (most < s) ⊎ (s ≤ most)). (min most s ≡ most)
    ⊎ ((r : ℕ) × (Some s ≡ Some r) × (min most s ≡ r))) [
      | inl less ↦ inl (omega arith)
      | inr more ↦ inr (s, refl, omega arith)
    ]

module _ (spares : List ℕ) where
  lowest-at_most : (ats : List ℕ) (most : ℕ) → lowest spares most ats ≤ most
  lowest-at_most [] most = omega arith
  lowest-at_most (at ∷ ats) most =
      let first = lesser-at_most (slice_get spares at) most in
      let rest = lowest-at_most ats (lower spares most at) in
      omega (arith, first, rest)

  lowest-each : (ats : List ℕ) (most at s : ℕ) → Contains ats at → slice_get spares at ≡ Some s
      → lowest spares most ats ≤ s
  lowest-each [] most at s among found = absurd (omega (arith, among.1))
  lowest-each (b ∷ ats) most at s among found =
      elim (contains-cases b at ats among) [
        | inl same ↦
            let here : slice_get spares b ≡ Some s = ap (slice_get spares) same ∙ found in
            let first = lesser-found (slice_get spares b) most s here in
            let rest = lowest-at_most ats (lower spares most b) in
            omega (arith, first, rest)
        | inr others ↦ lowest-each ats (lower spares most b) at s others found
      ]

  -- the number that is the lowest is the first one, or what one of these can do without
  record IsOfOne (ats : List ℕ) (low : ℕ) : Type 0 where
    at : ℕ
    among : Contains ats at
    found : slice_get spares at ≡ Some low

  lowest-one : (ats : List ℕ) (most : ℕ) → (lowest spares most ats ≡ most) ⊎ IsOfOne ats (lowest spares most ats)
  lowest-one [] most = inl refl
  lowest-one (b ∷ ats) most =
      elim (lowest-one ats (lower spares most b)) [
        | inr other ↦
            inr (record { at = other.at; among = contains-tail b other.at ats other.among; found = other.found })
        | inl same ↦ elim (lesser-one (slice_get spares b) most) [
          | inl first ↦ inl (same ∙ first)
          | inr it ↦ inr (record {
            at = b;
            among = contains-head b b ats refl;
            found = it.1 ∙ ap (λ (k : ℕ). Some k) (sym (same ∙ it.2));
          })
        ]
      ]

  lowest-append : (ats others : List ℕ) (most : ℕ)
      → lowest spares most (ats ++ others) ≡ lowest spares (lowest spares most ats) others
  lowest-append [] others most = refl
  lowest-append (at ∷ ats) others most = lowest-append ats others (lower spares most at)

  -- one branch more
  pub lowest-more : (most : ℕ) (arms : List Arm) (i : ℕ) (d : Arm) → i < length arms
      → lowest spares most (map (λ (b : Arm). b.goes.0) (take (i + 1) arms))
      ≡ lower spares (lowest spares most (map (λ (b : Arm). b.goes.0) (take i arms))) (get_or arms i d).goes.0
  lowest-more most arms i d inside =
      let f : Arm → ℕ = λ b. b.goes.0 in
      ap (lowest spares most) (map_more f arms i d inside)
      ∙ lowest-append (map f (take i arms)) (f (get_or arms i d) ∷ []) most

pub length-more : (xs : List ℕ) (x n : ℕ) → n ≡ length xs → n + 1 ≡ length (xs ++ x ∷ [])
length-more xs x n is =
    let long = length-append xs (x ∷ []) in
    omega (arith, is, long)

-- ---- a judgement that stands in the program

module _ {a : Acceptance} (accepted : IsAccepted a) where
  -- those with which it goes on stand there too
  place-next : (j k : Judgement) (after : List Judgement) → StandsIn a j → TypingRule a.program a.annotations j after
      → Contains after k → StandsIn a k
  place-next j k after stands row among = record {
    number = stands.number;
    declaration = stands.declaration;
    declared = stands.declared;
    follows = Follows.next after stands.follows row among;
  }

  -- ---- calls

  called-some : (j : Judgement) {at : ℕ} (f : ProcId) (args : Args) (o : Option ProcDecl)
      → StandsAtCode a.program j (code.Call at f args) → slice_get a.program.procs f.0 ≡ o
      → (needed a o ≡ 0) ⊎ CallNeeds a.program a.annotations j (needed a o)
  called-some j f args None there is = inl refl
  called-some j f args (Some d) there is = inr (needing.call there is)

  -- what is called needs nothing, or it is a call
  abbrev IsCalled : Judgement → CodeNode → Type 0
  IsCalled j n = (called a n ≡ 0) ⊎ CallNeeds a.program a.annotations j (called a n)

  called-calls : (j : Judgement) (n : CodeNode) → StandsAtCode a.program j n → IsCalled j n
  called-calls j (code.Call at f args) there = called-some j f args (slice_get a.program.procs f.0) there refl
  called-calls j (code.Label at c l next) there = inl refl
  called-calls j (code.Case at c arms) there = inl refl
  called-calls j (code.Send at c y next) there = inl refl
  called-calls j (code.Recv at c y next) there = inl refl
  called-calls j (code.Put at c e next) there = inl refl
  called-calls j (code.Take at c v next) there = inl refl
  called-calls j (code.Pay at c r next) there = inl refl
  called-calls j (code.Get at c r next) there = inl refl
  called-calls j (code.Work at r next) there = inl refl
  called-calls j (code.Wait at v next) there = inl refl
  called-calls j (code.Accept at next) there = inl refl
  called-calls j (code.Detach at next) there = inl refl
  called-calls j (code.Acquire at s v next) there = inl refl
  called-calls j (code.Release at v s next) there = inl refl
  called-calls j (code.Spawn at v f args next) there = inl refl
  called-calls j (code.Let at v e next) there = inl refl
  called-calls j (code.Emit at e next) there = inl refl
  called-calls j (code.If at e then_next else_next) there = inl refl
  called-calls j (code.Close at) there = inl refl
  called-calls j (code.Fwd at v) there = inl refl
  called-calls j (code.Empty at v r kind next) there = inl refl
  called-calls j (code.Add at v e w next) there = inl refl
  called-calls j (code.Match at w empty_next head tail full_next) there = inl refl

  calls-called : (j : Judgement) (n : CodeNode) (needs : ℕ) → StandsAtCode a.program j n
      → CallNeeds a.program a.annotations j needs → called a n ≡ needs
  calls-called j n _ there (needing.call {at} {f} {args} {d} here found) =
      let same : n ≡ code.Call at f args = cc in
      ap (called a) same ∙ ap (needed a) found

  -- ---- what it can do without

  -- what a judgement can do without stands at its instruction
  pub record HasSpare (spares : List ℕ) (j : Judgement) : Type 0 where
    pub spare : ℕ
    pub found : slice_get spares j.code.0 ≡ Some spare
    pub can : CanSpare a.program a.annotations j spare

  module _ (spares : List ℕ) (j : Judgement) (stands : StandsIn a j)
      (before : (k : Judgement) → StandsIn a k → k.code.0 < j.code.0 → HasSpare spares k) (n : CodeNode)
      (there : StandsAtCode a.program j n) where
    abbrev Spare : ℕ
    Spare = spare_at a spares j.q n

    module _ (after : List Judgement) (row : TypingRule a.program a.annotations j after)
        (says : RowAt a.program a.annotations j n after) where
      next-spare : (k : Judgement) → Contains after k → HasSpare spares k
      next-spare k among =
          before k (place-next j k after stands row among) (row-descends accepted.typed.formed row among)

      paid : (needs : ℕ) → CallNeeds a.program a.annotations j needs → needs ≤ j.q
      paid needs is =
          let afford : Affords a.program a.annotations j n j.q =
          row-affords a.program a.annotations j.q j after n says in
          call-afforded j j.q n there afford needs is

      each-next : (k : Judgement) → Contains after k
          → (other : ℕ) × CanSpare a.program a.annotations k other × (Spare ≤ other)
      each-next k among =
          let h = next-spare k among in
          let at : Contains (map place after) (place k) = contains-map place after k (place k) among refl in
          let next : Contains (code_next n) (place k) =
          subst (λ (ns : List ℕ). Contains ns (place k)) (row-places a.program a.annotations j after n says) at in (
            h.spare,
            h.can,
            lowest-each spares (code_next n) (j.q - called a n) (place k) h.spare next h.found,
          )

      abbrev Reached : Type 0
      Reached = (Spare ≡ j.q)
          ⊎ (((k : Judgement) × Contains after k × CanSpare a.program a.annotations k Spare)
          ⊎ ((needs : ℕ) × CallNeeds a.program a.annotations j needs × (Spare + needs ≡ j.q)))

      by-first : Spare ≡ j.q - called a n → IsCalled j n → Reached
      by-first first (inl none) = inl (omega (arith, first, none))
      by-first first (inr is) =
          let enough = paid (called a n) is in
          inr (inr (called a n, is, omega (arith, first, enough)))

      by-next : IsOfOne spares (code_next n) Spare → Reached
      by-next one =
          let at : Contains (map place after) one.at =
          subst (λ (ns : List ℕ). Contains ns one.at) (sym (row-places a.program a.annotations j after n says))
          one.among
          in
          let (k, among, is) = contains-unmap place after one.at at in
          let h = next-spare k among in
          let own : slice_get spares k.code.0 ≡ Some h.spare = h.found in
          let other : slice_get spares k.code.0 ≡ Some Spare = ap (slice_get spares) is ∙ one.found in
          let same : h.spare ≡ Spare = some-same (sym own ∙ other) in
          inr (inl (k, among, subst (CanSpare a.program a.annotations k) same h.can))
        where
          some-same : {m k : ℕ} → Some m ≡ Some k → m ≡ k
          some-same is = cc

      reached : Reached
      reached = elim (lowest-one spares (code_next n) (j.q - called a n)) [
        | inl first ↦ by-first first (called-calls j n there)
        | inr one ↦ by-next one
      ]

      is-lowest : IsLowest a.program a.annotations j after Spare
      is-lowest = record {
        within = let low = lowest-at_most spares (code_next n) (j.q - called a n) in omega (arith, low);
        each = each-next;
        calls =
            λ needs is.
            let low = lowest-at_most spares (code_next n) (j.q - called a n) in
            let same = calls-called j n needs there is in
            let enough = paid needs is in
            omega (arith, low, same, enough);
        reached = reached;
      }

    place-can : CanSpare a.program a.annotations j Spare
    place-can =
        let derivation = place-derives accepted j stands in
        let (after, row) = derives-row accepted.typed.formed derivation in
        let (m, at, says) = row-at row in
        let same : m ≡ n = cc in
        let says_here : RowAt a.program a.annotations j n after =
        subst (λ (k : CodeNode). RowAt a.program a.annotations j k after) same says in
        let own : IsJudgement a.program j =
        follows-is_judgement a.annotations stands.number accepted.typed.formed stands.declared stands.follows in
        can-spare accepted.typed.formed j own derivation after row Spare (is-lowest after row says_here)

-- ---- tables

get-front : (xs : List ℕ) (x i v : ℕ) → slice_get xs i ≡ Some v → slice_get (xs ++ x ∷ []) i ≡ Some v
get-front [] x i v found = absurd cc
get-front (y ∷ xs) x zero v found = found
get-front (y ∷ xs) x (suc i) v found = get-front xs x i v found

get-last : (xs : List ℕ) (x : ℕ) → slice_get (xs ++ x ∷ []) (length xs) ≡ Some x
get-last [] x = refl
get-last (y ∷ xs) x = get-last xs x

get-at : (xs : List ℕ) (x i : ℕ) → i ≡ length xs → slice_get (xs ++ x ∷ []) i ≡ Some x
get-at xs x i is = ap (slice_get (xs ++ x ∷ [])) is ∙ get-last xs x

-- both are known: what the judgement can do without, and what it needs
pub record IsKnown (a : Acceptance) (spares leasts : List ℕ) (j : Judgement) : Type 0 where
  pub spare : ℕ
  pub found : slice_get spares j.code.0 ≡ Some spare
  pub can : CanSpare a.program a.annotations j spare
  pub least : slice_get leasts j.code.0 ≡ Some (j.q - spare)

abbrev pub AreKnown : Acceptance → ℕ → List ℕ → List ℕ → Type 0
AreKnown a below spares leasts = (j : Judgement) → StandsIn a j → j.code.0 < below → IsKnown a spares leasts j

-- one instruction more
pub known-more : {a : Acceptance} (accepted : IsAccepted a) (potentials spares leasts : List ℕ) (at q : ℕ)
    (n : CodeNode) → ArePotentialsAt a potentials → slice_get potentials at ≡ Some q
    → slice_get a.program.code at ≡ Some n
    → at ≡ length spares → at ≡ length leasts → AreKnown a at spares leasts
    → AreKnown a (at + 1) (spares ++ spare_at a spares q n ∷ []) (leasts ++ (q - spare_at a spares q n) ∷ [])
known-more {a} accepted potentials spares leasts at q n potentials_are here node spares_long leasts_long known j stands
    low =
    elim (cases_lt j.code.0 at) [
      | inl below ↦
          let k = known j stands below in
          record {
            spare = k.spare;
            found = get-front spares (spare_at a spares q n) j.code.0 k.spare k.found;
            can = k.can;
            least = get-front leasts (q - spare_at a spares q n) j.code.0 (j.q - k.spare) k.least;
          }
      | inr above ↦
          let is : j.code.0 ≡ at = omega (arith, above, low) in
          let own : slice_get potentials j.code.0 ≡ Some j.q = potentials_are j stands in
          let there : slice_get potentials j.code.0 ≡ Some q = ap (slice_get potentials) is ∙ here in
          let same : j.q ≡ q = some-same (sym own ∙ there) in
          let can = place-can accepted spares j stands
          (λ k stands_too lower_too.
          let m = known k stands_too (omega (arith, lower_too, is)) in
          record { spare = m.spare; found = m.found; can = m.can })
          n (ap (slice_get a.program.code) is ∙ node) in
          record {
            spare = spare_at a spares q n;
            found = get-at spares (spare_at a spares q n) j.code.0 (is ∙ spares_long);
            can =
                subst (λ (p : ℕ). CanSpare a.program a.annotations j (spare_at a spares p n)) same can;
            least =
                subst (λ (p : ℕ). slice_get (leasts ++ (q - spare_at a spares q n) ∷ []) j.code.0
                ≡ Some (p - spare_at a spares q n)) (sym same)
                (get-at leasts (q - spare_at a spares q n) j.code.0 (is ∙ leasts_long));
          }
    ]
  where
    some-same : {m k : ℕ} → Some m ≡ Some k → m ≡ k
    some-same is = cc

-- so where all are known, each has its least
pub known-least : {a : Acceptance} (accepted : IsAccepted a) (below : ℕ) (spares leasts : List ℕ)
    → length a.program.code ≤ below → AreKnown a below spares leasts → (j : Judgement) → StandsIn a j
    → HasLeast a leasts j
known-least {a} accepted below spares leasts all known j stands =
    let inside = place-inside accepted j stands in
    let k = known j stands (omega (arith, inside, all)) in
    record { least = j.q - k.spare; found = k.least; needs = spare-needs j k.spare k.can }
