-- How much of its potential a judgement can do without: the least of what each judgement can with which it goes on, and
-- of what is left at a call.
use Rattle.std.proofs.Common.{◌≡◌, ◌≤◌, ◌+◌, ◌-◌, inl, inr, ℕ, List, [], ◌∷◌, Contains, refl, subst, sym, ◌∙◌, arith}
use Rattle.nomos_ir.specs.declared.code_node.CodeNode.{CodeNode}
use Rattle.nomos_ir.specs.declared.code_node.CodeNode.TheVariants as code
use Rattle.nomos_ir.specs.declared.declaration.ProcDecl.{ProcDecl}
use Rattle.nomos_ir.specs.declared.lists.ProgramLists.{ProgramLists}
use Rattle.nomos_places.proofs.ShiftLaws.{Affords, Shifted, goes_on-q, binds_channel-q, row-affords, row-shift}
use Rattle.nomos_places.proofs.ShiftLaws as shifting
use Rattle.nomos_check.proofs.RowMaking.{row-made}
use Rattle.nomos_places.specs.LeastPotential.{CallNeeds, CanSpare, IsLowest, NeedsAtLeast}
use Rattle.nomos_places.specs.LeastPotential as needing
use Rattle.nomos_types.proofs.AlikeLaws.{alike-same}
use Rattle.nomos_types.proofs.InversionLaws.{derives-offers_mode, derives-row}
use Rattle.nomos_types.proofs.DerivationLaws.{derives-next}
use Rattle.nomos_types.proofs.OccurrenceLaws.{contains-cases, contains-head, contains-tail}
use Rattle.nomos_types.proofs.RowLaws.{RowAt, row-at, row-inverted}
use Rattle.nomos_types.proofs.UniqueRowLaws.{row_at-unique}
use Rattle.nomos_types.specs.Alike.{Alike}
use Rattle.nomos_types.specs.Amount.{Annotations, dths}
use Rattle.nomos_types.specs.Derivation.{Derives, by_row}
use Rattle.nomos_types.specs.Judgement.{Judgement, IsJudgement, ListType, with_potential, at_code}
use Rattle.nomos_types.specs.Modes.{HasMode}
use Rattle.nomos_types.specs.Typed.{IsWellFormed}
use Rattle.nomos_types.specs.TypingRule.{StandsAtCode, TypingRule}

-- ---- judgements with the other potential

-- one of the second judgements, for one of the first
record ShiftedTo (from to : ℕ) (ls : List Judgement) (k : Judgement) : Type 0 where
  potential : ℕ
  shifts : potential + from ≡ k.q + to
  among : Contains ls (with_potential k potential)

shifted-on : {from to : ℕ} {ks ls : List Judgement} (k : Judgement) → Shifted from to ks ls → Contains ks k
    → ShiftedTo from to ls k
shifted-on k shifting.none there = absurd (omega (arith, there.1))
shifted-on {from} {to} k (shifting.more {k = j} {l} {ks} {ls} n shifts is others) there =
    elim (contains-cases j k ks there) [
      | inl same ↦ subst (ShiftedTo from to (l ∷ ls)) same
          (record { potential = n; shifts = shifts; among = contains-head l (with_potential j n) ls is })
      | inr rest ↦
          let s = shifted-on k others rest in
          record {
            potential = s.potential;
            shifts = s.shifts;
            among = contains-tail l (with_potential k s.potential) ls s.among;
          }
    ]

-- one of the first judgements, for one of the second
record ShiftedFrom (from to : ℕ) (ks : List Judgement) (l : Judgement) : Type 0 where
  judgement : Judgement
  among : Contains ks judgement
  potential : ℕ
  shifts : potential + from ≡ judgement.q + to
  is : l ≡ with_potential judgement potential

shifted-back : {from to : ℕ} {ks ls : List Judgement} (l : Judgement) → Shifted from to ks ls → Contains ls l
    → ShiftedFrom from to ks l
shifted-back l shifting.none there = absurd (omega (arith, there.1))
shifted-back l (shifting.more {k = j} {l = i} {ks} {ls} n shifts is others) there =
    elim (contains-cases i l ls there) [
      | inl same ↦ record {
        judgement = j;
        among = contains-head j j ks refl;
        potential = n;
        shifts = shifts;
        is = sym same ∙ is;
      }
      | inr rest ↦
          let s = shifted-back l others rest in
          record {
            judgement = s.judgement;
            among = contains-tail j s.judgement ks s.among;
            potential = s.potential;
            shifts = s.shifts;
            is = s.is;
          }
    ]

-- ---- what an instruction takes

-- each judgement that goes on keeps enough
abbrev LeavesEach : Judgement → ℕ → List Judgement → Type 0
LeavesEach j m after = (k : Judgement) → Contains after k → j.q ≤ m + k.q

-- so does the one judgement that goes on
first-left : (j : Judgement) (m : ℕ) {after : List Judgement} (k : Judgement) → after ≡ k ∷ [] → LeavesEach j m after
    → j.q ≤ m + k.q
first-left j m {after} k is each =
    each k (subst (λ (ks : List Judgement). Contains ks k) (sym is) (contains-head k k [] refl))

module _ {lists : ProgramLists} {x : Annotations} (j : Judgement) (m : ℕ) where
  -- where each judgement that goes on keeps enough, what the instruction takes is there
  left-affords : (after : List Judgement) (n : CodeNode) → StandsAtCode lists j n → RowAt lists x j n after
      → LeavesEach j m after → ((needs : ℕ) → CallNeeds lists x j needs → needs ≤ m) → Affords lists x j n m
  left-affords after (code.Pay at c r next) stands (t, h, e) each calls =
      omega (arith, h.enough, first-left j m _ e each)
  left-affords after (code.Work at r next) stands (h, e) each calls = omega (arith, h, first-left j m _ e each)
  left-affords after (code.Spawn at v f args next) stands (d, left, h, e) each calls =
      λ other found.
      let declared = h.declared in
      let same : d ≡ other = cc in
      let old : Judgement = with_potential (at_code left next) (j.q - dths x d.amount) in
      let q = binds_channel-q old v d.mode d.offers in
      subst (λ (p : ProcDecl). dths x p.amount ≤ m) same (omega (arith, h.enough, q, first-left j m _ e each))
  left-affords after (code.Call at f args) stands (h, e) each calls =
      λ other found. calls (dths x other.amount) (needing.call stands found)
  left-affords after (code.Add at v e w next) stands (l, h, eq) each calls =
      λ other found.
      let there = h.there in
      let same : l ≡ other = cc in
      subst (λ (p : ListType). p.amount ≤ m) same (omega (arith, h.enough, first-left j m _ eq each))
  left-affords after (code.Label at c l next) stands says each calls = tt
  left-affords after (code.Case at c arms) stands says each calls = tt
  left-affords after (code.Send at c y next) stands says each calls = tt
  left-affords after (code.Recv at c y next) stands says each calls = tt
  left-affords after (code.Put at c e next) stands says each calls = tt
  left-affords after (code.Take at c v next) stands says each calls = tt
  left-affords after (code.Get at c r next) stands says each calls = tt
  left-affords after (code.Wait at v next) stands says each calls = tt
  left-affords after (code.Accept at next) stands says each calls = tt
  left-affords after (code.Detach at next) stands says each calls = tt
  left-affords after (code.Acquire at a v next) stands says each calls = tt
  left-affords after (code.Release at v a next) stands says each calls = tt
  left-affords after (code.Let at v e next) stands says each calls = tt
  left-affords after (code.Emit at e next) stands says each calls = tt
  left-affords after (code.If at e then_next else_next) stands says each calls = tt
  left-affords after (code.Close at) stands says each calls = tt
  left-affords after (code.Fwd at v) stands says each calls = tt
  left-affords after (code.Empty at v r kind next) stands says each calls = tt
  left-affords after (code.Match at w empty_next head tail full_next) stands says each calls = tt

  -- at a call what is called has to be there
  pub call-afforded : (n : CodeNode) → StandsAtCode lists j n → Affords lists x j n m → (needs : ℕ)
      → CallNeeds lists x j needs → needs ≤ m
  call-afforded n stands afford _ (needing.call {at} {f} {args} {d} there found) =
      let same : n ≡ code.Call at f args = cc in
      let paid : Affords lists x j (code.Call at f args) m =
      subst (λ (k : CodeNode). Affords lists x j k m) same afford in
      paid d found

-- ---- the law

module _ {lists : ProgramLists} {x : Annotations} (formed : IsWellFormed lists) (j : Judgement)
    (is_judgement : IsJudgement lists j) (derivation : Derives lists x j) (after : List Judgement)
    (row : TypingRule lists x j after) (spare : ℕ) (lowest : IsLowest lists x j after spare) where
  -- with another potential the judgement is like itself
  with-itself : (m : ℕ) → Alike lists x (with_potential j m) (with_potential j m)
  with-itself m =
      let (k, its_mode) = derives-offers_mode derivation in
      let self : Alike lists x j j = alike-same x formed.program formed.contractive is_judgement
      (derives-mode derivation) in
      record {
        mode = refl;
        kinds = refl;
        same_lists = refl;
        shared = self.shared;
        linear = self.linear;
        q = refl;
        code = refl;
        offers = self.offers;
      }
    where
      derives-mode : (d : Derives lists x j) → HasMode lists j.offers (derives-offers_mode d).0
      derives-mode d = (derives-offers_mode d).1

  -- a derivation with another potential
  gives-potential : (m : ℕ) → Derives lists x (with_potential j m) → j.q ≤ m + spare
  gives-potential m derives =
      let (n, stands, says) = row-at row in
      let (later, row_later) = derives-row formed derives in
      let says_later : RowAt lists x (with_potential j m) n later = row-inverted n stands row_later in
      let afford : Affords lists x j n m = row-affords lists x m j later n says_later in
      let (made, says_made, shifted) = row-shift lists x m j after n says afford in
      let same : made ≡ later = row_at-unique x formed.program (with_potential j m) n says_made says_later in
      let at_later : Shifted j.q m after later = subst (λ (ls : List Judgement). Shifted j.q m after ls) same shifted in
      elim lowest.reached [
        | inl all ↦ omega (arith, all)
        | inr others ↦ elim others [
          | inl next ↦
              let k = next.0 in
              let can = next.2 in
              let s = shifted-on k at_later next.1 in
              let onward : k.q ≤ s.potential + spare =
              (can.exact s.potential).0 (derives-next formed derives row_later s.among) in
              let shifts = s.shifts in
              omega (arith, onward, shifts)
          | inr called ↦
              let paid : called.0 ≤ m = call-afforded j m n stands afford called.0 called.1 in
              let is = called.2 in
              omega (arith, paid, is)
        ]
      ]

  -- and the other way
  potential-gives : (m : ℕ) → j.q ≤ m + spare → Derives lists x (with_potential j m)
  potential-gives m enough =
      let (n, stands, says) = row-at row in
      let left : LeavesEach j m after = λ k among.
      let (other, can, low) = lowest.each k among in
      let within = can.within in
      omega (arith, enough, low, within) in
      let calls : (needs : ℕ) → CallNeeds lists x j needs → needs ≤ m = λ needs is.
      let left_over = lowest.calls needs is in
      omega (arith, enough, left_over) in
      let afford : Affords lists x j n m = left-affords j m after n stands says left calls in
      let (later, says_later, shifted) = row-shift lists x m j after n says afford in
      by_row (with_potential j m) m later (with-itself m) (omega arith) (row-made n stands says_later)
      (λ next among.
      let s = shifted-back next shifted among in
      let (other, can, low) = lowest.each s.judgement s.among in
      let shifts = s.shifts in
      let reaches : s.judgement.q ≤ s.potential + other = omega (arith, enough, low, shifts) in
      subst (Derives lists x) (sym s.is) ((can.exact s.potential).1 reaches))

  -- What a judgement can do without, by what those can with which it goes on.
  pub can-spare : CanSpare lists x j spare
  can-spare = record {
    within = lowest.within;
    exact = λ m. (gives-potential m, potential-gives m);
  }

-- So it needs the rest.
pub spare-needs : {lists : ProgramLists} {x : Annotations} (j : Judgement) (spare : ℕ) → CanSpare lists x j spare
    → NeedsAtLeast lists x j (j.q - spare)
spare-needs j spare can m =
    let within = can.within in (
      λ derives. let enough = (can.exact m).0 derives in omega (arith, enough, within),
      λ enough. (can.exact m).1 (omega (arith, enough, within)),
    )
