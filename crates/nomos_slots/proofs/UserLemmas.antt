-- The lowest process that has a name, as far as cells were gone over.
use Rattle.std.proofs.Common.{◌≡◌, ◌∙◌, ◌<◌, ◌+◌, ◌⊎◌, inl, inr, ◌==◌, ◌&&◌, ℕ, Bool, true, false, cond, List, length, min, Option, Some, None, refl, sym, ap, subst, arith, eqb-true, eq-eqb}
use Rattle.std.proofs.lemmas.Bool.{cases_eq, eqb-false}
use Rattle.std.specs.Option.{MatchOption}
use Rattle.nomos_slots.specs.Cells.{Cell, IsOnce, cell_at, is_of}
use Rattle.nomos_slots.specs.Users.{HasName, IsLowestUser, lower_user}
use Rattle.nomos_slots.specs.declared.cells.NamedVariable.{NamedVariable}
use Rattle.nomos_slots.proofs.CellLemmas.{has-name, name-has, some-within}

module _ (cells : List Cell) (name : ℕ) where
  -- an entry of the process in one of the first cells has the name
  pub record UsedBelow (at process : ℕ) : Type 0 where
    pub place : ℕ
    pub entry : NamedVariable
    pub within : place < at
    pub there : cell_at cells place ≡ Some entry
    pub own : entry.process ≡ process
    pub named : entry.name ≡ name

  -- the lowest process of which there is such an entry, and none where there is none
  abbrev pub LowestBelow : ℕ → Option ℕ → Type 0
  LowestBelow at result =
      MatchOption
      result
      ((process : ℕ) → UsedBelow at process → ⊥)
      (λ lowest. UsedBelow at lowest × ((process : ℕ) → process < lowest → UsedBelow at process → ⊥))

  used-more : (at process : ℕ) → UsedBelow at process → UsedBelow (at + 1) process
  used-more at process used = record {
    place = used.place;
    entry = used.entry;
    within = omega (arith, used.within);
    there = used.there;
    own = used.own;
    named = used.named;
  }

  -- an entry in one cell more is one of before, or the last one
  used-last : (at process : ℕ) → UsedBelow (at + 1) process
      → UsedBelow at process ⊎ ((e : NamedVariable) × (cell_at cells at ≡ Some e) × (e.process ≡ process)
      × (e.name ≡ name))
  used-last at process used =
      elim (cases_eq used.place at) [
        | inl same ↦
            inr (used.entry, ap (cell_at cells) (sym same) ∙ used.there, used.own, used.named)
        | inr other ↦ inl (record {
          place = used.place;
          entry = used.entry;
          within = omega (arith, used.within);
          there = used.there;
          own = used.own;
          named = used.named;
        })
      ]

  -- where the last cell has no such entry, nothing changes
  kept-lowest : (at : ℕ) (r : Option ℕ)
      → ((e : NamedVariable) → cell_at cells at ≡ Some e → e.name ≡ name → ⊥) → LowestBelow at r
      → LowestBelow (at + 1) r
  kept-lowest at None not none = λ process used.
      elim (used-last at process used) [
        | inl before ↦ none process before
        | inr last ↦ not last.0 last.1 last.3
      ]
  kept-lowest at (Some p) not (used, lowest) = (
    used-more at p used,
    λ process lower there.
        elim (used-last at process there) [
          | inl before ↦ lowest process lower before
          | inr last ↦ not last.0 last.1 last.3
        ],
  )

  last-used : (at : ℕ) (e : NamedVariable) → cell_at cells at ≡ Some e → e.name ≡ name → UsedBelow (at + 1) e.process
  last-used at e there named = record {
    place = at;
    entry = e;
    within = omega arith;
    there = there;
    own = refl;
    named = named;
  }

  own-entry : (e f : NamedVariable) → Some e ≡ Some f → e.process ≡ f.process
  own-entry e f same = let one : e ≡ f = cc in ap (λ (n : NamedVariable). n.process) one

  own-name : (e f : NamedVariable) → Some e ≡ Some f → e.name ≡ f.name
  own-name e f same = let one : e ≡ f = cc in ap (λ (n : NamedVariable). n.name) one

  -- an entry that has the name is taken where it is lower
  met-lowest : (at : ℕ) (e : NamedVariable) (r : Option ℕ) → cell_at cells at ≡ Some e → e.name ≡ name
      → LowestBelow at r
      → LowestBelow (at + 1) (lower_user name (Some e) r)
  met-lowest at e None there named none =
      subst (λ b. LowestBelow (at + 1) (cond b (Some e.process) None)) (sym (eq-eqb e.name name named)) (
        last-used at e there named,
        λ process lower used.
            elim (used-last at process used) [
              | inl before ↦ none process before
              | inr last ↦
                  let same = own-entry last.0 e (sym last.1 ∙ there) in
                  omega (arith, same, last.2, lower)
            ],
      )
  met-lowest at e (Some p) there named (used, lowest) =
      subst (λ b. LowestBelow (at + 1) (cond b (Some (min p e.process)) (Some p))) (sym (eq-eqb e.name name named)) (
        elim (cases_eq (min p e.process) p) [
          | inl same ↦ subst (UsedBelow (at + 1)) (sym same) (used-more at p used)
          | inr other ↦
              let same : e.process ≡ min p e.process = omega arith in
              subst (UsedBelow (at + 1)) same (last-used at e there named)
        ],
        λ process lower there'.
            elim (used-last at process there') [
              | inl before ↦ lowest process (omega (arith, lower)) before
              | inr last ↦
                  let same = own-entry last.0 e (sym last.1 ∙ there) in
                  omega (arith, same, last.2, lower)
            ],
      )

  pub next-lowest : (at : ℕ) (c : Cell) (r : Option ℕ) → cell_at cells at ≡ c → LowestBelow at r
      → LowestBelow (at + 1) (lower_user name c r)
  next-lowest at None r there below =
      kept-lowest at r (λ e is named. nothing e (sym is ∙ there)) below
    where
      nothing : (e : NamedVariable) → Some e ≡ None → ⊥
      nothing e is = cc
  next-lowest at (Some e) r there below = by_name (e.name == name) refl
    where
      by_name : (b : Bool) → (e.name == name) ≡ b → LowestBelow (at + 1) (lower_user name (Some e) r)
      by_name true is = met-lowest at e r there (eqb-true e.name name is) below
      by_name false is =
          let kept = kept-lowest at r
          (λ f there' named. eqb-false e.name name is (sym (own-name f e (sym there' ∙ there)) ∙ named)) below in
          skipped r kept
        where
          skipped : (s : Option ℕ) → LowestBelow (at + 1) s → LowestBelow (at + 1) (lower_user name (Some e) s)
          skipped None kept = subst (λ b. LowestBelow (at + 1) (cond b (Some e.process) None)) (sym is) kept
          skipped (Some p) kept =
              subst (λ b. LowestBelow (at + 1) (cond b (Some (min p e.process)) (Some p))) (sym is) kept

  -- ---- where all cells were gone over

  used-named : IsOnce cells → (at process : ℕ) → UsedBelow at process → HasName cells name process
  used-named once at process used =
      let e = used.entry in
      let own : is_of process e.variable e ≡ true = own-key e process used.own in
      (e.variable, has-name cells process e.variable name once (used.place, e, used.there, own, used.named))
    where
      own-key : (e : NamedVariable) (p : ℕ) → e.process ≡ p → is_of p e.variable e ≡ true
      own-key e p same = ap (λ b. b && e.variable == e.variable) (eq-eqb e.process p same)
          ∙ eq-eqb e.variable e.variable refl

  named-used : (process : ℕ) → HasName cells name process → UsedBelow (length cells) process
  named-used process (v, named) =
      let (place, e, there, own, is) = name-has cells process v name named in
      record {
        place = place;
        entry = e;
        within = some-within cells place e there;
        there = there;
        own = eqb-true e.process process (first-told (e.process == process) (e.variable == v) own);
        named = is;
      }
    where
      first-told : (b c : Bool) → (b && c) ≡ true → b ≡ true
      first-told true c is = refl
      first-told false c is = is

  pub all-lowest : IsOnce cells → (at : ℕ) (r : Option ℕ) → at ≡ length cells → LowestBelow at r
      → IsLowestUser cells name r
  all-lowest once at r end below = by_answer r (subst (λ (n : ℕ). LowestBelow n r) end below)
    where
      by_answer : (r : Option ℕ) → LowestBelow (length cells) r → IsLowestUser cells name r
      by_answer None none = λ process has. none process (named-used process has)
      by_answer (Some p) (used, lowest) = (
        used-named once (length cells) p used,
        λ process lower has. lowest process lower (named-used process has),
      )
