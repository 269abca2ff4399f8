-- One more place at which an offence may stand.
use Rattle.std.proofs.Common.{◌≡◌, ◌≢◌, ◌<◌, ◌⊎◌, inl, inr, ℕ, ◌+◌, ◌==◌, Bool, true, false, IsTrue, List, Option, Some, None, MatchOption, length, slice_get, refl, subst, sym, ap, ◌∙◌, arith, eqb-true}
use Rattle.std.proofs.lemmas.Bool.{eqb-false}
use Rattle.std.proofs.lemmas.Option.{slice_get_within}
use Rattle.nomos_ir.specs.declared.declaration.ProcDecl.{ProcDecl}
use Rattle.nomos_ir.specs.declared.ids.TypeId.{TypeId}
use Rattle.nomos_ir.specs.declared.ids.VarId.{VarId}
use Rattle.nomos_ir.specs.declared.lists.ProgramLists.{ProgramLists}
use Rattle.nomos_ir.specs.declared.mode.Mode.{Mode}
use Rattle.nomos_ir.specs.declared.mode.Mode.TheVariants as mode
use Rattle.nomos_ir.specs.declared.type_node.Def.{Def}
use Rattle.nomos_ir.specs.declared.type_node.TypeAt.{TypeAt}
use Rattle.nomos_ir.specs.declared.type_node.TypeNode.{TypeNode}
use Rattle.std.specs.Option.{option_map}
use Rattle.nomos_ir.specs.Nodes.{type_node}
use Rattle.nomos_ir.specs.Program.{IsProgram}
use Rattle.nomos_types.proofs.LeastLemmas.{least-one, least-of_two}
use Rattle.nomos_types.proofs.ModeLaws.{mode-exists}
use Rattle.nomos_types.specs.Forming.{StandsAtOffset}
use Rattle.nomos_types.specs.ModeTable.{AreModesOf}
use Rattle.nomos_types.specs.Modes.{HasMode, Allows, may_hold, parameter_mode}
use Rattle.nomos_types.specs.mirror.Least.{IsLeast, lesser}
use Rattle.nomos_types.specs.mirror.Offences.{ForbiddenBelow, NotHeldBelow, NotHeldInBelow, OfTransactionsBelow}

-- by whether they are the same
below-case : (k i : ℕ) (b : Bool) → (k == i) ≡ b → k < i + 1 → (k < i) ⊎ (k ≡ i)
below-case k i true same below = inr (eqb-true k i same)
below-case k i false same below = let apart = eqb-false k i same in inl (omega arith)

-- a place below the next one is below this one, or this one
below-next : (k i : ℕ) → k < i + 1 → (k < i) ⊎ (k ≡ i)
below-next k i below = below-case k i (k == i) refl below

-- nothing is one more
no-more : (P R : ℕ → Type 0) (first : Option ℕ) → ((n : ℕ) → R n → P n) → ((n : ℕ) → P n → R n) → IsLeast P first
    → IsLeast R (lesser first None)
no-more P R first back there least =
    let none : IsLeast (λ n. ⊥) None = λ n holds. holds in
    least-of_two P (λ n. ⊥) R (λ n r. inl (back n r)) there (λ n holds. absurd holds) first None least none

-- one number more
one-more : (P R : ℕ → Type 0) (first : Option ℕ) (at : ℕ) → ((n : ℕ) → R n → P n ⊎ (n ≡ at)) → ((n : ℕ) → P n → R n)
    → R at → IsLeast P first → IsLeast R (lesser first (Some at))
one-more P R first at split there here least =
    least-of_two P (λ n. n ≡ at) R split there (λ n same. subst R (sym same) here) first (Some at) least (least-one at)

-- the offset at which a place stands
offset-of : (lists : ProgramLists) (t : TypeId) (place : TypeAt) → slice_get lists.types t.0 ≡ Some place
    → StandsAtOffset lists t place.at
offset-of lists t place found = ap (option_map (λ (p : TypeAt). p.at)) found

module _ (lists : ProgramLists) (i : ℕ) where
  -- what stands below a place stands below the next one
  forbidden-up : (n : ℕ) → ForbiddenBelow lists i n → ForbiddenBelow lists (i + 1) n
  forbidden-up n f =
      record {
        t = f.t;
        below = omega (arith, f.below);
        m = f.m;
        n = f.n;
        has = f.has;
        there = f.there;
        not_allowed = f.not_allowed;
        offset = f.offset;
      }

  module _ (is_program : IsProgram lists) (modes : List Mode) (are : AreModesOf lists modes) (place : TypeAt)
      (found : slice_get lists.types i ≡ Some place) (m : Mode) (set : slice_get modes i ≡ Some m) where
    -- a type at this place has this mode, and this node
    mode-here : (t : TypeId) (o : Mode) → t.0 ≡ i → HasMode lists t o → o ≡ m
    mode-here t o here has =
        let known = are.own t o has in
        let set_there : slice_get modes t.0 ≡ Some m = subst (λ (k : ℕ). slice_get modes k ≡ Some m) (sym here) set in
        cc

    node-here : (t : TypeId) (n : TypeNode) → t.0 ≡ i → type_node lists t.0 ≡ Some n → n ≡ place.node
    node-here t n here there =
        let there_found : slice_get lists.types t.0
        ≡ Some place = subst (λ (k : ℕ). slice_get lists.types k ≡ Some place) (sym here) found in
        let node : type_node lists t.0 ≡ Some place.node = ap (option_map (λ (p : TypeAt). p.node)) there_found in
        cc

    -- a forbidden type below the next place is one below this place, or this one
    forbidden-split : (n : ℕ) → ForbiddenBelow lists (i + 1) n
        → ForbiddenBelow lists i n ⊎ ((¬ (Allows lists m place.node)) × (n ≡ place.at))
    forbidden-split n f =
        elim (below-next f.t.0 i f.below) [
          | inl below ↦ inl (record {
            t = f.t;
            below = below;
            m = f.m;
            n = f.n;
            has = f.has;
            there = f.there;
            not_allowed = f.not_allowed;
            offset = f.offset;
          })
          | inr here ↦
              let mode = mode-here f.t f.m here f.has in
              let node = node-here f.t f.n here f.there in
              let not_here : ¬ (Allows lists m place.node) = λ allows.
              f.not_allowed (subst (λ (o : Mode). Allows lists o f.n) (sym mode)
              (subst (λ (k : TypeNode). Allows lists m k) (sym node) allows)) in
              let there_found : slice_get lists.types f.t.0
              ≡ Some place = subst (λ (k : ℕ). slice_get lists.types k ≡ Some place) (sym here) found in
              let offset = offset-of lists f.t place there_found in
              let own = f.offset in
              let same : n ≡ place.at = cc in
              inr (not_here, same)
        ]

    -- one type node more
    pub forbidden-more : (first o : Option ℕ) → IsLeast (ForbiddenBelow lists i) first
        → MatchOption o (Allows lists m place.node) (λ at. (¬ (Allows lists m place.node)) × (at ≡ place.at))
        → IsLeast (ForbiddenBelow lists (i + 1)) (lesser first o)
    forbidden-more first None least allows =
        no-more (ForbiddenBelow lists i) (ForbiddenBelow lists (i + 1)) first
        (λ n f. elim (forbidden-split n f) [ inl below ↦ below | inr here ↦ absurd (here.0 allows) ])
        forbidden-up least
    forbidden-more first (Some at) least (not_here, is) =
        let own : TypeId = record { 0 = i } in
        let (o, has) = mode-exists lists own is_program (slice_get_within lists.types i place found) in
        let mode = mode-here own o refl has in
        let has_here : HasMode lists own m = subst (λ (p : Mode). HasMode lists own p) mode has in
        let here : ForbiddenBelow lists (i + 1) at =
        record {
          t = own;
          below = omega arith;
          m = m;
          n = place.node;
          has = has_here;
          there =
              ap (option_map (λ (p : TypeAt). p.node)) found;
          not_allowed =
              not_here;
          offset = offset-of lists own place found ∙ ap Some (sym is);
        } in
        one-more (ForbiddenBelow lists i) (ForbiddenBelow lists (i + 1)) first at
        (λ n f. elim (forbidden-split n f) [ inl below ↦ inl below | inr there ↦ inr (there.1 ∙ sym is) ])
        forbidden-up here least

module _ (lists : ProgramLists) (d : ProcDecl) (i : ℕ) (par : VarId × TypeId)
    (found : slice_get d.channels i ≡ Some par) where
  not_held-up : (n : ℕ) → NotHeldBelow lists d i n → NotHeldBelow lists d (i + 1) n
  not_held-up n f =
      record {
        place = f.place;
        par = f.par;
        below = omega (arith, f.below);
        there = f.there;
        not_held = f.not_held;
        offset = f.offset;
      }

  not_held-split : (n : ℕ) → NotHeldBelow lists d (i + 1) n
      → NotHeldBelow lists d i n ⊎ ((¬ (IsTrue (may_hold d.mode (parameter_mode lists par.1))))
      × StandsAtOffset lists par.1 n)
  not_held-split n f =
      elim (below-next f.place i f.below) [
        | inl below ↦ inl (record {
          place = f.place;
          par = f.par;
          below = below;
          there = f.there;
          not_held = f.not_held;
          offset = f.offset;
        })
        | inr here ↦
            let there : slice_get d.channels i
            ≡ Some f.par = subst (λ (k : ℕ). slice_get d.channels k ≡ Some f.par) here f.there in
            let same : f.par ≡ par = cc in
            inr (
              subst (λ (p : VarId × TypeId). ¬ (IsTrue (may_hold d.mode (parameter_mode lists p.1)))) same
                  f.not_held,
              subst (λ (p : VarId × TypeId). StandsAtOffset lists p.1 n) same f.offset,
            )
      ]

  -- one parameter more
  pub not_held-more : (first o : Option ℕ) → IsLeast (NotHeldBelow lists d i) first
      → MatchOption o (IsTrue (may_hold d.mode (parameter_mode lists par.1)))
      (λ at. (¬ (IsTrue (may_hold d.mode (parameter_mode lists par.1)))) × StandsAtOffset lists par.1 at)
      → IsLeast (NotHeldBelow lists d (i + 1)) (lesser first o)
  not_held-more first None least held =
      no-more (NotHeldBelow lists d i) (NotHeldBelow lists d (i + 1)) first
      (λ n f. elim (not_held-split n f) [ inl below ↦ below | inr here ↦ absurd (here.0 held) ])
      not_held-up least
  not_held-more first (Some at) least (not_held, stands) =
      let here : NotHeldBelow lists d (i + 1) at =
      record { place = i; par = par; below = omega arith; there = found; not_held = not_held; offset = stands } in
      one-more (NotHeldBelow lists d i) (NotHeldBelow lists d (i + 1)) first at
      (λ n f. elim (not_held-split n f) [ inl below ↦ inl below | inr there ↦ let other = there.1 in inr cc ])
      not_held-up here least

module _ (lists : ProgramLists) (i : ℕ) (d : ProcDecl) (found : slice_get lists.procs i ≡ Some d) where
  -- the parameters of one declaration more
  pub not_held_in-more : (first o : Option ℕ) → IsLeast (NotHeldInBelow lists i) first
      → IsLeast (NotHeldBelow lists d (length d.channels)) o → IsLeast (NotHeldInBelow lists (i + 1)) (lesser first o)
  not_held_in-more first o least more =
      least-of_two (NotHeldInBelow lists i) (NotHeldBelow lists d (length d.channels)) (NotHeldInBelow lists (i + 1))
      (λ n f.
      elim (below-next f.place i f.below) [
        | inl below ↦ inl (record { place = f.place; d = f.d; below = below; there = f.there; not_held = f.not_held })
        | inr here ↦
            let there : slice_get lists.procs i
            ≡ Some f.d = subst (λ (k : ℕ). slice_get lists.procs k ≡ Some f.d) here f.there in
            let same : f.d ≡ d = cc in
            inr (subst (λ (e : ProcDecl). NotHeldBelow lists e (length e.channels) n) same f.not_held)
      ])
      (λ n f. record {
        place = f.place;
        d = f.d;
        below = omega (arith, f.below);
        there = f.there;
        not_held = f.not_held;
      })
      (λ n f. record { place = i; d = d; below = omega arith; there = found; not_held = f })
      first o least more

module _ (lists : ProgramLists) (i : ℕ) (d : Def) (found : slice_get lists.defs i ≡ Some d) where
  transactions-up : (n : ℕ) → OfTransactionsBelow lists i n → OfTransactionsBelow lists (i + 1) n
  transactions-up n f =
      record {
        place = f.place;
        d = f.d;
        below = omega (arith, f.below);
        there = f.there;
        of_transactions = f.of_transactions;
        offset = f.offset;
      }

  transactions-split : (n : ℕ) → OfTransactionsBelow lists (i + 1) n
      → OfTransactionsBelow lists i n ⊎ ((d.mode ≡ mode.T) × StandsAtOffset lists d.body n)
  transactions-split n f =
      elim (below-next f.place i f.below) [
        | inl below ↦ inl (record {
          place = f.place;
          d = f.d;
          below = below;
          there = f.there;
          of_transactions = f.of_transactions;
          offset = f.offset;
        })
        | inr here ↦
            let there : slice_get lists.defs i
            ≡ Some f.d = subst (λ (k : ℕ). slice_get lists.defs k ≡ Some f.d) here f.there in
            let same : f.d ≡ d = cc in
            inr (
              subst (λ (e : Def). e.mode ≡ mode.T) same f.of_transactions,
              subst (λ (e : Def). StandsAtOffset lists e.body n) same f.offset,
            )
      ]

  -- one definition more
  pub transactions-more : (first o : Option ℕ) → IsLeast (OfTransactionsBelow lists i) first
      → MatchOption o (d.mode ≢ mode.T) (λ at. (d.mode ≡ mode.T) × StandsAtOffset lists d.body at)
      → IsLeast (OfTransactionsBelow lists (i + 1)) (lesser first o)
  transactions-more first None least own =
      no-more (OfTransactionsBelow lists i) (OfTransactionsBelow lists (i + 1)) first
      (λ n f. elim (transactions-split n f) [ inl below ↦ below | inr here ↦ absurd (own here.0) ])
      transactions-up least
  transactions-more first (Some at) least (of_transactions, stands) =
      let here : OfTransactionsBelow lists (i + 1) at =
      record {
        place = i;
        d = d;
        below = omega arith;
        there = found;
        of_transactions = of_transactions;
        offset = stands;
      } in
      one-more (OfTransactionsBelow lists i) (OfTransactionsBelow lists (i + 1)) first at
      (λ n f. elim (transactions-split n f) [ inl below ↦ inl below | inr there ↦ let other = there.1 in inr cc ])
      transactions-up here least
