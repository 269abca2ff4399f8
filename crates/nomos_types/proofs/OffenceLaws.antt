-- A program obeys the tables of modes where no type node offends, and the first that offends is the least of the three
-- kinds.
use Rattle.std.proofs.Common.{◌≡◌, ◌≢◌, ◌<◌, ◌⊎◌, inl, inr, ℕ, zero, suc, Bool, true, false, IsTrue, List, [], ◌∷◌, Option, Some, None, MatchOption, Contains, length, get_or, slice_get, refl, ap, ◌∙◌, arith}
use Rattle.std.specs.Option.{option_map}
use Rattle.nomos_ir.specs.declared.ids.TypeId.{TypeId}
use Rattle.nomos_ir.specs.declared.lists.ProgramLists.{ProgramLists}
use Rattle.nomos_ir.specs.declared.mode.Mode.{Mode}
use Rattle.nomos_ir.specs.declared.mode.Mode.TheVariants as mode
use Rattle.nomos_ir.specs.declared.type_node.TypeNode.{TypeNode}
use Rattle.nomos_ir.specs.declared.type_node.TypeNode.TheVariants as node
use Rattle.std.proofs.lemmas.Option.{slice_get-get_or}
use Rattle.nomos_ir.specs.declared.ids.VarId.{VarId}
use Rattle.nomos_ir.specs.declared.type_node.TypeAt.{TypeAt}
use Rattle.nomos_ir.specs.Program.{IsProgram}
use Rattle.nomos_types.proofs.LeastLemmas.{least-of_two}
use Rattle.nomos_types.proofs.ModeLaws.{mode-in_range}
use Rattle.nomos_types.proofs.OccurrenceLaws.{contains-found}
use Rattle.nomos_types.specs.Forming.{OffendsAt, StandsAtOffset, IsFirstOffence}
use Rattle.nomos_types.specs.Modes.{Allows, ObeysModes, forbidden, not_held, of_transactions, head_mode, may_hold, parameter_mode}
use Rattle.nomos_types.specs.mirror.Least.{IsLeast, lesser}
use Rattle.nomos_types.specs.mirror.Offences.{ForbiddenBelow, NotHeldBelow, NotHeldInBelow, OfTransactionsBelow}

-- two modes are the same or not
mode-decided : (m n : Mode) → (m ≡ n) ⊎ (m ≢ n)
mode-decided mode.R mode.R = inl refl
mode-decided mode.S mode.S = inl refl
mode-decided mode.L mode.L = inl refl
mode-decided mode.T mode.T = inl refl
mode-decided mode.R mode.S = inr (λ same. cc)
mode-decided mode.R mode.L = inr (λ same. cc)
mode-decided mode.R mode.T = inr (λ same. cc)
mode-decided mode.S mode.R = inr (λ same. cc)
mode-decided mode.S mode.L = inr (λ same. cc)
mode-decided mode.S mode.T = inr (λ same. cc)
mode-decided mode.L mode.R = inr (λ same. cc)
mode-decided mode.L mode.S = inr (λ same. cc)
mode-decided mode.L mode.T = inr (λ same. cc)
mode-decided mode.T mode.R = inr (λ same. cc)
mode-decided mode.T mode.S = inr (λ same. cc)
mode-decided mode.T mode.L = inr (λ same. cc)

-- a name shows a mode or not
shown-decided : (o : Option Mode) (m : Mode) → (o ≡ Some m) ⊎ (o ≢ Some m)
shown-decided None m = inr (λ same. cc)
shown-decided (Some n) m =
    elim (mode-decided n m) [ inl same ↦ inl (ap Some same) | inr other ↦ inr (λ same. other cc) ]

-- one of two modes, or neither
either-decided : (m a b : Mode) → ((m ≡ a) ⊎ (m ≡ b)) ⊎ (¬ ((m ≡ a) ⊎ (m ≡ b)))
either-decided m a b =
    elim (mode-decided m a) [
      | inl first ↦ inl (inl first)
      | inr not_first ↦ elim (mode-decided m b) [
        | inl second ↦ inl (inr second)
        | inr not_second ↦ inr (λ one. elim one [ inl first ↦ not_first first | inr second ↦ not_second second ])
      ]
    ]

-- a node is allowed at a mode or not
allows-decided : (lists : ProgramLists) (m : Mode) (n : TypeNode) → Allows lists m n ⊎ (¬ (Allows lists m n))
allows-decided lists m node.One = either-decided m mode.R mode.T
allows-decided lists m (node.Up a) = mode-decided m mode.S
allows-decided lists m (node.Down a) = mode-decided m mode.L
allows-decided lists m (node.Named d) =
    elim (shown-decided (head_mode lists (Some (node.Named d))) m) [
      | inl shown ↦ elim (mode-decided m mode.T)
          [ inl transaction ↦ inr (λ both. both.1 transaction) | inr other ↦ inl (shown, other) ]
      | inr hidden ↦ inr (λ both. hidden both.0)
    ]
allows-decided lists m (node.Plus branches) = either-decided m mode.R mode.L
allows-decided lists m (node.With branches) = either-decided m mode.R mode.L
allows-decided lists m (node.Tensor a b) = either-decided m mode.R mode.L
allows-decided lists m (node.Lolli a b) = either-decided m mode.R mode.L
allows-decided lists m (node.ValueOut kind a) = either-decided m mode.R mode.L
allows-decided lists m (node.ValueIn kind a) = either-decided m mode.R mode.L
allows-decided lists m (node.PotOut amount a) = either-decided m mode.R mode.L
allows-decided lists m (node.PotIn amount a) = either-decided m mode.R mode.L

-- a test holds or not
test-decided : (b : Bool) → IsTrue b ⊎ (¬ (IsTrue b))
test-decided true = inl refl
test-decided false = inr (λ holds. cc)

-- an element stands at a place
found-at : {X : Type 0} (xs : List X) (x : X) (k : ℕ) → k < length xs → get_or xs k x ≡ x → slice_get xs k ≡ Some x
found-at xs x k inside is = slice_get-get_or xs k x inside ∙ ap Some is

-- a place within a list is not empty
none-inside : {X : Type 0} (xs : List X) (k : ℕ) → k < length xs → slice_get xs k ≡ None → ⊥
none-inside [] k inside none = absurd (omega arith)
none-inside (x ∷ xs) zero inside none = absurd cc
none-inside (x ∷ xs) (suc k) inside none = none-inside xs k (omega arith) none

-- a type in range stands at an offset
offset-in : (lists : ProgramLists) (t : TypeId) (o : Option TypeAt) → slice_get lists.types t.0 ≡ o
    → t.0 < length lists.types → (at : ℕ) × StandsAtOffset lists t at
offset-in lists t (Some place) found inside = (place.at, ap (option_map (λ (p : TypeAt). p.at)) found)
offset-in lists t None found inside = absurd (none-inside lists.types t.0 inside found)

offset-exists : (lists : ProgramLists) (t : TypeId) → t.0 < length lists.types → (at : ℕ) × StandsAtOffset lists t at
offset-exists lists t inside = offset-in lists t (slice_get lists.types t.0) refl inside

module _ (lists : ProgramLists) (is_program : IsProgram lists) where
  -- the three kinds of offences are all
  abbrev Kinds : ℕ → Type 0
  Kinds n = ForbiddenBelow lists (length lists.types) n ⊎ NotHeldInBelow lists (length lists.procs) n

  offence-kinds : (n : ℕ) → OffendsAt lists n → Kinds n ⊎ OfTransactionsBelow lists (length lists.defs) n
  offence-kinds n (t, forbidden m node has there not_allowed, offset) =
      inl (inl (record {
        t = t;
        below = mode-in_range is_program has;
        m = m;
        n = node;
        has = has;
        there = there;
        not_allowed = not_allowed;
        offset = offset;
      }))
  offence-kinds n (t, not_held d v _ (p, p_inside, p_is) (k, k_inside, k_is) held, offset) =
      let par : VarId × TypeId = (v, t) in
      let inner : NotHeldBelow lists d (length d.channels) n =
      record {
        place = k;
        par = par;
        below = k_inside;
        there = found-at d.channels par k k_inside k_is;
        not_held = held;
        offset = offset;
      } in
      inl (inr (record {
        place = p;
        d = d;
        below = p_inside;
        there = found-at lists.procs d p p_inside p_is;
        not_held = inner;
      }))
  offence-kinds n (_, of_transactions d (p, p_inside, p_is) own, offset) =
      inr (record {
        place = p;
        d = d;
        below = p_inside;
        there = found-at lists.defs d p p_inside p_is;
        of_transactions = own;
        offset = offset;
      })

  forbidden-offends : (n : ℕ) → ForbiddenBelow lists (length lists.types) n → OffendsAt lists n
  forbidden-offends n f = (f.t, forbidden f.m f.n f.has f.there f.not_allowed, f.offset)

  not_held-offends : (n : ℕ) → NotHeldInBelow lists (length lists.procs) n → OffendsAt lists n
  not_held-offends n f =
      let inner = f.not_held in (
        inner.par.1,
        not_held f.d inner.par.0 inner.par.1 (contains-found lists.procs f.place f.d f.there)
            (contains-found f.d.channels inner.place inner.par inner.there) inner.not_held,
        inner.offset,
      )

  transactions-offend : (n : ℕ) → OfTransactionsBelow lists (length lists.defs) n → OffendsAt lists n
  transactions-offend n f =
      (f.d.body, of_transactions f.d (contains-found lists.defs f.place f.d f.there) f.of_transactions, f.offset)

  -- where nothing offends, the tables are obeyed
  none-obeys : ((n : ℕ) → ¬ (OffendsAt lists n)) → ObeysModes lists
  none-obeys none = record {
    allowed = λ t m n has there.
        elim (allows-decided lists m n) [
          | inl allows ↦ allows
          | inr not_allowed ↦
              let (at, offset) = offset-exists lists t (mode-in_range is_program has) in
              absurd (none at (t, forbidden m n has there not_allowed, offset))
        ];
    held = λ p d p_inside k par k_inside.
        let e = get_or lists.procs p d in
        let own = get_or e.channels k par in
        elim (test-decided (may_hold e.mode (parameter_mode lists own.1))) [
          | inl held ↦ held
          | inr other ↦
              let within = (is_program.ids.procs p d p_inside).channels k par k_inside in
              let (at, offset) = offset-exists lists own.1 within in
              let in_procs : Contains lists.procs e = contains-found lists.procs p e
              (slice_get-get_or lists.procs p d p_inside) in
              let in_channels : Contains e.channels own = contains-found e.channels k own
              (slice_get-get_or e.channels k par k_inside) in
              absurd (none at (own.1, not_held e own.0 own.1 in_procs in_channels other, offset))
        ];
    definitions = λ p d p_inside own.
        let e = get_or lists.defs p d in
        let (at, offset) = offset-exists lists e.body (is_program.ids.defs p d p_inside) in
        let in_defs : Contains lists.defs e = contains-found lists.defs p e
        (slice_get-get_or lists.defs p d p_inside) in
        none at (e.body, of_transactions e in_defs own, offset);
  }

  -- the answer by the least of all offences
  offence-answer : (o : Option ℕ) → IsLeast (OffendsAt lists) o
      → MatchOption o (ObeysModes lists) (λ at. IsFirstOffence lists at)
  offence-answer None none = none-obeys none
  offence-answer (Some at) least = record { there = least.0; first = least.1 }

  -- the lesser of the three is the first offence
  pub first-offence : (a b c : Option ℕ) → IsLeast (ForbiddenBelow lists (length lists.types)) a
      → IsLeast (NotHeldInBelow lists (length lists.procs)) b
      → IsLeast (OfTransactionsBelow lists (length lists.defs)) c
      → MatchOption (lesser (lesser a b) c) (ObeysModes lists) (λ at. IsFirstOffence lists at)
  first-offence a b c least_a least_b least_c =
      let two : IsLeast Kinds (lesser a b) = least-of_two (ForbiddenBelow lists (length lists.types))
      (NotHeldInBelow lists (length lists.procs)) Kinds (λ n k. k) (λ n k. inl k) (λ n k. inr k) a b least_a
      least_b in
      let all : IsLeast (OffendsAt lists) (lesser (lesser a b) c) =
      least-of_two Kinds (OfTransactionsBelow lists (length lists.defs)) (OffendsAt lists) offence-kinds
      (λ n k. elim k [ inl f ↦ forbidden-offends n f | inr f ↦ not_held-offends n f ])
      transactions-offend (lesser a b) c two least_c
      in
      offence-answer (lesser (lesser a b) c) all
