-- Who uses a name, and whether anyone mentions it, is told by the cells and by the messages.
use Rattle.std.proofs.Common.{◌≡◌, ◌≢◌, ◌∙◌, ◌<◌, ◌==◌, ◌||◌, ◌⊎◌, inl, inr, ℕ, suc, Bool, true, false, cond, List, [], ◌∷◌, ◌++◌, map, find, min, Contains, Option, Some, None, IsSome, Less, option_and_then, refl, sym, ap, subst, arith, eq-eqb, eqb-true}
use Rattle.std.proofs.lemmas.Bool.{cases_eq, cases_lt}
use Rattle.std.proofs.lemmas.Cmp.{ranked}
use Rattle.std.proofs.lemmas.List.Elements.{Contains-append_cases, Contains-append_right}
use Rattle.std.proofs.lemmas.Map.Keys.{sorted_head, sorted_tail}
use Rattle.std.proofs.lemmas.Option.{none-some}
use Rattle.std.specs.List.{slice_get, slice_index_or, list_any, AllByRecursion}
use Rattle.std.specs.Map.{keys_of}
use Rattle.std.specs.Option.{MatchOption, is_some, option_map, option_to_list}
use Rattle.nomos_deeds.proofs.LinearNameLaws.{any-shown, any-there}
use Rattle.nomos_ir.specs.Bindings.{bound_to, by_number, IsAscending}
use Rattle.nomos_ir.specs.declared.ids.VarId.{VarId}
use Rattle.nomos_ir.proofs.BindingLaws.{bindings_of-ascending}
use Rattle.nomos_machine.specs.Change.{is_mentioned}
use Rattle.nomos_machine.specs.Objects.{mentioned, object_at, object_number, process_of, used}
use Rattle.nomos_machine.specs.Sight.{owner}
use Rattle.nomos_machine.specs.State.{process_at}
use Rattle.nomos_machine.specs.declared.object.Object.{Object}
use Rattle.nomos_machine.specs.declared.object.Object.TheVariants as object
use Rattle.nomos_machine.specs.declared.object.Process.{Process}
use Rattle.nomos_machine.proofs.ObjectLaws.{bound-among}
use Rattle.nomos_machine.proofs.PutLaws.{InOrder, contains-one, object_at-found, object_at-own}
use Rattle.nomos_deeds.proofs.LowestLaws.{first-found, none-passes}
use Rattle.nomos_slots.specs.Cells.{name_in}
use Rattle.nomos_slots.specs.Numbers.{found}
use Rattle.nomos_slots.specs.Users.{HasName, IsLowestUser}
use Rattle.nomos_slots.specs.declared.numbered.Slot.{Slot}
use Rattle.nomos_state.specs.Indexed.{Holding, IsHolding, standing_at, state_of}
use Rattle.nomos_state.specs.Objects.{channels_of, entries_of, process_held}
use Rattle.nomos_state.specs.Spanning.{Spans}
use Rattle.nomos_state.specs.Sought.{IsFirstPlace, is_message_using, lower_of, mentions_plainly, some_passes}
use Rattle.nomos_state.specs.declared.kept.Kept.{Kept}
use Rattle.nomos_state.specs.declared.kept.Kept.TheVariants as kept
use Rattle.nomos_state.proofs.ChannelLemmas.{bound-in_channels}
use Rattle.nomos_state.proofs.LookLemmas.{process-stands, standing-found, standing-is, state-in_order}
use Rattle.nomos_state.proofs.SeekLemmas.{first-found as first-standing}

-- ---- tests of lists

-- ---- the lowest number of which something holds

abbrev LowestOf : (ℕ → Type 0) → Option ℕ → Type 0
LowestOf P r = MatchOption r ((n : ℕ) → ¬ P n) (λ lowest. P lowest × ((n : ℕ) → n < lowest → ¬ P n))

-- there is one lowest number
lowest-one : (P : ℕ → Type 0) (r s : Option ℕ) → LowestOf P r → LowestOf P s → r ≡ s
lowest-one P None None none never = refl
lowest-one P None (Some n) none (has, lowest) = absurd (none n has)
lowest-one P (Some n) None (has, lowest) none = absurd (none n has)
lowest-one P (Some n) (Some m) (has, lowest) (had, least) =
    elim (cases_lt n m) [
      | inl below ↦ absurd (least n below has)
      | inr above ↦
          elim (cases_eq n m) [
            | inl same ↦ ap Some same
            | inr other ↦ absurd (lowest m (omega (arith, above, other)) had)
          ]
    ]

-- of two things the lower one is the lowest of which either holds
lower-lowest : (P Q : ℕ → Type 0) (r s : Option ℕ) → LowestOf P r → LowestOf Q s
    → LowestOf (λ n. P n ⊎ Q n) (lower_of r s)
lower-lowest P Q None None none never = λ n either. elim either [ inl one ↦ none n one | inr other ↦ never n other ]
lower-lowest P Q None (Some m) none (had, least) =
    (inr had, λ n below either. elim either [ inl one ↦ none n one | inr other ↦ least n below other ])
lower-lowest P Q (Some n) None (has, lowest) never =
    (inl has, λ m below either. elim either [ inl one ↦ lowest m below one | inr other ↦ never m other ])
lower-lowest P Q (Some n) (Some m) (has, lowest) (had, least) = (
  elim (cases_lt m n) [
    | inl below ↦
        let same : m ≡ min n m = omega (arith, below) in
        inr (subst Q same had)
    | inr above ↦
        let same : n ≡ min n m = omega (arith, above) in
        inl (subst P same has)
  ],
  λ k below either.
      elim either [
        | inl one ↦ lowest k (omega (arith, below)) one
        | inr other ↦ least k (omega (arith, below)) other
      ],
)

lowest-same : (P Q : ℕ → Type 0) (r : Option ℕ) → ((n : ℕ) → P n → Q n) → ((n : ℕ) → Q n → P n) → LowestOf P r
    → LowestOf Q r
lowest-same P Q None to back none = λ n has. none n (back n has)
lowest-same P Q (Some m) to back (has, lowest) = (to m has, λ n below had. lowest n below (back n had))

-- an object of the number passes a test
abbrev Passing : (Object → Bool) → List Object → ℕ → Type 0
Passing test objects n = (o : Object) × Contains objects o × (object_number o ≡ n) × (test o ≡ true)

-- what is found first has the lowest number of those that pass
find-lowest : (test : Object → Bool) (objects : List Object) → InOrder objects
    → LowestOf (Passing test objects) (option_map object_number (find test objects))
find-lowest test objects order = at (find test objects) refl
  where
    at : (o : Option Object) → find test objects ≡ o → LowestOf (Passing test objects) (option_map object_number o)
    at (Some x) is =
        let first = first-found object_number test objects x order is in (
          (x, first.there, refl, first.passed),
          λ n below (o, inside, number, passed).
              omega (arith, first.lowest o inside passed, number, below),
        )
    at None is = λ n (o, inside, number, passed). none-passes object_number test objects is o inside passed

-- ---- the channels of a process

own-bound : (b : List (VarId × ℕ)) → IsAscending b → (e : VarId × ℕ) → Contains b e → bound_to e.0.0 b ≡ Some e.1
own-bound [] order e inside = absurd (omega (arith, inside.1))
own-bound (f ∷ b) order e inside =
    elim (Contains-append_cases (f ∷ []) b e inside) [
      | inl first ↦
          let same : f ≡ e = contains-one f e first in
          ap (λ t. cond t (Some f.1) (bound_to e.0.0 b))
          (eq-eqb f.0.0 e.0.0 (ap (λ (p : VarId × ℕ). p.0.0) same))
          ∙ ap (λ (p : VarId × ℕ). Some p.1) same
      | inr further ↦
          let over = above b (sorted_head by_number f.0 (keys_of b) order) further in
          let other : f.0.0 ≢ e.0.0 = omega (arith, over) in
          ap (λ t. cond t (Some f.1) (bound_to e.0.0 b)) (no-eqb f.0.0 e.0.0 other)
          ∙ own-bound b (sorted_tail by_number f.0 (keys_of b) order) e further
    ]
  where
    no-eqb : (n m : ℕ) → n ≢ m → (n == m) ≡ false
    no-eqb n m other = by_test (n == m) refl
      where
        by_test : (t : Bool) → (n == m) ≡ t → t ≡ false
        by_test true is = absurd (other (eqb-true n m is))
        by_test false is = refl

    above : (among : List (VarId × ℕ)) → AllByRecursion (λ w. by_number f.0 w ≡ Less) (keys_of among)
        → Contains among e → f.0.0 < e.0.0
    above [] over there = absurd (omega (arith, there.1))
    above (g ∷ among) over there =
        elim (Contains-append_cases (g ∷ []) among e there) [
          | inl first ↦
              let same : g.0.0 ≡ e.0.0 = ap (λ (p : VarId × ℕ). p.0.0) (contains-one g e first) in
              let lower : f.0.0 < g.0.0 = ranked f.0.0 g.0.0 Less (sym over.0) in
              omega arith
          | inr further ↦ above among over.1 further
        ]

contains-map : (b : List (VarId × ℕ)) (name : ℕ) → Contains (map (λ e. e.1) b) name
    → (e : VarId × ℕ) × Contains b e × (e.1 ≡ name)
contains-map [] name inside = absurd (omega (arith, inside.1))
contains-map (f ∷ b) name inside =
    elim (Contains-append_cases (f.1 ∷ []) (map (λ e. e.1) b) name inside) [
      | inl first ↦ (f, (0, omega arith, refl), contains-one f.1 name first)
      | inr further ↦
          let (e, there, named) = contains-map b name further in
          (e, Contains-append_right (f ∷ []) b e there, named)
    ]

abbrev has_name : ℕ → List ℕ → Bool
has_name name names = list_any (λ n. n == name) names

module _ (h : Holding) (is : IsHolding h) (name : ℕ) where
  abbrev objects : List Object
  objects = (state_of h).objects

  -- a process has the channels of its cells
  its-channels : (p : Process) → Contains objects (object.Process p) → p.channels ≡ channels_of h.cells p.pid
  its-channels p there =
      let found = object_at-own (object.Process p) objects (state-in_order h is) there in
      let at : process_at (state_of h) p.pid ≡ Some p = ap (option_and_then process_of) found in
      let stands = process-stands h is p.pid p at in
      ap (λ (q : Process). q.channels) stands.is

  -- a process that uses the name has it in a cell
  uses-named : (p : Process) → Contains objects (object.Process p)
      → has_name name (used (object.Process p)) ≡ true → HasName h.cells name p.pid
  uses-named p there uses =
      let (n, inside, same) = any-there (λ n. n == name) (map (λ e. e.1) p.channels) uses in
      let named : n ≡ name = eqb-true n name same in
      let (e, among, second) = contains-map p.channels n inside in
      let its = its-channels p there in
      let bound = own-bound (channels_of h.cells p.pid) (bindings_of-ascending (entries_of h.cells p.pid)) e
      (subst (λ (b : List (VarId × ℕ)). Contains b e) its among) in
      (e.0.0, sym (bound-in_channels h.cells p.pid e.0.0) ∙ bound ∙ ap Some (second ∙ named))

  -- what stands under a number stands at a place
  found-there : (slots : List (Slot Kept)) (n : ℕ) (k : Kept) → found slots n ≡ Some k
      → (place : ℕ) × (slice_get slots place ≡ Some (record { number = n; item = Some k }))
  found-there [] n k is = absurd (none-some k is)
  found-there (s ∷ slots) n k is = by_number' (s.number == n) refl is (found-there slots n k)
    where
      There : List (Slot Kept) → Type 0
      There among = (place : ℕ) × (slice_get among place ≡ Some (record { number = n; item = Some k }))

      by_number' : (t : Bool) → (s.number == n) ≡ t → cond t s.item (found slots n) ≡ Some k
          → (found slots n ≡ Some k → There slots) → There (s ∷ slots)
      by_number' true same is rest =
          let slot : ℕ → Option Kept → Option (Slot Kept) = λ m i. Some (record { number = m; item = i }) in
          (0, ap (λ (m : ℕ). slot m s.item) (eqb-true s.number n same) ∙ ap (slot n) is)
      by_number' false other is rest =
          let (place, at) = rest is in
          (suc place, at)

  -- a process that has the name in a cell is there and uses it
  named-uses : (pid : ℕ) → HasName h.cells name pid
      → (p : Process) × Contains objects (object.Process p) × (p.pid ≡ pid)
      × (has_name name (used (object.Process p)) ≡ true)
  named-uses pid (v, named) = by_found (found h.slots pid) refl
      (is.held pid v (some-there (name_in h.cells pid v) named))
    where
      some-there : (o : Option ℕ) → o ≡ Some name → IsSome o
      some-there (Some n) is = refl
      some-there None is = absurd (none-some name is)

      Answer : Type 0
      Answer = (p : Process) × Contains objects (object.Process p) × (p.pid ≡ pid)
          × (has_name name (used (object.Process p)) ≡ true)

      by_found : (o : Option Kept) → found h.slots pid ≡ o → Spans o v → Answer
      by_found None there process = absurd process
      by_found (Some (kept.Message k)) there process = absurd process
      by_found (Some (kept.Process k)) there process =
          let (place, at) = found-there h.slots pid (kept.Process k) there in
          let p = process_held h.cells pid (slice_index_or h.value_rows place []) (slice_index_or h.list_rows place [])
          k in
          let slot : Slot Kept = record { number = pid; item = Some (kept.Process k) } in
          let stands : object_at objects pid ≡ Some (object.Process p) =
          standing-found h is place slot at ∙ standing-is h place slot at
          in
          let inside = object_at-found pid (object.Process p) objects stands in
          let among = bound-among (channels_of h.cells pid) v name (bound-in_channels h.cells pid v ∙ named) in (
            p,
            inside.1,
            refl,
            any-shown (λ n. n == name) (map (λ e. e.1) (channels_of h.cells pid)) name among (eq-eqb name name refl),
          )

  -- an object that uses the name is a process that has it in a cell, or a message
  uses-either : (n : ℕ) → Passing (λ o. has_name name (used o)) objects n
      → HasName h.cells name n ⊎ Passing (is_message_using name) objects n
  uses-either n (object.Process p, inside, number, uses) =
      inl (subst (HasName h.cells name) number (uses-named p inside uses))
  uses-either n (object.Message m, inside, number, uses) = inr (object.Message m, inside, number, uses)

  either-uses : (n : ℕ) → HasName h.cells name n ⊎ Passing (is_message_using name) objects n
      → Passing (λ o. has_name name (used o)) objects n
  either-uses n (inl has) =
      let (p, inside, number, uses) = named-uses n has in
      (object.Process p, inside, number, uses)
  either-uses n (inr (object.Process p, inside, number, uses)) = absurd cc
  either-uses n (inr (object.Message m, inside, number, uses)) = (object.Message m, inside, number, uses)

  -- the user of the name is the lower one of the lowest process that has it and of the first message that uses it
  pub user-is : (process message : Option ℕ) → IsLowestUser h.cells name process
      → message ≡ option_map object_number (find (is_message_using name) objects)
      → lower_of process message ≡ owner (state_of h) name
  user-is process message lowest first =
      let Uses : ℕ → Type 0 = Passing (λ o. has_name name (used o)) objects in
      let by_message = subst (LowestOf (Passing (is_message_using name) objects)) (sym first)
      (find-lowest (is_message_using name) objects (state-in_order h is)) in
      let both = lower-lowest (HasName h.cells name) (Passing (is_message_using name) objects) process message lowest
      by_message in
      lowest-one Uses (lower_of process message) (owner (state_of h) name)
      (lowest-same (λ n. HasName h.cells name n ⊎ Passing (is_message_using name) objects n) Uses
      (lower_of process message) either-uses uses-either both)
      (find-lowest (λ o. has_name name (used o)) objects (state-in_order h is))

  -- ---- whether anyone mentions the name

  any-append : (xs ys : List ℕ) → has_name name (xs ++ ys) ≡ (has_name name xs || has_name name ys)
  any-append [] ys = refl
  any-append (x ∷ xs) ys = at (x == name) (any-append xs ys)
    where
      at : (b : Bool) → has_name name (xs ++ ys) ≡ (has_name name xs || has_name name ys)
          → (b || has_name name (xs ++ ys)) ≡ ((b || has_name name xs) || has_name name ys)
      at true rest = refl
      at false rest = rest

  abbrev process_uses : Object → Bool
  process_uses (object.Process p) = has_name name (used (object.Process p))
  process_uses (object.Message m) = false

  -- an object mentions the name plainly, or by a channel
  mention-parts : (o : Object) → has_name name (mentioned o) ≡ (mentions_plainly name o || process_uses o)
  mention-parts (object.Message m) = or-false (has_name name (mentioned (object.Message m)))
    where
      or-false : (b : Bool) → b ≡ (b || false)
      or-false true = refl
      or-false false = refl
  mention-parts (object.Process p) =
      any-append ((p.offers ∷ []) ++ uses) (option_to_list p.base)
      ∙ ap (λ b. b || has_name name (option_to_list p.base)) (any-append (p.offers ∷ []) uses)
      ∙ at (p.offers == name) (has_name name uses) p.base
    where
      uses : List ℕ
      uses = used (object.Process p)

      at : (b c : Bool) (base : Option ℕ)
          → (((b || false) || c) || has_name name (option_to_list base))
          ≡ ((b || some_passes (λ k. k == name) base) || c)
      at true c base = refl
      at false true None = refl
      at false false None = refl
      at false true (Some n) = or-true (n == name)
        where
          or-true : (b : Bool) → true ≡ (b || true)
          or-true true = refl
          or-true false = refl
      at false false (Some n) = refl

  -- what is found first passes, or nothing does
  any-found : (test : Object → Bool) (xs : List Object) → list_any test xs ≡ is_some (find test xs)
  any-found test [] = refl
  any-found test (x ∷ xs) = at (test x) (any-found test xs)
    where
      at : (b : Bool) → list_any test xs ≡ is_some (find test xs)
          → (b || list_any test xs) ≡ is_some (cond b (Some x) (find test xs))
      at true rest = refl
      at false rest = rest

  two-tests : (one other : Object → Bool) (xs : List Object)
      → list_any (λ o. one o || other o) xs ≡ (list_any one xs || list_any other xs)
  two-tests one other [] = refl
  two-tests one other (x ∷ xs) =
      ap (λ b. (one x || other x) || b) (two-tests one other xs) ∙ at (one x) (other x) (list_any one xs)
      (list_any other xs)
    where
      at : (a b c d : Bool) → ((a || b) || (c || d)) ≡ ((a || c) || (b || d))
      at true b c d = refl
      at false true true d = refl
      at false true false d = refl
      at false false c d = refl

  same-test : (one other : Object → Bool) → ((o : Object) → one o ≡ other o) → (xs : List Object)
      → list_any one xs ≡ list_any other xs
  same-test one other same [] = refl
  same-test one other same (x ∷ xs) =
      ap (λ b. b || list_any one xs) (same x) ∙ ap (λ b. other x || b) (same-test one other same xs)

  first-there : (r : Option ℕ) → IsFirstPlace (mentions_plainly name) h r
      → is_some r ≡ list_any (mentions_plainly name) objects
  first-there r first =
      at r first
      ∙ sym (any-found (mentions_plainly name) objects
      ∙ ap (λ (o : Option Object). is_some o) (first-standing (mentions_plainly name) h is r first))
    where
      passing : (o : Option Object) → some_passes (mentions_plainly name) o ≡ true → true ≡ is_some o
      passing (Some x) passed = refl
      passing None passed = absurd cc

      at : (r : Option ℕ) → IsFirstPlace (mentions_plainly name) h r
          → is_some r ≡ is_some (option_and_then (standing_at h) r)
      at None none = refl
      at (Some place) (passed, before) = passing (standing_at h place) passed

  lowest-there : (r : Option ℕ) → IsLowestUser h.cells name r → is_some r ≡ list_any process_uses objects
  lowest-there None none = by_test (list_any process_uses objects) refl
    where
      by_test : (b : Bool) → list_any process_uses objects ≡ b → false ≡ b
      by_test false there = refl
      by_test true there =
          let (o, inside, passed) = any-there process_uses objects there in
          absurd (none (object_number o) (by_object o inside passed))
        where
          by_object : (o : Object) → Contains objects o → process_uses o ≡ true → HasName h.cells name (object_number o)
          by_object (object.Process p) inside passed = uses-named p inside passed
          by_object (object.Message m) inside passed = absurd cc
  lowest-there (Some pid) (has, lowest) =
      let (p, inside, number, uses) = named-uses pid has in
      sym (any-shown process_uses objects (object.Process p) inside uses)

  -- the name is mentioned where it is plainly, or by a channel
  either-mention : (list_any (mentions_plainly name) objects || list_any process_uses objects)
      ≡ is_mentioned objects name
  either-mention =
      sym (same-test (λ o. has_name name (mentioned o)) (λ o. mentions_plainly name o || process_uses o) mention-parts
      objects
      ∙ two-tests (mentions_plainly name) process_uses objects)

  pub mention-is : (r process : Option ℕ) → IsFirstPlace (mentions_plainly name) h r
      → IsLowestUser h.cells name process
      → (is_some r || is_some process) ≡ is_mentioned objects name
  mention-is r process first lowest =
      ap (λ b. b || is_some process) (first-there r first)
      ∙ ap (λ b. list_any (mentions_plainly name) objects || b) (lowest-there process lowest)
      ∙ either-mention

  pub mention-plain : (r : Option ℕ) → IsFirstPlace (mentions_plainly name) h r → is_some r ≡ true
      → is_mentioned objects name ≡ true
  mention-plain r first some =
      sym either-mention ∙ ap (λ b. b || list_any process_uses objects) (sym (first-there r first) ∙ some)
