-- The names that lead to bases are found by going on from those that are found.
use Rattle.std.proofs.Common.{◌≡◌, ◌≢◌, ◌⊎◌, ◌≤◌, ◌<◌, ◌+◌, ◌-◌, ◌↔◌, ◌∙◌, inl, inr, ℕ, Bool, false, IsTrue, List, [], ◌∷◌, ◌++◌, map, take, drop, length, OnOk, Result, Ok, Err, get_or, All, Contains, refl, ap, subst, sym, arith}
use Rattle.std.proofs.lemmas.Bool.{cases_lt}
use Rattle.std.proofs.lemmas.List.{get_or-drop, get_or-take, append_assoc, map-append, get_or_append_left, get_or_default, length-append, length-drop, length-take-le, take-append-drop, take_all, take_more}
use Rattle.std.proofs.lemmas.List.Elements.{All-contains, Contains-append_left, Contains-append_right, Contains-append_cases, All-weaker, All-contains_itself}
use Rattle.std.proofs.lemmas.List.Sorted.{Contains-permutation, IsNonDecreasingBy-drop, IsPermutation-sym}
use Rattle.std.specs.List.Sorted.{IsNonDecreasingBy, IsPartitionPoint, IsPermutation}
use Rattle.nomos_types.proofs.OccurrenceLaws.{contains-map, contains-unmap}
use Rattle.nomos_typed.specs.declared.leading.Led.{Led}
use Rattle.nomos_typed.specs.declared.leading.Onward.{Onward}
use Rattle.nomos_typed.specs.mirror.Leading.{AreLed, IsLed, PushesOnward, first, further, led_from}

-- Those that are there lead to bases, the first ones among them, and what one comes to from the first n of them is
-- there.
pub record IsLeading (start : List Led) (onwards : List Onward) (led : List Led) (n : ℕ) : Type 0 where
  pub within : n ≤ length led
  pub starts : (l : Led) → Contains start l → Contains led l
  pub sound : (l : Led) → Contains led l → IsLed start onwards l.base l.name
  pub closed : (k : ℕ) (e : Led) (o : Onward) → k < n → Contains onwards o → o.end ≡ (get_or led k e).name
      → Contains led (record { name = o.name; base = (get_or led k e).base })

module _ (start : List Led) (onwards : List Onward) where
  pub leading-none : IsLeading start onwards start 0
  leading-none = record {
    within = omega arith;
    starts = λ l inside. inside;
    sound = λ l inside. first l inside refl;
    closed = λ k e o low there is. absurd (omega (arith, low));
  }

  pub leading-more : (led new : List Led) (n : ℕ) (l : Led) → n < length led → l ≡ get_or led n l
      → IsLeading start onwards led n → PushesOnward onwards l led new → IsLeading start onwards new (n + 1)
  leading-more led new n l inside is leading pushes = record {
    within = omega (arith, inside, long);
    starts = λ k there. stays k (leading.starts k there);
    sound = sound;
    closed = closed;
  }
    where
      long : length led ≤ length new
      long = omega (arith, ap length pushes.pushed, length-append led pushes.more)

      stays : (k : Led) → Contains led k → Contains new k
      stays k there =
          subst (λ (ls : List Led). Contains ls k) (sym pushes.pushed) (Contains-append_left led pushes.more k there)

      here : Contains led l
      here = (n, inside, sym is)

      sound : (k : Led) → Contains new k → IsLed start onwards k.base k.name
      sound k there =
          let own = subst (λ (ls : List Led). Contains ls k) pushes.pushed there in
          elim (Contains-append_cases led pushes.more k own) [
            | inl old ↦ leading.sound k old
            | inr among ↦
                let (base, onward) = All-contains (λ (j : Led). (j.base ≡ l.base)
                × Contains onwards (record { end = l.name; name = j.name })) pushes.more k pushes.sound among in
                subst (λ (b : ℕ). IsLed start onwards b k.name) (sym base)
                (further (record { end = l.name; name = k.name }) onward (leading.sound l here))
          ]

      same : (k : ℕ) (e : Led) → k < length led → get_or new k e ≡ get_or led k e
      same k e low =
          ap (λ ls. get_or ls k e) pushes.pushed ∙ get_or_append_left led pushes.more e k low

      closed : (k : ℕ) (e : Led) (o : Onward) → k < n + 1 → Contains onwards o → o.end ≡ (get_or new k e).name
          → Contains new (record { name = o.name; base = (get_or new k e).base })
      closed k e o low there at = elim (cases_lt k n) [
        | inl lower ↦
            let old : get_or new k e ≡ get_or led k e = same k e (omega (arith, lower, inside)) in
            subst (λ (j : Led). Contains new (record { name = o.name; base = j.base })) (sym old)
            (stays (record { name = o.name; base = (get_or led k e).base })
            (leading.closed k e o lower there (at ∙ ap (λ (j : Led). j.name) old)))
        | inr least ↦
            let last : k ≡ n = omega (arith, least, low) in
            let own : get_or new k e ≡ l =
            same k e (omega (arith, last, inside)) ∙ ap (λ m. get_or led m e) last ∙ default ∙ sym is in
            subst (λ (j : Led). Contains new (record { name = o.name; base = j.base })) (sym own)
            (subst (λ (ls : List Led). Contains ls (record { name = o.name; base = l.base })) (sym pushes.pushed)
            (Contains-append_right led pushes.more (record { name = o.name; base = l.base })
            (pushes.complete o there (at ∙ ap (λ (j : Led). j.name) own))))
      ]
        where
          default : get_or led n e ≡ get_or led n l
          default = get_or_default led n e l inside

  -- what all lead to is there
  pub leading-all : (led : List Led) (n : ℕ) → length led ≤ n → IsLeading start onwards led n
      → AreLed start onwards led
  leading-all led n whole leading l = (leading.sound l, there l.base l.name)
    where
      there : (base name : ℕ) → IsLed start onwards base name → Contains led (record { name = name; base = base })
      there base _ (first k among is) =
          subst (λ (b : ℕ). Contains led (record { name = k.name; base = b })) is (leading.starts k among)
      there base _ (further o among is) =
          let (k, low, at) = there base o.end is in
          let name : o.end ≡ (get_or led k (record { name = o.end; base = base })).name =
          sym (ap (λ (j : Led). j.name) at) in
          subst (λ (b : ℕ). Contains led (record { name = o.name; base = b })) (ap (λ (j : Led). j.base) at)
          (leading.closed k (record { name = o.end; base = base }) o (omega (arith, low, whole)) among name)

-- ---- what is added from one name

pub pushed-more : (l : Led) (old led new : List Led) (later : List Onward) (i : ℕ) (o : Onward) → i < length later
    → o ≡ get_or later i o → led ≡ old ++ map (led_from l) (take i later) → new ≡ led ++ led_from l o ∷ []
    → new ≡ old ++ map (led_from l) (take (i + 1) later)
pushed-more l old led new later i o inside is pushed more =
    let front : take (i + 1) later ≡ take i later ++ o ∷ [] =
    take_more later i o inside ∙ ap (λ (p : Onward). take i later ++ p ∷ []) (sym is) in
    more
    ∙ ap (λ ls. ls ++ led_from l o ∷ []) pushed
    ∙ append_assoc old (map (led_from l) (take i later)) (led_from l o ∷ [])
    ∙ ap (λ ls. old ++ ls) (sym (map-append (led_from l) (take i later) (o ∷ [])))
    ∙ ap (λ os. old ++ map (led_from l) os) (sym front)

module _ (later : List Onward) (l : Led) (sorted : IsNonDecreasingBy (λ (o : Onward). o.end) later)
    (late : All (λ (o : Onward). l.name ≤ o.end) later) where
  -- those behind the first that does not begin at the name do not either
  none-behind : (n k : ℕ) (o e : Onward) → n ≤ k → k < length later → e ≡ get_or later n e → e.end ≢ l.name
      → get_or later k o ≡ o → o.end ≢ l.name
  none-behind n k o e from low is other at same =
      let rises : (get_or later n e).end ≤ (get_or later k e).end = sorted n k e from low in
      let one : get_or later k e ≡ o = get_or_default later k e o low ∙ at in
      let top : (get_or later k e).end ≡ o.end = ap (λ (p : Onward). p.end) one in
      let first : e.end ≡ (get_or later n e).end = ap (λ (p : Onward). p.end) is in
      let least : l.name ≤ (get_or later n e).end = late n e (omega (arith, from, low)) in
      other (omega (arith, rises, top, first, least, same))

  pub pushes-front : (old new : List Led) (n : ℕ) → n ≤ length later
      → All (λ (o : Onward). o.end ≡ l.name) (take n later) → new ≡ old ++ map (led_from l) (take n later)
      → ((length later ≤ n) ⊎ ((e : Onward) × (e ≡ get_or later n e) × (e.end ≢ l.name)))
      → PushesOnward later l old new
  pushes-front old new n within here pushed stop = record {
    more = map (led_from l) (take n later);
    pushed = pushed;
    sound = All-weaker (Contains more) Sound (λ k among. sound k among) more (All-contains_itself more);
    complete = λ o there at. contains-map (led_from l) (take n later) o (led_from l o) (front o there at) refl;
  }
    where
      more : List Led
      more = map (led_from l) (take n later)

      Sound : Led → Type 0
      Sound k = (k.base ≡ l.base) × Contains later (record { end = l.name; name = k.name })

      whole : take n later ++ drop n later ≡ later
      whole = take-append-drop n later

      sound : (k : Led) → Contains more k → Sound k
      sound k among =
          let (o, there, is) = contains-unmap (led_from l) (take n later) k among in
          let at : o.end ≡ l.name = All-contains (λ (p : Onward). p.end ≡ l.name) (take n later) o here there in
          let inside : Contains later o =
          subst (λ (os : List Onward). Contains os o) whole (Contains-append_left (take n later) (drop n later) o there)
          in
          let name : o.name ≡ k.name = ap (λ (j : Led). j.name) is in
          let same : o ≡ record { end = l.name; name = k.name } = (λ i. record { end = at i; name = name i }) in
          (sym (ap (λ (j : Led). j.base) is), subst (λ (p : Onward). Contains later p) same inside)

      front : (o : Onward) → Contains later o → o.end ≡ l.name → Contains (take n later) o
      front o there at =
          elim (Contains-append_cases (take n later) (drop n later) o
          (subst (λ (os : List Onward). Contains os o) (sym whole) there)) [
            | inl before ↦ before
            | inr behind ↦ absurd (never behind)
          ]
        where
          never : Contains (drop n later) o → ⊥
          never (k, low, is) =
              let long = length-drop n later in
              let at_k : get_or later (n + k) o ≡ o = sym (get_or-drop n later k o) ∙ is in
              elim stop [
                | inl none ↦ omega (arith, low, long, none)
                | inr past ↦
                    none-behind n (n + k) o past.0 (omega arith) (omega (arith, low, long)) past.1 past.2 at_k at
              ]

-- ---- those behind the first that may begin at the name

module _ (onwards : List Onward) where
  pub sorted-behind : (start : ℕ) → IsNonDecreasingBy (λ (o : Onward). o.end) onwards
      → IsNonDecreasingBy (λ (o : Onward). o.end) (drop start onwards)
  sorted-behind start sorted = IsNonDecreasingBy-drop (λ (o : Onward). o.end) start onwards sorted

  -- the rest, as a slice
  pub slice-behind : (start : ℕ) → take (length onwards - start) (drop start onwards) ≡ drop start onwards
  slice-behind start = take_all (length onwards - start) (drop start onwards) (omega (arith, length-drop start onwards))

  pub late-behind : (name start : ℕ)
      → IsPartitionPoint (λ (o : Onward). o.end < name) (λ (o : Onward). name ≤ o.end) onwards start
      → All (λ (o : Onward). name ≤ o.end) (drop start onwards)
  late-behind name start point k d low =
      let long = length-drop start onwards in
      subst (λ (o : Onward). name ≤ o.end) (sym (get_or-drop start onwards k d))
      (point.1 (start + k) d (omega arith) (omega (arith, low, long)))

  pub pushes-behind : (l : Led) (start : ℕ) → start ≤ length onwards
      → IsPartitionPoint (λ (o : Onward). o.end < l.name) (λ (o : Onward). l.name ≤ o.end) onwards start
      → (old new : List Led) → PushesOnward (drop start onwards) l old new → PushesOnward onwards l old new
  pushes-behind l start within point old new pushes = record {
    more = pushes.more;
    pushed = pushes.pushed;
    sound = All-weaker Behind There (λ k is. (is.0, inside (record { end = l.name; name = k.name }) is.1)) pushes.more
        pushes.sound;
    complete = λ o there at. pushes.complete o (behind o there at) at;
  }
    where
      Behind : Led → Type 0
      Behind k = (k.base ≡ l.base) × Contains (drop start onwards) (record { end = l.name; name = k.name })

      There : Led → Type 0
      There k = (k.base ≡ l.base) × Contains onwards (record { end = l.name; name = k.name })

      whole : take start onwards ++ drop start onwards ≡ onwards
      whole = take-append-drop start onwards

      inside : (o : Onward) → Contains (drop start onwards) o → Contains onwards o
      inside o there =
          subst (λ (os : List Onward). Contains os o) whole
          (Contains-append_right (take start onwards) (drop start onwards) o there)

      behind : (o : Onward) → Contains onwards o → o.end ≡ l.name → Contains (drop start onwards) o
      behind o there at =
          elim (Contains-append_cases (take start onwards) (drop start onwards) o
          (subst (λ (os : List Onward). Contains os o) (sym whole) there)) [
            | inl before ↦ absurd (never before)
            | inr later ↦ later
          ]
        where
          never : Contains (take start onwards) o → ⊥
          never (k, low, is) =
              let below : k < start = omega (arith, low, length-take-le start onwards within) in
              let at_k : get_or onwards k o ≡ o = sym (get_or-take start onwards k o below) ∙ is in
              let lower : (get_or onwards k o).end < l.name = point.0 k o (omega arith) below in
              let same : (get_or onwards k o).end ≡ o.end = ap (λ (p : Onward). p.end) at_k in
              omega (arith, lower, same, at)

  pub pushes-all : (l : Led) (start : ℕ) → start ≤ length onwards
      → IsPartitionPoint (λ (o : Onward). o.end < l.name) (λ (o : Onward). l.name ≤ o.end) onwards start
      → (old new : List Led) {E : Type 0} (r : Result (Unit {0}) E)
      → OnOk r (PushesOnward (drop start onwards) l old new) → OnOk r (PushesOnward onwards l old new)
  pushes-all l start within point old new (Ok done) pushes = pushes-behind l start within point old new pushes
  pushes-all l start within point old new (Err e) pushes = tt

-- ---- in whichever order

led-by : (start : List Led) (xs ys : List Onward) → ((o : Onward) → Contains xs o → Contains ys o) → (base name : ℕ)
    → IsLed start xs base name → IsLed start ys base name
led-by start xs ys moved base _ (first l among is) = first l among is
led-by start xs ys moved base _ (further o among is) =
    further o (moved o among) (led-by start xs ys moved base o.end is)

pub led-permuted : (start : List Led) (xs ys : List Onward) (led : List Led) → IsPermutation xs ys
    → AreLed start ys led → AreLed start xs led
led-permuted start xs ys led same are l = (
  λ among. led-by start ys xs (λ o there. Contains-permutation ys xs o (IsPermutation-sym xs ys same) there) l.base
      l.name ((are l).0 among),
  λ is. (are l).1 (led-by start xs ys (λ o there. Contains-permutation xs ys o same there) l.base l.name is),
)

pub not-true : {P : Type 0} (answer : Bool) → answer ≡ false → (IsTrue answer ↔ P) → ¬ P
not-true answer is_false exact holds = let is = exact.1 holds in absurd cc
