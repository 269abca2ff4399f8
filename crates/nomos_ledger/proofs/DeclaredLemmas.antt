-- Declarations by their names, and the first one that a line wants.
use Rattle.std.proofs.Common.{◌≡◌, ◌≢◌, ◌∙◌, ◌<◌, ℕ, Bool, true, false, cond, ◌&&◌, List, [], ◌∷◌, length, map, take, get_or, AllPairs, position, Some, None, is_some, ltb, inl, inr, refl, sym, ap, subst, arith}
use Rattle.std.proofs.lemmas.Bool.{cases_eq, cases_lt, lt-ltb, ltb-true}
use Rattle.std.proofs.lemmas.List.{get_or-take, length-map, length-take-le}
use Rattle.std.proofs.lemmas.List.Quantifiers.{position-Some}
use Rattle.std.proofs.lemmas.List.Sums.{position_or_len_is, fails_before_first}
use Rattle.std.proofs.lemmas.Slice.Eq.{bytes_eq-Decides}
use Rattle.std.proofs.Math.ListN.{get_or-map}
use Rattle.std.specs.List.{position_or_len}
use Rattle.std.specs.Str.{bytes_eq}
use Rattle.nomos_ir.specs.declared.declaration.ProcDecl.{ProcDecl}
use Rattle.nomos_script.specs.declared.item.Start.{Start}
use Rattle.nomos_legal.specs.LineStarts.{has_mode, is_wanted}

-- ---- the first item that passes a test

module _ {X : Type 0} (p : X → Bool) (xs : List X) where
  -- it stands where an item passes, and none before it
  first-place : (k : ℕ) (d : X) → k < length xs → ((j : ℕ) → j < k → p (get_or xs j d) ≡ false)
      → p (get_or xs k d) ≡ true → position p xs ≡ Some k
  first-place k d inside before at =
      let is : position_or_len p xs ≡ k = position_or_len_is p xs k d (omega arith) before (λ h. at) in
      ap (λ (n : ℕ). cond (ltb n (length xs)) (Some n) None) is
      ∙ ap (λ (b : Bool). cond b (Some k) None) (lt-ltb k (length xs) inside)

  -- there is none where no item passes
  no-place : (d : X) → ((j : ℕ) → j < length xs → p (get_or xs j d) ≡ false) → position p xs ≡ None
  no-place d fails = by (ltb (length xs) (length xs)) refl
    where
      is : position_or_len p xs ≡ length xs
      is = position_or_len_is p xs (length xs) d (omega arith) fails (λ h. absurd (omega arith))

      by : (b : Bool) → ltb (length xs) (length xs) ≡ b → position p xs ≡ None
      by true e = let less = ltb-true (length xs) (length xs) e in absurd (omega arith)
      by false e =
          ap (λ (n : ℕ). cond (ltb n (length xs)) (Some n) None) is
          ∙ ap (λ (b : Bool). cond b (Some (length xs)) None) e

  -- and then none does
  none-passes : position p xs ≡ None → (k : ℕ) (d : X) → k < length xs → p (get_or xs k d) ≡ false
  none-passes none k d inside = by (ltb (position_or_len p xs) (length xs)) refl
    where
      by : (b : Bool) → ltb (position_or_len p xs) (length xs) ≡ b → p (get_or xs k d) ≡ false
      by true e =
          let some : position p xs ≡ Some (position_or_len p xs) =
          ap (λ (c : Bool). cond c (Some (position_or_len p xs)) None) e in
          absurd (let f = none in let g = some in cc)
      by false e =
          elim (cases_lt k (position_or_len p xs)) [
            | inl below ↦ fails_before_first p xs k d below
            | inr above ↦
                let less : position_or_len p xs < length xs = omega arith in
                let yes = lt-ltb (position_or_len p xs) (length xs) less in
                absurd (let f = e in cc)
          ]

-- texts that differ
texts-apart : (m n : List ℕ) → m ≢ n → bytes_eq m n ≡ false
texts-apart m n apart = by (bytes_eq m n) refl
  where
    by : (b : Bool) → bytes_eq m n ≡ b → bytes_eq m n ≡ false
    by true e = absurd (apart ((bytes_eq-Decides m n).0 e))
    by false e = e

-- ---- declarations

abbrev pub names_of : List ProcDecl → List (List ℕ)
names_of procs = map (λ d. d.name) procs

-- the names of declarations differ
abbrev pub Differ : List ProcDecl → Type 0
Differ procs = AllPairs (λ d e. d.name ≢ e.name) procs

-- the name at a place
name-at : (procs : List ProcDecl) (k : ℕ) (d : ProcDecl) → get_or (names_of procs) k d.name ≡ (get_or procs k d).name
name-at procs k d = get_or-map (λ (e : ProcDecl). e.name) procs k d

-- the name of a declaration is not among those before it
pub new-name : (procs : List ProcDecl) (k : ℕ) (d : ProcDecl) → Differ procs → k < length procs
    → position (λ a. bytes_eq a (get_or procs k d).name) (names_of (take k procs)) ≡ None
new-name procs k d differ inside = no-place (λ a. bytes_eq a name) (names_of (take k procs)) d.name fails
  where
    name : List ℕ
    name = (get_or procs k d).name

    fails : (j : ℕ) → j < length (names_of (take k procs))
        → bytes_eq (get_or (names_of (take k procs)) j d.name) name ≡ false
    fails j below =
        let mapped = length-map (take k procs) (λ (e : ProcDecl). e.name) in
        let before : j < k = omega (arith, below, mapped, length-take-le k procs (omega arith)) in
        let is : get_or (names_of (take k procs)) j d.name ≡ (get_or procs j d).name =
        name-at (take k procs) j d ∙ ap (λ (e : ProcDecl). e.name) (get_or-take k procs j d before) in
        ap (λ (m : List ℕ). bytes_eq m name) is ∙ texts-apart (get_or procs j d).name name (differ j k d before inside)

module _ (start : Start) (procs : List ProcDecl) where
  -- what a name finds, and what a line finds
  abbrev named : List ℕ → Bool
  named a = bytes_eq a start.proc

  -- no declaration is wanted whose name no declaration has
  pub wanted-none : position named (names_of procs) ≡ None → position (is_wanted start) procs ≡ None
  wanted-none none = at procs none
    where
      at : (ds : List ProcDecl) → position named (names_of ds) ≡ None → position (is_wanted start) ds ≡ None
      at [] none = refl
      at (e ∷ ds) none = no-place (is_wanted start) (e ∷ ds) e fails
        where
          fails : (j : ℕ) → j < length (e ∷ ds) → is_wanted start (get_or (e ∷ ds) j e) ≡ false
          fails j inside =
              let within : j < length (names_of (e ∷ ds)) =
              rw (length-map (e ∷ ds) (λ (x : ProcDecl). x.name)) inside in
              let no : named (get_or (names_of (e ∷ ds)) j e.name) ≡ false =
              none-passes named (names_of (e ∷ ds)) none j e.name within in
              let other : bytes_eq (get_or (e ∷ ds) j e).name start.proc ≡ false =
              sym (ap (λ (m : List ℕ). bytes_eq m start.proc) (name-at (e ∷ ds) j e)) ∙ no in
              ap (λ (b : Bool). b && has_mode (is_some start.contract) (get_or (e ∷ ds) j e).mode) other

  module _ (k : ℕ) (d : ProcDecl) (found : position named (names_of procs) ≡ Some k) where
    -- the declaration that has the name
    abbrev found_there : ProcDecl
    found_there = get_or procs k d

    facts : (k < length (names_of procs)) × (named (get_or (names_of procs) k d.name) ≡ true)
        × ((j : ℕ) → j < k → named (get_or (names_of procs) j d.name) ≡ false)
    facts = position-Some named (names_of procs) k d.name found

    inside : k < length procs
    inside = omega (arith, facts.0, length-map procs (λ (x : ProcDecl). x.name))

    has_name : bytes_eq found_there.name start.proc ≡ true
    has_name = sym (ap (λ (m : List ℕ). bytes_eq m start.proc) (name-at procs k d)) ∙ facts.1

    -- where its mode is the one that the line wants, it is the first one wanted
    pub wanted-there : has_mode (is_some start.contract) found_there.mode ≡ true
        → position (is_wanted start) procs ≡ Some k
    wanted-there right = first-place (is_wanted start) procs k d inside before here
      where
        before : (j : ℕ) → j < k → is_wanted start (get_or procs j d) ≡ false
        before j below =
            let other : bytes_eq (get_or procs j d).name start.proc ≡ false =
            sym (ap (λ (m : List ℕ). bytes_eq m start.proc) (name-at procs j d)) ∙ facts.2 j below in
            ap (λ (b : Bool). b && has_mode (is_some start.contract) (get_or procs j d).mode) other

        here : is_wanted start found_there ≡ true
        here = ap (λ (b : Bool). b && has_mode (is_some start.contract) found_there.mode) has_name ∙ right

    -- and otherwise none is, since no other one has the name
    pub wanted-other : Differ procs → has_mode (is_some start.contract) found_there.mode ≡ false
        → position (is_wanted start) procs ≡ None
    wanted-other differ wrong = no-place (is_wanted start) procs d fails
      where
        apart : (j : ℕ) → (get_or procs j d).name ≢ found_there.name → is_wanted start (get_or procs j d) ≡ false
        apart j other =
            let name : found_there.name ≡ start.proc = (bytes_eq-Decides found_there.name start.proc).0 has_name in
            let no = texts-apart (get_or procs j d).name start.proc (λ same. other (same ∙ sym name)) in
            ap (λ (b : Bool). b && has_mode (is_some start.contract) (get_or procs j d).mode) no

        fails : (j : ℕ) → j < length procs → is_wanted start (get_or procs j d) ≡ false
        fails j within =
            elim (cases_eq j k) [
              | inl same ↦
                  let Fails : ℕ → Type 0 = λ i. is_wanted start (get_or procs i d) ≡ false in
                  subst Fails (sym same)
                  (ap (λ (b : Bool). b && has_mode (is_some start.contract) found_there.mode) has_name ∙ wrong)
              | inr other ↦
                  elim (cases_lt j k) [
                    | inl below ↦ apart j (differ j k d below inside)
                    | inr above ↦
                        let below : k < j = omega arith in
                        apart j (λ same. differ k j d below within (sym same))
                  ]
            ]
