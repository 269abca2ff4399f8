-- The places that are made of what is in hand are those of the program, in whatever order they stand; and one of them
-- is found by the number of its instruction.
use Rattle.std.proofs.Common.{◌≡◌, ◌≢◌, ◌<◌, ◌≤◌, ◌+◌, inl, inr, ℕ, Bool, false, List, Contains, Some, Ok, Err, Less, Equal, Greater, map, length, get_or, slice_get, ap, refl, sym, subst, ◌∙◌, arith}
use Rattle.std.proofs.lemmas.Bool.{cases_lt}
use Rattle.std.proofs.lemmas.Cmp.{ranked, nat_cmp_total}
use Rattle.std.proofs.lemmas.List.Sorted.{Contains-permutation, IsPermutation-sym, searchable_from_sorted}
use Rattle.std.specs.Cmp.{nat_cmp_is}
use Rattle.std.specs.List.Sorted.{IsBinarySearchResult, IsNonDecreasingBy, IsPermutation, IsSortedBy}
use Rattle.std.specs.Ordering.{nat_cmp, is_lt}
use Rattle.nomos_check.specs.InHand.{IsWanted}
use Rattle.nomos_check.specs.declared.standing.Standing.{Standing}
use Rattle.nomos_ir.specs.declared.ids.CodeId.{CodeId}
use Rattle.nomos_types.proofs.OccurrenceLaws.{contains-map, contains-unmap}
use Rattle.nomos_types.specs.Acceptance.{Acceptance}
use Rattle.nomos_types.specs.Judgement.{Judgement}
use Rattle.nomos_places.specs.LeastPotential.{NeedsAtLeast}
use Rattle.nomos_places.specs.WantedPlaces.{ArePlacesAt, IsDescribed, IsPlaceAt, StandsIn}
use Rattle.nomos_places.specs.declared.along.Along.{Along}
use Rattle.nomos_places.specs.declared.place.Place.{Place}
use Rattle.nomos_places.specs.mirror.AlongCode.{IsAlong}
use Rattle.nomos_places.specs.mirror.Making.{least_in, number_or_none, place_in}
use Rattle.nomos_places.specs.mirror.Needing.{AreLeasts}

-- ---- the places of the program

module _ (a : Acceptance) (wanted : List Bool) (along : Along) (is : IsAlong a wanted along) (leasts : List ℕ)
    (needs : AreLeasts a leasts) (found : List Place)
    (same : IsPermutation (map (place_in a.annotations leasts) along.standings.items) found) where
  abbrev made : Standing → Place
  made = place_in a.annotations leasts

  described : (j : Judgement) → StandsIn a j → IsWanted wanted j.code.0 → IsDescribed found j
  described j stands wants =
      let h = is.each j stands wants in
      let s = h.standing in
      record {
        place = made s;
        among =
            Contains-permutation (map made along.standings.items) found (made s) same
            (contains-map made along.standings.items s (made s) h.among refl);
        describes = h.has (least_in leasts s.code);
      }

  place-there : (p : Place) → Contains found p → IsPlaceAt a p
  place-there p among =
      let before = Contains-permutation found (map made along.standings.items) p
      (IsPermutation-sym (map made along.standings.items) found same) among in
      let (s, there, made_is) = contains-unmap made along.standings.items p before in
      let one = is.only s there in
      let least = needs one.judgement one.stands in
      let describes = one.has (least_in leasts s.code) in
      let number : slice_get leasts s.code.0 ≡ Some least.least =
      ap (λ (c : CodeId). slice_get leasts c.0) (sym describes.code) ∙ least.found in
      let needed : least_in leasts s.code ≡ least.least = ap number_or_none number in
      subst (IsPlaceAt a) made_is (record {
        judgement = one.judgement;
        stands = one.stands;
        describes = describes;
        least =
            subst (NeedsAtLeast a.program a.annotations one.judgement) (sym needed) least.needs;
      })

  pub found-places : ArePlacesAt a wanted found
  found-places = record { each = described; only = place-there }

-- ---- where one stands

code-of : (c e : CodeId) → c.0 ≡ e.0 → c ≡ e
code-of c e is = λ i. record { 0 = is i }

-- a number that is at least another one is not less
not-less : (m k : ℕ) → k ≤ m → is_lt (nat_cmp m k) ≡ false
not-less m k low = elim (cases_lt k m) [
  | inl less ↦ ap is_lt (sym (nat_cmp_is m k Greater less))
  | inr most ↦ let is : m ≡ k = omega (arith, low, most) in ap is_lt (sym (nat_cmp_is m k Equal is))
]

sorted : (b : List Place) → IsNonDecreasingBy (λ (p : Place). p.code.0) b
    → IsSortedBy (λ (p q : Place). is_lt (nat_cmp p.code.0 q.code.0)) b
sorted b ordered = λ k d from within.
    not-less (get_or b (k + 1) d).code.0 (get_or b k d).code.0 (ordered k (k + 1) d (omega arith) within)

pub found-at : (code : CodeId) (b : List Place) (i : ℕ) (d : Place)
    → IsBinarySearchResult (λ p. nat_cmp p.code.0 code.0) b (Ok i) → (get_or b i d).code ≡ code
found-at code b i d found =
    code-of (get_or b i d).code code (ranked (get_or b i d).code.0 code.0 Equal (sym (found d)))

pub found-nowhere : (code : CodeId) (b : List Place) (i : ℕ) → IsNonDecreasingBy (λ (p : Place). p.code.0) b
    → i ≤ length b → IsBinarySearchResult (λ p. nat_cmp p.code.0 code.0) b (Err i)
    → (p : Place) → Contains b p → p.code ≢ code
found-nowhere code b i ordered within found p among = λ same.
    let rising = searchable_from_sorted nat_cmp_total (λ (q : Place). q.code.0) b code.0 (sorted b ordered) in
    let parts = found rising in
    let k = among.0 in
    let inside = among.1 in
    let here : (get_or b k p).code.0 ≡ code.0 = ap (λ (q : Place). q.code.0) among.2 ∙ ap (λ (c : CodeId). c.0) same in
    elim (cases_lt k i) [
      | inl below ↦
          let less : (get_or b k p).code.0 < code.0 =
          ranked (get_or b k p).code.0 code.0 Less (sym (parts.0 k p (omega arith) below)) in
          omega (arith, less, here)
      | inr above ↦
          let more : code.0 < (get_or b k p).code.0 =
          ranked (get_or b k p).code.0 code.0 Greater (sym (parts.1 k p above inside)) in
          omega (arith, more, here)
    ]
