-- How what is marked stays, and with it what a column keeps, where records change.
use Rattle.std.proofs.Common.{◌≡◌, ◌<◌, ◌≤◌, subst, ℕ, true, false, List, [], ◌∷◌, ◌++◌, Option, Some, None, IfSome, map, length, get_or, set, take, refl, sym, ap, ◌∙◌, inl, inr, arith}
use Rattle.std.specs.Option.{option_map}
use Rattle.std.proofs.Math.Seq.{map-set_same, take-set-lt}
use Rattle.std.proofs.lemmas.Bool.{cases_lt}
use Rattle.std.proofs.lemmas.List.{map-set, get_or-take, get_or-map, length-map, length-set, length-take, length-take-le, take-map, take-set-le, take-take, take_all}
use Rattle.std.proofs.lemmas.List.Elements.{All-push}
use Rattle.nomos_slots.specs.Log.{is_kept, is_logged, mark_len, IsBelow, IsKeptAsLogged, IsSound, put_back, records, unkept}
use Rattle.nomos_slots.specs.declared.column.Logged.{Logged}
use Rattle.nomos_slots.proofs.LogLemmas.{nil_from_below, IsOnce-push, length-put_back, put_back_over, put_back_first, is_kept-take, is_kept-push, is_kept-unkept}

module _ {X : Type 0} where
  -- what is marked, by the parts
  abbrev pub marked_in : List (Logged X) → List (ℕ × X) → Option ℕ → Option (List X)
  marked_in es log marked = option_map (λ len. put_back (take len (records es)) log) marked

  -- ---- where nothing is marked

  pub none_from_marked : (es : List (Logged X)) (log : List (ℕ × X)) (marked : Option ℕ)
      → marked_in es log marked ≡ None → marked ≡ None
  none_from_marked es log None h = refl
  none_from_marked es log (Some n) h = cc

  below_mark : (log : List (ℕ × X)) (marked some : Option ℕ)
      → marked ≡ some → IsBelow (mark_len marked) log → IsBelow (mark_len some) log
  below_mark log marked some is below = subst (λ m. IsBelow (mark_len m) log) is below

  pub nil_unmarked : (es : List (Logged X)) (log : List (ℕ × X)) (marked : Option ℕ)
      → IsSound es log marked → marked ≡ None → log ≡ []
  nil_unmarked es log marked sound none = nil_from_below log (below_mark log marked None none sound.below)

  -- ---- an entry that is read

  pub is_kept_read : (es : List (Logged X)) (at : ℕ) (e : Logged X)
      → at < length es → e ≡ get_or es at e → is_kept es at ≡ e.kept
  is_kept_read es at e l read =
      get_or-map (λ (x : Logged X). x.kept) es at e false l ∙ ap (λ (x : Logged X). x.kept) (sym read)

  item_read : (es : List (Logged X)) (at : ℕ) (e : Logged X) (d : X)
      → at < length es → e ≡ get_or es at e → get_or (records es) at d ≡ e.item
  item_read es at e d l read =
      get_or-map (λ (x : Logged X). x.item) es at e d l ∙ ap (λ (x : Logged X). x.item) (sym read)

  pub records-set : (es : List (Logged X)) (at : ℕ) (e : Logged X) → records (set es at e) ≡ set (records es) at e.item
  records-set es at e = map-set (λ (x : Logged X). x.item) es at e

  -- ---- the first change of a marked record

  pub IsSound_first : (es : List (Logged X)) (log new : List (ℕ × X)) (marked : Option ℕ) (at : ℕ) (x : X)
      (e : Logged X)
      → IsSound es log marked → at < mark_len marked → is_kept es at ≡ false → e.kept ≡ true
      → new ≡ log ++ (at, x) ∷ [] → IsSound (set es at e) new marked
  IsSound_first es log new marked at x e sound below not is eq =
      let l : at < length es = omega (arith, sound.within) in
      rw eq (record {
        within = omega (arith, sound.within, length-set es at e);
        below = All-push (λ saved. saved.0 < mark_len marked) log (at, x) sound.below below;
        once = IsOnce-push log at x (sym (sound.kept at) ∙ not) sound.once;
        kept = is_kept-push es log at x e l is sound.kept;
      })

  pub marked_first : (es : List (Logged X)) (log new : List (ℕ × X)) (marked : Option ℕ) (at : ℕ) (old e : Logged X)
      → IsSound es log marked → at < mark_len marked → old ≡ get_or es at old → old.kept ≡ false
      → new ≡ log ++ (at, old.item) ∷ [] → marked_in (set es at e) new marked ≡ marked_in es log marked
  marked_first es log new None at old e sound below read not eq = refl
  marked_first es log new (Some n) at old e sound below read not eq =
      let l : at < length es = omega (arith, sound.within) in
      let first = take n (records es) in
      let was : get_or first at old.item ≡ old.item =
      get_or-take n (records es) at old.item below ∙ item_read es at old old.item l read in
      let cut : take n (records (set es at e)) ≡ set first at e.item =
      ap (take n) (records-set es at e) ∙ take-set-lt n (records es) at e.item below in
      let lacks : is_logged log at ≡ false = sym (sound.kept at) ∙ is_kept_read es at old l read ∙ not in
      ap Some (
      ap (put_back (take n (records (set es at e)))) eq
      ∙ ap (λ xs. put_back xs (log ++ (at, old.item) ∷ [])) cut
      ∙ ap (λ x. put_back (set first at e.item) (log ++ (at, x) ∷ [])) (sym was)
      ∙ put_back_first first log at e.item old.item lacks
      )

  -- ---- any other change of a record

  pub IsSound_again : (es : List (Logged X)) (log : List (ℕ × X)) (marked : Option ℕ) (at : ℕ) (e : Logged X)
      → IsSound es log marked → is_kept es at ≡ e.kept → at < length es → IsSound (set es at e) log marked
  IsSound_again es log marked at e sound same l =
      let read = get_or-map (λ (x : Logged X). x.kept) es at e false l in
      let kept : map (λ x. x.kept) (set es at e) ≡ map (λ x. x.kept) es =
      map-set_same (λ (x : Logged X). x.kept) es at e e (sym same ∙ read) in
      record {
        within = omega (arith, sound.within, length-set es at e);
        below = sound.below;
        once = sound.once;
        kept = λ place. ap (λ ks. get_or ks place false) kept ∙ sound.kept place;
      }

  pub marked_again : (es : List (Logged X)) (log : List (ℕ × X)) (marked : Option ℕ) (at : ℕ) (e : Logged X)
      → IsSound es log marked → (at < mark_len marked → is_kept es at ≡ true)
      → marked_in (set es at e) log marked ≡ marked_in es log marked
  marked_again es log None at e sound has = refl
  marked_again es log (Some n) at e sound has =
      ap (λ xs. Some (put_back (take n xs) log)) (records-set es at e)
      ∙ ap Some (elim (cases_lt at n) [
        | inl l ↦
            ap (λ xs. put_back xs log) (take-set-lt n (records es) at e.item l)
            ∙ put_back_over (take n (records es)) log at e.item (sym (sound.kept at) ∙ has l)
        | inr past ↦ ap (λ xs. put_back xs log) (take-set-le n (records es) at e.item past)
      ])

  -- ---- the last records go

  -- a list that is marked has at most so many records
  abbrev pub HasMarkedWithin : ℕ → Option (List X) → Type 0
  HasMarkedWithin n marked = IfSome marked (λ list. length list ≤ n)

  pub mark_len_is : (es : List (Logged X)) (log : List (ℕ × X)) (marked : Option ℕ) → IsSound es log marked
      → IfSome (marked_in es log marked) (λ list. length list ≡ mark_len marked)
  mark_len_is es log None sound = tt
  mark_len_is es log (Some m) sound =
      let l : m ≤ length (records es) = rw length-map sound.within in
      length-put_back (take m (records es)) log ∙ length-take-le m (records es) l

  pub mark_len_fits : (es : List (Logged X)) (log : List (ℕ × X)) (marked : Option ℕ) (n : ℕ)
      → IsSound es log marked → HasMarkedWithin n (marked_in es log marked) → mark_len marked ≤ n
  mark_len_fits es log None n sound fits = omega arith
  mark_len_fits es log (Some m) n sound fits =
      let xs = take m (records es) in
      let l : m ≤ length (records es) = rw length-map sound.within in
      let same : length xs ≡ m = length-take-le m (records es) l in
      let h : length (put_back xs log) ≤ n = fits in
      omega (arith, same, h, length-put_back xs log)

  pub IsSound_cut : (es new : List (Logged X)) (log : List (ℕ × X)) (marked : Option ℕ) (n : ℕ)
      → IsSound es log marked → HasMarkedWithin n (marked_in es log marked) → new ≡ take n es → IsSound new log marked
  IsSound_cut es new log marked n sound fits eq =
      let m : mark_len marked ≤ n = mark_len_fits es log marked n sound fits in
      rw eq (record {
        within = omega (arith, sound.within, length-take n es);
        below = sound.below;
        once = sound.once;
        kept = is_kept-take es log (mark_len marked) n sound.below m sound.kept;
      })

  pub records_cut : (es new : List (Logged X)) (n : ℕ) → new ≡ take n es → records new ≡ take n (records es)
  records_cut es new n eq = ap records eq ∙ sym (take-map (λ (x : Logged X). x.item) n es)

  pub marked_cut : (es new : List (Logged X)) (log : List (ℕ × X)) (marked : Option ℕ) (n : ℕ)
      → IsSound es log marked → HasMarkedWithin n (marked_in es log marked) → new ≡ take n es
      → marked_in new log marked ≡ marked_in es log marked
  marked_cut es new log None n sound fits eq = refl
  marked_cut es new log (Some m) n sound fits eq =
      let l : m ≤ n = mark_len_fits es log (Some m) n sound fits in
      ap (λ xs. Some (put_back (take m xs) log)) (records_cut es new n eq)
      ∙ ap (λ xs. Some (put_back xs log)) (take-take m n (records es) l)

  -- ---- the mark itself

  pub marked_whole : (es : List (Logged X)) (log : List (ℕ × X)) (n : ℕ) → log ≡ [] → n ≡ length es
      → put_back (take n (records es)) log ≡ records es
  marked_whole es log n none is =
      let all : length (records es) ≤ n = omega (arith, is, length-map es (λ (x : Logged X). x.item)) in
      ap (put_back (take n (records es))) none ∙ take_all n (records es) all

  pub kept_cut : (es new : List (Logged X)) (log again : List (ℕ × X)) (marked : Option ℕ) (n : ℕ)
      → IsSound es log marked → marked ≡ Some n → new ≡ take n es → again ≡ log → IsKeptAsLogged new again
  kept_cut es new log again marked n sound is eq same place =
      let below = below_mark log marked (Some n) is sound.below in
      ap (λ xs. is_kept xs place) eq
      ∙ is_kept-take es log n n below (omega arith) sound.kept place
      ∙ ap (λ xs. is_logged xs place) (sym same)

  pub marked_back : (es new : List (Logged X)) (log again : List (ℕ × X)) (marked : Option ℕ) (n : ℕ) (after : List X)
      → marked ≡ Some n → new ≡ take n es → again ≡ log → after ≡ put_back (records new) again
      → marked_in es log marked ≡ Some after
  marked_back es new log again marked n after is eq same put =
      ap (marked_in es log) is
      ∙ ap (λ xs. Some (put_back xs log)) (sym (records_cut es new n eq))
      ∙ ap (λ xs. Some (put_back (records new) xs)) (sym same)
      ∙ ap Some (sym put)

  pub IsSound_unkept : (es new : List (Logged X)) (log : List (ℕ × X))
      → new ≡ map unkept es → log ≡ [] → IsSound new log None
  IsSound_unkept es new log eq none =
      rw (eq, none) (record {
        within = omega arith;
        below = λ k d l. absurd (omega arith);
        once = tt;
        kept = is_kept-unkept es;
      })
