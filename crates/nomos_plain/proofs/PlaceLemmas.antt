-- Objects at the place of the first one of a number.
use Rattle.std.proofs.Common.{◌≡◌, ◌∙◌, ◌<◌, ◌==◌, ℕ, suc, Bool, true, false, not, cond, List, [], ◌∷◌, ◌++◌, map, length, Option, Some, None, slice_set, slice_index_or, refl, sym, ap, subst, arith, option_and_then, nat_lt, eqb-true, ◌+◌, ◌≤◌}
use Rattle.std.proofs.lemmas.Bool.{ltb-true, ltb-false}
use Rattle.std.specs.Option.{option_to_list}
use Rattle.std.specs.List.{position, position_or_len, remove}
use Rattle.nomos_machine.proofs.PreservationLaws.{process-found}
use Rattle.nomos_machine.specs.Change.{put_at}
use Rattle.nomos_machine.specs.Objects.{object_number, object_at, process_of}
use Rattle.nomos_machine.specs.Optional.{◌>>=◌}
use Rattle.nomos_machine.specs.declared.object.Message.{Message}
use Rattle.nomos_machine.specs.declared.object.Object.{Object}
use Rattle.nomos_machine.specs.declared.object.Object.TheVariants as object
use Rattle.nomos_machine.specs.declared.object.Process.{Process}
use Rattle.nomos_changes.proofs.BecomesLemmas.{put-same, put-put}
use Rattle.nomos_plain.specs.Parts.{has_number, hole, object_in, process_in}
use Rattle.nomos_plain.specs.declared.plain_object.PlainObject.{PlainObject}
use Rattle.nomos_plain.specs.declared.plain_object.PlainObject.TheVariants as plain
use Rattle.nomos_plain.specs.declared.plain_object.PlainProcess.{PlainProcess}

abbrev place : ℕ → List PlainObject → ℕ
place n objects = position_or_len (has_number n) objects

one-more : (n : ℕ) → suc n ≡ 1 + n
one-more n = omega arith

set-first : (n : ℕ) (new : PlainObject) (objects : List PlainObject) → place n objects < length objects
    → map object_in (slice_set objects (place n objects) new) ≡ put_at n (Some (object_in new)) (map object_in objects)
set-first n new [] within = absurd (omega (arith, within))
set-first n new (o ∷ objects) within = at (object_number (object_in o) == n) within (set-first n new objects)
  where
    at : (b : Bool) → cond (not b) (1 + place n objects) 0 < suc (length objects)
        → (place n objects < length objects
        → map object_in (slice_set objects (place n objects) new) ≡ put_at n (Some (object_in new))
        (map object_in objects))
        → map object_in (slice_set (o ∷ objects) (cond (not b) (1 + place n objects) 0) new)
        ≡ cond b (object_in new ∷ map object_in objects)
        (object_in o ∷ put_at n (Some (object_in new)) (map object_in objects))
    at true w rest = refl
    at false w rest =
        subst (λ i. map object_in (slice_set (o ∷ objects) i new)
        ≡ object_in o ∷ put_at n (Some (object_in new)) (map object_in objects)) (one-more (place n objects))
        (ap (λ os. object_in o ∷ os) (rest (omega (arith, w))))

removed-first : (n : ℕ) (objects : List PlainObject) → place n objects < length objects
    → map object_in (remove objects (place n objects)) ≡ put_at n None (map object_in objects)
removed-first n [] within = absurd (omega (arith, within))
removed-first n (o ∷ objects) within = at (object_number (object_in o) == n) within (removed-first n objects)
  where
    at : (b : Bool) → cond (not b) (1 + place n objects) 0 < suc (length objects)
        → (place n objects < length objects
        → map object_in (remove objects (place n objects)) ≡ put_at n None (map object_in objects))
        → map object_in (remove (o ∷ objects) (cond (not b) (1 + place n objects) 0))
        ≡ cond b (map object_in objects) (object_in o ∷ put_at n None (map object_in objects))
    at true w rest = refl
    at false w rest =
        subst (λ i. map object_in (remove (o ∷ objects) i) ≡ object_in o ∷ put_at n None (map object_in objects))
        (one-more (place n objects)) (ap (λ os. object_in o ∷ os) (rest (omega (arith, w))))

found-first : (n : ℕ) (d : PlainObject) (objects : List PlainObject) → place n objects < length objects
    → object_at (map object_in objects) n ≡ Some (object_in (slice_index_or objects (place n objects) d))
found-first n d [] within = absurd (omega (arith, within))
found-first n d (o ∷ objects) within = at (object_number (object_in o) == n) within (found-first n d objects)
  where
    at : (b : Bool) → cond (not b) (1 + place n objects) 0 < suc (length objects)
        → (place n objects < length objects
        → object_at (map object_in objects) n ≡ Some (object_in (slice_index_or objects (place n objects) d)))
        → cond b (Some (object_in o)) (object_at (map object_in objects) n)
        ≡ Some (object_in (slice_index_or (o ∷ objects) (cond (not b) (1 + place n objects) 0) d))
    at true w rest = refl
    at false w rest =
        subst (λ i. object_at (map object_in objects) n ≡ Some (object_in (slice_index_or (o ∷ objects) i d)))
        (one-more (place n objects)) (rest (omega (arith, w)))

number-first : (n : ℕ) (d : PlainObject) (objects : List PlainObject) → place n objects < length objects
    → object_number (object_in (slice_index_or objects (place n objects) d)) ≡ n
number-first n d [] within = absurd (omega (arith, within))
number-first n d (o ∷ objects) within = at (object_number (object_in o) == n) refl within (number-first n d objects)
  where
    at : (b : Bool) → (object_number (object_in o) == n) ≡ b
        → cond (not b) (1 + place n objects) 0 < suc (length objects)
        → (place n objects < length objects
        → object_number (object_in (slice_index_or objects (place n objects) d)) ≡ n)
        → object_number (object_in (slice_index_or (o ∷ objects) (cond (not b) (1 + place n objects) 0) d)) ≡ n
    at true is w rest = eqb-true (object_number (object_in o)) n is
    at false is w rest =
        subst (λ i. object_number (object_in (slice_index_or (o ∷ objects) i d)) ≡ n)
        (one-more (place n objects)) (rest (omega (arith, w)))

none-first : (n : ℕ) (objects : List PlainObject) → length objects ≤ place n objects
    → object_at (map object_in objects) n ≡ None
none-first n [] over = refl
none-first n (o ∷ objects) over = at (object_number (object_in o) == n) over (none-first n objects)
  where
    at : (b : Bool) → suc (length objects) ≤ cond (not b) (1 + place n objects) 0
        → (length objects ≤ place n objects → object_at (map object_in objects) n ≡ None)
        → cond b (Some (object_in o)) (object_at (map object_in objects) n) ≡ None
    at true o rest = absurd (omega (arith, o))
    at false o rest = rest (omega (arith, o))

-- ---- of a place that was found

module _ (n at : ℕ) (objects : List PlainObject) (found : position (has_number n) objects ≡ Some at) where
  told : (place n objects < length objects) × (place n objects ≡ at)
  told = from (nat_lt (place n objects) (length objects)) refl found
    where
      one : Some (place n objects) ≡ Some at → place n objects ≡ at
      one e = cc

      from : (b : Bool) → nat_lt (place n objects) (length objects) ≡ b → cond b (Some (place n objects)) None ≡ Some at
          → (place n objects < length objects) × (place n objects ≡ at)
      from true less is = (ltb-true (place n objects) (length objects) less, one is)
      from false less is = absurd cc

  pub place_within : at < length objects
  place_within = omega (arith, told.0, told.1)

  pub place_set : (new : PlainObject)
      → map object_in (slice_set objects at new) ≡ put_at n (Some (object_in new)) (map object_in objects)
  place_set new =
      subst (λ i. map object_in (slice_set objects i new) ≡ put_at n (Some (object_in new)) (map object_in objects))
      told.1 (set-first n new objects told.0)

  pub place_removed : map object_in (remove objects at) ≡ put_at n None (map object_in objects)
  place_removed =
      subst (λ i. map object_in (remove objects i) ≡ put_at n None (map object_in objects)) told.1
      (removed-first n objects told.0)

  pub place_found : (d : PlainObject) → object_at (map object_in objects) n ≡ Some
      (object_in (slice_index_or objects at d))
  place_found d =
      subst (λ i. object_at (map object_in objects) n ≡ Some (object_in (slice_index_or objects i d))) told.1
      (found-first n d objects told.0)

  pub place_number : (d : PlainObject) → object_number (object_in (slice_index_or objects at d)) ≡ n
  place_number d =
      subst (λ i. object_number (object_in (slice_index_or objects i d)) ≡ n) told.1 (number-first n d objects told.0)

-- where none was found
pub place_none : (n : ℕ) (objects : List PlainObject) → position (has_number n) objects ≡ None
    → object_at (map object_in objects) n ≡ None
place_none n objects found = from (nat_lt (place n objects) (length objects)) refl found
  where
    from : (b : Bool) → nat_lt (place n objects) (length objects) ≡ b → cond b (Some (place n objects)) None ≡ None
        → object_at (map object_in objects) n ≡ None
    from true less is = absurd cc
    from false less is = none-first n objects (omega (arith, ltb-false (place n objects) (length objects) less))

put-absent : (n : ℕ) (new : Option Object) (objects : List Object) → object_at objects n ≡ None
    → put_at n new objects ≡ objects
put-absent n new [] none = refl
put-absent n new (o ∷ objects) none = at (object_number o == n) none (put-absent n new objects)
  where
    at : (b : Bool) → cond b (Some o) (object_at objects n) ≡ None
        → (object_at objects n ≡ None → put_at n new objects ≡ objects)
        → cond b (option_to_list new ++ objects) (o ∷ put_at n new objects) ≡ o ∷ objects
    at true is rest = absurd cc
    at false is rest = ap (λ os. o ∷ os) (rest is)

-- where there is no object of the number, nothing is put anywhere
pub put_nowhere : (n : ℕ) (new : Option Object) (objects : List PlainObject) → position (has_number n) objects ≡ None
    → map object_in objects ≡ put_at n new (map object_in objects)
put_nowhere n new objects none = sym (put-absent n new (map object_in objects) (place_none n objects none))

-- ---- one change at a number after another

-- what stands where a hole is does so as if there were none
pub put_in_hole : (n : ℕ) (o : Object) (objects : List Object)
    → put_at n (Some o) (put_at n (Some (object.Message (hole n))) objects) ≡ put_at n (Some o) objects
put_in_hole n o objects = put-put n (object.Message (hole n)) o objects refl

-- and what was taken out is put back
pub put_back : (n : ℕ) (p : Process) (objects : List Object) → (object_at objects n >>= process_of) ≡ Some p
    → put_at n (Some (object.Process p)) (put_at n (Some (object.Message (hole n))) objects) ≡ objects
put_back n p objects there =
    put_in_hole n (object.Process p) objects
    ∙ put-same n (object.Process p) objects (process-found (object_at objects n) p there)

-- ---- what is there when it is taken out

pub process-none : (n : ℕ) (objects : List PlainObject) (p : Process) → position (has_number n) objects ≡ None
    → (object_at (map object_in objects) n >>= process_of) ≡ Some p → ⊥
process-none n objects p found there = never (sym there ∙ ap (option_and_then process_of) (place_none n objects found))
  where
    never : Some p ≡ None → ⊥
    never e = cc

pub process-there : (n at : ℕ) (objects : List PlainObject) (p : Process) → position (has_number n) objects ≡ Some at
    → (d : PlainObject) (k : PlainProcess) → slice_index_or objects at d ≡ plain.Process k
    → (object_at (map object_in objects) n >>= process_of) ≡ Some p → process_in k ≡ p
process-there n at objects p found d k is there =
    one (ap (λ o. process_of (object_in o)) (sym is)
    ∙ sym (ap (option_and_then process_of) (place_found n at objects found d)) ∙ there)
  where
    one : Some (process_in k) ≡ Some p → process_in k ≡ p
    one e = cc

pub message-there : (n at : ℕ) (objects : List PlainObject) (p : Process) → position (has_number n) objects ≡ Some at
    → (d : PlainObject) (m : Message) → slice_index_or objects at d ≡ plain.Message m
    → (object_at (map object_in objects) n >>= process_of) ≡ Some p → ⊥
message-there n at objects p found d m is there =
    never (ap (λ o. process_of (object_in o)) (sym is)
    ∙ sym (ap (option_and_then process_of) (place_found n at objects found d)) ∙ there)
  where
    never : None ≡ Some p → ⊥
    never e = cc

pub process-stands : (n at : ℕ) (objects : List PlainObject) → position (has_number n) objects ≡ Some at
    → (d : PlainObject) (k : PlainProcess) → slice_index_or objects at d ≡ plain.Process k
    → (object_at (map object_in objects) n >>= process_of) ≡ Some (process_in k)
process-stands n at objects found d k is =
    ap (option_and_then process_of) (place_found n at objects found d) ∙ ap (λ o. process_of (object_in o)) is
