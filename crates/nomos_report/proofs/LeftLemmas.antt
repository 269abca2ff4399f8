-- The lines of what is left, as objects are found in order of number.
use Rattle.std.proofs.Common.{◌≡◌, ◌∙◌, ◌<◌, ℕ, List, [], ◌++◌, Contains, Option, Some, None, IsSome, refl, sym, ap, subst, arith, codes, decimal}
use Rattle.std.proofs.lemmas.List.Elements.{All-contains}
use Rattle.std.specs.List.{flat_map}
use Rattle.nomos_ir.specs.declared.mode.Mode.{Mode}
use Rattle.nomos_ir.specs.declared.mode.Mode.TheVariants as mode
use Rattle.nomos_types.specs.Acceptance.{Acceptance}
use Rattle.nomos_machine.specs.Objects.{object_at, object_number, process_of}
use Rattle.nomos_machine.specs.Optional.{◌>>=◌}
use Rattle.nomos_machine.specs.State.{State}
use Rattle.nomos_machine.specs.TypedState.{Numbered}
use Rattle.nomos_machine.specs.declared.object.Object.{Object}
use Rattle.nomos_machine.specs.declared.object.Object.TheVariants as object
use Rattle.nomos_machine.specs.declared.object.Process.{Process}
use Rattle.nomos_machine.proofs.PutLaws.{object_at-found, object_at-own}
use Rattle.nomos_deeds.specs.Lowest.{LowestOver, NoneOver}
use Rattle.nomos_deeds.specs.Readers.{IsTransaction, IsWaiting, acquires, keeper, waits}
use Rattle.nomos_report.specs.ReportLines.{line}
use Rattle.nomos_report.specs.Reported.{left_line, left_lines, waits_line, waits_lines}
use Rattle.nomos_report.specs.mirror.NamedLines.{waiting_line}
use Rattle.nomos_report.specs.mirror.Walked.{walked}
use Rattle.nomos_report.proofs.WalkLemmas.{walked-all, walked-next, walked-none, walked-silent}

-- ---- objects of which something holds, where the others have no lines

module _ {s : State} (numbered : Numbered s) where
  -- nothing is printed up to 0
  pub objects-first : (lines : Object → List ℕ) → walked object_number lines 0 s.objects ≡ []
  objects-first lines =
      walked-none object_number lines 0 s.objects
      (λ o there. All-contains (λ (e : Object). 0 < object_number e) s.objects o numbered.over there)

  module _ (P : ℕ → Type 0) (lines : Object → List ℕ)
      (silent : (o : Object) → Contains s.objects o → ¬ P (object_number o) → lines o ≡ []) where
    -- from one number to the next the lines of its object come
    pub objects-next : (n m : ℕ) (o : Object) → object_at s.objects m ≡ Some o → LowestOver P n m
        → walked object_number lines m s.objects ≡ walked object_number lines n s.objects ++ lines o
    objects-next n m o found next =
        let (number, there) = object_at-found m o s.objects found in
        walked-next object_number lines n m s.objects o numbered.ascending there number next.over
        (λ e among more less. silent e among (next.lowest (object_number e) more less))

    -- where there is no further one, all is printed
    pub objects-last : (n : ℕ) → NoneOver P n → walked object_number lines n s.objects ≡ flat_map lines s.objects
    objects-last n none =
        walked-all object_number lines n s.objects (λ e among more. silent e among (none (object_number e) more))

-- ---- transactions

module _ {s : State} (numbered : Numbered s) where
  pub left-silent : (o : Object) → Contains s.objects o → ¬ (IsTransaction s.objects (object_number o))
      → left_lines o ≡ []
  left-silent (object.Message m) there other = refl
  left-silent (object.Process p) there other = at p.mode refl
    where
      at : (m : Mode) → p.mode ≡ m → left_line m p.pid ≡ []
      at mode.T is =
          absurd
          (other
          (record {
            process = p;
            there = object_at-own (object.Process p) s.objects numbered.ascending there;
            at_t = is;
          }))
      at mode.R is = refl
      at mode.S is = refl
      at mode.L is = refl

  -- nothing is printed up to a number that each transaction is over
  pub left-before : (n : ℕ) → ((pid : ℕ) → IsTransaction s.objects pid → n < pid)
      → walked object_number left_lines n s.objects ≡ []
  left-before n over =
      walked-silent object_number left_lines n s.objects
      (λ o there below. left-silent o there (λ is. let more = over (object_number o) is in omega arith))

  -- the line of a transaction
  pub left-told : (m : ℕ) (is : IsTransaction s.objects m)
      → left_lines (object.Process is.process) ≡ line (codes "left " ++ decimal m)
  left-told m is =
      let (number, there) = object_at-found m (object.Process is.process) s.objects is.there in
      ap (λ (w : Mode). left_line w is.process.pid) is.at_t
      ∙ ap (λ (n : ℕ). line (codes "left " ++ decimal n)) number

-- ---- processes that wait

module _ (a : Acceptance) {s : State} (numbered : Numbered s) where
  waits-own : (p : Process) → Contains s.objects (object.Process p) → waits a s.objects p.pid ≡ acquires a p
  waits-own p there =
      ap (λ (o : Option Object). o >>= process_of >>= acquires a)
      (object_at-own (object.Process p) s.objects numbered.ascending there)

  pub waits-silent : (o : Object) → Contains s.objects o → ¬ (IsWaiting a s.objects (object_number o))
      → waits_lines a s.objects o ≡ []
  waits-silent (object.Message m) there other = refl
  waits-silent (object.Process p) there other = at (acquires a p) refl
    where
      at : (shared : Option ℕ) → acquires a p ≡ shared → waits_line p.pid shared (shared >>= keeper s.objects) ≡ []
      at (Some name) is = absurd (other (subst IsSome (sym (waits-own p there ∙ is)) refl))
      at None is = refl

  -- a process that waits, with its line
  pub record Waiting (m : ℕ) : Type 0 where
    pub process : Process
    pub there : object_at s.objects m ≡ Some (object.Process process)
    pub told : waits_lines a s.objects (object.Process process)
        ≡ waiting_line a s.objects m

  pub waits-told : (m : ℕ) → IsWaiting a s.objects m → Waiting m
  waits-told m is = at (object_at s.objects m) refl is
    where
      at : (o : Option Object) → object_at s.objects m ≡ o → IsSome (o >>= process_of >>= acquires a) → Waiting m
      at (Some (object.Process p)) found is =
          let (number, there) = object_at-found m (object.Process p) s.objects found in
          let own : acquires a p ≡ waits a s.objects m =
          sym (waits-own p there) ∙ ap (waits a s.objects) number
          in
          record {
            process = p;
            there = found;
            told = λ i. waits_line (number i) (own i) (own i >>= keeper s.objects);
          }
      at (Some (object.Message e)) found is = absurd cc
      at None found is = absurd cc

-- a number of an object is below the next one
pub object-below : {s : State} → Numbered s → (m : ℕ) (o : Object) → object_at s.objects m ≡ Some o
    → m < s.next_object
object-below {s} numbered m o found =
    let (number, there) = object_at-found m o s.objects found in
    subst (λ (n : ℕ). n < s.next_object) number
    (All-contains (λ (e : Object). object_number e < s.next_object) s.objects o numbered.below there)
