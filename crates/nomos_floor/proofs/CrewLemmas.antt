-- What the opening pass knows after one pass more was split off or taken in, and the numbers at one station more.
use Rattle.std.proofs.Common.{◌≡◌, ℕ, zero, suc, ◌+◌, cond, Option, Some, None, List, [], ◌∷◌, ◌++◌, map, refl, ap, sym, ◌∙◌, arith, add-one, append_assoc, eq-eqb}
use Rattle.std.proofs.lemmas.List.{map-append}
use Rattle.std.proofs.lemmas.List.Elements.{All-head, All-tail, All-append, All-weaker, filter_map-append}
use Rattle.std.proofs.lemmas.List.Sums.{fold-append}
use Rattle.std.specs.Prelude.{All, option_to_list}
use Rattle.std.specs.List.{cons_option}
use Rattle.std.specs.List.{range_with_len}
use mathlib.Core.List.{IsPrefix}
use Rattle.nomos_floor.specs.OwnEntries.{longer, without_number}
use Rattle.nomos_floor.specs.FloorPass.{pass_number, seen_by, own_of, next_of, out_of, ended_of}
use Rattle.nomos_floor.specs.FloorCrew.{without_numbers, longest, HasSplitOff, HasTakenIn, passes_at, numbers_at}
use Rattle.nomos_floor.specs.declared.floor.Pass.{Pass}
use Rattle.nomos_floor.specs.declared.crew.Station.{Station}
use Rattle.nomos_floor.proofs.HistoryLaws.{prefix_trans}

-- the first number of a list, taken out
without_number-first : (n : ℕ) (numbers : List ℕ) → without_number n (n ∷ numbers) ≡ numbers
without_number-first n numbers = ap (λ b. cond b numbers (n ∷ without_number n numbers)) (eq-eqb n n refl)

-- all numbers of a list, taken out in turn
pub without_numbers-all : (numbers : List ℕ) → without_numbers numbers numbers ≡ []
without_numbers-all [] = refl
without_numbers-all (n ∷ numbers) =
    ap (without_numbers numbers) (without_number-first n numbers) ∙ without_numbers-all numbers

range_push : (a n : ℕ) → range_with_len a n ++ (a + n) ∷ [] ≡ range_with_len a (suc n)
range_push a zero = ap (λ (k : ℕ). k ∷ []) (omega arith)
range_push a (suc n) =
    ap (λ (l : List ℕ). a ∷ l) (ap (λ (k : ℕ). range_with_len (a + 1) n ++ k ∷ []) (omega arith) ∙ range_push (a + 1) n)

-- one number more at the end of a range
pub range_with_len-push : (a n k : ℕ) → k ≡ a + n → range_with_len a n ++ k ∷ [] ≡ range_with_len a (n + 1)
range_with_len-push a n k is =
    ap (λ (m : ℕ). range_with_len a n ++ m ∷ []) is ∙ (range_push a n ∙ ap (range_with_len a) (sym (add-one n)))

cons_none : {X : Type 0} (there : Option X) → cons_option there [] ≡ option_to_list there
cons_none None = refl
cons_none (Some x) = refl

module _ {W S E : Type 0} where
  pub split_one_more : (count : ℕ) (first before after : Pass W S E) → HasSplitOff count first before
      → (pass_number after ≡ pass_number before) × (seen_by after ≡ seen_by before) × (own_of after ≡ own_of before)
      → next_of after ≡ next_of before + 1 → out_of after ≡ out_of before ++ next_of before ∷ []
      → ended_of after ≡ ended_of before → HasSplitOff (count + 1) first after
  split_one_more count first before after so_far kept next out ended = record {
    number = kept.0 ∙ so_far.number;
    seen = kept.1 ∙ so_far.seen;
    own = kept.2 ∙ so_far.own;
    next = omega (arith, next, so_far.next);
    out =
        out ∙ (ap (λ (l : List ℕ). l ++ next_of before ∷ []) so_far.out
        ∙ (append_assoc (out_of first) (range_with_len (next_of first) count) (next_of before ∷ [])
        ∙ ap (λ (l : List ℕ). out_of first ++ l)
        (range_with_len-push (next_of first) count (next_of before) so_far.next)));
    ended = ended ∙ so_far.ended;
  }

  pub took_more : (passes more : List (Pass W S E)) (first before after : Pass W S E) → HasTakenIn passes first before
      → HasTakenIn more before after → HasTakenIn (passes ++ more) first after
  took_more passes more first before after so_far then =
      let entries : Pass W S E → ℕ × List E = λ pass. (pass_number pass, own_of pass) in
      record {
        number = then.number ∙ so_far.number;
        own = then.own ∙ so_far.own;
        next = then.next ∙ so_far.next;
        seen =
            then.seen ∙ (ap (λ (l : List (ℕ × E)). longest l more) so_far.seen
            ∙ sym (fold-append (λ (l : List (ℕ × E)) (pass : Pass W S E). longer l (seen_by pass)) (seen_by first)
            passes more));
        begins = prefix_trans (seen_by first) (seen_by before) (seen_by after) so_far.begins then.begins;
        begins_each =
            All-append (λ pass. IsPrefix (seen_by pass) (seen_by after)) passes more
            (All-weaker (λ pass. IsPrefix (seen_by pass) (seen_by before))
            (λ pass. IsPrefix (seen_by pass) (seen_by after))
            (λ pass began. prefix_trans (seen_by pass) (seen_by before) (seen_by after) began then.begins) passes
            so_far.begins_each) then.begins_each;
        out =
            then.out ∙ (ap (without_numbers (map pass_number more)) so_far.out
            ∙ sym (ap (λ (l : List ℕ). without_numbers l (out_of first)) (map-append pass_number passes more)
            ∙ fold-append (λ (l : List ℕ) (n : ℕ). without_number n l) (out_of first) (map pass_number passes)
            (map pass_number more)));
        ended =
            then.ended ∙ (ap (λ (l : List (ℕ × List E)). l ++ map entries more) so_far.ended
            ∙ (append_assoc (ended_of first) (map entries passes) (map entries more)
            ∙ ap (λ (l : List (ℕ × List E)). ended_of first ++ l) (sym (map-append entries passes more))));
      }

  module _ {A : Type 0} (stations : List (Station W A S E)) (station : Station W A S E) where
    -- one station more, and what pass is there
    pub passes_at-push : passes_at (stations ++ station ∷ []) ≡ passes_at stations ++ option_to_list station.pass
    passes_at-push =
        filter_map-append (λ (s : Station W A S E). s.pass) stations (station ∷ [])
        ∙ ap (λ (l : List (Pass W S E)). passes_at stations ++ l) (cons_none station.pass)

    pub numbers_at-push : (pass : Pass W S E) → station.pass ≡ Some pass
        → numbers_at (stations ++ station ∷ []) ≡ numbers_at stations ++ pass_number pass ∷ []
    numbers_at-push pass is =
        ap (map pass_number) passes_at-push
        ∙ (map-append pass_number (passes_at stations) (option_to_list station.pass)
        ∙ ap (λ (o : Option (Pass W S E)). numbers_at stations ++ map pass_number (option_to_list o)) is)

-- what holds of each element holds of the one behind these
pub next_of_all : {X : Type 0} (P : X → Type 0) (before after : List X) (x : X) → All P (before ++ x ∷ after) → P x
next_of_all P [] after x all = All-head P x after all
next_of_all P (y ∷ before) after x all = next_of_all P before after x (All-tail P y (before ++ x ∷ after) all)
