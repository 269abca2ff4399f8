-- The invariant as a floor opens, and what it says as it closes.
use Rattle.std.proofs.Common.{◌≡◌, ◌≢◌, ℕ, zero, suc, ◌<◌, cond, eqb, Option, Some, None, List, [], ◌∷◌, length, refl, ap, sym, ◌∙◌, subst, ⊎_elim, arith}
use mathlib.Core.Option as home
use mathlib.Core.List.{IsPrefix}
use mathlib.Core.Logic.{dite}
use native.Mathlib.Decide.{dec_le, ℕ_discrete}
use lib.ListN.{get_elem?}
use Rattle.atomic_table.specs.Table.{State, opening, Final, Seen}
use Rattle.nomos_floor.specs.OwnEntries.{mine, kept_of}
use Rattle.nomos_floor.specs.FloorView.{IsLive, ticket_of, opening_view}
use Rattle.nomos_floor.specs.FloorInvariant.{Sits, Slot, FitsHistory, Numbers}
use Rattle.nomos_floor.specs.declared.view.PassView.{PassView}
use Rattle.nomos_floor.specs.declared.view.Stage.TheVariants.{Idle, Serving}
use Rattle.nomos_floor.proofs.HistoryLaws.{by_equal, one_at, one_at_same, one_at_other, own_lists, kept_of-own_lists, kept_of_none}
use Rattle.nomos_floor.proofs.SeatLists.{part_of_sum, live_at, below_once, below_none}
use Rattle.nomos_floor.proofs.NumberParts.{all_counted, live_apart, live_weight}
use Rattle.nomos_floor.proofs.TurnMoves.{Holds, home_cases, live_idle, live_serving}

only_seat : {A : Type 0} (v u : A) (j : ℕ) → get_elem? (v ∷ []) j ≡ home.some u → (j ≡ 0) × (v ≡ u)
only_seat v u zero sits = (refl, home.some-injective v u sits)
only_seat v u (suc j) sits = absurd (home.some-ne-none u (sym sits))

module _ {W S E : Type 0} (start : W → S) (history : W → List (ℕ × E)) where
  pub opens : (work : W) → history work ≡ []
      → Holds start history work (opening (0 ∷ 0 ∷ 0 ∷ []) (Some work ∷ []) (opening_view work))
  opens work empty =
      let v : PassView W E = opening_view work in
      let views : List (PassView W E) = v ∷ [] in
      record {
        served = 0;
        drawn = 0;
        log = [];
        next = 1;
        out = [];
        gone = [];
        wide = refl;
        tickets = record {
          ticket = refl;
          serving = refl;
          between =
              λ j t u sits has. let no : None ≡ Some t =
              ap (λ (x : PassView W E). ticket_of x.stage) (only_seat v u j sits).1 ∙ has in cc (no);
          distinct = λ j k t u x one other here there. (only_seat v u j one).0 ∙ sym (only_seat v x k other).0;
          run = refl;
        };
        slot = record {
          turn =
              λ j t u sits serving. let no : Idle ≡ Serving t =
              ap (λ (x : PassView W E). x.stage) (only_seat v u j sits).1 ∙ serving in cc (no);
          empty = λ none. absurd (home.some-ne-none (Some work) (cc (none)));
        };
        one_history = record {
          count = refl;
          work = λ slot filled. (work, (let same : slot ≡ Some work = cc (filled) in same), refl, empty);
        };
        fits =
            λ j u sits they. subst (FitsHistory work []) (only_seat v u j sits).1
            (record { floor = refl; seen = ([], refl); told = ([], refl); own = refl });
        numbers = record {
          live = λ weight. refl;
          each_once = λ weight. refl;
          few = omega arith;
          opening =
              λ j u sits they first. let e =
              (only_seat v u j sits).1 in (
                ap (λ (x : PassView W E). x.next) (sym e),
                ap (λ (x : PassView W E). x.out) (sym e),
                ap (λ (x : PassView W E). x.ended) (sym e),
              );
          unused = λ n past. refl;
        };
      }

  -- a live pass beside the opening one has a number that is out
  alone : {log : List (ℕ × E)} {next : ℕ} {gone : List ℕ} {views : List (PassView W E)} → Numbers log next [] gone views
      → (id j : ℕ) (v u : PassView W E) → Sits views id v → Sits views j u → IsLive v.stage → IsLive u.stage
      → v.number ≡ 0
      → j ≢ id → ⊥
  alone {log} {next} {gone} {views} o id j v u me they live alive first apart =
      let n : ℕ = u.number in
      let here = part_of_sum (live_at (one_at n)) views j u they in
      let one = live_weight u.stage (one_at n n) alive ∙ one_at_same n in
      let zero_is : 0 ≢ n → ⊥ = λ no. omega (arith, (all_counted o (one_at n)).0, here, one, one_at_other n 0 no) in
      zero_is (λ same. live_apart o id j v u me they live alive apart (first ∙ same))

  -- the history has of each number just the entries that the opening pass has for it
  whole : {log : List (ℕ × E)} {next : ℕ} {gone : List ℕ} {views : List (PassView W E)} → Numbers log next [] gone views
      → (v : PassView W E) → v.own ≡ mine 0 log → v.ended ≡ own_lists log gone → (n : ℕ)
      → mine n log ≡ cond (eqb n 0) v.own (kept_of n v.ended)
  whole {log} {next} {gone} o v own ended n = by_equal (λ l. mine n log ≡ l) n 0 v.own (kept_of n v.ended)
      (λ same. ap (λ (k : ℕ). mine k log) same ∙ sym own)
      (λ apart.
      let c = all_counted o (one_at n) in
      let zero_none = one_at_other n 0 (λ e. apart (sym e)) in
      dite (dec_le next n)
      (λ past. o.unused n past ∙ (sym (kept_of_none n log gone (omega (arith, c.1, below_none n next past)))
      ∙ ap (kept_of n) (sym ended)))
      (λ no. let below : n < next = omega arith in sym
      (kept_of-own_lists n log gone (omega (arith, c.1, zero_none, below_once n next below)))
      ∙ ap (kept_of n) (sym ended)))

  -- where no other pass is live, and the opening one has no turn, the slot is full
  at_home : {served next : ℕ} {log : List (ℕ × E)} {gone : List ℕ} {homes : List (home.Option (Option W))}
      {views : List (PassView W E)} → Numbers log next [] gone views → Slot served log homes views
      → (id : ℕ) (v : PassView W E) → Sits views id v → length homes ≡ 1 → v.stage ≡ Idle → v.number ≡ 0
      → (slot : Option W) × (homes ≡ home.some slot ∷ [])
  at_home {served} {next} {log} {gone} {homes} {views} numbers slots id v me one idle first = ⊎_elim
      (λ (none : homes ≡ home.none ∷ []). let e = slots.empty none in
      dite (ℕ_discrete e.0 id)
      (λ same. let both : e.1 ≡ v = home.some-injective e.1 v
      (sym e.2 ∙ (ap (λ (j : ℕ). get_elem? views j) same ∙ me)) in
      let no : Serving served ≡ Idle = sym e.3 ∙ (ap (λ (x : PassView W E). x.stage) both ∙ idle) in cc (no))
      (λ apart. absurd (alone numbers id e.0 v e.1 me e.2 (live_idle v idle) (live_serving e.1 served e.3) first
      apart)))
      (λ (some_slot : (slot : Option W) × (homes ≡ home.some slot ∷ [])). some_slot) (home_cases homes one)

  abbrev pub Closes : W → PassView W E → List (Option W) → Type 0
  Closes opened v slots =
      (work : W) × (get_elem? slots 0 ≡ home.some (Some work)) × (start work ≡ start opened)
      × IsPrefix v.seen (history work) × ((n : ℕ) → mine n (history work) ≡ cond (eqb n 0) v.own (kept_of n v.ended))

  pub closes : (opened : W) (id : ℕ) (v : PassView W E) (words : List ℕ) (slots : List (Option W))
      → Final (Seen (Holds start history opened) id v) words slots → length slots ≡ 1 → v.stage ≡ Idle → v.number ≡ 0
      → v.out ≡ [] → Closes opened v slots
  closes opened id v words slots last one idle first none_out =
      let s : State (Option W) (PassView W E) = last.0 in
      let o : Holds start history opened s = last.1.0 in
      let me : Sits s.views id v = last.1.1 in
      let live = live_idle v idle in
      let f = o.fits id v me live in
      let k = o.numbers.opening id v me live first in
      let numbers : Numbers o.log o.next [] o.gone s.views = subst (λ l. Numbers o.log o.next l o.gone s.views)
      (sym k.1 ∙ none_out) o.numbers in
      let filled = at_home numbers o.slot id v me (last.3 ∙ one) idle first in
      let held = o.one_history.work filled.0 filled.1 in
      let work : W = held.0 in
      let full : get_elem? s.homes 0 ≡ home.some (home.some (Some work)) = ap
      (λ (l : List (home.Option (Option W))). get_elem? l 0) filled.1
      ∙ ap (λ (y : Option W). home.some (home.some y)) held.1 in
      let own : v.own ≡ mine 0 o.log = f.own ∙ ap (λ (n : ℕ). mine n o.log) first in (
        work,
        last.4 0 (Some work) full,
        held.2,
        subst (λ l. IsPrefix v.seen l) (sym held.3) f.seen,
        λ n. ap (mine n) held.3 ∙ whole numbers v own k.2 n,
      )
