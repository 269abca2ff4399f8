-- The numbers, and what each pass has seen, after a step of one seat.
use Rattle.std.proofs.Common.{◌≡◌, ◌≢◌, ℕ, zero, suc, ◌+◌, ◌^◌, ◌<◌, ◌≤◌, List, [], ◌∷◌, ◌++◌, set, sum_by, refl, ap, sym, ◌∙◌, subst, ⊎_elim, arith, add-one, append-nil}
use Rattle.std.proofs.lemmas.List.{map-append}
use Rattle.std.proofs.lemmas.List.Sums.{sum_by-cons, sum_by-append, sum_by_push, sum_by-le-sum_by}
use mathlib.Core.Logic.{dite}
use native.Mathlib.Decide.{dec_le}
use Rattle.atomic_table.proofs.Lists.{at_set, at_snoc, set_else}
use Rattle.nomos_floor.specs.OwnEntries.{mine, without_number, numbers_below}
use Rattle.nomos_floor.specs.FloorView.{tickets_of, IsLive, if_live, ended_view}
use Rattle.nomos_floor.specs.FloorSteps.{adding, split_off, newcomer, joined}
use Rattle.nomos_floor.specs.FloorInvariant.{Sits, Numbers, FitsHistory}
use Rattle.nomos_floor.specs.declared.view.PassView.{PassView}
use Rattle.nomos_floor.specs.declared.view.Stage.{Stage}
use Rattle.nomos_floor.specs.declared.view.Stage.TheVariants.{Idle, Waiting, Serving, Ended}
use Rattle.nomos_floor.proofs.HistoryLaws.{one_at, one_at_same, one_at_other, own_lists_push, mine_push_own, mine_push_other, prefix_push}
use Rattle.nomos_floor.proofs.SeatLists.{sum_set, part_of_sum, parts_of_sum, live_at, sum_by-live_numbers, sum_by-without_number, below_once, below_none}

pub live_weight : (stage : Stage) (x : ℕ) → IsLive stage → if_live stage x 0 ≡ x
live_weight Idle x live = refl
live_weight (Waiting t) x live = refl
live_weight (Serving t) x live = refl
live_weight Ended x live = absurd live

module _ {W E : Type 0} {log : List (ℕ × E)} {next : ℕ} {out gone : List ℕ} {views : List (PassView W E)} where
  -- how often a number stands among those of live passes, those out, and those of ended passes
  pub all_counted : Numbers log next out gone views → (weight : ℕ → ℕ)
      → (sum_by (live_at weight) views ≡ weight 0 + sum_by weight out)
      × (weight 0 + sum_by weight out + sum_by weight gone ≡ sum_by weight (numbers_below next))
  all_counted o weight =
      let live = o.live weight in let once = o.each_once weight in (
        omega (arith, live, sum_by-live_numbers weight views, sum_by-cons weight 0 out),
        omega (arith, once, sum_by-cons weight 0 (out ++ gone), sum_by-append weight out gone),
      )

  -- the number of a live pass is below the next one, and no ended pass has it
  pub live_number : Numbers log next out gone views → (id : ℕ) (v : PassView W E) → Sits views id v → IsLive v.stage
      → (v.number < next) × (sum_by (one_at v.number) gone ≡ 0)
  live_number o id v me live =
      let n : ℕ = v.number in
      let c = all_counted o (one_at n) in
      let here = part_of_sum (live_at (one_at n)) views id v me in
      let one = live_weight v.stage (one_at n n) live ∙ one_at_same n in
      dite (dec_le next n)
      (λ past. absurd (omega (arith, c.0, c.1, here, one, below_none n next past)))
      (λ no. let below : n < next = omega arith in (below, omega (arith, c.0, c.1, here, one, below_once n next below)))

  -- two live passes have different numbers
  pub live_apart : Numbers log next out gone views → (id j : ℕ) (v u : PassView W E) → Sits views id v → Sits views j u
      → IsLive v.stage → IsLive u.stage → j ≢ id → v.number ≢ u.number
  live_apart o id j v u me they live live' apart same =
      let n : ℕ = v.number in
      let c = all_counted o (one_at n) in
      let both = parts_of_sum (live_at (one_at n)) views id j v u apart me they in
      let one = live_weight v.stage (one_at n n) live ∙ one_at_same n in
      let other = live_weight u.stage (one_at n u.number) live' ∙ (ap (one_at n) (sym same) ∙ one_at_same n) in
      omega (arith, c.0, c.1, both, one, other, below_once n next (live_number o id v me live).0)

  -- a seat keeps its number and what it knows of the others
  pub keeps_numbers : Numbers log next out gone views → (id : ℕ) (v w : PassView W E) → Sits views id v → IsLive v.stage
      → IsLive w.stage
      → w.number ≡ v.number → w.next ≡ v.next → w.out ≡ v.out → w.ended ≡ v.ended
      → Numbers log next out gone (set views id w)
  keeps_numbers o id v w me live live' number next_same out_same ended_same = record {
    live = λ weight. omega (
      arith,
      o.live weight,
      sum_by-live_numbers weight views,
      sum_by-live_numbers weight (set views id w),
      sum_set (live_at weight) views id v w me,
      live_weight v.stage (weight v.number) live,
      live_weight w.stage (weight w.number) live',
      ap weight number,
    );
    each_once = o.each_once;
    few = o.few;
    opening = λ j u sits they first. ⊎_elim
        (λ (q : (j ≡ id) × (w ≡ u)). let k = o.opening id v me live
        (sym number ∙ (ap (λ (x : PassView W E). x.number) q.1 ∙ first)) in (
          ap (λ (x : PassView W E). x.next) (sym q.1) ∙ (next_same ∙ k.0),
          ap (λ (x : PassView W E). x.out) (sym q.1)
              ∙ (out_same ∙ k.1),
          ap (λ (x : PassView W E). x.ended) (sym q.1) ∙ (ended_same ∙ k.2),
        ))
        (λ (q : (j ≢ id) × Sits views j u). o.opening j u q.1 they first) (at_set views id j w u sits);
    unused = o.unused;
  }

  -- the history has an entry more, of a live pass
  pub grows_numbers : Numbers log next out gone views → (id : ℕ) (v : PassView W E) (e : E) → Sits views id v
      → IsLive v.stage → Numbers (log ++ (v.number, e) ∷ []) next out gone views
  grows_numbers o id v e me live =
      let mine_is = live_number o id v me live in record {
        live = o.live;
        each_once = o.each_once;
        few = o.few;
        opening =
            λ j u sits they first. let k =
            o.opening j u sits they first in (k.0, k.1, k.2 ∙ sym (own_lists_push v.number e log gone mine_is.1));
        unused = λ n past. mine_push_other n v.number log e (λ same. omega (arith, mine_is.0)) ∙ o.unused n past;
      }

  -- the opening pass splits a pass off
  pub splits_numbers : Numbers log next out gone views → (id : ℕ) (v : PassView W E) → Sits views id v → IsLive v.stage
      → v.number ≡ 0 → v.next + 1 < 2 ^ 32
      → Numbers log (next + 1) (out ++ next ∷ []) gone (set views id (split_off v) ++ newcomer v ∷ [])
  splits_numbers o id v me live first room =
      let w : PassView W E = split_off v in
      let fresh : PassView W E = newcomer v in
      let k = o.opening id v me live first in
      let above : 0 < next = omega (arith, (live_number o id v me live).0) in record {
        live = λ weight. omega (
          arith,
          o.live weight,
          sum_by-live_numbers weight views,
          sum_by-live_numbers weight (set views id w ++ fresh ∷ []),
          sum_by_push (live_at weight) (set views id w) fresh,
          sum_set (live_at weight) views id v w me,
          ap weight k.0,
          sum_by-cons weight 0 out,
          sum_by-cons weight 0 (out ++ next ∷ []),
          sum_by_push weight out next,
        );
        each_once = λ weight. omega (
          arith,
          o.each_once weight,
          sum_by-cons weight 0 (out ++ gone),
          sum_by-cons weight 0 (out ++ next ∷ [] ++ gone),
          sum_by-append weight out gone,
          sum_by-append weight (out ++ next ∷ []) gone,
          sum_by_push weight out next,
          ap (λ (n : ℕ). sum_by weight (numbers_below n)) (add-one next),
          sum_by-cons weight next (numbers_below next),
        );
        few = omega (arith, k.0);
        opening = λ j u sits they zero_number. ⊎_elim
            (λ (old : Sits (set views id w) j u). ⊎_elim
            (λ (q : (j ≡ id) × (w ≡ u)). (
              ap (λ (x : PassView W E). x.next) (sym q.1) ∙ ap (λ (n : ℕ). n + 1) k.0,
              ap (λ (x : PassView W E). x.out) (sym q.1)
                  ∙ (ap (λ (n : ℕ). v.out ++ n ∷ []) k.0 ∙ ap (λ (l : List ℕ). l ++ next ∷ []) k.1),
              ap (λ (x : PassView W E). x.ended) (sym q.1) ∙ k.2,
            ))
            (λ (q : (j ≢ id) × Sits views j u).
            absurd (live_apart o id j v u me q.1 live they q.0 (first ∙ sym zero_number)))
            (at_set views id j w u old))
            (λ (new : fresh ≡ u). absurd (omega (arith, ap (λ (x : PassView W E). x.number) new, k.0)))
            (at_snoc (set views id w) fresh u j sits);
        unused = λ n past. o.unused n (omega arith);
      }

  -- the opening pass takes in another
  pub joins_numbers : Numbers log next out gone views → (id other : ℕ) (v w : PassView W E) → Sits views id v
      → Sits views other w → other ≢ id → IsLive v.stage → IsLive w.stage → v.number ≡ 0 → w.own ≡ mine w.number log
      → Numbers log next (without_number w.number out) (gone ++ w.number ∷ [])
      (set (set views id (joined v w)) other ended_view)
  joins_numbers o id other v w me they apart live live' first own =
      let both : PassView W E = joined v w in
      let spent : PassView W E = ended_view in
      let n : ℕ = w.number in
      let k = o.opening id v me live first in
      let there : Sits (set views id both) other w = set_else views id other both apart ∙ they in
      let not_zero : 0 ≢ n = λ same. live_apart o id other v w me they live live' apart (first ∙ same) in
      let c = all_counted o (one_at n) in
      let one = live_weight w.stage (one_at n n) live' ∙ one_at_same n in
      let is_out : 0 < sum_by (one_at n) out = omega
      (arith, c.0, part_of_sum (live_at (one_at n)) views other w they, one, one_at_other n 0 not_zero) in record {
        live = λ weight. omega (
          arith,
          o.live weight,
          sum_by-live_numbers weight views,
          sum_by-live_numbers weight (set (set views id both) other spent),
          sum_set (live_at weight) views id v both me,
          sum_set (live_at weight) (set views id both) other w spent there,
          live_weight w.stage (weight n) live',
          sum_by-cons weight 0 out,
          sum_by-cons weight 0 (without_number n out),
          sum_by-without_number weight n out is_out,
        );
        each_once = λ weight. omega (
          arith,
          o.each_once weight,
          sum_by-cons weight 0 (out ++ gone),
          sum_by-cons weight 0 (without_number n out ++ (gone ++ n ∷ [])),
          sum_by-append weight out gone,
          sum_by-append weight (without_number n out) (gone ++ n ∷ []),
          sum_by_push weight gone n,
          sum_by-without_number weight n out is_out,
        );
        few = o.few;
        opening = λ j u sits alive zero_number. ⊎_elim
            (λ (q : (j ≡ other) × (spent ≡ u)). absurd (subst (λ (x : PassView W E). IsLive x.stage) (sym q.1) alive))
            (λ (q : (j ≢ other) × Sits (set views id both) j u). ⊎_elim
            (λ (p : (j ≡ id) × (both ≡ u)). (
              ap (λ (x : PassView W E). x.next) (sym p.1) ∙ k.0,
              ap (λ (x : PassView W E). x.out) (sym p.1) ∙ ap (without_number n) k.1,
              ap (λ (x : PassView W E). x.ended) (sym p.1)
                  ∙ (ap (λ (l : List E). v.ended ++ (n, l) ∷ []) own
                  ∙ (ap (λ (l : List (ℕ × List E)). l ++ (n, mine n log) ∷ []) k.2
                  ∙ sym (map-append (λ (m : ℕ). (m, mine m log)) gone (n ∷ [])))),
            )
            )
            (λ (p : (j ≢ id) × Sits views j u).
            absurd (live_apart o id j v u me p.1 live alive p.0 (first ∙ sym zero_number)))
            (at_set views id j both u q.1))
            (at_set (set views id both) other j spent u sits);
        unused = o.unused;
      }

  -- an entry more: of the pass that has its turn it is its own, and to the others it changes nothing
  pub grows_fits : Numbers log next out gone views → (opened : W) (id : ℕ) (v : PassView W E) (e : E) → Sits views id v
      → IsLive v.stage → v.seen ≡ log
      → ((j : ℕ) (u : PassView W E) → Sits views j u → IsLive u.stage → FitsHistory opened log u)
      → (j : ℕ) (u : PassView W E) → Sits (set views id (adding e v)) j u → IsLive u.stage
      → FitsHistory opened (log ++ (v.number, e) ∷ []) u
  grows_fits o opened id v e me live whole fit j u sits they =
      let w : PassView W E = adding e v in
      let more : List (ℕ × E) = log ++ (v.number, e) ∷ [] in
      let f = fit id v me live in ⊎_elim
      (λ (q : (j ≡ id) × (w ≡ u)). subst (FitsHistory opened more) q.1 (record {
        floor = f.floor;
        seen = ([], append-nil w.seen ∙ ap (λ (l : List (ℕ × E)). l ++ (v.number, e) ∷ []) whole);
        told = prefix_push v.told log ((v.number, e) ∷ []) f.told;
        own = ap (λ (l : List E). l ++ e ∷ []) f.own ∙ sym (mine_push_own v.number log e);
      }))
      (λ (q : (j ≢ id) × Sits views j u). let g = fit j u q.1 they in record {
        floor = g.floor;
        seen = prefix_push u.seen log ((v.number, e) ∷ []) g.seen;
        told = prefix_push u.told log ((v.number, e) ∷ []) g.told;
        own = g.own ∙ sym (mine_push_other u.number v.number log e (live_apart o id j v u me q.1 live they q.0));
      }) (at_set views id j w u sits)

-- the view of one seat changes, and fits
pub keeps_fits : {W E : Type 0} (opened : W) (log : List (ℕ × E)) (views : List (PassView W E)) (id : ℕ)
    (w : PassView W E)
    → FitsHistory opened log w
    → ((j : ℕ) (u : PassView W E) → Sits views j u → IsLive u.stage → FitsHistory opened log u)
    → (j : ℕ) (u : PassView W E) → Sits (set views id w) j u → IsLive u.stage → FitsHistory opened log u
keeps_fits {W} {E} opened log views id w fits fit j u sits they =
    ⊎_elim (λ (q : (j ≡ id) × (w ≡ u)). subst (FitsHistory opened log) q.1 fits)
    (λ (q : (j ≢ id) × Sits views j u). fit j u q.1 they) (at_set views id j w u sits)

ticket_is_live : (stage : Stage) → tickets_of stage ≤ if_live stage 1 0
ticket_is_live Idle = omega arith
ticket_is_live (Waiting t) = omega arith
ticket_is_live (Serving t) = omega arith
ticket_is_live Ended = omega arith

ones : (n : ℕ) → sum_by (λ _. 1) (numbers_below n) ≡ n
ones zero = refl
ones (suc n) = omega (arith, sum_by-cons (λ _. 1) n (numbers_below n), ones n)

-- fewer than 2 ^ 32 tickets are out, since there are no more passes
pub few_tickets : {W E : Type 0} {log : List (ℕ × E)} {next : ℕ} {out gone : List ℕ} {views : List (PassView W E)}
    → Numbers log next out gone views → sum_by (λ v. tickets_of v.stage) views < 2 ^ 32
few_tickets {W} {E} {log} {next} {out} {gone} {views} o =
    let c = all_counted o (λ _. 1) in
    omega (
      arith,
      c.0,
      c.1,
      o.few,
      ones next,
      sum_by-le-sum_by (λ (v : PassView W E). tickets_of v.stage) (live_at (λ _. 1)) views
          (λ v. ticket_is_live v.stage),
    )
