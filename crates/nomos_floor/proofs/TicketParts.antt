-- The tickets and the slot after a step of one seat.
use Rattle.std.proofs.Common.{◌≡◌, ◌≢◌, ◌⊎◌, ℕ, ◌+◌, ◌%◌, ◌^◌, ◌<◌, Option, Some, None, List, [], ◌∷◌, ◌++◌, get_or, set, refl, ap, sym, ◌∙◌, subst, inl, inr, ⊎_elim, is_some, if◌then◌else◌, arith}
use mathlib.Core.Option as home
use lib.ListN.{get_elem?}
use Rattle.atomic_table.proofs.Lists.{at_set, set_else}
use Rattle.nomos_floor.specs.FloorView.{ticket_of, tickets_of}
use Rattle.nomos_floor.specs.FloorSteps.{at_stage, at_turn, adding}
use Rattle.nomos_floor.specs.FloorInvariant.{Sits, Tickets, Slot}
use Rattle.nomos_floor.specs.declared.view.PassView.{PassView}
use Rattle.nomos_floor.specs.declared.view.Stage.TheVariants.{Idle, Waiting, Serving}
use Rattle.nomos_floor.proofs.SeatLists.{sum_set, set_at_seat}

module _ {W E : Type 0} {served drawn : ℕ} {words : List ℕ} {views : List (PassView W E)} where
  -- the ticket of the seat stays
  pub keeps_ticket : Tickets served drawn words views → (id : ℕ) (v w : PassView W E) (ws : List ℕ) → Sits views id v
      → ticket_of w.stage ≡ ticket_of v.stage
      → get_or ws 0 0 ≡ get_or words 0 0 → get_or ws 1 0 ≡ get_or words 1 0 → Tickets served drawn ws (set views id w)
  keeps_ticket o id v w ws me same zeroth first =
      let had : (j t : ℕ) (u : PassView W E) → Sits (set views id w) j u → ticket_of u.stage ≡ Some t
      → (b : PassView W E) × Sits views j b × (ticket_of b.stage ≡ Some t) =
      λ j t u sits has. ⊎_elim
      (λ (q : (j ≡ id) × (w ≡ u)). (
        v,
        subst (λ k. Sits views k v) (sym q.0) me,
        sym same
            ∙ (ap (λ (x : PassView W E). ticket_of x.stage) q.1 ∙ has),
      ))
      (λ (q : (j ≢ id) × Sits views j u). (u, q.1, has)) (at_set views id j w u sits) in
      record {
        ticket = zeroth ∙ o.ticket;
        serving = first ∙ o.serving;
        between = λ j t u sits has. let b = had j t u sits has in o.between j t b.0 b.1 b.2;
        distinct =
            λ j k t u x one other here there. let a =
            had j t u one here in let b = had k t x other there in o.distinct j k t a.0 b.0 a.1 b.1 a.2 b.2;
        run =
            omega (
              arith,
              o.run,
              sum_set (λ (x : PassView W E). tickets_of x.stage) views id v w me,
              ap {B = ℕ} (λ (x : Option ℕ). if is_some x then 1 else 0) same,
            );
      }

  -- the seat draws the next ticket
  pub draws_ticket : Tickets served drawn words views → (id : ℕ) (v : PassView W E) (ws : List ℕ) → Sits views id v
      → v.stage ≡ Idle
      → get_or ws 0 0 ≡ (drawn + 1) % 2 ^ 64 → get_or ws 1 0 ≡ get_or words 1 0
      → Tickets served (drawn + 1) ws (set views id (at_stage (Waiting drawn) v))
  draws_ticket o id v ws me idle zeroth first =
      let w : PassView W E = at_stage (Waiting drawn) v in
      let none : tickets_of v.stage ≡ 0 = ap tickets_of idle in
      let had : (j t : ℕ) (u : PassView W E) → Sits (set views id w) j u → ticket_of u.stage ≡ Some t
      → ((j ≡ id) × (t ≡ drawn)) ⊎ (Sits views j u × (t < drawn)) =
      λ j t u sits has. ⊎_elim
      (λ (q : (j ≡ id) × (w ≡ u)). let e : Some drawn
      ≡ Some t = ap (λ (x : PassView W E). ticket_of x.stage) q.1 ∙ has in inl (q.0, cc (e)))
      (λ (q : (j ≢ id) × Sits views j u). inr (q.1, (o.between j t u q.1 has).1)) (at_set views id j w u sits) in
      record {
        ticket = zeroth;
        serving = first ∙ o.serving;
        between =
            λ j t u sits has. ⊎_elim (λ (q : (j ≡ id) × (t ≡ drawn)). (omega (arith, o.run), omega arith))
            (λ (q : Sits views j u × (t < drawn)). ((o.between j t u q.0 has).0, omega arith)) (had j t u sits has);
        distinct = λ j k t u x one other here there. ⊎_elim
            (λ (q : (j ≡ id) × (t ≡ drawn)). ⊎_elim (λ (p : (k ≡ id) × (t ≡ drawn)). q.0 ∙ sym p.0)
            (λ (p : Sits views k x × (t < drawn)). absurd (omega arith)) (had k t x other there))
            (λ (q : Sits views j u × (t < drawn)).
            ⊎_elim (λ (p : (k ≡ id) × (t ≡ drawn)). absurd (omega arith))
            (λ (p : Sits views k x × (t < drawn)). o.distinct j k t u x q.0 p.0 here there) (had k t x other there))
            (had j t u one here);
        run = omega (arith, o.run, sum_set (λ (x : PassView W E). tickets_of x.stage) views id v w me);
      }

  -- the ticket of the seat has been served
  pub serves_ticket : Tickets served drawn words views → (id : ℕ) (v : PassView W E) (ws : List ℕ) → Sits views id v
      → v.stage ≡ Serving served
      → get_or ws 0 0 ≡ get_or words 0 0 → get_or ws 1 0 ≡ (served + 1) % 2 ^ 64
      → Tickets (served + 1) drawn ws (set views id (at_stage Idle v))
  serves_ticket o id v ws me serving zeroth first =
      let w : PassView W E = at_stage Idle v in
      let some_ticket : ticket_of v.stage ≡ Some served = ap ticket_of serving in
      let one : tickets_of v.stage ≡ 1 = ap tickets_of serving in
      let had : (j t : ℕ) (u : PassView W E) → Sits (set views id w) j u → ticket_of u.stage ≡ Some t
      → Sits views j u × (served < t) =
      λ j t u sits has. ⊎_elim
      (λ (q : (j ≡ id) × (w ≡ u)). let e : None ≡ Some t = ap (λ (x : PassView W E). ticket_of x.stage) q.1 ∙ has in
      cc (e))
      (λ (q : (j ≢ id) × Sits views j u). (
        q.1,
        (let b = o.between j t u q.1 has in
            let apart : served ≢ t = λ e. q.0
            (o.distinct j id t u v q.1 me has (some_ticket ∙ ap (λ (n : ℕ). Some n) e)) in omega arith),
      )) (at_set views id j w u sits) in
      record {
        ticket = zeroth ∙ o.ticket;
        serving = first;
        between = λ j t u sits has. let b = had j t u sits has in (omega (arith, b.1), (o.between j t u b.0 has).1);
        distinct =
            λ j k t u x one other here there. let a =
            had j t u one here in let b = had k t x other there in o.distinct j k t u x a.0 b.0 here there;
        run = omega (arith, o.run, sum_set (λ (x : PassView W E). tickets_of x.stage) views id v w me);
      }

  module _ {log : List (ℕ × E)} {homes : List (home.Option (Option W))} where
    -- one pass has its turn
    pub only_turn : Tickets served drawn words views → Slot served log homes views → (id j t : ℕ) (v u : PassView W E)
        → Sits views id v → Sits views j u → v.stage ≡ Serving served → u.stage ≡ Serving t → j ≡ id
    only_turn o s id j t v u me they mine theirs =
        let k = s.turn j t u they theirs in
        o.distinct j id served u v they me (ap ticket_of theirs ∙ ap (λ (n : ℕ). Some n) k.1) (ap ticket_of mine)

module _ {W E : Type 0} {served : ℕ} {views : List (PassView W E)} {log : List (ℕ × E)}
    {homes : List (home.Option (Option W))} where
  -- a seat without a turn changes, and has none then
  pub keeps_slot : Slot served log homes views → (id : ℕ) (v w : PassView W E) → Sits views id v
      → ((t : ℕ) → v.stage ≢ Serving t) → ((t : ℕ) → w.stage ≢ Serving t) → Slot served log homes (set views id w)
  keeps_slot s id v w me before after = record {
    turn = λ j t u sits serving. ⊎_elim
        (λ (q : (j ≡ id) × (w ≡ u)). absurd (after t (ap (λ (x : PassView W E). x.stage) q.1 ∙ serving)))
        (λ (q : (j ≢ id) × Sits views j u). s.turn j t u q.1 serving) (at_set views id j w u sits);
    empty = λ none. let e = s.empty none in
        let apart : e.0 ≢ id = λ same. let both : v
        ≡ e.1 = home.some-injective v e.1 (sym me ∙ (ap (λ (k : ℕ). get_elem? views k) (sym same) ∙ e.2)) in before
        served (ap (λ (x : PassView W E). x.stage) both ∙ e.3) in
        (e.0, e.1, set_else views id e.0 w apart ∙ e.2, e.3);
  }

  -- the slot empties as the seat gets its turn
  pub takes_slot : Slot served log homes views → (id : ℕ) (v : PassView W E) (slot : Option W)
      → homes ≡ home.some slot ∷ []
      → Sits views id v → Slot served log (home.none ∷ []) (set views id (at_turn served log v))
  takes_slot s id v slot full me =
      let w : PassView W E = at_turn served log v in
      let there : Sits (set views id w) id w = set_at_seat views id v w me in record {
        turn = λ j t u sits serving. ⊎_elim
            (λ (q : (j ≡ id) × (w ≡ u)). let e : Serving served
            ≡ Serving t = ap (λ (x : PassView W E). x.stage) q.1
            ∙ serving in (refl, cc (e), ap (λ (x : PassView W E). x.seen) (sym q.1)))
            (λ (q : (j ≢ id) × Sits views j u).
            let k = s.turn j t u q.1 serving in
            absurd (home.some-ne-none slot (cc (full, k.0)))) (at_set views id j w u sits);
        empty = λ _. (id, w, there, refl);
      }

module _ {W E : Type 0} {served drawn : ℕ} {words : List ℕ} {views : List (PassView W E)} {log : List (ℕ × E)}
    {homes : List (home.Option (Option W))} where
  -- the pass that has its turn sees one entry more, which the history has too
  pub counts_slot : Tickets served drawn words views → Slot served log homes views → (id : ℕ) (v : PassView W E) (e : E)
      → Sits views id v → v.stage ≡ Serving served
      → Slot served (log ++ (v.number, e) ∷ []) homes (set views id (adding e v))
  counts_slot o s id v e me serving =
      let w : PassView W E = adding e v in
      let mine = s.turn id served v me serving in record {
        turn = λ j t u sits theirs. ⊎_elim
            (λ (q : (j ≡ id) × (w ≡ u)). let same : Serving served
            ≡ Serving t = sym serving ∙ (ap (λ (x : PassView W E). x.stage) q.1 ∙ theirs) in (
              mine.0,
              cc (same),
              ap (λ (x : PassView W E). x.seen) (sym q.1)
                  ∙ ap (λ (l : List (ℕ × E)). l ++ (v.number, e) ∷ []) mine.2,
            ))
            (λ (q : (j ≢ id) × Sits views j u). absurd (q.0 (only_turn o s id j t v u me q.1 serving theirs)))
            (at_set views id j w u sits);
        empty = λ _. (id, w, set_at_seat views id v w me, serving);
      }

  -- the work goes home
  pub serves_slot : Tickets served drawn words views → Slot served log homes views
      → (id : ℕ) (v : PassView W E) (slot : Option W) → Sits views id v → v.stage ≡ Serving served
      → Slot (served + 1) log (home.some slot ∷ []) (set views id (at_stage Idle v))
  serves_slot o s id v slot me serving =
      let w : PassView W E = at_stage Idle v in record {
        turn = λ j t u sits theirs. ⊎_elim
            (λ (q : (j ≡ id) × (w ≡ u)). let e : Idle
            ≡ Serving t = ap (λ (x : PassView W E). x.stage) q.1 ∙ theirs in cc (e))
            (λ (q : (j ≢ id) × Sits views j u). absurd (q.0 (only_turn o s id j t v u me q.1 serving theirs)))
            (at_set views id j w u sits);
        empty = λ none. absurd (home.some-ne-none slot (cc (none)));
      }
