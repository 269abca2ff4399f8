-- The steps by which passes come and go keep the invariant: split, join and what the opening pass learns behind it.
use Rattle.std.proofs.Common.{◌≡◌, ◌≢◌, ℕ, ◌+◌, ◌^◌, ◌<◌, Option, Some, None, List, [], ◌∷◌, ◌++◌, get_or, set, slice_index, refl, ap, sym, ◌∙◌, subst, ⊎_elim, arith, length-set}
use Rattle.std.proofs.lemmas.List.{set-get_or}
use Rattle.std.proofs.lemmas.List.Sums.{sum_by_push}
use mathlib.Core.Option as home
use Rattle.atomic_table.specs.Table.{step, keeps, Allows, Splits, Joins}
use Rattle.atomic_table.proofs.Lists.{at_set, at_snoc, at_longer, set_else}
use Rattle.nomos_floor.specs.OwnEntries.{without_number}
use Rattle.nomos_floor.specs.FloorView.{ticket_of, tickets_of, IsLive, ended_view}
use Rattle.nomos_floor.specs.FloorInvariant.{Sits, Tickets, Slot, FitsHistory}
use Rattle.nomos_floor.specs.FloorSteps.{Holder, split_off, newcomer, joined, learned, learn}
use Rattle.nomos_floor.specs.declared.view.PassView.{PassView}
use Rattle.nomos_floor.specs.declared.view.Stage.TheVariants.{Idle, Serving}
use Rattle.nomos_floor.proofs.HistoryLaws.{longer_begins}
use Rattle.nomos_floor.proofs.TicketParts.{keeps_ticket, keeps_slot}
use Rattle.nomos_floor.proofs.NumberParts.{keeps_numbers, keeps_fits, splits_numbers, joins_numbers}
use Rattle.nomos_floor.proofs.TurnMoves.{Holds, live_idle}

module _ {W E : Type 0} where
  -- a seat is added, which has no ticket
  adds_seat : {served drawn : ℕ} {words : List ℕ} {views : List (PassView W E)} → Tickets served drawn words views
      → (u : PassView W E) → u.stage ≡ Idle → Tickets served drawn words (views ++ u ∷ [])
  adds_seat {served} {drawn} {words} {views} o u idle =
      let had : (j t : ℕ) (x : PassView W E) → Sits (views ++ u ∷ []) j x → ticket_of x.stage ≡ Some t
      → Sits views j x =
      λ j t x sits has. ⊎_elim (λ (old : Sits views j x). old)
      (λ (new : u ≡ x). let no : None ≡ Some t = sym (ap ticket_of idle)
      ∙ (ap (λ (y : PassView W E). ticket_of y.stage) new ∙ has) in cc (no)) (at_snoc views u x j sits) in
      record {
        ticket = o.ticket;
        serving = o.serving;
        between = λ j t x sits has. o.between j t x (had j t x sits has) has;
        distinct =
            λ j k t x y one other here there.
            o.distinct j k t x y (had j t x one here) (had k t y other there) here there;
        run = omega (arith, o.run, sum_by_push (λ (y : PassView W E). tickets_of y.stage) views u, ap tickets_of idle);
      }

  adds_slot : {served : ℕ} {log : List (ℕ × E)} {homes : List (home.Option (Option W))} {views : List (PassView W E)}
      → Slot served log homes views → (u : PassView W E) → u.stage ≡ Idle → Slot served log homes (views ++ u ∷ [])
  adds_slot {served} {log} {homes} {views} s u idle = record {
    turn = λ j t x sits serving. ⊎_elim (λ (old : Sits views j x). s.turn j t x old serving)
        (λ (new : u ≡ x). let no : Idle ≡ Serving t = sym idle
        ∙ (ap (λ (y : PassView W E). y.stage) new ∙ serving) in cc (no)) (at_snoc views u x j sits);
    empty = λ none. let e = s.empty none in (e.0, e.1, at_longer views (u ∷ []) e.0 e.1 e.2, e.3);
  }

module _ {W S E : Type 0} (start : W → S) (history : W → List (ℕ × E)) (opened : W) where
  pub splits : (id : ℕ) (v : PassView W E) → v.stage ≡ Idle → v.number ≡ 0 → v.next + 1 < 2 ^ 32
      → Splits (Holds start history opened) id v (split_off v) (newcomer v)
  splits id v idle first room s o me =
      let w : PassView W E = split_off v in
      let u : PassView W E = newcomer v in
      let live = live_idle v idle in
      let f = o.fits id v me live in
      let k = o.numbers.opening id v me live first in
      let changed : (j : ℕ) (x : PassView W E) → Sits (set s.views id w) j x → IsLive x.stage
      → FitsHistory opened o.log x =
      keeps_fits opened o.log s.views id w (record { floor = f.floor; seen = f.seen; told = f.told; own = f.own })
      o.fits in
      record {
        served = o.served;
        drawn = o.drawn;
        log = o.log;
        next = o.next + 1;
        out = o.out ++ o.next ∷ [];
        gone = o.gone;
        wide = o.wide;
        tickets = adds_seat (keeps_ticket o.tickets id v w s.words me refl refl refl) u refl;
        slot = adds_slot (keeps_slot o.slot id v w me (λ t e. cc (idle, e)) (λ t e. cc (idle, e))) u refl;
        one_history = o.one_history;
        fits = λ j x sits they. ⊎_elim (λ (old : Sits (set s.views id w) j x). changed j x old they)
            (λ (new : u ≡ x). subst (FitsHistory opened o.log) new
            (record {
              floor = f.floor;
              seen = f.seen;
              told = (o.log, refl);
              own = sym (o.numbers.unused v.next (omega (arith, k.0)));
            })) (at_snoc (set s.views id w) u x j sits);
        numbers = splits_numbers o.numbers id v me live first room;
      }

  pub joins : (id other : ℕ) (v w : PassView W E) → v.stage ≡ Idle → w.stage ≡ Idle → v.number ≡ 0
      → Joins (Holds start history opened) id v other w (joined v w) ended_view
  joins id other v w idle idle' first s o me apart there =
      let both : PassView W E = joined v w in
      let spent : PassView W E = ended_view in
      let views : List (PassView W E) = set s.views id both in
      let they : Sits s.views other w = sym (set_else s.views id other both apart) ∙ there in
      let live = live_idle v idle in
      let live' = live_idle w idle' in
      let f = o.fits id v me live in
      let g = o.fits other w they live' in
      let no_ticket : ticket_of spent.stage ≡ ticket_of w.stage = sym (ap ticket_of idle') in
      let changed : (j : ℕ) (x : PassView W E) → Sits views j x → IsLive x.stage → FitsHistory opened o.log x =
      keeps_fits opened o.log s.views id both (record { floor = f.floor; seen = f.seen; told = g.seen; own = f.own })
      o.fits in
      record {
        served = o.served;
        drawn = o.drawn;
        log = o.log;
        next = o.next;
        out = without_number w.number o.out;
        gone = o.gone ++ w.number ∷ [];
        wide = o.wide;
        tickets =
            keeps_ticket (keeps_ticket o.tickets id v both s.words me refl refl refl) other w spent s.words there
            no_ticket refl refl;
        slot =
            keeps_slot (keeps_slot o.slot id v both me (λ t e. cc (idle, e)) (λ t e. cc (idle, e))) other w spent there
            (λ t e. cc (idle', e)) (λ t e. cc (e));
        one_history = o.one_history;
        fits =
            λ j x sits alive. ⊎_elim (λ (q : (j ≡ other) × (spent ≡ x)).
            absurd (subst (λ (y : PassView W E). IsLive y.stage) (sym q.1) alive))
            (λ (q : (j ≢ other) × Sits views j x). changed j x q.1 alive) (at_set views other j spent x sits);
        numbers = joins_numbers o.numbers id other v w me they apart live live' first g.own;
      }

  pub learns : (slots id : ℕ) (m : Holder W E) → m.0.stage ≡ Idle
      → Allows (Holds start history opened) slots id m 0 (λ n. n) (learn (step slots 0 0 0 home.none) m)
  learns slots id m idle s o long me small =
      let v : PassView W E = m.0 in
      let w : PassView W E = learned v in
      let live = live_idle v idle in
      let f = o.fits id v me live in
      let b = longer_begins v.seen v.told o.log f.seen f.told in
      let x : ℕ = slice_index s.words 0 in
      let ws : List ℕ = set s.words 0 x in
      let same : (j : ℕ) → get_or ws j 0
      ≡ get_or s.words j 0 = λ j. ap (λ (l : List ℕ). get_or l j 0) (set-get_or s.words 0 0) in (
        w,
        keeps,
        tt,
        record {
          served = o.served;
          drawn = o.drawn;
          log = o.log;
          next = o.next;
          out = o.out;
          gone = o.gone;
          wide = length-set s.words 0 x ∙ o.wide;
          tickets = keeps_ticket o.tickets id v w ws me refl (same 0) (same 1);
          slot = keeps_slot o.slot id v w me (λ t e. cc (idle, e)) (λ t e. cc (idle, e));
          one_history = record { count = same 2 ∙ o.one_history.count; work = o.one_history.work };
          fits =
              keeps_fits opened o.log s.views id w
              (record { floor = f.floor; seen = b.2; told = (o.log, refl); own = f.own }) o.fits;
          numbers = keeps_numbers o.numbers id v w me live live refl refl refl refl;
        },
        (refl, b.0, b.1),
      )

  -- the same of a seat that is known by a view and what it holds
  pub learns_at : (slots id : ℕ) (m : Holder W E) (v : PassView W E) (held : List (ℕ × Option W)) → m ≡ (v, held)
      → v.stage ≡ Idle → Allows (Holds start history opened) slots id m 0 (λ n. n)
      (learn (step slots 0 0 0 home.none) m)
  learns_at slots id m v held is idle = learns slots id m (ap (λ (k : Holder W E). k.0.stage) is ∙ idle)
