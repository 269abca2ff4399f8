-- Each move keeps the rule of a pool.
use Rattle.std.proofs.Common.{◌≡◌, ◌≢◌, ◌⊎◌, ℕ, zero, suc, ◌+◌, ◌≤◌, ◌<◌, Bool, true, false, true≢false, cond, eqb, Option, Some, None, List, [], ◌∷◌, ◌++◌, length, set, slice_index_or, sym, refl, ap, ◌∙◌, subst, inl, inr, ⊎_elim, arith, append_assoc, append-nil, eq-eqb, ne_eqb, length-append}
use Rattle.std.proofs.lemmas.Bool.{cases_lt}
use Rattle.std.proofs.lemmas.List.{get_or_past, get_or_append_left}
use Rattle.std.proofs.Math.Seq.{get_or-append_seam}
use mathlib.Core.Logic.{dite}
use mathlib.Core.Option.{some, some-ne-none}
use native.Mathlib.Decide.{ℕ_discrete}
use lib.ListN.{get_elem?}
use Rattle.crossbeam_queue.specs.Fifo.{Pushes, Pops, Forks, Merges, Learns}
use Rattle.crossbeam_queue.proofs.Lists.{at_set}
use Rattle.nomos_pool.specs.PoolRule.{Delivers, FitsSender, FitsTaker, sent_by, sender_view, spent_view, taker_view, none_left}
use Rattle.nomos_pool.specs.declared.pool.Submission.{Submission}
use Rattle.nomos_pool.specs.declared.pool_rule.PoolView.{PoolView}

-- ---- a function that is changed at one number

abbrev pub changed_at : {X : Type 0} → ℕ → X → (ℕ → X) → ℕ → X
changed_at k x f n = cond (eqb n k) x (f n)

pub changed_here : {X : Type 0} (k : ℕ) (x : X) (f : ℕ → X) → changed_at k x f k ≡ x
changed_here k x f = ap (λ b. cond b x (f k)) (eq-eqb k k refl)

pub changed_else : {X : Type 0} (k n : ℕ) (x : X) (f : ℕ → X) → n ≢ k → changed_at k x f n ≡ f n
changed_else k n x f ne = ap (λ b. cond b x (f n)) (ne_eqb n k ne)

some-not_none : {X : Type 0} (x : Option X) (y : X) → x ≡ Some y → x ≡ None → ⊥
some-not_none x y is none = cc (is, none)

module _ {T : Type 0} where
  -- ---- the items of one sender

  cond_append : (b : Bool) (x : T) (xs ys zs : List T) → xs ≡ ys ++ zs → cond b (x ∷ xs) xs ≡ cond b (x ∷ ys) ys ++ zs
  cond_append true x xs ys zs e = ap (λ l. x ∷ l) e
  cond_append false x xs ys zs e = e

  pub sent-append : (n : ℕ) (xs ys : List (Submission T)) → sent_by n (xs ++ ys) ≡ sent_by n xs ++ sent_by n ys
  sent-append n [] ys = refl
  sent-append n (x ∷ xs) ys =
      cond_append (eqb x.sender n) x.item (sent_by n (xs ++ ys)) (sent_by n xs) (sent_by n ys) (sent-append n xs ys)

  sent-push : (n : ℕ) (xs : List (Submission T)) (x : Submission T) (sent : ℕ → List T) → sent_by n xs ≡ sent n
      → sent_by n (xs ++ x ∷ []) ≡ changed_at x.sender (sent x.sender ++ x.item ∷ []) sent n
  sent-push n xs x sent is = dite (ℕ_discrete n x.sender)
      (λ (e : n ≡ x.sender).
      sent-append n xs (x ∷ [])
      ∙ (ap (λ b. sent_by n xs ++ cond b (x.item ∷ []) []) (eq-eqb x.sender n (sym e))
      ∙ (ap (λ l. l ++ x.item ∷ []) (is ∙ ap sent e)
      ∙ (sym (changed_here x.sender (sent x.sender ++ x.item ∷ []) sent)
      ∙ ap (changed_at x.sender (sent x.sender ++ x.item ∷ []) sent) (sym e)))))
      (λ (ne : n ≢ x.sender).
      sent-append n xs (x ∷ [])
      ∙ (ap (λ b. sent_by n xs ++ cond b (x.item ∷ []) []) (ne_eqb x.sender n (λ e. ne (sym e)))
      ∙ (append-nil (sent_by n xs)
      ∙ (is ∙ sym (changed_else x.sender n (sent x.sender ++ x.item ∷ []) sent ne)))))

  -- ---- views at their ports

  abbrev All : (ℕ → PoolView T → Type 0) → List (PoolView T) → Type 0
  All F views = (port : ℕ) (v : PoolView T) → get_elem? views port ≡ some v → F port v

  all_set : (F : ℕ → PoolView T → Type 0) (views : List (PoolView T)) (port : ℕ) (w : PoolView T) → F port w
      → ((j : ℕ) (u : PoolView T) → j ≢ port → get_elem? views j ≡ some u → F j u) → All F (set views port w)
  all_set F views port w mine others j u e = ⊎_elim
      (λ (x : (j ≡ port) × (w ≡ u)). subst (λ (y : ℕ × PoolView T). F y.0 y.1) (λ i. (sym x.0 i, x.1 i)) mine)
      (λ (x : (j ≢ port) × (get_elem? views j ≡ some u)). others j u x.0 x.1) (at_set views port j w u e)

  at_end : (l : List (PoolView T)) (a b : PoolView T) (j : ℕ) → get_elem? l j ≢ some b
      → get_elem? (l ++ a ∷ []) j ≡ some b
      → j ≡ length l
  at_end [] a b zero n e = refl
  at_end [] a b (suc j) n e = absurd (some-ne-none b (sym e))
  at_end (x ∷ xs) a b zero n e = absurd (n e)
  at_end (x ∷ xs) a b (suc j) n e = ap suc (at_end xs a b j n e)

  -- a view of a list with one more is one of the list, or it is the last
  at_more : (l : List (PoolView T)) (a b : PoolView T) (j : ℕ) → get_elem? (l ++ a ∷ []) j ≡ some b
      → (get_elem? l j ≡ some b) ⊎ ((j ≡ length l) × (a ≡ b))
  at_more [] a b zero e = inr (refl, (let f = e in cc f))
  at_more [] a b (suc j) e = absurd (some-ne-none b (sym e))
  at_more (x ∷ xs) a b zero e = inl e
  at_more (x ∷ xs) a b (suc j) e =
      ⊎_elim (λ at. inl at) (λ last. inr (ap suc last.0, last.1)) (at_more xs a b j e)

  -- ---- the moves

  pub opens : Delivers {T = T} [] (taker_view 0 [] [] ∷ [])
  opens = record {
    taker = 0;
    made = 0;
    seat = λ n. None;
    sent = λ n. [];
    taken = [];
    each = λ n. refl;
    none = λ n le. (refl, refl);
    fits = λ port v at. ⊎_elim (λ no. absurd (some-ne-none v (sym no)))
        (λ (last : (port ≡ 0) × (taker_view 0 [] [] ≡ v)). subst
        (λ (u : PoolView T).
        FitsSender (λ n. None) (λ n. []) port u × FitsTaker 0 0 (λ n. None) (λ n. []) [] port u) last.1 (
          (λ sends. absurd (true≢false (sym sends))),
          (λ takes. (last.0, refl, refl, omega arith, λ k low. absurd (omega arith))),
        ))
        (at_more [] (taker_view 0 [] []) v port at);
  }

  pub submits : (n port : ℕ) (v : PoolView T) (x : Submission T) → v.sends ≡ true → x.sender ≡ v.number
      → Pushes Delivers n port v x (λ w. w ≡ record v { submitted = v.submitted ++ x.item ∷ [] })
  submits n port v x may own items views short d at =
      let w : PoolView T = record v { submitted = v.submitted ++ x.item ∷ [] } in
      let mine = (d.fits port v at).0 may in
      let seat_x : d.seat x.sender ≡ Some port = ap d.seat own ∙ mine.0 in
      let apart : (k : ℕ) → d.seat k ≡ None → k ≢ x.sender =
      λ k none same. some-not_none (d.seat k) port (ap d.seat same ∙ seat_x) none in
      let s : List T = d.sent x.sender ++ x.item ∷ [] in
      let sent : ℕ → List T = changed_at x.sender s d.sent in
      let here : v.submitted ++ x.item ∷ [] ≡ sent v.number =
      ap (λ l. l ++ x.item ∷ []) (mine.1 ∙ ap d.sent (sym own))
      ∙ (sym (changed_here x.sender s d.sent) ∙ ap sent own) in
      let known : (taken : ℕ) (u : PoolView T) → FitsTaker d.taker d.made d.seat d.sent d.taken taken u
      → FitsTaker d.taker d.made d.seat sent d.taken taken u =
      λ taken u fits takes.
      let f = fits takes in (
        f.0,
        f.1,
        f.2,
        f.3,
        λ k low. let g = f.4 k low in (
          g.0,
          g.1 ∙ sym (changed_else x.sender k s d.sent (apart k g.0)),
        ),
      ) in (
        w,
        record {
          taker = d.taker;
          made = d.made;
          seat = d.seat;
          sent = sent;
          taken = d.taken;
          each = λ k.
              ap (sent_by k) (sym (append_assoc d.taken items (x ∷ [])))
              ∙ sent-push k (d.taken ++ items) x d.sent (d.each k);
          none = λ k le. let z = d.none k le in (
            z.0,
            changed_else x.sender k s d.sent (apart k z.0) ∙ z.1,
          );
          fits = all_set
              (λ j u. FitsSender d.seat sent j u × FitsTaker d.taker d.made d.seat sent d.taken j u) views port w
              ((λ sends. (mine.0, here)), known port w (d.fits port v at).1)
              (λ j u other e.
              let f = d.fits j u e in (
                (λ sends. let g = f.0 sends in (
                  g.0,
                  g.1 ∙ sym (changed_else x.sender u.number s d.sent
                      (λ same. other (let a = ap d.seat same ∙ seat_x in let b = g.0 in cc (a, b)))),
                )),
                known j u f.1,
              ));
        },
        refl,
      )

  pub takes : (port : ℕ) (v : PoolView T) → v.takes ≡ true
      → Pops Delivers port v (λ x w. w ≡ record v { taken = v.taken ++ x ∷ [] })
  takes port v may x items views d at =
      let w : PoolView T = record v { taken = v.taken ++ x ∷ [] } in
      let mine = (d.fits port v at).1 may in
      let taken : List (Submission T) = d.taken ++ x ∷ [] in (
        w,
        record {
          taker = d.taker;
          made = d.made;
          seat = d.seat;
          sent = d.sent;
          taken = taken;
          each = λ k. ap (sent_by k) (append_assoc d.taken (x ∷ []) items) ∙ d.each k;
          none = d.none;
          fits = all_set
              (λ j u. FitsSender d.seat d.sent j u × FitsTaker d.taker d.made d.seat d.sent taken j u) views port w
              ((d.fits port v at).0, λ t. (mine.0, ap (λ l. l ++ x ∷ []) mine.1, mine.2, mine.3, mine.4))
              (λ j u other e.
              let f = d.fits j u e in
              (f.0, λ t. absurd (other ((f.1 t).0 ∙ sym mine.0))));
        },
        refl,
      )

  pub enrols : (port : ℕ) (v : PoolView T) → v.takes ≡ true → v.sends ≡ false
      → Forks Delivers port v (record v { made = v.made + 1 }) (sender_view v.made)
  enrols port v may quiet items views d at =
      let l : PoolView T = record v { made = v.made + 1 } in
      let r : PoolView T = sender_view v.made in
      let mine = (d.fits port v at).1 may in
      let vs : List (PoolView T) = set views port l in
      let seat : ℕ → Option ℕ = changed_at d.made (Some (length vs)) d.seat in
      let free = d.none d.made (omega arith) in
      let apart : (n j : ℕ) → d.seat n ≡ Some j → n ≢ d.made =
      λ n j is same. some-not_none (d.seat d.made) j (ap d.seat (sym same) ∙ is) free.0 in
      let Old : ℕ → PoolView T → Type 0 =
      λ j u. FitsSender seat d.sent j u × FitsTaker d.taker (d.made + 1) seat d.sent d.taken j u in
      let old : All Old vs = all_set Old views port l (
        (λ sends. absurd (true≢false (sym sends ∙ quiet))),
        λ t. (
          mine.0,
          mine.1,
          ap (λ k. k + 1) mine.2,
          (let a = mine.3 in omega arith),
          λ k low.
              let g = mine.4 k low in
              (changed_else d.made k (Some (length vs)) d.seat (λ same. let a = mine.3 in omega arith) ∙ g.0, g.1),
        ),
      )
      (λ j u other e.
      let f = d.fits j u e in (
        (λ sends. let g = f.0 sends in
            (changed_else d.made u.number (Some (length vs)) d.seat (apart u.number j g.0) ∙ g.0, g.1)),
        λ t. absurd (other ((f.1 t).0 ∙ sym mine.0)),
      )) in
      record {
        taker = d.taker;
        made = d.made + 1;
        seat = seat;
        sent = d.sent;
        taken = d.taken;
        each = d.each;
        none = λ n le. let z = d.none n (omega arith) in
            (changed_else d.made n (Some (length vs)) d.seat (λ same. omega arith) ∙ z.0, z.1);
        fits = λ j u e. ⊎_elim (λ there. old j u there)
            (λ (last : (j ≡ length vs) × (r ≡ u)). subst
            (λ (y : PoolView T).
            FitsSender seat d.sent j y × FitsTaker d.taker (d.made + 1) seat d.sent d.taken j y) last.1 (
              (λ sends. (
                ap seat mine.2 ∙ (changed_here d.made (Some (length vs)) d.seat ∙ ap Some (sym last.0)),
                sym (ap d.sent mine.2 ∙ free.1),
              )),
              λ t. absurd (true≢false (sym t)),
            ))
            (at_more vs r u j e);
      }

  pub learns : (port : ℕ) (v : PoolView T) → v.takes ≡ true → length v.known ≡ v.made
      → Learns Delivers port v (none_left v)
  learns port v may all items views d at n =
      let mine = (d.fits port v at).1 may in
      ap (λ l. sent_by n (l ++ items)) mine.1
      ∙ (d.each n
      ∙ ⊎_elim (λ (low : n < length v.known). sym (mine.4 n low).1)
      (λ (high : length v.known ≤ n).
      (d.none n (omega (arith, all, mine.2, high))).1 ∙ sym (get_or_past v.known n [] high))
      (cases_lt n (length v.known)))

  pub takes_in : (port : ℕ) (v : PoolView T) (other : ℕ) (u : PoolView T) → v.takes ≡ true → v.sends ≡ false
      → u.sends ≡ true
      → u.number ≡ length v.known
      → Merges Delivers port v other u (record v { known = v.known ++ u.submitted ∷ [] }) spent_view
  takes_in port v other u may quiet sends next items views d at two at' =
      let both : PoolView T = record v { known = v.known ++ u.submitted ∷ [] } in
      let mine = (d.fits port v at).1 may in
      let vs : List (PoolView T) = set views port both in
      let was : get_elem? views other ≡ some u =
      ⊎_elim (λ x. absurd (two x.0)) (λ x. x.1) (at_set views port other both u at') in
      let theirs = (d.fits other u was).0 sends in
      let seat : ℕ → Option ℕ = changed_at u.number None d.seat in
      let low : u.number < d.made =
      ⊎_elim (λ (l : u.number < d.made). l)
      (λ (high : d.made ≤ u.number). absurd (some-not_none (d.seat u.number) other theirs.0 (d.none u.number high).0))
      (cases_lt u.number d.made) in
      let freed : (n : ℕ) → d.seat n ≡ None → seat n ≡ None =
      λ n is. dite (ℕ_discrete n u.number) (λ e. ap seat e ∙ changed_here u.number None d.seat)
      (λ ne. changed_else u.number n None d.seat ne ∙ is) in
      let told : (k : ℕ) → k < length both.known
      → (seat k ≡ None) × (slice_index_or both.known k [] ≡ d.sent k) =
      λ k less. dite (ℕ_discrete k (length v.known))
      (λ e. (
        ap seat (e ∙ sym next) ∙ changed_here u.number None d.seat,
        ap (λ i. slice_index_or both.known i []) e
            ∙ (get_or-append_seam v.known u.submitted [] []
            ∙ (theirs.1 ∙ ap d.sent (next ∙ sym e))),
      ))
      (λ ne.
      let below : k < length v.known = omega (arith, ne, less, length-append v.known (u.submitted ∷ [])) in
      let g = mine.4 k below in
      (freed k g.0, get_or_append_left v.known (u.submitted ∷ []) [] k below ∙ g.1)) in
      let Now : ℕ → PoolView T → Type 0 =
      λ j y. j ≢ other → FitsSender seat d.sent j y × FitsTaker d.taker d.made seat d.sent d.taken j y in
      let now : All Now vs = all_set Now views port both
      (λ apart. (
        (λ s. absurd (true≢false (sym s ∙ quiet))),
        λ t. (
          mine.0,
          mine.1,
          mine.2,
          omega (arith, low, next, length-append v.known (u.submitted ∷ [])),
          told,
        ),
      ))
      (λ j y apart e not_other.
      let f = d.fits j y e in (
        (λ s. let g = f.0 s in (
          changed_else u.number y.number None d.seat
              (λ same. not_other (let a = ap d.seat same ∙ theirs.0 in let b = g.0 in cc (a, b))) ∙ g.0,
          g.1,
        )),
        λ t. absurd (apart ((f.1 t).0 ∙ sym mine.0)),
      )) in
      record {
        taker = d.taker;
        made = d.made;
        seat = seat;
        sent = d.sent;
        taken = d.taken;
        each = d.each;
        none = λ n le. let z = d.none n le in (freed n z.0, z.1);
        fits = all_set
            (λ j y. FitsSender seat d.sent j y × FitsTaker d.taker d.made seat d.sent d.taken j y) vs other spent_view
            ((λ s. absurd (true≢false (sym s))), λ t. absurd (true≢false (sym t)))
            (λ j y apart e. now j y e apart);
      }
