-- Seeking among those that may be ready.
use Rattle.std.proofs.Common.{◌≡◌, ◌≢◌, ◌∙◌, ◌≤◌, ◌<◌, ◌-◌, ◌⊎◌, inl, inr, ℕ, false, Option, Some, None, IfSome, IsTrue, MatchOption, sym, subst, ap, arith, ⊎_elim}
use Rattle.std.proofs.lemmas.Bool.{cases_eq, cases_lt}
use Rattle.std.specs.BTreeSet.{BTreeSet, contains}
use Rattle.std.specs.Ordering.{nat_cmp}
use Rattle.nomos_types.specs.Acceptance.{Acceptance, IsAccepted}
use Rattle.nomos_machine.specs.Run.{IsNextReady, IsQuiet, NoneReady}
use Rattle.nomos_machine.specs.State.{State}
use Rattle.nomos_machine.specs.Step.{IsReady}
use Rattle.nomos_machine.specs.TypedState.{IsTyped}
use Rattle.nomos_deeds.specs.Lowest.{LowestOver, NoneOver}
use Rattle.nomos_deeds.specs.Readers.{waits}
use Rattle.nomos_ready.specs.Covering.{by_both, Covers, HasProxy, IsFollowed, IsNoted, MayBeReady}
use Rattle.nomos_ready.specs.declared.awake.Awake.{Awake}
use Rattle.nomos_ready.specs.mirror.Seeking.{IsSought, IsToldReady}
use Rattle.nomos_ready.proofs.CoverLaws.{all-ready, ready-over, waiter-over}

-- no process that is told and is over the one number and up to the other is ready
abbrev pub NoneUpTo : Acceptance → State → Awake → ℕ → ℕ → Type 0
NoneUpTo a s w after from = (q : ℕ) → after < q → q ≤ from → ¬ (IsToldReady a s w q)

module _ {a : Acceptance} (accepted : IsAccepted a) {s : State} (typed : IsTyped a s) where
  -- ---- one that is asleep

  -- one in whose place another is told is no other than a name for which both wait
  proxy-ready : (w : Awake) → Covers a s w → (q name : ℕ) → IsReady a s q → (has : HasProxy w name q)
      → IsReady a s has.proxy
  proxy-ready w covers q name ready has =
      all-ready accepted typed q has.proxy name ready (covers.noted q name has.noted)
      (covers.noted has.proxy name has.noted_too)

  module _ (v w : Awake) (pid : ℕ) (name : Option ℕ) (covers : Covers a s v) (asleep : ¬ (IsReady a s pid))
      (its : name ≡ waits a s.objects pid)
      (others : (q : ℕ) → q ≢ pid → MayBeReady v q → MayBeReady w q)
      (noted : (n q : ℕ) → IsNoted v n q → IsNoted w n q)
      (back : (n q : ℕ) → IsNoted w n q → IsNoted v n q ⊎ ((name ≡ Some n) × (q ≡ pid)))
      (followed : (n : ℕ) → IsFollowed w n → IsFollowed v n)
      (own : IfSome name (λ n. MayBeReady v pid → MayBeReady w pid ⊎ IsNoted w n pid))
      (sought : w.sought ≡ v.sought) where
    other : (q : ℕ) → IsReady a s q → q ≢ pid
    other q ready same = asleep (subst (IsReady a s) same ready)

    by_name : (o : Option ℕ) (n : ℕ) → o ≡ Some n
        → IfSome o (λ m. MayBeReady v pid → MayBeReady w pid ⊎ IsNoted w m pid) → MayBeReady v pid
        → MayBeReady w pid ⊎ IsNoted w n pid
    by_name (Some m) n is told may =
        let same : m ≡ n = cc in
        subst (λ (k : ℕ). MayBeReady w pid ⊎ IsNoted w k pid) same (told may)
    by_name None n is told may = absurd cc

    proxy-still : (q n : ℕ) → IsReady a s q → HasProxy v n q → HasProxy w n q
    proxy-still q n ready has = record {
      noted = noted n q has.noted;
      proxy = has.proxy;
      noted_too = noted n has.proxy has.noted_too;
      told = others has.proxy (other has.proxy (proxy-ready v covers q n ready has)) has.told;
      low = has.low;
      over = λ less. subst (λ (k : ℕ). k < has.proxy) (sym sought) (has.over (subst (λ (k : ℕ). k < q) sought less));
    }

    -- it is told to be so
    pub settled-covers : Covers a s w
    settled-covers = record {
      ready = λ q ready.
          elim (covers.ready q ready) [
            | inl may ↦ inl (others q (other q ready) may)
            | inr has ↦ inr (has.0, proxy-still q has.0 ready has.1)
          ];
      waiting = λ q n is follows.
          elim (covers.waiting q n is (followed n follows)) [
            | inl may ↦
                elim (cases_eq q pid) [
                  | inl same ↦
                      let here : waits a s.objects pid ≡ Some n =
                      subst (λ (k : ℕ). waits a s.objects k ≡ Some n) same is
                      in
                      subst (λ (k : ℕ). MayBeReady w k ⊎ IsNoted w n k) (sym same)
                      (by_name name n (its ∙ here) own (subst (MayBeReady v) same may))
                  | inr differs ↦ inl (others q differs may)
                ]
            | inr there ↦ inr (noted n q there)
          ];
      noted = λ q n there.
          elim (back n q there) [
            | inl before ↦ covers.noted q n before
            | inr is ↦ ap (waits a s.objects) is.1 ∙ sym its ∙ is.0
          ];
    }

  -- ---- on the way

  module _ (w : Awake) (after from : ℕ) (none : NoneUpTo a s w after from) where
    abbrev Has : ℕ → Type 0
    Has q = IsTrue (contains nat_cmp w.ready q)

    below : (pid : ℕ) → LowestOver Has from pid → (q : ℕ) → after < q → q < pid → ¬ (IsToldReady a s w q)
    below pid lowest q over under told =
        ⊎_elim
        (λ (further : from < q). lowest.lowest q further under told.told)
        (λ (near : q ≤ from). none q over near told)
        (cases_lt from q)

    pub found-told : (pid : ℕ) → after ≤ from → LowestOver Has from pid → IsReady a s pid
        → IsSought a s w after (Some pid)
    found-told pid le lowest ready = (omega (arith, le, lowest.over), ready, below pid lowest, lowest.holds)

    pub none-told : NoneOver Has from → IsSought a s w after None
    none-told nothing q over told =
        ⊎_elim
        (λ (further : from < q). nothing q further told.told)
        (λ (near : q ≤ from). none q over near told)
        (cases_lt from q)

    -- where the lowest is asleep, and others are told as before, none up to it is ready
    pub none-further : (u : Awake) (pid : ℕ) → LowestOver Has from pid → ¬ (IsReady a s pid)
        → ((q : ℕ) → IsTrue (contains nat_cmp u.ready q) → Has q) → NoneUpTo a s u after pid
    none-further u pid lowest asleep fewer q over up_to told =
        ⊎_elim
        (λ (under : q < pid). below pid lowest q over under (record { told = fewer q told.told; ready = told.ready }))
        (λ (le : pid ≤ q). asleep (subst (IsReady a s) (omega (arith, le, up_to)) told.ready))
        (cases_lt q pid)

  -- ---- what is found

  module _ (w : Awake) (covers : Covers a s w) (known : w.lost ≡ false) where
    has-told : (q : ℕ) → MayBeReady w q → IsTrue (contains nat_cmp w.ready q)
    has-told q (inl lost) = let both = sym known ∙ lost in absurd cc
    has-told q (inr there) = there

    -- a ready process is told, or another one that is no higher is told and ready
    record IsToldBelow (after q : ℕ) : Type 0 where
      told : ℕ
      is : IsToldReady a s w told
      over : after < told
      low : told ≤ q

    told-below : (after : ℕ) → (after ≡ 0) ⊎ (after ≡ w.sought) → (q : ℕ) → after < q → IsReady a s q
        → IsToldBelow after q
    told-below after from q over ready =
        elim (covers.ready q ready) [
          | inl may ↦
              record { told = q; is = record { told = has-told q may; ready = ready }; over = over; low = omega arith }
          | inr has ↦ by_proxy has.0 has.1
        ]
      where
        by_proxy : (name : ℕ) → HasProxy w name q → IsToldBelow after q
        by_proxy name has = record {
          told = has.proxy;
          is = record {
            told = has-told has.proxy has.told;
            ready = proxy-ready w covers q name ready has;
          };
          over =
              elim from [
                | inl zero ↦
                    let above = waiter-over typed has.proxy name (covers.noted has.proxy name has.noted_too) in
                    omega (arith, zero, above)
                | inr same ↦
                    let above = has.over (omega (arith, same, over)) in omega (arith, same, above)
              ];
          low = has.low;
        }

    module _ (after : ℕ) (from : (after ≡ 0) ⊎ (after ≡ w.sought)) where
      -- so the lowest that is told and ready is the lowest that is ready
      pub sought-next : (found : Option ℕ) → IsSought a s w after found
          → MatchOption found (NoneReady a s after) (IsNextReady a s after)
      sought-next (Some pid) sought = record {
        over = sought.0;
        ready = sought.1;
        lowest = λ q over under ready.
            let first = told-below after from q over ready in
            sought.2 first.told first.over (omega (arith, first.low, under)) first.is;
      }
      sought-next None nothing = λ q over ready.
          let first = told-below after from q over ready in
          nothing first.told first.over first.is

      -- and the set covers the state where what is sought goes on to just below that
      pub reached-covers : (u : Awake) (pid : ℕ) → IsNextReady a s after pid → u.sought ≡ pid - 1
          → ((q : ℕ) → MayBeReady w q → MayBeReady u q) → u.waiting ≡ w.waiting
          → ((n : ℕ) → IsFollowed u n → IsFollowed w n) → Covers a s u
      reached-covers u pid next sought may same followed = record {
        ready = λ q ready.
            elim (covers.ready q ready) [
              | inl told ↦ inl (may q told)
              | inr has ↦ inr (has.0, further q has.0 ready has.1)
            ];
        waiting = λ q n is follows.
            elim (covers.waiting q n is (followed n follows)) [
              | inl told ↦ inl (may q told)
              | inr noted ↦ inr (on n q noted)
            ];
        noted = λ q n noted. covers.noted q n (back n q noted);
      }
        where
          on : (n q : ℕ) → IsNoted w n q → IsNoted u n q
          on n q noted = subst (λ (k : BTreeSet (ℕ × ℕ)). IsTrue (contains by_both k (n, q))) (sym same) noted

          back : (n q : ℕ) → IsNoted u n q → IsNoted w n q
          back n q noted = subst (λ (k : BTreeSet (ℕ × ℕ)). IsTrue (contains by_both k (n, q))) same noted

          -- no process that is over the one number and ready is below the next one
          not-below : (r : ℕ) → after < r → IsReady a s r → pid ≤ r
          not-below r over ready =
              ⊎_elim
              (λ (less : r < pid). absurd (next.lowest r over less ready))
              (λ (le : pid ≤ r). le)
              (cases_lt r pid)

          further : (q name : ℕ) → IsReady a s q → HasProxy w name q → HasProxy u name q
          further q name ready has = record {
            noted = on name q has.noted;
            proxy = has.proxy;
            noted_too = on name has.proxy has.noted_too;
            told = may has.proxy has.told;
            low = has.low;
            over = λ less.
                let proxy_ready = proxy-ready w covers q name ready has in
                let above : after < has.proxy = over_after less in
                let le = not-below has.proxy above proxy_ready in
                omega (arith, sought, le, next.over);
          }
            where
              over_after : u.sought < q → after < has.proxy
              over_after less =
                  elim from [
                    | inl zero ↦
                        let some = waiter-over typed has.proxy name (covers.noted has.proxy name has.noted_too) in
                        omega (arith, zero, some)
                    | inr equal ↦
                        let some = has.over (omega (arith, less, sought, equal, next.over)) in
                        omega (arith, equal, some)
                  ]

  -- ---- what is found, from where it was sought

  module _ (v w : Awake) (covers : Covers a s w) (after : ℕ) (known : v.lost ≡ false)
      (from : (after ≡ 0) ⊎ (after ≡ v.sought)) (lost : w.lost ≡ v.lost) (sought : w.sought ≡ v.sought) where
    from-there : (after ≡ 0) ⊎ (after ≡ w.sought)
    from-there =
        elim from [
          | inl zero ↦ inl zero
          | inr same ↦ inr (same ∙ sym sought)
        ]

    pub seek-next : (found : Option ℕ) → IsSought a s w after found
        → MatchOption found (NoneReady a s after) (IsNextReady a s after)
    seek-next found is = sought-next w covers (lost ∙ known) after from-there found is

    pub reach-covers : (u : Awake) (pid : ℕ) → IsSought a s w after (Some pid) → u.sought ≡ pid - 1
        → ((q : ℕ) → MayBeReady w q → MayBeReady u q) → u.waiting ≡ w.waiting
        → ((n : ℕ) → IsFollowed u n → IsFollowed w n) → Covers a s u
    reach-covers u pid is reached may same followed =
        reached-covers w covers (lost ∙ known) after from-there u pid (seek-next (Some pid) is) reached may same
        followed

  -- ---- quiet states

  -- where none over 0 is ready, none is
  pub any-of_next : (found : Option ℕ) → MatchOption found (NoneReady a s 0) (IsNextReady a s 0)
      → MatchOption found (IsQuiet a s) (IsReady a s)
  any-of_next (Some pid) next = next.ready
  any-of_next None nothing = λ q ready. nothing q (ready-over accepted typed q ready) ready
