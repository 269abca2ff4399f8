-- Hands among which items are dealt, and the senders that come back from them.
use Rattle.std.proofs.Common.{◌≡◌, ◌∙◌, ℕ, ◌<◌, ◌≤◌, Bool, true, false, cond, eqb, List, [], ◌∷◌, ◌++◌, All, length, map, reverse, get_or, slice_get, slice_index_or, Some, refl, sym, ap, subst, ⊎_elim, arith, append-nil, eq-eqb}
use Rattle.std.proofs.lemmas.Bool.{cases_lt}
use Rattle.std.proofs.lemmas.List.{get_or-map, get_or_past, length-map, map-append}
use Rattle.std.proofs.lemmas.List.Elements.{All-cons, All-from_get_or, All-get_or, All-nil, All-push, All-same}
use Rattle.std.proofs.lemmas.Option.{get_or_from_slice_get, slice_get-get_or, slice_get_within}
use Rattle.nomos_pool.specs.Gathering.{IsGathering, dealt_to}
use Rattle.nomos_pool.specs.Hands.{AllHandIn, AreDealt, AreEmptyHands, AreHandsOf, GivesTo, HandsIn, IsHandOf, items_of, sender_of}
use Rattle.nomos_pool.specs.PoolPass.{AreNewSendersOf, IsSenderOf, submitted_by}
use Rattle.nomos_pool.specs.PoolRule.{sent_by}
use Rattle.nomos_pool.specs.declared.hands.Hand.{Hand}
use Rattle.nomos_pool.specs.declared.pool.Pool.{Pool}
use Rattle.nomos_pool.specs.declared.pool.Submitter.{Submitter}
use Rattle.nomos_pool.specs.declared.pool.Submission.{Submission}

module _ {T : Type 0} where
  more_dealt : (b : Bool) (x : T) (dealt rest before after : List T) → before ≡ dealt ++ rest
      → after ≡ cond b (x ∷ before) before → after ≡ cond b (x ∷ dealt) dealt ++ rest
  more_dealt true x dealt rest before after is more = more ∙ ap (λ l. x ∷ l) is
  more_dealt false x dealt rest before after is more = more ∙ is

  -- one item more is dealt, before those that are dealt
  pub deals-one : (thread : ℕ) (threads : List ℕ) (x : T) (items : List T) (first before after : List (Hand T))
      → AreDealt threads items first before → GivesTo thread x before after
      → AreDealt (thread ∷ threads) (x ∷ items) first after
  deals-one thread threads x items first before after dealt gives = (
    gives.0 ∙ dealt.0,
    λ k d low.
        let a = dealt.1 k d low in
        let b = gives.1 k d (omega (arith, low, dealt.0)) in (
          b.0 ∙ a.0,
          more_dealt (eqb thread k) x (dealt_to k threads items) (items_of (slice_index_or first k d))
              (items_of (slice_index_or before k d)) (items_of (slice_index_or after k d)) a.1 b.1,
        ),
  )

  -- nothing is dealt yet
  pub deals-none : (threads : List ℕ) (hands : List (Hand T)) → AreDealt threads [] hands hands
  deals-none [] hands = (refl, λ k d low. (refl, refl))
  deals-none (t ∷ threads) hands = (refl, λ k d low. (refl, refl))

  -- hands with no items among which items are dealt hold the share of their threads
  pub dealt-hands : (pool : Pool T) (count : ℕ) (threads : List ℕ) (items : List T) (senders : List (Submitter T))
      (hands after : List (Hand T)) → AreNewSendersOf pool count senders → AreEmptyHands senders hands
      → AreDealt threads items hands after → AreHandsOf pool count (λ j. dealt_to j threads items) after
  dealt-hands pool count threads items senders hands after new empty dealt =
      let as_many : length hands ≡ count = sym (length-map hands sender_of) ∙ (ap length empty.theirs ∙ new.many) in
      record {
        many = dealt.0 ∙ as_many;
        each = λ k hand at.
            let low : k < length hands = omega (arith, slice_get_within after k hand at, dealt.0) in
            let is : slice_index_or after k hand ≡ hand = get_or_from_slice_get after k hand hand at in
            let before : Hand T = slice_index_or hands k hand in
            let moved = dealt.1 k hand low in
            let same : before.sender ≡ hand.sender = sym moved.0 ∙ ap (λ h. h.sender) is in
            let there : slice_get senders k ≡ Some before.sender =
            subst (λ l. slice_get l k ≡ Some before.sender) empty.theirs
            (slice_get-get_or (map sender_of hands) k before.sender (omega (arith, low, length-map hands sender_of))
            ∙ ap Some (get_or-map sender_of hands k hand before.sender low)) in
            let e = new.each k before.sender there in
            let none : before.items.items ≡ [] = All-get_or (λ h. h.items.items ≡ []) hands k hand low empty.empty in (
              subst (IsSenderOf pool) same e.0,
              ap (λ s. s.number) (sym same) ∙ e.1,
              ap submitted_by (sym same) ∙ e.2,
              ap items_of (sym is) ∙ (moved.1 ∙ (ap (λ l. dealt_to k threads items ++ reverse l) none
                  ∙ append-nil (dealt_to k threads items))),
            );
      }

  -- one hand more with no items
  pub more-empty : (senders : List (Submitter T)) (hands after : List (Hand T)) (hand : Hand T)
      → AreEmptyHands senders hands → hand.items.items ≡ [] → after ≡ hands ++ hand ∷ []
      → AreEmptyHands (senders ++ hand.sender ∷ []) after
  more-empty senders hands after hand empty none is = record {
    theirs = ap (map sender_of) is
        ∙ (map-append sender_of hands (hand ∷ []) ∙ ap (λ l. l ++ hand.sender ∷ []) empty.theirs);
    empty = All-same (λ h. h.items.items ≡ []) after (hands ++ hand ∷ []) is
        (All-push (λ h. h.items.items ≡ []) hands hand empty.empty none);
  }

  -- hands of a pool are those that may be handed in
  pub hands-all : (pool : Pool T) (count : ℕ) (share : ℕ → List T) (hands : List (Hand T))
      → AreHandsOf pool count share hands → All (IsHandOf pool) hands
  hands-all pool count share [] are = All-nil (IsHandOf pool)
  hands-all pool count share (h ∷ hands) are =
      All-from_get_or (IsHandOf pool) (h ∷ hands) h
      (λ i low. (are.each i (get_or (h ∷ hands) i h) (slice_get-get_or (h ∷ hands) i h low)).0)

  -- a sender that comes back is that of its place, and has submitted its share
  pub record IsBack (pool : Pool T) (share : ℕ → List T) (k : ℕ) (s : Submitter T) : Type 0 where
    pub of_pool : IsSenderOf pool s
    pub number : s.number ≡ k
    pub submitted : submitted_by s ≡ share k

  pub comes-back : (pool : Pool T) (count : ℕ) (share : ℕ → List T) (hands after : List (Hand T))
      → AreHandsOf pool count share hands → AllHandIn pool hands after
      → (k : ℕ) (s : Submitter T) → slice_get (map sender_of after) k ≡ Some s → IsBack pool share k s
  comes-back pool count share hands after are handed k s at =
      let within = slice_get_within (map sender_of after) k s at in
      let low : k < length hands = omega (arith, within, length-map after sender_of, handed.0) in
      go hands refl low
    where
      go : (hs : List (Hand T)) → hs ≡ hands → k < length hands → IsBack pool share k s
      go [] is low = absurd (let none : length hands ≡ 0 = ap length (sym is) in omega (arith, low, none))
      go (d ∷ hs) is low =
          let hand : Hand T = slice_index_or hands k d in
          let e = are.each k hand (slice_get-get_or hands k d low) in
          let h : HandsIn pool hand (slice_index_or after k d) = handed.1 k d low in
          let same : (slice_index_or after k d).sender ≡ s =
          sym (get_or-map sender_of after k d s (omega (arith, low, handed.0)))
          ∙ get_or_from_slice_get (map sender_of after) k s s at in
          record {
            of_pool = subst (IsSenderOf pool) same h.of_pool;
            number = ap (λ x. x.number) (sym same) ∙ (h.number ∙ e.1);
            submitted = ap submitted_by (sym same)
                ∙ (h.submitted ∙ (ap (λ l. l ++ items_of hand) e.2 ∙ e.3));
          }

  -- what is known of the senders that come back, by their numbers
  pub knows : (pool : Pool T) (share : ℕ → List T) (senders : List (Submitter T))
      → ((k : ℕ) (s : Submitter T) → slice_get senders k ≡ Some s → IsBack pool share k s)
      → (j : ℕ) → j < length senders → slice_index_or (map submitted_by senders) j [] ≡ share j
  knows pool share [] back j low = absurd (omega (arith, low))
  knows pool share (d ∷ senders) back j low =
      get_or-map submitted_by (d ∷ senders) j d [] low
      ∙ (back j (get_or (d ∷ senders) j d) (slice_get-get_or (d ∷ senders) j d low)).submitted

  -- a submission that is there is among those of its sender
  sent_there : (b : Bool) (x : T) (xs : List T) → b ≡ true → cond b (x ∷ xs) xs ≡ [] → ⊥
  sent_there true x xs is none = cc none
  sent_there false x xs is none = cc is

  sent_rest : (b : Bool) (y : T) (ys : List T) → cond b (y ∷ ys) ys ≡ [] → ys ≡ []
  sent_rest true y ys e = absurd (cc e)
  sent_rest false y ys e = e

  -- where no sender from some number on has any, all are of senders below
  pub all-below : (n : ℕ) (gathered : List (Submission T)) → ((j : ℕ) → n ≤ j → sent_by j gathered ≡ [])
      → All (λ s. s.sender < n) gathered
  all-below n [] none = All-nil (λ (s : Submission T). s.sender < n)
  all-below n (x ∷ gathered) none =
      let here : x.sender < n = ⊎_elim (λ (low : x.sender < n). low)
      (λ (high : n ≤ x.sender).
      absurd (sent_there (eqb x.sender x.sender) x.item (sent_by x.sender gathered) (eq-eqb x.sender x.sender refl)
      (none x.sender high)))
      (cases_lt x.sender n) in
      All-cons (λ (s : Submission T). s.sender < n) x gathered here
      (all-below n gathered (λ j le. sent_rest (eqb x.sender j) x.item (sent_by j gathered) (none j le)))

  -- what is gathered of senders that have submitted their shares
  pub gathers : (pool : Pool T) (count : ℕ) (threads : List ℕ) (items : List T) (senders : List (Submitter T))
      (gathered : List (Submission T)) → length senders ≡ count
      → ((k : ℕ) (s : Submitter T) → slice_get senders k ≡ Some s → IsBack pool (λ j. dealt_to j threads items) k s)
      → ((n : ℕ) → sent_by n gathered ≡ slice_index_or (map submitted_by senders) n [])
      → IsGathering count threads items gathered
  gathers pool count threads items senders gathered many back known = record {
    each = λ j low. known j ∙ knows pool (λ k. dealt_to k threads items) senders back j (omega (arith, low, many));
    others = all-below count gathered (λ j le. known j
        ∙ get_or_past (map submitted_by senders) j [] (omega (arith, le, many, length-map senders submitted_by)));
  }
