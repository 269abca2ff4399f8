-- An object comes to an indexed state.
use Rattle.std.proofs.Common.{◌≡◌, ◌≢◌, ◌≤◌, ◌<◌, ◌+◌, ◌-◌, ◌∙◌, ℕ, zero, suc, [], List, ◌∷◌, ◌++◌, All, Option, Some, None, IsSome, length, refl, sym, ap, subst, arith, inl, inr, append_assoc, length-append, cond, ne_eqb}
use Rattle.std.proofs.lemmas.Bool.{both_ways, cases_eq}
use Rattle.std.proofs.lemmas.List.Elements.{All-cons, All-head, All-nil, All-tail}
use Rattle.std.proofs.lemmas.Option.{none-some, same_Some}
use Rattle.std.specs.Option.{is_some, option_to_list}
use Rattle.nomos_ir.specs.Value.{Value}
use Rattle.nomos_ir.specs.declared.ids.VarId.{VarId}
use Rattle.nomos_ir.specs.declared.ids.TypeId.{TypeId}
use Rattle.nomos_deeds.specs.declared.sight.SeenPayload.TheVariants as seen
use Rattle.nomos_machine.specs.declared.object.Message.{Message}
use Rattle.nomos_machine.specs.declared.object.Object.{Object}
use Rattle.nomos_machine.specs.declared.object.Object.TheVariants as object
use Rattle.nomos_machine.specs.declared.object.PotentialList.{PotentialList}
use Rattle.nomos_changes.specs.SmallChanges.{with_object}
use Rattle.nomos_slots.specs.Cells.{Cell, name_in}
use Rattle.nomos_slots.specs.Marking.{Marking}
use Rattle.nomos_slots.specs.Numbers.{IsAscending, found, numbers}
use Rattle.nomos_slots.specs.Shelving.{Shelving}
use Rattle.nomos_slots.specs.ChannelTables.{HaveSameNames}
use Rattle.nomos_slots.specs.declared.numbered.Slot.{Slot}
use Rattle.nomos_slots.proofs.NumberLaws.{ascending-push, found-push, found-push_other}
use Rattle.nomos_state.specs.ObjectsCome.{ObjectComes}
use Rattle.nomos_state.specs.Indexed.{Holding, HasRoom, IsHolding, IsIndexed, held_now, state_of}
use Rattle.nomos_state.specs.Objects.{FitRows, AreHeld, FitsRows, ListRow, ValueRow, message_held, object_of, objects_of}
use Rattle.nomos_state.specs.Spanning.{Spans}
use Rattle.nomos_state.specs.declared.inside.Columns.{Columns}
use Rattle.nomos_state.specs.declared.inside.Inside.TheInside.{Inside}
use Rattle.nomos_state.specs.declared.inside.Numbers.{Numbers}
use Rattle.nomos_state.specs.declared.kept.Kept.{Kept}
use Rattle.nomos_state.specs.declared.kept.Kept.TheVariants as kept
use Rattle.nomos_state.specs.declared.kept.KeptMessage.{KeptMessage}
use Rattle.nomos_state.proofs.AgainLemmas.{contents_again, indexed-again}
use Rattle.nomos_state.proofs.PlaceLemmas.{object_in, objects-apart}
use Rattle.nomos_state.proofs.TogetherLemmas.{same-names}

-- ---- one more slot

-- the objects, where no cell changes
objects-append : (cells : List Cell) (slots : List (Slot Kept)) (vs : List ValueRow) (ls : List ListRow) (n : ℕ)
    (k : Kept)
    (v : ValueRow) (l : ListRow) → length vs ≡ length slots → length ls ≡ length slots
    → objects_of cells (slots ++ (record { number = n; item = Some k }) ∷ []) (vs ++ v ∷ []) (ls ++ l ∷ [])
    ≡ objects_of cells slots vs ls ++ object_of cells n v l k ∷ []
objects-append cells [] [] [] n k v l long also = refl
objects-append cells [] (w ∷ vs) ls n k v l long also = absurd (omega arith)
objects-append cells [] [] (m ∷ ls) n k v l long also = absurd (omega arith)
objects-append cells (s ∷ slots) [] ls n k v l long also = absurd (omega arith)
objects-append cells (s ∷ slots) (w ∷ vs) [] n k v l long also = absurd (omega arith)
objects-append cells (s ∷ slots) (w ∷ vs) (m ∷ ls) n k v l long also =
    let first = option_to_list (object_in cells s.number w m s.item) in
    ap (λ os. first ++ os) (objects-append cells slots vs ls n k v l (omega arith) (omega arith))
    ∙ sym (append_assoc first (objects_of cells slots vs ls) (object_of cells n v l k ∷ []))

fit-push : (slots : List (Slot Kept)) (vs : List ValueRow) (ls : List ListRow) (s : Slot Kept) (v : ValueRow)
    (l : ListRow) → length vs ≡ length slots → length ls ≡ length slots → FitRows slots vs ls → FitsRows s.item v l
    → FitRows (slots ++ s ∷ []) (vs ++ v ∷ []) (ls ++ l ∷ [])
fit-push [] [] [] s v l long also all own zero slot at =
    subst (λ (x : Slot Kept). FitsRows x.item v l) (same_Some s slot at) own
fit-push [] [] [] s v l long also all own (suc place) slot at = absurd (none-some slot at)
fit-push [] (w ∷ vs) ls s v l long also all own place slot at = absurd (omega arith)
fit-push [] [] (m ∷ ls) s v l long also all own place slot at = absurd (omega arith)
fit-push (e ∷ slots) [] ls s v l long also all own place slot at = absurd (omega arith)
fit-push (e ∷ slots) (w ∷ vs) [] s v l long also all own place slot at = absurd (omega arith)
fit-push (e ∷ slots) (w ∷ vs) (m ∷ ls) s v l long also all own zero slot at = all zero slot at
fit-push (e ∷ slots) (w ∷ vs) (m ∷ ls) s v l long also all own (suc place) slot at =
    fit-push slots vs ls s v l (omega arith) (omega arith) (λ p t h. all (suc p) t h) own place slot at

numbers-push : (slots : List (Slot Kept)) (s : Slot Kept) → numbers (slots ++ s ∷ []) ≡ numbers slots ++ s.number ∷ []
numbers-push [] s = refl
numbers-push (e ∷ slots) s = ap (λ ns. e.number ∷ ns) (numbers-push slots s)

below-push : (ns : List ℕ) (n : ℕ) → All (λ m. m < n) ns → All (λ m. m < n + 1) (ns ++ n ∷ [])
below-push [] n below = All-cons (λ m. m < n + 1) n [] (omega arith) (All-nil (λ m. m < n + 1))
below-push (e ∷ ns) n below =
    let here : e < n = All-head (λ m. m < n) e ns below in
    All-cons (λ m. m < n + 1) e (ns ++ n ∷ []) (omega arith) (below-push ns n (All-tail (λ m. m < n) e ns below))

apart-below : (ns : List ℕ) (n : ℕ) → All (λ m. m < n) ns → All (λ m. m ≢ n) ns
apart-below [] n below = All-nil (λ m. m ≢ n)
apart-below (e ∷ ns) n below =
    let here : e < n = All-head (λ m. m < n) e ns below in
    let other : e ≢ n = omega arith in
    All-cons (λ m. m ≢ n) e ns other (apart-below ns n (All-tail (λ m. m < n) e ns below))

-- nothing stands under the next number
pub next-free : (h : Holding) → IsHolding h → found h.slots h.drawn.next_object ≡ None
next-free h is = none h.slots is.below
  where
    none : (slots : List (Slot Kept)) → All (λ m. m < h.drawn.next_object) (numbers slots)
        → found slots h.drawn.next_object ≡ None
    none [] below = refl
    none (e ∷ slots) below =
        let here : e.number < h.drawn.next_object =
        All-head (λ m. m < h.drawn.next_object) e.number (numbers slots) below in
        let other : e.number ≢ h.drawn.next_object = omega arith in
        ap (λ b. cond b e.item (found slots h.drawn.next_object)) (ne_eqb e.number h.drawn.next_object other)
        ∙ none slots (All-tail (λ m. m < h.drawn.next_object) e.number (numbers slots) below)

-- so it has no channels
pub next-unnamed : (h : Holding) → IsHolding h → (n v : ℕ) → n ≡ h.drawn.next_object → name_in h.cells n v ≡ None
next-unnamed h is n v same = at (name_in h.cells n v) refl
  where
    at : (o : Option ℕ) → name_in h.cells n v ≡ o → o ≡ None
    at None named = refl
    at (Some name) named =
        let some : IsSome (name_in h.cells n v) = ap is_some named in
        absurd (subst (λ o. Spans o v) (ap (found h.slots) same ∙ next-free h is) (is.held n v some))

-- ---- what is held

module _ (before after : Holding) (is : IsHolding before) (n : ℕ) (k : Kept) (v : ValueRow) (l : ListRow)
    (comes : ObjectComes before after n k v l) where
  below : All (λ m. m < n) (numbers before.slots)
  below = subst (λ i. All (λ m. m < i) (numbers before.slots)) (sym comes.is_next) is.below

  slot : Slot Kept
  slot = record { number = n; item = Some k }

  objects-come : objects_of after.cells after.slots after.value_rows after.list_rows
      ≡ objects_of before.cells before.slots before.value_rows before.list_rows ++ object_of after.cells n v l k ∷ []
  unfolding slot
  objects-come =
      ap (λ slots. objects_of after.cells slots after.value_rows after.list_rows) comes.slots
      ∙ ap (λ rows. objects_of after.cells (before.slots ++ slot ∷ []) rows after.list_rows) comes.value_rows
      ∙ ap (λ rows. objects_of after.cells (before.slots ++ slot ∷ []) (before.value_rows ++ v ∷ []) rows)
      comes.list_rows
      ∙ objects-append after.cells before.slots before.value_rows before.list_rows n k v l is.value_rows is.list_rows
      ∙ ap (λ os. os ++ object_of after.cells n v l k ∷ [])
      (objects-apart before.cells after.cells n comes.others before.slots before.value_rows before.list_rows
      (apart-below (numbers before.slots) n below))

  pub coming-state : state_of after ≡ with_object (object_of after.cells n v l k) (state_of before)
  coming-state =
      let objects = objects-come in
      let names = comes.names in
      let balances = comes.balances in
      let outside = comes.outside in
      let results = comes.results in
      let drawn = comes.drawn in
      cc

  held-come : (p w : ℕ) → IsSome (name_in after.cells p w) → Spans (found (before.slots ++ slot ∷ []) p) w
  unfolding slot
  held-come p w some =
      elim (cases_eq p n) [
        | inl same ↦
            let own : found (before.slots ++ slot ∷ []) p ≡ Some k =
            ap (found (before.slots ++ slot ∷ [])) same ∙ found-push before.slots slot below in
            subst (λ o. Spans o w) (sym own) (comes.its_own w (subst (λ i. IsSome (name_in after.cells i w)) same some))
        | inr other ↦
            subst (λ o. Spans o w) (sym (found-push_other before.slots slot p (λ same. other (sym same))))
            (is.held p w (subst (λ (o : Option ℕ). IsSome o) (comes.others p w other) some))
      ]

  pub coming-holding : IsHolding after
  unfolding slot
  coming-holding =
      let slots = comes.slots in
      let long : length after.slots ≡ length before.slots + 1 =
      ap length slots ∙ length-append before.slots (slot ∷ []) in
      let next : after.drawn.next_object ≡ n + 1 =
      ap (λ (d : Numbers). d.next_object) comes.drawn ∙ ap (λ i. i + 1) (sym comes.is_next) in
      record {
        value_rows = ap length comes.value_rows ∙ length-append before.value_rows (v ∷ [])
            ∙ ap (λ i. i + 1) is.value_rows
            ∙ sym long;
        list_rows = ap length comes.list_rows ∙ length-append before.list_rows (l ∷ []) ∙ ap (λ i. i + 1) is.list_rows
            ∙ sym long;
        ascending = subst IsAscending (sym slots) (ascending-push before.slots slot is.ascending below);
        below =
            subst (λ i. All (λ m. m < i) (numbers after.slots)) (sym next)
            (subst (All (λ m. m < n + 1)) (sym (ap numbers slots ∙ numbers-push before.slots slot))
            (below-push (numbers before.slots) n below));
        names_ascending = subst IsAscending (sym comes.names) is.names_ascending;
        names_below =
            let Below : List (Slot TypeId) → Numbers → Type 0 = λ names d. All (λ m. m < d.next_name) (numbers names) in
            subst (λ (d : Numbers). Below after.names d) (sym comes.drawn)
            (subst (λ (names : List (Slot TypeId)). Below names before.drawn) (sym comes.names) is.names_below);
        fit =
            subst (λ (ls : List ListRow). FitRows after.slots after.value_rows ls) (sym comes.list_rows)
            (subst (λ (vs : List ValueRow). FitRows after.slots vs (before.list_rows ++ l ∷ [])) (sym comes.value_rows)
            (subst (λ (xs : List (Slot Kept)). FitRows xs (before.value_rows ++ v ∷ []) (before.list_rows ++ l ∷ []))
            (sym slots)
            (fit-push before.slots before.value_rows before.list_rows slot v l is.value_rows is.list_rows is.fit
            comes.fits)));
        held =
            subst (λ (xs : List (Slot Kept)). AreHeld xs after.cells) (sym slots) held-come;
      }

-- ---- an indexed state

module _ (s : Inside) (is : IsIndexed s) (n : ℕ) (k : Kept) (row : ValueRow) (list_row : ListRow)
    (objects : Marking (Slot Kept)) (values : Shelving (VarId × Value)) (its_lists : Shelving (VarId × PotentialList))
    (channels : Marking Cell) (o : objects.marked ≡ s.contents.objects.marked)
    (v : values.marked ≡ s.contents.values.marked) (l : its_lists.marked ≡ s.contents.lists.marked)
    (c : HaveSameNames s.contents.channels.marked channels.marked) where
  abbrev pub drawn_next : Numbers
  drawn_next = record s.contents.numbers { next_object = s.contents.numbers.next_object + 1 }

  abbrev pub coming_after : Columns
  coming_after = contents_again s objects values its_lists channels drawn_next o v l c

  pub come-indexed : ObjectComes (held_now s.contents) (held_now coming_after) n k row list_row
      → HasRoom coming_after (s.room - 1) → IsIndexed (record s { contents = coming_after; room = s.room - 1 })
  come-indexed comes has =
      indexed-again s objects values its_lists channels drawn_next o v l c (s.room - 1) is
      (coming-holding (held_now s.contents) (held_now coming_after) is.now n k row list_row comes) has

-- ---- a message

module _ (s : Inside) (is : IsIndexed s) (n : ℕ) (k : KeptMessage) (row : ValueRow) (objects : Marking (Slot Kept))
    (values : Shelving (VarId × Value)) (its_lists : Shelving (VarId × PotentialList))
    (o : objects.marked ≡ s.contents.objects.marked) (v : values.marked ≡ s.contents.values.marked)
    (l : its_lists.marked ≡ s.contents.lists.marked) (next : n ≡ s.contents.numbers.next_object)
    (brings : k.brings ≡ seen.Value → 1 ≤ length row)
    (slots : objects.now ≡ s.contents.objects.now ++ (record { number = n; item = Some (kept.Message k) }) ∷ [])
    (rows : values.now ≡ s.contents.values.now ++ row ∷ []) (list_rows : its_lists.now ≡ s.contents.lists.now ++ []
    ∷ [])
  where
    abbrev message_after : Columns
    message_after =
        coming_after s is n (kept.Message k) row [] objects values its_lists s.contents.channels o v l
        (same-names s.contents.channels.marked s.contents.channels.marked refl)

    message-comes : ObjectComes (held_now s.contents) (held_now message_after) n (kept.Message k) row []
    message-comes = record {
      is_next = next;
      fits = brings;
      its_own = λ w some. absurd (both_ways _ (ap is_some (next-unnamed (held_now s.contents) is.now n w next)) some);
      others = λ p w other. refl;
      slots = slots;
      value_rows = rows;
      list_rows = list_rows;
      names = refl;
      balances = refl;
      outside = refl;
      results = refl;
      drawn = refl;
    }

    pub message-indexed : HasRoom message_after (s.room - 1)
        → IsIndexed (record s { contents = message_after; room = s.room - 1 })
    message-indexed has =
        come-indexed s is n (kept.Message k) row [] objects values its_lists s.contents.channels o v l
        (same-names s.contents.channels.marked s.contents.channels.marked refl) message-comes has

    pub message-state : (m : Message) → object.Message (message_held n row k) ≡ object.Message m
        → state_of (held_now message_after) ≡ with_object (object.Message m) (state_of (held_now s.contents))
    message-state m same =
        coming-state (held_now s.contents) (held_now message_after) is.now n (kept.Message k) row [] message-comes
        ∙ ap (λ (x : Object). with_object x (state_of (held_now s.contents))) same
