-- Whoever uses a name uses another one instead.
use Rattle.std.proofs.Common.{◌≡◌, ◌≢◌, ◌≤◌, ◌<◌, ◌∙◌, ℕ, zero, suc, cond, eqb, eq-eqb, ne_eqb, List, [], ◌∷◌, map, length, IsSome, true, Option, Some, None, refl, sym, ap, subst, arith}
use Rattle.std.proofs.lemmas.List.{set-get_or}
use Rattle.std.proofs.lemmas.Option.{none-some}
use Rattle.std.specs.List.{slice_get}
use Rattle.std.specs.Option.{is_some, option_map, option_to_list}
use Rattle.nomos_ir.specs.Bindings.{each_bound}
use Rattle.nomos_deeds.specs.declared.sight.SeenPayload.{SeenPayload}
use Rattle.nomos_deeds.specs.declared.sight.SeenPayload.TheVariants as seen
use Rattle.nomos_machine.specs.Change as change
use Rattle.nomos_machine.specs.Objects.{object_at, object_number, process_of}
use Rattle.nomos_machine.specs.Optional.{◌>>=◌}
use Rattle.nomos_machine.specs.Revised.{renamed, renamed_payload, uses_instead}
use Rattle.nomos_machine.specs.State.{State}
use Rattle.nomos_machine.specs.declared.object.Object.{Object}
use Rattle.nomos_machine.specs.declared.object.Object.TheVariants as object
use Rattle.nomos_machine.specs.declared.object.Payload.{Payload}
use Rattle.nomos_machine.specs.declared.object.Process.{Process}
use Rattle.nomos_slots.specs.Cells.{Cell, name_in}
use Rattle.nomos_slots.specs.Marking.{Marking}
use Rattle.nomos_slots.specs.Numbers.{found, put_at}
use Rattle.nomos_slots.specs.Sweeps.{instead_of}
use Rattle.nomos_slots.specs.declared.numbered.Slot.{Slot}
use Rattle.nomos_slots.proofs.NumberLaws.{found-at}
use Rattle.nomos_state.specs.Indexed.{Holding, IsIndexed, held_now, state_of}
use Rattle.nomos_state.specs.Instead.{brings_instead, kept_instead}
use Rattle.nomos_state.specs.Looked.{ObjectIsAt, ProcessIsAt, lists_at, values_at}
use Rattle.nomos_state.specs.Objects.{ValueRow, channels_of, message_held, payload_of, process_held}
use Rattle.nomos_state.specs.Placing.{CanPlace, PlaceComes}
use Rattle.nomos_state.specs.Redirected.{redirected_at}
use Rattle.nomos_state.specs.Spanning.{Spans}
use Rattle.nomos_state.specs.declared.inside.Inside.TheInside.{Inside}
use Rattle.nomos_state.specs.declared.kept.Kept.{Kept}
use Rattle.nomos_state.specs.declared.kept.Kept.TheVariants as kept
use Rattle.nomos_state.specs.declared.kept.KeptMessage.{KeptMessage}
use Rattle.nomos_state.specs.declared.kept.KeptProcess.{KeptProcess}
use Rattle.nomos_state.proofs.AgainLemmas.{indexed-again}
use Rattle.nomos_state.proofs.ChangingLemmas.{fewer-become}
use Rattle.nomos_state.proofs.PlaceLemmas.{comes-holding, comes-state}
use Rattle.nomos_state.proofs.ProcessLemmas.{slot-kept}
use Rattle.nomos_state.proofs.RebindLemmas.{channels-each}
use Rattle.nomos_state.proofs.TogetherLemmas.{same-names}

-- a place within has an item
pub no-item : {X : Type 0} (xs : List X) (at : ℕ) → at < length xs → None ≡ slice_get xs at → ⊥
no-item [] at within none = absurd (omega arith)
no-item (x ∷ xs) zero within none = none-some x none
no-item (x ∷ xs) (suc at) within none = let l : at < length xs = omega arith in no-item xs at l none

-- ---- an object of a number

-- an object of the number stands there as it is redirected
pub redirected-own : (objects : List Object) (old new number : ℕ) (o : Object) → object_number o ≡ number
    → object_at objects number ≡ Some o
    → redirected_at number old new objects ≡ change.put_at number (Some (uses_instead old new o)) objects
redirected-own objects old new number o own at =
    ap (λ (u : Option Object).
    change.put_all (map (λ o. (object_number o, Some (uses_instead old new o))) (option_to_list u)) objects) at
    ∙ ap (λ n. change.put_at n (Some (uses_instead old new o)) objects) own

-- ---- it is a process

module _ (s : Inside) (is : IsIndexed s) (old new number place : ℕ) (k : KeptProcess) (channels : Marking Cell)
    (at : ObjectIsAt (held_now s.contents) number place (kept.Process k))
    (names : (p w : ℕ) → name_in channels.now p w
    ≡ cond (eqb number p) (option_map (instead_of old new) (name_in s.contents.channels.now p w))
    (name_in s.contents.channels.now p w))
    (marked : channels.marked ≡ s.contents.channels.marked) (room : s.contents.channels.room ≤ channels.room) where
  stands : ProcessIsAt (held_now s.contents) number place k
  stands = record { at = at.at; found = ap (λ (o : Option Object). o >>= process_of) at.found }

  others : (p w : ℕ) → p ≢ number → name_in channels.now p w ≡ name_in s.contents.channels.now p w
  others p w other =
      names p w
      ∙ ap (λ b. cond b (option_map (instead_of old new) (name_in s.contents.channels.now p w))
      (name_in s.contents.channels.now p w)) (ne_eqb number p (λ same. other (sym same)))

  -- a variable that has a name had one
  fewer : (w : ℕ) → IsSome (name_in channels.now number w) → IsSome (name_in s.contents.channels.now number w)
  fewer w some =
      subst (λ b. b ≡ true)
      (ap is_some
      (names number w
      ∙ ap (λ b. cond b (option_map (instead_of old new) (name_in s.contents.channels.now number w))
      (name_in s.contents.channels.now number w)) (eq-eqb number number refl))
      ∙ mapped (name_in s.contents.channels.now number w)) some
    where
      mapped : (o : Option ℕ) → is_some (option_map (instead_of old new) o) ≡ is_some o
      mapped None = refl
      mapped (Some n) = refl

  own : channels_of channels.now number ≡ each_bound (renamed old new) (channels_of s.contents.channels.now number)
  own =
      channels-each s.contents.channels.now channels.now number (renamed old new)
      (λ w.
      names number w
      ∙ ap (λ b. cond b (option_map (instead_of old new) (name_in s.contents.channels.now number w))
      (name_in s.contents.channels.now number w)) (eq-eqb number number refl))

  pub process-redirected : state_of (held_now (record s.contents { channels = channels }))
      ≡ record (state_of (held_now s.contents))
      { objects = redirected_at number old new (state_of (held_now s.contents)).objects }
  process-redirected =
      let state = state_of (held_now s.contents) in
      let held = process_held s.contents.channels.now number (values_at (held_now s.contents) place)
      (lists_at (held_now s.contents) place) k in
      let turned : Process → Process = λ p. record p { channels = each_bound (renamed old new) p.channels } in
      fewer-become s is number place k stands channels s.room others fewer
      (same-names s.contents.channels.marked channels.marked marked) (omega arith)
      (omega (arith, room, is.has_room.channels))
      (each_bound (renamed old new) (channels_of s.contents.channels.now number)) turned own refl held stands.found
      ∙ sym (ap (λ (os : List Object). record state { objects = os })
      (redirected-own state.objects old new number (object.Process held) refl at.found))

-- ---- it is a message

payload-instead : (old new : ℕ) (brought : SeenPayload) (row : ValueRow)
    → payload_of (brings_instead old new brought) row ≡ renamed_payload old new (payload_of brought row)
payload-instead old new (seen.Label l) row = refl
payload-instead old new seen.Value [] = refl
payload-instead old new seen.Value (e ∷ row) = refl
payload-instead old new (seen.Channel name) row = refl
payload-instead old new seen.Pay row = refl
payload-instead old new seen.Close row = refl

brings-instead : (old new : ℕ) (brought : SeenPayload) → brings_instead old new brought ≡ seen.Value
    → brought ≡ seen.Value
brings-instead old new (seen.Label l) is = is
brings-instead old new seen.Value is = is
brings-instead old new (seen.Channel name) is = absurd cc
brings-instead old new seen.Pay is = is
brings-instead old new seen.Close is = is

module _ (s : Inside) (is : IsIndexed s) (old new number place : ℕ) (m next : KeptMessage)
    (objects : Marking (Slot Kept))
    (at : ObjectIsAt (held_now s.contents) number place (kept.Message m))
    (instead : next ≡ kept_instead old new m)
    (now : objects.now ≡ put_at s.contents.objects.now place (Some (kept.Message next)))
    (marked : objects.marked ≡ s.contents.objects.marked) (room : s.contents.objects.room ≤ objects.room) where
  abbrev before : Holding
  before = held_now s.contents

  abbrev after : Holding
  after = held_now (record s.contents { objects = objects })

  stood : slice_get before.slots place ≡ Some (record { number = number; item = Some (kept.Message m) })
  stood = slot-kept before.slots place number (kept.Message m) at.at

  can : CanPlace before place number (kept.Message m) (Some (kept.Message next)) (values_at before place)
      (lists_at before place) after.cells
  can = record {
    stood = stood;
    fits = λ brings.
        is.now.fit place (record { number = number; item = Some (kept.Message m) }) stood
        (brings-instead old new m.brings (sym (ap (λ (n : KeptMessage). n.brings) instead) ∙ brings));
    others = λ p w other. refl;
    its_own = λ w some.
        let under : found before.slots number ≡ Some (kept.Message m) =
        found-at before.slots place (record { number = number; item = Some (kept.Message m) }) is.now.ascending stood in
        subst (λ o. Spans o w) under (is.now.held number w some);
  }

  comes : PlaceComes before after number place (Some (kept.Message next)) (values_at before place)
      (lists_at before place)
  comes = record {
    slots = now;
    value_rows = sym (set-get_or before.value_rows place []);
    list_rows = sym (set-get_or before.list_rows place []);
    others = λ p w other. refl;
    names = refl;
    balances = refl;
    outside = refl;
    results = refl;
    drawn = refl;
  }

  pub message-indexed : IsIndexed (record s { contents = record s.contents { objects = objects } })
  message-indexed =
      indexed-again s objects s.contents.values s.contents.lists s.contents.channels s.contents.numbers marked refl refl
      (same-names s.contents.channels.marked s.contents.channels.marked refl) s.room is
      (comes-holding before after is.now place number (kept.Message m) (Some (kept.Message next))
      (values_at before place)
      (lists_at before place) can comes)
      (record {
        objects = omega (arith, room, is.has_room.objects);
        values = is.has_room.values;
        its_lists = is.has_room.its_lists;
        channels = is.has_room.channels;
        names = is.has_room.names;
      })

  pub message-redirected : state_of after
      ≡ record (state_of before) { objects = redirected_at number old new (state_of before).objects }
  message-redirected =
      let row = values_at before place in
      let held = message_held number row m in
      let put : Object → State = λ o.
      record (state_of before) { objects = change.put_at number (Some o) (state_of before).objects } in
      let turned : Payload → Object = λ payload.
      object.Message (record (message_held number row (kept_instead old new m)) { payload = payload }) in
      comes-state before after is.now place number (kept.Message m) (Some (kept.Message next)) row
      (lists_at before place) can comes
      ∙ ap (λ (n : KeptMessage). put (object.Message (message_held number row n))) instead
      ∙ ap (λ (payload : Payload). put (turned payload)) (payload-instead old new m.brings row)
      ∙ sym (ap (λ (os : List Object). record (state_of before) { objects = os })
      (redirected-own (state_of before).objects old new number (object.Message held) refl at.found))
