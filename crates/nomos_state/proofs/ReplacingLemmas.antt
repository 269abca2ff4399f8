-- The channels of a process are replaced: room is made for the new ones, the old ones go, and the new ones come.
use Rattle.std.proofs.Common.{◌≡◌, ◌≢◌, ◌≤◌, ◌∙◌, ℕ, List, IsSome, Option, Some, None, cond, eqb, eq-eqb, ne_eqb, refl, sym, ap, subst, arith}
use Rattle.std.specs.Option.{option_map}
use Rattle.nomos_ir.specs.Bindings.{bindings_of, bound_to}
use Rattle.nomos_ir.specs.declared.ids.VarId.{VarId}
use Rattle.nomos_changes.specs.SmallChanges.{Becomes, with_channels}
use Rattle.nomos_slots.specs.Cells.{Cell, name_in}
use Rattle.nomos_slots.specs.Marking.{Marking}
use Rattle.nomos_slots.specs.Numbers.{put_at}
use Rattle.nomos_slots.specs.ChannelTables.{HaveSameNames}
use Rattle.nomos_slots.specs.declared.numbered.Slot.{Slot}
use Rattle.nomos_state.specs.ObjectsCome.{name_with}
use Rattle.nomos_state.specs.Indexed.{IsIndexed, held_marked, held_now, state_of}
use Rattle.nomos_state.specs.Looked.{ProcessIsAt}
use Rattle.nomos_state.specs.Objects.{channels_of}
use Rattle.nomos_state.specs.Spanning.{HasVariable}
use Rattle.nomos_state.specs.declared.inside.Columns.{Columns}
use Rattle.nomos_state.specs.declared.inside.Inside.TheInside.{Inside}
use Rattle.nomos_state.specs.declared.kept.Kept.{Kept}
use Rattle.nomos_state.specs.declared.kept.Kept.TheVariants as kept
use Rattle.nomos_state.specs.declared.kept.KeptProcess.{KeptProcess}
use Rattle.nomos_state.specs.declared.span.Span.{Span}
use Rattle.nomos_state.proofs.AgainLemmas.{marks-again}
use Rattle.nomos_state.proofs.ChangingLemmas.{channels-become, channels-indexed}
use Rattle.nomos_state.proofs.PairLemmas.{name-other, name-own}
use Rattle.nomos_state.proofs.RebindLemmas.{channels-of_pairs}

module _ (s : Inside) (pid : ℕ) (pairs : List (VarId × ℕ)) (reserved dropped after : Marking Cell)
    (names : (p w : ℕ) → name_in reserved.now p w ≡ name_in s.contents.channels.now p w)
    (gone : (p w : ℕ) → name_in dropped.now p w ≡ cond (eqb pid p) None (name_in reserved.now p w))
    (come : (p w : ℕ) → name_in after.now p w ≡ name_with pid pairs p w (name_in dropped.now p w))
    (marked : HaveSameNames s.contents.channels.marked reserved.marked) (also : dropped.marked ≡ reserved.marked)
    (again : after.marked ≡ dropped.marked) where
  others : (p w : ℕ) → p ≢ pid → name_in after.now p w ≡ name_in s.contents.channels.now p w
  others p w other =
      let apart : pid ≢ p = λ same. other (sym same) in
      come p w
      ∙ name-other pid p w pairs (name_in dropped.now p w) apart
      ∙ gone p w
      ∙ ap (λ b. cond b None (name_in reserved.now p w)) (ne_eqb pid p apart)
      ∙ names p w

  named : (w : ℕ) → name_in after.now pid w ≡ bound_to w pairs
  named w =
      come pid w
      ∙ name-own pid w pairs (name_in dropped.now pid w)
      (gone pid w ∙ ap (λ b. cond b None (name_in reserved.now pid w)) (eq-eqb pid pid refl))

  own : channels_of after.now pid ≡ bindings_of pairs
  own = channels-of_pairs after.now pid pairs named

  marks : HaveSameNames s.contents.channels.marked after.marked
  marks = subst (HaveSameNames s.contents.channels.marked) (sym (again ∙ also)) marked

  module _ (objects : Marking (Slot Kept)) (same : objects.marked ≡ s.contents.objects.marked) where
    abbrev replaced : Columns
    replaced = record s.contents { objects = objects; channels = after }

    pub replaced-marks : option_map state_of (held_marked replaced s.marked)
        ≡ option_map state_of (held_marked s.contents s.marked)
    replaced-marks =
        marks-again s objects s.contents.values s.contents.lists after s.contents.numbers same refl refl marks

    module _ (is : IsIndexed s) (place : ℕ) (k : KeptProcess) (at : ProcessIsAt (held_now s.contents) pid place k)
        (has : s.room ≤ after.room) (span : Option Span)
        (now : objects.now ≡ put_at s.contents.objects.now place (Some (kept.Process (record k { span = span }))))
        (as_much : s.contents.objects.room ≤ objects.room)
        (spans : (w : ℕ) → IsSome (bound_to w pairs) → HasVariable span w) where
      its_spans : (w : ℕ) → IsSome (name_in after.now pid w) → HasVariable span w
      its_spans w some = spans w (subst (λ (o : Option ℕ). IsSome o) (named w) some)

      pub replaced-indexed : IsIndexed (record s { contents = replaced })
      replaced-indexed =
          channels-indexed s is pid place k at objects span after s.room now same as_much others its_spans marks
          (omega arith) has

      pub replaced-become : Becomes (state_of (held_now s.contents)) pid (with_channels pairs)
          (state_of (held_now replaced))
      replaced-become =
          channels-become s is pid place k at objects span after s.room now same as_much others its_spans marks
          (omega arith) has (bindings_of pairs) (with_channels pairs) own refl
