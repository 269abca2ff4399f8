use Rattle.std.proofs.Common.{◌∙◌, ◌+◌, ◌++◌, ℕ, Option, Some, None, Vec, Global, drop, sym, ap, append-nil, arith}
use Rattle.std.specs.Option.{option_to_list}
use Rattle.nomos_ir.specs.declared.ids.TypeId.{TypeId}
use Rattle.nomos_state.specs.Objects.{types_of}
use Rattle.nomos_state.proofs.CopyLemmas.{pushed, types-next}
use Rattle.nomos_state.proofs.plain_data.copy_types.Goals as goal
use Rattle.nomos_state.proofs.plain_data.copy_types.Goals.{in-Some+in_ok-push, in_default}

pub loop-place-preserved : goal.loop-place-preserved
loop-place-preserved c =
    let names = c.args.contents.now.names.now in
    let place = c.loop-place.place in
    let before = c.loop-place.made.items in
    let after = c.match-typed_at.made.items in
    let rest = types_of (drop (place + 1) names) in
    let next = types-next names place (omega arith)
    ∙ ap (λ (o : Option (ℕ × TypeId)). option_to_list o ++ rest) (sym c.typed_at.ensures) in
    elim c.match-typed_at.branch [
      | in-Some+in_ok-push w ↦
          pushed before after (Some w.in-Some.typed) rest (types_of (drop place names)) (types_of names)
          (ap (λ (v : Vec (ℕ × TypeId) Global). v.items) w.made-is ∙ w.in_ok-push.ensures.items)
          (next ∙ ap (λ (o : Option (ℕ × TypeId)). option_to_list o ++ rest) w.in-Some.is) c.loop-place.invariant
      | in_default w ↦
          pushed before after None rest (types_of (drop place names)) (types_of names)
          (ap (λ (v : Vec (ℕ × TypeId) Global). v.items) w.made-is ∙ sym (append-nil before))
          (next ∙ ap (λ (o : Option (ℕ × TypeId)). option_to_list o ++ rest) w.in_default.is) c.loop-place.invariant
    ]
