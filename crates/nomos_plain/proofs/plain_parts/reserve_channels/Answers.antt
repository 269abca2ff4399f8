use Rattle.std.proofs.Common.{rules, ◌≡◌, ◌∙◌, ◌<◌, ◌+◌, ℕ, [], ◌∷◌, All, length, take, sym, ap, subst, arith, refl}
use Rattle.std.proofs.Math.Seq.{map-set_same, take-length}
use Rattle.std.proofs.lemmas.Grind.{take-set_at}
use Rattle.std.proofs.lemmas.List.Elements.{All-set, All-nil, All-cons, All-append}
use Rattle.nomos_plain.specs.Parts.{HasRoom, object_in}
use Rattle.nomos_plain.proofs.plain_parts.reserve_channels.Goals as goal

pub returns-in_err-reserve-clause-objects : goal.returns-in_err-reserve-clause-objects
returns-in_err-reserve-clause-objects c =
    map-set_same object_in c.loop-at.objects.items c.loop-at.at c.reserve.new.self c.index_mut.result.now
    (c.reserve.ensures.object ∙ ap object_in c.index_mut.ensures.value) ∙ c.loop-at.invariant.0

pub returns-in_err-reserve-clause-room : goal.returns-in_err-reserve-clause-room
returns-in_err-reserve-clause-room c n all =
    let before = c.loop-at.invariant.3 n all in
    let there : HasRoom n c.index_mut.result.now = subst (HasRoom n) (sym c.index_mut.ensures.value)
    (before c.loop-at.at c.index_mut.result.now (search rules)) in
    All-set (HasRoom n) c.loop-at.objects.items c.loop-at.at c.reserve.new.self (c.reserve.ensures.room n there) before

pub loop-at-preserved : goal.loop-at-preserved
loop-at-preserved c = (
  map-set_same object_in c.loop-at.objects.items c.loop-at.at c.reserve.new.self c.index_mut.result.now
      (c.reserve.ensures.object ∙ ap object_in c.index_mut.ensures.value) ∙ c.loop-at.invariant.0,
  c.loop-at.invariant.1,
  c.loop-at.invariant.2,
  λ n all.
      let before = c.loop-at.invariant.3 n all in
      let there : HasRoom n c.index_mut.result.now = subst (HasRoom n) (sym c.index_mut.ensures.value)
      (before c.loop-at.at c.index_mut.result.now (search rules)) in
      All-set (HasRoom n) c.loop-at.objects.items c.loop-at.at c.reserve.new.self (c.reserve.ensures.room n there)
      before,
  let n = c.args.channels in
      let within : c.loop-at.at < length c.loop-at.objects.items = search rules in
      subst (All (HasRoom n))
      (sym (take-set_at c.loop-at.objects.items c.loop-at.at (c.loop-at.at + 1) c.reserve.new.self refl within))
      (All-append (HasRoom n) (take c.loop-at.at c.loop-at.objects.items) (c.reserve.new.self ∷ [])
      c.loop-at.invariant.4
      (All-cons (HasRoom n) c.reserve.new.self [] c.in_ok-reserve.ensures.ok (All-nil (HasRoom n)))),
)

pub returns-clause-ok : goal.returns-clause-ok
returns-clause-ok c =
    let ends : c.loop-at.at ≡ length c.loop-at.objects.items = grind arith in
    subst (All (HasRoom c.args.channels))
    (ap (λ (i : ℕ). take i c.loop-at.objects.items) ends ∙ take-length c.loop-at.objects.items) c.loop-at.invariant.4
