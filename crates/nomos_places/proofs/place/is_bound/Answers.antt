use Rattle.std.proofs.Common.{Option, IsSome, Ok, Err, rules, refl, subst, sym}
use Rattle.std.proofs.lemmas.Fn.{always_returns_same}
use Rattle.nomos_check.proofs.PlaceLemmas.{place-bound, place-found, place-unbound}
use Rattle.nomos_ir.specs.declared.ids.TypeId.{TypeId}
use Rattle.nomos_ir.specs.declared.ids.VarId.{VarId}
use Rattle.nomos_places.proofs.place.is_bound.Goals as goal

pub returns-in-Ok : goal.returns-in-Ok
returns-in-Ok c =
    let v = c.args.v in
    let b = c.args.entries.now in
    let at = place-found v b (Ok c.in-Ok.field-0) c.requires c.in-Ok.ensures.bound
    (c.in-Ok.ensures.position (λ (e : VarId × TypeId). e.0.0) (always_returns_same _ _ _ (λ a r f k. search rules))) in
    let none : VarId × TypeId = (record { 0 = 0 }, record { 0 = 0 }) in
    (λ yes. subst (λ (o : Option TypeId). IsSome o) (place-bound v b c.in-Ok.field-0 none at) refl, λ some. refl)

pub returns-in-Err : goal.returns-in-Err
returns-in-Err c =
    let v = c.args.v in
    let b = c.args.entries.now in
    let sought = always_returns_same _ _ _ (λ a r f k. search rules) in
    let at = place-found v b (Err c.in-Err.field-0) c.requires c.in-Err.ensures.bound
    (c.in-Err.ensures.position (λ (e : VarId × TypeId). e.0.0) sought) in (
      λ yes. absurd cc,
      λ some.
          let nothing = subst (λ (o : Option TypeId). IsSome o) (sym (place-unbound v b c.in-Err.field-0 at)) some in
          absurd cc,
    )
