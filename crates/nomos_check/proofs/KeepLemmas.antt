-- What is in hand is kept, then the potential, and then the forms there are noted.
use Rattle.std.proofs.Common.{◌≡◌, ◌<◌, ◌∙◌, ◌⊎◌, ◌↔◌, List, Bool, Contains, length, ap, sym, subst}
use Rattle.nomos_ir.specs.declared.lists.ProgramLists.{ProgramLists}
use Rattle.nomos_ir.specs.Amounts.{star_count}
use Rattle.nomos_forms.specs.declared.form.Form.{Form}
use Rattle.nomos_check.specs.declared.standing.Standing.{Standing}
use Rattle.nomos_check.specs.declared.code_walk.CodeWalk.{CodeWalk}
use Rattle.nomos_check.specs.mirror.StandingData.{shape_of}
use Rattle.nomos_check.specs.mirror.Walking.{TakesPlace, TakesPotential, Notes, NotesForms, IsFormAt}

module _ {lists : ProgramLists} {s : Standing} {old kept noted new : CodeWalk}
    (placed : kept ≡ record old { places = kept.places }) (place : TakesPlace s old kept)
    (added : noted ≡ record kept { potentials = noted.potentials }) (potential : TakesPotential s kept noted)
    (forms : NotesForms lists s noted new) where
  same-wanted : noted.wanted.now ≡ old.wanted.now
  same-wanted = ap (λ (w : CodeWalk). w.wanted.now) added ∙ ap (λ (w : CodeWalk). w.wanted.now) placed

  places-taken : TakesPlace s old new
  places-taken =
      let same : new.places ≡ kept.places = forms.places ∙ ap (λ (w : CodeWalk). w.places) added in
      record {
        kept = λ t among. subst (λ p. Contains p.items t) (sym same) (place.kept t among);
        one = λ t among. place.one t (subst (λ p. Contains p.items t) same among);
        here = λ wanted. subst (λ p. Contains p.items s) (sym same) (place.here wanted);
      }

  potentials-taken : TakesPotential s old new
  potentials-taken =
      let before : kept.potentials ≡ old.potentials = ap (λ (w : CodeWalk). w.potentials) placed in
      let wanted : kept.wanted.now ≡ old.wanted.now = ap (λ (w : CodeWalk). w.wanted.now) placed in
      record {
        kept =
            λ e among. subst (λ p. Contains p.items e) (sym forms.potentials)
            (potential.kept e (subst (λ p. Contains p.items e) (sym before) among));
        one =
            λ e among. subst (λ p. Contains p.items e ⊎ (e ≡ (s.code, s.potential))) before
            (potential.one e (subst (λ p. Contains p.items e) forms.potentials among));
        here =
            λ below. subst (λ p. Contains p.items (s.code, s.potential)) (sym forms.potentials)
            (potential.here (subst (λ (w : List Bool). s.code.0 < length w) (sym wanted) below));
      }

  pub notes-all : Notes lists s old new
  notes-all = record {
    takes = record {
      wanted = forms.wanted ∙ same-wanted;
      place = places-taken;
      potential = potentials-taken;
    };
    asked = forms.asked ∙ ap (λ (w : CodeWalk). w.asked) added ∙ ap (λ (w : CodeWalk). w.asked) placed;
    stuck = forms.stuck ∙ ap (λ (w : CodeWalk). w.stuck) added ∙ ap (λ (w : CodeWalk). w.stuck) placed;
    todo = forms.todo ∙ ap (λ (w : CodeWalk). w.todo) added ∙ ap (λ (w : CodeWalk). w.todo) placed;
    forms =
        λ a has f.
        subst
        (λ (l : List Form). Contains new.forms.items f
        ↔ (Contains l f ⊎ IsFormAt lists (star_count lists) (shape_of s) a f))
        (ap (λ (w : CodeWalk). w.forms.items) added ∙ ap (λ (w : CodeWalk). w.forms.items) placed)
        (forms.forms a has f);
  }
