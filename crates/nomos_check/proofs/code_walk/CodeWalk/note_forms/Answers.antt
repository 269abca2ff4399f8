use Rattle.std.proofs.Common.{◌≡◌, ◌<◌, ◌∙◌, ◌++◌, ◌∷◌, [], List, length, Some, refl, ap, subst}
use Rattle.std.proofs.lemmas.List.Elements.{All-contains, Contains-push}
use Rattle.nomos_ir.proofs.NodeLaws.{All-at}
use Rattle.nomos_ir.specs.declared.code_node.CodeNode.{CodeNode}
use Rattle.nomos_ir.specs.declared.code_node.CodeNode.TheVariants as code
use Rattle.nomos_ir.specs.Amounts.{star_count}
use Rattle.nomos_ir.specs.Ids.{CodeInRange}
use Rattle.nomos_forms.specs.declared.form.Form.{Form}
use Rattle.nomos_types.specs.TypingRule.{StandsAtCode}
use Rattle.nomos_check.proofs.LimitLemmas.{room-at, proc-amount}
use Rattle.nomos_check.proofs.NoteLemmas.{plain-notes, call-notes}
use Rattle.nomos_check.specs.mirror.StandingData.{shape_of}
use Rattle.nomos_check.proofs.code_walk.CodeWalk.note_forms.Goals as goal

pub proc-requires : goal.proc-requires
proc-requires c =
    let lists = c.args.program.now in
    let program = c.requires.formed.program in
    let InRange : CodeNode → Type 0 = λ n. CodeInRange lists n in
    let node = All-at InRange lists.code c.args.now.now.code.0 c.code.result.now program.ids.code c.code.ensures in
    let f = c.in-Call.f in
    let here : CodeInRange lists (code.Call c.in-Call._at f c.in-Call._args) = subst InRange c.in-Call.is node in
    All-contains (λ k. k < length lists.procs) (f.0 ∷ []) f.0 here.calls (Contains-push [] f.0)

pub less-requires : goal.less-requires
less-requires c =
    let lists = c.args.program.now in
    let program = c.requires.formed.program in
    let d = c.proc.result.now in
    room-at program c.args.now.now d.amount c.requires.within (proc-amount program c.in-Call.f.0 d c.proc.ensures)

pub returns-in_ok-push-2-clause-notes : goal.returns-in_ok-push-2-clause-notes
returns-in_ok-push-2-clause-notes c =
    let lists = c.args.program.now in
    let s = c.args.now.now in
    let old : List Form = c.args.self.now.forms.items in
    let form = c.into_form-form.result in
    let is : form ≡ s.potential = c.into_form-form.ensures ∙ c.in_ok-copy.ensures in
    let left = c.in_ok-left.left in
    let stands : StandsAtCode lists (shape_of s) (code.Call c.in-Call._at c.in-Call.f c.in-Call._args) =
    c.code.ensures ∙ ap Some c.in-Call.is
    in
    let items : c.push-in-Call.new.self.items ≡ (old ++ form ∷ []) ++ left ∷ [] =
    c.in_ok-push-2.ensures.items ∙ ap (λ (l : List Form). l ++ left ∷ []) c.in_ok-push.ensures.items
    in
    record {
      asked = refl;
      stuck = refl;
      todo = refl;
      wanted = refl;
      places = refl;
      potentials = refl;
      forms =
          λ a has f.
          call-notes lists s (star_count lists) a has old form is c.in-Call._at c.in-Call.f c.in-Call._args stands
          c.proc.result.now c.proc.ensures left (c.in_ok-left.ensures (star_count lists) a has.potential)
          c.push-in-Call.new.self.items items f;
    }

pub returns-in_default-clause-notes : goal.returns-in_default-clause-notes
returns-in_default-clause-notes c =
    let lists = c.args.program.now in
    let s = c.args.now.now in
    let old : List Form = c.args.self.now.forms.items in
    let form = c.into_form-form.result in
    let is : form ≡ s.potential = c.into_form-form.ensures ∙ c.in_ok-copy.ensures in
    record {
      asked = refl;
      stuck = refl;
      todo = refl;
      wanted = refl;
      places = refl;
      potentials = refl;
      forms =
          λ a has f.
          plain-notes lists s (star_count lists) a has old form is
          (λ at p args stands.
          let there = c.code.ensures in
          let same : c.code.result.now ≡ code.Call at p args = cc in
          c.in_default.not-Call at p args same)
          c.push.new.self.items c.in_ok-push.ensures.items f;
    }
