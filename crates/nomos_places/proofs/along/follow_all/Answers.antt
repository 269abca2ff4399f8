use Rattle.std.proofs.Common.{◌≡◌, ◌<◌, ◌∙◌, ◌+◌, ◌++◌, ℕ, List, drop, take, All, Some, length, slice_get, ap, subst, sym, arith}
use Rattle.nomos_check.proofs.ConcludingLemmas.{declared-there}
use Rattle.nomos_check.specs.InHand.{ArePotentials, AreWanted}
use Rattle.nomos_check.specs.Reaching.{outset_of}
use Rattle.nomos_check.specs.declared.standing.Standing.{Standing}
use Rattle.nomos_forms.specs.Bounds.{IsForm}
use Rattle.nomos_forms.specs.declared.form.Form.{Form}
use Rattle.nomos_ir.specs.Amounts.{star_count}
use Rattle.nomos_ir.specs.declared.ids.CodeId.{CodeId}
use Rattle.nomos_ir.specs.declared.lists.ProgramLists.{ProgramLists}
use Rattle.nomos_places.proofs.AlongLemmas.{along-all, along-more, codes-inside, forms-small}
use Rattle.nomos_places.proofs.NotingLemmas.{length-noted, written-back}
use Rattle.nomos_places.proofs.PlaceLemmas.{found-few}
use Rattle.nomos_places.specs.mirror.AlongCode.{IsAlongBelow}
use Rattle.nomos_places.specs.mirror.Noting.{noted}
use Rattle.nomos_places.proofs.along.follow_all.Goals as goal

pub note_all-requires-clause-few : goal.note_all-requires-clause-few
note_all-requires-clause-few c = found-few c.program-program.ensures.accepted c.args.amounts.now c.requires.stars

pub note_all-requires-clause-codes : goal.note_all-requires-clause-codes
note_all-requires-clause-codes c =
    let a = c.args.accepted.now in
    let wanted = c.args.wanted.now in
    let p = c.loop-p.p in
    let procs = ap (λ (l : ProgramLists). length l.procs) (c.lists.ensures.lists ∙ c.program-program.ensures.program) in
    let inside : p < length a.program.procs = omega (arith, procs) in
    let (d, declared) = declared-there a.program.procs p inside in
    let forms : List (CodeId × Form) = c.in_ok-more.field-0.potentials in
    let there = subst (λ (l : ProgramLists). slice_get l.procs p ≡ Some d) (sym c.program-program.ensures.program)
    declared in
    let are = subst (λ (l : ProgramLists). ArePotentials l (star_count l) (outset_of l d) (length wanted) forms)
    c.program-program.ensures.program (c.in_ok-more.ensures.potentials d there) in
    let same : c.as_slice.result.now ≡ forms = cc c.as_slice.ensures in
    let width : length c.deref_mut.result.now ≡ length wanted =
    ap length c.deref_mut.ensures.value ∙ c.loop-p.invariant.width in
    subst (λ (l : List (CodeId × Form)). All (λ (e : CodeId × Form). e.0.0 < length c.deref_mut.result.now) l)
    (sym same)
    (codes-inside c.program-program.ensures.accepted c.args.amounts.now c.requires.stars c.requires.unit wanted
    c.requires.each p d declared forms (length c.deref_mut.result.now) are width)

pub note_all-requires-clause-forms : goal.note_all-requires-clause-forms
note_all-requires-clause-forms c =
    let a = c.args.accepted.now in
    let wanted = c.args.wanted.now in
    let p = c.loop-p.p in
    let procs = ap (λ (l : ProgramLists). length l.procs) (c.lists.ensures.lists ∙ c.program-program.ensures.program) in
    let inside : p < length a.program.procs = omega (arith, procs) in
    let (d, declared) = declared-there a.program.procs p inside in
    let forms : List (CodeId × Form) = c.in_ok-more.field-0.potentials in
    let there = subst (λ (l : ProgramLists). slice_get l.procs p ≡ Some d) (sym c.program-program.ensures.program)
    declared in
    let are = subst (λ (l : ProgramLists). ArePotentials l (star_count l) (outset_of l d) (length wanted) forms)
    c.program-program.ensures.program (c.in_ok-more.ensures.potentials d there) in
    let same : c.as_slice.result.now ≡ forms = cc c.as_slice.ensures in
    subst (λ (l : List (CodeId × Form)). All (λ (e : CodeId × Form). IsForm (length c.args.amounts.now.stars) e.1) l)
    (sym same)
    (forms-small c.program-program.ensures.accepted c.args.amounts.now c.requires.stars c.requires.unit wanted
    c.requires.each p d declared forms are)

pub loop-p-preserved : goal.loop-p-preserved
loop-p-preserved c =
    let a = c.args.accepted.now in
    let wanted = c.args.wanted.now in
    let amounts = c.args.amounts.now in
    let p = c.loop-p.p in
    let procs = ap (λ (l : ProgramLists). length l.procs) (c.lists.ensures.lists ∙ c.program-program.ensures.program) in
    let inside : p < length a.program.procs = omega (arith, procs) in
    let (d, declared) = declared-there a.program.procs p inside in
    let forms : List (CodeId × Form) = c.in_ok-more.field-0.potentials in
    let more : List Standing = c.in_ok-more.field-0.standings in
    let there = subst (λ (l : ProgramLists). slice_get l.procs p ≡ Some d) (sym c.program-program.ensures.program)
    declared in
    let are = subst (λ (l : ProgramLists). ArePotentials l (star_count l) (outset_of l d) (length wanted) forms)
    c.program-program.ensures.program (c.in_ok-more.ensures.potentials d there) in
    let in_hand = subst (λ (l : ProgramLists). AreWanted l (star_count l) (outset_of l d) wanted more)
    c.program-program.ensures.program (c.in_ok-more.ensures.standings d there) in
    let standings : List Standing = c.loop-p.standings.items in
    let old = c.loop-p.potentials.items in
    let same : c.as_slice.result.now ≡ forms = cc c.as_slice.ensures in
    let noted_is : c.note_all.new.potentials ≡ noted amounts forms old =
    c.note_all.ensures ∙ (λ k. noted amounts (same k) (c.deref_mut.ensures.value k)) in
    let long : length c.note_all.new.potentials ≡ length old =
    ap length noted_is ∙ length-noted amounts forms old in
    let back = written-back c.loop-p.potentials.len c.note_all.new.potentials old long (omega arith) in
    let added : c.append.new.self.items ≡ standings ++ more =
    c.in_ok-append.ensures.items
    ∙ ap (λ (l : List Standing). standings ++ l) (cc c.into_vec.ensures) in
    let new : List ℕ = c.note_all.new.potentials in
    subst (λ (l : List Standing). IsAlongBelow a wanted (p + 1) l
    (take c.loop-p.potentials.len (new ++ drop (length new) old))) (sym added)
    (subst (λ (l : List ℕ). IsAlongBelow a wanted (p + 1) (standings ++ more) l) (sym (back ∙ noted_is))
    (along-more c.program-program.ensures.accepted amounts c.requires.stars c.requires.unit wanted c.requires.each p d
    declared standings more old forms are in_hand c.loop-p.invariant))

pub returns : goal.returns
returns c =
    let a = c.args.accepted.now in
    let procs = ap (λ (l : ProgramLists). length l.procs) (c.lists.ensures.lists ∙ c.program-program.ensures.program) in
    along-all a c.args.wanted.now c.loop-p.p _ (omega (arith, procs)) c.loop-p.invariant
