use Rattle.std.proofs.Common.{◌≡◌, ◌∙◌, ◌+◌, ◌-◌, ◌∷◌, ◌++◌, [], ℕ, List, Some, get_or, length, slice_get, ap, subst, sym, arith}
use Rattle.std.proofs.lemmas.Option.{slice_get-get_or}
use Rattle.nomos_ir.proofs.NodeLaws.{All-at}
use Rattle.nomos_ir.specs.Ids.{CodeInRange}
use Rattle.nomos_ir.specs.declared.code_node.CodeNode.{CodeNode}
use Rattle.nomos_ir.specs.declared.lists.ProgramLists.{ProgramLists}
use Rattle.nomos_places.proofs.NeedLemmas.{AreKnown, known-least, known-more, length-more}
use Rattle.nomos_places.specs.mirror.Needing.{spare_at}
use Rattle.nomos_places.proofs.spares.leasts_of.Goals as goal

pub spare_at-spare-requires : goal.spare_at-spare-requires
spare_at-spare-requires c =
    let a = c.args.accepted.now in
    let n : CodeNode = c.code-node.result.now in
    let there = subst (λ (l : ProgramLists). slice_get l.code c.loop-at.at ≡ Some n) c.program-program.ensures.program
    c.code-node.ensures in
    (All-at (CodeInRange a.program) a.program.code c.loop-at.at n
    c.program-program.ensures.accepted.is_program.ids.code there).calls

pub loop-at-preserved : goal.loop-at-preserved
loop-at-preserved c =
    let a = c.args.accepted.now in
    let potentials = c.args.potentials.now in
    let at = c.loop-at.at in
    let q : ℕ = get_or potentials at 0 in
    let n : CodeNode = c.code-node.result.now in
    let spares : List ℕ = c.loop-at.spares.items in
    let leasts : List ℕ = c.loop-at.leasts.items in
    let there = subst (λ (l : ProgramLists). slice_get l.code at ≡ Some n) c.program-program.ensures.program
    c.code-node.ensures in
    let spare_is : c.spare_at-spare.result ≡ spare_at a spares q n =
    c.spare_at-spare.ensures ∙ ap (λ (l : List ℕ). spare_at a l q n) c.as_slice.ensures.value in
    let spared : c.push.new.self.items ≡ spares ++ spare_at a spares q n ∷ [] =
    c.in_ok-push.ensures.items ∙ ap (λ (s : ℕ). spares ++ s ∷ []) spare_is in
    let needed : c.push-in-loop-at.new.self.items ≡ leasts ++ (q - spare_at a spares q n) ∷ [] =
    c.in_ok-push-2.ensures.items
    ∙ ap (λ (s : ℕ). leasts ++ s ∷ []) (c.saturating_sub.ensures ∙ ap (λ (s : ℕ). q - s) spare_is) in
    record {
      spares_long = length-more spares _ at c.loop-at.invariant.spares_long ∙ ap length (sym spared);
      leasts_long = length-more leasts _ at c.loop-at.invariant.leasts_long ∙ ap length (sym needed);
      known =
          subst (λ (l : List ℕ). AreKnown a (at + 1) l c.push-in-loop-at.new.self.items) (sym spared)
          (subst (λ (l : List ℕ). AreKnown a (at + 1) (spares ++ spare_at a spares q n ∷ []) l) (sym needed)
          (known-more c.program-program.ensures.accepted potentials spares leasts at q n c.requires.potentials
          (slice_get-get_or potentials at 0 c.loop-at-test.true) there c.loop-at.invariant.spares_long
          c.loop-at.invariant.leasts_long c.loop-at.invariant.known));
    }

pub returns : goal.returns
returns c = λ j stands.
    known-least c.program-program.ensures.accepted c.loop-at.at c.loop-at.spares.items c.loop-at.leasts.items
    (omega (arith, c.requires.each)) c.loop-at.invariant.known j stands
