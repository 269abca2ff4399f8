-- A label differs from those before it, and so it is put behind them.
use Rattle.std.proofs.Common.{◌≢◌, Bor, ℕ, List, ap, subst, sym, ◌∙◌}
use Rattle.std.specs.Prelude.{AllPairs}
use Rattle.nomos_ir.specs.declared.lists.ProgramLists.{ProgramLists}
use Rattle.nomos_visit.proofs.LabelLemmas.{label-put}
use Rattle.nomos_visit.proofs.label_texts.LabelTexts.of.Goals as goal

pub loop-label-preserved : goal.loop-label-preserved
loop-label-preserved c =
    let labels = c.as_slice-label-items.ensures ∙ ap (λ (p : ProgramLists). p.labels) c.lists.ensures.lists in
    let differ = subst (λ (ls : List (List ℕ)). AllPairs (λ k l. k ≢ l) ls) (sym labels)
    c.lists.ensures.program.spaces.labels in
    label-put (λ (n : Bor (List ℕ)). n.now) c.loop-label.texts.keys c.insert.new.self.keys c.as_bytes.result
    c.as_slice-label-items.result.now c.loop-label.label-index c.label-item.result differ c.loop-label-test.true
    c.loop-label.invariant c.as_bytes.ensures c.label-item.is c.in_ok-insert.ensures.keys
