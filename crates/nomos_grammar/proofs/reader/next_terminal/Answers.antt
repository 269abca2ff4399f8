-- A mark is counted, or a production replaced, and fewer steps are left.
use Rattle.std.proofs.Common.{◌≡◌, ℕ, ◌<◌, List, [], ◌∷◌, ◌++◌, sym, ap, subst, ◌∙◌}
use Rattle.nomos_grammar.specs.declared.part.Part.{Part}
use Rattle.nomos_grammar.specs.declared.part.Part.TheVariants as part
use Rattle.nomos_grammar.specs.CountedPlaces.{Counts}
use Rattle.nomos_grammar.specs.mirror.Table.{chosen}
use Rattle.nomos_grammar.specs.mirror.ReaderStates.{Leads}
use Rattle.nomos_grammar.specs.mirror.Tallies.{counts_of}
use Rattle.nomos_grammar.proofs.GrammarLaws.{chosen_among}
use Rattle.nomos_grammar.proofs.DistanceLemmas.{steps_left, fewer_replaced}
use Rattle.nomos_grammar.proofs.ReadingLemmas.{leads_mark, leads_side}
use Rattle.nomos_grammar.proofs.reader.next_terminal.Goals as goal

pub loop-part-preserved-in-Continue-1 : goal.loop-part-preserved-in-Continue-1
loop-part-preserved-in-Continue-1 c =
    let m = c.in-Mark.mark in
    let rest = c.pop.new.self in
    let marks = c.loop-part.invariant.marks in
    let from = counts_of c.args.tally.now in
    let was : c.loop-part.parts ≡ part.Mark m ∷ rest = c.in-Some.ensures ∙ ap (λ (p : Part). p ∷ rest) c.in-Mark.is in
    let way = leads_mark c.args.next c.args.parts.now from marks m rest (counts_of c.loop-part.tally)
    (subst (λ (parts : List Part). Leads c.args.next c.args.parts.now from marks parts (counts_of c.loop-part.tally))
    was c.loop-part.invariant.leads) in
    record {
      marks = marks ++ m ∷ [];
      leads =
          subst (λ (k : Counts). Leads c.args.next c.args.parts.now from (marks ++ m ∷ []) rest k)
          (sym c.in_ok-add-in-Mark.ensures.counted) way;
      kept = c.in_ok-add-in-Mark.ensures.kept;
    }

pub loop-part-smaller : goal.loop-part-smaller
loop-part-smaller c =
    let n = c.in-Nonterminal.n in
    let rest = c.pop.new.self in
    let was : c.loop-part.parts ≡ part.Nonterminal n ∷ rest = c.in-Some.ensures
    ∙ ap (λ (p : Part). p ∷ rest) c.in-Nonterminal.is in
    let now : c.push_parts.new.stack ≡ chosen n c.args.next ++ rest = c.in_ok-push_parts-in-Nonterminal.ensures
    ∙ ap (λ (side : List Part). side ++ rest) c.side_of.ensures in
    let less = fewer_replaced n (chosen n c.args.next) rest (chosen_among n c.args.next) in
    subst (λ (k : ℕ). k < steps_left c.loop-part.parts) (ap steps_left (sym now))
    (subst (λ (k : ℕ). steps_left (chosen n c.args.next ++ rest) < k) (ap steps_left (sym was)) less)

pub loop-part-preserved : goal.loop-part-preserved
loop-part-preserved c =
    let n = c.in-Nonterminal.n in
    let rest = c.pop.new.self in
    let marks = c.loop-part.invariant.marks in
    let from = counts_of c.args.tally.now in
    let d = counts_of c.loop-part.tally in
    let was : c.loop-part.parts ≡ part.Nonterminal n ∷ rest = c.in-Some.ensures
    ∙ ap (λ (p : Part). p ∷ rest) c.in-Nonterminal.is in
    let now : c.push_parts.new.stack ≡ chosen n c.args.next ++ rest = c.in_ok-push_parts-in-Nonterminal.ensures
    ∙ ap (λ (side : List Part). side ++ rest) c.side_of.ensures in
    let way = leads_side c.args.next c.args.parts.now from marks n rest d
    (subst (λ (parts : List Part). Leads c.args.next c.args.parts.now from marks parts d) was
    c.loop-part.invariant.leads) in
    record {
      marks = marks;
      leads = subst (λ (parts : List Part). Leads c.args.next c.args.parts.now from marks parts d) (sym now) way;
      kept = c.loop-part.invariant.kept;
    }
