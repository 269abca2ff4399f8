use Rattle.std.proofs.Common.{◌∙◌, ℕ, [], ◌∷◌, ap}
use Rattle.nomos_journal.specs.Text.{lines_text}
use Rattle.nomos_journal.specs.declared.line.JournalLine.TheVariants as line
use Rattle.nomos_walk.proofs.PaperLemmas.{still-written}
use Rattle.nomos_walk.specs.Papers.{with_lines}
use Rattle.nomos_walk.proofs.papers.Papers.still.Goals as goal

pub returns : goal.returns
returns c = λ i before after none.
    let text =
    c.in_ok-still_on_text.ensures
    ∙ ap
    (λ (unit : ℕ). with_lines c.args.self.now.text
    (lines_text unit (line.Line c.args.line ∷ line.End c.args.end.now ∷ []))) c.unit.ensures
    in
    still-written c.args.accepted.now i c.args.line c.args.end.now before after c.args.self.now
    (record {
      report = c.still_on_report.new.sheet;
      text = c.still_on_text.new.sheet;
      result = c.clear.new.self;
    })
    c.requires none
    c.in_ok-still_on_report.ensures text c.clear.ensures
