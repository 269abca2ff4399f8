-- Behind a first name there are more, or nothing that goes on.
use Rattle.std.proofs.Common.{rules, ◌≡◌, ap, Err, sym, ◌∙◌}
use Rattle.nomos_script.specs.declared.stop.LineStop.TheVariants as stop
use Rattle.nomos_script.proofs.NamesLemmas.{names_tail}
use Rattle.nomos_script.proofs.arguments.read_names.Goals as goal

pub returns-in_err-read_more_names-in-Some-Word-clause-none :
    goal.returns-in_err-read_more_names-in-Some-Word-clause-none
returns-in_err-read_more_names-in-Some-Word-clause-none c = λ e names rest.
    let same : c.in_err-read_more_names-in-Some-Word.field-0.0 ≡ stop.NoForm = search rules in
    let there = c.takes_close.ensures.other c.if-takes_close.false in
    names_tail c.args.tokens.now c.next.new.self c.in-Some-Word.text.now
    (sym there ∙ rw c.in-Some-Word.field-0-is at c.in-Some-Word.ensures.next)
    (c.in_err-read_more_names-in-Some-Word.ensures.none (ap Err same)) names rest
