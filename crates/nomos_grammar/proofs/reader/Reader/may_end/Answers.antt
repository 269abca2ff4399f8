-- The tokens read are a file just where nothing has to follow.
use Rattle.std.proofs.Common.{◌≡◌, ◌↔◌, IsTrue, None}
use Rattle.nomos_grammar.specs.mirror.Tallies.{counts_of}
use Rattle.nomos_grammar.proofs.EndLemmas.{ends_well, none_test}
use Rattle.nomos_grammar.proofs.reader.Reader.may_end.Goals as goal

pub returns : goal.returns
returns c = λ front behind.
    let asked = c.in_ok-asked.asked in
    let e : IsTrue c.is_none.result ↔ (asked ≡ None) = none_test asked c.is_none.result c.is_none.ensures in
    ends_well front c.args.self.now.parts c.next_terminal.new.parts (counts_of c.args.self.now.tally)
    (counts_of c.next_terminal.new.tally) asked c.is_none.result
    behind.read c.in_ok-asked.ensures.settles e
