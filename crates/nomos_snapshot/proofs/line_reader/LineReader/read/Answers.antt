-- The first word says the kind.
use Rattle.std.proofs.Common.{subst, sym, ◌∙◌}
use Rattle.nomos_ir.specs.Naming.{NamesAreShort}
use Rattle.nomos_ir.specs.declared.lists.ProgramLists.{ProgramLists}
use Rattle.nomos_snapshot.proofs.KindLemmas.{kind-reads, unnamed-none}
use Rattle.nomos_snapshot.proofs.line_reader.LineReader.read.Goals as goal

pub returns-in_default-kind_named : goal.returns-in_default-kind_named
returns-in_default-kind_named c =
    unnamed-none c.args.self.now c.args.text.now c.in-Some.first.now c.next_word.new.self
    (subst (λ (p : ProgramLists). NamesAreShort p) c.self.view_is c.know.ensures.program.names)
    (sym c.of-words.ensures ∙ c.in-Some.ensures) (sym c.kind_named.ensures ∙ c.in_default-kind_named.is)

pub returns : goal.returns
returns c =
    kind-reads c.args.self.now c.args.text.now c.in-Some.first.now c.next_word.new.self c.in-Some-kind_named.kind
    c.read_kind.result
    (subst (λ (p : ProgramLists). NamesAreShort p) c.self.view_is c.know.ensures.program.names)
    (sym c.of-words.ensures ∙ c.in-Some.ensures)
    (sym c.kind_named.ensures ∙ c.in-Some-kind_named.is) c.read_kind.ensures
