use Rattle.std.proofs.Common.{[], length, sym, ◌∙◌}
use Rattle.nomos_reader.specs.mirror.Files.{read_decls}
use Rattle.nomos_reader.proofs.StepLemmas.{next_decl, no_decl, no_decl_turn}
use Rattle.nomos_reader.proofs.decl_reader.read_decls.Goals as goal

pub returns-then-is_empty : goal.returns-then-is_empty
returns-then-is_empty c =
    no_decl c.len-end.result c.loop.counter c.loop.decls.items c.loop.tokens
    (read_decls (length c.args.tokens.now) [] c.args.tokens.now)
    (sym c.is_empty.ensures ∙ c.if-is_empty.true) c.loop.invariant

pub loop-preserved : goal.loop-preserved
loop-preserved c =
    next_decl c.len-end.result c.loop.counter c.loop.decls.items c.loop.tokens
    (read_decls (length c.args.tokens.now) [] c.args.tokens.now)
    c.in_ok-read_decl.field-0 c.read_decl.new.tokens c.push.new.self.items c.loop-test.true
    (sym c.is_empty.ensures ∙ c.if-is_empty.false)
    c.in_ok-read_decl.ensures c.in_ok-push.ensures.items c.loop.invariant

pub returns : goal.returns
returns c =
    no_decl_turn c.len-end.result c.loop.counter c.loop.decls.items c.loop.tokens
    (read_decls (length c.args.tokens.now) [] c.args.tokens.now)
    c.loop-test.false c.loop.invariant
