use Rattle.std.proofs.Common.{[], length, sym, ◌∙◌}
use Rattle.nomos_surface.specs.CodeView.{arm_tree, last_tree}
use Rattle.nomos_reader.specs.mirror.Codes.{code_of_tokens, read_arm, read_code}
use Rattle.nomos_reader.specs.mirror.Front.{is_bar, read_parted}
use Rattle.nomos_reader.proofs.PartedLemmas.{last_item, next_item, no_item}
use Rattle.nomos_reader.proofs.StepLemmas.{last_step, next_step, no_step}
use Rattle.nomos_reader.proofs.code_reader.+reading_codes.Goals as goal

pub read_arms-returns-then-not-at_bar : goal.read_arms-returns-then-not-at_bar
read_arms-returns-then-not-at_bar t c =
    last_item arm_tree (read_arm (read_code c.args.room)) is_bar c.len-end.result c.loop.counter c.loop.arms.items
    c.loop.tokens
    (read_parted (read_arm (read_code c.args.room)) is_bar (length c.args.tokens.now) [] c.args.tokens.now)
    c.in_ok-read_arm.field-0 c.read_arm.new.tokens c.push.new.self.items c.loop-test.true c.in_ok-read_arm.ensures
    (sym c.at_bar.ensures ∙ c.if-not-at_bar.true) c.in_ok-push.ensures.items c.loop.invariant

pub read_arms-loop-preserved : goal.read_arms-loop-preserved
read_arms-loop-preserved t c =
    next_item arm_tree (read_arm (read_code c.args.room)) is_bar c.len-end.result c.loop.counter c.loop.arms.items
    c.loop.tokens
    (read_parted (read_arm (read_code c.args.room)) is_bar (length c.args.tokens.now) [] c.args.tokens.now)
    c.in_ok-read_arm.field-0 c.read_arm.new.tokens c.push.new.self.items c.skip.new.self c.loop-test.true
    c.in_ok-read_arm.ensures
    (sym c.at_bar.ensures ∙ c.if-not-at_bar.false) c.in_ok-push.ensures.items c.skip.ensures.rest c.loop.invariant

pub read_arms-returns : goal.read_arms-returns
read_arms-returns t c =
    no_item arm_tree (read_arm (read_code c.args.room)) is_bar c.len-end.result c.loop.counter c.loop.arms.items
    c.loop.tokens
    (read_parted (read_arm (read_code c.args.room)) is_bar (length c.args.tokens.now) [] c.args.tokens.now)
    c.loop-test.false c.loop.invariant

pub read_open_code-returns-then-at_last : goal.read_open_code-returns-then-at_last
read_open_code-returns-then-at_last t c =
    rw c.code_of.ensures
    (last_step (read_code c.args.room) c.len-end.result c.loop.counter c.loop.steps.items c.loop.tokens
    (code_of_tokens (read_code c.args.room) c.args.tokens.now)
    (last_tree c.in_ok-last.last) c.read_last.new.tokens c.loop-test.true (sym c.at_last.ensures ∙ c.if-at_last.true)
    c.in_ok-last.ensures c.loop.invariant)

pub read_open_code-loop-preserved : goal.read_open_code-loop-preserved
read_open_code-loop-preserved t c =
    next_step (read_code c.args.room) c.len-end.result c.loop.counter c.loop.steps.items c.loop.tokens
    (code_of_tokens (read_code c.args.room) c.args.tokens.now)
    c.in_ok-read_step.field-0 c.read_step.new.tokens c.skip.new.self c.push.new.self.items c.loop-test.true
    (sym c.at_last.ensures ∙ c.if-at_last.false)
    c.in_ok-read_step.ensures c.in_ok-push.ensures.items c.skip.ensures.rest c.loop.invariant

pub read_open_code-returns : goal.read_open_code-returns
read_open_code-returns t c =
    rw c.code_of-2.ensures
    (no_step (read_code c.args.room) c.len-end.result c.loop.counter c.loop.steps.items c.loop.tokens
    (code_of_tokens (read_code c.args.room) c.args.tokens.now)
    (last_tree c.read_close-last.result) c.read_close-last.new.tokens c.loop-test.false c.read_close-last.ensures
    c.loop.invariant)
