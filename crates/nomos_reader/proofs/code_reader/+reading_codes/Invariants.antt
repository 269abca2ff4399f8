use Rattle.std.proofs.Common.{◌≡◌, ◌+◌, ◌-◌, ◌*◌, [], length, map}
use Rattle.nomos_surface.specs.CodeView.{arm_tree}
use Rattle.nomos_reader.specs.mirror.Codes.{code_of_tokens, read_arm, read_code, read_steps}
use Rattle.nomos_reader.specs.mirror.Front.{is_bar, read_parted}
use Rattle.nomos_surface.specs.StepView.{step_tree}
use Rattle.nomos_reader.proofs.code_reader.+reading_codes.Given as goal

abbrev pub decreases-read_code : goal.decreases-read_code
decreases-read_code l = 6 * l.room + 0

abbrev pub decreases-read_open_code : goal.decreases-read_open_code
decreases-read_open_code l = 6 * l.room + 5

abbrev pub decreases-read_last : goal.decreases-read_last
decreases-read_last l = 6 * l.room + 4

abbrev pub decreases-read_code_if : goal.decreases-read_code_if
decreases-read_code_if l = 6 * l.room + 2

abbrev pub decreases-read_braced : goal.decreases-read_braced
decreases-read_braced l = 6 * l.room + 1

abbrev pub decreases-read_case : goal.decreases-read_case
decreases-read_case l = 6 * l.room + 3

abbrev pub decreases-read_arms : goal.decreases-read_arms
decreases-read_arms l = 6 * l.room + 2

abbrev pub decreases-read_arm : goal.decreases-read_arm
decreases-read_arm l = 6 * l.room + 1

abbrev pub decreases-read_code_match : goal.decreases-read_code_match
decreases-read_code_match l = 6 * l.room + 1

-- the steps that are left, behind those that were read, make the whole
abbrev pub invariant-read_open_code-loop : goal.invariant-read_open_code-loop
invariant-read_open_code-loop l =
    read_steps (read_code l.room) (l.end - l.counter) (map step_tree l.steps.items) l.tokens
    ≡ code_of_tokens (read_code l.room) l.fn.tokens

-- the arms that are left, behind those that were read, are all of them
abbrev pub invariant-read_arms-loop : goal.invariant-read_arms-loop
invariant-read_arms-loop l =
    read_parted (read_arm (read_code l.room)) is_bar (l.end - l.counter) (map arm_tree l.arms.items) l.tokens
    ≡ read_parted (read_arm (read_code l.room)) is_bar (length l.fn.tokens) [] l.fn.tokens
