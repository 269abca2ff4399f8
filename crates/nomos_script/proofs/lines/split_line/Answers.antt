-- The first line ends with the text, or at a line feed.
use Rattle.std.proofs.Common.{◌+◌, ◌<◌, length, add-one, refl, arith}
use Rattle.std.specs.List.{prefix_len}
use Rattle.std.proofs.lemmas.List.{take_rest}
use Rattle.nomos_script.specs.Lines.{is_line_byte}
use Rattle.nomos_script.proofs.LineLemmas.{lines_of-nil, lines_of-last, lines_of-first}
use Rattle.nomos_script.proofs.lines.split_line.Goals as goal

pub returns-then-length-text-clause-lines : goal.returns-then-length-text-clause-lines
returns-then-length-text-clause-lines c =
    rw (lines_of-nil, lines_of-last c.args.text.now c.requires (omega (arith, c.line_length-length.ensures.value))) refl

pub returns-clause-lines : goal.returns-clause-lines
returns-clause-lines c =
    let room : prefix_len is_line_byte c.args.text.now
    < length c.args.text.now = omega (arith, c.line_length-length.ensures.value) in
    rw (
      take_rest c.args.text.now (c.line_length-length.result + 1),
      add-one,
      c.without_return.ensures,
      c.line_length-length.ensures.value,
    ) (lines_of-first c.args.text.now room)
