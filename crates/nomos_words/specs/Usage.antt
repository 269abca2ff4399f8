-- The line that says which words there are.
use Rattle.std.specs.Prelude.{ℕ, List, ◌++◌, codes}

-- with its line feed
unfoldable pub usage_line : List ℕ
usage_line =
    codes "usage: nomos check FILE | run FILE SCRIPT [--workers N] [--policy first|round] [--steps N] [--journal FILE]"
    ++ codes " | replay FILE SCRIPT JOURNAL | bench SEED BIDDERS | least FILE | pool FILE SCRIPT THREADS"
    ++ codes " | talk FILE SCRIPT NAME PROC TALK | save FILE SCRIPT SNAP | resume FILE SNAP SCRIPT\n"
