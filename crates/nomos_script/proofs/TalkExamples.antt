-- The lines of small talks: their tokens, and what they say.
use Rattle.std.proofs.Common.{◌≡◌, true, [], ◌∷◌, ◌++◌, codes, refl}
use Rattle.nomos_script.specs.declared.talk_line.TalkLine.TheVariants as said
use Rattle.nomos_script.specs.Lines.{lines_of}
use Rattle.nomos_script.specs.ScriptScan.{piece_at, tokens_from, tokens_of}
use Rattle.nomos_script.specs.TalkForm.{blank, label, value, pay, hear, print_talk_form}
use Rattle.nomos_script.specs.TalkReading.{LinesSay, none, line}
use Rattle.nomos_script.specs.ValueTree.{written_number, written_truth, written_list, no_trees, tree}

-- no word is reserved
pub label_line : tokens_of (codes "label label") ≡ print_talk_form (label (codes "label"))
unfolding tokens_from piece_at
label_line = refl

-- blanks and a comment stand between tokens and behind them
pub value_line : tokens_of (codes " value [ true,-7]//;")
    ≡ print_talk_form (value (written_list (tree (written_truth true)
    (tree (written_number true (codes "7")) no_trees))))
unfolding tokens_from piece_at
value_line = refl

pub comment_line : tokens_of (codes "// hear") ≡ print_talk_form blank
unfolding tokens_from piece_at
comment_line = refl

-- lines are counted from 1, and those that say nothing too
pub small_talk : LinesSay 1 (lines_of (codes "pay" ++ 13 ∷ 10 ∷ 10 ∷ codes "hear"))
    ((1, said.Pay) ∷ (3, said.Hear) ∷ [])
unfolding lines_of tokens_from piece_at
small_talk =
    line 1 (codes "pay") ([] ∷ codes "hear" ∷ []) pay ((3, said.Hear) ∷ []) _ (record { printed = refl; valid = tt })
    (line 2 [] (codes "hear" ∷ []) blank ((3, said.Hear) ∷ []) _ (record { printed = refl; valid = tt })
    (line 3 (codes "hear") [] hear [] _ (record { printed = refl; valid = tt }) (none 4) refl) refl) refl
