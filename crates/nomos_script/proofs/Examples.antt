-- The lines, the tokens and the reading of small texts.
use Rattle.std.proofs.Common.{◌≡◌, pos, negsuc, true, [], ◌∷◌, ◌++◌, Some, None, codes, refl}
use Rattle.nomos_ir.specs.Value.{int, truth, list, value_list}
use Rattle.nomos_ir.specs.Weight.{weight}
use Rattle.nomos_script.specs.declared.item.ScriptItem.TheVariants as item
use Rattle.nomos_script.specs.Form.{Invocation, blank, deposit, create, exec, begin, end, show, print_form}
use Rattle.nomos_script.specs.Item.{start_at, batch_of, items_of}
use Rattle.nomos_script.specs.Lines.{lines_of}
use Rattle.nomos_script.specs.Paragraph.{single, several, forms_of}
use Rattle.nomos_script.specs.ScriptScan.{word, number, mark, piece_at, tokens_from, tokens_of}
use Rattle.nomos_script.specs.ValueTree.{ValueTree, written_number, written_truth, written_list, ValueTrees, no_trees, tree, value_at, nesting}

-- a line feed ends a line; a carriage return before it is dropped, and one at the very end stays
pub ends_of_lines : lines_of (codes "a" ++ 13 ∷ 10 ∷ 13 ∷ 13 ∷ 10 ∷ 10 ∷ codes "b" ++ 13 ∷ [])
    ≡ codes "a" ∷ (13 ∷ []) ∷ [] ∷ (codes "b" ++ 13 ∷ []) ∷ []
unfolding lines_of
ends_of_lines = refl

-- behind the last line feed there is no line
pub last_feed : lines_of (codes "a" ++ 10 ∷ []) ≡ codes "a" ∷ []
unfolding lines_of
last_feed = refl

-- an empty line counts
pub empty_lines : lines_of (10 ∷ 10 ∷ codes "a") ≡ [] ∷ [] ∷ codes "a" ∷ []
unfolding lines_of
empty_lines = refl

-- a comment may follow a token at once, and holds any bytes
pub comment_behind_number : tokens_of (codes "deposit u 007//" ++ 255 ∷ [])
    ≡ print_form (deposit (codes "u") (codes "007"))
unfolding tokens_from piece_at
comment_behind_number = refl

-- a transaction without arguments
abbrev bare : Invocation
bare = record { sender = codes "u"; proc = codes "t"; values = no_trees; names = [] }

pub transaction : tokens_of (9 ∷ codes "exec  u t ( ;)") ≡ print_form (exec bare)
unfolding tokens_from piece_at
transaction = refl

-- no word is reserved
pub no_reserved_word : tokens_of (codes "let let = new new begin(;)")
    ≡ print_form (create (codes "let")
    (record { sender = codes "new"; proc = codes "begin"; values = no_trees; names = [] }))
unfolding tokens_from piece_at
no_reserved_word = refl

-- the list [true,[],-7] and -0
abbrev some_values : ValueTrees
some_values =
    tree (written_list (tree (written_truth true) (tree (written_list no_trees)
    (tree (written_number true (codes "007")) no_trees))))
    (tree (written_number true (codes "0")) no_trees)

pub arguments : tokens_of (codes "exec u t([true, [],- 007],-0;a ,b)//;")
    ≡ print_form (exec (record bare { values = some_values; names = codes "a" ∷ codes "b" ∷ [] }))
unfolding tokens_from piece_at
arguments = refl

-- what a list is, its weight, and how deep it is
abbrev nested : ValueTree
nested = written_list (tree (written_truth true) (tree (written_list no_trees)
    (tree (written_number true (codes "007")) no_trees)))

pub list_written : value_at nested
    ≡ list (value_list (truth true ∷ list (value_list []) ∷ int (negsuc 6) ∷ []))
list_written = refl

pub list_weighs : weight (value_at nested) ≡ 3
list_weighs = refl

pub list_nests : nesting nested ≡ 2
list_nests = refl

pub minus_nought : value_at (written_number true (codes "0")) ≡ int (pos 0)
minus_nought = refl

pub comment_alone : tokens_of (codes " // deposit u 1") ≡ print_form blank
unfolding tokens_from piece_at
comment_alone = refl

-- a slash alone, a carriage return and a byte over 127 are tokens by themselves
pub marks : tokens_of (codes "/ a" ++ 13 ∷ 200 ∷ [])
    ≡ mark (codes "/") ∷ word (codes "a") ∷ mark (13 ∷ []) ∷ mark (200 ∷ []) ∷ []
unfolding tokens_from piece_at
marks = refl

-- a number ends where a letter stands, and a word goes on over digits
pub number_and_word : tokens_of (codes "1a a1") ≡ number (codes "1") ∷ word (codes "a") ∷ word (codes "a1") ∷ []
unfolding tokens_from piece_at
number_and_word = refl

-- lines are counted from 1, blank ones too
pub items_of_lines : items_of 1 (single (deposit (codes "u") (codes "007")) ∷ single blank ∷ single (exec bare) ∷ [])
    ≡ item.Deposit 1 (codes "u") 7 ∷ batch_of (start_at 3 None bare) ∷ []
items_of_lines = refl

-- a batch has the line of its `begin`, and each start its own
pub items_of_batch :
    items_of 1
    (single show ∷ several (exec bare ∷ blank ∷ create (codes "c") bare ∷ []) ∷ several [] ∷ single show ∷ [])
    ≡ item.Show 1
    ∷ item.Batch (record { line = 2; starts = start_at 3 None bare ∷ start_at 5 (Some (codes "c")) bare ∷ [] })
    ∷ item.Batch (record { line = 7; starts = [] }) ∷ item.Show 9 ∷ []
items_of_batch = refl

pub lines_of_batch : forms_of (several (exec bare ∷ []) ∷ single show ∷ []) ≡ begin ∷ exec bare ∷ end ∷ show ∷ []
lines_of_batch = refl
