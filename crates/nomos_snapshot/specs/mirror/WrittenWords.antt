-- A mirror: the words that the code writes.
use Rattle.std.specs.Prelude.{ℕ, List, decimal}
use Rattle.nomos_ir.specs.Value.{list, value_list}
use Rattle.nomos_printing.specs.ValueTexts.{value_text}
use Rattle.nomos_snapshot.specs.Line.{name_word}
use Rattle.nomos_snapshot.specs.declared.line_writing.LineWord.{LineWord}
use Rattle.nomos_snapshot.specs.declared.line_writing.LineWord.TheVariants as word

abbrev pub word_text : LineWord → List ℕ
word_text (word.Text bytes) = bytes.now
word_text (word.Number n) = decimal n
word_text (word.Name name) = name_word name
word_text (word.Gas dths) = decimal dths
word_text (word.Value v) = value_text v.now
word_text (word.List items) = value_text (list (value_list items.now))
