-- A mirror of the code: the reserved words that begin with a byte. No promise stands on it.
use Rattle.std.specs.Prelude.{ℕ, Bool, false, ◌==◌, List, [], ◌∷◌}
use Rattle.std.specs.List.{filter}
use Rattle.nomos_ir.specs.declared.word.Word.{Word}
use Rattle.nomos_ir.specs.Word.{text_of, all_words}

-- whether the bytes begin with this one
abbrev pub begins_with : ℕ → List ℕ → Bool
begins_with b [] = false
begins_with b (c ∷ bytes) = b == c

-- the reserved words that begin with the byte, in their order
unfoldable pub words_from : ℕ → List Word
words_from b = filter (λ w. begins_with b (text_of w)) all_words
