-- What the tokens of a text are: the longest that may begin at their places, with only blanks and comments between.
use Rattle.std.proofs.Common.{◌≡◌, ℕ, ◌<◌, List, ◌∷◌, ◌++◌, length, get_or, drop, map, All, inl, inr, arith, refl, sym, subst}
use Rattle.std.proofs.lemmas.List.{get_or-map, length-map}
use Rattle.nomos_syntax.specs.declared.symbol.Symbol.TheVariants as sym
use Rattle.nomos_syntax.specs.declared.token.Token.{Token}
use Rattle.nomos_syntax.specs.Apart.{ComesApart}
use Rattle.nomos_syntax.specs.Lexeme.{Lexeme, symbol, bad, Placed}
use Rattle.nomos_syntax.specs.Longest.{IsToken, EndsWord, IsLongest, IsBadByte, IsTaken, IsTakenAt, IsTakenIn}
use Rattle.nomos_syntax.specs.Scan.{tokens_of}
use Rattle.nomos_syntax.specs.Spans.{placed_of, StandFor}
use Rattle.nomos_syntax.specs.Spelling.{spelling}
use Rattle.nomos_syntax.proofs.ApartLemmas.{apart_from, apart_once, apart_taken}
use Rattle.nomos_syntax.proofs.BeginningLemmas.{begins_plainly}
use Rattle.nomos_syntax.proofs.LongerLemmas.{begins_apart, none_longer, minus_alone}

-- Longest: each token of a text is the longest with which the rest of the text from its offset on may begin, and no
-- comment begins there. A bad byte stands where none is spelled.
pub tokens_are_longest : (text : List ℕ) → All (IsTakenAt text) (tokens_of text)
tokens_are_longest text = apart_taken (apart_from (length text) 0 text (omega arith)) text refl

-- The one exception: where the bytes of a longer token stand, that token is `-o`, a letter, a digit or `_` comes behind
-- it, and what is taken is `-`.
pub longer_is_lollipop : (bytes : List ℕ) (lexeme : Lexeme) → IsLongest bytes lexeme →
    (other : Lexeme) (behind : List ℕ) → IsToken other → spelling other ++ behind ≡ bytes →
    length (spelling lexeme) < length (spelling other) →
    (other ≡ symbol sym.Lollipop) × (lexeme ≡ symbol sym.Minus) × ¬ EndsWord behind
longer_is_lollipop bytes lexeme longest other behind is split longer =
    elim (begins_plainly other behind bytes is split) [
      | inl begins ↦ absurd (none_longer bytes lexeme other longest longer begins)
      | inr same ↦
          let here : 45 ∷ 111 ∷ behind ≡ bytes = rw same at split in
          let short : length (spelling lexeme) < 2 = rw same at longer in
          let begins = begins_apart other behind bytes is split in
          let apart : ¬ EndsWord behind = λ ends. none_longer bytes lexeme other longest longer (begins ends) in
          (same, minus_alone bytes behind lexeme longest.begins here short, apart)
    ]

-- Bad bytes: where a text has one, no front of the rest spells a token, `-o` included, and no blank stands.
pub bad_bytes_spell_none : (text : List ℕ) →
    All (λ placed. (byte : ℕ) → placed.lexeme ≡ bad byte → IsBadByte (drop placed.at text) byte) (tokens_of text)
bad_bytes_spell_none text k d below byte is =
    subst (IsTaken (drop (get_or (tokens_of text) k d).at text)) is (tokens_are_longest text k d below)

-- Between: a text comes apart into its tokens, and into blanks and whole comments before, between and behind them.
pub text_comes_apart : (text : List ℕ) → ComesApart 0 text (tokens_of text)
text_comes_apart text = apart_from (length text) 0 text (omega arith)

-- The only ones: a text comes apart into no other tokens. So the two laws fix the tokens of every text.
pub text_comes_apart_once : (text : List ℕ) (tokens : List Placed) → ComesApart 0 text tokens → tokens ≡ tokens_of text
text_comes_apart_once text tokens apart = apart_once apart

-- The same of tokens with their spans, as `tokens` gives them: each is taken at its place,
pub stand_longest : (text : List ℕ) (tokens : List Token) → StandFor text tokens (tokens_of text) →
    All (IsTakenIn text) tokens
stand_longest text tokens stand k d below =
    let placed = placed_of text in
    let all : All (IsTakenAt text) (map placed tokens) = rw stand.same (tokens_are_longest text) in
    let inside : k < length (map placed tokens) = omega (arith, below, length-map tokens placed) in
    rw (get_or-map placed tokens k d (placed d) below) at (all k (placed d) inside)

-- and the text comes apart into them.
pub stand_apart : (text : List ℕ) (tokens : List Token) → StandFor text tokens (tokens_of text) →
    ComesApart 0 text (map (placed_of text) tokens)
stand_apart text tokens stand =
    subst (λ (placed : List Placed). ComesApart 0 text placed) (sym stand.same) (text_comes_apart text)
