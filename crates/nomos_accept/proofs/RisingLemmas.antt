-- The tokens of a text have rising offsets, so at each offset one token stands at most.
use Rattle.std.proofs.Common.{◌≡◌, ◌≤◌, ℕ, zero, suc, List, [], ◌∷◌, ◌++◌, Option, Some, None, All, Contains, refl, ap, sym, subst, ◌∙◌, arith}
use Rattle.std.proofs.lemmas.List.Elements.{All-nil, All-cons, All-append, All-contains}
use Rattle.nomos_syntax.specs.Lexeme.{Lexeme, Placed}
use Rattle.nomos_syntax.specs.Scan.{piece_at, placed_at, tokens_from, tokens_of}

-- The tokens stand at an offset or behind it.
abbrev StandFrom : ℕ → List Placed → Type 0
StandFrom at tokens = All (λ token. at ≤ token.at) tokens

-- Each token stands behind those before it.
abbrev Rise : List Placed → Type 0
Rise [] = Unit {0}
Rise (token ∷ tokens) = StandFrom (suc token.at) tokens × Rise tokens

-- a token that stands at an offset or behind it
placed-from : (low at : ℕ) (lexeme : Option Lexeme) → low ≤ at → StandFrom low (placed_at at lexeme)
placed-from low at None above = All-nil (λ token. low ≤ token.at)
placed-from low at (Some lexeme) above =
    All-cons (λ token. low ≤ token.at) (record { at = at; lexeme = lexeme }) [] above
    (All-nil (λ token. low ≤ token.at))

-- the tokens from an offset on stand there or behind it
tokens-from : (low at inside : ℕ) (bytes : List ℕ) → low ≤ at → StandFrom low (tokens_from at inside bytes)
unfolding tokens_from
tokens-from low at inside [] above = All-nil (λ token. low ≤ token.at)
tokens-from low at (suc inside) (b ∷ bytes) above = tokens-from low (suc at) inside bytes (omega (arith, above))
tokens-from low at zero (b ∷ bytes) above =
    All-append (λ token. low ≤ token.at) (placed_at at (piece_at b bytes).lexeme)
    (tokens_from (suc at) (piece_at b bytes).more bytes)
    (placed-from low at (piece_at b bytes).lexeme above)
    (tokens-from low (suc at) (piece_at b bytes).more bytes (omega (arith, above)))

-- a token in front of those behind it
placed-rise : (at : ℕ) (lexeme : Option Lexeme) (tokens : List Placed) → StandFrom (suc at) tokens → Rise tokens
    → Rise (placed_at at lexeme ++ tokens)
placed-rise at None tokens behind rise = rise
placed-rise at (Some lexeme) tokens behind rise = (behind, rise)

-- the tokens from an offset on rise
from-rise : (at inside : ℕ) (bytes : List ℕ) → Rise (tokens_from at inside bytes)
unfolding tokens_from
from-rise at inside [] = tt
from-rise at (suc inside) (b ∷ bytes) = from-rise (suc at) inside bytes
from-rise at zero (b ∷ bytes) =
    placed-rise at (piece_at b bytes).lexeme (tokens_from (suc at) (piece_at b bytes).more bytes)
    (tokens-from (suc at) (suc at) (piece_at b bytes).more bytes (omega arith))
    (from-rise (suc at) (piece_at b bytes).more bytes)

-- the tokens of a text rise
pub tokens-rise : (text : List ℕ) → Rise (tokens_of text)
tokens-rise text = from-rise 0 0 text

-- a token behind others is one of them
behind-there : (before : List Placed) (token : Placed) (behind : List Placed)
    → Contains (before ++ token ∷ behind) token
behind-there [] token behind = (zero, omega arith, refl)
behind-there (first ∷ before) token behind =
    let there = behind-there before token behind in
    (suc there.0, omega (arith, there.1), there.2)

-- a token that stands behind another has a greater offset
behind-greater : (first other : Placed) (over behind after : List Placed) → StandFrom (suc first.at) behind
    → behind ≡ over ++ other ∷ after → suc first.at ≤ other.at
behind-greater first other over behind after stand same =
    All-contains (λ token. suc first.at ≤ token.at) behind other stand
    (subst (λ (tokens : List Placed). Contains tokens other) (sym same) (behind-there over other after))

-- two tokens of one offset, among tokens that rise, are one, with the same tokens behind it
rise-once : (before over : List Placed) (first other : Placed) (behind after : List Placed)
    → Rise (before ++ first ∷ behind) → before ++ first ∷ behind ≡ over ++ other ∷ after → first.at ≡ other.at
    → first ∷ behind ≡ other ∷ after
rise-once [] [] first other behind after rise same at = same
rise-once [] (token ∷ over) first other behind after rise same at =
    let rest : behind ≡ over ++ other ∷ after = cc in
    absurd (omega (arith, at, behind-greater first other over behind after rise.0 rest))
rise-once (token ∷ before) [] first other behind after rise same at =
    let is : token ≡ other = cc in
    let there : suc token.at ≤ first.at =
    behind-greater token first before (before ++ first ∷ behind) behind rise.0 refl in
    let one : token.at ≡ other.at = ap (λ (t : Placed). t.at) is in
    absurd (omega (arith, at, there, one))
rise-once (token ∷ before) (next ∷ over) first other behind after rise same at =
    let rest : before ++ first ∷ behind ≡ over ++ other ∷ after = cc in
    rise-once before over first other behind after rise.1 rest at

-- So from one offset on, a text has one list of tokens.
pub stands-once : (text : List ℕ) (before over : List Placed) (first other : Placed) (behind after : List Placed)
    → before ++ first ∷ behind ≡ tokens_of text → over ++ other ∷ after ≡ tokens_of text → first.at ≡ other.at
    → first ∷ behind ≡ other ∷ after
stands-once text before over first other behind after all whole at =
    rise-once before over first other behind after (subst Rise (sym all) (tokens-rise text)) (all ∙ sym whole) at
