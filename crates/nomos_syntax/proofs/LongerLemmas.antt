-- Which tokens are spelled by more of the bytes than the longest with which these may begin.
use Rattle.std.proofs.Common.{◌≡◌, ℕ, ◌<◌, List, [], ◌∷◌, ◌++◌, length, arith, ap, sym, ◌∙◌}
use Rattle.nomos_syntax.specs.declared.symbol.Symbol.TheVariants as sym
use Rattle.nomos_syntax.specs.Lexeme.{Lexeme, symbol}
use Rattle.nomos_syntax.specs.Longest.{IsToken, EndsWord, MayBegin, IsLongest}
use Rattle.nomos_syntax.specs.Spelling.{spelling}
use Rattle.nomos_syntax.proofs.BeginningLemmas.{same_token, token_some}
use Rattle.nomos_syntax.proofs.TakenLemmas.{same_front}

-- any token may begin where no word goes on behind it
pub begins_apart : (other : Lexeme) (behind bytes : List ℕ) → IsToken other → spelling other ++ behind ≡ bytes →
    EndsWord behind → MayBegin bytes other
begins_apart other behind bytes is split ends =
    record { token = is; behind = behind; split = split; apart = λ lollipop. ends }

-- none that may begin is longer than the longest
pub none_longer : (bytes : List ℕ) (lexeme other : Lexeme) → IsLongest bytes lexeme →
    length (spelling lexeme) < length (spelling other) → ¬ MayBegin bytes other
none_longer bytes lexeme other longest longer begins =
    let less = longest.shorter other begins (λ same. omega (arith, longer, ap (λ l. length (spelling l)) same)) in
    omega (arith, longer, less)

-- `-` is taken where `-o` stands and may not begin
pub minus_alone : (bytes behind : List ℕ) (lexeme : Lexeme) → MayBegin bytes lexeme → 45 ∷ 111 ∷ behind ≡ bytes →
    length (spelling lexeme) < 2 → lexeme ≡ symbol sym.Minus
minus_alone bytes behind lexeme m split short =
    let some = token_some lexeme m.token in
    let minus : List ℕ = 45 ∷ [] in
    let one : length (spelling lexeme) ≡ length minus = omega (arith, some, short) in
    let alone = same_front (spelling lexeme) minus m.behind (111 ∷ behind) (m.split ∙ sym split) one in
    same_token lexeme (symbol sym.Minus) m.token tt alone
