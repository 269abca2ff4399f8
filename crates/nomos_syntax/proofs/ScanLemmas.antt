-- The tokens of a text, piece by piece.
use Rattle.std.proofs.Common.{◌≡◌, ℕ, zero, suc, ◌+◌, ◌-◌, ◌<◌, ◌≤◌, List, [], ◌∷◌, ◌++◌, length, take, drop, map, Some, None, All, AllPairs, refl, sym, ◌∙◌, ap, append_assoc, add-zero, arith}
use Rattle.std.proofs.lemmas.List.{map-append, append-nil, drop-drop, drop_all, length-drop}
use Rattle.std.proofs.lemmas.List.Elements.{All-push}
use Rattle.std.proofs.lemmas.List.Quantifiers.{all_pairs_push}
use Rattle.nomos_syntax.specs.declared.pieces.Piece.{Piece as Found}
use Rattle.nomos_syntax.specs.declared.token.Token.{Token}
use Rattle.nomos_syntax.specs.declared.token.TokenKind.{TokenKind}
use Rattle.nomos_syntax.specs.Scan.{piece_at, placed_at, tokens_from, tokens_of}
use Rattle.nomos_syntax.specs.Spans.{lexeme_of, IsSpelled, StandsBefore, placed_of, LiesIn, StandFor}
use Rattle.nomos_syntax.specs.Spelling.{spelling}
use Rattle.nomos_syntax.proofs.SpellingLemmas.{first_piece_spelled}
use Rattle.nomos_syntax.specs.Found.{Finds, first_piece}

-- inside a piece stands no token
pub tokens_from-inside : (at n : ℕ) (bytes : List ℕ) → tokens_from at n bytes ≡ tokens_from (at + n) 0 (drop n bytes)
unfolding tokens_from
tokens_from-inside at zero bytes = rw add-zero refl
tokens_from-inside at (suc n) [] = refl
tokens_from-inside at (suc n) (b ∷ bytes) =
    let shifted : suc at + n ≡ at + suc n = omega arith in rw (← shifted) (tokens_from-inside (suc at) n bytes)

-- the tokens of bytes are the one that begins there, if one does, and those behind its piece
pub tokens_from-piece : (at : ℕ) (bytes : List ℕ) → 0 < length bytes
    → tokens_from at 0 bytes ≡ placed_at at (first_piece bytes).lexeme
    ++ tokens_from (at + suc (first_piece bytes).more) 0 (drop (suc (first_piece bytes).more) bytes)
unfolding tokens_from
tokens_from-piece at [] h = absurd (omega (arith, h))
tokens_from-piece at (b ∷ bytes) h =
    let more = (piece_at b bytes).more in
    let shifted : suc at + more ≡ at + suc more = omega arith in
    rw (← shifted) (ap (λ tokens. placed_at at (piece_at b bytes).lexeme ++ tokens)
    (tokens_from-inside (suc at) more bytes))

-- the tokens so far stand for the text up to an offset
pub record Scanned (text : List ℕ) (tokens : List Token) (at : ℕ) : Type 0 where
  pub within : at ≤ length text
  pub before : All (λ token. token.to ≤ at) tokens
  pub inside : All (LiesIn text) tokens
  pub spelled : All (IsSpelled text) tokens
  pub in_order : AllPairs StandsBefore tokens
  pub same : map (placed_of text) tokens ++ tokens_from at 0 (drop at text) ≡ tokens_of text

-- at the end of the text the tokens are its tokens
pub Scanned-all : (text : List ℕ) (tokens : List Token) (at : ℕ)
    → Scanned text tokens at → length text ≤ at → StandFor text tokens (tokens_of text)
unfolding tokens_from
Scanned-all text tokens at s done =
    let rest : drop at text ≡ [] = drop_all at text done in
    let ends : map (placed_of text) tokens ++ tokens_from at 0 [] ≡ tokens_of text = rw rest at s.same in
    record {
      inside = s.inside;
      spelled = s.spelled;
      in_order = s.in_order;
      same = sym (append-nil (map (placed_of text) tokens)) ∙ ends;
    }

-- the tokens from a piece on, by what was found of it
after_piece : (text : List ℕ) (at : ℕ) (found : Found) → found.more < length (drop at text)
    → Finds (drop at text) (first_piece (drop at text)) found
    → tokens_from at 0 (drop at text) ≡ placed_at at (first_piece (drop at text)).lexeme
    ++ tokens_from (at + found.more + 1) 0 (drop (at + found.more + 1) text)
after_piece text at found room finds =
    let first = first_piece (drop at text) in
    let behind : at + suc first.more ≡ at + found.more + 1 = omega (arith, finds.more) in
    let step = tokens_from-piece at (drop at text) (omega (arith, room)) in
    rw (drop-drop (suc first.more) at text, behind) at step

-- behind a blank or a comment
pub Scanned-skip : (text : List ℕ) (tokens : List Token) (at : ℕ) (found : Found)
    → Scanned text tokens at → found.kind ≡ None → found.more < length (drop at text)
    → Finds (drop at text) (first_piece (drop at text)) found → Scanned text tokens (at + found.more + 1)
Scanned-skip text tokens at found s kind_is room finds =
    let step = after_piece text at found room finds in
    let lexeme = rw kind_is at finds.lexeme in
    let none : placed_at at (first_piece (drop at text)).lexeme ≡ [] = rw (← lexeme) refl in
    record {
      within = omega (arith, length-drop at text, room);
      before = λ k d below. omega (arith, s.before k d below);
      inside = s.inside;
      spelled = s.spelled;
      in_order = s.in_order;
      same = rw (step, none) at s.same;
    }

-- behind a token
pub Scanned-token : (text : List ℕ) (tokens : List Token) (at : ℕ) (found : Found) (kind : TokenKind)
    → Scanned text tokens at → found.kind ≡ Some kind → found.more < length (drop at text)
    → Finds (drop at text) (first_piece (drop at text)) found
    → Scanned text (tokens ++ record { kind = kind; from = at; to = at + found.more + 1 } ∷ []) (at + found.more + 1)
Scanned-token text tokens at found kind s kind_is room finds =
    let token : Token = record { kind = kind; from = at; to = at + found.more + 1 } in
    let step = after_piece text at found room finds in
    let lexeme = rw kind_is at finds.lexeme in
    let width : at + found.more + 1 - at ≡ suc found.more = omega arith in
    let one : placed_at at (first_piece (drop at text)).lexeme
    ≡ placed_of text token ∷ [] = rw (← lexeme, width) refl in
    let spelled : spelling (lexeme_of kind (take (suc found.more) (drop at text)))
    ≡ take (suc found.more) (drop at text) = rw (← lexeme, ← finds.more) at (first_piece_spelled (drop at text)) in
    let whole : map (placed_of text) tokens
    ++ (placed_of text token ∷ [] ++ tokens_from (at + found.more + 1) 0 (drop (at + found.more + 1) text))
    ≡ tokens_of text = rw (step, one) at s.same in
    record {
      within = omega (arith, length-drop at text, room);
      before =
          All-push (λ t. t.to ≤ at + found.more + 1) tokens token (λ k d below. omega (arith, s.before k d below))
          (omega arith);
      inside =
          All-push (LiesIn text) tokens token s.inside
          (record { not_empty = omega arith; inside = omega (arith, length-drop at text, room) });
      spelled = All-push (IsSpelled text) tokens token s.spelled (rw width (sym spelled));
      in_order = all_pairs_push StandsBefore tokens token s.in_order s.before;
      same = rw (map-append, append_assoc) whole;
    }
