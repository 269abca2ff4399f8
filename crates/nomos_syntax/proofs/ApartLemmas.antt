-- Bytes come apart into their tokens, blanks and comments, and in no other way.
use Rattle.std.proofs.Common.{◌≡◌, ◌≢◌, ℕ, zero, suc, ◌+◌, ◌<◌, ◌≤◌, true, ◌==◌, List, [], ◌∷◌, ◌++◌, length, take, drop, All, inl, inr, arith, ap, refl, sym, ◌∙◌, subst}
use Rattle.std.specs.List.{prefix_len}
use Rattle.std.proofs.Math.Seq.{drop-append_seam}
use Rattle.std.proofs.lemmas.Bool.{cases_Bool, and_parts, not-true, eqb-true, eqb-false, ne_eqb}
use Rattle.std.proofs.lemmas.List.{take-append-drop, get_or-take, drop-drop, length-drop}
use Rattle.std.proofs.lemmas.List.Elements.{All-nil, All-cons, All-head, All-tail}
use Rattle.std.proofs.lemmas.List.Folds.{length-prefix_len}
use Rattle.std.proofs.lemmas.List.Sums.{prefix_len_passes}
use Rattle.nomos_syntax.specs.Apart.{EndsLine, ComesApart, nothing, blank, comment, token}
use Rattle.nomos_syntax.specs.Lexeme.{Lexeme, Placed}
use Rattle.nomos_syntax.specs.Longest.{IsTaken, IsTakenAt}
use Rattle.nomos_syntax.specs.Scan.{is_blank, is_comment_byte, begins_comment, piece_at, tokens_from}
use Rattle.nomos_syntax.specs.Spelling.{spelling}
use Rattle.nomos_syntax.proofs.PieceLemmas.{piece_at-blank, piece_at-comment}
use Rattle.nomos_syntax.proofs.ScanLemmas.{tokens_from-inside, tokens_from-piece}
use Rattle.nomos_syntax.proofs.TakenLemmas.{taken_once, taken_solid, taken_some, takes}

-- a comment up to the end of its line
no_line_feeds : (bytes : List ℕ) → All (λ byte. byte ≢ 10) (take (prefix_len is_comment_byte bytes) bytes)
no_line_feeds bytes k d below =
    let inside : k < prefix_len is_comment_byte bytes = omega (arith, below, length-prefix_len is_comment_byte bytes) in
    let passes = prefix_len_passes is_comment_byte bytes k d inside in
    rw (get_or-take (prefix_len is_comment_byte bytes) bytes k d inside) (eqb-false _ 10 (not-true _ passes))

line_ends : (bytes : List ℕ) → EndsLine (drop (prefix_len is_comment_byte bytes) bytes)
line_ends [] = tt
line_ends (b ∷ bytes) =
    let more : 1 + prefix_len is_comment_byte bytes ≡ suc (prefix_len is_comment_byte bytes) = omega arith in
    elim (cases_Bool (b == 10)) [
      | inl feed ↦ rw feed (eqb-true b 10 feed)
      | inr other ↦ rw (other, more) (line_ends bytes)
    ]

-- and how long it is
line_length : (line rest : List ℕ) → All (λ byte. byte ≢ 10) line → EndsLine rest →
    prefix_len is_comment_byte (line ++ rest) ≡ length line
line_length [] [] no_feeds ends = omega arith
line_length [] (b ∷ rest) no_feeds ends = rw ends refl
line_length (b ∷ line) rest no_feeds ends =
    let other = ne_eqb b 10 (All-head (λ byte. byte ≢ 10) b line no_feeds) in
    let more = line_length line rest (All-tail (λ byte. byte ≢ 10) b line no_feeds) ends in
    rw (other, more) (omega arith)

-- behind a front of what is left of a text
drop_behind : (text : List ℕ) (at n : ℕ) (front rest : List ℕ) → drop at text ≡ front ++ rest → length front ≡ n →
    drop (at + n) text ≡ rest
drop_behind text at n front rest left long =
    sym (drop-drop n at text) ∙ ap (drop n) left ∙ rw (← long) (drop-append_seam front rest)

-- a comment, and behind it the rest
comment_step : (at end : ℕ) (line rest bytes : List ℕ) (tokens : List Placed) → 47 ∷ 47 ∷ line ++ rest ≡ bytes →
    All (λ byte. byte ≢ 10) line → EndsLine rest → at + 2 + length line ≡ end → ComesApart end rest tokens →
    ComesApart at bytes tokens
comment_step at end line rest bytes tokens split feeds ends long apart =
    let behind = subst (λ (n : ℕ). ComesApart n rest tokens) (sym long) apart in
    subst (λ (all : List ℕ). ComesApart at all tokens) split (comment line feeds ends behind)

comment_apart : (at b : ℕ) (after : List ℕ) (tokens : List Placed) → begins_comment b after ≡ true →
    ComesApart (suc at + prefix_len is_comment_byte after) (drop (prefix_len is_comment_byte after) after) tokens →
    ComesApart at (b ∷ after) tokens
comment_apart at b [] tokens begins apart = cc
comment_apart at b (c ∷ bytes) tokens begins apart =
    let both = and_parts (b == 47) (c == 47) begins in
    let first : b ≡ 47 = eqb-true b 47 both.0 in
    let second : c ≡ 47 = eqb-true c 47 both.1 in
    let n = prefix_len is_comment_byte bytes in
    let more : 1 + n ≡ suc n = omega arith in
    let rest : ComesApart (suc at + suc n) (drop n bytes) tokens = rw (second, more) at apart in
    let line = take n bytes in
    let split : 47 ∷ 47 ∷ line ++ drop n bytes ≡ b ∷ c ∷ bytes =
    rw (first, second) (ap (λ tail. 47 ∷ 47 ∷ tail) (take-append-drop n bytes)) in
    let long : at + 2 + length line ≡ suc at + suc n = omega (arith, length-prefix_len is_comment_byte bytes) in
    comment_step at (suc at + suc n) line (drop n bytes) (b ∷ c ∷ bytes) tokens split (no_line_feeds bytes)
    (line_ends bytes) long rest

-- a token, and behind it the rest
token_step : (at end : ℕ) (lexeme : Lexeme) (rest bytes : List ℕ) (tokens : List Placed) →
    spelling lexeme ++ rest ≡ bytes → IsTaken bytes lexeme → at + length (spelling lexeme) ≡ end →
    ComesApart end rest tokens → ComesApart at bytes (record { at = at; lexeme = lexeme } ∷ tokens)
token_step at end lexeme rest bytes tokens split taken long apart =
    let here = subst (λ (all : List ℕ). IsTaken all lexeme) (sym split) taken in
    let behind = subst (λ (n : ℕ). ComesApart n rest tokens) (sym long) apart in
    let placed : List Placed = record { at = at; lexeme = lexeme } ∷ tokens in
    subst (λ (all : List ℕ). ComesApart at all placed) split (token lexeme here behind)

-- bytes come apart into their tokens, from any offset on
pub apart_from : (fuel at : ℕ) (bytes : List ℕ) → length bytes ≤ fuel → ComesApart at bytes (tokens_from at 0 bytes)
unfolding tokens_from
apart_from fuel at [] room = nothing
apart_from zero at (b ∷ after) room = absurd (omega (arith, room))
apart_from (suc fuel) at (b ∷ after) room = elim (cases_Bool (is_blank b)) [
  | inl is ↦ rw (piece_at-blank b after is) (blank is (apart_from fuel (suc at) after (omega (arith, room))))
  | inr solid ↦ elim (cases_Bool (begins_comment b after)) [
    | inl begins ↦
        let n = prefix_len is_comment_byte after in
        let rest = apart_from fuel (suc at + n) (drop n after) (omega (arith, room, length-drop n after)) in
        rw (piece_at-comment b after solid begins, tokens_from-inside (suc at) n after)
        (comment_apart at b after (tokens_from (suc at + n) 0 (drop n after)) begins rest)
    | inr code ↦
        let t = takes b after solid code in
        let n = (piece_at b after).more in
        let rest = apart_from fuel (suc at + n) (drop n after) (omega (arith, room, length-drop n after)) in
        let end : at + length (spelling t.lexeme) ≡ suc at + n = omega (arith, t.long) in
        let tokens = tokens_from (suc at + n) 0 (drop n after) in
        rw (t.is, tokens_from-inside (suc at) n after)
        (token_step at (suc at + n) t.lexeme (drop n after) (b ∷ after) tokens t.split t.taken end rest)
  ]
]

-- a comment has no tokens
comment_tokens : (at : ℕ) (line rest : List ℕ) → All (λ byte. byte ≢ 10) line → EndsLine rest →
    tokens_from at 0 (47 ∷ 47 ∷ line ++ rest) ≡ tokens_from (at + 2 + length line) 0 rest
comment_tokens at line rest feeds ends =
    let piece = piece_at-comment 47 (47 ∷ line ++ rest) refl refl in
    let more : 1 + length line ≡ suc (length line) = omega arith in
    let end : at + suc (suc (length line)) ≡ at + 2 + length line = omega arith in
    let first = tokens_from-piece at (47 ∷ 47 ∷ line ++ rest) (omega arith) in
    rw (piece, line_length line rest feeds ends, more, end, drop-append_seam line rest) at first

-- two rests behind the same front of the same bytes are the same
same_rest : (front u v : List ℕ) → front ++ u ≡ front ++ v → u ≡ v
same_rest front u v same = sym (drop-append_seam front u) ∙ ap (drop (length front)) same ∙ drop-append_seam front v

-- the token that is taken at the front of bytes is the first of them
token_tokens : (at : ℕ) (lexeme : Lexeme) (bytes rest : List ℕ) → IsTaken bytes lexeme →
    spelling lexeme ++ rest ≡ bytes →
    tokens_from at 0 bytes ≡ record { at = at; lexeme = lexeme } ∷ tokens_from (at + length (spelling lexeme)) 0 rest
unfolding tokens_from
token_tokens at lexeme [] rest taken split = absurd (taken_some lexeme taken)
token_tokens at lexeme (b ∷ after) rest taken split =
    let solid = taken_solid b after lexeme taken in
    let t = takes b after solid.0 solid.1 in
    let n = (piece_at b after).more in
    let same : t.lexeme ≡ lexeme = taken_once (b ∷ after) t.lexeme lexeme t.taken taken in
    let long = rw same at t.long in
    let found = rw same at t.split in
    let behind : drop n after ≡ rest = same_rest (spelling lexeme) (drop n after) rest (found ∙ sym split) in
    let end : suc at + n ≡ at + length (spelling lexeme) = omega (arith, long) in
    rw (t.is, tokens_from-inside (suc at) n after, same, behind, end) refl

-- bytes come apart in one way
pub apart_once : {at : ℕ} {bytes : List ℕ} {tokens : List Placed} → ComesApart at bytes tokens →
    tokens ≡ tokens_from at 0 bytes
unfolding tokens_from
apart_once nothing = refl
apart_once (blank {b = b} {rest = rest} is apart) = rw (piece_at-blank b rest is) (apart_once apart)
apart_once (comment {at = at} {rest = rest} line feeds ends apart) =
    apart_once apart ∙ sym (comment_tokens at line rest feeds ends)
apart_once (token {at = at} {rest = rest} lexeme taken apart) =
    let first : Placed = record { at = at; lexeme = lexeme } in
    ap (λ tokens. first ∷ tokens) (apart_once apart) ∙
    sym (token_tokens at lexeme (spelling lexeme ++ rest) rest taken refl)

-- each of the tokens into which the rest of a text comes apart is taken at its offset
pub apart_taken : {at : ℕ} {bytes : List ℕ} {tokens : List Placed} → ComesApart at bytes tokens → (text : List ℕ) →
    drop at text ≡ bytes → All (IsTakenAt text) tokens
apart_taken nothing text left = All-nil (IsTakenAt text)
apart_taken (blank {at = at} {b = b} {rest = rest} is apart) text left =
    let next : at + 1 ≡ suc at = omega arith in
    apart_taken apart text (rw next at (drop_behind text at 1 (b ∷ []) rest left (omega arith)))
apart_taken (comment {at = at} {rest = rest} line feeds ends apart) text left =
    let next : at + (2 + length line) ≡ at + 2 + length line = omega arith in
    apart_taken apart text (rw next at (drop_behind text at (2 + length line) (47 ∷ 47 ∷ line) rest left (omega arith)))
apart_taken (token {at = at} {rest = rest} {tokens = tokens} lexeme taken apart) text left =
    All-cons (IsTakenAt text) (record { at = at; lexeme = lexeme }) tokens (rw left taken)
    (apart_taken apart text (drop_behind text at (length (spelling lexeme)) (spelling lexeme) rest left refl))
