-- A talk says at most as many things as its text has bytes.
use Rattle.std.proofs.Common.{ℕ, ◌+◌, ◌≤◌, ◌==◌, ◌&&◌, List, [], ◌∷◌, length, length-append, Option, Some, None, inl, inr, ap, arith}
use Rattle.std.proofs.lemmas.Bool.{cases_Bool}
use Rattle.nomos_ir.specs.Limits.{text_limit}
use Rattle.nomos_script.specs.Lines.{begins_with_feed, lines_of, put_byte}
use Rattle.nomos_script.specs.TalkReading.{LinesSay, ReadsAsTalk, line, none, numbered, talk_said}
use Rattle.nomos_script.specs.declared.talk_line.TalkLine.{TalkLine}

-- one more byte, at the front of a line
put_byte-lines : (b n : ℕ) (lines : List (List ℕ)) → length lines ≤ n → length (put_byte b lines) ≤ n + 1
put_byte-lines b n [] few = omega arith
put_byte-lines b n (l ∷ lines) few = omega (arith, few)

-- a text has at most as many lines as bytes
lines-few : (text : List ℕ) → length (lines_of text) ≤ length text
unfolding lines_of
lines-few [] = omega arith
lines-few (b ∷ bytes) = let rest = lines-few bytes in elim (cases_Bool (b == 10)) [
  | inl feed ↦ rw feed (omega (arith, rest))
  | inr other ↦ elim (cases_Bool (b == 13 && begins_with_feed bytes)) [
    | inl return ↦ rw (other, return) (omega (arith, rest))
    | inr byte ↦ rw (other, byte) (omega (arith, put_byte-lines b (length bytes) (lines_of bytes) rest))
  ]
]

-- a line says one thing at most
numbered-length : (k : ℕ) (what : Option TalkLine) → length (numbered k what) ≤ 1
numbered-length k None = omega arith
numbered-length k (Some what) = omega arith

said-few : {k : ℕ} {lines : List (List ℕ)} {talk : List (ℕ × TalkLine)} → LinesSay k lines talk
    → length talk ≤ length lines
said-few (none k) = omega arith
said-few (line k here lines form rest all reads more is) =
    omega (
      arith,
      ap (λ (t : List (ℕ × TalkLine)). length t) is,
      length-append (numbered k (talk_said form)) rest,
      numbered-length k (talk_said form),
      said-few more,
    )

pub talk-few : {text : List ℕ} {talk : List (ℕ × TalkLine)} → ReadsAsTalk text talk → length talk ≤ text_limit
talk-few {text} reads = omega (arith, said-few reads.say, lines-few text, reads.limit)
