-- The lines of a text, one by one.
use Rattle.std.proofs.Common.{◌≡◌, ℕ, suc, ◌+◌, ◌-◌, ◌<◌, true, false, ◌==◌, List, [], ◌∷◌, length, take, drop, get_or, inl, inr, refl, ap, arith}
use Rattle.std.specs.List.{prefix_len}
use Rattle.std.proofs.lemmas.Bool.{cases_Bool, eqb-true}
use Rattle.nomos_script.specs.Lines.{is_line_byte, begins_with_feed, put_byte, lines_of}
use Rattle.nomos_script.specs.mirror.ReaderSeen.{without_return}

-- a line feed ends a line
lines_of-feed : (b : ℕ) (bytes : List ℕ) → b == 10 ≡ true → lines_of (b ∷ bytes) ≡ [] ∷ lines_of bytes
unfolding lines_of
lines_of-feed b bytes feed = rw feed

-- a carriage return before a line feed is dropped
lines_of-return : (b : ℕ) (bytes : List ℕ) → b == 10 ≡ false → b == 13 ≡ true → begins_with_feed bytes ≡ true
    → lines_of (b ∷ bytes) ≡ lines_of bytes
unfolding lines_of
lines_of-return b bytes other return feed = rw (other, return, feed)

-- any other byte belongs to its line
lines_of-byte : (b : ℕ) (bytes : List ℕ) → b == 10 ≡ false → b == 13 ≡ false
    → lines_of (b ∷ bytes) ≡ put_byte b (lines_of bytes)
unfolding lines_of
lines_of-byte b bytes other plain = rw (other, plain)

-- so does a byte that no line feed follows
lines_of-inside : (b : ℕ) (bytes : List ℕ) → b == 10 ≡ false → begins_with_feed bytes ≡ false
    → lines_of (b ∷ bytes) ≡ put_byte b (lines_of bytes)
unfolding lines_of
lines_of-inside b bytes other inside = elim (cases_Bool (b == 13)) [
  | inl return ↦ rw (other, return, inside) refl
  | inr plain ↦ rw (other, plain) refl
]

pub lines_of-nil : lines_of [] ≡ []
unfolding lines_of
lines_of-nil = refl

-- a text without a line feed is one line
pub lines_of-last : (text : List ℕ) → 0 < length text → prefix_len is_line_byte text ≡ length text
    → lines_of text ≡ text ∷ []
lines_of-last [] some whole = absurd (omega (arith, some))
lines_of-last (b ∷ []) some whole = elim (cases_Bool (b == 10)) [
  | inl feed ↦ let none = rw feed at whole in absurd (omega (arith, none))
  | inr other ↦ rw (lines_of-inside b [] other refl, lines_of-nil) refl
]
lines_of-last (b ∷ c ∷ bytes) some whole = elim (cases_Bool (b == 10)) [
  | inl feed ↦ let none = rw feed at whole in absurd (omega (arith, none))
  | inr other ↦
      let more : 1 + prefix_len is_line_byte (c ∷ bytes) ≡ length (b ∷ c ∷ bytes) = rw other at whole in
      elim (cases_Bool (c == 10)) [
        | inl feed ↦ let none = rw feed at more in absurd (omega (arith, none))
        | inr inside ↦ rw (
          lines_of-inside b (c ∷ bytes) other inside,
          lines_of-last (c ∷ bytes) (omega arith) (omega (arith, more)),
        ) refl
      ]
]

-- a line of one byte, or of a carriage return alone
lines_of-short : (b c : ℕ) (bytes : List ℕ) → b == 10 ≡ false → c == 10 ≡ true
    → lines_of (b ∷ c ∷ bytes) ≡ without_return (b ∷ []) ∷ lines_of bytes
lines_of-short b c bytes other feed = elim (cases_Bool (b == 13)) [
  | inl return ↦ rw (lines_of-return b (c ∷ bytes) other return feed, return) (lines_of-feed c bytes feed)
  | inr plain ↦ rw (lines_of-byte b (c ∷ bytes) other plain, plain, lines_of-feed c bytes feed) refl
]

-- a line feed ends the first line
pub lines_of-first : (text : List ℕ) → prefix_len is_line_byte text < length text
    → lines_of text ≡ without_return (take (prefix_len is_line_byte text) text) ∷
    lines_of (drop (suc (prefix_len is_line_byte text)) text)
lines_of-first [] room = absurd (omega (arith, room))
lines_of-first (b ∷ []) room = elim (cases_Bool (b == 10)) [
  | inl feed ↦ rw feed (lines_of-feed b [] feed)
  | inr other ↦ let none = rw other at room in absurd (omega (arith, none))
]
lines_of-first (b ∷ c ∷ bytes) room = elim (cases_Bool (b == 10)) [
  | inl feed ↦ rw feed (lines_of-feed b (c ∷ bytes) feed)
  | inr other ↦ elim (cases_Bool (c == 10)) [
    | inl feed ↦ rw (other, feed) (lines_of-short b c bytes other feed)
    | inr inside ↦
        let within : 1 + prefix_len is_line_byte (c ∷ bytes) < length (b ∷ c ∷ bytes) = rw other at room in
        let more : 1 + prefix_len is_line_byte bytes ≡ suc (prefix_len is_line_byte bytes) = omega arith in
        let two : 1 + suc (prefix_len is_line_byte bytes) ≡ suc (suc (prefix_len is_line_byte bytes)) = omega arith in
        let rest = lines_of-first (c ∷ bytes) (omega (arith, within)) in
        let split = rw (inside, more) at rest in
        rw (lines_of-inside b (c ∷ bytes) other inside, other, inside, more, two, split) refl
  ]
]

-- without its last byte, where that is a carriage return
pub without_return-return : (line : List ℕ) → 0 < length line → get_or line (length line - 1) 0 ≡ 13
    → without_return line ≡ take (length line - 1) line
without_return-return [] some return = absurd (omega (arith, some))
without_return-return (b ∷ []) some return = rw return refl
without_return-return (b ∷ c ∷ line) some return =
    let less : length (b ∷ c ∷ line) - 1 ≡ suc (length (c ∷ line) - 1) = omega arith in
    let last : get_or (c ∷ line) (length (c ∷ line) - 1) 0 ≡ 13 = rw less at return in
    rw (less, without_return-return (c ∷ line) (omega arith) last) refl

pub without_return-plain : (line : List ℕ) → (get_or line (length line - 1) 0 ≡ 13 → ⊥) → without_return line ≡ line
without_return-plain [] plain = refl
without_return-plain (b ∷ []) plain = elim (cases_Bool (b == 13)) [
  | inl return ↦ absurd (plain (eqb-true b 13 return))
  | inr other ↦ rw other refl
]
without_return-plain (b ∷ c ∷ line) plain =
    let less : length (b ∷ c ∷ line) - 1 ≡ suc (length (c ∷ line) - 1) = omega arith in
    let last : get_or (c ∷ line) (length (c ∷ line) - 1) 0 ≡ 13 → ⊥ = λ return. plain (rw less return) in
    ap (λ bytes. b ∷ bytes) (without_return-plain (c ∷ line) last)
