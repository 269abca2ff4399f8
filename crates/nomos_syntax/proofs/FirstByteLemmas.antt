-- A word is found among those that begin as the text does.
use Rattle.std.proofs.Common.{◌≡◌, ◌<◌, ◌≤◌, ℕ, Bool, true, List, [], ◌∷◌, length, get_or, Option, None, find, inl, inr, arith, refl, ap, ◌∙◌}
use Rattle.std.specs.List.{filter}
use Rattle.std.specs.Str.{bytes_eq}
use Rattle.std.proofs.lemmas.Bool.{cases_Bool}
use Rattle.std.proofs.lemmas.Slice.Eq.{bytes_eq-Decides}
use Rattle.nomos_ir.specs.declared.word.Word.{Word}
use Rattle.nomos_ir.specs.Word.{text_of, all_words, reserved_word}
use Rattle.nomos_syntax.specs.mirror.FirstBytes.{begins_with, words_from}

-- what a test finds is found among all that pass another one, where what passes the first passes that as well
find-filtered : (test keep : Word → Bool) → ((w : Word) → test w ≡ true → keep w ≡ true) → (words : List Word)
    → find test (filter keep words) ≡ find test words
find-filtered test keep kept [] = refl
find-filtered test keep kept (w ∷ words) = elim (cases_Bool (test w)) [
  | inl passes ↦ rw (kept w passes, passes) refl
  | inr fails ↦ elim (cases_Bool (keep w)) [
    | inl stays ↦ rw (stays, fails) (find-filtered test keep kept words)
    | inr goes ↦ rw (goes, fails) (find-filtered test keep kept words)
  ]
]

-- a byte string begins with its first byte
own-first : (text : List ℕ) (b : ℕ) (bytes : List ℕ) → bytes_eq text (b ∷ bytes) ≡ true → begins_with b text ≡ true
own-first [] b bytes same = cc
own-first (c ∷ text) b bytes same = grind (arith, bytes_eq-Decides (c ∷ text) (b ∷ bytes), same)

-- the reserved word of a text is found among those that begin with its first byte
found-from : (b : ℕ) (bytes : List ℕ) → find (λ w. bytes_eq (text_of w) (b ∷ bytes)) (words_from b)
    ≡ reserved_word (b ∷ bytes)
unfolding reserved_word words_from
found-from b bytes =
    find-filtered (λ w. bytes_eq (text_of w) (b ∷ bytes)) (λ w. begins_with b (text_of w))
    (λ w same. own-first (text_of w) b bytes same) all_words

-- no word is empty
pub empty-none : (text : List ℕ) → length text < 1 → None ≡ reserved_word text
unfolding reserved_word
empty-none [] short = refl
empty-none (b ∷ bytes) short = absurd (omega (arith, short))

-- what is found among the words that begin as the text does is its reserved word
pub found-among : (text : List ℕ) (words : List Word) (found : Option Word) → 1 ≤ length text
    → words ≡ words_from (get_or text 0 0) → found ≡ find (λ w. bytes_eq (text_of w) text) words
    → found ≡ reserved_word text
found-among [] words found long from is = absurd (omega (arith, long))
found-among (b ∷ bytes) words found long from is =
    is ∙ ap (λ (ws : List Word). find (λ w. bytes_eq (text_of w) (b ∷ bytes)) ws) from ∙ found-from b bytes
