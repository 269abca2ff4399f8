-- Names: what stands in a text as the name of a declaration, a label or a variable.
use Rattle.std.specs.Prelude.{◌≡◌, ◌<◌, ◌≤◌, ℕ, Bool, ◌||◌, ◌&&◌, ◌==◌, nat_le, List, length, IsTrue, All, IfSome, slice_get}
use Rattle.nomos_ir.specs.declared.word.Word.{Word}
use Rattle.nomos_ir.specs.Word.{text_of}

-- a letter is one of a to z, A to Z or _
abbrev pub is_letter : ℕ → Bool
is_letter byte = (nat_le 97 byte && nat_le byte 122) || (nat_le 65 byte && nat_le byte 90) || byte == 95

-- a digit is one of 0 to 9
abbrev pub is_digit : ℕ → Bool
is_digit byte = nat_le 48 byte && nat_le byte 57

-- a byte of a word
abbrev pub is_word_byte : ℕ → Bool
is_word_byte byte = is_letter byte || is_digit byte

-- the bytes begin with a letter
abbrev pub BeginsWithLetter : List ℕ → Type 0
BeginsWithLetter bytes = (0 < length bytes) × IfSome (slice_get bytes 0) (λ byte. IsTrue (is_letter byte))

-- a word: a letter, and then letters and digits
pub record IsWordText (bytes : List ℕ) : Type 0 where
  pub first : BeginsWithLetter bytes
  pub each : All (λ byte. IsTrue (is_word_byte byte)) bytes

-- the bytes of a reserved word
abbrev pub IsReserved : List ℕ → Type 0
IsReserved bytes = (word : Word) × (text_of word ≡ bytes)

-- a name is a word that is not reserved
pub record IsName (bytes : List ℕ) : Type 0 where
  pub word : IsWordText bytes
  pub free : ¬ IsReserved bytes

-- how many bytes a name may have
abbrev pub max_name_length : ℕ
max_name_length = 64

-- a name that is not too long
pub record IsShortName (bytes : List ℕ) : Type 0 where
  pub name : IsName bytes
  pub short : length bytes ≤ max_name_length
