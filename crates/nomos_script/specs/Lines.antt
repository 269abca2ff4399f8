-- The lines of a script: each ends with a line feed, which the last one may lack. A carriage return directly
-- before a line feed belongs to the end of the line.
use Rattle.std.specs.Prelude.{ℕ, Bool, false, ◌&&◌, not, ◌==◌, List, [], ◌∷◌, if◌then◌else◌}

-- any byte but the line feed, which ends a line
abbrev pub is_line_byte : ℕ → Bool
is_line_byte b = not (b == 10)

-- a line feed comes next
abbrev pub begins_with_feed : List ℕ → Bool
begins_with_feed [] = false
begins_with_feed (b ∷ bytes) = b == 10

-- the byte stands at the front of the first line
abbrev pub put_byte : ℕ → List (List ℕ) → List (List ℕ)
put_byte b [] = (b ∷ []) ∷ []
put_byte b (line ∷ lines) = (b ∷ line) ∷ lines

-- the lines of a text
unfoldable pub lines_of : List ℕ → List (List ℕ)
lines_of [] = []
lines_of (b ∷ bytes) =
    if b == 10 then [] ∷ lines_of bytes
    else (if b == 13 && begins_with_feed bytes then lines_of bytes
    else put_byte b (lines_of bytes))
