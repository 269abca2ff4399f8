-- Limits that several crates speak of.
use Rattle.std.specs.Prelude.{ℕ}

-- the most bytes of a contract's text, and of a script's
abbrev pub text_limit : ℕ
text_limit = 1048576
