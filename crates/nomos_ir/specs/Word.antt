-- The reserved words of the language.
use Rattle.std.specs.Prelude.{ℕ, List as Bytes, [], ◌∷◌, codes, Option, find}
use Rattle.std.specs.Str.{bytes_eq}
use Rattle.nomos_ir.specs.declared.word.Word.{Word}
use Rattle.nomos_ir.specs.declared.word.Word.TheVariants as word

-- the bytes of a reserved word
abbrev pub text_of : Word → Bytes ℕ
text_of word.Cost = codes "cost"
text_of word.Ticks = codes "ticks"
text_of word.Sends = codes "sends"
text_of word.All = codes "all"
text_of word.«Type» = codes "type"
text_of word.Fn = codes "fn"
text_of word.Proc = codes "proc"
text_of word.R = codes "R"
text_of word.S = codes "S"
text_of word.L = codes "L"
text_of word.T = codes "T"
text_of word.Int = codes "int"
text_of word.Bool = codes "bool"
text_of word.List = codes "list"
text_of word.True = codes "true"
text_of word.False = codes "false"
text_of word.Nil = codes "nil"
text_of word.If = codes "if"
text_of word.Then = codes "then"
text_of word.Else = codes "else"
text_of word.Match = codes "match"
text_of word.Not = codes "not"
text_of word.And = codes "and"
text_of word.Or = codes "or"
text_of word.Up = codes "up"
text_of word.Down = codes "down"
text_of word.SelfWord = codes "self"
text_of word.Me = codes "me"
text_of word.Send = codes "send"
text_of word.Recv = codes "recv"
text_of word.Put = codes "put"
text_of word.Take = codes "take"
text_of word.Pay = codes "pay"
text_of word.Get = codes "get"
text_of word.Work = codes "work"
text_of word.Wait = codes "wait"
text_of word.Accept = codes "accept"
text_of word.Detach = codes "detach"
text_of word.Acquire = codes "acquire"
text_of word.Release = codes "release"
text_of word.Spawn = codes "spawn"
text_of word.As = codes "as"
text_of word.Let = codes "let"
text_of word.Emit = codes "emit"
text_of word.Case = codes "case"
text_of word.Close = codes "close"
text_of word.Fwd = codes "fwd"
text_of word.Call = codes "call"

-- every reserved word
abbrev pub all_words : Bytes Word
all_words =
    word.Cost ∷ word.Ticks ∷ word.Sends ∷ word.All ∷ word.«Type» ∷ word.Fn ∷ word.Proc ∷ word.R ∷ word.S ∷ word.L ∷
    word.T ∷ word.Int ∷ word.Bool ∷ word.List ∷ word.True ∷ word.False ∷ word.Nil ∷ word.If ∷ word.Then ∷
    word.Else ∷ word.Match ∷ word.Not ∷ word.And ∷ word.Or ∷ word.Up ∷ word.Down ∷ word.SelfWord ∷ word.Me ∷
    word.Send ∷ word.Recv ∷ word.Put ∷ word.Take ∷ word.Pay ∷ word.Get ∷ word.Work ∷ word.Wait ∷ word.Accept ∷
    word.Detach ∷ word.Acquire ∷ word.Release ∷ word.Spawn ∷ word.As ∷ word.Let ∷ word.Emit ∷ word.Case ∷
    word.Close ∷ word.Fwd ∷ word.Call ∷ []

-- the reserved word of this text, if there is one
unfoldable pub reserved_word : Bytes ℕ → Option Word
reserved_word text = find (λ w. bytes_eq (text_of w) text) all_words
