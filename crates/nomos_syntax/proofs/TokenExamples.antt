-- Which tokens small texts may begin with, and how they come apart.
use Rattle.std.proofs.Common.{◌≡◌, ◌≢◌, [], ◌∷◌, ◌++◌, codes, All, arith, refl, subst}
use Rattle.std.proofs.lemmas.List.Elements.{All-nil, All-cons}
use Rattle.nomos_syntax.specs.declared.symbol.Symbol.TheVariants as sym
use Rattle.nomos_syntax.specs.Apart.{ComesApart, nothing, blank, comment}
use Rattle.nomos_syntax.specs.Lexeme.{symbol}
use Rattle.nomos_syntax.specs.Longest.{EndsWord, MayBegin}

-- `-o` may begin a text before a blank and at the end, and not before a letter; `-` may there
pub lollipop_before_blank : MayBegin (codes "-o b") (symbol sym.Lollipop)
lollipop_before_blank = record { token = tt; behind = codes " b"; split = refl; apart = λ same. refl }

pub last_lollipop : MayBegin (codes "-o") (symbol sym.Lollipop)
last_lollipop = record { token = tt; behind = []; split = refl; apart = λ same. tt }

pub no_lollipop_before_letter : ¬ MayBegin (codes "-ob") (symbol sym.Lollipop)
no_lollipop_before_letter m =
    let split = m.split in
    let behind : m.behind ≡ codes "b" = cc in
    let ends = subst EndsWord behind (m.apart refl) in
    cc

pub minus_before_letter : MayBegin (codes "-ob") (symbol sym.Minus)
minus_before_letter = record { token = tt; behind = codes "ob"; split = refl; apart = λ same. cc }

-- a shorter symbol may begin where a longer one may
pub shorter_symbol : MayBegin (codes "->") (symbol sym.Minus)
shorter_symbol = record { token = tt; behind = codes ">"; split = refl; apart = λ same. cc }

-- a blank and a comment at the end of a text are no tokens, and a comment may end with its line
pub last_comment : ComesApart 0 (codes " //b") []
last_comment =
    let line : All (λ byte. byte ≢ 10) (codes "b") =
    All-cons (λ byte. byte ≢ 10) 98 [] (λ same. omega arith) (All-nil (λ byte. byte ≢ 10)) in
    blank refl (comment (codes "b") line tt nothing)

pub comment_and_blank : ComesApart 0 (codes "//" ++ 10 ∷ []) []
comment_and_blank = comment [] (All-nil (λ byte. byte ≢ 10)) refl (blank refl nothing)
