-- Names with commas between them, read one by one.
use Rattle.std.proofs.Common.{◌≡◌, ◌≢◌, ℕ, ◌⊎◌, inl, inr, List, [], ◌∷◌, ◌++◌, All, codes, refl, sym, ap, ◌∙◌, append_assoc, arith}
use Rattle.std.proofs.lemmas.List.Elements.{All-nil, All-cons, All-head, All-tail, All-append}
use Rattle.nomos_script.specs.Form.{print_names, print_more_names}
use Rattle.nomos_script.specs.ScriptNames.{IsScriptName}
use Rattle.nomos_script.specs.ScriptScan.{Token, word, mark}
use Rattle.nomos_script.specs.mirror.ReaderSeen.{AreNames, AreMoreNames, BeginsWithName}

print_more_names-push : (names : List (List ℕ)) (name : List ℕ) (after : List Token)
    → print_more_names (names ++ name ∷ []) after ≡ print_more_names names (mark (codes ",") ∷ word name ∷ after)
print_more_names-push [] name after = refl
print_more_names-push (n ∷ names) name after = rw (print_more_names-push names name after) refl

-- one more
pub one_more_name : (tokens now after after2 : List Token) (names all : List (List ℕ)) (name : List ℕ)
    → AreMoreNames tokens now names all → now ≡ mark (codes ",") ∷ after → after ≡ word name ∷ after2
    → IsScriptName name → AreMoreNames tokens after2 names (all ++ name ∷ [])
one_more_name tokens now after after2 names all name h comma is named = record {
  more = h.more ++ name ∷ [];
  printed = rw (print_more_names-push h.more name after2, ← is, ← comma) h.printed;
  each = All-append IsScriptName h.more (name ∷ []) h.each
      (All-cons IsScriptName name [] named (All-nil IsScriptName));
  together = rw (h.together, append_assoc) refl;
}

-- the byte of the first token, if that is one byte
first_byte : List Token → ℕ
first_byte (mark (b ∷ bytes) ∷ tokens) = b
first_byte _ = 0

-- what stands where names go on or end
abbrev pub MayFollow : List Token → Type 0
MayFollow tokens =
    ((rest : List Token) × (tokens ≡ mark (codes ")") ∷ rest))
    ⊎ ((rest : List Token) × (tokens ≡ mark (codes ",") ∷ rest) × BeginsWithName rest)

peel : (more others : List (List ℕ)) (now rest : List Token) → All IsScriptName others
    → print_more_names more now ≡ print_more_names others (mark (codes ")") ∷ rest) → MayFollow now
unfolding first_byte
peel [] [] now rest named same = inl (rest, same)
peel [] (n ∷ names) now rest named same =
    inr (
      word n ∷ print_more_names names (mark (codes ")") ∷ rest),
      same,
      (n, print_more_names names (mark (codes ")") ∷ rest), refl, All-head IsScriptName n names named),
    )
peel (m ∷ more) [] now rest named same = let bytes : 44 ≡ 41 = ap first_byte same in absurd (omega (arith, bytes))
peel (m ∷ more) (n ∷ names) now rest named same =
    peel more names now rest (All-tail IsScriptName n names named) (cc)

-- so they go on or end behind those that were read
pub more_names_follow : (tokens now rest : List Token) (names all others : List (List ℕ))
    → AreMoreNames tokens now names all → All IsScriptName others
    → tokens ≡ print_more_names others (mark (codes ")") ∷ rest) → MayFollow now
more_names_follow tokens now rest names all others h named is = peel h.more others now rest named (sym h.printed ∙ is)

pub other_follows : (now : List Token)
    → ((rest : List Token) → (now ≢ mark (codes ",") ∷ rest) × (now ≢ mark (codes ")") ∷ rest)) → ¬ MayFollow now
other_follows now none = λ h. elim h [
  | inl ends ↦ (none ends.0).1 ends.1
  | inr goes ↦ (none goes.0).0 goes.1
]

pub comma_follows : (now after : List Token) → now ≡ mark (codes ",") ∷ after → ¬ BeginsWithName after
    → ¬ MayFollow now
unfolding first_byte
comma_follows now after is nameless = λ h. elim h [
  | inl ends ↦ let bytes : 44 ≡ 41 = ap first_byte (sym is ∙ ends.1) in absurd (omega (arith, bytes))
  | inr goes ↦ let same : goes.0 ≡ after = let e = goes.1 in cc in nameless (rw same at goes.2)
]

-- behind a first name
pub names_tail : (tokens behind : List Token) (name : List ℕ) → tokens ≡ word name ∷ behind
    → ((more : List (List ℕ)) (rest : List Token) → All IsScriptName more
    → behind ≢ print_more_names more (mark (codes ")") ∷ rest))
    → (names : List (List ℕ)) (rest : List Token) → ¬ AreNames tokens names rest
names_tail tokens behind name first none [] rest = λ h. let printed = h.printed in cc
names_tail tokens behind name first none (n ∷ names) rest = λ h.
    let printed = h.printed in
    let tail : behind ≡ print_more_names names (mark (codes ")") ∷ rest) = cc in
    none names rest (All-tail IsScriptName n names h.each) tail

-- names are written in one way
more_names_once : (names others : List (List ℕ)) (after behind : List Token)
    → print_more_names names (mark (codes ")") ∷ after) ≡ print_more_names others (mark (codes ")") ∷ behind)
    → (names ≡ others) × (after ≡ behind)
unfolding first_byte
more_names_once [] [] after behind same = (refl, cc)
more_names_once [] (m ∷ others) after behind same =
    let bytes : 41 ≡ 44 = ap first_byte same in absurd (omega (arith, bytes))
more_names_once (n ∷ names) [] after behind same =
    let bytes : 44 ≡ 41 = ap first_byte same in absurd (omega (arith, bytes))
more_names_once (n ∷ names) (m ∷ others) after behind same =
    let both = more_names_once names others after behind (cc) in
    let here : n ≡ m = cc in
    let there = both.0 in
    (cc, both.1)

pub names_once : (names others : List (List ℕ)) (after behind : List Token)
    → print_names names (mark (codes ")") ∷ after) ≡ print_names others (mark (codes ")") ∷ behind)
    → (names ≡ others) × (after ≡ behind)
names_once [] [] after behind same = (refl, cc)
names_once [] (m ∷ others) after behind same = absurd (cc)
names_once (n ∷ names) [] after behind same = absurd (cc)
names_once (n ∷ names) (m ∷ others) after behind same =
    let both = more_names_once names others after behind (cc) in
    let here : n ≡ m = cc in
    let there = both.0 in
    (cc, both.1)
