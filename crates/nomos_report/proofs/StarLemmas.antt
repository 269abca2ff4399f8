-- What is printed of stars, star by star.
use Rattle.std.proofs.Common.{◌≡◌, ◌∙◌, ℕ, suc, ◌+◌, ◌<◌, List, [], ◌∷◌, ◌++◌, length, get_or, take, ap, refl, sym, arith, append_assoc, append-nil}
use Rattle.std.proofs.Math.Seq.{take-suc}
use Rattle.std.proofs.lemmas.List.{length-take-le}
use Rattle.std.specs.Prelude.{slice_index}
use Rattle.nomos_report.specs.Block.{star_line, star_lines}

-- the lines of two lists of amounts
lines-append : (unit star : ℕ) (xs ys : List ℕ)
    → star_lines unit star (xs ++ ys) ≡ star_lines unit star xs ++ star_lines unit (star + length xs) ys
lines-append unit star [] ys = let none : star + 0 ≡ star = omega arith in rw none refl
lines-append unit star (x ∷ xs) ys =
    let one : List ℕ = star_line unit star x in
    let more : List ℕ = star_lines unit (star + 1) xs in
    let place : star + 1 + length xs ≡ star + suc (length xs) = omega arith in
    let rest : star_lines unit (star + 1) (xs ++ ys) ≡ more ++ star_lines unit (star + suc (length xs)) ys =
    lines-append unit (star + 1) xs ys ∙ ap (λ (n : ℕ). more ++ star_lines unit n ys) place in
    ap (λ (t : List ℕ). one ++ t) rest ∙ sym (append_assoc one more (star_lines unit (star + suc (length xs)) ys))

-- the line of one amount
lines-one : (unit star amount : ℕ) → star_lines unit star (amount ∷ []) ≡ star_line unit star amount
lines-one unit star amount = append-nil (star_line unit star amount)

-- the lines of one amount more
pub lines-next : (unit : ℕ) (amounts : List ℕ) (done : ℕ) → done < length amounts
    → star_lines unit 1 (take (done + 1) amounts)
    ≡ star_lines unit 1 (take done amounts) ++ star_line unit (done + 1) (slice_index amounts done)
lines-next unit amounts done inside =
    let first : List ℕ = take done amounts in
    let amount : ℕ = get_or amounts done 0 in
    let one_more : done + 1 ≡ suc done = omega arith in
    let split : take (done + 1) amounts ≡ first ++ amount ∷ [] =
    ap (λ (n : ℕ). take n amounts) one_more ∙ take-suc amounts done 0 inside in
    let few : length first ≡ done = length-take-le done amounts (omega arith) in
    let place : 1 + length first ≡ done + 1 = omega arith in
    let last : star_lines unit (1 + length first) (amount ∷ []) ≡ star_line unit (done + 1) amount =
    ap (λ (n : ℕ). star_lines unit n (amount ∷ [])) place ∙ lines-one unit (done + 1) amount in
    ap (star_lines unit 1) split
    ∙ lines-append unit 1 first (amount ∷ [])
    ∙ ap (λ (t : List ℕ). star_lines unit 1 first ++ t) last
