use Rattle.std.proofs.Common.{◌≡◌, ◌-◌, ◌<◌, ◌≤◌, ℕ, List, length, take, drop, arith, length-drop}
use Rattle.std.proofs.lemmas.List.{take_all}
use Rattle.nomos_base.proofs.ToldLaws.{GetsFront-copied}
use Rattle.nomos_base.proofs.sure.SureSource.read_most.Goals as goal

pub returns-clause-answer : goal.returns-clause-answer
returns-clause-answer c =
    let bytes : List ℕ = c.self.inside.bytes.items in
    let taken : ℕ = c.self.inside.taken in
    let count : ℕ = c.copy_front-count.result in
    let buffer : List ℕ = c.copy_front-count.new.into in
    let copied : take count buffer ≡ take count (take (length bytes - taken) (drop taken bytes)) =
    rw c.deref.ensures.value at c.copy_front-count.ensures.copied in
    let all : take (length bytes - taken) (drop taken bytes) ≡ drop taken bytes =
    take_all (length bytes - taken) (drop taken bytes) (omega (arith, length-drop taken bytes)) in
    let same : take count buffer ≡ take count (drop taken bytes) = rw all at copied in
    let some : 0 < count = omega arith in
    let fits : count ≤ length buffer = omega arith in
    rw (← c.self.view_is) (GetsFront-copied bytes buffer taken count some fits same)
