-- Laws of what was compared before: it stays in front.
use Rattle.std.proofs.Common.{◌≡◌, List, [], ◌++◌, sym, ap, ◌∙◌, append_assoc}
use Rattle.std.proofs.lemmas.List.{append-nil}
use Rattle.nomos_equality.specs.Comparing.{Compared, IsFront, StaysCompared}

-- what is the same stays in front
pub front-same : {X : Type 0} (xs ys : List X) → ys ≡ xs → IsFront xs ys
front-same xs ys same = record { more = []; is = same ∙ sym (append-nil xs) }

-- and so does what stays in front of what stays in front
pub front-through : {X : Type 0} {xs ys zs : List X} → IsFront xs ys → IsFront ys zs → IsFront xs zs
front-through {xs = xs} first second =
    record {
      more = first.more ++ second.more;
      is = second.is ∙ ap (λ (l : List _). l ++ second.more) first.is ∙ append_assoc xs first.more second.more;
    }

pub stays-same : (old new : Compared) → new ≡ old → StaysCompared old new
stays-same old new same =
    record {
      types = front-same old.types new.types (ap (λ (c : Compared). c.types) same);
      amounts = front-same old.amounts new.amounts (ap (λ (c : Compared). c.amounts) same);
    }

pub stays-through : (old mid new : Compared) → StaysCompared old mid → StaysCompared mid new → StaysCompared old new
stays-through old mid new first second =
    record { types = front-through first.types second.types; amounts = front-through first.amounts second.amounts }
