-- Which statuses come behind the acceptance of a contract, and which never do.
use Rattle.std.proofs.Common.{◌≡◌, ◌≢◌, ◌∙◌, ◌⊎◌, inl, inr, ℕ, List, Bool, true, false, refl, sym, arith}
use Rattle.std.specs.List.{list_all}
use Rattle.std.specs.Prelude.{if◌then◌else◌}
use Rattle.nomos_answers.specs.TalkDue.{talk_status}
use Rattle.nomos_legal.specs.declared.journal.Entry.{Entry}
use Rattle.nomos_report.specs.Reported.{is_well, run_status}
use Rattle.nomos_top.specs.Seen.{IsDone}

done-cases : (well : Bool) → IsDone (if well then 0 else 3)
done-cases true = inl refl
done-cases false = inr refl

-- the status of what was carried out
pub done-status : (entries : List Entry) → IsDone (run_status entries)
done-status entries = done-cases (list_all (λ e. is_well e.end) entries)

-- and of a talk behind it
pub done-talk : (fine : Bool) (entries : List Entry) → IsDone (talk_status fine entries)
done-talk true entries = done-status entries
done-talk false entries = inr refl

pub done-not : (status n : ℕ) → IsDone status → n ≢ 0 → n ≢ 3 → status ≢ n
done-not status n (inl is) zero three same = zero (sym same ∙ is)
done-not status n (inr is) zero three same = three (sym same ∙ is)

-- ---- what is never due behind acceptance

-- the statuses of what is not carried out behind acceptance
abbrev pub IsMissedStatus : ℕ → Type 0
IsMissedStatus status =
    (status ≡ 5) ⊎ ((status ≡ 2) ⊎ ((status ≡ 9) ⊎ ((status ≡ 10) ⊎ (status ≡ 11))))

pub missed-not : (status n : ℕ) → IsMissedStatus status → n ≢ 5 → n ≢ 2 → n ≢ 9 → n ≢ 10 → n ≢ 11 → status ≢ n
missed-not status n (inl is) five two nine ten eleven same = five (sym same ∙ is)
missed-not status n (inr (inl is)) five two nine ten eleven same = two (sym same ∙ is)
missed-not status n (inr (inr (inl is))) five two nine ten eleven same = nine (sym same ∙ is)
missed-not status n (inr (inr (inr (inl is)))) five two nine ten eleven same = ten (sym same ∙ is)
missed-not status n (inr (inr (inr (inr is)))) five two nine ten eleven same = eleven (sym same ∙ is)

-- none of them is that of what was done
pub missed-undone : {status other : ℕ} → IsMissedStatus status → other ≡ status → IsDone other → ⊥
missed-undone (inl five) same (inl zero) = omega (arith, five, same, zero)
missed-undone (inl five) same (inr three) = omega (arith, five, same, three)
missed-undone (inr (inl two)) same (inl zero) = omega (arith, two, same, zero)
missed-undone (inr (inl two)) same (inr three) = omega (arith, two, same, three)
missed-undone (inr (inr (inl nine))) same (inl zero) = omega (arith, nine, same, zero)
missed-undone (inr (inr (inl nine))) same (inr three) = omega (arith, nine, same, three)
missed-undone (inr (inr (inr (inl ten)))) same (inl zero) = omega (arith, ten, same, zero)
missed-undone (inr (inr (inr (inl ten)))) same (inr three) = omega (arith, ten, same, three)
missed-undone (inr (inr (inr (inr eleven)))) same (inl zero) = omega (arith, eleven, same, zero)
missed-undone (inr (inr (inr (inr eleven)))) same (inr three) = omega (arith, eleven, same, three)
