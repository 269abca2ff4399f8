-- How large bids and the script of a load are.
use Rattle.std.proofs.Common.{ℕ, ◌≤◌, ◌*◌, suc, zero, ◌++◌, length, arith, length-append}
use Rattle.std.specs.Prelude.{codes, decimal}
use Rattle.std.proofs.lemmas.Fmt.{length-decimal-le}
use Rattle.nomos_words.specs.BenchLoad.{bid, bid_line, bidder_lines, bidders_lines, gas_line, load_script, wallet_line}

-- a bid is from 1 to 1000
pub bid_within : (seed k : ℕ) → (1 ≤ bid seed k) × (bid seed k ≤ 1000)
bid_within seed k = (omega arith, omega arith)

gas_line-short : (k : ℕ) → length (decimal k) ≤ 5 → length (gas_line k) ≤ 17
gas_line-short k short = omega (arith, short, length-append (decimal k) (codes " 3\n"))

wallet_line-short : (k : ℕ) → length (decimal k) ≤ 5 → length (wallet_line k) ≤ 33
wallet_line-short k short =
    let d = decimal k in
    let new = codes " = new u" in
    omega (
      arith,
      short,
      length-append ((d ++ new) ++ d) (codes " keep(0;)\n"),
      length-append (d ++ new) d,
      length-append d new,
    )

bid_line-short : (k amount : ℕ) → length (decimal k) ≤ 5 → length (decimal amount) ≤ 4 → length (bid_line k amount) ≤ 37
bid_line-short k amount short few =
    let d = decimal k in
    let b = decimal amount in
    let place = codes " place(" in
    let auction = codes "; auc, w" in
    omega (
      arith,
      short,
      few,
      length-append ((((d ++ place) ++ b) ++ auction) ++ d) (codes ")\n"),
      length-append (((d ++ place) ++ b) ++ auction) d,
      length-append ((d ++ place) ++ b) auction,
      length-append (d ++ place) b,
      length-append d place,
    )

bidder_lines-short : (k amount : ℕ) → k ≤ 10000 → amount ≤ 1000 → length (bidder_lines k amount) ≤ 87
bidder_lines-short k amount few small =
    let d : length (decimal k) ≤ 5 = length-decimal-le 5 k (omega arith) (omega (arith, few)) (omega (arith, few)) in
    let b : length (decimal amount) ≤ 4 =
    length-decimal-le 4 amount (omega arith) (omega (arith, small)) (omega (arith, small)) in
    omega (
      arith,
      gas_line-short k d,
      wallet_line-short k d,
      bid_line-short k amount d b,
      length-append (gas_line k ++ wallet_line k) (bid_line k amount),
      length-append (gas_line k) (wallet_line k),
    )

bidders_lines-short : (seed k : ℕ) → k ≤ 10000 → length (bidders_lines seed k) ≤ 87 * k
bidders_lines-short seed zero few = omega arith
bidders_lines-short seed (suc k) few =
    let before = bidders_lines-short seed k (omega (arith, few)) in
    let one = bidder_lines-short (suc k) (bid seed (suc k)) few (bid_within seed (suc k)).1 in
    omega (arith, before, one, length-append (bidders_lines seed k) (bidder_lines (suc k) (bid seed (suc k))))

-- the script of a load has at most as many bytes as a script may have
pub load_script-short : (seed bidders : ℕ) → bidders ≤ 10000 → length (load_script seed bidders) ≤ 1048576
unfolding load_script
load_script-short seed bidders few =
    let lines = bidders_lines seed bidders in
    omega (
      arith,
      few,
      bidders_lines-short seed bidders few,
      length-append lines (codes "exec seller ask(; auc)\n"),
    )
