-- The load that `bench` runs: bids that are drawn from a seed, and the script in which they are placed.
use Rattle.std.specs.Prelude.{◌+◌, ◌*◌, ◌/◌, ◌%◌, ◌^◌, ℕ, suc, zero, List, [], ◌++◌, codes, decimal}

-- The text of the auction that is run. It has wallets that coins are stored in, and an auction that keeps the best coin
-- and gives each other one back to a wallet. It has those who place bids and ask for the best.
unfoldable pub auction_text : List ℕ
auction_text =
    codes "type R coin = &{ value : int /\\ coin | melt : 1 };\n"
    ++ codes "type S wallet = up &{ store : coin -o down wallet | total : int /\\ down wallet };\n"
    ++ codes "type S auction = up <{2}| &{ bid : coin -o wallet -o down auction | high : int /\\ down auction };\n"
    ++ codes "proc R mint(v: int;) : coin = case self { value => put self v; call mint(v;) | melt => close };\n"
    ++ codes "proc S keep(sum: int;) : wallet =\n"
    ++ codes "  accept;\n"
    ++ codes "  case self {\n"
    ++ codes "    store => recv self c; c.value; take c v; c.melt; wait c; detach; call keep(sum + v;)\n"
    ++ codes "  | total => put self sum; detach; call keep(sum;) };\n"
    ++ codes "proc S open(best: int; top: coin, who: wallet) : auction =\n"
    ++ codes "  accept; get self {2};\n"
    ++ codes "  case self {\n"
    ++ codes "    bid => recv self c; recv self w; c.value; take c v; work {2};\n"
    ++ codes "      if best < v {\n"
    ++ codes "        acquire who as x; x.store; send x top; release x as who2;\n"
    ++ codes "        detach; call open(v; c, w)\n"
    ++ codes "      } else {\n"
    ++ codes "        acquire w as y; y.store; send y c; release y as w2;\n"
    ++ codes "        detach; call open(best; top, who)\n"
    ++ codes "      }\n"
    ++ codes "  | high => work {2}; put self best; detach; call open(best; top, who) };\n"
    ++ codes "proc S start(reserve: int; seller: wallet) : auction =\n"
    ++ codes "  spawn c = mint(0;); call open(reserve; c, seller);\n"
    ++ codes "proc T place(v: int; a: auction, w: wallet) {3} =\n"
    ++ codes "  work {1}; spawn c = mint(v;); acquire a as x; pay x {2}; x.bid;\n"
    ++ codes "  send x c; send x w; release x as a2; emit v; close;\n"
    ++ codes "proc T ask(; a: auction) {2} =\n"
    ++ codes "  acquire a as x; pay x {2}; x.high; take x v; release x as a2; emit v; close;\n"

-- the number that is drawn behind this one
abbrev pub next_draw : ℕ → ℕ
next_draw z = (6364136223846793005 * z + 1442695040888963407) % 2 ^ 64

-- the numbers that are drawn: before them is the seed
abbrev pub drawn_at : ℕ → ℕ → ℕ
drawn_at seed zero = seed
drawn_at seed (suc k) = next_draw (drawn_at seed k)

-- the bid for a number, from 1 to 1000
abbrev pub bid_for : ℕ → ℕ
bid_for z = 1 + (z / 2 ^ 33) % 1000

-- the bid of bidder k, where the first is bidder 1
abbrev pub bid : ℕ → ℕ → ℕ
bid seed k = bid_for (drawn_at seed k)

-- a bidder deposits gas, makes a wallet, and places a bid
abbrev pub gas_line : ℕ → List ℕ
gas_line k = codes "deposit u" ++ decimal k ++ codes " 3\n"

-- A bidder makes a wallet that holds nothing yet, paid from that bidder's account.
abbrev pub wallet_line : ℕ → List ℕ
wallet_line k = codes "let w" ++ decimal k ++ codes " = new u" ++ decimal k ++ codes " keep(0;)\n"

-- A bidder places a bid of this amount at the auction, and names the wallet for coins that are given back.
abbrev pub bid_line : ℕ → ℕ → List ℕ
bid_line k amount =
    codes "exec u" ++ decimal k ++ codes " place(" ++ decimal amount ++ codes "; auc, w" ++ decimal k ++ codes ")\n"

-- What one bidder does, line by line: deposit gas, make a wallet, place a bid.
abbrev pub bidder_lines : ℕ → ℕ → List ℕ
bidder_lines k amount = gas_line k ++ wallet_line k ++ bid_line k amount

-- what the bidders do, from the first to this one
abbrev pub bidders_lines : ℕ → ℕ → List ℕ
bidders_lines seed zero = []
bidders_lines seed (suc k) = bidders_lines seed k ++ bidder_lines (suc k) (bid seed (suc k))

-- the seller makes a wallet and an auction, the bidders place their bids, and the seller asks for the best
unfoldable pub load_script : ℕ → ℕ → List ℕ
load_script seed bidders =
    codes "deposit seller 2\nlet ws = new seller keep(0;)\nlet auc = new seller start(0; ws)\n"
    ++ bidders_lines seed bidders ++ codes "exec seller ask(; auc)\n"
