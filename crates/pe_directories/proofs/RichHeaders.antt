-- The search for a Rich header, from the last word back.
use Rattle.std.proofs.Common.{◌≡◌, ℕ, suc, ◌-◌, ◌/◌, ◌<◌, ◌≤◌, ◌==◌, false, List, length, Option, Some, None, sym, ap, subst, ◌∙◌, arith, if◌then◌else◌}
use Rattle.pe_directories.proofs.Cited.{is_some, option_map, IfSome, Rich, last_rich, next_rich, rich_from, rich_header, rich_view, word}
use Rattle.pe_directories.specs.declared.rich_header.RichHeader.{RichHeader}

-- no header starts at one of the n words from index left on, and next is the next word Rich from there
pub record WordsLeft (b : List ℕ) (n left : ℕ) (next : Option ℕ) : Type 0 where
  pub within : left ≤ n
  pub header : rich_header b ≡ last_rich b n left
  pub is_next : next ≡ next_rich b left (n - left)
  pub below : IfSome next (λ end. end < n)

-- the next word Rich from this one on
abbrev pub rich_or : List ℕ → ℕ → Option ℕ → Option ℕ
rich_or b k next = if word b k == 0x68636952 then Some k else next

next_one : (b : List ℕ) (n k : ℕ) (next : Option ℕ) → k < n → next ≡ next_rich b (suc k) (n - suc k) → rich_or b k next ≡ next_rich b k (n - k)
unfolding next_rich
next_one b n k next below is = grind arith

pub all_left : (b : List ℕ) (left : ℕ) → left ≡ length b / 4 - 1 → WordsLeft b (length b / 4 - 1) left None
unfolding rich_header next_rich
all_left b left is = subst (λ n. WordsLeft b n left None) is (grind arith)

none_seen : (h : Option RichHeader) → is_some h ≡ false → option_map rich_view h ≡ None
none_seen h e = grind arith

pub one_passed : (b : List ℕ) (n left k : ℕ) (next now : Option ℕ) (h : Option RichHeader) → WordsLeft b n left next → left ≡ suc k → now ≡ rich_or b k next
    → option_map rich_view h ≡ rich_from b k now → is_some h ≡ false → WordsLeft b n k now
unfolding last_rich
one_passed b n left k next now h w is found seen none = grind (arith, next_one, sym seen ∙ none_seen h none)

-- at one that starts a header
pub header_found : (b : List ℕ) (n left k : ℕ) (next now : Option ℕ) (h : Rich) → WordsLeft b n left next → left ≡ suc k → now ≡ rich_or b k next → rich_from b k now ≡ Some h → rich_header b ≡ Some h
unfolding last_rich
header_found b n left k next now h w is found some = grind (arith, next_one)

-- after all words
pub none_found : (b : List ℕ) (n left : ℕ) (next : Option ℕ) → WordsLeft b n left next → left ≡ 0 → rich_header b ≡ None
unfolding last_rich
none_found b n left next w is = w.header ∙ ap (last_rich b n) is
