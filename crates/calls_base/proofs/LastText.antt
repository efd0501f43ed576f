-- A number after the last one with a text says nothing of its own.
use Rattle.std.proofs.Common.{◌≡◌, ℕ, ◌-◌, ◌≤◌, sym, arith}
use Rattle.calls_base.proofs.Cited.{codes, get_or_past}
use Rattle.calls_base.specs.Texts.{texts, refusal_text, other_texts, other_text, sign_texts, sign_text, edit_texts, edit_text, signature_texts, signature_text, dump_texts, dump_text, pdb_texts, pdb_text}

pub text_past : (n : ℕ) → 39 ≤ n → codes "unknown result" ≡ refusal_text n
unfolding refusal_text
text_past n h = sym (get_or_past texts n (codes "unknown result") (omega arith))

pub other_text_past : (n : ℕ) → 108 ≤ n → codes "unknown result" ≡ other_text n
unfolding other_text
other_text_past n h = sym (get_or_past other_texts (n - 100) (codes "unknown result") (omega arith))

pub sign_text_past : (n : ℕ) → 6 ≤ n → codes "unknown result" ≡ sign_text n
unfolding sign_text
sign_text_past n h = sym (get_or_past sign_texts n (codes "unknown result") (omega arith))

pub edit_text_past : (n : ℕ) → 24 ≤ n → codes "unknown result" ≡ edit_text n
unfolding edit_text
edit_text_past n h = sym (get_or_past edit_texts n (codes "unknown result") (omega arith))

pub signature_text_past : (n : ℕ) → 13 ≤ n → codes "unknown result" ≡ signature_text n
unfolding signature_text
signature_text_past n h = sym (get_or_past signature_texts n (codes "unknown result") (omega arith))

pub dump_text_past : (n : ℕ) → 10 ≤ n → codes "unknown result" ≡ dump_text n
unfolding dump_text
dump_text_past n h = sym (get_or_past dump_texts n (codes "unknown result") (omega arith))

pub pdb_text_past : (n : ℕ) → 27 ≤ n → codes "unknown result" ≡ pdb_text n
unfolding pdb_text
pdb_text_past n h = sym (get_or_past pdb_texts n (codes "unknown result") (omega arith))
