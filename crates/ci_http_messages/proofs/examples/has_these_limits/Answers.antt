use Rattle.std.proofs.Common.{◌≡◌, refl, ℕ, ◌≤◌, List, [], length, take, drop, count_by, true, false, ltb, Some, None, arith}
use Rattle.std.proofs.lemmas.Bool.{le-ltb, lt-ltb}
use Rattle.std.proofs.lemmas.List.{take_all, drop_all}
use Rattle.ci_http_messages.specs.Prelude.{short, too_large, opened, head_len, is_line_feed, opening_of}
use Rattle.ci_http_messages.proofs.examples.has_these_limits.Goals as goal

-- a text that is no longer than a head may be is opened as a whole
opened_whole : (bytes : List ℕ) (n : ℕ) → length bytes ≤ 8192 → length bytes ≤ n → head_len bytes ≡ Some n → count_by is_line_feed bytes ≤ 34
    → opening_of bytes ≡ (opened bytes, [])
opened_whole bytes n size ends head feeds =
    let whole : take 8192 bytes ≡ bytes = take_all 8192 bytes size in
    let all : take n bytes ≡ bytes = take_all n bytes ends in
    let none : drop n bytes ≡ [] = drop_all n bytes ends in
    let few : ltb 34 (count_by is_line_feed bytes) ≡ false = le-ltb 34 (count_by is_line_feed bytes) feeds in
    simp (whole, head, all, none, few) refl

pub returns-clause-longest_head : goal.returns-clause-longest_head
returns-clause-longest_head c = λ bytes size head feeds. opened_whole bytes 8192 (omega (arith, size)) (omega (arith, size)) head feeds

-- a text without the end of a head is too large a head once it has as many bytes as one may have
too_large_at : (bytes : List ℕ) → length bytes ≡ 8192 → head_len bytes ≡ None → opening_of bytes ≡ (too_large, [])
too_large_at bytes size head =
    let whole : take 8192 bytes ≡ bytes = take_all 8192 bytes (omega (arith, size)) in
    let none : drop 8192 bytes ≡ [] = drop_all 8192 bytes (omega (arith, size)) in
    let full : ltb (length bytes) 8192 ≡ false = le-ltb (length bytes) 8192 (omega (arith, size)) in
    simp (whole, head, full, none) refl

pub returns-clause-long_head : goal.returns-clause-long_head
returns-clause-long_head c = too_large_at

-- with one byte less it may go on
short_at : (bytes : List ℕ) → length bytes ≡ 8191 → head_len bytes ≡ None → opening_of bytes ≡ (short, [])
short_at bytes size head =
    let whole : take 8192 bytes ≡ bytes = take_all 8192 bytes (omega (arith, size)) in
    let few : ltb (length bytes) 8192 ≡ true = lt-ltb (length bytes) 8192 (omega (arith, size)) in
    simp (whole, head, few) refl

pub returns-clause-unended_head : goal.returns-clause-unended_head
returns-clause-unended_head c = short_at
