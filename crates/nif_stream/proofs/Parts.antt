-- Parts of a buffer.
use Rattle.std.proofs.Common.{◌≡◌, ℕ, ◌+◌, ◌-◌, ◌≤◌, List, ◌++◌, length, take, drop, arith, ap, sym, ◌∙◌, length-drop, length-take, length-append}
use Rattle.std.specs.Prelude.{slice_range}
use Rattle.std.proofs.lemmas.List.{take_at, take-append-le, take-append-drop, drop-drop, drop-take}
use Rattle.std.proofs.Math.Seq.{take-append-add}
use borrow.Rule.Slice.PartMut.{put_mid, post_of}

-- the first n bytes of a part, and what is behind them
pub given_range : (buf : List ℕ) (from to n : ℕ) (copied tail : List ℕ) → from ≤ to → to ≤ length buf → n ≤ to - from
    → copied ≡ take n (slice_range buf from to)
    → slice_range buf from to ≡ take n (copied ++ tail) ++ slice_range buf (from + n) to
given_range buf from to n copied tail ordered within fits is =
    let part = slice_range buf from to in
    let rest = to - (from + n) in
    let sum : to - from ≡ n + rest = omega arith in
    let size : length part ≡ to - from = length-take (to - from) (drop from buf) ∙ omega (arith, length-drop from buf) in
    let long : length copied ≡ n = ap length is ∙ length-take n part ∙ omega arith in
    let dropped : drop n part ≡ slice_range buf (from + n) to =
    ap (λ k. drop n (take k (drop from buf))) sum ∙ drop-take n rest (drop from buf) ∙ ap (take rest) (drop-drop n from buf) in
    sym (take-append-drop n part) ∙ ap (λ l. l ++ drop n part) (sym (take_at copied tail n long ∙ is)) ∙ ap (λ l. take n (copied ++ tail) ++ l) dropped

-- a buffer filled to f, and then with n more
pub filled_more : (f n k : ℕ) (xs part : List ℕ) → f ≤ length xs → n ≤ length part → take f xs ++ take n part ≡ take (f + n) (put_mid f k xs part)
filled_more f n k xs part within fits =
    sym (ap (λ m. take (m + n) (put_mid f k xs part)) (sym (length-take f xs ∙ omega arith))
    ∙ take-append-add (take f xs) (part ++ post_of f k xs) n
    ∙ ap (λ l. take f xs ++ l) (take-append-le n part (post_of f k xs) fits))

pub filled_fits : (f n k : ℕ) (xs part : List ℕ) → f ≤ length xs → n ≤ length part → f + n ≤ length (put_mid f k xs part)
filled_fits f n k xs part within fits = omega (arith, length-append (take f xs) (part ++ post_of f k xs), length-append part (post_of f k xs), length-take f xs)
