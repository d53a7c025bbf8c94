-- Laws of whether enough bytes stand at a point, and of the point behind them.
use Rattle.std.proofs.Common.{◌≡◌, ℕ, ◌+◌, ◌≤◌, Bool, true, false, Some, None, List, ◌++◌, length, take, refl, sym, ◌∙◌, ap, arith, length-append, le-ltb, ltb, ◌⊎◌, inl, inr, drop, take-append-drop, length-take-le, ltb-true, ltb-false}
use Rattle.nif_base.specs.Limits.{most_file_bytes, most_nodes}
use Rattle.nif_layout.specs.Fault.{Fault, Point, Passes, Ended, TooLong}
use Rattle.nif_layout.specs.LeafFault.{shortage}

pub shortage_tests : (k : ℕ) (at : Point) → at.place + k ≤ most_file_bytes → k ≤ length at.left → shortage k at ≡ None
shortage_tests k at h l =
    let a : ltb most_file_bytes (at.place + k) ≡ false = le-ltb most_file_bytes (at.place + k) h in
    let b : ltb (length at.left) k ≡ false = le-ltb (length at.left) k l in
    rw (a, b) refl

pub no_shortage : (s : List ℕ) (n : ℕ) (at next : Point) → Passes s n at next → shortage (length s) at ≡ None
no_shortage s n at next p =
    let len : length at.left ≡ length s + length next.left = ap length p.here ∙ length-append s next.left in
    let pl : next.place ≡ at.place + length s = p.place in
    let w : next.place ≤ most_file_bytes = p.within in
    shortage_tests (length s) at (omega arith) (omega arith)

-- A shortage, or enough bytes.
abbrev pub Enough : ℕ → Point → Type 0
Enough k at =
    ((f : Fault) × (shortage k at ≡ Some f))
    ⊎ ((shortage k at ≡ None) × (k ≤ length at.left) × (at.place + k ≤ most_file_bytes))

pub enough_by : (k : ℕ) (at : Point) (a b c : Bool) → ltb most_file_bytes (at.place + k) ≡ a
    → ltb most_file_bytes (at.place + length at.left) ≡ b
    → ltb (length at.left) k ≡ c → Enough k at
enough_by k at true true c ea eb ec = inl (TooLong, rw (ea, eb) refl)
enough_by k at true false true ea eb ec = inl (Ended at.place, rw (ea, eb, ec) refl)
enough_by k at true false false ea eb ec =
    let x = ltb-true most_file_bytes (at.place + k) ea in
    let y = ltb-false most_file_bytes (at.place + length at.left) eb in
    let z = ltb-false (length at.left) k ec in absurd (omega arith)
enough_by k at false b true ea eb ec = inl (Ended at.place, rw (ea, ec) refl)
enough_by k at false b false ea eb ec =
    inr (rw (ea, ec) refl, ltb-false (length at.left) k ec, ltb-false most_file_bytes (at.place + k) ea)

pub enough : (k : ℕ) (at : Point) → Enough k at
enough k at = enough_by k at (ltb most_file_bytes (at.place + k)) (ltb most_file_bytes (at.place + length at.left))
    (ltb (length at.left) k) refl refl refl

-- the point behind k bytes
abbrev pub skip : ℕ → Point → Point
skip k at = record { nodes = at.nodes; place = at.place + k; left = drop k at.left }

pub passes_skip : (k : ℕ) (at : Point) (s : List ℕ) → s ≡ take k at.left → k ≤ length at.left
    → at.place + k ≤ most_file_bytes → at.nodes ≤ most_nodes
    → Passes s 0 at (skip k at)
passes_skip k at s e l w n =
    let len : length (take k at.left) ≡ k = length-take-le k at.left l in
    let len' : length s ≡ k = ap length e ∙ len in
    record {
      here = sym (take-append-drop k at.left) ∙ ap (λ x. x ++ drop k at.left) (sym e);
      place = ap (λ x. at.place + x) (sym len');
      nodes = omega arith;
      within = w;
      counted = n;
    }
