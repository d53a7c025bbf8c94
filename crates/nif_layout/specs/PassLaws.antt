-- Laws of passing from point to point of a file: bytes and nodes one behind another.
use Rattle.std.proofs.Common.{◌≡◌, ℕ, ◌+◌, ◌<◌, ◌≤◌, List, ◌++◌, length, refl, sym, ◌∙◌, ap, arith, append_assoc, length-append}
use Rattle.std.proofs.lemmas.List.{append_cancel_left}
use Rattle.nif_base.specs.Limits.{most_file_bytes, most_nodes}
use Rattle.nif_layout.specs.Fault.{Point, Passes, one_more}

-- the point behind these bytes and nodes, before the rest of them
pub split : (s t : List ℕ) (m n : ℕ) (at next : Point) → Passes (s ++ t) (m + n) at next
    → (mid : Point) × Passes s m at mid × Passes t n mid next
split s t m n at next p =
    let mid : Point = record { nodes = at.nodes + m; place = at.place + length s; left = t ++ next.left } in
    let len : length (s ++ t) ≡ length s + length t = length-append s t in
    let behind : next.place ≡ at.place + length (s ++ t) = p.place in
    let count : next.nodes ≡ at.nodes + (m + n) = p.nodes in
    let w : next.place ≤ most_file_bytes = p.within in
    let c : next.nodes ≤ most_nodes = p.counted in (
      mid,
      record {
        here = p.here
            ∙ append_assoc s t next.left;
        place = refl;
        nodes = refl;
        within = omega arith;
        counted = omega arith;
      },
      record { here = refl; place = omega arith; nodes = omega arith; within = w; counted = c },
    )

pub join : (s t : List ℕ) (m n : ℕ) (at mid next : Point) → Passes s m at mid → Passes t n mid next
    → Passes (s ++ t) (m + n) at next
join s t m n at mid next p q =
    let len : length (s ++ t) ≡ length s + length t = length-append s t in
    let pp : mid.place ≡ at.place + length s = p.place in
    let qp : next.place ≡ mid.place + length t = q.place in
    let pn : mid.nodes ≡ at.nodes + m = p.nodes in
    let qn : next.nodes ≡ mid.nodes + n = q.nodes in
    record {
      here = p.here ∙ ap (λ x. s ++ x) q.here ∙ sym (append_assoc s t next.left);
      place = omega arith;
      nodes = omega arith;
      within = q.within;
      counted = q.counted;
    }

-- The first of the nodes can be counted before the bytes.
pub count_in : (s : List ℕ) (n : ℕ) (at next : Point) → Passes s (1 + n) at next
    → (at.nodes < most_nodes) × Passes s n (one_more at) next
count_in s n at next p =
    let pn : next.nodes ≡ at.nodes + (1 + n) = p.nodes in
    let c : next.nodes ≤ most_nodes = p.counted in
    (omega arith, record { here = p.here; place = p.place; nodes = omega arith; within = p.within; counted = c })

pub count_out : (s : List ℕ) (n : ℕ) (at next : Point) → Passes s n (one_more at) next → Passes s (1 + n) at next
count_out s n at next p =
    let pn : next.nodes ≡ at.nodes + 1 + n = p.nodes in
    record { here = p.here; place = p.place; nodes = omega arith; within = p.within; counted = p.counted }

-- Only one point lies behind given bytes and nodes.
pub one_point : (s : List ℕ) (n : ℕ) (at p q : Point) → Passes s n at p → Passes s n at q → p ≡ q
one_point s n at p q hp hq =
    let l : p.left ≡ q.left = append_cancel_left s p.left q.left (sym hp.here ∙ hq.here) in
    let pl : p.place ≡ q.place = hp.place ∙ sym hq.place in
    let no : p.nodes ≡ q.nodes = hp.nodes ∙ sym hq.nodes in
    λ i. record { nodes = no i; place = pl i; left = l i }
