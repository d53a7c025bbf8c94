-- A zero word that isn't zero.
use Rattle.std.proofs.Common.{◌≡◌, ◌≢◌, ◌+◌, ◌^◌, ◌<◌, ◌≤◌, ℕ, true, false, Option, Some, None, List, ◌++◌, inr, length, refl, sym, ◌∙◌, ap, arith, length-append, ltb, le-ltb}
use Rattle.nif_base.specs.declared.orders.Order.{Order}
use Rattle.nif_base.specs.Node.{number, is_little}
use Rattle.nif_stream.specs.declared.takers.Taker.{Taker}
use Rattle.nif_stream.specs.Taking.{Takes, place_of, left_of}
use Rattle.nif_layout.specs.Earlier.{Env}
use Rattle.nif_base.specs.Limits.{most_file_bytes}
use Rattle.nif_layout.specs.Fault.{Point}
use Rattle.nif_layout.specs.LeafFault.{shortage, number_at}
use Rattle.nif_layout.specs.ByteLaws.{length_number}
use Rattle.nif_layout.specs.ByteLaws.{number_again}
use Rattle.nif_file.specs.declared.faults.FileFault.TheVariants as file
use Rattle.nif_file.specs.Head.{order_in}
use Rattle.nif_file.specs.FileFails.{ZeroFailsBy}
use Rattle.nif_file_reader.specs.Halting.{Halts}
use Rattle.nif_file_reader.proofs.Halting.{halts_known}

-- what is there lacks nothing
enough : (at : Point) (k : ℕ) → at.place + k ≤ most_file_bytes → k ≤ length at.left → shortage k at ≡ None
enough at k within there =
    let near : ltb most_file_bytes (at.place + k) ≡ false = le-ltb most_file_bytes (at.place + k) within in
    let long : ltb (length at.left) k ≡ false = le-ltb (length at.left) k there in
    rw (near, long) refl

module _ {T : Type 0} (left : T → Option (List ℕ)) (still : T → T → Type 0) (faults : T → ℕ) (E : Env) (block : ℕ) where
  pub check_halts : (order : Order) (nodes : ℕ) (old new : Taker T) (value : ℕ) → order_in E ≡ order → Takes left still faults old (number (is_little order) 4 value) new → value < 256 ^ 4 → (value ≡ 0 → ⊥)
      → Halts left still faults (λ total. ZeroFailsBy true total E block) nodes old new (file.CheckWord block value)
  check_halts order nodes old new value e t small other =
      halts_known left still faults (λ total. ZeroFailsBy true total E block) nodes (place_of new) bytes old new (file.CheckWord block value) t (λ q. absurd (cc)) (omega arith) there
    where
      bytes : List ℕ
      bytes = number (is_little order) 4 value

      four : length bytes ≡ 4
      four = length_number (is_little order) 4 value

      there : file.CheckWord block value ≢ file.NoMemory → (rest : List ℕ) → left_of left new ≡ Some rest
          → ZeroFailsBy true (place_of old + length (bytes ++ rest)) E block (record { nodes = nodes; place = place_of old; left = bytes ++ rest }) (record { fault = file.CheckWord block value; known = place_of new })
      there m rest told =
          let at : Point = record { nodes = nodes; place = place_of old; left = bytes ++ rest } in
          let long : length (bytes ++ rest) ≡ length bytes + length rest = length-append bytes rest in
          let v : number_at (is_little (order_in E)) 4 (bytes ++ rest) ≡ value = ap (λ o. number_at (is_little o) 4 (bytes ++ rest)) e ∙ number_again (is_little order) 4 value rest small in
          let here : place_of new ≡ place_of old + 4 = omega (arith, t.place, four) in
          inr (enough at 4 (omega (arith, t.place, t.within, four)) (omega (arith, long, four)), (λ q. other (sym v ∙ q)), λ i. record { fault = file.CheckWord block (sym v i); known = here i })
