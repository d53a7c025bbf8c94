-- A sized string that is read, and why it isn't.
use Rattle.std.proofs.Common.{◌≡◌, ℕ, ◌+◌, ◌^◌, ◌<◌, Bool, true, false, if◌then◌else◌, ◌&&◌, Option, Some, None, List, [], ◌++◌, length, refl, sym, ◌∙◌, ap, subst, arith, length-append, ltb, ltb-true, lt-ltb, le-ltb}
use Rattle.nif_base.specs.Outside.{prepended}
use Rattle.nif_base.specs.declared.orders.Order.{Order}
use Rattle.nif_base.specs.Node.{number, is_little}
use Rattle.nif_stream.specs.declared.takers.Taker.{Taker}
use Rattle.nif_stream.specs.Taking.{Takes, left_of}
use Rattle.nif_stream.specs.TakerLaws.{takes_joined}
use Rattle.nif_base.specs.Limits.{most_file_bytes}
use Rattle.nif_layout.specs.Fault.{Fault, Ended, TooLong, Point}
use Rattle.nif_layout.specs.LeafFault.{shortage, number_at}
use Rattle.nif_layout.specs.ByteLaws.{length_number}
use Rattle.nif_layout.specs.ByteLaws.{number_again}
use Rattle.nif_decode.specs.declared.faults.ValueFault.{ValueFault}
use Rattle.nif_decode.specs.Answers.{Ends}
use Rattle.nif_decode.specs.Faults.{cause}
use Rattle.nif_file.specs.HeaderReading.{fault_of}
use Rattle.nif_file.specs.Files.{sized_string}
use Rattle.nif_file.specs.FileFails.{PartFails, sized_needs}
use Rattle.nif_file_reader.specs.Halting.{Halts}
use Rattle.nif_file_reader.proofs.Halting.{halts_also, halts_value}

-- what lacks its length lacks what it needs
sized_short : (order : Order) (at : Point) (fault : Fault) → shortage 4 at ≡ Some fault → shortage (sized_needs order at.left) at ≡ Some fault
sized_short order at fault e = by (ltb (length at.left) 4) refl
  where
    n : ℕ
    n = number_at (is_little order) 4 at.left

    long : (a b : Bool) → ltb most_file_bytes (at.place + 4) ≡ a → ltb most_file_bytes (at.place + length at.left) ≡ b → (if a && b then Some TooLong else None) ≡ Some fault → shortage (4 + n) at ≡ Some fault
    long true true p q h =
        let far : ltb most_file_bytes (at.place + (4 + n)) ≡ true = lt-ltb most_file_bytes (at.place + (4 + n)) (let l = ltb-true most_file_bytes (at.place + 4) p in omega arith) in
        rw (far, q) h
    long true false p q h = absurd (cc)
    long false b p q h = absurd (cc)

    by : (b : Bool) → ltb (length at.left) 4 ≡ b → shortage (sized_needs order at.left) at ≡ Some fault
    by true short =
        let needs : sized_needs order at.left ≡ 4 = ap (λ (b : Bool). if b then 4 else 4 + n) short in
        subst (λ k. shortage k at ≡ Some fault) (sym needs) e
    by false there =
        let needs : sized_needs order at.left ≡ 4 + n = ap (λ (b : Bool). if b then 4 else 4 + n) there in
        let tests : (if ltb most_file_bytes (at.place + 4) && ltb most_file_bytes (at.place + length at.left) then Some TooLong else None) ≡ Some fault =
        subst (λ (b : Bool). (if ltb most_file_bytes (at.place + 4) && ltb most_file_bytes (at.place + length at.left) then Some TooLong else if b then Some (Ended at.place) else None) ≡ Some fault) there e in
        subst (λ k. shortage k at ≡ Some fault) (sym needs) (long (ltb most_file_bytes (at.place + 4)) (ltb most_file_bytes (at.place + length at.left)) refl refl tests)

-- behind its length it needs so many bytes
sized_long : (order : Order) (n : ℕ) (rest : List ℕ) → n < 256 ^ 4 → sized_needs order (number (is_little order) 4 n ++ rest) ≡ length (number (is_little order) 4 n) + n
sized_long order n rest small =
    let l : length (number (is_little order) 4 n) ≡ 4 = length_number (is_little order) 4 n in
    let a : length (number (is_little order) 4 n ++ rest) ≡ length (number (is_little order) 4 n) + length rest = length-append (number (is_little order) 4 n) rest in
    let there : ltb (length (number (is_little order) 4 n ++ rest)) 4 ≡ false = le-ltb (length (number (is_little order) 4 n ++ rest)) 4 (omega arith) in
    let v : number_at (is_little order) 4 (number (is_little order) 4 n ++ rest) ≡ n = number_again (is_little order) 4 n rest small in
    ap (λ (b : Bool). if b then 4 else 4 + number_at (is_little order) 4 (number (is_little order) 4 n ++ rest)) there ∙ ap (λ m. 4 + m) v ∙ ap (λ m. m + n) (sym l)

behind_front : (front : List ℕ) (p : Option (List ℕ)) (o : Option (List ℕ)) (bytes : List ℕ) → o ≡ prepended front p → o ≡ Some bytes → (rest : List ℕ) × (bytes ≡ front ++ rest)
behind_front front None o bytes e told = absurd (let no : ◌≡◌ {A = Option (List ℕ)} None (Some bytes) = sym e ∙ told in cc)
behind_front front (Some rest) o bytes e told = (rest, let same : ◌≡◌ {A = Option (List ℕ)} (Some (front ++ rest)) (Some bytes) = sym e ∙ told in cc)

module _ {T : Type 0} (left : T → Option (List ℕ)) (still : T → T → Type 0) (faults : T → ℕ) where
  -- a part of so many bytes isn't there
  pub part_halts : (k nodes : ℕ) (old new : Taker T) (fault : ValueFault) → Ends left still faults (shortage k) old new (cause fault) → Halts left still faults (λ total. PartFails total k) nodes old new (fault_of fault)
  part_halts k nodes old new fault e =
      halts_also left still faults _ (λ total. PartFails total k) nodes old new (fault_of fault) (λ total at stop n p l bad. (bad.0, bad.2, bad.1))
      (halts_value left still faults (λ p f. shortage k p ≡ Some f) nodes old new fault e.went (e.stops nodes None []))

  module _ (order : Order) (nodes : ℕ) (old : Taker T) where
    -- its length isn't there
    pub length_halts : (new : Taker T) (fault : ValueFault) → Ends left still faults (shortage 4) old new (cause fault) → Halts left still faults (λ total at stop. PartFails total (sized_needs order at.left) at stop) nodes old new (fault_of fault)
    length_halts new fault e =
        halts_also left still faults (λ total. PartFails total 4) (λ total at stop. PartFails total (sized_needs order at.left) at stop) nodes old new (fault_of fault)
        (λ total at stop n p l bad. (bad.0, sized_short order at bad.0 bad.1, bad.2)) (part_halts 4 nodes old new fault e)

    -- its bytes aren't there
    pub bytes_halt : (mid new : Taker T) (n : ℕ) (fault : ValueFault) → n < 256 ^ 4 → Takes left still faults old (number (is_little order) 4 n) mid
        → Ends left still faults (shortage (length (number (is_little order) 4 n) + n)) old new (cause fault) → Halts left still faults (λ total at stop. PartFails total (sized_needs order at.left) at stop) nodes old new (fault_of fault)
    bytes_halt mid new n fault small t e =
        let front = number (is_little order) 4 n in
        halts_also left still faults (λ total. PartFails total (length front + n)) (λ total at stop. PartFails total (sized_needs order at.left) at stop) nodes old new (fault_of fault)
        (λ total at stop m p l bad.
        let b = behind_front front (left_of left mid) (left_of left old) at.left t.given l in
        let needs : length front + n ≡ sized_needs order at.left = sym (sized_long order n b.0 small) ∙ ap (sized_needs order) (sym b.1) in
        (bad.0, subst (λ k. shortage k at ≡ Some bad.0) needs bad.1, bad.2)) (part_halts (length front + n) nodes old new fault e)

    -- it is read
    pub sized_taken : (mid new : Taker T) (n : ℕ) (name : List ℕ) → Takes left still faults old (number (is_little order) 4 n) mid → Takes left still faults mid name new → length name ≡ n → Takes left still faults old (sized_string order name) new
    sized_taken mid new n name t u long =
        takes_joined left still faults old mid new (number (is_little order) 4 n) name (sized_string order name) t u (ap (λ k. number (is_little order) 4 k ++ name) (sym long))
