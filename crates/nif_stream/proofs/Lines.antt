-- The fault of a line, from the fault of one of its bytes.
use Rattle.std.proofs.Common.{◌≡◌, ◌≢◌, ℕ, ◌+◌, ◌^◌, ◌<◌, ◌≤◌, List, ◌++◌, length, take, get_or, Option, Some, None, ap, sym, ◌∙◌, refl, subst, arith, length-append, length-take}
use Rattle.std.specs.Prelude.{All, IfSome, position, ◌==◌}
use Rattle.std.specs.Option.{option_map_or}
use Rattle.std.proofs.lemmas.Bool.{eqb-true}
use Rattle.std.proofs.lemmas.List.{get_or-take, get_or_append_left, take_at}
use Rattle.std.proofs.lemmas.List.Quantifiers.{position-Some}
use Rattle.nif_stream.specs.declared.takers.Taker.{Taker}
use Rattle.nif_stream.specs.declared.takers.TakeFault.{TakeFault}
use Rattle.nif_stream.specs.declared.takers.TakeFault.TheVariants.{LineTooLong}
use Rattle.nif_stream.specs.Taking.{place_of, need_fault, line_end, line_fault, asked_at, Reads, Misses}
use Rattle.nif_stream.proofs.Gives.{need_more, no_need, misses_after}

abbrev fault_at : ℕ → List ℕ → Option ℕ → Option TakeFault
fault_at place left found = option_map_or (λ end. need_fault place (end + 1) left) found (option_map_or (λ fault. Some fault) (need_fault place 256 left) (Some LineTooLong))

-- no line ends in bytes without 0x0A
end_behind : (front rest : List ℕ) (end : ℕ) → All (λ c. c ≢ 10) front → line_end (front ++ rest) ≡ Some end → length front ≤ end
end_behind front rest end none e =
    let at = position-Some (λ c. c == 10) (take 256 (front ++ rest)) end 0 e in
    let short : end < 256 = omega (arith, at.0, length-take 256 (front ++ rest)) in
    let no : end < length front → ⊥ = λ h. none end 0 h (sym (get_or_append_left front rest 0 end h) ∙ sym (get_or-take 256 (front ++ rest) end 0 short) ∙ eqb-true (get_or (take 256 (front ++ rest)) end 0) 10 at.1) in
    omega (arith, no)

no_end : (front : List ℕ) (found : Option ℕ) → All (λ c. c ≢ 10) front → position (λ c. c == 10) front ≡ found → found ≡ None
no_end front None none e = refl
no_end front (Some end) none e =
    let at = position-Some (λ c. c == 10) front end 0 e in
    absurd (none end 0 at.0 (eqb-true (get_or front end 0) 10 at.1))

byte_fault_at : (place done : ℕ) (front rest : List ℕ) (fault : TakeFault) (found : Option ℕ) → line_end (front ++ rest) ≡ found → length front ≡ done → done < 256 → All (λ c. c ≢ 10) front → place + done ≤ 2 ^ 26
    → need_fault (place + done) 1 rest ≡ Some fault → fault_at place (front ++ rest) found ≡ Some fault
byte_fault_at place done front rest fault None is long less none within e =
    ap (λ o. option_map_or (λ f. Some f) o (Some LineTooLong)) (need_more place done 256 front rest fault long less within e)
byte_fault_at place done front rest fault (Some end) is long less none within e =
    need_more place done (end + 1) front rest fault long (omega (arith, end_behind front rest end none is)) within e

-- what a byte of a line lacks, the line lacks
byte_fault : (place done : ℕ) (front rest : List ℕ) (fault : TakeFault) → length front ≡ done → done < 256 → All (λ c. c ≢ 10) front → place + done ≤ 2 ^ 26
    → need_fault (place + done) 1 rest ≡ Some fault → line_fault place (front ++ rest) ≡ Some fault
unfolding line_fault
byte_fault place done front rest fault long less none within e = byte_fault_at place done front rest fault (line_end (front ++ rest)) refl long less none within e

-- 256 bytes without 0x0A are no line
pub long_line : (place : ℕ) (front rest : List ℕ) → length front ≡ 256 → All (λ c. c ≢ 10) front → place + 256 ≤ 2 ^ 26 → line_fault place (front ++ rest) ≡ Some LineTooLong
unfolding line_fault
long_line place front rest long none within =
    let end : line_end (front ++ rest) ≡ None = ap (position (λ c. c == 10)) (take_at front rest 256 long) ∙ no_end front _ none refl in
    ap (fault_at place (front ++ rest)) end ∙ ap (λ o. option_map_or (λ f. Some f) o (Some LineTooLong)) (no_need place 256 (front ++ rest) within (omega (arith, long, length-append front rest)))

pub long_line_told : (o : Option (List ℕ)) (place : ℕ) (front : List ℕ) → length front ≡ 256 → All (λ c. c ≢ 10) front → place + 256 ≤ 2 ^ 26 → IfSome o (λ rest. line_fault place (front ++ rest) ≡ Some LineTooLong)
long_line_told None place front long none within = tt
long_line_told (Some rest) place front long none within = long_line place front rest long none within

-- a byte of a line was not given
pub misses_line : {S : Type 0} (left : S → Option (List ℕ)) (still : S → S → Type 0) (faults : S → ℕ) (a b c : Taker S) (x : List ℕ) (done : ℕ) (fault : TakeFault) → Reads left still faults a x b
    → length x ≡ done → done < 256 → All (λ c. c ≢ 10) x → place_of b + done ≤ 2 ^ 26 → Misses left still faults b (need_fault (place_of b + done) 1) 0 c fault
    → Misses left still faults a (line_fault (place_of a)) (asked_at (place_of a) 256) c fault
misses_line left still faults a b c x done fault p long less none within q =
    misses_after left still faults a b c x (need_fault (place_of b + done) 1) (line_fault (place_of a)) 0 (asked_at (place_of a) 256) fault p q (omega (arith, p.place))
    (λ rest e. byte_fault (place_of a) done x rest fault long less none (omega (arith, p.place)) (subst (λ place. need_fault (place + done) 1 rest ≡ Some fault) p.place e))
