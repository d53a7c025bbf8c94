-- A byte behind the footer.
use Rattle.std.proofs.Common.{◌≡◌, ◌≢◌, ◌+◌, ◌↔◌, ℕ, Bool, true, false, IsTrue, Option, Some, None, List, [], sym, ◌∙◌, ap, subst, arith}
use Rattle.std.specs.Prelude.{IfSome}
use Rattle.nif_base.specs.Outside.{prepended, IsAtEnd}
use Rattle.nif_stream.specs.declared.takers.Taker.{Taker}
use Rattle.nif_stream.specs.Taking.{Takes, place_of, left_of}
use Rattle.nif_file.specs.declared.faults.FileFault.TheVariants as file
use Rattle.nif_file.specs.FileFails.{IsTrailing}
use Rattle.nif_file_reader.specs.Halting.{Halts}
use Rattle.nif_file_reader.proofs.Halting.{halts_known}

some_left : (o : Option (List ℕ)) (b : Bool) (bytes : List ℕ) → IfSome o (λ bytes. IsTrue b ↔ (bytes ≡ [])) → b ≡ false → o ≡ Some bytes → bytes ≢ []
some_left None b bytes h e told none = absurd (cc)
some_left (Some l) b bytes h e told none =
    let same : l ≡ [] = (let s : l ≡ bytes = cc in s ∙ none) in
    let yes : b ≡ true = h.1 same in
    let no : false ≡ true = sym e ∙ yes in
    absurd (cc)

-- nothing is left behind it either
pub end_kept : (o p : Option (List ℕ)) → o ≡ prepended [] p → IsAtEnd o → IsAtEnd p
end_kept o None e end = tt
end_kept o (Some rest) e end = subst IsAtEnd e end

module _ {T : Type 0} (left : T → Option (List ℕ)) (still : T → T → Type 0) (faults : T → ℕ) where
  pub trailing_halts : (nodes : ℕ) (old new : Taker T) (b : Bool) (at : ℕ) → Takes left still faults old [] new → IfSome (left_of left old) (λ bytes. IsTrue b ↔ (bytes ≡ [])) → b ≡ false → at ≡ place_of old
      → Halts left still faults (λ total. IsTrailing) nodes old new (file.Trailing at)
  trailing_halts nodes old new b at t answer isnt same =
      halts_known left still faults (λ total. IsTrailing) nodes (place_of old + 1) [] old new (file.Trailing at) t (λ q. absurd (cc)) (omega (arith, t.place))
      (λ m rest told. (some_left (left_of left old) b rest answer isnt (t.given ∙ ap (prepended []) told), λ i. record { fault = file.Trailing (same i); known = place_of old + 1 }))
