use Rattle.std.proofs.Common.{ℕ, suc, ◌≡◌, ◌+◌, ◌<◌, List, [], ◌∷◌, ◌++◌, length, take, get_or, refl, sym, ap, ◌∙◌, subst, arith}
use Rattle.std.proofs.lemmas.List.{take_more, take_all, length-take-le}
use Rattle.nif_region.specs.Contents.{Contents}
use Rattle.nif_cells.specs.Encoding.{index_from}
use Rattle.nif_cells.specs.declared.contents.Content.TheVariants.{Place}
use Rattle.nif_cells.specs.CellLaws.{index-length}
use Rattle.nif_value.specs.Built.{Puts}
use Rattle.nif_value.proofs.Standing.{puts-none, puts-more, may-put}
use Rattle.nif_value.proofs.builders.put_index.Goals as goal

pub loop-place-init : goal.loop-place-init
loop-place-init c = record { puts = puts-none c.args.region.now c.requires.before c.requires.is; number_is = refl }

pub overflow_add-number : goal.overflow_add-number
overflow_add-number c = omega (arith, c.requires.few, c.loop-place.invariant.number_is)

pub put-requires : goal.put-requires
put-requires c =
    let n = index-length 0 (take c.loop-place.place-index c.args.references.now) in
    let m = length-take-le c.loop-place.place-index c.args.references.now (omega arith) in
    may-put 1 c.requires c.loop-place.invariant.puts (omega arith)

index-more : (number : ℕ) (places : List ℕ) (place : ℕ) → index_from number (places ++ place ∷ []) ≡ index_from number places ++ Place (number + length places + 1) place ∷ []
index-more number [] place = ap (λ n. Place n place ∷ []) (let e : suc number ≡ number + 0 + 1 = omega arith in e)
index-more number (p ∷ rest) place =
    ap (λ l. Place (suc number) p ∷ l) (index-more (suc number) rest place ∙ ap (λ n. index_from (suc number) rest ++ Place n place ∷ []) (at number (length rest)))
  where
    at : (a b : ℕ) → suc a + b + 1 ≡ a + suc b + 1
    at a b = omega arith

step : {old mid new : Contents} (references : List ℕ) (k number : ℕ) → k < length references → number ≡ k + 1 → Puts old mid (index_from 0 (take k references)) → Puts mid new (Place number (get_or references k 0) ∷ []) → Puts old new (index_from 0 (take (k + 1) references))
step {old} {mid} {new} references k number less is a b =
    let n : length (take k references) ≡ k = length-take-le k references (omega arith) in
    let e : 0 + length (take k references) + 1 ≡ number = omega arith in
    subst (Puts old new) (sym (ap (index_from 0) (take_more references k 0 less) ∙ index-more 0 (take k references) (get_or references k 0) ∙ ap (λ m. index_from 0 (take k references) ++ Place m (get_or references k 0) ∷ []) e)) (puts-more a b)

pub loop-place-preserved : goal.loop-place-preserved
loop-place-preserved c = record {
  puts = step c.args.references.now c.loop-place.place-index (c.loop-place.number + 1) c.loop-place-test.true (omega (arith, c.loop-place.invariant.number_is)) c.loop-place.invariant.puts c.put.ensures;
  number_is = omega (arith, c.loop-place.invariant.number_is);
}

pub returns : goal.returns
returns c = subst (λ r. Puts c.args.region.now c.loop-place.region (index_from 0 r)) (take_all c.loop-place.place-index c.args.references.now c.loop-place-test.false) c.loop-place.invariant.puts
