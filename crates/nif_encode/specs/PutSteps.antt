-- Steps of putting a walk: what was put so far and what is still to come make the whole.
use Rattle.std.proofs.Common.{ℕ, zero, suc, ◌+◌, ◌^◌, ◌<◌, ◌≤◌, ◌≡◌, ◌≢◌, min, List, [], ◌∷◌, length, take, drop, Option, IsSome, refl, sym, ◌∙◌, ap, arith}
use Rattle.nif_cells.specs.Walks.{Met}
use Rattle.nif_cells.specs.declared.steps.Step.{Step}
use Rattle.nif_value.specs.Walking.{step_of}
use Rattle.nif_encode.specs.Texts.{given, depth_after, where_open, behind_one}
use Rattle.nif_cells.specs.declared.steps.Step.TheVariants as step

-- a piece of the bytes that are left
pub record IsPiece (left : Option (List ℕ)) (count : ℕ) (piece : List ℕ) (behind : Option (List ℕ)) : Type 0 where
  pub first : piece ≡ take count (given left)
  pub behind_is : given behind ≡ drop count (given left)
  pub still : IsSome behind

pub none_left : (bytes : List ℕ) (size : ℕ) → 0 < size → 0 ≡ min size (length bytes) → bytes ≡ []
none_left [] size h e = refl
none_left (b ∷ bytes) size h e = absurd (omega arith)

-- each step opens one level at most
pub depth_more : (depth : ℕ) (s : Step) → depth_after depth s ≤ depth + 1
depth_more depth (step.Num width little bits) = omega arith
depth_more depth (step.Line len) = omega arith
depth_more depth (step.Ref view) = omega arith
depth_more depth (step.Text index) = omega arith
depth_more depth (step.Bytes len) = omega arith
depth_more depth (step.Group members) = omega arith
depth_more depth (step.Row items) = omega arith
depth_more depth step.Absent = omega arith
depth_more depth step.End = omega arith

pub fits_more : (depth next all rest : ℕ) → (0 < depth → depth + all < 2 ^ 32) → next ≤ depth + 1 → all ≡ suc rest
    → all < 2 ^ 32 → next + rest < 2 ^ 32
fits_more zero next all rest fits more is few = omega arith
fits_more (suc depth) next all rest fits more is few = let h = fits (omega arith) in omega (arith, h)

-- where some group or row is open, and where none is
pub opened : {A : Type 0} (depth : ℕ) (some none : A) → depth ≢ 0 → where_open depth some none ≡ some
opened zero some none h = absurd (h refl)
opened (suc depth) some none h = refl

pub closed : {A : Type 0} (depth : ℕ) (some none : A) → depth ≡ 0 → where_open depth some none ≡ none
closed zero some none e = refl
closed (suc depth) some none e = absurd (cc)

-- of a node the first steps were passed over, and this is ahead
pub record Passes (all : List Met) (depth : ℕ) (ahead : List Met) : Type 0 where
  pub whole : behind_one depth ahead ≡ behind_one 0 all
  pub fits : 0 < depth → depth + length ahead < 2 ^ 32

pub passes_next : (all : List Met) (depth : ℕ) (met : Met) (rest ahead : List Met) → Passes all depth ahead
    → ahead ≡ met ∷ rest → length ahead < 2 ^ 32 → depth_after depth (step_of met) ≢ 0
    → Passes all (depth_after depth (step_of met)) rest
passes_next all depth met rest ahead so_far is few more = record {
  whole =
      sym (opened (depth_after depth (step_of met)) (behind_one (depth_after depth (step_of met)) rest) rest more)
      ∙ ap (behind_one depth) (sym is) ∙ so_far.whole;
  fits = λ _. fits_more depth (depth_after depth (step_of met)) (length ahead) (length rest) so_far.fits
      (depth_more depth (step_of met)) (ap length is) few;
}
