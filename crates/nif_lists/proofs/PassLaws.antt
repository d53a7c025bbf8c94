-- A walk on its way over one node, with what is kept of it.
use Rattle.std.proofs.Common.{ℕ, ◌^◌, ◌<◌, ◌≡◌, ◌≢◌, min, List, [], ◌∷◌, ◌++◌, length, take, Option, IsSome, refl, sym, ◌∙◌, ap, arith, append_assoc, append-nil}
use Rattle.std.proofs.lemmas.List.{take-append-drop}
use Rattle.nif_cells.specs.Walks.{Met}
use Rattle.nif_value.specs.Walking.{step_of, bytes_met}
use Rattle.nif_encode.specs.Texts.{given, depth_after}
use Rattle.nif_encode.specs.PutSteps.{IsPiece, none_left, opened, closed, Passes, passes_next}
use Rattle.nif_lists.specs.Passing.{Keeps, kept_one}

-- ---- the bytes of a run, piece by piece

-- of some bytes the first were copied, and these are left
pub record Copies (bytes left : Option (List ℕ)) (copied : List ℕ) : Type 0 where
  pub whole : copied ++ given left ≡ given bytes
  pub some : IsSome left

pub copies_more : (bytes left behind : Option (List ℕ)) (count : ℕ) (copied piece more : List ℕ) → Copies bytes left copied → IsPiece left count piece behind → more ≡ copied ++ piece → Copies bytes behind more
copies_more bytes left behind count copied piece more so_far is more_is = record {
  whole = ap (λ l. l ++ given behind) more_is ∙ append_assoc copied piece (given behind)
      ∙ ap (λ l. copied ++ l) (ap (λ l. l ++ given behind) is.first ∙ ap (λ l. take count (given left) ++ l) is.behind_is ∙ take-append-drop count (given left))
      ∙ so_far.whole;
  some = is.still;
}

pub copies_all : (bytes left : Option (List ℕ)) (size count : ℕ) (copied : List ℕ) → Copies bytes left copied → 0 < size → count ≡ 0 → count ≡ min size (length (given left)) → copied ≡ given bytes
copies_all bytes left size count copied so_far h zero_is is =
    sym (append-nil copied) ∙ ap (λ l. copied ++ l) (sym (none_left (given left) size h (sym zero_is ∙ is))) ∙ so_far.whole

-- ---- passing over a node, and keeping what it gives

-- of a node the first steps were passed over and kept
pub record Gathers {A : Type 0} (keep : Keeps A) (all : List Met) (old : A) (depth : ℕ) (ahead : List Met) (now : A) : Type 0 where
  pub passes : Passes all depth ahead
  pub whole : kept_one keep depth ahead now ≡ kept_one keep 0 all old

pub gathers_none : {A : Type 0} (keep : Keeps A) (all : List Met) (old : A) → Gathers keep all old 0 all old
gathers_none keep all old = record { passes = record { whole = refl; fits = λ h. absurd (omega arith) }; whole = refl }

abbrev pub step_kept : {A : Type 0} → Keeps A → Met → A → A
step_kept keep met kept = keep (step_of met) (given (bytes_met met)) kept

pub gathers_next : {A : Type 0} (keep : Keeps A) (all : List Met) (old : A) (depth : ℕ) (met : Met) (rest ahead : List Met) (now new : A)
    → Gathers keep all old depth ahead now → ahead ≡ met ∷ rest → length ahead < 2 ^ 32 → new ≡ step_kept keep met now → depth_after depth (step_of met) ≢ 0
    → Gathers keep all old (depth_after depth (step_of met)) rest new
gathers_next keep all old depth met rest ahead now new so_far is few new_is more = record {
  passes = passes_next all depth met rest ahead so_far.passes is few more;
  whole = ap (kept_one keep (depth_after depth (step_of met)) rest) new_is
      ∙ sym (opened (depth_after depth (step_of met)) (kept_one keep (depth_after depth (step_of met)) rest (step_kept keep met now)) (step_kept keep met now) more)
      ∙ ap (λ a. kept_one keep depth a now) (sym is) ∙ so_far.whole;
}

pub gathers_last : {A : Type 0} (keep : Keeps A) (all : List Met) (old : A) (depth : ℕ) (met : Met) (rest ahead : List Met) (now new : A)
    → Gathers keep all old depth ahead now → ahead ≡ met ∷ rest → new ≡ step_kept keep met now → depth_after depth (step_of met) ≡ 0 → new ≡ kept_one keep 0 all old
gathers_last keep all old depth met rest ahead now new so_far is new_is last =
    new_is
    ∙ sym (closed (depth_after depth (step_of met)) (kept_one keep (depth_after depth (step_of met)) rest (step_kept keep met now)) (step_kept keep met now) last)
    ∙ ap (λ a. kept_one keep depth a now) (sym is) ∙ so_far.whole

pub gathers_end : {A : Type 0} (keep : Keeps A) (all : List Met) (old : A) (depth : ℕ) (ahead : List Met) (now : A) → Gathers keep all old depth ahead now → ahead ≡ [] → now ≡ kept_one keep 0 all old
gathers_end keep all old depth ahead now so_far none = ap (λ a. kept_one keep depth a now) (sym none) ∙ so_far.whole
