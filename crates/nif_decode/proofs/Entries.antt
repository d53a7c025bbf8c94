-- What is kept, entry by entry.
use Rattle.std.proofs.Common.{◌≡◌, ℕ, ◌+◌, ◌-◌, List, [], ◌∷◌, ◌++◌, length, take, set, refl, sym, ap, ◌∙◌, subst, arith, length-append, append_assoc}
use Rattle.std.proofs.Math.Seq.{set-append_seam, take-append_seam}
use Rattle.nif_base.specs.Node as node
use Rattle.nif_base.specs.Node.{Node}
use Rattle.nif_layout.specs.PathValue.{extended}
use Rattle.nif_scope.specs.declared.entries.Entry.{Entry}
use Rattle.nif_scope.specs.declared.entries.Entry.TheVariants as entry
use Rattle.nif_scope.specs.Told.{told, told_in}
use Rattle.std.specs.Prelude.{true}

-- another entry at the head of what is behind
pub set_head : (items front more : List Entry) (kept new : Entry) (start : ℕ) → items ≡ front ++ kept ∷ more → length front ≡ start → set items start new ≡ front ++ new ∷ more
set_head items front more kept new start e len =
    ap (λ s. set s start new) e ∙ subst (λ k. set (front ++ kept ∷ more) k new ≡ front ++ new ∷ more) len (set-append_seam front kept more new)

pub behind_count : (items front more : List Entry) (kept : Entry) (start : ℕ) → items ≡ front ++ kept ∷ more → length front ≡ start → length items - start - 1 ≡ length more
behind_count items front more kept start e len =
    let long : length items ≡ length front + length (kept ∷ more) = ap length e ∙ length-append front (kept ∷ more) in
    omega arith

pub take_head : (front more : List Entry) (kept : Entry) (start : ℕ) → length front ≡ start → take (start + 1) (front ++ kept ∷ more) ≡ front ++ kept ∷ []
take_head front more kept start len =
    let long : length (front ++ kept ∷ []) ≡ start + 1 = omega (arith, length-append front (kept ∷ []), len) in
    ap (λ s. take (start + 1) s) (sym (append_assoc front (kept ∷ []) more))
    ∙ subst (λ k. take k ((front ++ kept ∷ []) ++ more) ≡ front ++ kept ∷ []) long (take-append_seam (front ++ kept ∷ []) more)

-- a node keeps an entry, and those of its members behind it
pub record HasHead (at : Node) : Type 0 where
  pub head : Entry
  pub rest : List Entry
  pub is : told at ≡ head ∷ rest

pub told_head : (at : Node) → HasHead at
told_head (node.Num width little bits) = record { head = entry.Number bits (extended true width bits); rest = []; is = refl }
told_head (node.Line bytes) = record { head = entry.Nothing; rest = []; is = refl }
told_head (node.Ref strong wanted target) = record { head = entry.Nothing; rest = []; is = refl }
told_head (node.Text index) = record { head = entry.Nothing; rest = []; is = refl }
told_head (node.Bytes bytes) = record { head = entry.Nothing; rest = []; is = refl }
told_head (node.Group members) = record { head = entry.Group (length (told_in members)); rest = told_in members; is = refl }
told_head (node.Row items) = record { head = entry.Nothing; rest = []; is = refl }
