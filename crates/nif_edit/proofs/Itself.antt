-- A block that is replaced by itself.
use Rattle.std.proofs.Common.{◌≡◌, inl, inr, ℕ, true, false, Some, None, List, [], ◌∷◌, refl, sym, ◌∙◌, ap, ap₂}
use Rattle.std.proofs.lemmas.Bool.{eqb-true}
use Rattle.std.specs.Prelude.{◌==◌}
use Rattle.std.specs.Option.{option_map_or}
use Rattle.nif_base.specs.File.{Block}
use Rattle.nif_base.specs.Graph.{Named}
use Rattle.nif_graph.specs.Graph.{find, is_live, Different}
use Rattle.nif_graph.specs.Changes.{changed}
use Rattle.nif_edit.specs.declared.edits.Edit.TheVariants.{Replace}
use Rattle.nif_edit.specs.After.{after}
use Rattle.nif_edit.specs.Refused.{Accepted}
use Rattle.nif_edit.specs.Laws.{ReplacesItself}
use Rattle.nif_edit.proofs.Finding.{test}
use Rattle.nif_edit.proofs.Seen.{some_of}

changed_none : (name : ℕ) (f : Block → Block) (blocks : List Named) → find name blocks ≡ None → changed name f blocks ≡ blocks
changed_none name f [] h = refl
changed_none name f (c ∷ blocks) h = elim (test (name == c.name)) [
  | inl q ↦ absurd (let e : Some c.block ≡ None = rw q at h in cc)
  | inr q ↦ rw q (ap (λ l. c ∷ l) (changed_none name f blocks (rw q at h)))
]

changed_same : (name : ℕ) (b : Block) (blocks : List Named) → Different blocks → find name blocks ≡ Some b
    → changed name (λ old. b) blocks ≡ blocks
changed_same name b [] d h = refl
changed_same name b (c ∷ blocks) d h = elim (test (name == c.name)) [
  | inl q ↦
      let e : Some c.block ≡ Some b = rw q at h in
      let e' : b ≡ c.block = cc in
      let n : name ≡ c.name = eqb-true name c.name q in
      rw q (ap₂ (λ (x : Block) l. record c { block = x } ∷ l) e'
      (changed_none name (λ old. b) blocks (ap (λ m. find m blocks) n ∙ d.0)))
  | inr q ↦ rw q (ap (λ l. c ∷ l) (changed_same name b blocks d.1 (rw q at h)))
]

pub replaces_itself : ReplacesItself
replaces_itself S places G name g live = (accepted, same)
  where
    not_dead : is_live name G.blocks ≡ false → ⊥
    not_dead dead = let e : true ≡ false = sym live ∙ dead in cc

    accepted : Accepted S places G (Replace name name)
    accepted f (inl dead) = not_dead dead.0
    accepted f (inr (p, inl dead)) = not_dead dead.0
    accepted f (inr (p, inr (q, h))) = h.0 refl

    there : (b : Block) × (find name G.blocks ≡ Some b)
    there = some_of (find name G.blocks) live

    same : after S places G (Replace name name) ≡ G
    same =
        ap (λ o. option_map_or (λ b. record G { blocks = changed name (λ old. b) G.blocks }) o G) there.1
        ∙ ap (λ (l : List Named). record G { blocks = l }) (changed_same name there.0 G.blocks g.different there.1)
