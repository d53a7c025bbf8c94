-- Trees of a store with one more behind them.
use Rattle.std.proofs.Common.{◌≡◌, ◌≢◌, ℕ, true, if◌then◌else◌, inl, inr, Some, None, List, [], ◌∷◌, ◌++◌, refl, sym, ◌∙◌, ap}
use Rattle.std.specs.Option.{option_or}
use Rattle.std.proofs.lemmas.Bool.Decides.{eqb_tells}
use Rattle.nif_base.specs.Node.{Node}
use Rattle.nif_base.specs.File.{Block}
use Rattle.nif_region.specs.Contents.{find, AreApart}
use Rattle.nif_region.specs.RunLaws.{find-append}
use Rattle.nif_value.specs.Trees.{Trees}
use Rattle.nif_graph.specs.declared.parts.BlockPart.{BlockPart}
use Rattle.nif_file_reader.specs.PartsSay.{SaysBlock, SaysBlocks}
use Rattle.nif_file_reader.specs.Known.{block_trees}

module _ {A : Type 0} where
  -- what stood under a key stands there
  pub find_kept : (trees more : List (ℕ × A)) (key : ℕ) (value : A) → find trees key ≡ Some value → find (trees ++ more) key ≡ Some value
  find_kept trees more key value e = find-append trees more key ∙ ap (λ o. option_or o (find more key)) e

  pub one_same : (key : ℕ) (value : A) → find ((key, value) ∷ []) key ≡ Some value
  one_same key value = elim (eqb_tells key key) [ inl e ↦ rw e.0 refl | inr e ↦ absurd (e.1 refl) ]

  one_other : (key other : ℕ) (value : A) → other ≢ key → find ((key, value) ∷ []) other ≡ None
  one_other key other value ne = elim (eqb_tells key other) [ inl e ↦ absurd (ne (sym e.1)) | inr e ↦ rw e.0 refl ]

  -- and the new one
  pub find_new : (trees : List (ℕ × A)) (key : ℕ) (value : A) → find trees key ≡ None → find (trees ++ (key, value) ∷ []) key ≡ Some value
  find_new trees key value e = find-append trees ((key, value) ∷ []) key ∙ ap (λ o. option_or o (find ((key, value) ∷ []) key)) e ∙ one_same key value

  pub apart_more : (trees : List (ℕ × A)) (key : ℕ) (value : A) → AreApart trees → find trees key ≡ None → AreApart (trees ++ (key, value) ∷ [])
  apart_more [] key value apart none = (refl, tt)
  apart_more (t ∷ rest) key value apart none = elim (eqb_tells t.0 key) [
    | inl e ↦ absurd (let hit : (if true then Some t.1 else find rest key) ≡ None = rw e.0 at none in cc)
    | inr e ↦
        let other : find ((key, value) ∷ []) t.0 ≡ None = one_other key t.0 value e.1 in (
          find-append rest ((key, value) ∷ []) t.0 ∙ ap (λ o. option_or o (find ((key, value) ∷ []) t.0)) apart.0 ∙ other,
          apart_more rest key value apart.1 (rw e.0 at none),
        )
  ]

-- blocks are said by the store with more trees
pub says_kept : (before after : Trees) (more : List (ℕ × Node)) (parts : List BlockPart) (blocks : List Block) → after.trees ≡ before.trees ++ more → SaysBlocks before parts blocks → SaysBlocks after parts blocks
says_kept before after more [] [] e s = tt
says_kept before after more [] (block ∷ blocks) e s = absurd s
says_kept before after more (part ∷ parts) [] e s = absurd s
says_kept before after more (part ∷ parts) (block ∷ blocks) e s = (
  record {
    kind = s.0.kind;
    index = s.0.index;
    value = ap (λ trees. find trees part.tree.run.key) e ∙ find_kept before.trees more part.tree.run.key block.node s.0.value;
  },
  says_kept before after more parts blocks e s.1,
)

-- and one more behind them
pub says_more : (store : Trees) (parts : List BlockPart) (blocks : List Block) (part : BlockPart) (block : Block) → SaysBlocks store parts blocks → SaysBlock store part block → SaysBlocks store (parts ++ part ∷ []) (blocks ++ block ∷ [])
says_more store [] [] part block s one = (one, tt)
says_more store [] (b ∷ blocks) part block s one = absurd s
says_more store (p ∷ parts) [] part block s one = absurd s
says_more store (p ∷ parts) (b ∷ blocks) part block s one = (s.0, says_more store parts blocks part block s.1 one)

pub trees_more : (store : Trees) (parts : List BlockPart) (blocks : List Block) (part : BlockPart) (block : Block) → SaysBlocks store parts blocks → block_trees (parts ++ part ∷ []) (blocks ++ block ∷ []) ≡ block_trees parts blocks ++ (part.tree.run.key, block.node) ∷ []
trees_more store [] [] part block s = refl
trees_more store [] (b ∷ blocks) part block s = absurd s
trees_more store (p ∷ parts) [] part block s = absurd s
trees_more store (p ∷ parts) (b ∷ blocks) part block s = ap (λ rest. (p.tree.run.key, b.node) ∷ rest) (trees_more store parts blocks part block s.1)
