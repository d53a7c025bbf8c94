-- Edits of a small graph, and why some of them are refused.
use Rattle.std.proofs.Common.{◌≡◌, ◌+◌, inl, inr, ℕ, true, false, Option, Some, None, List, [], ◌∷◌, map, refl, arith}
use Rattle.nif_base.specs.declared.orders.Order.TheVariants.{Little}
use Rattle.nif_base.specs.Node.{Node, Ref, Group, Row, Num, End, Here, Absent}
use Rattle.nif_base.specs.Graph.{Named, Graph}
use Rattle.nif_base.specs.Limits.{most_nodes}
use Rattle.nif_schema.specs.Schema.{Schema}
use Rattle.nif_graph.specs.Reach.{Walk, Then}
use Rattle.nif_graph.specs.Reach as reach
use Rattle.nif_graph.specs.declared.places.RolePlaces.{RolePlaces}
use Rattle.nif_edit.specs.declared.edits.Edit.TheVariants.{Remove, Copy, Replace, Move, Reorder, Point}
use Rattle.nif_edit.specs.Edit.{NoBlock, NoPlace, WouldCycle, TooManyNodes, TooDeep}
use Rattle.nif_edit.specs.After.{after, after_all}
use Rattle.nif_edit.specs.Refused.{Refused, step, steps, Overruns}

abbrev named : ℕ → Node → Named
named name node = record { name = name; block = record { kind = 0; index = None; node = node } }

-- a strong reference
abbrev to : Option ℕ → Node
to target = Ref true None target

-- Block 0 refers to block 1, the footer to both.
abbrev small : Graph
small = record {
  header = Group End;
  origin = record { version = 0x14000005; user = 11; bs = 11; order = Little; strings = 0 };
  types = [];
  blocks = named 0 (Row (Here (to (Some 1)) End)) ∷ named 1 (Row End) ∷ [];
  footer = Row (Here (to (Some 0)) (Here (to (Some 1)) End));
  next = 2;
}

abbrev names : Graph → List ℕ
names G = map (λ (b : Named). b.name) G.blocks

module _ (S : Schema) (places : RolePlaces) where
  -- A removed block leaves empty references.
  removed : after S places small (Remove 1) ≡ record small {
    blocks = named 0 (Row (Here (to None) End)) ∷ [];
    footer = Row (Here (to (Some 0)) (Here (to None) End));
  }
  removed = refl

  -- A copy takes the next name.
  copied : names (after S places small (Copy 1 0)) ≡ 2 ∷ 0 ∷ 1 ∷ []
  copied = refl

  moved : names (after S places small (Move 0 1)) ≡ 1 ∷ 0 ∷ []
  moved = refl

  reordered : names (after S places small (Reorder (1 ∷ 0 ∷ []))) ≡ 1 ∷ 0 ∷ []
  reordered = refl

  -- Names don't come again: a copy after a removal takes the next one.
  never_again : names (after_all S places small (Copy 0 2 ∷ Remove 2 ∷ Copy 0 2 ∷ [])) ≡ 0 ∷ 1 ∷ 3 ∷ []
  never_again = refl

  emptied : after S places small (Point None 1 None) ≡ record small { footer = Row (Here (to (Some 0)) (Here (to None) End)) }
  emptied = refl

  -- ---- refusals

  no_block : Refused S places small (Remove 7) (NoBlock 7)
  no_block = (refl, refl)

  -- Block 1 has no reference.
  no_place : Refused S places small (Point (Some 1) 0 None) (NoPlace 0)
  no_place = inr ((λ g h. let e : true ≡ false = h.0 in cc), inr ((λ g h. h), inl (refl, refl)))

  -- Block 0 leads to block 1, so it doesn't take its place.
  would_cycle : Refused S places small (Replace 1 0) WouldCycle
  would_cycle = inr (
    (λ g h. let e : true ≡ false = h.0 in cc),
    inr (
      (λ g h. let e : true ≡ false = h.0 in cc),
      (
        (λ e. absurd (let e' : 1 ≡ 0 = e in omega (arith, e'))),
        inr (
          (λ g h. let e : None ≡ Some h.0 = h.3 in cc),
          inl (
            (
              1,
              (
                record { kind = 0; index = None; node = Row (Here (to (Some 1)) End) },
                0,
                record { strong = true; wanted = None; target = Some 1 },
                refl,
                refl,
                refl,
                refl,
              ),
              reach.Here,
            ),
            refl,
          ),
        ),
      ),
    ),
  )

  -- ---- the walk over a zero node

  walked : steps 1 (Group (Here (Num 4 false 0) (Absent (Here (Group End) End))))
      ≡ step false 0 ∷ step false 4 ∷ step false 0 ∷ step true 0 ∷ []
  walked = refl

  -- A group that lies too deep is met before the nodes are too many.
  too_deep : Overruns (most_nodes + 1) 0 (step true 0 ∷ []) TooDeep
  too_deep = inl (refl, refl)

  too_many : Overruns (most_nodes + 1) 0 (step false 0 ∷ []) TooManyNodes
  too_many = inr ((λ g h. let e : false ≡ true = h.0 in cc), inl (omega arith, refl))
