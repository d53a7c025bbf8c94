-- How the logic tells what a store holds apart, and walks. Nothing else goes by these codes.
use Rattle.std.proofs.Common.{ℕ, ◌≡◌, Bool, true, false, List, Option, refl, ◌⊎◌, inl, inr}
use Rattle.std.specs.Coded.{Coded, code_by, coded×, coded⊎, coded_ℕ, coded_bool, coded_list, coded_option}
use Rattle.nif_base.specs.Node.{Node, Members}
use Rattle.nif_base.specs.NodeCodes.{coded_node, coded_members}
use Rattle.nif_cells.specs.Building.{Level, InBytes, InGroup, InRow, Building}
use Rattle.nif_cells.specs.Walks.{Met, Leaf, Opens, LeftOut, Ends}
use Rattle.nif_value.specs.Trees.{Trees}
use Rattle.nif_value.specs.Walking.{Walking}

abbrev level_parts : Level → List ℕ ⊎ (Members ⊎ Members)
level_parts (InBytes bytes) = inl bytes
level_parts (InGroup members) = inr (inl members)
level_parts (InRow items) = inr (inr items)

abbrev level_back : List ℕ ⊎ (Members ⊎ Members) → Level
level_back (inl bytes) = InBytes bytes
level_back (inr (inl members)) = InGroup members
level_back (inr (inr items)) = InRow items

pub level_again : (level : Level) → level_back (level_parts level) ≡ level
level_again (InBytes bytes) = refl
level_again (InGroup members) = refl
level_again (InRow items) = refl

abbrev coded_level : Coded Level
coded_level = code_by (List ℕ ⊎ (Members ⊎ Members))
    (coded⊎ (coded_list coded_ℕ) (coded⊎ coded_members coded_members)) level_parts level_back level_again

abbrev coded_building : Coded Building
coded_building = code_by (Option Node × List Level) (coded× (coded_option coded_node) (coded_list coded_level))
    (λ b. (b.top, b.levels)) (λ p. record { top = p.0; levels = p.1 }) (λ _. refl)

abbrev pub coded_trees : Coded Trees
coded_trees =
    code_by
    (List (ℕ × Node) × (Option Building × (ℕ × ℕ)))
    (coded× (coded_list (coded× coded_ℕ coded_node)) (coded× (coded_option coded_building) (coded× coded_ℕ coded_ℕ)))
    (λ s. (s.trees, (s.building, (s.spare_cells, s.spare_trees))))
    (λ p. record { trees = p.0; building = p.1.0; spare_cells = p.1.1.0; spare_trees = p.1.1.1 })
    (λ _. refl)

abbrev met_parts : Met → Node ⊎ ((Bool × ℕ) ⊎ Bool)
met_parts (Leaf node) = inl node
met_parts (Opens is_row count) = inr (inl (is_row, count))
met_parts LeftOut = inr (inr true)
met_parts Ends = inr (inr false)

abbrev met_back : Node ⊎ ((Bool × ℕ) ⊎ Bool) → Met
met_back (inl node) = Leaf node
met_back (inr (inl p)) = Opens p.0 p.1
met_back (inr (inr true)) = LeftOut
met_back (inr (inr false)) = Ends

pub met_again : (met : Met) → met_back (met_parts met) ≡ met
met_again (Leaf node) = refl
met_again (Opens is_row count) = refl
met_again LeftOut = refl
met_again Ends = refl

abbrev coded_met : Coded Met
coded_met = code_by (Node ⊎ ((Bool × ℕ) ⊎ Bool))
    (coded⊎ coded_node (coded⊎ (coded× coded_bool coded_ℕ) coded_bool)) met_parts met_back met_again

abbrev pub coded_walking : Coded Walking
coded_walking =
    code_by
    (List Met × Option (List ℕ))
    (coded× (coded_list coded_met) (coded_option (coded_list coded_ℕ)))
    (λ w. (w.ahead, w.bytes))
    (λ p. record { ahead = p.0; bytes = p.1 })
    (λ _. refl)
