-- How the logic tells graphs apart. Nothing else goes by these codes.
use Rattle.std.proofs.Common.{ℕ, List, refl}
use Rattle.std.specs.declared.option.Option.{Option}
use Rattle.std.specs.Coded.{Coded, code_by, coded×, coded_ℕ, coded_list, coded_option}
use Rattle.nif_base.specs.Node.{Node}
use Rattle.nif_base.specs.NodeCodes.{coded_node}
use Rattle.nif_base.specs.Graph.{Origin, Named, Graph}
use Rattle.nif_base.specs.declared.orders.Order.{Order}
use Rattle.nif_base.specs.contracts.orders.Order as order
use Rattle.nif_value.specs.Trees.{Trees}
use Rattle.nif_value.specs.Codes.{coded_trees}
use Rattle.nif_graph.specs.declared.places.RolePlaces.{RolePlaces}
use Rattle.nif_graph.specs.contracts.places.RolePlaces as places
use Rattle.nif_graph.specs.State.{GraphState}

abbrev coded_origin : Coded Origin
coded_origin =
    code_by (ℕ × (ℕ × (ℕ × (Order × ℕ)))) (coded× coded_ℕ (coded× coded_ℕ (coded× coded_ℕ (coded× order.the_row.coded coded_ℕ))))
    (λ o. (o.version, (o.user, (o.bs, (o.order, o.strings)))))
    (λ p. record { version = p.0; user = p.1.0; bs = p.1.1.0; order = p.1.1.1.0; strings = p.1.1.1.1 }) (λ _. refl)

abbrev coded_named : Coded Named
coded_named =
    code_by (ℕ × (ℕ × (Option ℕ × Node))) (coded× coded_ℕ (coded× coded_ℕ (coded× (coded_option coded_ℕ) coded_node)))
    (λ b. (b.name, (b.block.kind, (b.block.index, b.block.node))))
    (λ p. record { name = p.0; block = record { kind = p.1.0; index = p.1.1.0; node = p.1.1.1 } }) (λ _. refl)

abbrev coded_graph : Coded Graph
coded_graph =
    code_by (Node × (Origin × (List (List ℕ) × (List Named × (Node × ℕ)))))
    (coded× coded_node (coded× coded_origin (coded× (coded_list (coded_list coded_ℕ))
    (coded× (coded_list coded_named) (coded× coded_node coded_ℕ)))))
    (λ g. (g.header, (g.origin, (g.types, (g.blocks, (g.footer, g.next))))))
    (λ p. record { header = p.0; origin = p.1.0; types = p.1.1.0; blocks = p.1.1.1.0; footer = p.1.1.1.1.0; next = p.1.1.1.1.1 })
    (λ _. refl)

abbrev pub coded_state : Coded GraphState
coded_state =
    code_by (Graph × (RolePlaces × (Trees × (ℕ × (ℕ × Option (List ℕ))))))
    (coded× coded_graph (coded× places.the_row.coded (coded× coded_trees (coded× coded_ℕ (coded× coded_ℕ
    (coded_option (coded_list coded_ℕ)))))))
    (λ s. (s.graph, (s.places, (s.trees, (s.bytes, (s.room, s.room_for_name))))))
    (λ p. record {
      graph = p.0;
      places = p.1.0;
      trees = p.1.1.0;
      bytes = p.1.1.1.0;
      room = p.1.1.1.1.0;
      room_for_name = p.1.1.1.1.1;
    })
    (λ _. refl)
