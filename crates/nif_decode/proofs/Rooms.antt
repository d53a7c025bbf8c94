-- What is taken and counted has its place in the tree that is being built.
use Rattle.std.proofs.Common.{◌≡◌, ℕ, ◌+◌, ◌^◌, ◌<◌, ◌≤◌, true, ◌||◌, List, [], ◌∷◌, length, Option, refl, sym, ◌∙◌, subst, arith, length-append}
use Rattle.std.specs.Option.{IsSomeAnd}
use Rattle.nif_base.specs.declared.orders.Order.{Order}
use Rattle.nif_base.specs.declared.orders.Order.TheVariants.{Little}
use Rattle.nif_base.specs.Node.{Node, Members, Num, Line, Ref, Text, Bytes, Group, Row, End, Here, Absent, text, texts, nodes, is_little, place_or_none}
use Rattle.nif_stream.specs.Taking.{place_of}
use Rattle.nif_base.specs.Limits.{most_nodes}
use Rattle.nif_layout.specs.ByteLaws.{length_number}
use Rattle.nif_cells.specs.Building.{Level, InBytes, InGroup, InRow, placed, bytes_of, TakesNode, TakesAbsent, left_out}
use Rattle.nif_cells.specs.SizeLaws.{nodes-behind, bytes-behind, nodes-absent_behind, bytes-absent_behind}
use Rattle.nif_value.specs.Trees.{Takes, IsWithin, nodes_built, bytes_built}
use Rattle.nif_scope.specs.declared.entries.Entry.{Entry}
use Rattle.nif_decode.specs.Answers.{Stand, HasRoom, IsReady}

mutual
  -- a node has as many bytes in either order
  pub text_length : (order : Order) (node : Node) → length (text order node) ≡ bytes_of node
  text_length order (Num width little bits) = length_number (little || is_little order) width bits ∙ sym (length_number (little || is_little Little) width bits)
  text_length order (Line bytes) = refl
  text_length order (Ref strong wanted target) = length_number (is_little order) 4 (place_or_none target) ∙ sym (length_number true 4 (place_or_none target))
  text_length order (Text index) = length_number (is_little order) 4 (place_or_none index) ∙ sym (length_number true 4 (place_or_none index))
  text_length order (Bytes bytes) = refl
  text_length order (Group members) = texts_length order members
  text_length order (Row items) = texts_length order items

  pub texts_length : (order : Order) (members : Members) → length (texts order members) ≡ length (texts Little members)
  texts_length order End = refl
  texts_length order (Here node rest) =
      omega (arith, length-append (text order node) (texts order rest), length-append (text Little node) (texts Little rest), text_length order node, texts_length order rest)
  texts_length order (Absent rest) = texts_length order rest

-- one node more
placed_nodes : (top : Option Node) (levels : List Level) (node : Node) → TakesNode (record { top = top; levels = levels })
    → nodes_built (placed node levels) ≤ nodes_built (record { top = top; levels = levels }) + nodes node
placed_nodes top [] node t = omega arith
placed_nodes top (InBytes bytes ∷ outer) node t = absurd t
placed_nodes top (InGroup members ∷ outer) node t = omega (arith, nodes-behind members node)
placed_nodes top (InRow items ∷ outer) node t = omega (arith, nodes-behind items node)

placed_bytes : (top : Option Node) (levels : List Level) (node : Node) → TakesNode (record { top = top; levels = levels })
    → bytes_built (placed node levels) ≤ bytes_built (record { top = top; levels = levels }) + bytes_of node
placed_bytes top [] node t = omega arith
placed_bytes top (InBytes bytes ∷ outer) node t = absurd t
placed_bytes top (InGroup members ∷ outer) node t = omega (arith, bytes-behind members node)
placed_bytes top (InRow items ∷ outer) node t = omega (arith, bytes-behind items node)

placed_levels : (levels : List Level) (node : Node) → length (placed node levels).levels ≡ length levels
placed_levels [] node = refl
placed_levels (InBytes bytes ∷ outer) node = refl
placed_levels (InGroup members ∷ outer) node = refl
placed_levels (InRow items ∷ outer) node = refl

pub room_takes : {S : Type 0} (at : Stand S) (more : ℕ) (node : Node) → HasRoom at more → at.nodes + nodes node ≤ most_nodes → place_of at.taker + bytes_of node ≤ 2 ^ 26
    → Takes at.building TakesNode (placed node)
room_takes at more node r n p =
    let b = r.tree in
    subst (λ o. Takes o TakesNode (placed node)) (sym r.is) (record {
      place = r.takes;
      limits = record {
        nodes_within = omega (arith, placed_nodes b.top b.levels node r.takes, r.nodes, n);
        bytes_within = omega (arith, placed_bytes b.top b.levels node r.takes, r.bytes, p);
        levels_within = omega (arith, placed_levels b.levels node, r.levels);
      };
    })

absent_within : (top : Option Node) (levels : List Level) (n p : ℕ) → TakesAbsent levels → nodes_built (record { top = top; levels = levels }) ≤ n → n < 2 ^ 24
    → bytes_built (record { top = top; levels = levels }) ≤ p → p ≤ 2 ^ 26 → length levels ≤ 256 → IsWithin (left_out levels)
absent_within top [] n p t hn ln hp lp l = absurd t
absent_within top (InBytes bytes ∷ outer) n p t hn ln hp lp l = absurd t
absent_within top (InGroup members ∷ outer) n p t hn ln hp lp l = record {
  nodes_within = omega (arith, nodes-absent_behind members, hn, ln);
  bytes_within = omega (arith, bytes-absent_behind members, hp, lp);
  levels_within = l;
}
absent_within top (InRow items ∷ outer) n p t hn ln hp lp l = absurd t

-- an absent member has its place
pub room_absent : {S : Type 0} (at : Stand S) (more : ℕ) → HasRoom at more → at.nodes < most_nodes → place_of at.taker ≤ 2 ^ 26 → IsSomeAnd at.building (λ b. TakesAbsent b.levels)
    → Takes at.building (λ b. TakesAbsent b.levels) left_out
room_absent at more r n p h =
    let b = r.tree in
    let t : TakesAbsent b.levels = subst (λ o. IsSomeAnd o (λ b. TakesAbsent b.levels)) r.is h in
    subst (λ o. Takes o (λ b. TakesAbsent b.levels) left_out) (sym r.is) (record {
      place = t;
      limits = absent_within b.top b.levels at.nodes (place_of at.taker) t r.nodes n r.bytes p (omega (arith, r.levels));
    })

-- a reader that may open so many levels may open fewer
pub ready_less : {S : Type 0} (at : Stand S) (k fewer : ℕ) → fewer ≤ k → IsReady at k → IsReady at fewer
ready_less at k fewer less r = record {
  taker = r.taker;
  counted = r.counted;
  room = record {
    tree = r.room.tree;
    is = r.room.is;
    takes = r.room.takes;
    nodes = r.room.nodes;
    bytes = r.room.bytes;
    levels = omega (arith, less, r.room.levels);
  };
}

-- whatever is kept
pub ready_told : {S : Type 0} (at : Stand S) (k : ℕ) (told : List Entry) → IsReady at k → IsReady (record at { told = told }) k
ready_told at k told r = record {
  taker = r.taker;
  counted = r.counted;
  room = record {
    tree = r.room.tree;
    is = r.room.is;
    takes = r.room.takes;
    nodes = r.room.nodes;
    bytes = r.room.bytes;
    levels = r.room.levels;
  };
}
