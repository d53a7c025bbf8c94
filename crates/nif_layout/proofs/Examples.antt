-- The definitions at small values: each node meets the shape of its type and spells the bytes that stand beside it.
use Rattle.std.proofs.Common.{◌≡◌, ℕ, zero, suc, ◌+◌, ◌*◌, ◌<◌, ◌≤◌, true, false, Option, Some, None, List, [], ◌∷◌, ◌++◌, refl, ap, lit<, lit≤, inl, inr, arith}
use Rattle.std.specs.Prelude.{codes}
use Rattle.nif_base.specs.declared.orders.Order.TheVariants.{Little, Big}
use Rattle.nif_base.specs.Node as node
use Rattle.nif_base.specs.Node.{Node, Members, End, Here, Absent, text, nodes, depth}
use Rattle.nif_schema.specs.Declaration.{Name, Formula, Read, Field, Declaration}
use Rattle.nif_schema.specs.Expression.{Tree, Number, Arg, Path, Two}
use Rattle.nif_schema.specs.Schema.{Schema, parent}
use Rattle.nif_schema.specs.Uses.{named as by_name, is_own_template}
use Rattle.nif_schema.specs.Basic.{unsigned, bit_pattern}
use Rattle.nif_schema.specs.declared.exprs.Op.TheVariants.{Eq}
use Rattle.nif_schema.specs.declared.decls.Leaf.TheVariants as leaf
use Rattle.nif_schema.specs.declared.decls.What.TheVariants.{Basic, Stored, Struct, Block}
use Rattle.nif_schema.specs.declared.fields.Bound.TheVariants as bound
use Rattle.nif_schema.specs.declared.fields.Exact.TheVariants as exact
use Rattle.nif_layout.specs.Context.{Context}
use Rattle.nif_layout.specs.Kind.{kind_of}
use Rattle.nif_layout.specs.Form.{One, number_at_item}
use Rattle.nif_base.specs.Limits.{most_file_bytes, most_nodes}
use Rattle.nif_layout.specs.Fault.{RefRange, TooDeep, TooManyNodes}
use Rattle.nif_layout.specs.Shape.{Shape, Spells, FormShape}
use Rattle.nif_layout.specs.Zero.{zero_of}
use Rattle.nif_layout.specs.Fails.{Fails, ItemsFail, FormShapeFails}

-- ---- a small schema

abbrev field : Name → Name → Field
field name kind = record {
  name = name;
  kind = kind;
  template = None;
  arg = None;
  length = None;
  width = None;
  cond = None;
  vercond = None;
  since = None;
  until = None;
  user = None;
  bs = None;
  only = None;
  exclude = None;
}

abbrev named : Name → Option Formula
named name = Some (Read (Path (name ∷ [])))

abbrev within : Name → Name → Option Formula
within name next = Some (Read (Path (name ∷ next ∷ [])))

abbrev equal : Tree → ℕ → Option Formula
equal left n = Some (Read (Two Eq left (Number n)))

abbrev basics : Schema
basics =
    record { name = codes "uint"; what = Basic (unsigned 4); fields = [] }
    ∷ record { name = codes "uint64"; what = Basic (unsigned 8); fields = [] }
    ∷ record { name = codes "byte"; what = Basic (unsigned 1); fields = [] }
    ∷ record { name = codes "float"; what = Basic (bit_pattern 4); fields = [] }
    ∷ []

abbrev places : Schema
places =
    record { name = codes "Ref"; what = Basic leaf.Ref; fields = [] }
    ∷ record { name = codes "NiFixedString"; what = Basic leaf.Text; fields = [] }
    ∷ record { name = codes "LineString"; what = Basic leaf.Line; fields = [] }
    ∷ []

-- a row of rows, whose lengths are bytes before it
abbrev ragged : Declaration
ragged = record {
  name = codes "Ragged";
  what = Block None false;
  fields =
      field (codes "Num Widths") (codes "byte")
      ∷ record (field (codes "Widths") (codes "byte")) { length = named (codes "Num Widths") }
      ∷ field (codes "Num Rows") (codes "byte")
      ∷ record (field (codes "Rows") (codes "byte")) { length = named (codes "Num Rows"); width = named (codes "Widths") }
      ∷ [];
}

-- a struct that holds itself
abbrev volume : Declaration
volume = record {
  name = codes "Volume";
  what = Struct;
  fields =
      field (codes "Kind") (codes "uint")
      ∷ record (field (codes "Inner") (codes "Volume")) { cond = equal (Path (codes "Kind" ∷ [])) 1 }
      ∷ [];
}

abbrev hollow : Declaration
hollow = record { name = codes "Hollow"; what = Struct; fields = [] }

-- a block that holds it
abbrev holder : Declaration
holder = record { name = codes "Holder"; what = Block None false; fields = field (codes "Volume") (codes "Volume") ∷ [] }

-- many items of no bytes
abbrev hollows : Declaration
hollows = record {
  name = codes "Hollows";
  what = Block None false;
  fields =
      field (codes "Count") (codes "uint64")
      ∷ record (field (codes "Items") (codes "Hollow")) { length = named (codes "Count") }
      ∷ [];
}

-- generic structs, one in another, with an argument
abbrev key : Declaration
key = record {
  name = codes "Key";
  what = Struct;
  fields =
      field (codes "Time") (codes "float")
      ∷ field (codes "Value") (codes "#T#")
      ∷ record (field (codes "Forward") (codes "#T#")) { cond = equal Arg 2 }
      ∷ [];
}

abbrev keys : Declaration
keys = record {
  name = codes "Keys";
  what = Struct;
  fields =
      field (codes "Num Keys") (codes "uint")
      ∷ record (field (codes "Keys") (codes "Key")) { template = Some (codes "#T#"); arg = Some (Read Arg); length = named (codes "Num Keys") }
      ∷ [];
}

abbrev motion : Declaration
motion = record {
  name = codes "Motion";
  what = Block None false;
  fields =
      field (codes "Kind") (codes "uint")
      ∷ record (field (codes "Keys") (codes "Keys")) { template = Some (codes "float"); arg = named (codes "Kind") }
      ∷ [];
}

-- a bitfield whose members are asked for
abbrev flags : Declaration
flags = record {
  name = codes "Flags";
  what = Stored (Some (codes "uint")) (record { name = codes "Low"; pos = 0; width = 4; bad = false } ∷ record { name = codes "High"; pos = 28; width = 4; bad = false } ∷ []);
  fields = [];
}

abbrev pair : Declaration
pair = record {
  name = codes "Pair";
  what = Struct;
  fields =
      field (codes "A") (codes "#T#")
      ∷ record (field (codes "B") (codes "#T#")) { cond = equal Arg 2 }
      ∷ [];
}

abbrev bits : Declaration
bits = record {
  name = codes "Bits";
  what = Block None false;
  fields =
      field (codes "Flags") (codes "Flags")
      ∷ record (field (codes "Tail") (codes "byte")) { length = within (codes "Flags") (codes "High") }
      ∷ record (field (codes "Pair") (codes "Pair")) {
        template = Some (codes "uint");
        arg = within (codes "Flags") (codes "Low");
        since = Some (bound.Read (record { number = 0x04000002 }));
        user = Some (exact.Is 0);
      }
      ∷ [];
}

-- a name that stands three times
abbrev thrice : Declaration
thrice = record {
  name = codes "Thrice";
  what = Block None false;
  fields =
      field (codes "Size") (codes "byte")
      ∷ field (codes "Size") (codes "byte")
      ∷ record (field (codes "Size") (codes "byte")) { cond = Some (Read (Number 0)) }
      ∷ record (field (codes "Tail") (codes "byte")) { length = named (codes "Size"); until = Some (bound.Read (record { number = 0x04000002 })) }
      ∷ [];
}

-- places of blocks and of strings, and a line
abbrev links : Declaration
links = record {
  name = codes "Links";
  what = Block None false;
  fields =
      record (field (codes "Next") (codes "Ref")) { template = Some (codes "Thrice") }
      ∷ field (codes "Last") (codes "Ref")
      ∷ field (codes "Label") (codes "NiFixedString")
      ∷ field (codes "Note") (codes "LineString")
      ∷ [];
}

abbrev schema : Schema
schema = basics ++ ragged ∷ volume ∷ hollow ∷ hollows ∷ key ∷ keys ∷ motion ∷ flags ∷ pair ∷ bits ∷ holder ∷ thrice ∷ links ∷ places

-- version 4.0.0.2
abbrev context : Context
context = record { version = 0x04000002; user = 0; bs = 0; order = Little; owner = None; blocks = 1; strings = 1 }

abbrev byte : ℕ → Node
byte n = node.Num 1 false n

abbrev word : ℕ → Node
word n = node.Num 4 false n

abbrev row : List Node → Members
row [] = End
row (item ∷ items) = Here item (row items)

-- ---- rows of two bytes, of none and of none, since the widths are one number

abbrev ragged_rows : Members
ragged_rows = row (node.Bytes (0xAA ∷ 0xBB ∷ []) ∷ node.Bytes [] ∷ node.Bytes [] ∷ [])

abbrev ragged_node : Node
ragged_node = node.Group (row (byte 1 ∷ node.Bytes (2 ∷ []) ∷ byte 3 ∷ node.Row ragged_rows ∷ []))

ragged_spelled : Spells schema context 64 4 None 0 ragged_node (1 ∷ 2 ∷ 3 ∷ 0xAA ∷ 0xBB ∷ [])
unfolding parent by_name is_own_template
ragged_spelled = (
  (
    _,
    refl,
    (
      _,
      _,
      refl,
      (1, refl, lit< tt),
      (
        refl,
        (
          _,
          _,
          refl,
          (2 ∷ [], refl, refl, (lit< tt, tt)),
          (
            refl,
            (
              _,
              _,
              refl,
              (3, refl, lit< tt),
              (
                refl,
                (
                  _,
                  _,
                  refl,
                  (
                    ragged_rows,
                    refl,
                    (
                      _,
                      _,
                      refl,
                      (0xAA ∷ 0xBB ∷ [], refl, refl, (lit< tt, (lit< tt, tt))),
                      (
                        _,
                        _,
                        refl,
                        ([], refl, refl, tt),
                        (_, _, refl, ([], refl, refl, tt), refl),
                      ),
                    ),
                  ),
                  (
                    refl,
                    refl,
                  ),
                ),
              ),
            ),
          ),
        ),
      ),
    ),
  ),
  refl,
)

ragged_nodes : nodes ragged_node ≡ 8
ragged_nodes = refl

-- ---- a key with its forward value, since the argument is 2

abbrev two_node : Node
two_node = node.Group (row (word 2 ∷ node.Group (row (word 1 ∷ node.Row (row (node.Group (row (word 5 ∷ word 6 ∷ word 7 ∷ [])) ∷ [])) ∷ [])) ∷ []))

two_spelled : Spells schema context 64 10 None 0 two_node (2 ∷ 0 ∷ 0 ∷ 0 ∷ 1 ∷ 0 ∷ 0 ∷ 0 ∷ 5 ∷ 0 ∷ 0 ∷ 0 ∷ 6 ∷ 0 ∷ 0 ∷ 0 ∷ 7 ∷ 0 ∷ 0 ∷ 0 ∷ [])
unfolding parent by_name is_own_template
two_spelled = (
  (
    _,
    refl,
    (
      _,
      _,
      refl,
      (2, refl, lit< tt),
      (
        refl,
        (
          _,
          _,
          refl,
          (
            _,
            refl,
            (
              _,
              _,
              refl,
              (1, refl, lit< tt),
              (
                refl,
                (
                  _,
                  _,
                  refl,
                  (
                    _,
                    refl,
                    (
                      _,
                      _,
                      refl,
                      (
                        _,
                        refl,
                        (
                          _,
                          _,
                          refl,
                          (5, refl, lit< tt),
                          (
                            refl,
                            (
                              _,
                              _,
                              refl,
                              (6, refl, lit< tt),
                              (
                                refl,
                                (_, _, refl, (7, refl, lit< tt), (refl, refl)),
                              ),
                            ),
                          ),
                        ),
                      ),
                      refl,
                    ),
                  ),
                  (refl, refl),
                ),
              ),
            ),
          ),
          (refl, refl),
        ),
      ),
    ),
  ),
  refl,
)

-- and without it, since the argument is 1
abbrev one_node : Node
one_node = node.Group (row (word 1 ∷ node.Group (row (word 1 ∷ node.Row (row (node.Group (Here (word 5) (Here (word 6) (Absent End))) ∷ [])) ∷ [])) ∷ []))

one_spelled : Spells schema context 64 10 None 0 one_node (1 ∷ 0 ∷ 0 ∷ 0 ∷ 1 ∷ 0 ∷ 0 ∷ 0 ∷ 5 ∷ 0 ∷ 0 ∷ 0 ∷ 6 ∷ 0 ∷ 0 ∷ 0 ∷ [])
unfolding parent by_name is_own_template
one_spelled = (
  (
    _,
    refl,
    (
      _,
      _,
      refl,
      (1, refl, lit< tt),
      (
        refl,
        (
          _,
          _,
          refl,
          (
            _,
            refl,
            (
              _,
              _,
              refl,
              (1, refl, lit< tt),
              (
                refl,
                (
                  _,
                  _,
                  refl,
                  (
                    _,
                    refl,
                    (
                      _,
                      _,
                      refl,
                      (
                        _,
                        refl,
                        (
                          _,
                          _,
                          refl,
                          (5, refl, lit< tt),
                          (
                            refl,
                            (
                              _,
                              _,
                              refl,
                              (6, refl, lit< tt),
                              (
                                refl,
                                (_, refl, (refl, refl)),
                              ),
                            ),
                          ),
                        ),
                      ),
                      refl,
                    ),
                  ),
                  (refl, refl),
                ),
              ),
            ),
          ),
          (refl, refl),
        ),
      ),
    ),
  ),
  refl,
)

keys_nodes : (nodes two_node ≡ 9) × (nodes one_node ≡ 9)
keys_nodes = (refl, refl)

-- ---- a run of three bytes and an argument of 2, from the bits of one number

abbrev bits_node : Node
bits_node = node.Group (row (word 0x30000002 ∷ node.Bytes (0xAA ∷ 0xBB ∷ 0xCC ∷ []) ∷ node.Group (row (word 1 ∷ word 2 ∷ [])) ∷ []))

bits_spelled : Spells schema context 64 13 None 0 bits_node (2 ∷ 0 ∷ 0 ∷ 0x30 ∷ 0xAA ∷ 0xBB ∷ 0xCC ∷ 1 ∷ 0 ∷ 0 ∷ 0 ∷ 2 ∷ 0 ∷ 0 ∷ 0 ∷ [])
unfolding parent by_name is_own_template
bits_spelled = (
  (
    _,
    refl,
    (
      _,
      _,
      refl,
      (0x30000002, refl, lit< tt),
      (
        refl,
        (
          _,
          _,
          refl,
          (_, refl, refl, (lit< tt, (lit< tt, (lit< tt, tt)))),
          (
            refl,
            (
              _,
              _,
              refl,
              (
                _,
                refl,
                (
                  _,
                  _,
                  refl,
                  (1, refl, lit< tt),
                  (
                    refl,
                    (_, _, refl, (2, refl, lit< tt), (refl, refl)),
                  ),
                ),
              ),
              (refl, refl),
            ),
          ),
        ),
      ),
    ),
  ),
  refl,
)

bits_nodes : nodes bits_node ≡ 6
bits_nodes = refl

-- the same number with its highest byte first
big_first : text Big (word 0x30000002) ≡ 0x30 ∷ 0 ∷ 0 ∷ 2 ∷ []
big_first = refl

-- ---- the last present field of a name counts, and both ends of a range of versions are inside

abbrev thrice_node : Node
thrice_node = node.Group (Here (byte 1) (Here (byte 3) (Absent (Here (node.Bytes (7 ∷ 8 ∷ 9 ∷ [])) End))))

thrice_spelled : Spells schema context 64 15 None 0 thrice_node (1 ∷ 3 ∷ 7 ∷ 8 ∷ 9 ∷ [])
unfolding parent by_name is_own_template
thrice_spelled = (
  (
    _,
    refl,
    (
      _,
      _,
      refl,
      (1, refl, lit< tt),
      (
        refl,
        (
          _,
          _,
          refl,
          (3, refl, lit< tt),
          (
            refl,
            (
              _,
              refl,
              (
                refl,
                (_, _, refl, (_, refl, refl, (lit< tt, (lit< tt, (lit< tt, tt)))), (refl, refl)),
              ),
            ),
          ),
        ),
      ),
    ),
  ),
  refl,
)

-- an item of a run of bytes counts by the sign of its basic
item_signs : (number_at_item true 0 (node.Bytes (0xFF ∷ [])) ≡ 0xFFFFFFFFFFFFFFFF) × (number_at_item false 0 (node.Bytes (0xFF ∷ [])) ≡ 0xFF)
item_signs = (refl, refl)

-- ---- with the highest byte first

abbrev big : Context
big = record context { order = Big }

abbrev links_node : Node
links_node = node.Group (row (node.Ref true (Some 15) (Some 0) ∷ node.Ref true None None ∷ node.Text (Some 0) ∷ node.Line (0x41 ∷ []) ∷ []))

links_spelled : Spells schema big 64 16 None 0 links_node (0 ∷ 0 ∷ 0 ∷ 0 ∷ 0xFF ∷ 0xFF ∷ 0xFF ∷ 0xFF ∷ 0 ∷ 0 ∷ 0 ∷ 0 ∷ 0x41 ∷ 0x0A ∷ [])
unfolding parent by_name is_own_template
links_spelled = (
  (
    _,
    refl,
    (
      _,
      _,
      refl,
      (Some 0, refl, lit< tt),
      (
        refl,
        (
          _,
          _,
          refl,
          (None, refl, tt),
          (
            refl,
            (
              _,
              _,
              refl,
              (Some 0, refl, lit< tt),
              (
                refl,
                (_, _, refl, (0x41 ∷ [], refl, (lit< tt, (λ e. cc), tt), lit≤ tt), (refl, refl)),
              ),
            ),
          ),
        ),
      ),
    ),
  ),
  refl,
)

-- a place of no block
far_fails : Fails schema big 64 (kind_of schema big 16 None 0) (record { nodes = 16; place = 92; left = 1 ∷ 0 ∷ 0 ∷ 0 ∷ [] }) (RefRange 92 16777216)
unfolding parent by_name is_own_template
far_fails = inr (lit< tt, inl (RefRange 92 16777216, refl, inr (lit< tt, refl)))

-- ---- structs, one in another, as deep as may be

abbrev volumes : ℕ → Node
volumes zero = node.Group (Here (word 0) (Absent End))
volumes (suc k) = node.Group (Here (word 1) (Here (volumes k) End))

volumes_shaped : (k : ℕ) → Shape schema context (suc k) (kind_of schema context 5 None 0) (volumes k)
unfolding parent by_name is_own_template
volumes_shaped zero = (_, refl, (_, _, refl, (0, refl, lit< tt), (refl, (_, refl, (refl, refl)))))
volumes_shaped (suc k) = (_, refl, (_, _, refl, (1, refl, lit< tt), (refl, (_, _, refl, volumes_shaped k, (refl, refl)))))

abbrev holder_node : Node
holder_node = node.Group (row (volumes 62 ∷ []))

-- n words of 1, and what follows them
abbrev ones : ℕ → List ℕ → List ℕ
ones zero rest = rest
ones (suc n) rest = 1 ∷ 0 ∷ 0 ∷ 0 ∷ ones n rest

holder_spelled : Spells schema context 64 14 None 0 holder_node (ones 62 (0 ∷ 0 ∷ 0 ∷ 0 ∷ []))
unfolding parent by_name is_own_template
holder_spelled = ((_, refl, (_, _, refl, volumes_shaped 62, (refl, refl))), refl)

holder_depth : depth holder_node ≡ 64
holder_depth = refl

-- One level more is too deep, at the place of the group that lies too deep.
volumes_fail : (k p n : ℕ) (rest : List ℕ) → p + 4 * k ≤ most_file_bytes → n + 2 * k ≤ most_nodes
    → Fails schema context k (kind_of schema context 5 None 0) (record { nodes = n; place = p; left = ones k rest }) (TooDeep (p + 4 * k))
unfolding parent by_name is_own_template
volumes_fail zero p n rest w c = ap (λ q. TooDeep q) (omega arith)
volumes_fail (suc k) p n rest w c =
    let same : p + 4 * suc k ≡ p + 4 + 4 * k = omega arith in
    let count : n + 1 + 1 + 2 * k ≤ most_nodes = omega arith in
    inr (
      omega arith,
      inr (
        word 1,
        record { nodes = n + 1 + 1; place = p + 4; left = ones k rest },
        (1, refl, lit< tt),
        record { here = refl; place = refl; nodes = refl; within = omega arith; counted = omega arith },
        inr (refl, inl (TooDeep (p + 4 * suc k), refl, rw same (volumes_fail k (p + 4) (n + 1 + 1) rest (omega arith) count))),
      ),
    )

-- 63 words of 1 at place 63 of a file, with 16 nodes before them
holder_fails : Fails schema context 64 (kind_of schema context 14 None 0) (record { nodes = 16; place = 63; left = ones 63 [] }) (TooDeep 315)
unfolding parent by_name is_own_template
holder_fails = inr (lit< tt, inl (TooDeep 315, refl, volumes_fail 63 63 17 [] (lit≤ tt) (lit≤ tt)))

-- ---- so many items of no bytes that there are too many nodes

hollows_fail : (m n i p k : ℕ) (rest : List ℕ) → k + m ≡ most_nodes → p ≤ most_file_bytes → m < n
    → ItemsFail Little (λ i. FormShape schema context 63 (One (kind_of schema context 6 None 0))) (λ i. FormShapeFails schema context 63 (One (kind_of schema context 6 None 0))) i n
    (record { nodes = k; place = p; left = rest }) (TooManyNodes p)
unfolding parent by_name is_own_template
hollows_fail m zero i p k rest e w l = absurd (omega arith)
hollows_fail zero (suc n) i p k rest e w l = inl (TooManyNodes p, refl, inl (omega arith, refl))
hollows_fail (suc m) (suc n) i p k rest e w l =
    let step : k + 1 + m ≡ most_nodes = omega arith in
    inr (
      node.Group End,
      record { nodes = k + 1; place = p; left = rest },
      (End, refl, refl),
      record { here = refl; place = omega arith; nodes = refl; within = w; counted = omega arith },
      hollows_fail m n (i + 1) p (k + 1) rest step w (omega arith),
    )

-- 2 ^ 40 items at place 63 of a file, with 16 nodes before them
many_fail : Fails schema context 64 (kind_of schema context 7 None 0)
    (record { nodes = 16; place = 63; left = 0 ∷ 0 ∷ 0 ∷ 0 ∷ 0 ∷ 1 ∷ 0 ∷ 0 ∷ 0 ∷ 0 ∷ 0 ∷ 0 ∷ [] }) (TooManyNodes 71)
unfolding parent by_name is_own_template
many_fail =
    inr (
      lit< tt,
      inr (
        node.Num 8 false 1099511627776,
        record { nodes = 18; place = 71; left = 0 ∷ 0 ∷ 0 ∷ 0 ∷ [] },
        (1099511627776, refl, lit< tt),
        record { here = refl; place = refl; nodes = refl; within = lit≤ tt; counted = lit≤ tt },
        inr (refl, inl (TooManyNodes 71, refl, inr (lit< tt, hollows_fail 16777197 1099511627776 0 71 19 (0 ∷ 0 ∷ 0 ∷ 0 ∷ []) refl (lit≤ tt) (lit< tt)))),
      ),
    )

-- two of them are read
two_hollows : Node
two_hollows = node.Group (row (node.Num 8 false 2 ∷ node.Row (row (node.Group End ∷ node.Group End ∷ [])) ∷ []))

two_hollows_spelled : Spells schema context 64 7 None 0 two_hollows (2 ∷ 0 ∷ 0 ∷ 0 ∷ 0 ∷ 0 ∷ 0 ∷ 0 ∷ [])
unfolding parent by_name is_own_template two_hollows
two_hollows_spelled = (
  (
    _,
    refl,
    (
      _,
      _,
      refl,
      (2, refl, lit< tt),
      (
        refl,
        (_, _, refl, (_, refl, (_, _, refl, (End, refl, refl), (_, _, refl, (End, refl, refl), refl))), (refl, refl)),
      ),
    ),
  ),
  refl,
)

-- ---- zero nodes

zero_ragged : zero_of schema context 4 ≡ node.Group (row (byte 0 ∷ node.Bytes [] ∷ byte 0 ∷ node.Row End ∷ []))
unfolding parent by_name is_own_template
zero_ragged = refl

-- the second of the pair isn't there, since the argument is 0
zero_bits : zero_of schema context 13
    ≡ node.Group (row (word 0 ∷ node.Bytes [] ∷ node.Group (Here (word 0) (Absent End)) ∷ []))
unfolding parent by_name is_own_template
zero_bits = refl

zero_links : zero_of schema context 16
    ≡ node.Group (row (node.Ref true (Some 15) None ∷ node.Ref true None None ∷ node.Text None ∷ node.Line [] ∷ []))
unfolding parent by_name is_own_template
zero_links = refl
