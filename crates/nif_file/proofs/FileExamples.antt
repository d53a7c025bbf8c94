-- The definitions at small files.
use Rattle.std.proofs.Common.{◌≡◌, ℕ, ◌^◌, ◌<◌, ◌≤◌, inl, inr, Bool, true, false, ◌&&◌, not, Some, None, List, [], ◌∷◌, ◌++◌, length, refl, sym, lit<, lit≤, ltb, ltb-true, eqb, true≢false}
use Rattle.std.proofs.lemmas.Bool.{eqb-false}
use Rattle.std.specs.Prelude.{codes}
use Rattle.nif_base.specs.Node as node
use Rattle.nif_base.specs.Node.{Node, Members, End, Here, Absent}
use Rattle.nif_base.specs.File.{File, nodes_of}
use Rattle.nif_base.specs.Version.{version_of, part_of, number_of}
use Rattle.nif_schema.specs.Declaration.{Name, Read, Field}
use Rattle.nif_schema.specs.Expression.{Path}
use Rattle.nif_schema.specs.Schema.{Schema, parent}
use Rattle.nif_schema.specs.Uses.{named, is_own_template}
use Rattle.nif_schema.specs.Basic.{unsigned, always_little}
use Rattle.nif_schema.specs.Reasons.{IsOpen}
use Rattle.nif_schema.specs.declared.decls.Leaf.TheVariants as leaf
use Rattle.nif_schema.specs.declared.decls.What.TheVariants as what
use Rattle.nif_layout.specs.Leaf.{AreInLine}
use Rattle.nif_layout.specs.Fault.{Point, Passes}
use Rattle.nif_file.specs.declared.faults.FileFault.TheVariants as file
use Rattle.nif_file.specs.FirstLine.{line_version, behind_front}
use Rattle.nif_file.specs.Files.{has_zero_word, IsHeaderLine, IsFile, size_of}
use Rattle.nif_file.specs.FileFails.{start_of, IsKnown}

-- ---- the schema of plain files

abbrev field : Name → Name → Field
field name kind = record {
  name = name;
  kind = kind;
  template = None;
  arg = None;
  length = None;
  width = None;
  cond = None;
  vercond = None;
  since = None;
  until = None;
  user = None;
  bs = None;
  only = None;
  exclude = None;
}

abbrev plain : Schema
plain =
    record { name = codes "ulittle32"; what = what.Basic (always_little 4); fields = [] }
    ∷ record { name = codes "uint"; what = what.Basic (unsigned 4); fields = [] }
    ∷ record { name = codes "HeaderString"; what = what.Basic leaf.Line; fields = [] }
    ∷ record { name = codes "FileVersion"; what = what.Basic (always_little 4); fields = [] }
    ∷ record { name = codes "Ref"; what = what.Basic leaf.Ref; fields = [] }
    ∷ record {
      name = codes "Header";
      what = what.Struct;
      fields = field (codes "Header String") (codes "HeaderString") ∷ field (codes "Version") (codes "FileVersion") ∷ field (codes "Num Blocks") (codes "ulittle32") ∷ [];
    }
    ∷ record {
      name = codes "Footer";
      what = what.Struct;
      fields =
          field (codes "Num Roots") (codes "uint")
          ∷ record (field (codes "Roots") (codes "Ref")) { template = Some (codes "PlainObject"); length = Some (Read (Path (codes "Num Roots" ∷ []))) }
          ∷ [];
    }
    ∷ record { name = codes "PlainObject"; what = what.Block None true; fields = [] }
    ∷ record { name = codes "PlainNumber"; what = what.Block (Some (codes "PlainObject")) false; fields = field (codes "Value") (codes "uint") ∷ [] }
    ∷ []

-- ---- lines

abbrev can_stand : ℕ → Bool
can_stand b = ltb b 256 && not (eqb b 0x0A)

abbrev all_stand : List ℕ → Bool
all_stand [] = true
all_stand (b ∷ bs) = can_stand b && all_stand bs

left : (a b : Bool) → (a && b) ≡ true → a ≡ true
left true b h = refl
left false b h = h

right : (a b : Bool) → (a && b) ≡ true → b ≡ true
right true b h = h
right false b h = absurd (true≢false (sym h))

other : (b : Bool) → not b ≡ true → b ≡ false
other true h = absurd (true≢false (sym h))
other false h = refl

in_line : (bs : List ℕ) → all_stand bs ≡ true → AreInLine bs
in_line [] h = tt
in_line (b ∷ bs) h =
    let here = left (can_stand b) (all_stand bs) h in (
      ltb-true b 256 (left (ltb b 256) (not (eqb b 0x0A)) here),
      eqb-false b 0x0A (other (eqb b 0x0A) (right (ltb b 256) (not (eqb b 0x0A)) here)),
      in_line bs (right (can_stand b) (all_stand bs) h),
    )

abbrev line : List ℕ
line = codes "NetImmerse File Format, Version 4.0.0.2"

line_is : line_version line ≡ Some 0x04000002
unfolding line_version behind_front version_of part_of number_of
line_is = refl

gamebryo_is : line_version (codes "Gamebryo File Format, Version 20.2.0.7") ≡ Some 0x14020007
unfolding line_version behind_front version_of part_of number_of
gamebryo_is = refl

low_is : line_version (codes "NetImmerse File Format, Version 3.03") ≡ Some 0x03030000
unfolding line_version behind_front version_of part_of number_of
low_is = refl

bad_is : line_version (codes "NIF 4.0.0.2") ≡ None
unfolding line_version behind_front version_of part_of number_of
bad_is = refl

four_digits : line_version (codes "NetImmerse File Format, Version 4.0.0.0002") ≡ None
unfolding line_version behind_front version_of part_of number_of
four_digits = refl

-- ---- the smallest plain file

abbrev head : ℕ → Members
head count = Here (node.Line line) (Here (node.Num 4 true 0x04000002) (Here (node.Num 4 true count) End))

abbrev footer : Node
footer = node.Group (Here (node.Num 4 false 0) (Here (node.Row End) End))

abbrev smallest : File
smallest = record { header = node.Group (head 0); blocks = []; footer = footer }

abbrev smallest_bytes : List ℕ
smallest_bytes = line ++ 0x0A ∷ 2 ∷ 0 ∷ 0 ∷ 4 ∷ 0 ∷ 0 ∷ 0 ∷ 0 ∷ 0 ∷ 0 ∷ 0 ∷ 0 ∷ []

head_is : (count : ℕ) → count < 256 ^ 4 → count ≤ 2 ^ 20 → ltb (2 ^ 20) count ≡ false → IsHeaderLine plain (head count)
unfolding parent named is_own_template line_version behind_front version_of part_of number_of
head_is count fits few test = (
  _,
  _,
  refl,
  (line, refl, in_line line refl, lit≤ tt),
  (
    refl,
    (
      _,
      _,
      refl,
      (0x04000002, refl, lit< tt),
      (refl, (_, _, refl, (count, refl, fits), (rw test refl, refl))),
    ),
  ),
)

smallest_is : IsFile plain smallest smallest_bytes
unfolding parent named is_own_template line_version behind_front version_of part_of number_of
smallest_is = record {
  header = record { members = head 0; group = refl; each = head_is 0 (lit< tt) (lit≤ tt) refl; types = refl };
  blocks = tt;
  count = refl;
  footer = (_, refl, (_, _, refl, (0, refl, lit< tt), (refl, (_, _, refl, (End, refl, refl), (refl, refl)))));
  text = refl;
  few_nodes = lit≤ tt;
  short = lit≤ tt;
}

smallest_numbers : (nodes_of smallest ≡ 7) × (size_of plain smallest ≡ 52) × (length smallest_bytes ≡ 52)
smallest_numbers = (refl, refl, refl)

-- ---- one byte more, and one less

abbrev behind_head : List ℕ → Point
behind_head rest = record { nodes = 4; place = 48; left = rest }

head_passes : (rest : List ℕ) → Passes (line ++ 0x0A ∷ 2 ∷ 0 ∷ 0 ∷ 4 ∷ 0 ∷ 0 ∷ 0 ∷ 0 ∷ []) 3 (start_of (line ++ 0x0A ∷ 2 ∷ 0 ∷ 0 ∷ 4 ∷ 0 ∷ 0 ∷ 0 ∷ 0 ∷ rest)) (behind_head rest)
head_passes rest = record { here = refl; place = refl; nodes = refl; within = lit≤ tt; counted = lit≤ tt }

trailing : IsKnown plain (smallest_bytes ++ 0 ∷ []) (file.Trailing 52) 53
unfolding parent named is_own_template line_version behind_front version_of part_of number_of
trailing =
    inr (
      head 0,
      behind_head (0 ∷ 0 ∷ 0 ∷ 0 ∷ 0 ∷ []),
      (head_is 0 (lit< tt) (lit≤ tt) refl, head_passes (0 ∷ 0 ∷ 0 ∷ 0 ∷ 0 ∷ [])),
      inr (
        refl,
        inr (
          [],
          behind_head (0 ∷ 0 ∷ 0 ∷ 0 ∷ 0 ∷ []),
          (refl, refl),
          inr (
            footer,
            record { nodes = 7; place = 52; left = 0 ∷ [] },
            (
              (_, refl, (_, _, refl, (0, refl, lit< tt), (refl, (_, _, refl, (End, refl, refl), (refl, refl))))),
              record { here = refl; place = refl; nodes = refl; within = lit≤ tt; counted = lit≤ tt },
            ),
            ((λ e. absurd (cc)), refl),
          ),
        ),
      ),
    )

ended : IsKnown plain (line ++ 0x0A ∷ 2 ∷ 0 ∷ 0 ∷ 4 ∷ 0 ∷ 0 ∷ 0 ∷ 0 ∷ 0 ∷ 0 ∷ 0 ∷ []) (file.Ended 48) 51
unfolding parent named is_own_template line_version behind_front version_of part_of number_of
ended =
    inr (
      head 0,
      behind_head (0 ∷ 0 ∷ 0 ∷ []),
      (head_is 0 (lit< tt) (lit≤ tt) refl, head_passes (0 ∷ 0 ∷ 0 ∷ [])),
      inr (
        refl,
        inr ([], behind_head (0 ∷ 0 ∷ 0 ∷ []), (refl, refl), inl (_, refl, inr (lit< tt, inl (_, refl, inr (lit< tt, refl))))),
      ),
    )

-- ---- another version than that of the line, and one block too many

disagrees : IsKnown plain (line ++ 0x0A ∷ 5 ∷ 0 ∷ 0 ∷ 0x14 ∷ 0 ∷ 0 ∷ 0 ∷ 0 ∷ 0 ∷ 0 ∷ 0 ∷ 0 ∷ []) (file.VersionDisagrees 0x04000002 0x14000005) 44
unfolding parent named is_own_template line_version behind_front version_of part_of number_of
disagrees =
    inl (inr (
      _,
      record { nodes = 2; place = 40; left = 5 ∷ 0 ∷ 0 ∷ 0x14 ∷ 0 ∷ 0 ∷ 0 ∷ 0 ∷ 0 ∷ 0 ∷ 0 ∷ 0 ∷ [] },
      (line, refl, in_line line refl, lit≤ tt),
      record { here = refl; place = refl; nodes = refl; within = lit≤ tt; counted = lit≤ tt },
      inr (
        refl,
        inr (
          _,
          record { nodes = 3; place = 44; left = 0 ∷ 0 ∷ 0 ∷ 0 ∷ 0 ∷ 0 ∷ 0 ∷ 0 ∷ [] },
          (0x14000005, refl, lit< tt),
          record { here = refl; place = refl; nodes = refl; within = lit≤ tt; counted = lit≤ tt },
          inl refl,
        ),
      ),
    ))

-- ---- a block, where its type is open

abbrev seven : File
seven = record { header = node.Group (head 1); blocks = record { kind = 8; index = None; node = node.Group (Here (node.Num 4 false 7) End) } ∷ []; footer = node.Group (Here (node.Num 4 false 1) (Here (node.Row (Here (node.Ref true (Some 7) (Some 0)) End)) End)) }

abbrev seven_bytes : List ℕ
seven_bytes =
    line ++ 0x0A ∷ 2 ∷ 0 ∷ 0 ∷ 4 ∷ 1 ∷ 0 ∷ 0 ∷ 0 ∷ 11 ∷ 0 ∷ 0 ∷ 0 ∷ (codes "PlainNumber" ++ 7 ∷ 0 ∷ 0 ∷ 0 ∷ 1 ∷ 0 ∷ 0 ∷ 0 ∷ 0 ∷ 0 ∷ 0 ∷ 0 ∷ [])

seven_is : IsOpen plain 8 → IsFile plain seven seven_bytes
unfolding parent named is_own_template line_version behind_front version_of part_of number_of
seven_is opens = record {
  header = record { members = head 1; group = refl; each = head_is 1 (lit< tt) (lit≤ tt) refl; types = refl };
  blocks = (
    record {
      type = record { named = refl; concrete = refl; opens = opens };
      index = refl;
      indexed = tt;
      value = (_, refl, (_, _, refl, (7, refl, lit< tt), (refl, refl)));
      sized = tt;
    },
    tt,
  );
  count = refl;
  footer = (
    _,
    refl,
    (
      _,
      _,
      refl,
      (1, refl, lit< tt),
      (
        refl,
        (
          _,
          _,
          refl,
          (_, refl, (_, _, refl, (Some 0, refl, lit< tt), refl)),
          (refl, refl),
        ),
      ),
    ),
  );
  text = refl;
  few_nodes = lit≤ tt;
  short = lit≤ tt;
}

seven_numbers : (nodes_of seven ≡ 10) × (size_of plain seven ≡ 75) × (length seven_bytes ≡ 75)
unfolding parent line_version behind_front version_of part_of number_of
seven_numbers = (refl, refl, refl)

-- ---- an indexed file, whose numbers are big

abbrev several : Name → Name → Name → Field
several name kind count = record (field name kind) { length = Some (Read (Path (count ∷ []))) }

abbrev indexed : Schema
indexed =
    record { name = codes "ulittle32"; what = what.Basic (always_little 4); fields = [] }
    ∷ record { name = codes "uint"; what = what.Basic (unsigned 4); fields = [] }
    ∷ record { name = codes "ushort"; what = what.Basic (unsigned 2); fields = [] }
    ∷ record { name = codes "BlockTypeIndex"; what = what.Basic (unsigned 2); fields = [] }
    ∷ record { name = codes "byte"; what = what.Basic (unsigned 1); fields = [] }
    ∷ record { name = codes "char"; what = what.Basic (unsigned 1); fields = [] }
    ∷ record { name = codes "HeaderString"; what = what.Basic leaf.Line; fields = [] }
    ∷ record { name = codes "FileVersion"; what = what.Basic (always_little 4); fields = [] }
    ∷ record {
      name = codes "SizedString";
      what = what.Struct;
      fields = field (codes "Length") (codes "uint") ∷ several (codes "Value") (codes "char") (codes "Length") ∷ [];
    }
    ∷ record {
      name = codes "Header";
      what = what.Struct;
      fields =
          field (codes "Header String") (codes "HeaderString")
          ∷ field (codes "Version") (codes "FileVersion")
          ∷ field (codes "Endian Type") (codes "byte")
          ∷ field (codes "Num Blocks") (codes "ulittle32")
          ∷ field (codes "Num Block Types") (codes "ushort")
          ∷ several (codes "Block Types") (codes "SizedString") (codes "Num Block Types")
          ∷ several (codes "Block Type Index") (codes "BlockTypeIndex") (codes "Num Blocks")
          ∷ several (codes "Block Size") (codes "uint") (codes "Num Blocks")
          ∷ [];
    }
    ∷ record { name = codes "Footer"; what = what.Struct; fields = field (codes "Num Roots") (codes "uint") ∷ [] }
    ∷ record { name = codes "A"; what = what.Block None false; fields = field (codes "Value") (codes "uint") ∷ [] }
    ∷ []

abbrev late_line : List ℕ
late_line = codes "Gamebryo File Format, Version 20.2.0.7"

abbrev types : Members
types = Here (node.Group (Here (node.Num 4 false 1) (Here (node.Bytes (codes "A")) End))) End

abbrev late_head : Members
late_head =
    Here (node.Line late_line) (Here (node.Num 4 true 0x14020007) (Here (node.Num 1 false 0) (Here (node.Num 4 true 1) (Here (node.Num 2 false 1)
    (Here (node.Row types) (Here (node.Row (Here (node.Num 2 false 0x8000) End)) (Here (node.Row (Here (node.Num 4 false 4) End)) End)))))))

abbrev big : File
big = record { header = node.Group late_head; blocks = record { kind = 11; index = Some 0x8000; node = node.Group (Here (node.Num 4 false 7) End) } ∷ []; footer = node.Group (Here (node.Num 4 false 0) End) }

abbrev big_bytes : List ℕ
big_bytes =
    late_line ++ 0x0A ∷ 7 ∷ 0 ∷ 2 ∷ 0x14 ∷ 0 ∷ 1 ∷ 0 ∷ 0 ∷ 0 ∷ 0 ∷ 1 ∷ 0 ∷ 0 ∷ 0 ∷ 1 ∷ (codes "A" ++ 0x80 ∷ 0 ∷ 0 ∷ 0 ∷ 0 ∷ 4 ∷ 0 ∷ 0 ∷ 0 ∷ 7 ∷ 0 ∷ 0 ∷ 0 ∷ 0 ∷ [])

late_head_is : IsHeaderLine indexed late_head
unfolding parent named is_own_template line_version behind_front version_of part_of number_of
late_head_is = (
  _,
  _,
  refl,
  (late_line, refl, in_line late_line refl, lit≤ tt),
  (
    refl,
    (
      _,
      _,
      refl,
      (0x14020007, refl, lit< tt),
      (
        refl,
        (
          _,
          _,
          refl,
          (0, refl, lit< tt),
          (
            refl,
            (
              _,
              _,
              refl,
              (1, refl, lit< tt),
              (
                refl,
                (
                  _,
                  _,
                  refl,
                  (1, refl, lit< tt),
                  (
                    refl,
                    (
                      _,
                      _,
                      refl,
                      (
                        types,
                        refl,
                        (
                          _,
                          _,
                          refl,
                          (_, refl, (_, _, refl, (1, refl, lit< tt), (refl, (_, _, refl, (codes "A", refl, refl, (lit< tt, tt)), (refl, refl))))),
                          refl,
                        ),
                      ),
                      (
                        refl,
                        (
                          _,
                          _,
                          refl,
                          (_, refl, (_, _, refl, (0x8000, refl, lit< tt), refl)),
                          (refl, (_, _, refl, (_, refl, (_, _, refl, (4, refl, lit< tt), refl)), (refl, refl))),
                        ),
                      ),
                    ),
                  ),
                ),
              ),
            ),
          ),
        ),
      ),
    ),
  ),
)

big_is : IsOpen indexed 11 → IsFile indexed big big_bytes
unfolding parent named is_own_template line_version behind_front version_of part_of number_of
big_is opens = record {
  header = record { members = late_head; group = refl; each = late_head_is; types = refl };
  blocks = (
    record {
      type = record { named = refl; concrete = refl; opens = opens };
      index = refl;
      indexed = refl;
      value = (_, refl, (_, _, refl, (7, refl, lit< tt), (refl, refl)));
      sized = refl;
    },
    tt,
  );
  count = refl;
  footer = (_, refl, (_, _, refl, (0, refl, lit< tt), (refl, refl)));
  text = refl;
  few_nodes = lit≤ tt;
  short = lit≤ tt;
}

-- ---- the versions with a zero word

zero_words : (has_zero_word 0x05000000 ≡ false) × (has_zero_word 0x05000001 ≡ true) × (has_zero_word 0x0A01006A ≡ true) × (has_zero_word 0x0A01006B ≡ false)
zero_words = (refl, refl, refl, refl)
