-- A tree with a node of each kind.
use Rattle.std.specs.Prelude.{true, [], ◌∷◌, None, Some}
use Rattle.nif_base.specs.Node.{Node, Num, Line, Ref, Text, Bytes, Group, Row, End, Here, Absent}

abbrev pub sample : Node
sample =
    Group (
    Here (Num 2 true 258) (
    Here (Line (97 ∷ 98 ∷ [])) (
    Here (Ref true (Some 3) (Some 1)) (
    Here (Text None) (
    Absent (
    Here (Bytes (48 ∷ 49 ∷ 50 ∷ 51 ∷ 52 ∷ 53 ∷ 54 ∷ 55 ∷ 56 ∷ 57 ∷ [])) (
    Here (Row End) End)))))))
