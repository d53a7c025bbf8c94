-- A tree with each kind of node, in both byte orders.
use Rattle.std.specs.Prelude.{true, false, codes, None, Some}
use Rattle.nif_base.specs.Node.{Node, Num, Line, Ref, Text, Bytes, Group, Row, End, Here, Absent}

abbrev pub encoded : Node
encoded =
    Group (
    Here (Num 2 true 0x0102) (
    Here (Num 2 false 0x0102) (
    Here (Num 4 false 0x01020304) (
    Here (Line (codes "name")) (
    Absent (
    Here (Row (Here (Num 1 false 7) End)) (
    Here (Row End) (
    Here (Ref true None (Some 5)) (
    Here (Ref false (Some 1) None) (
    Here (Bytes (codes "nine byte")) (
    Here (Text (Some 6)) (
    Here (Text None) End))))))))))))
