-- A leaf that is read doesn't fail.
use Rattle.std.proofs.Common.{◌≡◌, ℕ, zero, suc, ◌^◌, ◌<◌, ◌≤◌, ◌≢◌, Bool, true, false, ◌||◌, Option, Some, None, List, [], ◌∷◌, ◌++◌, length, refl, sym, ◌∙◌, ap, subst, ap₂, add-one, arith, length-append, append_assoc, lt-ltb, ltb, ne_eqb, eqb}
use Rattle.nif_base.specs.Node.{is_little, number, place_or_none}
use Rattle.nif_layout.specs.Context.{Context}
use Rattle.nif_layout.specs.Kind.{Kind, Number, Line, Ref, Text, Group, Unknown}
use Rattle.nif_layout.specs.Leaf.{IsLeaf, AreInLine, IsBelow}
use Rattle.nif_layout.specs.Fault.{Fault, RefRange, StringRange, Point, Passes, one_more}
use Rattle.nif_layout.specs.LeafFault.{leaf_fault, shortage, newline, line_needs, line_fault, number_at, range_fault, or_else}
use Rattle.nif_layout.specs.Fails.{LeafFails}
use Rattle.nif_layout.specs.Laws.{Fits}
use Rattle.nif_layout.specs.ByteLaws.{length_number}
use Rattle.nif_layout.specs.CancelLaws.{place_fits}
use Rattle.nif_layout.specs.ExclusiveLaws.{Excludes, OneFault, counted_one, counted_excludes}
use Rattle.nif_layout.specs.ByteLaws.{number_again}
use Rattle.nif_layout.specs.RoomLaws.{no_shortage}

-- the place of the first 0x0A after a line
pub newline_at : (most : ℕ) (line rest : List ℕ) → AreInLine line → length line < most
    → newline most (line ++ 0x0A ∷ rest) ≡ Some (length line)
unfolding newline
newline_at zero line rest h l = absurd (omega arith)
newline_at (suc most) [] rest h l = refl
newline_at (suc most) (b ∷ line) rest h l =
    let len : length line < most = omega arith in
    let test : eqb b 0x0A ≡ false = ne_eqb b 0x0A h.1 in
    rw (test, newline_at most line rest h.2 len) refl

pub in_range : (most : ℕ) (place : Option ℕ) (fault : Fault) → most < 2 ^ 32 → IsBelow most place
    → range_fault most (place_or_none place) fault ≡ None
in_range most None fault h b = refl
in_range most (Some k) fault h b =
    let below : k < most = b in
    let no : k ≢ 0xFFFFFFFF = omega arith in
    let a : eqb k 0xFFFFFFFF ≡ false = ne_eqb k 0xFFFFFFFF no in
    let c : ltb k most ≡ true = lt-ltb k most below in
    rw (a, c) refl

-- a number that stands there and is in range has no fault
pub place_no_fault : (little : Bool) (most : ℕ) (place : Option ℕ) (at next : Point) (n : ℕ) (fault : Fault)
    → most < 2 ^ 32 → IsBelow most place
    → Passes (number little 4 (place_or_none place)) n at next
    → or_else (shortage 4 at) (range_fault most (number_at little 4 at.left) fault) ≡ None
place_no_fault little most place at next n fault h b p =
    let s = number little 4 (place_or_none place) in
    let len : length s ≡ 4 = length_number little 4 (place_or_none place) in
    let short : shortage 4 at ≡ None = rw len at (no_shortage s n at next p) in
    let v : number_at little 4 at.left ≡ place_or_none place =
    ap (λ l. number_at little 4 l) p.here
    ∙ number_again little 4 (place_or_none place) next.left (place_fits most place h b) in
    ap₂ or_else short (ap (λ x. range_fault most x fault) v ∙ in_range most place fault h b)

pub line_no_fault : (line : List ℕ) (at next : Point) (n : ℕ) → AreInLine line → length line ≤ 255
    → Passes (line ++ 0x0A ∷ []) n at next
    → or_else (shortage (line_needs (newline 256 at.left)) at) (line_fault (newline 256 at.left) at.place) ≡ None
line_no_fault line at next n h l p =
    let len : length (line ++ 0x0A ∷ []) ≡ suc (length line) = length-append line (0x0A ∷ []) ∙ add-one (length line) in
    let short : shortage (suc (length line)) at ≡ None = rw len at (no_shortage (line ++ 0x0A ∷ []) n at next p) in
    let fits : length line < 256 = omega arith in
    let found : newline 256 at.left ≡ Some (length line) =
    ap (λ s. newline 256 s) (p.here ∙ append_assoc line (0x0A ∷ []) next.left) ∙ newline_at 256 line next.left h fits in
    let P : Option ℕ → Type 0 = λ o. or_else (shortage (line_needs o) at) (line_fault o at.place) ≡ None in
    subst P (sym found) (ap (λ x. or_else x None) short)

pub leaf_excludes : (C : Context) → Fits C → (kind : Kind) → Excludes C.order (IsLeaf C kind) (LeafFails C kind)
leaf_excludes C fits (Number width little) node at next f ha p bad =
    let s = number (little || is_little C.order) width ha.0 in
    let p' : Passes s 1 at next = rw ha.1 at p in
    let len : length s ≡ width = length_number (little || is_little C.order) width ha.0 in
    counted_excludes (λ f. f) (λ q w. leaf_fault C (Number width little) q ≡ Some w) s 0 at next f
    (λ q w. let e : shortage width (one_more at) ≡ None = rw len at (no_shortage s 0 (one_more at) next q) in cc) p' bad
leaf_excludes C fits Line node at next f ha p bad =
    let p' : Passes (ha.0 ++ 0x0A ∷ []) 1 at next = rw ha.1 at p in
    counted_excludes (λ f. f) (λ q w. leaf_fault C Line q ≡ Some w) (ha.0 ++ 0x0A ∷ []) 0 at next f
    (λ q w. let e = line_no_fault ha.0 (one_more at) next 0 ha.2 ha.3 q in cc) p' bad
leaf_excludes C fits (Ref strong wanted) node at next f ha p bad =
    let s = number (is_little C.order) 4 (place_or_none ha.0) in
    let p' : Passes s 1 at next = rw ha.1 at p in
    counted_excludes (λ f. f) (λ q w. leaf_fault C (Ref strong wanted) q ≡ Some w) s 0 at next f
    (λ q w. let e = place_no_fault (is_little C.order) C.blocks ha.0 (one_more at) next 0
    (RefRange at.place (number_at (is_little C.order) 4 at.left)) fits.blocks ha.2 q in cc) p' bad
leaf_excludes C fits Text node at next f ha p bad =
    let s = number (is_little C.order) 4 (place_or_none ha.0) in
    let p' : Passes s 1 at next = rw ha.1 at p in
    counted_excludes (λ f. f) (λ q w. leaf_fault C Text q ≡ Some w) s 0 at next f
    (λ q w. let e = place_no_fault (is_little C.order) C.strings ha.0 (one_more at) next 0
    (StringRange at.place (number_at (is_little C.order) 4 at.left)) fits.strings ha.2 q in cc) p' bad
leaf_excludes C fits (Group fields template arg) node at next f ha p bad = absurd ha
leaf_excludes C fits Unknown node at next f ha p bad = absurd ha

pub some_inj : {A : Type 0} (a b : A) → Some a ≡ Some b → a ≡ b
some_inj a b e = cc

pub leaf_one : (C : Context) (kind : Kind) → OneFault (LeafFails C kind)
leaf_one C kind at f g a b =
    counted_one (λ f. f) (λ q w. leaf_fault C kind q ≡ Some w) (λ q x y hx hy. some_inj x y (sym hx ∙ hy)) at f g a b
