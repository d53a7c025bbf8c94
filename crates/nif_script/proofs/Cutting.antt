-- Texts cut into pieces.
use Rattle.std.proofs.Common.{◌≡◌, ℕ, ◌+◌, ◌-◌, ◌≤◌, Bool, true, false, List, [], ◌∷◌, length, take, drop, Some, None, sym, ap, ◌∙◌, arith, take_all, length-drop, subst}
use Rattle.std.specs.Prelude.{◌==◌, position, cond, suc}
use Rattle.std.specs.List.{position_or_len, onto_first}
use Rattle.std.proofs.lemmas.List.Splits.{slice_split_first, slice_split_none, length-slice_split}
use Rattle.std.proofs.lemmas.List.Sums.{fails_before_first, position_or_len_is, count_by-le-length}
use Rattle.std.proofs.lemmas.List.Quantifiers.{position-Some}
use Rattle.std.proofs.lemmas.List.Elements.{All-from_get_or, All-cons, All-nil, All-head, All-tail}
use Rattle.nif_script.specs.Forms.{Text, pieces}
use Rattle.nif_script.specs.Kept.{AreWithin}

-- the first piece ends at the first byte of the kind
pub pieces_cut : (mark : ℕ) (text : Text) (end : ℕ) → position (λ c. c == mark) text ≡ Some end
    → pieces mark text ≡ take end text ∷ pieces mark (take (length text - (end + 1)) (drop (end + 1) text))
pieces_cut mark text end e =
    let at = position-Some (λ c. c == mark) text end 0 e in
    let place : position_or_len (λ c. c == mark) text ≡ end = position_or_len_is (λ c. c == mark) text end 0 (omega (arith, at.0)) at.2 (λ _. at.1) in
    slice_split_first (λ c. c == mark) text 0 (omega (arith, place, at.0)) ∙ ap (λ i. take i text ∷ pieces mark (drop (i + 1) text)) place
    ∙ ap (λ l. take end text ∷ pieces mark l) (sym (take_all (length text - (end + 1)) (drop (end + 1) text) (omega (arith, length-drop (end + 1) text))))

no_mark : (mark : ℕ) (text : Text) → position (λ c. c == mark) text ≡ None → length text ≤ position_or_len (λ c. c == mark) text
no_mark mark text e = grind arith

-- a text without such a byte is one piece
pub pieces_whole : (mark : ℕ) (text : Text) → position (λ c. c == mark) text ≡ None → pieces mark text ≡ text ∷ []
pieces_whole mark text e =
    let long = no_mark mark text e in
    slice_split_none (λ c. c == mark) text (All-from_get_or (λ c. (c == mark) ≡ false) text 0 (λ i h. fails_before_first (λ c. c == mark) text i 0 (omega arith)))

pub pieces_few : (mark : ℕ) (text : Text) → length (pieces mark text) ≤ length text + 1
pieces_few mark text = omega (arith, length-slice_split (λ c. c == mark) text, count_by-le-length (λ c. c == mark) text)

wider : (most : ℕ) (texts : List Text) → AreWithin most texts → AreWithin (suc most) texts
wider most texts within k d h = omega (arith, within k d h)

longer : (most byte : ℕ) (texts : List Text) → AreWithin most texts → AreWithin (suc most) (onto_first byte texts)
longer most byte [] within = All-cons (λ t. length t ≤ suc most) (byte ∷ []) [] (omega arith) (All-nil (λ t. length t ≤ suc most))
longer most byte (text ∷ texts) within =
    let first : length text ≤ most = All-head (λ t. length t ≤ most) text texts within in
    All-cons (λ t. length t ≤ suc most) (byte ∷ text) texts (omega arith) (wider most texts (All-tail (λ t. length t ≤ most) text texts within))

either : (most byte : ℕ) (ends : Bool) (texts : List Text) → AreWithin most texts → AreWithin (suc most) (cond ends ([] ∷ texts) (onto_first byte texts))
either most byte true texts within = All-cons (λ t. length t ≤ suc most) [] texts (omega arith) (wider most texts within)
either most byte false texts within = longer most byte texts within

pub pieces_short : (mark : ℕ) (text : Text) → AreWithin (length text) (pieces mark text)
pieces_short mark [] = All-cons (λ t. length t ≤ 0) [] [] (omega arith) (All-nil (λ t. length t ≤ 0))
pieces_short mark (byte ∷ text) = either (length text) byte (byte == mark) (pieces mark text) (pieces_short mark text)

pub within_along : (less most : ℕ) (texts : List Text) → less ≤ most → AreWithin less texts → AreWithin most texts
within_along less most texts h within k d i = omega (arith, within k d i, h)

pub within_tail : (most : ℕ) (old texts : List Text) (text : Text) → old ≡ text ∷ texts → AreWithin most old → AreWithin most texts
within_tail most old texts text is within = let P = λ (l : List Text). AreWithin most l in All-tail (λ t. length t ≤ most) text texts (subst P is within)
