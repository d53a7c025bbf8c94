-- How the parts of a version text are read one after another.
use Rattle.std.proofs.Common.{◌≡◌, ℕ, ◌+◌, ◌-◌, ◌*◌, ◌<◌, ◌≤◌, List, [], ◌∷◌, ◌++◌, length, take, drop, get_or, true, false, Option, Some, None, refl, ap, sym, ◌∙◌, arith, append_assoc, append-nil, take_all, length-drop, length-take, length-append, Bor}
use Rattle.std.specs.Prelude.{◌==◌, option_and_then, replicate, position, MatchOption}
use Rattle.std.specs.Option.{option_map}
use Rattle.std.specs.Int.{from_be_bytes, w32}
use Rattle.std.specs.Char.{is_ascii_digit, digit_value}
use Rattle.std.specs.Str.Parse.{digits_value}
use Rattle.std.proofs.lemmas.Int.Digits.{digits_value_more}
use Rattle.std.specs.List.{position_or_len}
use Rattle.std.proofs.lemmas.List.Splits.{slice_split_first, slice_split_none}
use Rattle.std.proofs.lemmas.List.Sums.{fails_before_first, position_or_len_is}
use Rattle.std.proofs.lemmas.List.Quantifiers.{position-Some}
use Rattle.std.proofs.lemmas.List.Elements.{All-from_get_or}
use Rattle.std.proofs.lemmas.List.{take-append-drop}
use Rattle.nif_base.specs.Version.{part_of, pieces_of, values_of, number_of, version_of}

-- the first piece ends at the first dot
pub pieces_cut : (text : List ℕ) (dot : ℕ) → position (λ c. c == 46) text ≡ Some dot → pieces_of text ≡ take dot text ∷ pieces_of (drop (dot + 1) text)
pieces_cut text dot e =
    let at = position-Some (λ c. c == 46) text dot 0 e in
    let place : position_or_len (λ c. c == 46) text ≡ dot = position_or_len_is (λ c. c == 46) text dot 0 (omega (arith, at.0)) at.2 (λ _. at.1) in
    slice_split_first (λ c. c == 46) text 0 (omega (arith, place, at.0)) ∙ ap (λ i. take i text ∷ pieces_of (drop (i + 1) text)) place

-- the same, as the code writes what is behind the dot
pub pieces_cut_range : (text : List ℕ) (dot : ℕ) → position (λ c. c == 46) text ≡ Some dot
    → pieces_of text ≡ take dot text ∷ pieces_of (take (length text - (dot + 1)) (drop (dot + 1) text))
pieces_cut_range text dot e =
    pieces_cut text dot e ∙ ap (λ l. take dot text ∷ pieces_of l) (sym (take_all (length text - (dot + 1)) (drop (dot + 1) text) (omega (arith, length-drop (dot + 1) text))))

no_dot : (text : List ℕ) → position (λ c. c == 46) text ≡ None → length text ≤ position_or_len (λ c. c == 46) text
no_dot text e = grind arith

-- a text without a dot is one piece
pub pieces_whole : (text : List ℕ) → position (λ c. c == 46) text ≡ None → pieces_of text ≡ text ∷ []
pieces_whole text e =
    let long = no_dot text e in
    slice_split_none (λ c. c == 46) text (All-from_get_or (λ c. (c == 46) ≡ false) text 0 (λ i h. fails_before_first (λ c. c == 46) text i 0 (omega arith)))

-- the values of the pieces to come
abbrev pub coming : Option (Bor (List ℕ)) → Option (List ℕ)
coming None = Some []
coming (Some text) = values_of (pieces_of text.now)

map_twice : (o : Option (List ℕ)) (f g h : List ℕ → List ℕ) → ((l : List ℕ) → f (g l) ≡ h l) → option_map f (option_map g o) ≡ option_map h o
map_twice None f g h e = refl
map_twice (Some l) f g h e = ap Some (e l)

-- one more part was read
pub values_more : (front : List ℕ) (piece : List ℕ) (pieces : List (List ℕ)) (value : ℕ) (more : List ℕ) → part_of piece ≡ Some value → front ++ value ∷ [] ≡ more
    → option_map (λ l. front ++ l) (values_of (piece ∷ pieces)) ≡ option_map (λ l. more ++ l) (values_of pieces)
values_more front piece pieces value more is e =
    ap (λ o. option_map (λ l. front ++ l) (option_and_then (λ v. option_map (λ l. v ∷ l) (values_of pieces)) o)) is
    ∙ map_twice (values_of pieces) (λ l. front ++ l) (λ l. value ∷ l) (λ l. more ++ l) (λ l. sym (append_assoc front (value ∷ []) l) ∙ ap (λ m. m ++ l) e)

-- a piece is no part
pub version_bad : (text front piece : List ℕ) (pieces : List (List ℕ)) → values_of (pieces_of text) ≡ option_map (λ l. front ++ l) (values_of (piece ∷ pieces)) → part_of piece ≡ None → version_of text ≡ None
unfolding version_of
version_bad text front piece pieces e is =
    ap (λ o. option_and_then number_of o) (e ∙ ap (λ o. option_map (λ l. front ++ l) (option_and_then (λ v. option_map (λ l. v ∷ l) (values_of pieces)) o)) is)

many : (front : List ℕ) (value : ℕ) (o : Option (List ℕ)) → length front ≡ 4 → option_and_then number_of (option_map (λ l. front ++ l) (option_map (λ l. value ∷ l) o)) ≡ None
unfolding number_of
many front value None e = refl
many front value (Some l) e = grind (arith, length-append)

many_at : (front : List ℕ) (o : Option ℕ) (vs : Option (List ℕ)) → length front ≡ 4
    → option_and_then number_of (option_map (λ l. front ++ l) (option_and_then (λ v. option_map (λ l. v ∷ l) vs) o)) ≡ None
many_at front None vs e = refl
many_at front (Some v) vs e = many front v vs e

-- four parts were read, and a piece is left
pub version_long : (text front piece : List ℕ) (pieces : List (List ℕ)) → values_of (pieces_of text) ≡ option_map (λ l. front ++ l) (values_of (piece ∷ pieces)) → length front ≡ 4 → version_of text ≡ None
unfolding version_of
version_long text front piece pieces e four = ap (λ o. option_and_then number_of o) e ∙ many_at front (part_of piece) (values_of pieces) four

number_is : (values : List ℕ) → length values ≤ 4 → number_of values ≡ Some (from_be_bytes w32 (values ++ replicate (4 - length values) 0))
unfolding number_of
number_is values h = grind arith

-- no piece is left
pub version_read : (text parts : List ℕ) (count : ℕ) → values_of (pieces_of text) ≡ option_map (λ l. take count parts ++ l) (Some []) → length parts ≡ 4 → count ≤ 4
    → drop count parts ≡ replicate (4 - count) 0 → version_of text ≡ Some (from_be_bytes w32 parts)
unfolding version_of
version_read text parts count e four within zeros =
    let long : length (take count parts) ≡ count = length-take count parts ∙ omega arith in
    let front = take count parts in
    ap (λ o. option_and_then number_of o) (e ∙ ap Some (append-nil front)) ∙ number_is front (omega (arith, long))
    ∙ ap (λ n. Some (from_be_bytes w32 (front ++ replicate (4 - n) 0))) long ∙ ap (λ l. Some (from_be_bytes w32 (front ++ l))) (sym zeros)
    ∙ ap (λ l. Some (from_be_bytes w32 l)) (take-append-drop count parts)

-- the length of the text to come, and 0 where none is
abbrev pub rest_length : Option (Bor (List ℕ)) → ℕ
rest_length None = 0
rest_length (Some text) = length text.now + 1

-- four parts were read, and pieces are left
pub version_long_at : (text front : List ℕ) (pieces : List (List ℕ)) → values_of (pieces_of text) ≡ option_map (λ l. front ++ l) (values_of pieces) → 0 < length pieces → length front ≡ 4 → version_of text ≡ None
version_long_at text front [] e some four = absurd (omega arith)
version_long_at text front (piece ∷ pieces) e some four = version_long text front piece pieces e four

-- what was cut off is the first piece
pub cut_first : (text first : List ℕ) (behind : Option (Bor (List ℕ))) → MatchOption behind (pieces_of text ≡ first ∷ []) (λ b. pieces_of text ≡ first ∷ pieces_of b.now) → (pieces : List (List ℕ)) × (pieces_of text ≡ first ∷ pieces)
cut_first text first None e = ([], e)
cut_first text first (Some b) e = (pieces_of b.now, e)

-- a digit is worth at most 9
pub digit_below : (digit : ℕ) → is_ascii_digit digit ≡ true → digit - 48 ≤ 9
digit_below digit e = grind arith

digit_worth : (digit : ℕ) → is_ascii_digit digit ≡ true → digit_value digit ≡ digit - 48
digit_worth digit e = grind arith

-- one more digit was read
pub digit_read : (digits : List ℕ) (i value more : ℕ) → i < length digits → is_ascii_digit (get_or digits i 0) ≡ true → value ≡ digits_value 10 (take i digits)
    → more ≡ get_or digits i 0 - 48 → value * 10 + more ≡ digits_value 10 (take (i + 1) digits)
digit_read digits i value more h e is m =
    ap (λ v. v * 10 + more) is ∙ ap (λ d. digits_value 10 (take i digits) * 10 + d) (m ∙ sym (digit_worth (get_or digits i 0) e)) ∙ sym (digits_value_more 10 digits i h)
