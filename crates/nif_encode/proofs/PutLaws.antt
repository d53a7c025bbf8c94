-- What was put so far, of bytes and of a node.
use Rattle.std.proofs.Common.{ℕ, ◌+◌, ◌^◌, ◌<◌, ◌≡◌, ◌≢◌, min, List, [], ◌∷◌, ◌++◌, length, take, drop, Option, None, Some, IsSome, IfSome, refl, sym, ◌∙◌, ap, subst, arith, append_assoc, append-nil}
use Rattle.std.proofs.lemmas.List.{length-take}
use Rattle.std.specs.Option.{option_map, IsSomeAnd}
use Rattle.std.proofs.lemmas.List.{take_at, take-append-drop}
use Rattle.nif_encode.specs.declared.steps.Targets.{Targets}
use Rattle.nif_stream.specs.declared.putters.Putter.{Putter}
use Rattle.nif_stream.specs.Putting.{IsSound, Puts, Fails}
use Rattle.nif_stream.specs.PutterLaws.{adds_none, puts_more, fails_more, fails_before}
use Rattle.nif_base.specs.Node.{Node, Num, Line, Ref, Text, Bytes, Group, Row}
use Rattle.nif_cells.specs.Walks.{Met, walk}
use Rattle.nif_value.specs.Walking.{step_of, walked}
use Rattle.nif_encode.specs.Texts.{given, met_text, depth_after, where_open, spelled, one_text, behind_one, behind_many, member_text, HasMember}
use Rattle.nif_encode.specs.TextLaws.{tree_text, member_ahead}
use Rattle.nif_encode.specs.PutSteps.{IsPiece, Passes, closed, depth_more, fits_more, none_left, opened}

-- nothing was put
pub puts_none : {K : Type 0} (grew : K → List ℕ → K → Type 0) (faults : K → ℕ) (a : Putter K) → IsSound a → Puts grew faults a [] a
puts_none grew faults a sound = record { same_reference = refl; later = omega arith; sound = sound; adds = adds_none grew a [] refl }

-- of some bytes the first were put, and these are left
pub record Copies {K : Type 0} (grew : K → List ℕ → K → Type 0) (faults : K → ℕ) (old : Putter K) (bytes left : Option (List ℕ)) (now : Putter K) : Type 0 where
  pub done : List ℕ
  pub puts : Puts grew faults old done now
  pub whole : done ++ given left ≡ given bytes
  pub some : IsSome left

pub piece_of : (left : Option (List ℕ)) (size count : ℕ) (array filled : List ℕ) (behind : Option (List ℕ)) → IsSome left → length array ≡ size
    → IfSome left (λ bytes. count ≡ min (length array) (length bytes)) → IfSome left (λ bytes. filled ≡ take count bytes ++ drop count array) → behind ≡ option_map (λ bytes. drop count bytes) left
    → IsPiece left count (take count filled) behind
piece_of None size count array filled behind some size_is count_is filled_is behind_is = absurd (cc)
piece_of (Some bytes) size count array filled behind some size_is count_is filled_is behind_is =
    let part : length (take count bytes) ≡ count = omega (arith, length-take count bytes, count_is) in
    record {
      first = ap (take count) filled_is ∙ take_at (take count bytes) (drop count array) count part;
      behind_is = ap given behind_is;
      still = subst (λ o. IsSome o) (sym behind_is) refl;
    }

pub copies_more : {K : Type 0} (grew : K → List ℕ → K → Type 0) (faults : K → ℕ) (old mid new : Putter K) (bytes left behind : Option (List ℕ)) (count : ℕ) (piece : List ℕ)
    → Copies grew faults old bytes left mid → IsPiece left count piece behind → Puts grew faults mid piece new → Copies grew faults old bytes behind new
copies_more grew faults old mid new bytes left behind count piece so_far is put = record {
  done = so_far.done ++ piece;
  puts = puts_more grew faults old mid new so_far.done piece (so_far.done ++ piece) so_far.puts put refl;
  whole = append_assoc so_far.done piece (given behind)
      ∙ ap (λ l. so_far.done ++ l) (ap (λ l. l ++ given behind) is.first ∙ ap (λ l. take count (given left) ++ l) is.behind_is ∙ take-append-drop count (given left))
      ∙ so_far.whole;
  some = is.still;
}

pub copies_failed : {K : Type 0} (grew : K → List ℕ → K → Type 0) (faults : K → ℕ) (old mid new : Putter K) (bytes left behind : Option (List ℕ)) (count : ℕ) (piece : List ℕ)
    → Copies grew faults old bytes left mid → IsPiece left count piece behind → Fails grew faults mid piece new → Fails grew faults old (given bytes) new
copies_failed grew faults old mid new bytes left behind count piece so_far is failed =
    fails_more grew faults old mid new so_far.done piece (given behind) (given bytes) so_far.puts failed
    (append_assoc so_far.done piece (given behind)
    ∙ ap (λ l. so_far.done ++ l) (ap (λ l. l ++ given behind) is.first ∙ ap (λ l. take count (given left) ++ l) is.behind_is ∙ take-append-drop count (given left))
    ∙ so_far.whole)

-- how many bytes a piece has
pub piece_count : (left : Option (List ℕ)) (count size : ℕ) → IsSome left → IfSome left (λ bytes. count ≡ min size (length bytes)) → count ≡ min size (length (given left))
piece_count None count size some is = absurd (cc)
piece_count (Some bytes) count size some is = is

pub copies_all : {K : Type 0} (grew : K → List ℕ → K → Type 0) (faults : K → ℕ) (old now : Putter K) (bytes left : Option (List ℕ)) (size count : ℕ)
    → Copies grew faults old bytes left now → 0 < size → count ≡ 0 → count ≡ min size (length (given left)) → Puts grew faults old (given bytes) now
copies_all grew faults old now bytes left size count so_far h zero_is is =
    subst (λ l. Puts grew faults old l now) (sym (append-nil so_far.done) ∙ ap (λ l. so_far.done ++ l) (sym (none_left (given left) size h (sym zero_is ∙ is))) ∙ so_far.whole) so_far.puts

-- of a node the first bytes were put, and this is ahead
pub record Spells {K : Type 0} (grew : K → List ℕ → K → Type 0) (faults : K → ℕ) (old : Putter K) (to : Targets) (all : List Met) (depth : ℕ) (ahead : List Met) (now : Putter K) : Type 0 where
  pub done : List ℕ
  pub puts : Puts grew faults old done now
  pub whole : done ++ one_text to depth ahead ≡ one_text to 0 all
  pub behind : behind_one depth ahead ≡ behind_one 0 all
  pub fits : 0 < depth → depth + length ahead < 2 ^ 32

-- the bytes behind those of the step that is met next
abbrev pub text_behind : Targets → ℕ → Met → List Met → List ℕ
text_behind to depth met rest = where_open (depth_after depth (step_of met)) (one_text to (depth_after depth (step_of met)) rest) []

pub spells_next : {K : Type 0} (grew : K → List ℕ → K → Type 0) (faults : K → ℕ) (old mid new : Putter K) (to : Targets) (all : List Met) (depth : ℕ) (met : Met) (rest ahead : List Met)
    → Spells grew faults old to all depth ahead mid → ahead ≡ met ∷ rest → length ahead < 2 ^ 32 → Puts grew faults mid (met_text to met) new → depth_after depth (step_of met) ≢ 0
    → Spells grew faults old to all (depth_after depth (step_of met)) rest new
spells_next grew faults old mid new to all depth met rest ahead so_far is few put more = record {
  done = so_far.done ++ met_text to met;
  puts = puts_more grew faults old mid new so_far.done (met_text to met) (so_far.done ++ met_text to met) so_far.puts put refl;
  whole = append_assoc so_far.done (met_text to met) (one_text to (depth_after depth (step_of met)) rest)
      ∙ ap (λ l. so_far.done ++ (met_text to met ++ l)) (sym (opened (depth_after depth (step_of met)) (one_text to (depth_after depth (step_of met)) rest) [] more))
      ∙ ap (λ a. so_far.done ++ one_text to depth a) (sym is) ∙ so_far.whole;
  behind = sym (opened (depth_after depth (step_of met)) (behind_one (depth_after depth (step_of met)) rest) rest more) ∙ ap (behind_one depth) (sym is) ∙ so_far.behind;
  fits = λ _. fits_more depth (depth_after depth (step_of met)) (length ahead) (length rest) so_far.fits (depth_more depth (step_of met)) (ap length is) few;
}

pub spells_last : {K : Type 0} (grew : K → List ℕ → K → Type 0) (faults : K → ℕ) (old mid new : Putter K) (to : Targets) (all : List Met) (depth : ℕ) (met : Met) (rest ahead : List Met)
    → Spells grew faults old to all depth ahead mid → ahead ≡ met ∷ rest → Puts grew faults mid (met_text to met) new → depth_after depth (step_of met) ≡ 0
    → Puts grew faults old (one_text to 0 all) new
spells_last grew faults old mid new to all depth met rest ahead so_far is put last =
    puts_more grew faults old mid new so_far.done (met_text to met) (one_text to 0 all) so_far.puts put
    (ap (λ l. so_far.done ++ l) (sym (append-nil (met_text to met)) ∙ ap (λ l. met_text to met ++ l) (sym (closed (depth_after depth (step_of met)) (one_text to (depth_after depth (step_of met)) rest) [] last)))
    ∙ ap (λ a. so_far.done ++ one_text to depth a) (sym is) ∙ so_far.whole)

pub spells_failed : {K : Type 0} (grew : K → List ℕ → K → Type 0) (faults : K → ℕ) (old mid new : Putter K) (to : Targets) (all : List Met) (depth : ℕ) (met : Met) (rest ahead : List Met)
    → Spells grew faults old to all depth ahead mid → ahead ≡ met ∷ rest → Fails grew faults mid (met_text to met) new → Fails grew faults old (one_text to 0 all) new
spells_failed grew faults old mid new to all depth met rest ahead so_far is failed =
    fails_more grew faults old mid new so_far.done (met_text to met) (text_behind to depth met rest) (one_text to 0 all) so_far.puts failed
    (append_assoc so_far.done (met_text to met) (text_behind to depth met rest) ∙ ap (λ a. so_far.done ++ one_text to depth a) (sym is) ∙ so_far.whole)

pub spells_end : {K : Type 0} (grew : K → List ℕ → K → Type 0) (faults : K → ℕ) (old now : Putter K) (to : Targets) (all : List Met) (depth : ℕ) (ahead : List Met)
    → Spells grew faults old to all depth ahead now → ahead ≡ [] → Puts grew faults old (one_text to 0 all) now
spells_end grew faults old now to all depth ahead so_far none =
    subst (λ l. Puts grew faults old l now) (sym (append-nil so_far.done) ∙ ap (λ a. so_far.done ++ one_text to depth a) (sym none) ∙ so_far.whole) so_far.puts

-- what is ahead behind the node
pub spells_behind : {K : Type 0} (grew : K → List ℕ → K → Type 0) (faults : K → ℕ) (old mid : Putter K) (to : Targets) (all : List Met) (depth : ℕ) (met : Met) (rest ahead : List Met)
    → Spells grew faults old to all depth ahead mid → ahead ≡ met ∷ rest → depth_after depth (step_of met) ≡ 0 → rest ≡ behind_one 0 all
spells_behind grew faults old mid to all depth met rest ahead so_far is last =
    sym (closed (depth_after depth (step_of met)) (behind_one (depth_after depth (step_of met)) rest) rest last) ∙ ap (behind_one depth) (sym is) ∙ so_far.behind

pub spells_end_behind : {K : Type 0} (grew : K → List ℕ → K → Type 0) (faults : K → ℕ) (old now : Putter K) (to : Targets) (all : List Met) (depth : ℕ) (ahead : List Met)
    → Spells grew faults old to all depth ahead now → ahead ≡ [] → ahead ≡ behind_one 0 all
spells_end_behind grew faults old now to all depth ahead so_far none = none ∙ ap (behind_one depth) (sym none) ∙ so_far.behind

pub passes_last : (all : List Met) (depth : ℕ) (met : Met) (rest ahead : List Met) → Passes all depth ahead → ahead ≡ met ∷ rest → depth_after depth (step_of met) ≡ 0 → rest ≡ behind_one 0 all
passes_last all depth met rest ahead so_far is last =
    sym (closed (depth_after depth (step_of met)) (behind_one (depth_after depth (step_of met)) rest) rest last) ∙ ap (behind_one depth) (sym is) ∙ so_far.whole

pub passes_end : (all : List Met) (depth : ℕ) (ahead : List Met) → Passes all depth ahead → ahead ≡ [] → ahead ≡ behind_one 0 all
passes_end all depth ahead so_far none = none ∙ ap (behind_one depth) (sym none) ∙ so_far.whole

one_ahead : (to : Targets) (k : ℕ) (at : Node) (ahead : List Met) → HasMember k at
    → ahead ≡ behind_many k (walked (walk at)).ahead → one_text to 0 ahead ≡ member_text to k at
one_ahead to k (Group members) ahead h is = ap (λ m. one_text to 0 m) is ∙ member_ahead to k members h
one_ahead to k (Num width little bits) ahead h is = absurd h
one_ahead to k (Line bytes) ahead h is = absurd h
one_ahead to k (Ref strong wanted target) ahead h is = absurd h
one_ahead to k (Text index) ahead h is = absurd h
one_ahead to k (Bytes bytes) ahead h is = absurd h
one_ahead to k (Row items) ahead h is = absurd h

-- what was put of a walk is the text of the tree that was found
pub tree_puts : {K : Type 0} (grew : K → List ℕ → K → Type 0) (faults : K → ℕ) (old mid new : Putter K) (to : Targets) (found : Option Node) (ahead : List Met)
    → IfSome found (λ node. ahead ≡ walk node) → Puts grew faults old [] mid → Puts grew faults mid (one_text to 0 ahead) new → IfSome found (λ node. Puts grew faults old (spelled to node) new)
tree_puts grew faults old mid new to None ahead is first put = tt
tree_puts grew faults old mid new to (Some node) ahead is first put =
    puts_more grew faults old mid new [] (one_text to 0 ahead) (spelled to node) first put (ap (λ m. one_text to 0 m) is ∙ tree_text to node)

pub tree_fails : {K : Type 0} (grew : K → List ℕ → K → Type 0) (faults : K → ℕ) (old mid new : Putter K) (to : Targets) (found : Option Node) (ahead : List Met)
    → IfSome found (λ node. ahead ≡ walk node) → Puts grew faults old [] mid → Fails grew faults mid (one_text to 0 ahead) new → IfSome found (λ node. Fails grew faults old (spelled to node) new)
tree_fails grew faults old mid new to None ahead is first failed = tt
tree_fails grew faults old mid new to (Some node) ahead is first failed =
    fails_more grew faults old mid new [] (one_text to 0 ahead) [] (spelled to node) first failed
    (append-nil (one_text to 0 ahead) ∙ ap (λ m. one_text to 0 m) is ∙ tree_text to node)

-- a putter that has failed puts none of it
pub fails_at_once : {K : Type 0} (grew : K → List ℕ → K → Type 0) (faults : K → ℕ) (old new : Putter K) (spelled : Node → List ℕ) (found : Option Node)
    → Fails grew faults old [] new → IfSome found (λ node. Fails grew faults old (spelled node) new)
fails_at_once grew faults old new spelled None failed = tt
fails_at_once grew faults old new spelled (Some node) failed = fails_before grew faults old new [] (spelled node) (spelled node) failed refl

pub one_puts : {K : Type 0} (grew : K → List ℕ → K → Type 0) (faults : K → ℕ) (old mid new : Putter K) (to : Targets) (k : ℕ) (found : Option Node) (first ahead : List Met)
    → IsSomeAnd found (HasMember k) → IfSome found (λ node. first ≡ walk node) → ahead ≡ behind_many k (walked first).ahead
    → Puts grew faults old [] mid → Puts grew faults mid (one_text to 0 ahead) new → IfSome found (λ node. Puts grew faults old (member_text to k node) new)
one_puts grew faults old mid new to k None first ahead has begin_is is none put = tt
one_puts grew faults old mid new to k (Some node) first ahead has begin_is is none put =
    puts_more grew faults old mid new [] (one_text to 0 ahead) (member_text to k node) none put
    (one_ahead to k node ahead has (is ∙ ap (λ m. behind_many k (walked m).ahead) begin_is))

pub one_fails : {K : Type 0} (grew : K → List ℕ → K → Type 0) (faults : K → ℕ) (old mid new : Putter K) (to : Targets) (k : ℕ) (found : Option Node) (first ahead : List Met)
    → IsSomeAnd found (HasMember k) → IfSome found (λ node. first ≡ walk node) → ahead ≡ behind_many k (walked first).ahead
    → Puts grew faults old [] mid → Fails grew faults mid (one_text to 0 ahead) new → IfSome found (λ node. Fails grew faults old (member_text to k node) new)
one_fails grew faults old mid new to k None first ahead has begin_is is none failed = tt
one_fails grew faults old mid new to k (Some node) first ahead has begin_is is none failed =
    fails_more grew faults old mid new [] (one_text to 0 ahead) [] (member_text to k node) none failed
    (append-nil (one_text to 0 ahead) ∙ one_ahead to k node ahead has (is ∙ ap (λ m. behind_many k (walked m).ahead) begin_is))
