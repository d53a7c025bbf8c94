use Rattle.std.proofs.Common.{ℕ, ◌≡◌, ◌+◌, ◌/◌, ◌<◌, ◌≤◌, List, [], ◌∷◌, ◌++◌, length, take, get_or, refl, sym, ap, ◌∙◌, subst, arith, Some, None, Option, length-append}
use Rattle.std.proofs.lemmas.List.{take_more, take_all, length-take-le, map-append, length-map}
use Rattle.std.specs.Option.{option_to_list}
use Rattle.nif_region.specs.Contents.{Contents}
use Rattle.nif_region.specs.declared.cells.Cell.{Cell}
use Rattle.nif_cells.specs.Encoding.{Packed, packed_from, words}
use Rattle.nif_cells.specs.declared.contents.Content.TheVariants.{Word}
use Rattle.nif_value.specs.Packing.{started}
use Rattle.nif_value.specs.Built.{Puts}
use Rattle.nif_value.proofs.Packs.{pack-step, prefixed, words-count}
use Rattle.nif_value.proofs.Standing.{puts-none, puts-more, may-put}
use Rattle.nif_value.proofs.builders.put_bytes.Goals as goal
use Rattle.nif_value.proofs.builders.put_bytes.Goals.{in-Some, in_default}

pub loop-byte-init : goal.loop-byte-init
loop-byte-init c = record {
  puts = puts-none c.args.region.now c.requires.room.before c.requires.room.is;
  left_is = refl;
  bits_are = refl;
  left = c.requires.left;
  bits = c.requires.bits;
}

-- a cell that is full with one more byte is counted
full : (left bits : ℕ) (bytes : List ℕ) (k : ℕ) (q : Packed) → left < 8 → k < length bytes → packed_from (started left bits) (take (k + 1) bytes) ≡ prefixed (packed_from (started left bits) (take k bytes)).words q → length q.words ≡ 1
    → length (words (packed_from (started left bits) (take k bytes)).words) + 1 ≤ (left + length bytes) / 8
full left bits bytes k q low less step one =
    let count = words-count left bits (take (k + 1) bytes) low in
    let size : length (take (k + 1) bytes) ≡ k + 1 = length-take-le (k + 1) bytes (omega arith) in
    let now = ap (λ (r : Packed). length r.words) step in
    let both = length-append (packed_from (started left bits) (take k bytes)).words q.words in
    let said = length-map (packed_from (started left bits) (take k bytes)).words (λ b. Word b) in
    omega arith

pub put-requires : goal.put-requires
put-requires c =
    let p = started c.args.packing.now.left c.args.packing.now.bits in
    let taken = take c.loop-byte.byte-index c.args.bytes.now in
    let step = pack-step p taken (get_or c.args.bytes.now c.loop-byte.byte-index 0) c.loop-byte.packing.left c.loop-byte.packing.bits (record { words = c.in-Some.bits ∷ []; bits = c.add.new.self.bits; left = c.add.new.self.left }) c.loop-byte.invariant.left_is c.loop-byte.invariant.bits_are c.in-Some.ensures.more in
    let whole = ap (packed_from p) (take_more c.args.bytes.now c.loop-byte.byte-index 0 c.loop-byte-test.true) ∙ step in
    may-put 1 c.requires.room c.loop-byte.invariant.puts (full c.args.packing.now.left c.args.packing.now.bits c.args.bytes.now c.loop-byte.byte-index _ c.requires.left c.loop-byte-test.true whole refl)

-- the cells after one more byte
after_one : {old mid new : Contents} (p q : Packed) (r : Packed) → r ≡ prefixed p.words q → Puts old mid (words p.words) → Puts mid new (words q.words) → Puts old new (words r.words)
after_one {old} {mid} {new} p q r e a b = subst (λ (x : Packed). Puts old new (words x.words)) (sym e) (subst (Puts old new) (sym (map-append (λ w. Word w) p.words q.words)) (puts-more a b))

pub loop-byte-preserved : goal.loop-byte-preserved
loop-byte-preserved c =
    let p = started c.args.packing.now.left c.args.packing.now.bits in
    let taken = take c.loop-byte.byte-index c.args.bytes.now in
    let q : Packed = record { words = option_to_list c.add.result; bits = c.add.new.self.bits; left = c.add.new.self.left } in
    let step = pack-step p taken (get_or c.args.bytes.now c.loop-byte.byte-index 0) c.loop-byte.packing.left c.loop-byte.packing.bits q c.loop-byte.invariant.left_is c.loop-byte.invariant.bits_are c.add.ensures.more in
    let whole = ap (packed_from p) (take_more c.args.bytes.now c.loop-byte.byte-index 0 c.loop-byte-test.true) ∙ step in
    record {
      puts = after_one (packed_from p taken) q _ whole c.loop-byte.invariant.puts (joined c);
      left_is = sym (ap (λ (r : Packed). r.left) whole);
      bits_are = sym (ap (λ (r : Packed). r.bits) whole);
      left = c.add.ensures.left;
      bits = c.add.ensures.bits;
    }
  where
    none_put : (region now : Contents) (o : Option ℕ) (before : List Cell) → region.building ≡ Some before → now ≡ region → o ≡ None → Puts region now (words (option_to_list o))
    none_put region now o before was e n = subst (λ r. Puts region r (words (option_to_list o))) (sym e) (subst (λ x. Puts region region (words (option_to_list x))) (sym n) (puts-none region before was))

    none_there : (o : Option ℕ) → ((b : ℕ) → o ≡ Some b → ⊥) → o ≡ None
    none_there None h = refl
    none_there (Some b) h = absurd (h b refl)

    joined : (c : goal.Joined-add) → Puts c.loop-byte.region c.match-add.region (words (option_to_list c.add.result))
    joined c = elim c.match-add.branch [
      | in-Some w ↦ rw w.region-is (subst (λ o. Puts c.loop-byte.region w.put.new.region (words (option_to_list o))) (sym w.in-Some.is) w.put.ensures)
      | in_default w ↦ none_put c.loop-byte.region c.match-add.region c.add.result (c.loop-byte.invariant.puts.before ++ c.loop-byte.invariant.puts.cells) c.loop-byte.invariant.puts.is w.region-is (none_there c.add.result w.in_default.not-Some)
    ]

all : (c : goal.After-loop-byte) → take c.loop-byte.byte-index c.args.bytes.now ≡ c.args.bytes.now
all c = take_all c.loop-byte.byte-index c.args.bytes.now c.loop-byte-test.false

pub returns-clause-puts : goal.returns-clause-puts
returns-clause-puts c = subst (λ b. Puts c.args.region.now c.loop-byte.region (words (packed_from (started c.args.packing.now.left c.args.packing.now.bits) b).words)) (all c) c.loop-byte.invariant.puts

pub returns-clause-left : goal.returns-clause-left
returns-clause-left c = c.loop-byte.invariant.left_is ∙ ap (λ b. (packed_from (started c.args.packing.now.left c.args.packing.now.bits) b).left) (all c)

pub returns-clause-bits : goal.returns-clause-bits
returns-clause-bits c = c.loop-byte.invariant.bits_are ∙ ap (λ b. (packed_from (started c.args.packing.now.left c.args.packing.now.bits) b).bits) (all c)
