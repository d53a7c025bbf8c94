-- The steps of a taker, and the faults of the bytes that are left.
use Rattle.std.proofs.Common.{◌≡◌, ◌≢◌, ℕ, ◌+◌, ◌-◌, ◌^◌, ◌<◌, ◌≤◌, List, [], ◌++◌, length, length-take, drop, Bool, true, false, Option, Some, None, ap, sym, ◌∙◌, append_assoc, refl, subst, arith, length-append}
use Rattle.std.specs.Prelude.{IfSome, IsTrue, ◌↔◌, not}
use Rattle.nif_base.specs.Outside.{prepended, Rose, IsAtEnd}
use Rattle.nif_base.specs.Reading.{TakesAtMost}
use Rattle.nif_stream.specs.declared.takers.Held.{Held}
use Rattle.nif_stream.specs.declared.takers.Taker.{Taker}
use Rattle.nif_stream.specs.declared.takers.TakeFault.{TakeFault}
use Rattle.nif_stream.specs.declared.takers.TakeFault.TheVariants.{Ended, TooLong, ReadFault}
use Rattle.nif_stream.specs.Taking.{bytes_of, source_of, left_of, place_of, IsSound, KeepsStill, need_fault, asked_at, Reads, Takes, Misses}
use Rattle.nif_stream.specs.TakerLaws.{keeps_same, keeps_joined, prepended_none, prepended_joined, if_prepended, takes_most}

-- at most 4,096 bytes are held
pub held_bound : (held : Held) → length (bytes_of held) ≤ 4096
held_bound held = omega (arith, held.order, held.within, length-take (held.to - held.from) (drop held.from held.buf))

module _ {S : Type 0} (left : S → Option (List ℕ)) (still : S → S → Type 0) (faults : S → ℕ) where
  -- nothing was read
  pub reads_none : (a : Taker S) → IsSound a → Reads left still faults a [] a
  reads_none a sound = record {
    same_reference = refl;
    keeps = keeps_same still a a refl;
    later = omega arith;
    sound = sound;
    place = refl;
    given = prepended_none _;
  }

  pub reads_joined : (a b c : Taker S) (x y z : List ℕ) → Reads left still faults a x b → Reads left still faults b y c → x ++ y ≡ z → Reads left still faults a z c
  reads_joined a b c x y z p q e = record {
    same_reference = q.same_reference ∙ p.same_reference;
    keeps = keeps_joined still a b c p.keeps q.keeps;
    later = omega arith;
    sound = q.sound;
    place = q.place ∙ p.place;
    given = prepended_joined _ _ _ x y z p.given q.given e;
  }

  weaker : (x : List ℕ) (after expected : List ℕ → Option TakeFault) (fault : TakeFault) → ((rest : List ℕ) → after rest ≡ Some fault → expected (x ++ rest) ≡ Some fault)
      → (o : Option (List ℕ)) → IfSome o (λ l. after l ≡ Some fault) → IfSome o (λ l. expected (x ++ l) ≡ Some fault)
  weaker x after expected fault leads None h = tt
  weaker x after expected fault leads (Some l) h = leads l h

  gone : (x : List ℕ) (asked most : ℕ) → length x + asked ≤ most → (o r s : Option (List ℕ)) → o ≡ prepended x r → TakesAtMost (asked + 4096) r s → TakesAtMost (most + 4096) o s
  gone x asked most within o None s e h = subst (λ o. TakesAtMost (most + 4096) o s) (sym e) tt
  gone x asked most within o (Some l) None e h = subst (λ o. TakesAtMost (most + 4096) o None) (sym e) tt
  gone x asked most within o (Some l) (Some m) e h = subst (λ o. TakesAtMost (most + 4096) o (Some m)) (sym e) (let k : length (x ++ l) ≤ most + 4096 + length m = omega (arith, length-append x l) in k)

  -- bytes were given, and then a fault was found
  pub misses_after : (a b c : Taker S) (x : List ℕ) (after expected : List ℕ → Option TakeFault) (asked most : ℕ) (fault : TakeFault)
      → Reads left still faults a x b → Misses left still faults b after asked c fault → length x + asked ≤ most
      → ((rest : List ℕ) → after rest ≡ Some fault → expected (x ++ rest) ≡ Some fault) → Misses left still faults a expected most c fault
  misses_after a b c x after expected asked most fault p q within leads = record {
    same_reference = q.same_reference ∙ p.same_reference;
    keeps = keeps_joined still a b c p.keeps q.keeps;
    later = omega arith;
    stays = q.stays;
    place = q.place ∙ p.place;
    rose = λ sound is. omega (arith, q.rose p.sound is);
    told = λ sound other. if_prepended (λ l. expected l ≡ Some fault) _ _ x p.given (weaker x after expected fault leads (left_of left b) (q.told p.sound other));
    taken = λ sound. gone x asked most within _ _ _ p.given (q.taken p.sound);
  }

  failed : (a b : Taker S) (x : List ℕ) (expected : List ℕ → Option TakeFault) (most : ℕ) (fault : TakeFault)
      → Reads left still faults a x b → fault ≢ ReadFault → length x ≤ most
      → IfSome (left_of left b) (λ rest. expected (x ++ rest) ≡ Some fault) → Misses left still faults a expected most (record b { fault = Some fault }) fault
  failed a b x expected most fault p other within told = record {
    same_reference = p.same_reference;
    keeps = keeps_joined still a b (record b { fault = Some fault }) p.keeps (keeps_same still b (record b { fault = Some fault }) refl);
    later = p.later;
    stays = refl;
    place = p.place;
    rose = λ sound read. absurd (other read);
    told = λ sound not_read. if_prepended (λ l. expected l ≡ Some fault) _ _ x p.given told;
    taken = λ sound. takes_most (most + 4096) _ _ (x ++ bytes_of b.held) (prepended_joined _ _ _ x (bytes_of b.held) (x ++ bytes_of b.held) p.given refl refl) (omega (arith, held_bound b.held, length-append x (bytes_of b.held)));
  }

  -- a fault of the bytes that are left
  pub misses_fail : (a b c : Taker S) (x : List ℕ) (expected : List ℕ → Option TakeFault) (most : ℕ) (fault : TakeFault)
      → Reads left still faults a x b → c ≡ record b { fault = Some fault } → fault ≢ ReadFault → length x ≤ most
      → IfSome (left_of left b) (λ rest. expected (x ++ rest) ≡ Some fault) → Misses left still faults a expected most c fault
  misses_fail a b c x expected most fault p is other within told = subst (λ c. Misses left still faults a expected most c fault) (sym is) (failed a b x expected most fault p other within told)

module _ {S : Type 0} (left : S → Option (List ℕ)) (still : S → S → Type 0) (joined : (a b c : S) → still a b → still b c → still a c) (faults : S → ℕ) where
  kept : (a b : Taker S) → still (source_of a) (source_of b) → KeepsStill still a b
  unfolding KeepsStill
  kept a b s = λ start h. joined start (source_of a) (source_of b) h s

  -- the buffer was empty, and holds the next bytes
  pub reads_fill : (a b : Taker S) → bytes_of a.held ≡ [] → left (source_of a) ≡ prepended (bytes_of b.held) (left (source_of b)) → still (source_of a) (source_of b) → faults (source_of a) ≤ faults (source_of b)
      → b.source.ghost_name ≡ a.source.ghost_name → IsSound b → place_of b ≡ place_of a → Reads left still faults a [] b
  reads_fill a b none given s later same_reference sound place = record {
    same_reference = same_reference;
    keeps = kept a b s;
    later = later;
    sound = sound;
    place = place;
    given = ap (λ held. prepended held (left (source_of a))) none ∙ sym (prepended_none (left (source_of a))) ∙ given ∙ prepended_none (left_of left b);
  }

  -- the buffer was empty, and a read failed
  pub misses_read : (a b : Taker S) (expected : List ℕ → Option TakeFault) → bytes_of a.held ≡ [] → bytes_of b.held ≡ [] → left (source_of a) ≡ prepended (bytes_of b.held) (left (source_of b)) → still (source_of a) (source_of b)
      → faults (source_of a) ≤ faults (source_of b) → Rose (faults (source_of a)) (faults (source_of b))
      → b.source.ghost_name ≡ a.source.ghost_name → b.fault ≡ Some ReadFault → place_of b ≡ place_of a → Misses left still faults a expected 0 b ReadFault
  misses_read a b expected none after given s later rose same_reference stays place = record {
    same_reference = same_reference;
    keeps = kept a b s;
    later = later;
    stays = stays;
    place = place;
    rose = λ sound is. rose;
    told = λ sound other. absurd (other refl);
    taken = λ sound. takes_most (0 + 4096) (left_of left a) (left (source_of b)) [] (ap (λ held. prepended held (left (source_of a))) none ∙ sym (prepended_none (left (source_of a))) ∙ given ∙ ap (λ held. prepended held (left (source_of b))) after) (omega arith);
  }

-- of a failed read no more is said of the bytes left
pub misses_read_as : {S : Type 0} (left : S → Option (List ℕ)) (still : S → S → Type 0) (faults : S → ℕ) (a b : Taker S) (before after : List ℕ → Option TakeFault) (asked : ℕ) (fault : TakeFault)
    → fault ≡ ReadFault → Misses left still faults a before asked b fault → Misses left still faults a after asked b fault
misses_read_as left still faults a b before after asked fault is p = record {
  same_reference = p.same_reference;
  keeps = p.keeps;
  later = p.later;
  stays = p.stays;
  place = p.place;
  rose = p.rose;
  told = λ sound other. absurd (other is);
  taken = p.taken;
}

-- ---- the fault of the bytes left

-- a byte is needed, and none is left
pub none_left : (place : ℕ) → place ≤ 2 ^ 26 → need_fault place 1 [] ≡ Some Ended
unfolding need_fault
none_left place h = grind arith

-- a byte is needed at the place 2^26, and one is left
pub too_long : (place : ℕ) (bytes : List ℕ) → 2 ^ 26 ≤ place → 0 < length bytes → need_fault place 1 bytes ≡ Some TooLong
unfolding need_fault
too_long place bytes h some = grind arith

-- what a byte of those needed lacks, all of them lack
pub need_more : (place done need : ℕ) (front rest : List ℕ) (fault : TakeFault) → length front ≡ done → done < need → place + done ≤ 2 ^ 26
    → need_fault (place + done) 1 rest ≡ Some fault → need_fault place need (front ++ rest) ≡ Some fault
unfolding need_fault
need_more place done need front rest fault long less within e = grind (arith, length-append)

-- enough bytes are there
pub no_need : (place need : ℕ) (bytes : List ℕ) → place + need ≤ 2 ^ 26 → need ≤ length bytes → need_fault place need bytes ≡ None
unfolding need_fault
no_need place need bytes within long = grind arith

-- none is left, as a fault
pub end_told : (o : Option (List ℕ)) (place : ℕ) → IsAtEnd o → place ≤ 2 ^ 26 → IfSome o (λ rest. need_fault place 1 rest ≡ Some Ended)
end_told None place h within = tt
end_told (Some l) place h within = subst (λ l. need_fault place 1 l ≡ Some Ended) (sym h) (none_left place within)

-- a byte too many is held
pub long_told : (o : Option (List ℕ)) (held : List ℕ) (place : ℕ) → 0 < length held → 2 ^ 26 ≤ place → IfSome (prepended held o) (λ rest. need_fault place 1 rest ≡ Some TooLong)
long_told None held place some far = tt
long_told (Some l) held place some far = too_long place (held ++ l) far (omega (arith, length-append held l))

prepended_split : (o : Option (List ℕ)) (held x rest : List ℕ) → held ≡ x ++ rest → prepended held o ≡ prepended x (prepended rest o)
prepended_split None held x rest e = refl
prepended_split (Some l) held x rest e = ap Some (ap (λ m. m ++ l) e ∙ append_assoc x rest l)

-- bytes that were held were given
pub reads_give : {S : Type 0} (left : S → Option (List ℕ)) (still : S → S → Type 0) (faults : S → ℕ) (a b c : Taker S) (x y : List ℕ) → Reads left still faults a [] b
    → bytes_of b.held ≡ x ++ bytes_of c.held → x ≡ y → c.source ≡ b.source → c.fault ≡ b.fault → c.place ≡ b.place → Reads left still faults a y c
reads_give left still faults a b c x y p e is source fault place = record {
  same_reference = ap (λ r. r.ghost_name) source ∙ p.same_reference;
  keeps = keeps_joined still a b c p.keeps (keeps_same still b c (ap (λ r. r.now) source));
  later = omega (arith, p.later, ap (λ r. faults r.now) source);
  sound = fault ∙ p.sound;
  place = ap (λ q. q.taken) place ∙ p.place;
  given = prepended_joined _ _ _ [] y y p.given
      (prepended_split (left (source_of b)) (bytes_of b.held) y (bytes_of c.held) (e ∙ ap (λ l. l ++ bytes_of c.held) is) ∙ ap (λ r. prepended y (prepended (bytes_of c.held) (left r.now))) (sym source)) refl;
}

-- the fault that was answered before
pub misses_again : {S : Type 0} (left : S → Option (List ℕ)) (still : S → S → Type 0) (faults : S → ℕ) (a : Taker S) (expected : List ℕ → Option TakeFault) (asked : ℕ) (fault : TakeFault)
    → a.fault ≡ Some fault → Misses left still faults a expected asked a fault
misses_again left still faults a expected asked fault is = record {
  same_reference = refl;
  keeps = keeps_same still a a refl;
  later = omega arith;
  stays = is;
  place = refl;
  rose = λ sound. cc;
  told = λ sound. cc;
  taken = λ sound. cc;
}

is_end : (l held : List ℕ) (some : Bool) → (IsTrue some → 0 < length held) → (0 < length held → IsTrue some) → (length held ≡ 0 → held ++ l ≡ []) → IsTrue (not some) ↔ (held ++ l ≡ [])
is_end l held true more less end = (λ h. cc, λ e. absurd (omega (arith, more refl, ap length e, length-append held l)))
is_end l held false more less end = (λ h. end (grind arith), λ e. refl)

-- whether a byte is left
pub end_answer : (o p : Option (List ℕ)) (held : List ℕ) (some : Bool) → o ≡ prepended [] (prepended held p) → (IsTrue some → 0 < length held) → (0 < length held → IsTrue some) → (length held ≡ 0 → IsAtEnd (prepended held p))
    → IfSome o (λ bytes. IsTrue (not some) ↔ (bytes ≡ []))
end_answer o None held some e more less end = subst (λ o. IfSome o (λ bytes. IsTrue (not some) ↔ (bytes ≡ []))) (sym e) tt
end_answer o (Some l) held some e more less end = subst (λ o. IfSome o (λ bytes. IsTrue (not some) ↔ (bytes ≡ []))) (sym e) (is_end l held some more less end)

-- what was given is taken once the place is behind it
pub takes_passed : {S : Type 0} (left : S → Option (List ℕ)) (still : S → S → Type 0) (faults : S → ℕ) (a b c : Taker S) (x y : List ℕ) (count : ℕ) → Reads left still faults a x b
    → x ≡ y → place_of c ≡ place_of b + count → length y ≡ count → c.source ≡ b.source → c.held ≡ b.held → c.fault ≡ b.fault → Takes left still faults a y c
takes_passed left still faults a b c x y count p is place long source held fault = record {
  same_reference = ap (λ r. r.ghost_name) source ∙ p.same_reference;
  keeps = keeps_joined still a b c p.keeps (keeps_same still b c (ap (λ r. r.now) source));
  later = omega (arith, p.later, ap (λ r. faults r.now) source);
  sound = fault ∙ p.sound;
  ahead = held_bound c.held;
  place = omega (arith, place, p.place, long);
  within = c.place.within;
  given = p.given ∙ ap (λ l. prepended l (left_of left b)) is ∙ ap (λ h. prepended y (prepended (bytes_of h) (left (source_of b)))) (sym held) ∙ ap (λ r. prepended y (prepended (bytes_of c.held) (left r.now))) (sym source);
}

-- a byte that a loop wanted was not given
pub misses_byte : {S : Type 0} (left : S → Option (List ℕ)) (still : S → S → Type 0) (faults : S → ℕ) (a b c : Taker S) (x : List ℕ) (done need : ℕ) (fault : TakeFault) → Reads left still faults a x b
    → length x ≡ done → done < need → place_of b + done ≤ 2 ^ 26 → Misses left still faults b (need_fault (place_of b + done) 1) 0 c fault
    → Misses left still faults a (need_fault (place_of a) need) (asked_at (place_of a) need) c fault
misses_byte left still faults a b c x done need fault p long less within q =
    misses_after left still faults a b c x (need_fault (place_of b + done) 1) (need_fault (place_of a) need) 0 (asked_at (place_of a) need) fault p q (omega (arith, p.place))
    (λ rest e. need_more (place_of a) done need x rest fault long less (omega (arith, p.place)) (subst (λ place. need_fault (place + done) 1 rest ≡ Some fault) p.place e))
