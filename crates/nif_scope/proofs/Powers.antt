-- Powers of two, and numbers of so many bytes.
use Rattle.std.proofs.Common.{◌≡◌, ◌≢◌, ℕ, zero, suc, ◌+◌, ◌-◌, ◌*◌, ◌%◌, ◌^◌, ◌<◌, ◌≤◌, Bool, true, false, nat_le, if◌then◌else◌, refl, sym, subst, arith}
use Rattle.std.proofs.Math.Pow.{pow_mono}
use Rattle.std.proofs.lemmas.Bool.{le-leb, lt-leb}
use Rattle.nif_layout.specs.PathValue.{extended}

pub below_power : (bits pos : ℕ) → bits < 18446744073709551616 → 64 ≤ pos → bits < 2 ^ pos
below_power bits pos l h = let p : 2 ^ 64 ≤ 2 ^ pos = pow_mono h in omega (arith, l, p)

above : (half more bits : ℕ) → half ≤ bits → bits + more ≡ (if nat_le half bits then bits + more else bits)
above half more bits h = let P : Bool → Type 0 = λ b. bits + more ≡ (if b then bits + more else bits) in subst P (sym (le-leb half bits h)) refl

below : (half more bits : ℕ) → bits < half → bits ≡ (if nat_le half bits then bits + more else bits)
below half more bits h = let P : Bool → Type 0 = λ b. bits ≡ (if b then bits + more else bits) in subst P (sym (lt-leb half bits h)) refl

-- the lowest number of a width whose sign is set
abbrev pub half_of : ℕ → ℕ
half_of width = 1 * 2 ^ (8 * width - 1) % 18446744073709551616

pub sign_added : (width bits : ℕ) → width ≢ 0 → width < 8 → half_of width ≤ bits
    → bits + (18446744073709551615 - (half_of width + (half_of width - 1))) ≡ extended true width bits
sign_added zero bits some few h = absurd (some refl)
sign_added (suc zero) bits some few h = above 128 18446744073709551360 bits h
sign_added (suc (suc zero)) bits some few h = above 32768 18446744073709486080 bits h
sign_added (suc (suc (suc zero))) bits some few h = above 8388608 18446744073692774400 bits h
sign_added (suc (suc (suc (suc zero)))) bits some few h = above 2147483648 18446744069414584320 bits h
sign_added (suc (suc (suc (suc (suc zero))))) bits some few h = above 549755813888 18446742974197923840 bits h
sign_added (suc (suc (suc (suc (suc (suc zero)))))) bits some few h = above 140737488355328 18446462598732840960 bits h
sign_added (suc (suc (suc (suc (suc (suc (suc zero))))))) bits some few h = above 36028797018963968 18374686479671623680 bits h
sign_added (suc (suc (suc (suc (suc (suc (suc (suc width)))))))) bits some few h = absurd (omega (arith, few))

-- what is added leaves it below 2 ^ 64
pub sign_fits : (width bits : ℕ) → width ≢ 0 → width < 8 → bits < 256 ^ width → bits + (18446744073709551615 - (half_of width + (half_of width - 1))) < 18446744073709551616
sign_fits zero bits some few l = absurd (some refl)
sign_fits (suc zero) bits some few l = let m : bits < 256 = l in omega (arith, m)
sign_fits (suc (suc zero)) bits some few l = let m : bits < 65536 = l in omega (arith, m)
sign_fits (suc (suc (suc zero))) bits some few l = let m : bits < 16777216 = l in omega (arith, m)
sign_fits (suc (suc (suc (suc zero)))) bits some few l = let m : bits < 4294967296 = l in omega (arith, m)
sign_fits (suc (suc (suc (suc (suc zero))))) bits some few l = let m : bits < 1099511627776 = l in omega (arith, m)
sign_fits (suc (suc (suc (suc (suc (suc zero)))))) bits some few l = let m : bits < 281474976710656 = l in omega (arith, m)
sign_fits (suc (suc (suc (suc (suc (suc (suc zero))))))) bits some few l = let m : bits < 72057594037927936 = l in omega (arith, m)
sign_fits (suc (suc (suc (suc (suc (suc (suc (suc width)))))))) bits some few l = absurd (omega (arith, few))

-- a number whose sign isn't set
pub unsigned_same : (width bits : ℕ) → width < 8 → bits < half_of width → bits ≡ extended true width bits
unsigned_same zero bits few h = below 1 18446744073709551615 bits h
unsigned_same (suc zero) bits few h = below 128 18446744073709551360 bits h
unsigned_same (suc (suc zero)) bits few h = below 32768 18446744073709486080 bits h
unsigned_same (suc (suc (suc zero))) bits few h = below 8388608 18446744073692774400 bits h
unsigned_same (suc (suc (suc (suc zero)))) bits few h = below 2147483648 18446744069414584320 bits h
unsigned_same (suc (suc (suc (suc (suc zero))))) bits few h = below 549755813888 18446742974197923840 bits h
unsigned_same (suc (suc (suc (suc (suc (suc zero)))))) bits few h = below 140737488355328 18446462598732840960 bits h
unsigned_same (suc (suc (suc (suc (suc (suc (suc zero))))))) bits few h = below 36028797018963968 18374686479671623680 bits h
unsigned_same (suc (suc (suc (suc (suc (suc (suc (suc width)))))))) bits few h = absurd (omega (arith, few))

pub none_same : (width bits : ℕ) → width ≡ 0 → bits < 256 ^ width → bits ≡ extended true width bits
none_same zero bits none l = below 1 18446744073709551615 bits l
none_same (suc width) bits none l = absurd (omega (arith, none))

wider : (width bits : ℕ) → 8 < width → bits < 18446744073709551616 → bits ≡ extended true width bits
wider width bits h l = below (2 ^ (8 * width - 1)) (2 ^ 64 - 2 ^ (8 * width)) bits (below_power bits (8 * width - 1) l (omega (arith, h)))

whole : (bits : ℕ) → bits ≡ extended true 8 bits
whole bits = by (nat_le 9223372036854775808 bits)
  where
    by : (b : Bool) → bits ≡ (if b then bits + 0 else bits)
    by true = omega arith
    by false = refl

-- one of 64 bits, or more
pub wide_same : (width bits : ℕ) → 8 ≤ width → bits < 18446744073709551616 → bits ≡ extended true width bits
wide_same width bits h l = by (width - 8) (omega (arith, h))
  where
    by : (more : ℕ) → width ≡ 8 + more → bits ≡ extended true width bits
    by zero e = subst (λ (n : ℕ). bits ≡ extended true n bits) (sym e) (whole bits)
    by (suc more) e = wider width bits (omega (arith, e)) l
