-- Values are read in one way only.
use Rattle.std.proofs.Common.{ℕ, ◌≡◌, inl, inr, Result, Ok, Err, List, [], ◌∷◌, ◌++◌, refl, sym, ◌∙◌, ap, subst, append_assoc, append-nil}
use Rattle.std.specs.Char.{encode_utf8}
use Rattle.nif_text.specs.Parts.{Byte, Literal, After}
use Rattle.nif_base.specs.Ascii.{is_blank}
use Rattle.nif_text.specs.Bytes.{Spaced}
use Rattle.nif_text.specs.References.{Reference}
use Rattle.nif_text.specs.Attributes.{is_value_byte, kept, ValuePart, joined, Quoted, Value, Assigned}
use Rattle.nif_text.specs.Reading.{Never, NoLiteral, Longest, Read, IsQuote}
use Rattle.nif_text.specs.declared.stop.Stop.{Stop}
use Rattle.nif_text.specs.declared.stop.Stop.TheVariants as stops
use Rattle.nif_text.proofs.Runs.{Single, longest_same}
use Rattle.nif_text.proofs.Fronts.{heads_differ, tail_same}
use Rattle.nif_text.proofs.SingleParts.{byte_single, byte_never, after_single, after_never, spaced_single, spaced_never}
use Rattle.nif_text.proofs.References.{reference_single, reference_begins}

-- `&` is no byte of a value
no_ampersand : (quote c : ℕ) (text m rest : List ℕ) → Byte (is_value_byte quote) c text m → (d : ℕ) → Reference d text rest → ⊥
no_ampersand quote c text m rest b d r =
    let begins : (more : List ℕ) × (text ≡ 0x26 ∷ more) = reference_begins d text rest r in
    byte_never (is_value_byte quote) 0x26 begins.0 refl c m (sym begins.1 ∙ b.0, b.1)

pub part_single : (quote : ℕ) → Single (ValuePart quote)
part_single quote i j text m n (inl p) (inl q) =
    let same : (p.0 ≡ q.0) × (m ≡ n) = byte_single (is_value_byte quote) p.0 q.0 text m n p.1 q.1 in
    (p.2 ∙ ap (λ c. kept c ∷ []) same.0 ∙ sym q.2, same.1)
part_single quote i j text m n (inl p) (inr q) = absurd (no_ampersand quote p.0 text m n p.1 q.0 q.1)
part_single quote i j text m n (inr p) (inl q) = absurd (no_ampersand quote q.0 text n m q.1 p.0 p.1)
part_single quote i j text m n (inr p) (inr q) =
    let same : (p.0 ≡ q.0) × (m ≡ n) = reference_single p.0 q.0 text m n p.1 q.1 in
    (p.2 ∙ ap encode_utf8 same.0 ∙ sym q.2, same.1)

-- no part begins with the quote that ends it
pub quote_ends : (quote : ℕ) (rest : List ℕ) → IsQuote quote → Never (ValuePart quote) (quote ∷ rest)
quote_ends quote rest (inl e) = let Q : ℕ → Type 0 = λ x. Never (ValuePart x) (x ∷ rest) in subst Q (sym e) double
  where
    double : Never (ValuePart 0x22) (0x22 ∷ rest)
    double i m (inl p) = byte_never (is_value_byte 0x22) 0x22 rest refl p.0 m p.1
    double i m (inr p) = let b : (more : List ℕ) × (0x22 ∷ rest ≡ 0x26 ∷ more) = reference_begins p.0 (0x22 ∷ rest) m p.1 in heads_differ 0x22 0x26 rest b.0 refl b.1
quote_ends quote rest (inr e) = let Q : ℕ → Type 0 = λ x. Never (ValuePart x) (x ∷ rest) in subst Q (sym e) apostrophe
  where
    apostrophe : Never (ValuePart 0x27) (0x27 ∷ rest)
    apostrophe i m (inl p) = byte_never (is_value_byte 0x27) 0x27 rest refl p.0 m p.1
    apostrophe i m (inr p) = let b : (more : List ℕ) × (0x27 ∷ rest ≡ 0x26 ∷ more) = reference_begins p.0 (0x27 ∷ rest) m p.1 in heads_differ 0x27 0x26 rest b.0 refl b.1

-- the quoted value goes through the longest run of parts
pub quoted_through : (quote : ℕ) → IsQuote quote → (parts : List (List ℕ)) (text m : List ℕ) → Longest (ValuePart quote) parts text m →
    (v rest : List ℕ) → Quoted quote v text rest → (v ≡ joined parts) × (m ≡ quote ∷ rest)
quoted_through quote q parts text m l v rest p =
    let same : (p.0 ≡ parts) × (quote ∷ rest ≡ m) =
    longest_same (ValuePart quote) (part_single quote) p.0 parts text (quote ∷ rest) m p.2 (quote_ends quote rest q) l.many l.ends in
    (p.1 ∙ ap joined same.0, sym same.1)

pub quoted_single : (quote : ℕ) → IsQuote quote → Single (Quoted quote)
quoted_single quote q v w text m n p r =
    let longest : Longest (ValuePart quote) p.0 text (quote ∷ m) = record { many = p.2; ends = quote_ends quote m q } in
    let through : (w ≡ joined p.0) × (quote ∷ m ≡ quote ∷ n) = quoted_through quote q p.0 text (quote ∷ m) longest w n r in
    let tail : quote ∷ m ≡ quote ∷ n = through.1 in
    (p.1 ∙ sym through.0, tail_same quote quote m n tail)

pub quoted_never : (quote : ℕ) → IsQuote quote → (parts : List (List ℕ)) (text m : List ℕ) → Longest (ValuePart quote) parts text m →
    NoLiteral (quote ∷ []) m → Never (Quoted quote) text
quoted_never quote q parts text m l none v rest p = none rest (quoted_through quote q parts text m l v rest p).1

pub value_single : Single Value
value_single v w text m n (inl p) (inl q) = after_single (0x22 ∷ []) (Quoted 0x22) (quoted_single 0x22 (inl refl)) v w text m n p q
value_single v w text m n (inr p) (inr q) = after_single (0x27 ∷ []) (Quoted 0x27) (quoted_single 0x27 (inr refl)) v w text m n p q
value_single v w text m n (inl p) (inr q) = absurd (heads_differ 0x22 0x27 p.0 q.0 refl (sym p.1 ∙ q.1))
value_single v w text m n (inr p) (inl q) = absurd (heads_differ 0x27 0x22 p.0 q.0 refl (sym p.1 ∙ q.1))

-- where the quote has been read
pub value_never-double : (text m : List ℕ) → Literal (0x22 ∷ []) text m → Never (Quoted 0x22) m → Never Value text
value_never-double text m l never v rest (inl p) = after_never (0x22 ∷ []) (Quoted 0x22) text m l never v rest p
value_never-double text m l never v rest (inr p) = heads_differ 0x22 0x27 m p.0 refl (sym l ∙ p.1)

pub value_never-single : (text m : List ℕ) → Literal (0x27 ∷ []) text m → Never (Quoted 0x27) m → Never Value text
value_never-single text m l never v rest (inl p) = heads_differ 0x27 0x22 m p.0 refl (sym l ∙ p.1)
value_never-single text m l never v rest (inr p) = after_never (0x27 ∷ []) (Quoted 0x27) text m l never v rest p

-- a value and `=` are no blanks
pub value_no_blank : (v text rest : List ℕ) → Value v text rest → Never (Byte is_blank) text
value_no_blank v text rest (inl p) = let Q : List ℕ → Type 0 = λ x. Never (Byte is_blank) x in subst Q (sym p.1) (byte_never is_blank 0x22 p.0 refl)
value_no_blank v text rest (inr p) = let Q : List ℕ → Type 0 = λ x. Never (Byte is_blank) x in subst Q (sym p.1) (byte_never is_blank 0x27 p.0 refl)

pub equals_no_blank : (v text rest : List ℕ) → After (0x3D ∷ []) (Spaced Value) v text rest → Never (Byte is_blank) text
equals_no_blank v text rest p = let Q : List ℕ → Type 0 = λ x. Never (Byte is_blank) x in subst Q (sym p.1) (byte_never is_blank 0x3D p.0 refl)

pub equals_single : Single (After (0x3D ∷ []) (Spaced Value))
equals_single = after_single (0x3D ∷ []) (Spaced Value) (spaced_single Value value_no_blank value_single)

pub assigned_single : Single Assigned
assigned_single = spaced_single (After (0x3D ∷ []) (Spaced Value)) equals_no_blank equals_single

pub joined_more : (parts : List (List ℕ)) (bytes : List ℕ) → joined (parts ++ bytes ∷ []) ≡ joined parts ++ bytes
joined_more [] bytes = append-nil bytes
joined_more (part ∷ parts) bytes = ap (λ x. part ++ x) (joined_more parts bytes) ∙ sym (append_assoc part (joined parts) bytes)

-- What was read of a quoted value tells of the value.
pub read_double : (found : Result (List ℕ) Stop) (text m new : List ℕ) → Literal (0x22 ∷ []) text m → Read (Quoted 0x22) m new found → Read Value text new found
read_double (Ok v) text m new l r = inl (m, l, r)
read_double (Err stops.NotWritten) text m new l r = value_never-double text m l r
read_double (Err stops.NoMemory) text m new l r = tt

pub read_single : (found : Result (List ℕ) Stop) (text m new : List ℕ) → Literal (0x27 ∷ []) text m → Read (Quoted 0x27) m new found → Read Value text new found
read_single (Ok v) text m new l r = inr (m, l, r)
read_single (Err stops.NotWritten) text m new l r = value_never-single text m l r
read_single (Err stops.NoMemory) text m new l r = tt

pub read_assigned : (found : Result (List ℕ) Stop) (before text m after at new : List ℕ) → Longest (Byte is_blank) before text m → Literal (0x3D ∷ []) m at →
    (blanks : List ℕ) → Longest (Byte is_blank) blanks at after → Read Value after new found → Read Assigned text new found
read_assigned (Ok v) before text m after at new l e blanks k r = (m, (before, l.many), (at, e, (after, (blanks, k.many), r)))
read_assigned (Err stops.NotWritten) before text m after at new l e blanks k r =
    spaced_never (After (0x3D ∷ []) (Spaced Value)) equals_no_blank before text m l
    (after_never (0x3D ∷ []) (Spaced Value) m at e (spaced_never Value value_no_blank blanks at after k r))
read_assigned (Err stops.NoMemory) before text m after at new l e blanks k r = tt

pub assigned_never : (before text m : List ℕ) → Longest (Byte is_blank) before text m → NoLiteral (0x3D ∷ []) m → Never Assigned text
assigned_never before text m l none =
    spaced_never (After (0x3D ∷ []) (Spaced Value)) equals_no_blank before text m l (λ v rest a. none a.0 a.1)

-- what the parts stand for so far, with one part more
pub joined_behind : (before out now part : List ℕ) (parts : List (List ℕ)) → out ≡ before ++ joined parts → now ≡ out ++ part → now ≡ before ++ joined (parts ++ part ∷ [])
joined_behind before out now part parts e f =
    f ∙ ap (λ x. x ++ part) e ∙ append_assoc before (joined parts) part ∙ ap (λ x. before ++ x) (sym (joined_more parts part))
