-- Where a token is found, the text before it stays and the string stands for it.
use Rattle.std.proofs.Common.{◌≡◌, ℕ, zero, suc, ◌+◌, ◌-◌, ◌<◌, ◌≤◌, true, false, List, [], ◌∷◌, ◌++◌, Some, None, length, take, drop, refl, sym, ap, ◌∙◌, arith, ⊎_elim, append_assoc, append-nil, drop-drop, length-drop, length-append}
use Rattle.std.proofs.lemmas.Bool.{cases_Bool, cond-true, cond-false, false≢true}
use Rattle.std.proofs.lemmas.List.{take_all, drop_all, length-take}
use Rattle.std.proofs.lemmas.Slice.Eq.{bytes_eq-Decides}
use Rattle.std.proofs.lemmas.Grind.{common_steps}
use Rattle.memchr.specs.Find.{OccursAt, FindsNeedle}
use Rattle.memchr.proofs.lemmas.MatchLemmas.{OccursAt-part, OccursAt-from_part}
use Rattle.nif_attributes.specs.Tokens.{begins, replaced_behind, replaced}

-- what is passed over does not count
behind_drop : (passed : ℕ) (token string text : List ℕ) → replaced_behind passed token string text ≡ replaced token string (drop passed text)
behind_drop zero token string text = refl
behind_drop (suc passed) token string [] = refl
behind_drop (suc passed) token string (b ∷ text) = behind_drop passed token string text

hit_cons : (first : ℕ) (more string : List ℕ) (b : ℕ) (text : List ℕ) → begins (b ∷ text) (first ∷ more) ≡ true
    → replaced (first ∷ more) string (b ∷ text) ≡ string ++ replaced (first ∷ more) string (drop (length more) text)
hit_cons first more string b text e =
    let count : length (first ∷ more) - 1 ≡ length more = omega arith in
    cond-true _ _ _ e ∙ ap (λ n. string ++ replaced_behind n (first ∷ more) string text) count ∙ ap (λ l. string ++ l) (behind_drop (length more) (first ∷ more) string text)

hit : (token string text : List ℕ) → 0 < length token → begins text token ≡ true → replaced token string text ≡ string ++ replaced token string (drop (length token) text)
hit [] string text some e = absurd (omega arith)
hit (first ∷ more) string [] some e = absurd (false≢true e)
hit (first ∷ more) string (b ∷ text) some e = hit_cons first more string b text e

-- where the token begins nowhere in front of a place, what is in front stays
misses : (place : ℕ) (token string text : List ℕ) → place ≤ length text → ((k : ℕ) → k < place → begins (drop k text) token ≡ false)
    → replaced token string text ≡ take place text ++ replaced token string (drop place text)
misses zero token string text h absent = refl
misses (suc place) token string [] h absent = absurd (omega arith)
misses (suc place) token string (b ∷ text) h absent =
    cond-false _ _ _ (absent 0 (omega arith)) ∙ ap (λ l. b ∷ l) (misses place token string text (omega arith) (λ k l. absent (suc k) (omega arith)))

begins_occurs : (text token : List ℕ) (k : ℕ) → k ≤ length text → begins (drop k text) token ≡ true → OccursAt text token k
begins_occurs text token k h e =
    let part = (bytes_eq-Decides (take (length token) (drop k text)) token).0 e in
    OccursAt-from_part text token k (omega (arith, ap length part, length-take (length token) (drop k text), length-drop k text)) part

not_begins : (text token : List ℕ) (k : ℕ) → k ≤ length text → (OccursAt text token k → ⊥) → begins (drop k text) token ≡ false
not_begins text token k h absent =
    ⊎_elim (λ t. absurd (absent (begins_occurs text token k h t))) (λ f. f) (cases_Bool (begins (drop k text) token))

-- a token that is found
pub replaced_found : (token string text : List ℕ) (place : ℕ) → 0 < length token → FindsNeedle text token 0 (Some place)
    → replaced token string text ≡ (take place text ++ string) ++ replaced token string (drop (place + length token) text)
replaced_found token string text place some found =
    let fits = found.1.fits in
    misses place token string text (omega arith) (λ k l. not_begins text token k (omega arith) (found.0.before k (omega arith) l))
    ∙ ap (λ l. take place text ++ l) (hit token string (drop place text) some ((bytes_eq-Decides _ token).1 (OccursAt-part text token place found.1)))
    ∙ ap (λ l. take place text ++ (string ++ replaced token string l)) (drop-drop (length token) place text)
    ∙ sym (append_assoc (take place text) string _)

-- a token that is found nowhere
pub replaced_not_found : (token string text : List ℕ) → FindsNeedle text token 0 None → replaced token string text ≡ text
replaced_not_found token string text none =
    misses (length text) token string text (omega arith) (λ k l. not_begins text token k (omega arith) (none k (omega arith) (omega arith)))
    ∙ ap (λ l. l ++ replaced token string (drop (length text) text)) (take_all (length text) text (omega arith))
    ∙ ap (λ l. text ++ replaced token string l) (drop_all (length text) text (omega arith))
    ∙ append-nil text

-- the same, with the parts of the text
pub found_parts : (token string text front found behind : List ℕ) (place : ℕ) → 0 < length token → FindsNeedle text token 0 (Some place)
    → front ≡ take place text → found ≡ drop place text → behind ≡ drop (length token) found
    → replaced token string text ≡ (front ++ string) ++ replaced token string behind
found_parts token string text front found behind place some finds p q r =
    let rest : behind ≡ drop (place + length token) text = r ∙ ap (drop (length token)) q ∙ drop-drop (length token) place text in
    replaced_found token string text place some finds ∙ (λ i. (sym p i ++ string) ++ replaced token string (sym rest i))

-- one more token behind what is done
pub made_more : (all out rest front string after one two : List ℕ) → all ≡ out ++ rest → rest ≡ (front ++ string) ++ after
    → one ≡ out ++ front → two ≡ one ++ string → all ≡ two ++ after
made_more all out rest front string after one two e found p q = grind (arith, common_steps)

-- what is too long in front is too long
pub too_long_first : (all out rest front string after : List ℕ) → all ≡ out ++ rest → rest ≡ (front ++ string) ++ after
    → 4096 < length out + length front → 4096 < length all
too_long_first all out rest front string after e found l = omega (arith, ap length e, ap length found, length-append out rest, length-append (front ++ string) after, length-append front string)

pub too_long_second : (all out rest front string after one : List ℕ) → all ≡ out ++ rest → rest ≡ (front ++ string) ++ after
    → one ≡ out ++ front → 4096 < length one + length string → 4096 < length all
too_long_second all out rest front string after one e found p l = omega (arith, ap length e, ap length found, ap length p, length-append out front, length-append out rest, length-append (front ++ string) after, length-append front string)

pub too_long_last : (all out rest left : List ℕ) → all ≡ out ++ rest → rest ≡ left → 4096 < length out + length left → 4096 < length all
too_long_last all out rest left e none l = omega (arith, ap length e, ap length none, length-append out rest)
