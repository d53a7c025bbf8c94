-- How far a run of bytes of a class has come.
use Rattle.std.proofs.Common.{◌≡◌, ℕ, zero, suc, ◌+◌, ◌<◌, ◌≤◌, Bool, true, false, cond, List, [], ◌∷◌, ◌++◌, length, take, drop, get_or, refl, sym, ap, ◌∙◌, arith, append_assoc, append-nil, add-one}
use Rattle.std.proofs.Math.Seq.{take-suc}
use Rattle.std.specs.Prelude.{reverse}
use Rattle.std.proofs.lemmas.List.{take_more, reverse-append, reverse-reverse, take_all, drop_all}
use Rattle.nif_base.specs.Ascii.{is_blank}
use Rattle.nif_expr.specs.Bytes.{front, after, trimmed}

-- the first n bytes are of the class
pub record IsRun (class : ℕ → Bool) (text : List ℕ) (n : ℕ) : Type 0 where
  pub front : front class text ≡ take n text ++ front class (drop n text)
  pub after : after class text ≡ after class (drop n text)

pub run_none : (class : ℕ → Bool) (text : List ℕ) → IsRun class text 0
run_none class text = record { front = refl; after = refl }

front-drop : (class : ℕ → Bool) (text : List ℕ) (n : ℕ) → n < length text → class (get_or text n 0) ≡ true
    → (front class (drop n text) ≡ get_or text n 0 ∷ front class (drop (suc n) text)) × (after class (drop n text) ≡ after class (drop (suc n) text))
front-drop class [] n h p = absurd (omega (arith, h))
front-drop class (b ∷ text) zero h p = (ap (λ r. cond r (b ∷ front class text) []) p, ap (λ r. cond r (after class text) (b ∷ text)) p)
front-drop class (b ∷ text) (suc n) h p = front-drop class text n (omega (arith, h)) p

pub run_more : (class : ℕ → Bool) (text : List ℕ) (n : ℕ) → n < length text → class (get_or text n 0) ≡ true → IsRun class text n
    → IsRun class text (n + 1)
run_more class text n h p run = let step = front-drop class text n h p in rw add-one (record {
  front = run.front ∙ ap (λ r. take n text ++ r) step.0
      ∙ sym (append_assoc (take n text) (get_or text n 0 ∷ []) (front class (drop (suc n) text)))
      ∙ ap (λ t. t ++ front class (drop (suc n) text)) (sym (take-suc text n 0 h));
  after = run.after ∙ step.1;
})

front-stop : (class : ℕ → Bool) (text : List ℕ) (n : ℕ) → n < length text → class (get_or text n 0) ≡ false
    → (front class (drop n text) ≡ []) × (after class (drop n text) ≡ drop n text)
front-stop class [] n h p = absurd (omega (arith, h))
front-stop class (b ∷ text) zero h p = (ap (λ r. cond r (b ∷ front class text) []) p, ap (λ r. cond r (after class text) (b ∷ text)) p)
front-stop class (b ∷ text) (suc n) h p = front-stop class text n (omega (arith, h)) p

-- the run ends where a byte isn't of the class
pub run_stop : (class : ℕ → Bool) (text : List ℕ) (n : ℕ) → n < length text → class (get_or text n 0) ≡ false → IsRun class text n
    → (front class text ≡ take n text) × (after class text ≡ drop n text)
run_stop class text n h p run =
    let stop = front-stop class text n h p in
    (run.front ∙ ap (λ r. take n text ++ r) stop.0 ∙ append-nil (take n text), run.after ∙ stop.1)

-- or at the end of the text
pub run_all : (class : ℕ → Bool) (text : List ℕ) (n : ℕ) → length text ≤ n → IsRun class text n
    → (front class text ≡ text) × (after class text ≡ [])
run_all class text n h run = (
  run.front ∙ ap (λ r. take n text ++ front class r) (drop_all n text h) ∙ append-nil (take n text) ∙ take_all n text h,
  run.after ∙ ap (λ r. after class r) (drop_all n text h),
)

trimmed-push : (xs : List ℕ) (b : ℕ) → trimmed (xs ++ b ∷ []) ≡ cond (is_blank b) (trimmed xs) (xs ++ b ∷ [])
trimmed-push xs b = ap (λ r. reverse (after is_blank r)) (reverse-append xs (b ∷ [])) ∙ pushed (is_blank b)
  where
    pushed : (r : Bool) → reverse (cond r (after is_blank (reverse xs)) (b ∷ reverse xs)) ≡ cond r (trimmed xs) (xs ++ b ∷ [])
    pushed true = refl
    pushed false = sym (ap reverse (reverse-append xs (b ∷ []))) ∙ reverse-reverse (xs ++ b ∷ [])

pub trimmed-blank : (text : List ℕ) (n : ℕ) → n < length text → is_blank (get_or text n 0) ≡ true → trimmed (take (n + 1) text) ≡ trimmed (take n text)
trimmed-blank text n h p =
    ap trimmed (take_more text n 0 h) ∙ trimmed-push (take n text) (get_or text n 0)
    ∙ ap (λ r. cond r (trimmed (take n text)) (take n text ++ get_or text n 0 ∷ [])) p

pub trimmed-stop : (text : List ℕ) (n : ℕ) → n < length text → is_blank (get_or text n 0) ≡ false → trimmed (take (n + 1) text) ≡ take (n + 1) text
trimmed-stop text n h p =
    ap trimmed (take_more text n 0 h) ∙ trimmed-push (take n text) (get_or text n 0)
    ∙ ap (λ r. cond r (trimmed (take n text)) (take n text ++ get_or text n 0 ∷ [])) p ∙ sym (take_more text n 0 h)
