-- The index of tokens.
use Rattle.std.proofs.Common.{◌≡◌, ℕ, zero, suc, ◌+◌, ◌<◌, ◌≤◌, eqb, Bool, true, false, cond, ◌||◌, List, [], ◌∷◌, ◌++◌, length, take, drop, Option, Some, None, bytes_eq, get_or, refl, sym, ap, ◌∙◌, arith, ◌⊎◌, inl, inr, ⊎_elim}
use Rattle.std.specs.List.{list_any, slice_get}
use Rattle.std.specs.declared.cmp.Ordering.{Ordering}
use Rattle.std.specs.declared.cmp.Ordering.TheVariants.{Less, Equal, Greater}
use Rattle.std.specs.Ordering.{is_eq, nat_cmp, match_ordering}
use Rattle.std.specs.Cmp.Lexicographic.{slice_cmp}
use Rattle.std.specs.BTreeMap.{insert_entry}
use Rattle.std.specs.Map.{lookup}
use Rattle.std.proofs.lemmas.Map.Lookups.{exact_bytes}
use Rattle.std.proofs.lemmas.Map.Text.{is_eq-slice_cmp}
use Rattle.std.proofs.lemmas.Slice.Eq.{bytes_eq-Decides}
use Rattle.std.proofs.lemmas.Bool.{cases_Bool, le-leb, ltb-true, ltb-false, eqb-true}
use Rattle.std.proofs.lemmas.List.{take_more}
use Rattle.std.proofs.Common.{Result, Ok, Err, leb, ltb, map, add-one}
use Rattle.std.specs.Result.{OnOk}
use Rattle.std.specs.List.{fold}
use Rattle.memchr.proofs.lemmas.MatchLemmas.{OccursAt-part}
use Rattle.nif_attributes.specs.declared.tokens.Expanded.{Expanded}
use Rattle.nif_attributes.specs.Tokens.{Token, Group, replaced, pass, pass_group}
use Rattle.nif_attributes.specs.Listing.{Listed, lone, text_of}
use Rattle.nif_attributes.proofs.Replacing.{replaced_not_found}
use Rattle.nif_attributes.specs.declared.index.Span.{Span}
use Rattle.nif_attributes.specs.Finding.{span_of, IsPut, first_from, Covers, AreCovered, IsAbsent}

put_first : {X : Type 0} (a b : Bool) (r : Option X) (v : X) (w : X) → b ≡ a → cond b (Some v) r ≡ cond a (Some v) (cond b (Some w) r)
put_first true true r v w e = refl
put_first false false r v w e = refl
put_first true false r v w e = absurd (cc)
put_first false true r v w e = absurd (cc)

put_behind : {X : Type 0} (a b : Bool) (r : Option X) (v : X) (w : X) → (a ≡ true → b ≡ true → ⊥) → cond b (Some w) (cond a (Some v) r) ≡ cond a (Some v) (cond b (Some w) r)
put_behind true true r v w apart = absurd (apart refl refl)
put_behind true false r v w apart = refl
put_behind false b r v w apart = refl

lookup-insert_entry : {K X : Type 0} (cmp : K → K → Ordering) (test : K → Bool) (k : K) (v : X)
    → ((e : K) → cmp k e ≡ Equal → test e ≡ test k) → ((e : K) → test k ≡ true → test e ≡ true → cmp k e ≡ Equal)
    → (es : List (K × X)) → lookup test (insert_entry cmp es k v) ≡ cond (test k) (Some v) (lookup test es)
lookup-insert_entry cmp test k v same one [] = refl
lookup-insert_entry {K} {X} cmp test k v same one (e ∷ es) = by (cmp k e.0) refl (lookup-insert_entry cmp test k v same one es)
  where
    by : (o : Ordering) → cmp k e.0 ≡ o → lookup test (insert_entry cmp es k v) ≡ cond (test k) (Some v) (lookup test es)
        → lookup test (match_ordering o ((k, v) ∷ e ∷ es) ((e.0, v) ∷ es) (e ∷ insert_entry cmp es k v)) ≡ cond (test k) (Some v) (lookup test (e ∷ es))
    by Less h rest = refl
    by Equal h rest = put_first (test k) (test e.0) (lookup test es) v e.1 (same e.0 h)
    by Greater h rest =
        ap (λ r. cond (test e.0) (Some e.1) r) rest
        ∙ put_behind (test k) (test e.0) (lookup test es) v e.1 (λ p q. let equal : cmp k e.0 ≡ Equal = one e.0 p q in absurd (cc))

module _ {K : Type 0} (bytes : K → List ℕ) where
  at : List ℕ → K → Bool
  at name key = is_eq (slice_cmp nat_cmp name (bytes key))

  at_is : (name : List ℕ) (key : K) → is_eq (slice_cmp nat_cmp name (bytes key)) ≡ bytes_eq name (bytes key)
  at_is name key = is_eq-slice_cmp name (bytes key)

  at_here : (name : List ℕ) (key : K) → is_eq (slice_cmp nat_cmp name (bytes key)) ≡ true → name ≡ bytes key
  at_here name key e = (bytes_eq-Decides name (bytes key)).0 (sym (at_is name key) ∙ e)

  equal_from : (a b : List ℕ) → a ≡ b → slice_cmp nat_cmp a b ≡ Equal
  equal_from a b e = from_is_eq (slice_cmp nat_cmp a b) (is_eq-slice_cmp a b ∙ (bytes_eq-Decides a b).1 e)
    where
      from_is_eq : (o : Ordering) → is_eq o ≡ true → o ≡ Equal
      from_is_eq Less h = absurd (cc)
      from_is_eq Equal h = refl
      from_is_eq Greater h = absurd (cc)

  pub put-insert_entry : (numbers : List (K × Span)) (key : K) (number : Span) (now : List (K × Span)) (name : List ℕ) → bytes key ≡ name
      → now ≡ insert_entry (λ a b. slice_cmp nat_cmp (bytes a) (bytes b)) numbers key number → IsPut bytes numbers name number now
  put-insert_entry numbers key number now name is e other =
      let test : K → Bool = λ k. is_eq (slice_cmp nat_cmp other (bytes k)) in
      ap (lookup test) e
      ∙ lookup-insert_entry (λ a b. slice_cmp nat_cmp (bytes a) (bytes b)) test key number
      (λ k h. ap (λ b. is_eq (slice_cmp nat_cmp other b)) (sym (exact_bytes (bytes key) (bytes k) h)))
      (λ k p q. equal_from (bytes key) (bytes k) (sym (at_here other key p) ∙ at_here other k q))
      numbers
      ∙ ap (λ b. cond b (Some number) (lookup test numbers)) (at_is other key ∙ ap (bytes_eq other) is)

-- ---- a token more

-- what stands at a number, with one more behind
last_or_before : (texts : List (List ℕ)) (new : List ℕ) (n : ℕ) (token : List ℕ) → slice_get (texts ++ new ∷ []) n ≡ Some token
    → (slice_get texts n ≡ Some token) ⊎ ((n ≡ length texts) × (new ≡ token))
last_or_before [] new zero token e = inr (refl, cc)
last_or_before [] new (suc n) token e = absurd (cc)
last_or_before (t ∷ texts) new zero token e = inl e
last_or_before (t ∷ texts) new (suc n) token e =
    ⊎_elim (λ before. inl before) (λ (is, same). inr (ap suc is, same)) (last_or_before texts new n token e)

within_list : (texts : List (List ℕ)) (n : ℕ) (token : List ℕ) → slice_get texts n ≡ Some token → n < length texts
within_list [] n token e = absurd (cc)
within_list (t ∷ texts) zero token e = omega arith
within_list (t ∷ texts) (suc n) token e = omega (arith, within_list texts n token e)

module _ {K : Type 0} (bytes : K → List ℕ) where
  pub covers_none : (spans : List (K × Span)) (lengths : List ℕ) → AreCovered bytes spans lengths []
  covers_none spans lengths number token e = absurd (cc)

  pub covers_more : (spans now : List (K × Span)) (lengths more : List ℕ) (texts : List (List ℕ)) (new : List ℕ) (span : Span)
      → span.first ≡ first_from (span_of bytes spans new) (length texts) → span.last ≡ length texts
      → list_any (eqb (length new)) more ≡ true → ((other : ℕ) → list_any (eqb other) lengths ≡ true → list_any (eqb other) more ≡ true)
      → IsPut bytes spans new span now → AreCovered bytes spans lengths texts → AreCovered bytes now more (texts ++ new ∷ [])
  covers_more spans now lengths more texts new span first last here before put covered number token e =
      by (bytes_eq token new) refl
    where
      by : (b : Bool) → bytes_eq token new ≡ b → Covers bytes now more number token
      by true h =
          let same : token ≡ new = (bytes_eq-Decides token new).0 h in
          record {
            span = span;
            found = put token ∙ ap (λ b. cond b (Some span) (span_of bytes spans token)) h;
            above = ⊎_elim
                (λ old. let c = covered number token old in omega (arith, c.above, first, ap (λ o. first_from o (length texts)) (ap (span_of bytes spans) (sym same) ∙ c.found)))
                (λ (is, _). above_first (span_of bytes spans new) refl is)
                (last_or_before texts new number token e);
            below = ⊎_elim (λ old. omega (arith, last, within_list texts number token old)) (λ (is, _). omega (arith, last, is)) (last_or_before texts new number token e);
            measured = ap (λ t. list_any (eqb (length t)) more) same ∙ here;
          }
        where
          above_first : (o : Option Span) → span_of bytes spans new ≡ o → number ≡ length texts → span.first ≤ number
          above_first None q is = omega (arith, first, ap (λ x. first_from x (length texts)) q, is)
          above_first (Some s) q is = omega (arith, first, ap (λ x. first_from x (length texts)) q, is)
      by false h =
          let old : slice_get texts number ≡ Some token =
          ⊎_elim (λ old. old) (λ (_, same). let yes = (bytes_eq-Decides token new).1 (sym same) in absurd (cc)) (last_or_before texts new number token e) in
          let c = covered number token old in
          record {
            span = c.span;
            found = put token ∙ ap (λ b. cond b (Some span) (span_of bytes spans token)) h ∙ c.found;
            above = c.above;
            below = c.below;
            measured = before (length token) c.measured;
          }

  -- a number whose token is a text of this span
  pub not_in_span : (spans : List (K × Span)) (lengths : List ℕ) (texts : List (List ℕ)) (part : List ℕ) (span : Span) (n : ℕ)
      → span_of bytes spans part ≡ Some span → AreCovered bytes spans lengths texts → slice_get texts n ≡ Some part → (span.first ≤ n) × (n ≤ span.last)
  not_in_span spans lengths texts part span n found covered is =
      let c = covered n part is in
      let same : c.span ≡ span = some_same c.span span (sym c.found ∙ found) in
      (omega (arith, c.above, ap (λ s. s.first) same), omega (arith, c.below, ap (λ s. s.last) same))
    where
      some_same : (a b : Span) → Some a ≡ Some b → a ≡ b
      some_same a b e = ap (λ o. value_or a o) e
        where
          value_or : Span → Option Span → Span
          value_or d None = d
          value_or d (Some x) = x

  pub in_no_span : (spans : List (K × Span)) (lengths : List ℕ) (texts : List (List ℕ)) (part : List ℕ) (n : ℕ)
      → span_of bytes spans part ≡ None → AreCovered bytes spans lengths texts → slice_get texts n ≡ Some part → ⊥
  in_no_span spans lengths texts part n none covered is =
      let c = covered n part is in
      let found = c.found in
      absurd (cc)

pub on_ok : {T E : Type 0} (r : Result T E) (P Q : Type 0) → OnOk r P → (P → Q) → OnOk r Q
on_ok (Ok x) P Q h f = f h
on_ok (Err x) P Q h f = tt

-- ---- tokens that change nothing

-- where the token is absent the text stays
pub absent_stays : (text token string : List ℕ) → IsAbsent text token → replaced token string text ≡ text
absent_stays text token string absent =
    replaced_not_found token string text (λ k from below occurs. absent k occurs.fits (OccursAt-part text token k occurs))

pub pass-absent : (text : Expanded) (by : Token) → length text.text ≤ 4096 → IsAbsent text.text by.token → pass text by ≡ text
pass-absent text by short absent = by_case text.too_long refl
  where
    after : replaced by.token by.string text.text ≡ text.text
    after = absent_stays text.text by.token by.string absent

    by_case : (b : Bool) → text.too_long ≡ b → pass text by ≡ text
    by_case true e = ap (λ b. cond b text (cond (leb (length (replaced by.token by.string text.text)) 4096) (record { text = replaced by.token by.string text.text; too_long = false }) (record { text = text.text; too_long = true }))) e
    by_case false e =
        ap (λ b. cond b text (cond (leb (length (replaced by.token by.string text.text)) 4096) (record { text = replaced by.token by.string text.text; too_long = false }) (record { text = text.text; too_long = true }))) e
        ∙ ap (λ t. cond (leb (length t) 4096) (record { text = t; too_long = false }) (record { text = text.text; too_long = true })) after
        ∙ ap (λ b. cond b (record { text = text.text; too_long = false }) (record { text = text.text; too_long = true })) (le-leb (length text.text) 4096 short)
        ∙ ap (λ b. record { text = text.text; too_long = b }) (sym e)

pub lone-absent : (name : List ℕ) (text : Expanded) (one : Listed) → length text.text ≤ 4096 → IsAbsent text.text one.by.token → pass_group name text (lone one) ≡ text
lone-absent name text one short absent =
    ap (λ t. cond (list_any (bytes_eq name) one.names) t text) (pass-absent text one.by short absent) ∙ cond_same (list_any (bytes_eq name) one.names) text
  where
    cond_same : {A : Type 0} (b : Bool) (x : A) → cond b x x ≡ x
    cond_same true x = refl
    cond_same false x = refl

-- a fold over items that change nothing up to a place
pub fold-idle : {A B : Type 0} (f : B → A → B) (b : B) (items : List A) (at to : ℕ) → at ≤ to
    → ((n : ℕ) (x : A) → at ≤ n → n < to → slice_get items n ≡ Some x → f b x ≡ b)
    → fold f b (drop at items) ≡ fold f b (drop to items)
fold-idle f b items zero zero low idle = refl
fold-idle f b items (suc at) zero low idle = absurd (omega arith)
fold-idle f b [] zero (suc to) low idle = refl
fold-idle f b [] (suc at) (suc to) low idle = refl
fold-idle f b (x ∷ items) zero (suc to) low idle =
    ap (λ y. fold f y items) (idle 0 x (omega arith) (omega arith) refl)
    ∙ fold-idle f b items 0 to (omega arith) (λ n y p q e. idle (suc n) y (omega arith) (omega arith) e)
fold-idle f b (x ∷ items) (suc at) (suc to) low idle =
    fold-idle f b items at to (omega arith) (λ n y p q e. idle (suc n) y (omega arith) (omega arith) e)

-- the item of a place is next
pub fold-next : {A B : Type 0} (f : B → A → B) (b : B) (items : List A) (at : ℕ) (x : A) → slice_get items at ≡ Some x
    → fold f b (drop at items) ≡ fold f (f b x) (drop (suc at) items)
fold-next f b [] at x e = absurd (cc)
fold-next f b (y ∷ items) zero x e = let same : y ≡ x = cc in ap (λ z. fold f (f b z) items) same
fold-next f b (y ∷ items) (suc at) x e = fold-next f b items at x e

pub expand_step : {A B : Type 0} (f : B → A → B) (out now : B) (items : List A) (at place : ℕ) (x : A) (all : B) → at ≤ place
    → ((n : ℕ) (y : A) → at ≤ n → n < place → slice_get items n ≡ Some y → f out y ≡ out) → slice_get items place ≡ Some x → now ≡ f out x
    → fold f out (drop at items) ≡ all → fold f now (drop (place + 1) items) ≡ all
expand_step f out now items at place x all low idle is made done =
    ap (λ n. fold f now (drop n items)) (add-one place) ∙ ap (λ b. fold f b (drop (suc place) items)) made
    ∙ sym (fold-next f out items place x is) ∙ sym (fold-idle f out items at place low idle) ∙ done

pub below_or_at : {P : Type 0} (place at : ℕ) → place < at + 1 → (place < at → P) → (place ≡ at → P) → P
below_or_at place at h before here =
    ⊎_elim (λ e. before (ltb-true place at e)) (λ e. here (omega (arith, h, ltb-false place at e))) (cases_Bool (ltb place at))

any_last : (n : ℕ) (xs : List ℕ) (x : ℕ) → list_any (eqb n) (xs ++ x ∷ []) ≡ true → (list_any (eqb n) xs ≡ true) ⊎ (n ≡ x)
any_last n [] x e = last (eqb n x) refl e
  where
    last : (b : Bool) → eqb n x ≡ b → (b || false) ≡ true → (list_any (eqb n) [] ≡ true) ⊎ (n ≡ x)
    last true q h = inr (eqb-true n x q)
    last false q h = absurd (cc)
any_last n (y ∷ xs) x e = by (eqb n y) refl e (any_last n xs x)
  where
    by : (b : Bool) → eqb n y ≡ b → (b || list_any (eqb n) (xs ++ x ∷ [])) ≡ true → (list_any (eqb n) (xs ++ x ∷ []) ≡ true → (list_any (eqb n) xs ≡ true) ⊎ (n ≡ x))
        → (list_any (eqb n) (y ∷ xs) ≡ true) ⊎ (n ≡ x)
    by true q h rest = inl (ap (λ b. b || list_any (eqb n) xs) q)
    by false q h rest = ⊎_elim (λ some. inl (ap (λ b. b || list_any (eqb n) xs) q ∙ some)) (λ same. inr same) (rest h)

-- a number among one more
pub any_more : {P : Type 0} (n : ℕ) (xs : List ℕ) (i : ℕ) → i < length xs → list_any (eqb n) (take (i + 1) xs) ≡ true
    → (list_any (eqb n) (take i xs) ≡ true → P) → (n ≡ get_or xs i 0 → P) → P
any_more n xs i h e before here = ⊎_elim before here (any_last n (take i xs) (get_or xs i 0) (sym (ap (list_any (eqb n)) (take_more xs i 0 h)) ∙ e))

-- the token of a group of one
pub lone_at : (items : List Listed) (n : ℕ) (group : Group) → slice_get (map lone items) n ≡ Some group
    → (one : Listed) × (lone one ≡ group) × (slice_get (map text_of items) n ≡ Some (text_of one))
lone_at [] n group e = absurd (cc)
lone_at (one ∷ items) zero group e = (one, cc, refl)
lone_at (one ∷ items) (suc n) group e = lone_at items n group e

pub get_here : {A : Type 0} (items : List A) (n : ℕ) (x : A) → n < length items → x ≡ get_or items n x → slice_get items n ≡ Some x
get_here [] n x h e = absurd (omega arith)
get_here (y ∷ items) zero x h e = ap (λ z. Some z) (sym e)
get_here (y ∷ items) (suc n) x h e = get_here items n x (omega arith) e
