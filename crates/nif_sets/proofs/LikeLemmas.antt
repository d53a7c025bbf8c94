-- Sets that have the same types together.
use Rattle.std.proofs.Common.{◌≡◌, ◌↔◌, ℕ, List, [], ◌∷◌, ◌++◌, flat_map, Contains, Result, Ok, Err, IfOk, OnOk, inl, inr, subst, sym, ◌∙◌}
use Rattle.std.specs.List.{All}
use Rattle.std.proofs.lemmas.Grind.{flat_map-append}
use Rattle.std.proofs.lemmas.List.{append-nil}
use Rattle.std.proofs.lemmas.List.Elements.{All-append, All-nil, Contains-append_left, Contains-append_right, Contains-append_cases}
use Rattle.nif_sets.specs.Sets.{Sets, IsSet, types_of}
use Rattle.nif_sets.specs.Likes.{IsLike}
use Rattle.nif_sets.specs.declared.sets.TypeSet.{TypeSet}
use Rattle.nif_sets.proofs.SetLemmas.{flat-same, All-among}

pub iff-then : {P Q R : Type 0} → (P ↔ Q) → (Q ↔ R) → P ↔ R
iff-then a b = ((λ h. b.0 (a.0 h)), (λ h. a.1 (b.1 h)))

pub iff-same : (xs ys : List ℕ) → xs ≡ ys → (k : ℕ) → Contains xs k ↔ Contains ys k
iff-same xs ys e k = ((λ h. subst (λ l. Contains l k) e h), (λ h. subst (λ l. Contains l k) (sym e) h))

-- two lists with the same elements as two others
pub iff-append : {X : Type 0} (ks ls xs ys : List X) (z : X) → (Contains ks z ↔ Contains xs z) → (Contains ls z ↔ Contains ys z) → Contains (ks ++ ls) z ↔ Contains (xs ++ ys) z
iff-append ks ls xs ys z f g = (
  (λ h. elim (Contains-append_cases ks ls z h) [
    | inl a ↦ Contains-append_left xs ys z (f.0 a)
    | inr b ↦ Contains-append_right xs ys z (g.0 b)
  ]),
  (λ h. elim (Contains-append_cases xs ys z h) [
    | inl a ↦ Contains-append_left ks ls z (f.1 a)
    | inr b ↦ Contains-append_right ks ls z (g.1 b)
  ]),
)

pub if-ok : {X E : Type 0} {P Q : X → Type 0} (r : Result X E) → IfOk r P → ((x : X) → P x → Q x) → IfOk r Q
if-ok (Ok x) p f = f x p
if-ok (Err e) p f = tt

pub on-ok : {X E : Type 0} {P Q : Type 0} (r : Result X E) → OnOk r P → (P → Q) → OnOk r Q
on-ok (Ok x) p f = f p
on-ok (Err e) p f = tt

pub on-both : {X E : Type 0} {P Q R : Type 0} (r : Result X E) → OnOk r P → OnOk r Q → (P → Q → R) → OnOk r R
on-both (Ok x) p q f = f p q
on-both (Err e) p q f = tt

pub IsLike-none : (sets : Sets) (keys : List TypeSet) → keys ≡ [] → IsLike sets keys []
IsLike-none sets keys is = subst (λ l. IsLike sets l []) (sym is) (record {
  within = All-nil (IsSet sets);
  types = λ k. ((λ h. h), (λ h. h));
})

pub IsLike-same : (sets : Sets) (keys others : List TypeSet) → ((set : TypeSet) → Contains keys set ↔ Contains others set) → All (IsSet sets) others → IsLike sets keys others
IsLike-same sets keys others same all = record {
  within = All-among (IsSet sets) keys others (λ x. (same x).0) all;
  types = flat-same (types_of sets) keys others same;
}

-- with the types in one more set
pub IsLike-more : (sets : Sets) (old new own : List TypeSet) (set : TypeSet)
    → ((z : TypeSet) → Contains new z ↔ Contains (old ++ own) z)
    → All (IsSet sets) own → types_of sets set ≡ flat_map (types_of sets) own
    → (others : List TypeSet) → IsLike sets old others → IsLike sets new (others ++ set ∷ [])
IsLike-more sets old new own set same all types others like = record {
  within = All-among (IsSet sets) new (old ++ own) (λ x. (same x).0) (All-append (IsSet sets) old own like.within all);
  types = λ k.
      let f = types_of sets in
      let left : Contains (flat_map f new) k ↔ Contains (flat_map f old ++ flat_map f own) k =
      iff-then (flat-same f new (old ++ own) same k) (iff-same (flat_map f (old ++ own)) (flat_map f old ++ flat_map f own) (flat_map-append f old own) k) in
      let one : flat_map f (set ∷ []) ≡ flat_map f own = append-nil (f set) ∙ types in
      let middle = iff-append (flat_map f old) (flat_map f own) (flat_map f others) (flat_map f (set ∷ [])) k (like.types k) (iff-same (flat_map f own) (flat_map f (set ∷ [])) (sym one) k) in
      iff-then left (iff-then middle (iff-same (flat_map f others ++ flat_map f (set ∷ [])) (flat_map f (others ++ set ∷ [])) (sym (flat_map-append f others (set ∷ []))) k));
}
